-- Replies that the code's types have: done, done with one value, done with the records of one block and what follows, absent, or a refusal
-- that the call can give.
use Prim.Native.Nat.{ℕ}
use mathlib.Core.Path.{◌≡◌, refl, sym, ap, ◌∙◌}
use mathlib.Core.Bool.{Bool, true, false, true≢false}
use mathlib.Core.List.{List, [], ◌∷◌}
use mathlib.Core.Option.{Option, none, some}
use borrow.Author.Tests.{ne_eqb}
use lib.Dec.{leb}
use lib.ListN.{length}
use native.Mathlib.Omega.{arith}
use Rattle.std.specs.Prelude.{Result, Ok, Err, Some, None}
use Rattle.stores.specs.Lists.{pick}
use Rattle.stores.specs.Plan.{Plan, cut}
use Rattle.replies.specs.declared.Refusal.{Refusal}
use Rattle.replies.specs.declared.Refusal.TheVariants.{CutOff}
use Rattle.replies.specs.declared.Reply.{Reply}
use Rattle.replies.specs.declared.Reply.TheVariants.{Done, Value, Listed, Absent}
use Rattle.replies.specs.Replies.{Said, listed, refused, number_of, refuse, said_by, is_refusal, unless, tested, replied, changed}
use Rattle.replies.specs.Writing.{Writing, behind_tests}
use Rattle.replies.proofs.Outcomes.{refused_not_done, refused_inj}

module _ (gives : ℕ → Bool) where
  -- A reply that refuses does so with a number that is given.
  abbrev pub Given : Result Reply Refusal → Type 0
  Given (Ok Done) = Unit {0}
  Given (Ok (Value v)) = Unit {0}
  Given (Ok (Listed n f)) = Unit {0}
  Given (Ok Absent) = Unit {0}
  Given (Err r) = gives (number_of r) ≡ true

  -- Tests that refuse do so with such a number.
  abbrev pub GivenBy : Option Refusal → Type 0
  GivenBy none = Unit {0}
  GivenBy (some r) = gives (number_of r) ≡ true

  pub given_by : (t : Option Refusal) (r : Refusal) → GivenBy t → t ≡ some r → gives (number_of r) ≡ true
  given_by t r g e = rw e at g

  -- Some reply of the code says this, and where it refuses, with such a number.
  pub record Sayable (said : Said) : Type 0 where
    pub reply : Result Reply Refusal
    pub says : said_by reply ≡ said
    pub given : Given reply

  pub by : (r : Result Reply Refusal) → Given r → Sayable (said_by r)
  by r g = record { reply = r; says = refl; given = g }

  pub listed_sayable : (count : ℕ) (next : Option ℕ) → Sayable (listed count next)
  listed_sayable count (some i) = by (Ok (Listed count (Some i))) tt
  listed_sayable count none = by (Ok (Listed count None)) tt

  -- ---- Tests, and the cut

  pub unless_given : (t : Bool) (r : Refusal) (later : Option Refusal) → gives (number_of r) ≡ true → GivenBy later → GivenBy (unless t r later)
  unfolding unless
  unless_given true r later g k = k
  unless_given false r later g k = g

  pub tested_sayable : (t : Option Refusal) (p : Plan Said) → GivenBy t → Sayable p.reply → Sayable (tested t p).reply
  unfolding tested
  tested_sayable none p g s = s
  tested_sayable (some r) p g s = by (Err r) g

  pub replied_sayable : (t : Option Refusal) (s : Said) → GivenBy t → Sayable s → Sayable (replied t s)
  unfolding replied
  replied_sayable none s g k = k
  replied_sayable (some r) s g k = by (Err r) g

  pub writing_sayable : (t : Option Refusal) (w : Writing) → GivenBy t → Sayable w.reply → Sayable (behind_tests t w).reply
  unfolding behind_tests
  writing_sayable none w g s = s
  writing_sayable (some r) w g s = by (Err r) g

  pick_sayable : (t : Bool) (s : Said) → gives 7 ≡ true → Sayable s → Sayable (pick t s (refuse CutOff))
  pick_sayable true s g k = k
  pick_sayable false s g k = by (Err CutOff) g

  pub changed_sayable : (n : ℕ) (p : Plan Said) (a : List ℕ) → gives 7 ≡ true → Sayable p.reply → Sayable (changed n p a).reply
  unfolding changed cut
  changed_sayable n p a g s = pick_sayable (leb (length p.due) n) p.reply g s

  -- What is said is no refusal that is not given.
  pub not_given : {s : Said} (n : ℕ) → Sayable s → gives n ≡ false → is_refusal n s ≡ false
  not_given n k e = rw (← k.says) (go k.reply k.given)
    where
      go : (r : Result Reply Refusal) → Given r → is_refusal n (said_by r) ≡ false
      go (Ok Done) g = refl
      go (Ok (Value v)) g = refl
      go (Ok (Listed m f)) g = refl
      go (Ok Absent) g = refl
      go (Err r) g = ne_eqb (number_of r) n (λ q. true≢false (sym g ∙ ap gives q ∙ e))

  -- A refusal that is said so is given.
  pub refused_given : {s : Said} (n : ℕ) → Sayable s → s ≡ refused n → gives n ≡ true
  refused_given n k e = go k.reply k.given (k.says ∙ e)
    where
      go : (r : Result Reply Refusal) → Given r → said_by r ≡ refused n → gives n ≡ true
      go (Ok Done) g e = absurd (refused_not_done n [] (sym e))
      go (Ok (Value v)) g e = absurd (refused_not_done n (v ∷ []) (sym e))
      go (Ok (Listed m f)) g e = absurd (let z : ◌≡◌ {A = ℕ} 0 1 = cc in omega arith)
      go (Ok Absent) g e = absurd (let z : ◌≡◌ {A = ℕ} 0 1 = cc in omega arith)
      go (Err r) g e = rw (refused_inj e) at g
