-- Refusals for want of space, on any array: a put that refuses with 5 or 6 leaves the key's probe window full of other live keys, in a
-- segment that can't be split. And a window is sixteen different slots.
use mathlib.Core.Path.{◌≡◌, sym}
use mathlib.Core.List.{List, []}
use mathlib.Core.Logic.{⊎_elim}
use Prim.Native.Nat.{ℕ}
use native.Mathlib.Omega.{arith}
use Rattle.stores.specs.Store.{apply}
use Rattle.stores.specs.Plan.{Plan}
use Rattle.stores.proofs.Stores.{apply_append}
use Rattle.replies.specs.Replies.{Said, done, refused, number_of, changed}
use Rattle.replies.proofs.Outcomes.{Complete, CutShort, changed_cases, refused_not_done, refused_inj}
use Rattle.index_rules.specs.Split.{splitting}
use Rattle.index_rules.specs.Put.{put}
use Rattle.index_rules.specs.Step.{effect, step}
use Rattle.index_laws.specs.Full.{WindowIsSixteen, TooDeepAt, NoSegmentAt, ForWantOfSpace, PutForWantOfSpace, PerformedForWantOfSpace}
use Rattle.index_laws.proofs.Keys.{window_lt, window_count, window_different}
use Rattle.index_laws.proofs.Put.{choice_full, free_none, tests_number, Cases, put_induction}

pub window_is_sixteen : WindowIsSixteen
window_is_sixteen key = record { count = window_count key; different = window_different key; in_segment = window_lt key }

-- ---- The plan

-- Where another refusal is said, nothing is claimed.
pub refused_otherwise : (key n : ℕ) (a : List ℕ) → (n ≡ 5 → ⊥) → (n ≡ 6 → ⊥) → ForWantOfSpace key (refused n) a
refused_otherwise key n a five six = record { too_deep = λ x. absurd (five (refused_inj x)); no_segment = λ x. absurd (six (refused_inj x)) }

done_otherwise : (key : ℕ) (a : List ℕ) → ForWantOfSpace key (done []) a
done_otherwise key a =
    record { too_deep = λ x. absurd (refused_not_done 5 [] (sym x)); no_segment = λ x. absurd (refused_not_done 6 [] (sym x)) }

-- What a plan says of the array that its stores leave.
abbrev Explained : (key : ℕ) → List ℕ → Plan Said → Type 0
Explained key a p = ForWantOfSpace key p.reply (apply p.due a)

explained : (key value : ℕ) → Cases key value (Explained key)
unfolding apply
explained key value =
    record {
      when_refused = λ a r e.
          let few = tests_number a key r e in
          refused_otherwise key (number_of r) a (λ x. omega arith) (λ x. omega arith);
      when_found = λ a j p c. done_otherwise key _;
      when_into = λ a j p c. done_otherwise key _;
      when_deep = λ a p c d.
          record {
            too_deep = λ x. record { window_full = choice_full a key c; deepest = d };
            no_segment = λ x. absurd (omega (arith, refused_inj {m = 5} {n = 6} x));
          };
      when_none = λ a p c d f.
          record {
            too_deep = λ x. absurd (omega (arith, refused_inj {m = 6} {n = 5} x));
            no_segment = λ x. record { window_full = choice_full a key c; local_room = d; all_named = free_none a f };
          };
      when_split = λ a n p c f s rest. rw (apply_append (splitting a key n) (put (apply (splitting a key n) a) key value).due a) rest;
    }

module _ (a : List ℕ) (key value : ℕ) where
  put_explained : ForWantOfSpace key (put a key value).reply (apply (put a key value).due a)
  put_explained = put_induction key value (Explained key) (explained key value) a

  -- A put refuses with 5 only where, behind its splits, the window is full and the largest depth is reached.
  pub too_deep_full : (put a key value).reply ≡ refused 5 → TooDeepAt (apply (put a key value).due a) key
  too_deep_full = put_explained.too_deep

  -- A put refuses with 6 only where, behind its splits, the window is full and every segment is named.
  pub no_segment_full : (put a key value).reply ≡ refused 6 → NoSegmentAt (apply (put a key value).due a) key
  no_segment_full = put_explained.no_segment

-- ---- The call

-- A put that is cut off says neither.
pub put_for_want_of_space : PutForWantOfSpace
unfolding effect step
put_for_want_of_space a l key value allowance =
    ⊎_elim
    (λ (c : Complete (put a key value) a (changed allowance (put a key value) a)). rw (c.reply, c.after) (put_explained a key value))
    (λ (c : CutShort allowance (put a key value) a (changed allowance (put a key value) a)).
    rw c.reply (refused_otherwise key 7 _ (λ x. omega arith) (λ x. omega arith)))
    (changed_cases allowance (put a key value) a)

pub performed_for_want_of_space : PerformedForWantOfSpace
performed_for_want_of_space key value allowance a l answer a' l' p =
    rw (p.answered.reply, p.answered.words) (put_for_want_of_space a l key value allowance)
