-- One lemma for each call: at a good point of a run the call answers as the map says, and leaves a good point.
use mathlib.Core.Path.{◌≡◌, refl, sym, ap, ◌∙◌}
use mathlib.Core.Bool.{Bool, true, false, false≢true}
use mathlib.Core.List.{List, [], ◌∷◌}
use mathlib.Core.Option.{Option, none, some}
use mathlib.Core.Logic.{⊎_elim}
use Prim.Native.Nat.{ℕ}
use native.Mathlib.Nat.{le_refl, not-suc-le-zero}
use native.Mathlib.Omega.{arith}
use borrow.Author.Tests.{eqb-true, eqb-false, not-true}
use lib.Dec.{eqb}
use lib.ListN.{length}
use Rattle.stores.specs.Store.{store, apply}
use Rattle.stores.specs.Plan.{Plan, reply_only}
use Rattle.stores.proofs.Tests.{by_test, by_equal, or_cases}
use Rattle.stores.proofs.Stores.{exec_all, exec_not_made}
use Rattle.replies.specs.declared.Refusal.{Refusal}
use Rattle.replies.specs.declared.Refusal.TheVariants.{NoKey}
use Rattle.index_rules.specs.Layout.{segment_address, segment_of, entry_at, key_address}
use Rattle.index_rules.specs.Keys.{index}
use Rattle.index_rules.specs.Slots.{hit}
use Rattle.replies.specs.Replies.{Said, done, listed, absent, refused, refuse, unless, tested, replied, changed, is_done, is_refusal, says_damage}
use Rattle.index_rules.specs.Format.{format_tests, format}
use Rattle.index_rules.specs.Get.{key_segment, key_tests, entry_tests, get_tests, get}
use Rattle.index_rules.specs.Put.{put_tests, put}
use Rattle.index_rules.specs.Remove.{remove_tests, cleared_at, remove}
use Rattle.index_rules.specs.Merge.{merge_tests, merge}
use Rattle.index_rules.specs.Mend.{mending, mend}
use Rattle.index_rules.specs.Listing.{listing_tests, list}
use Rattle.index_rules.specs.ListBlock.{list_block}
use Rattle.index_rules.specs.Given.{has}
use Rattle.replies.proofs.Sayable.{Sayable, not_given}
use Rattle.index_laws.proofs.Listing.{late, list_late, list_block_late}
use Rattle.index_laws.proofs.Words.{header_valid}
use Rattle.index_laws.proofs.Keys.{index_lt}
use Rattle.replies.proofs.Outcomes.{Complete, CutShort, changed_cases, refused_not_done, refused_inj, tested_none, tested_some, replied_none}
use Rattle.index_laws.proofs.Put.{put_refused}
use Rattle.runs.specs.Map.{Map, formats, gets, puts, removes, mends, keeps, fed, updated, map_says}
use Rattle.runs.specs.Run.{Point, is_recovery, may_follow, claimed}
use Rattle.index_history.proofs.Holds.{holds_found}
use Rattle.index_history.proofs.Invariant.{Inv, Recovered, live_own, block_changed, block_recovered, shape_valid}
use Rattle.index_history.proofs.Recover.{inv_key_segment, inv_get_tests, inv_directory_tests, inv_remove_tests, inv_mend_tests}
use Rattle.index_history.proofs.Kept.{Whole, whole_kept}
use Rattle.index_history.proofs.Changes.{key_removed, updated_other}
use Rattle.index_history.proofs.Mend.{mending_kept, mended_recovered}
use Rattle.index_history.proofs.Plans.{PlanKept, refusal_kept, Good, CallKept, nothing_changed, plan_carried_out}
use Rattle.index_history.proofs.Merge.{merge_plan}
use Rattle.index_history.proofs.Put.{own_segment, own_live, own_hit, put_kept}

-- ---- Key 0

-- Word 0 is valid at every good point, so a call with key 0 says 2.
zero_key_tests : {m : Map} {g d S : ℕ} {f : ℕ → ℕ} {a : List ℕ} → Inv m g d S f a → (later : Option Refusal) → key_tests a 0 later ≡ some NoKey
unfolding key_tests unless
zero_key_tests inv later = rw (header_valid (shape_valid inv.shape))

-- ---- Get

get_of_zero : {m : Map} {g d S : ℕ} {f : ℕ → ℕ} {a : List ℕ} → Inv m g d S f a → get a 0 ≡ refused 2
unfolding get entry_tests get_tests replied
get_of_zero inv = rw (zero_key_tests inv)

found_is_map : {m : Map} {g d S : ℕ} {f : ℕ → ℕ} {a : List ℕ} → Inv m g d S f a → (key : ℕ) → (key ≡ 0 → ⊥) → get a key ≡ map_says (m key)
unfolding get
found_is_map {m} {g} {d} {S} {f} {a} inv key nonzero =
    rw (inv_get_tests inv key nonzero, replied_none, inv_key_segment inv key)
    (holds_found (m key) a (segment_address d (segment_of (entry_at a g (index key g)))) key
    ((inv.lookups_agree (index key g) (index_lt key g)).found key (live_own g key nonzero)))

-- What the map says is no refusal.
map_says_no_refusal : (v : Option ℕ) (n : ℕ) → is_refusal n (map_says v) ≡ false
map_says_no_refusal none n = refl
map_says_no_refusal (some v) n = refl

map_says_no_damage : (v : Option ℕ) → says_damage (map_says v) ≡ false
map_says_no_damage none = refl
map_says_no_damage (some v) = refl

-- A get of a key but 0 says what the map says, whether or not recovery is needed.
pub get_is_map : (p : Point) → Good p → (key : ℕ) → claimed key ≡ true → get p.array key ≡ map_says (p.map key)
unfolding claimed
get_is_map p good key c = found_is_map good.kept.inv key (eqb-false key 0 (not-true (eqb key 0) c))

pub get_kept : (p : Point) → Good p → (key : ℕ) → CallKept p (gets key) (get p.array key) p.array
unfolding fed is_recovery claimed
get_kept p good key =
    by_test (eqb key 0)
    (λ z.
    let e : key ≡ 0 = eqb-true key 0 z in
    let says : get p.array key ≡ refused 2 = rw e (get_of_zero good.kept.inv) in
    nothing_changed p (gets key) (get p.array key) good refl (rw says) refl
    (λ c. absurd (false≢true (rw z at c))) (rw says))
    (λ z.
    let says : get p.array key ≡ map_says (p.map key) = found_is_map good.kept.inv key (eqb-false key 0 z) in
    nothing_changed p (gets key) (get p.array key) good refl (rw says (map_says_no_refusal (p.map key) 7)) refl
    (λ c. says) (rw says (map_says_no_damage (p.map key))))

-- ---- The listings

-- Where recovery is not needed, the tests in front of a listing pass.
listing_passes : {m : Map} {g d S : ℕ} {f : ℕ → ℕ} {a : List ℕ} → Inv m g d S f a → Recovered g f a → listing_tests a none ≡ none
unfolding listing_tests unless
listing_passes inv same = rw (header_valid (shape_valid inv.shape), inv_directory_tests inv none same)

-- A listing that gives 10 and 16 alone says neither 7 nor damage, and leaves the array as it is.
listing_kept : (p : Point) → Good p → (said : Said) → Sayable late said → CallKept p keeps said p.array
unfolding fed is_recovery has
listing_kept p good said s =
    nothing_changed p keeps said good refl (not_given late 7 s refl) refl Prim.tt
    (rw (not_given late 1 s refl, not_given late 3 s refl, not_given late 4 s refl))

pub list_kept : (p : Point) → Good p → p.needs_recovery ≡ false → (room : ℕ) → CallKept p keeps (list p.array room).reply p.array
list_kept p good calm room =
    let w = good.whole calm in
    listing_kept p good (list p.array room).reply (list_late p.array (listing_passes w.inv w.recovered) room)

pub list_block_kept : (p : Point) → Good p → p.needs_recovery ≡ false → (i room : ℕ)
    → CallKept p keeps (list_block p.array i room).reply p.array
list_block_kept p good calm i room =
    let w = good.whole calm in
    listing_kept p good (list_block p.array i room).reply (list_block_late p.array (listing_passes w.inv w.recovered) i room)

-- ---- Put and remove

-- The map has nothing for key 0 after a call with another key.
zero_after : (m : Map) → m 0 ≡ none → (key : ℕ) (v : Option ℕ) → (key ≡ 0 → ⊥) → updated m key v 0 ≡ none
zero_after m z key v nonzero = updated_other m key v 0 (λ e. nonzero (sym e)) ∙ z

pub put_called : (p : Point) → Good p → p.needs_recovery ≡ false → (key value allowance : ℕ)
    → CallKept p (puts key value) (changed allowance (put p.array key value) p.array).reply
    (changed allowance (put p.array key value) p.array).after
unfolding fed put_tests
put_called p good calm key value allowance =
    let w = good.whole calm in
    by_equal key 0
    (λ e.
    rw (e, put_refused p.array 0 value NoKey (zero_key_tests w.inv _))
    (plan_carried_out p (puts 0 value) allowance (reply_only (refuse NoKey)) (refusal_kept (puts 0 value) NoKey refl refl refl w)
    (λ said. Prim.tt) good.zero_none good.zero_none refl))
    (λ nonzero.
    plan_carried_out p (puts key value) allowance (put p.array key value)
    (put_kept key value nonzero p.array w.inv w.recovered)
    (λ said. Prim.tt) good.zero_none (zero nonzero (is_done (put p.array key value).reply)) refl)
  where
    zero : (key ≡ 0 → ⊥) → (b : Bool) → fed (puts key value) b p.map 0 ≡ none
    zero nonzero true = zero_after p.map good.zero_none key (some value) nonzero
    zero nonzero false = good.zero_none

-- A remove of a key but 0: the key word at the hit cleared, or nothing.
remove_plan : {m : Map} {g d S : ℕ} {f : ℕ → ℕ} {a : List ℕ} → Inv m g d S f a → Recovered g f a → (key : ℕ) → (key ≡ 0 → ⊥)
    → PlanKept (removes key) m d S (remove a key) a
unfolding remove cleared_at fed apply
remove_plan {m} {g} {d} {S} {f} {a} inv same key nonzero =
    rw (inv_remove_tests inv key nonzero same, tested_none) (go (hit a (key_segment a key) key) refl)
  where
    whole : Whole m d S a
    whole = record { g = g; f = f; inv = inv; recovered = same }

    go : (r : Option ℕ) → hit a (key_segment a key) key ≡ r → PlanKept (removes key) m d S (cleared_at (key_segment a key) r) a
    go none e = record { prefixes = λ k h. absurd (not-suc-le-zero h); whole = whole; not_cut = refl; no_damage = refl }
    go (some j) e =
        let removed = key_removed inv (index key g) (index_lt key g) key j (own_live key 0 inv same nonzero) (own_hit key 0 inv same (some j) e) in
        record {
          prefixes = λ k h.
              rw (exec_not_made (store (key_address (key_segment a key) j) 0 ∷ []) k a (omega arith)) (whole_kept whole);
          whole =
              rw (own_segment key 0 inv same)
              (record {
                g = g;
                f = f;
                inv = block_changed (index key g) (index_lt key g) _ inv same removed;
                recovered = block_recovered (index key g) (index_lt key g) _ inv same removed;
              });
          not_cut = refl;
          no_damage = refl;
        }

pub remove_called : (p : Point) → Good p → p.needs_recovery ≡ false → (key allowance : ℕ)
    → CallKept p (removes key) (changed allowance (remove p.array key) p.array).reply
    (changed allowance (remove p.array key) p.array).after
unfolding fed remove remove_tests
remove_called p good calm key allowance =
    let w = good.whole calm in
    by_equal key 0
    (λ z.
    rw (z, zero_key_tests w.inv, tested_some)
    (plan_carried_out p (removes 0) allowance (reply_only (refuse NoKey)) (refusal_kept (removes 0) NoKey refl refl refl w)
    (λ said. Prim.tt) good.zero_none good.zero_none refl))
    (λ nonzero.
    plan_carried_out p (removes key) allowance (remove p.array key) (remove_plan w.inv w.recovered key nonzero)
    (λ said. Prim.tt) good.zero_none (zero nonzero (is_done (remove p.array key).reply)) refl)
  where
    zero : (key ≡ 0 → ⊥) → (b : Bool) → fed (removes key) b p.map 0 ≡ none
    zero nonzero true = zero_after p.map good.zero_none key none nonzero
    zero nonzero false = good.zero_none

-- ---- Merge

pub merge_called : (p : Point) → Good p → p.needs_recovery ≡ false → (key allowance : ℕ)
    → CallKept p keeps (changed allowance (merge p.array key) p.array).reply (changed allowance (merge p.array key) p.array).after
unfolding fed merge merge_tests
merge_called p good calm key allowance =
    let w = good.whole calm in
    by_equal key 0
    (λ z.
    rw (z, zero_key_tests w.inv, tested_some)
    (plan_carried_out p keeps allowance (reply_only (refuse NoKey)) (refusal_kept keeps NoKey refl refl refl w)
    (λ said. Prim.tt) good.zero_none good.zero_none refl))
    (λ z.
    plan_carried_out p keeps allowance (merge p.array key) (merge_plan w.inv w.recovered key z)
    (λ said. Prim.tt) good.zero_none good.zero_none refl)

-- ---- Mend

mend_plan : {m : Map} {g d S : ℕ} {f : ℕ → ℕ} {a : List ℕ} → Inv m g d S f a → PlanKept mends m d S (mend a) a
unfolding mend fed
mend_plan {m} {g} {d} {S} {f} {a} inv =
    rw (inv_mend_tests inv, tested_none)
    (record {
      prefixes = λ k h. record { g = g; f = f; inv = mending_kept inv k };
      whole = record { g = g; f = f; inv = rw (exec_all (mending a) (length (mending a)) a (le_refl _)) at (mending_kept inv (length (mending a))); recovered = mended_recovered inv };
      not_cut = refl;
      no_damage = refl;
    })

pub mend_called : (p : Point) → Good p → (allowance : ℕ)
    → CallKept p mends (changed allowance (mend p.array) p.array).reply (changed allowance (mend p.array) p.array).after
unfolding fed
mend_called p good allowance =
    plan_carried_out p mends allowance (mend p.array) (mend_plan good.kept.inv) (λ said. Prim.tt) good.zero_none good.zero_none refl

-- ---- A format that answers 8 or 9

-- A plan behind tests that says done without them: where it is refused, and not cut off, nothing is stored.
refused_unchanged : (allowance : ℕ) (t : Option Refusal) (p : Plan Said) (a : List ℕ) (n : ℕ) → p.reply ≡ done []
    → (changed allowance (tested t p) a).reply ≡ refused n
    → (n ≡ 7 → ⊥)
    → (changed allowance (tested t p) a).after ≡ a
unfolding tested apply
refused_unchanged allowance (some r) p a n says_done says not_seven =
    ⊎_elim
    (λ (c : Complete (reply_only (refuse r)) a (changed allowance (reply_only (refuse r)) a)). c.after)
    (λ (c : CutShort allowance (reply_only (refuse r)) a (changed allowance (reply_only (refuse r)) a)).
    absurd (not-suc-le-zero c.fewer))
    (changed_cases allowance (reply_only (refuse r)) a)
refused_unchanged allowance none p a n says_done says not_seven =
    ⊎_elim
    (λ (c : Complete p a (changed allowance p a)). absurd (refused_not_done n [] (sym says ∙ c.reply ∙ says_done)))
    (λ (c : CutShort allowance p a (changed allowance p a)). absurd (not_seven (refused_inj (sym says ∙ c.reply))))
    (changed_cases allowance p a)

refusal_is : (number : ℕ) (said : Said) → is_refusal number said ≡ true → said ≡ refused number
refusal_is number (done v) e = absurd (false≢true e)
refusal_is number (listed n f) e = absurd (false≢true e)
refusal_is number absent e = absurd (false≢true e)
refusal_is number (refused n) e = ap refused (eqb-true n number e)

pub format_called : (p : Point) → Good p → (D S allowance : ℕ)
    → may_follow p.needs_recovery formats (changed allowance (format p.array D S) p.array).reply ≡ true
    → CallKept p formats (changed allowance (format p.array D S) p.array).reply
    (changed allowance (format p.array D S) p.array).after
unfolding may_follow fed is_recovery format
format_called p good D S allowance may =
    ⊎_elim
    (λ (e : is_refusal 8 said ≡ true). refused_so 8 (refusal_is 8 said e) (λ q. omega arith) refl refl)
    (λ (e : is_refusal 9 said ≡ true). refused_so 9 (refusal_is 9 said e) (λ q. omega arith) refl refl)
    (or_cases (is_refusal 8 said) (is_refusal 9 said) may)
  where
    said : Said
    said = (changed allowance (format p.array D S) p.array).reply

    refused_so : (n : ℕ) → said ≡ refused n → (n ≡ 7 → ⊥) → is_refusal 7 (refused n) ≡ false → says_damage (refused n) ≡ false
        → CallKept p formats said (changed allowance (format p.array D S) p.array).after
    refused_so n e not_seven no_cut no_damage =
        rw (refused_unchanged allowance (format_tests p.array D S) _ p.array n refl e not_seven)
        (nothing_changed p formats said good refl (rw e no_cut) refl Prim.tt (rw e no_damage))
