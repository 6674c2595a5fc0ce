-- What a get can say; and a lookup, which is a get of a key but 0.
use Prim.Native.Nat.{ℕ, ◌<◌}
use mathlib.Core.Path.{◌≡◌, refl, sym, ◌∙◌}
use mathlib.Core.Bool.{Bool, true, false, true≢false, not}
use mathlib.Core.List.{List, [], ◌∷◌}
use mathlib.Core.Option.{Option, none, some}
use mathlib.Core.Logic.{◌⊎◌, inl, inr}
use native.Mathlib.Omega.{arith}
use borrow.Author.Tests.{ne_eqb}
use lib.Dec.{eqb}
use Rattle.stores.specs.Store.{word}
use Rattle.replies.specs.declared.Refusal.TheVariants.{NoStore, NoKey, Broken}
use Rattle.replies.specs.Replies.{Said, done, absent, refused, unless, replied}
use Rattle.replies.proofs.Outcomes.{refused_not_done, refused_inj}
use Rattle.index_rules.specs.Layout.{valid_header, depth, segments}
use Rattle.index_rules.specs.Scan.{in_range}
use Rattle.index_rules.specs.Slots.{hit}
use Rattle.index_rules.specs.Get.{key_entry, key_segment, key_tests, entry_tests, get_tests, value_at_hit, get, GetSays, finds, misses, no_store, no_key, broken}

-- ---- The replies of a get

module _ (a : List ℕ) (key : ℕ) where
  hit_says : (h : Option ℕ) → GetSays a (value_at_hit a (key_segment a key) h)
  unfolding value_at_hit
  hit_says none = misses refl
  hit_says (some j) = finds _ refl

  -- By the three tests of a get.
  says_by : (valid nonzero range : Bool) (s : Said) → GetSays a s
      → GetSays a (replied (unless valid NoStore (unless nonzero NoKey (unless range Broken none))) s)
  unfolding unless replied
  says_by false n r s k = no_store refl
  says_by true false r s k = no_key refl
  says_by true true false s k = broken refl
  says_by true true true s k = k

  pub get_says : GetSays a (get a key)
  unfolding get get_tests key_tests entry_tests
  get_says =
      says_by (valid_header a) (not (eqb key 0)) (in_range (depth a) (segments a) (key_entry a key)) _
      (hit_says (hit a (key_segment a key) key))

  -- A value that a get finds is a word of the array.
  pub found_below : (limit : ℕ) → ((i : ℕ) → word a i < limit) → (v : ℕ) → get a key ≡ done (v ∷ []) → v < limit
  found_below limit small v e = go get_says
    where
      go : GetSays a (get a key) → v < limit
      go (finds i f) = rw (same_value (word a i) v (sym f ∙ e)) at (small i)
        where
          same_value : (x y : ℕ) → done (x ∷ []) ≡ done (y ∷ []) → x ≡ y
          same_value x y p = cc
      go (misses f) = absurd (absent_not_done (sym f ∙ e))
        where
          absent_not_done : absent ≡ done (v ∷ []) → ⊥
          absent_not_done p = let z : ◌≡◌ {A = ℕ} 0 1 = cc in omega arith
      go (no_store f) = absurd (refused_not_done 1 (v ∷ []) (sym f ∙ e))
      go (no_key f) = absurd (refused_not_done 2 (v ∷ []) (sym f ∙ e))
      go (broken f) = absurd (refused_not_done 3 (v ∷ []) (sym f ∙ e))

-- ---- Refused lookups

-- A lookup is refused only with 1, where word 0 is not valid, or with 3, where it is.
refused_by : (a : List ℕ) (range : Bool) (s : Said) (n : ℕ) → ((m : ℕ) → s ≡ refused m → ⊥) → (valid : Bool)
    → replied (unless valid NoStore (unless true NoKey (unless range Broken none))) s ≡ refused n
    → ((valid ≡ false) × (n ≡ 1)) ⊎ ((valid ≡ true) × (n ≡ 3))
unfolding unless replied
refused_by a range s n other false e = inl (refl, sym (refused_inj e))
refused_by a false s n other true e = inr (refl, sym (refused_inj e))
refused_by a true s n other true e = absurd (other n e)

hit_not_refused : (a : List ℕ) (base : ℕ) (h : Option ℕ) (m : ℕ) → value_at_hit a base h ≡ refused m → ⊥
unfolding value_at_hit
hit_not_refused a base none m e = let z : ◌≡◌ {A = ℕ} 0 1 = cc in omega arith
hit_not_refused a base (some j) m e = refused_not_done m _ (sym e)

pub lookup_refused : (a : List ℕ) (key n : ℕ) → (key ≡ 0 → ⊥) → get a key ≡ refused n
    → ((valid_header a ≡ false) × (n ≡ 1)) ⊎ ((valid_header a ≡ true) × (n ≡ 3))
unfolding get get_tests key_tests entry_tests
lookup_refused a key n nonzero e =
    refused_by a (in_range (depth a) (segments a) (key_entry a key)) _ n (hit_not_refused a (key_segment a key) (hit a (key_segment a key) key)) (valid_header a)
    (rw (ne_eqb key 0 nonzero) at e)

-- Two refused lookups in one array have the same number.
pub lookups_refused_same : (a : List ℕ) (key other m n : ℕ) → (key ≡ 0 → ⊥) → (other ≡ 0 → ⊥)
    → get a key ≡ refused m → get a other ≡ refused n → m ≡ n
lookups_refused_same a key other m n k o e f = go (lookup_refused a key m k e) (lookup_refused a other n o f)
  where
    go : ((valid_header a ≡ false) × (m ≡ 1)) ⊎ ((valid_header a ≡ true) × (m ≡ 3)) → ((valid_header a ≡ false) × (n ≡ 1)) ⊎ ((valid_header a ≡ true) × (n ≡ 3))
        → m ≡ n
    go (inl p) (inl q) = p.1 ∙ sym q.1
    go (inl p) (inr q) = absurd (true≢false (sym q.0 ∙ p.0))
    go (inr p) (inl q) = absurd (true≢false (sym p.0 ∙ q.0))
    go (inr p) (inr q) = p.1 ∙ sym q.1
