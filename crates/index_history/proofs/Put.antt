-- A put of a key but 0 keeps the map under every allowance, and whole it leaves what the map is told of it.
use mathlib.Core.Path.{◌≡◌, refl, sym, ap, ◌∙◌}
use mathlib.Core.List.{List, [], ◌∷◌}
use mathlib.Core.Option.{Option, some}
use Prim.Native.Nat.{ℕ, zero, suc, ◌≤◌, ◌<◌}
use native.Mathlib.Nat.{not-suc-le-zero, le_of_suc-le-suc}
use native.Mathlib.Omega.{arith}
use lib.ListN.{length, set}
use Rattle.stores.specs.Store.{store, apply, exec}
use Rattle.stores.specs.Plan.{Plan}
use Rattle.stores.proofs.Lists.{some_none}
use Rattle.stores.proofs.Stores.{exec_not_made, word_set_same}
use Rattle.replies.specs.declared.Refusal.TheVariants.{TooDeep, NoSegment}
use Rattle.index_rules.specs.Layout.{words_for, segment_of, local_depth, segment_address, key_address, value_address}
use Rattle.index_rules.specs.Keys.{index}
use Rattle.index_rules.specs.Slots.{hit}
use Rattle.replies.specs.Replies.{Said}
use Rattle.index_rules.specs.Get.{key_entry, key_segment}
use Rattle.index_rules.specs.Split.{splitting}
use Rattle.index_rules.specs.Put.{put}
use Rattle.index_laws.proofs.Words.{value_inside}
use Rattle.index_laws.proofs.Keys.{index_lt, window_lt}
use Rattle.index_laws.proofs.Slots.{IntoSlot, key_after_value, hit_after_value}
use Rattle.index_laws.proofs.Put.{choice_found, choice_into, key_hit, KeyInto, renewed, inserted, Cases, put_induction}
use Rattle.runs.specs.Map.{Map, puts, fed, updated}
use Rattle.index_history.proofs.Invariant.{Inv, Recovered, LiveAt, base_at, live_above, live_own, block_changed, block_recovered, BlockChanged, shape_depth}
use Rattle.index_history.proofs.Recover.{inv_put_tests, inv_key_entry, inv_key_segment}
use Rattle.index_history.proofs.Kept.{Kept, Whole, whole_kept}
use Rattle.index_history.proofs.Plans.{PlanKept, refusal_kept, plan_after}
use Rattle.index_history.proofs.Changes.{new_value, value_unseen, new_key}
use Rattle.index_history.proofs.Split.{split_keeps}
use Rattle.index_laws.proofs.Halving.{key_bits}
use Rattle.index_laws.proofs.Blocks.{bits_at}

module _ (key value : ℕ) where
  -- ---- The key's own block

  module _ {m : Map} {g d S : ℕ} {f : ℕ → ℕ} {a : List ℕ} (inv : Inv m g d S f a) (same : Recovered g f a) where
    abbrev here : ℕ
    here = index key g

    pub own_entry : key_entry a key ≡ f here
    own_entry = inv_key_entry inv key ∙ same here (index_lt key g)

    pub own_segment : key_segment a key ≡ base_at d f here
    own_segment = inv_key_segment inv key ∙ ap (λ (e : ℕ). segment_address d (segment_of e)) (same here (index_lt key g))

    pub own_bits : key_bits a key ≡ bits_at g f here
    own_bits = rw (shape_depth inv.shape, own_entry)

    pub own_live : (key ≡ 0 → ⊥) → LiveAt g f here key
    own_live nonzero =
        live_above g (local_depth (f here)) here key (inv.directory.entries.depths here (index_lt key g)) (live_own g key nonzero)

    pub own_hit : (r : Option ℕ) → key_hit a key ≡ r → hit a (base_at d f here) key ≡ r
    own_hit r e = rw own_segment at e

    -- The slot for a new record of the key, by the directory f.
    abbrev OwnInto : (j : ℕ) → Type 0
    OwnInto j = IntoSlot a (base_at d f here) (local_depth (f here)) (bits_at g f here) key j

    own_into : (j : ℕ) → KeyInto a key j → OwnInto j
    own_into j s = rw (own_segment, own_bits, own_entry) at s

    -- ---- The choices of a slot

    -- A change of the key's block.
    changed : {m' : Map} (b : List ℕ) → BlockChanged m m' g d S f here a b → Whole m' d S b
    changed b ch =
        record {
          g = g;
          f = f;
          inv = block_changed here (index_lt key g) b inv same ch;
          recovered = block_recovered here (index_lt key g) b inv same ch;
        }

    unchanged : Whole m d S a
    unchanged = record { g = g; f = f; inv = inv; recovered = same }

    put_found : (key ≡ 0 → ⊥) → (j : ℕ) → key_hit a key ≡ some j → PlanKept (puts key value) m d S (renewed a key value j) a
    unfolding fed apply
    put_found nonzero j e =
        record {
          prefixes = λ k h.
              rw (exec_not_made (store (value_address (key_segment a key) j) value ∷ []) k a (omega arith)) (whole_kept unchanged);
          whole = rw own_segment (changed _ (new_value inv here (index_lt key g) key j value (own_live nonzero) (own_hit (some j) e)));
          not_cut = refl;
          no_damage = refl;
        }

    -- A slot that is not live takes the value, which is not seen, and then the key.
    module _ (nonzero : key ≡ 0 → ⊥) (j : ℕ) (slot : OwnInto j) where
      abbrev base : ℕ
      base = base_at d f here

      abbrev valued : List ℕ
      valued = set a (value_address base j) value

      with_value_holds : BlockChanged m m g d S f here a valued
      with_value_holds = value_unseen inv here (index_lt key g) j value (window_lt key j slot.in_window) slot.not_live

      in_array : value_address base j < length a
      in_array =
          let inside : value_address base j < words_for d S =
          (value_inside d S (segment_of (f here)) j (inv.directory.entries.below here (index_lt key g)) (window_lt key j slot.in_window)).below
          in
          let fits : words_for d S ≤ length a = inv.shape.room in
          omega arith

      with_key_holds : BlockChanged m (updated m key (some value)) g d S f here valued (set valued (key_address base j) key)
      with_key_holds =
          new_key (block_changed here (index_lt key g) valued inv same with_value_holds) here (index_lt key g) key j value (own_live nonzero) slot.in_window
          (hit_after_value a base j value key ∙ slot.missing)
          (rw (key_after_value a base j value j) slot.not_live)
          (word_set_same a (value_address base j) value in_array)

      inserted_whole : Whole (updated m key (some value)) d S (set valued (key_address base j) key)
      inserted_whole =
          let inv₁ = block_changed here (index_lt key g) valued inv same with_value_holds in
          let same₁ = block_recovered here (index_lt key g) valued inv same with_value_holds in
          record {
            g = g;
            f = f;
            inv = block_changed here (index_lt key g) _ inv₁ same₁ with_key_holds;
            recovered = block_recovered here (index_lt key g) _ inv₁ same₁ with_key_holds;
          }

      inserted_prefixes : (k : ℕ) → k < 2 → Kept m d S (exec (store (value_address base j) value ∷ store (key_address base j) key ∷ []) k a)
      unfolding exec apply
      inserted_prefixes zero h = whole_kept unchanged
      inserted_prefixes (suc zero) h = whole_kept (changed valued with_value_holds)
      inserted_prefixes (suc (suc k)) h = absurd (not-suc-le-zero (le_of_suc-le-suc (le_of_suc-le-suc h)))

    put_into : (key ≡ 0 → ⊥) → (j : ℕ) → KeyInto a key j → PlanKept (puts key value) m d S (inserted a key value j) a
    unfolding fed apply
    put_into nonzero j s =
        rw own_segment
        (record {
          prefixes = inserted_prefixes nonzero j (own_into j s);
          whole = inserted_whole nonzero j (own_into j s);
          not_cut = refl;
          no_damage = refl;
        })

  -- ---- The put

  -- What is shown of a put's plan, by induction over its splits.
  abbrev Claim : List ℕ → Plan Said → Type 0
  Claim a p = (m : Map) (g d S : ℕ) (f : ℕ → ℕ) → Inv m g d S f a → Recovered g f a → PlanKept (puts key value) m d S p a

  claims : (key ≡ 0 → ⊥) → Cases key value Claim
  unfolding fed
  claims nonzero =
      record {
        when_refused = λ a r e m g d S f inv same. absurd (some_none r (sym e ∙ inv_put_tests inv key nonzero same));
        when_found = λ a j ok c m g d S f inv same. put_found inv same nonzero j (choice_found a key j c);
        when_into = λ a j ok c m g d S f inv same. put_into inv same nonzero j (choice_into a key j c);
        when_deep = λ a ok c deep m g d S f inv same. refusal_kept (puts key value) TooDeep refl refl refl (unchanged inv same);
        when_none = λ a ok c low free m g d S f inv same. refusal_kept (puts key value) NoSegment refl refl refl (unchanged inv same);
        when_split = λ a n ok c free s again m g d S f inv same.
            let k = split_keeps inv same key n s.local_room free in
            let w = k.whole in
            plan_after (puts key value) a (splitting a key n) _ k.always
            (again m w.g d S w.f w.inv w.recovered);
      }

  pub put_kept : (key ≡ 0 → ⊥) → {m : Map} {g d S : ℕ} {f : ℕ → ℕ} (a : List ℕ) → Inv m g d S f a → Recovered g f a
      → PlanKept (puts key value) m d S (put a key value) a
  put_kept nonzero {m} {g} {d} {S} {f} a inv same = put_induction key value Claim (claims nonzero) a m g d S f inv same
