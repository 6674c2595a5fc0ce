-- After a split no two blocks share a segment.
use mathlib.Core.Path.{◌≡◌, sym, ap, ◌∙◌}
use mathlib.Core.Logic.{inl, inr}
use Prim.Native.Nat.{ℕ, ◌^◌, ◌<◌}
use native.Mathlib.Omega.{arith}
use borrow.Author.Tests.{eqb-true, eqb-false}
use lib.Dec.{eqb}
use Rattle.stores.specs.Lists.{pick}
use Rattle.stores.proofs.Tests.{by_test}
use Rattle.index_rules.specs.Layout.{segment_of, local_depth}
use Rattle.index_laws.proofs.Blocks.{SameBlock, halved_directory, Outside, Place, place, halved_blocks}
use Rattle.index_history.proofs.Invariant.{Directory}

module _ {g S : ℕ} {f : ℕ → ℕ} (dir : Directory g S f) (fits : S < 2 ^ 32) (i : ℕ) (below : i < 2 ^ g) (room : local_depth (f i) < g)
    (n : ℕ) (new : n < S) (unnamed : (j : ℕ) → j < 2 ^ g → segment_of (f j) ≡ n → ⊥) where
  pub at_place : (j : ℕ) → Place g f i n j
  at_place = place dir.entries fits i below room n new

  -- No segment outside the block is one of the two halves'.
  other_segment : (j b : ℕ) → j < 2 ^ g → Outside g f i n j → segment_of (f j) ≡ pick (eqb b 1) n (segment_of (f i)) → ⊥
  other_segment j b h q e = by_test (eqb b 1) (λ t. unnamed j h (rw t at e)) (λ t. q.other (dir.apart i j below h (rw t at e)))

  -- The two halves have different segments.
  half_inj : (b c : ℕ) → b < 2 → c < 2 → pick (eqb b 1) n (segment_of (f i)) ≡ pick (eqb c 1) n (segment_of (f i)) → b ≡ c
  half_inj b c p q e =
      by_test (eqb b 1)
      (λ t. by_test (eqb c 1) (λ u. eqb-true b 1 t ∙ sym (eqb-true c 1 u)) (λ u. absurd (unnamed i below (sym (rw (t, u) at e)))))
      (λ t. by_test (eqb c 1) (λ u. absurd (unnamed i below (rw (t, u) at e))) (λ u. omega (arith, eqb-false b 1 t, eqb-false c 1 u)))

  halved_apart : (k j : ℕ) → k < 2 ^ g → j < 2 ^ g → Place g f i n k → Place g f i n j
      → segment_of (halved_directory g f i n j) ≡ segment_of (halved_directory g f i n k) → SameBlock g (halved_directory g f i n) k j
  halved_apart k j hk hj (inl p) (inl q) e =
      let half : q.half ≡ p.half = half_inj q.half p.half q.small p.small (sym q.segment_now ∙ e ∙ p.segment_now) in
      rw p.depth_now (omega (arith, p.half_bits, q.half_bits))
  halved_apart k j hk hj (inl p) (inr q) e =
      absurd (other_segment j p.half hj q (ap segment_of (sym q.kept) ∙ e ∙ p.segment_now))
  halved_apart k j hk hj (inr p) (inl q) e =
      absurd (other_segment k q.half hk p (ap segment_of (sym p.kept) ∙ sym e ∙ q.segment_now))
  halved_apart k j hk hj (inr p) (inr q) e = rw p.kept (dir.apart k j hk hj (rw (p.kept, q.kept) at e))

  pub halved_directory_holds : Directory g S (halved_directory g f i n)
  halved_directory_holds =
      record {
        entries = halved_blocks dir.entries fits i below room n new;
        apart = λ k j hk hj. halved_apart k j hk hj (at_place k) (at_place j);
      }
