-- A writing behind tests: whether they have passed, and what it writes.
use Prim.Native.Nat.{ℕ, ◌≤◌}
use native.Mathlib.Omega.{arith}
use mathlib.Core.Path.{◌≡◌, refl, sym, ◌∙◌}
use mathlib.Core.Bool.{true, false, true≢false}
use mathlib.Core.List.{List, []}
use mathlib.Core.Option.{Option, none, some}
use lib.ListN.{length}
use Rattle.replies.specs.declared.Refusal.{Refusal}
use Rattle.replies.specs.Replies.{done, is_done}
use Rattle.replies.specs.Writing.{Writing, behind_tests}
use Rattle.replies.proofs.Outcomes.{refused_not_done}

-- A writing that says done has passed its tests.
pub writing_passed : (t : Option Refusal) (w : Writing) (v : List ℕ) → (behind_tests t w).reply ≡ done v → t ≡ none
unfolding behind_tests
writing_passed none w v e = refl
writing_passed (some r) w v e = absurd (refused_not_done _ v e)

-- One that would be done and is not writes nothing.
pub writing_nothing : (t : Option Refusal) (w : Writing) → is_done w.reply ≡ true → is_done (behind_tests t w).reply ≡ false
    → (behind_tests t w).words ≡ []
unfolding behind_tests
writing_nothing none w d e = absurd (true≢false (sym d ∙ e))
writing_nothing (some r) w d e = refl

-- One whose words fit where its tests pass writes words that fit.
pub writing_fits : (t : Option Refusal) (w : Writing) (room : ℕ) → (t ≡ none → length w.words ≤ room) → length (behind_tests t w).words ≤ room
unfolding behind_tests
writing_fits none w room h = h refl
writing_fits (some r) w room h = omega arith
