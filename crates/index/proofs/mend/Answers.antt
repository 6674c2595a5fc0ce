-- `index::mend` meets its contract.
use mathlib.Core.Path.{◌≡◌, ap, ◌∙◌}
use Rattle.std.specs.Prelude.{Result, Err}
use Rattle.replies.specs.declared.Refusal.{Refusal}
use Rattle.replies.specs.declared.Refusal.TheVariants.{Broken}
use native.Mathlib.Omega.{arith}
use Rattle.stores.proofs.Loops.{begun_due}
use Rattle.replies.specs.Replies.{refuse, said_by}
use Rattle.index_layout.proofs.Answers.{header_valid, header_not_valid, header_refused}
use Rattle.index_directory.proofs.Answers.{verdict_broken, verdict_valid}
use Rattle.index.proofs.Calls.{mend_no_store, mend_broken, mend_done}
use Rattle.index.proofs.mend.Goals as goal
use Rattle.index.proofs.mend.Goals.{in-Err-scan+in_default-refusal, in_default}

pub returns-in-Err : goal.returns-in-Err
returns-in-Err c =
    let e = c.read_header.ensures in
    let q = c.in-Err.is in
    mend_no_store _ _ _ (header_not_valid _ _ e _ q)
    (ap said_by c.without_store.ensures.0 ∙ ap refuse (header_refused _ _ e _ q), c.without_store.ensures.1)

pub scan-requires : goal.scan-requires
scan-requires c = header_valid _ _ c.read_header.ensures _ c.in-Ok.is

pub returns-in-Broken : goal.returns-in-Broken
returns-in-Broken c =
    let d = header_valid _ _ c.read_header.ensures _ c.in-Ok.is in
    mend_broken _ _ _ d.valid (verdict_broken _ (rw c.in-Broken.is at c.in-Err-scan.ensures))
    (ap said_by c.without_store-in-Broken.ensures.0 ∙ ap refuse c.in-Broken.is, c.without_store-in-Broken.ensures.1)

-- The scan has not answered 'broken'.
not_this : (x : Result Unit Refusal) (r : Refusal) → x ≡ Err r → (r ≡ Broken → ⊥) → x ≡ Err Broken → ⊥
not_this x r q n e = n (cc)

pub mend_entries-requires : goal.mend_entries-requires
mend_entries-requires c =
    let d = header_valid _ _ c.read_header.ensures _ c.in-Ok.is in
    let other : c.scan.result ≡ Err Broken → ⊥ =
    elim c.match-scan.branch [
      | in-Err-scan+in_default-refusal w ↦ not_this _ _ w.in-Err-scan.is w.in_default-refusal.not-Broken
      | in_default w ↦ w.in_default.not-Err _
    ] in
    ((d, verdict_valid c.args.words.now c.scan.result c.scan.ensures other), omega (arith, begun_due c.new-budget.ensures))

pub returns : goal.returns
returns c =
    let d = header_valid _ _ c.read_header.ensures _ c.in-Ok.is in
    let other : c.scan.result ≡ Err Broken → ⊥ =
    elim c.match-scan.branch [
      | in-Err-scan+in_default-refusal v ↦ not_this _ _ v.in-Err-scan.is v.in_default-refusal.not-Broken
      | in_default w ↦ w.in_default.not-Err _
    ] in
    mend_done _ _ _ d.valid (verdict_valid c.args.words.now c.scan.result c.scan.ensures other) _ _ (rw c.new-budget.ensures at c.mend_entries.ensures)
    c.after_stores.ensures
