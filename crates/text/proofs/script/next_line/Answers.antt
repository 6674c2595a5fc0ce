-- `text::script::next_line` meets its contract.
use Rattle.std.proofs.Common.{◌+◌, ◌-◌, length, take, drop, eqb, arith, rules, tests}
use mathlib.Core.Bool.{not}
use Rattle.std.proofs.lemmas.Iterator.{YieldsList-from_slice}
use Rattle.std.proofs.lemmas.Iterator.Search.{position_from_yields_List}
use Rattle.text.specs.Parts.{line_feed}
use Rattle.text.proofs.FirstPart.{first_at}
use Rattle.text.proofs.NextLine.{FoundFrom, feeds, none_behind, only_feeds, last_line, ended_line}
use Rattle.text.proofs.script.next_line.Goals as goal

pub returns-then-all-from : goal.returns-then-all-from
returns-then-all-from c = none_behind _ _ c.if-all-from.true

pub returns-in_default : goal.returns-in_default
returns-in_default c =
    let s = c.args.script.now in
    let found : FoundFrom feeds s c.args.from c.position.result =
    position_from_yields_List (λ x. not (eqb x line_feed)) _ _ c.position.result c.position.ensures.ran (YieldsList-from_slice (take (length s - c.args.from) (drop c.args.from s)) cc) (λ x b q k. search (rules, tests)) in
    only_feeds _ _ (omega arith) (rw c.in_default.is at found)

pub returns-in_default-position : goal.returns-in_default-position
returns-in_default-position c =
    let s = c.args.script.now in
    let found : FoundFrom feeds s c.args.from c.position.result =
    position_from_yields_List (λ x. not (eqb x line_feed)) _ _ c.position.result c.position.ensures.ran (YieldsList-from_slice (take (length s - c.args.from) (drop c.args.from s)) cc) (λ x b q k. search (rules, tests)) in
    let start = c.args.from + c.in-Some.skipped in
    let ended : FoundFrom (first_at line_feed) s start c.position-2.result =
    position_from_yields_List (λ x. eqb x line_feed) _ _ c.position-2.result c.position-2.ensures.ran (YieldsList-from_slice (take (length s - start) (drop start s)) cc) (λ x b q k. search (rules, tests)) in
    last_line _ _ (omega arith) _ (rw c.in-Some.is at found) (rw c.in_default-position.is at ended)

pub returns : goal.returns
returns c =
    let s = c.args.script.now in
    let found : FoundFrom feeds s c.args.from c.position.result =
    position_from_yields_List (λ x. not (eqb x line_feed)) _ _ c.position.result c.position.ensures.ran (YieldsList-from_slice (take (length s - c.args.from) (drop c.args.from s)) cc) (λ x b q k. search (rules, tests)) in
    let start = c.args.from + c.in-Some.skipped in
    let ended : FoundFrom (first_at line_feed) s start c.position-2.result =
    position_from_yields_List (λ x. eqb x line_feed) _ _ c.position-2.result c.position-2.ensures.ran (YieldsList-from_slice (take (length s - start) (drop start s)) cc) (λ x b q k. search (rules, tests)) in
    ended_line _ _ (omega arith) _ (rw c.in-Some.is at found) _ (rw c.in-Some-position.is at ended)
