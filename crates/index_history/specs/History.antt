-- Demand 3, the history rule, for the index: the map's answers through every run, however cut and refused (crash consistency of the map).
use Rattle.std.specs.Prelude.{ℕ, ◌≡◌, true, false, List, []}
use Rattle.index_rules.specs.declared.Call.{Call}
use Rattle.index_rules.specs.declared.Call.TheVariants.{Format, Get, Put, Remove, Merge, Mend, List as ListCall, ListBlock}
use Rattle.replies.specs.declared.Answer.{Answer}
use Rattle.replies.specs.Replies.{Said, done, said_by}
use Rattle.index_rules.specs.Step.{step, outcome_of, Performed}
use Rattle.runs.specs.Map.{View, formats, gets, puts, removes, mends, keeps}
use Rattle.runs.specs.Run.{Machine, Point, start, valid_run, Reached, AgreesWithMap, RunsAgree}
use Rattle.runs.specs.BeforeMending.{LookupsBeforeMending}

-- What the map is told of a call.
abbrev pub view_of : Call → View
view_of (Format D S allowance) = formats
view_of (Get key) = gets key
view_of (Put key value allowance) = puts key value
view_of (Remove key allowance) = removes key
view_of (Merge key allowance) = keeps
view_of (Mend allowance) = mends
view_of ListCall = keeps
view_of (ListBlock i) = keeps

-- ---- Over the definitions

-- A call with the list array that is lent with it; only the listings look at it.
pub record Request : Type 0 where
  pub call : Call
  pub list : List ℕ

-- The index, as document 01 defines its calls. Any call can be made on any array.
abbrev pub index : Machine
index =
    record {
      Call = Request;
      Made = λ a r. Unit {0};
      step = λ a r. (step a r.list r.call).outcome;
      view = λ r. view_of r.call;
      Says = λ a key said. said ≡ (outcome_of a (Get key)).reply;
      cut_needs_recovery = true;
    }

-- A format has just left the array a with reply done, whatever stood there before.
pub record Formatted (a : List ℕ) : Type 0 where
  pub before : List ℕ
  pub D : ℕ
  pub S : ℕ
  pub allowance : ℕ
  pub reply : (outcome_of before (Format D S allowance)).reply ≡ done []
  pub left : a ≡ (outcome_of before (Format D S allowance)).after

-- The history rule (document 01: also the plain-table rule): from every array that a format has just left with reply done,
-- every valid run agrees with the map.
abbrev pub HistoryRule : Type 0
HistoryRule =
    (a : List ℕ) → Formatted a → (calls : List Request) → valid_run index (start a) calls ≡ true → AgreesWithMap index (start a) calls

-- Document 02, wish 9: a lookup at any point of a run, so on an array that a cut put, remove, merge or mend has left, gives the same answer as
-- after mending to completion.
abbrev pub BeforeMending : Type 0
BeforeMending = LookupsBeforeMending index Formatted

-- The history rule covers a point: some valid run from a done format comes to it.
abbrev pub CoveredPoint : Point → Type 0
CoveredPoint p = Reached index Formatted p

-- The stores that the history rule covers: the arrays that such runs leave.
pub record Covered (a : List ℕ) : Type 0 where
  pub point : Point
  pub covered : CoveredPoint point
  pub array : a ≡ point.array

-- Those of them that need no recovery.
pub record CoveredMended (a : List ℕ) : Type 0 where
  pub point : Point
  pub covered : CoveredPoint point
  pub array : a ≡ point.array
  pub mended : point.needs_recovery ≡ false

-- ---- Over performed calls

-- A call that was performed: the list array lent, the answer, and what both arrays held afterwards.
pub record Link : Type 0 where
  pub call : Call
  pub list : List ℕ
  pub answer : Answer
  pub after : List ℕ
  pub list_after : List ℕ

-- A get of the key, performed on the array a with some list array, has said `said`.
pub record GetPerformed (a : List ℕ) (key : ℕ) (said : Said) : Type 0 where
  pub list : List ℕ
  pub answer : Answer
  pub after : List ℕ
  pub list_after : List ℕ
  pub performed : Performed (Get key) a list answer after list_after
  pub said_so : said ≡ said_by answer.reply

-- The index, as performed calls have answered and left it.
abbrev pub performed : Machine
performed =
    record {
      Call = Link;
      Made = λ a l. Performed l.call a l.list l.answer l.after l.list_after;
      step = λ a l. record { reply = said_by l.answer.reply; made = l.answer.stores; after = l.after };
      view = λ l. view_of l.call;
      Says = GetPerformed;
      cut_needs_recovery = true;
    }

-- A format was performed, with any list array, has answered done, and has left the array a.
pub record FormatPerformed (a : List ℕ) : Type 0 where
  pub D : ℕ
  pub S : ℕ
  pub allowance : ℕ
  pub before : List ℕ
  pub list : List ℕ
  pub answer : Answer
  pub list_after : List ℕ
  pub performed : Performed (Format D S allowance) before list answer a list_after
  pub says_done : said_by answer.reply ≡ done []

-- The history rule over what code does: behind a performed format that answers done, every chain of performed calls that
-- is a valid run agrees with the map.
abbrev pub PerformedHistoryRule : Type 0
PerformedHistoryRule = RunsAgree performed FormatPerformed

-- Wish 9 over what code does: performed gets, before performed mends and after them.
abbrev pub PerformedBeforeMending : Type 0
PerformedBeforeMending = LookupsBeforeMending performed FormatPerformed
