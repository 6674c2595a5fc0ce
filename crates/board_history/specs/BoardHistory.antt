-- The history rule for the month board: runs of its calls, between which the index's own calls format and mend its array.
use Rattle.std.specs.Prelude.{ℕ, ◌≡◌, true, List}
use Rattle.std.proofs.Math.Option.{Option, none, some}
use Rattle.stores.specs.Plan.{Outcome}
use Rattle.replies.specs.declared.Refusal.{Refusal}
use Rattle.index_rules.specs.declared.Call.TheVariants.{Get}
use Rattle.replies.specs.Replies.{Said}
use Rattle.index_rules.specs.Step.{step, outcome_of}
use Rattle.runs.specs.Map.{View, gets, puts, removes as takes, looks, map_says}
use Rattle.runs.specs.Run.{Machine, Point, start, finish, valid_run, Reached, AgreesWithMap}
use Rattle.runs.specs.BeforeMending.{mends_to_completion, LookupsBeforeMending}
use Rattle.index_history.specs.History.{view_of, Request, Formatted}
use Rattle.board.specs.Jobs.{job_key, job_tests, set_job, read_job, remove_job}
use Rattle.board.specs.Print.{print_year}

-- A call of a run: the board's, or one of the index's own. A print is made with a buffer of `room` bytes.
pub data BoardCall : Type 0 where
  sets : (year month number pages allowance : ℕ) → BoardCall
  reads : (year month number : ℕ) → BoardCall
  removes : (year month number allowance : ℕ) → BoardCall
  prints : (year room : ℕ) → BoardCall
  calls : Request → BoardCall

-- What a call says, and the array it leaves.
abbrev pub board_step : List ℕ → BoardCall → Outcome Said
board_step a (sets year month number pages allowance) = set_job a year month number pages allowance
board_step a (reads year month number) = read_job a year month number
board_step a (removes year month number allowance) = remove_job a year month number allowance
board_step a (prints year room) = record { reply = (print_year a year room).reply; made = 0; after = a }
board_step a (calls r) = (step a r.list r.call).outcome

-- What the map is told of a call behind tests: nothing where they refuse, and the call does not come to the array.
abbrev pub view_behind : Option Refusal → View → View
view_behind none view = view
view_behind (some r) view = looks

-- What the map is told of a call: a set is a put of the job's key, a read a get, a remove a remove. A print is made of lookups.
abbrev pub board_view : BoardCall → View
board_view (sets year month number pages allowance) = view_behind (job_tests year month number) (puts (job_key year month number) pages)
board_view (reads year month number) = view_behind (job_tests year month number) (gets (job_key year month number))
board_view (removes year month number allowance) = view_behind (job_tests year month number) (takes (job_key year month number))
board_view (prints year room) = looks
board_view (calls r) = view_of r.call

-- The board, by the definitions. Any call can be made on any array.
abbrev pub board : Machine
board =
    record {
      Call = BoardCall;
      Made = λ a c. Unit {0};
      step = board_step;
      view = board_view;
      Says = λ a key said. said ≡ (outcome_of a (Get key)).reply;
      cut_needs_recovery = true;
    }

-- The history rule: from every array that a format has just left with reply done, every valid run of the board's calls agrees
-- with the map.
abbrev pub BoardHistoryRule : Type 0
BoardHistoryRule =
    (a : List ℕ) → Formatted a → (run : List BoardCall) → valid_run board (start a) run ≡ true → AgreesWithMap board (start a) run

-- In the words of the board: after every such run, also one that waits for a mend, a read of a job says the pages that it was last
-- set to by a done set, or absent, whatever was cut or refused in between.
abbrev pub JobsReadBack : Type 0
JobsReadBack =
    (a : List ℕ) → Formatted a → (run : List BoardCall) → valid_run board (start a) run ≡ true
    → (year month number : ℕ) → job_tests year month number ≡ none
    → (read_job (finish board (start a) run).array year month number).reply
    ≡ map_says ((finish board (start a) run).map (job_key year month number))

-- ---- Before mending (document 02, wish 9)

-- A lookup at any point of a run gives the same answer as after mending to completion.
abbrev pub BoardBeforeMending : Type 0
BoardBeforeMending = LookupsBeforeMending board Formatted

-- So a print says the same, and writes the same lines.
abbrev pub PrintBeforeMending : Type 0
PrintBeforeMending =
    (p : Point) → Reached board Formatted p → (mends : List BoardCall) → mends_to_completion board p mends ≡ true
    → (year room : ℕ) → print_year p.array year room ≡ print_year (finish board p mends).array year room
