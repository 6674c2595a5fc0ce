-- The bureau's letter, demand 2, over the C functions: the codes 5 and 6 of a put, and of the board's set, are told only where the window is
-- full and the segment can't be split.
use Rattle.std.specs.Prelude.{ℕ, ◌≡◌, List}
use Rattle.index_rules.specs.declared.Call.TheVariants.{Put}
use Rattle.index_laws.specs.Full.{TooDeepAt, NoSegmentAt}
use Rattle.index_rules.specs.Step.{outcome_of}
use Rattle.board.specs.Jobs.{job_key, set_job}
use Rattle.page_index.specs.declared.PageIndexReply.{PageIndexReply}
use Rattle.page_index.specs.Told.{Told}

-- The code that is told of a put of the key, and the array that it leaves.
pub record CodeForWantOfSpace (key : ℕ) (r : PageIndexReply) (left : List ℕ) : Type 0 where
  pub too_deep : r.code ≡ 5 → TooDeepAt left key
  pub no_segment : r.code ≡ 6 → NoSegmentAt left key

-- What `page_index_put` promises says so.
abbrev pub ToldForWantOfSpace : Type 0
ToldForWantOfSpace =
    (a : List ℕ) (key value allowance : ℕ) (r : PageIndexReply) (a' : List ℕ) → Told (outcome_of a (Put key value allowance)) r a'
    → CodeForWantOfSpace key r a'

-- And what `month_board_set` promises, of the job's key.
abbrev pub ToldSetForWantOfSpace : Type 0
ToldSetForWantOfSpace =
    (a : List ℕ) (year month number pages allowance : ℕ) (r : PageIndexReply) (a' : List ℕ)
    → Told (set_job a year month number pages allowance) r a' → CodeForWantOfSpace (job_key year month number) r a'
