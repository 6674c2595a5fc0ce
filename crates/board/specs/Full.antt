-- The bureau's letter, demand 2, over the month board: a set is refused for want of space only where the window is full and the segment
-- can't be split.
use Rattle.std.specs.Prelude.{ℕ, List}
use Rattle.index_laws.specs.Full.{ForWantOfSpace}
use Rattle.board.specs.Jobs.{job_key, set_job}

-- Of every set, on every array and with every allowance: 5 and 6 are said only where that holds of the job's key in the array left.
abbrev pub SetForWantOfSpace : Type 0
SetForWantOfSpace =
    (a : List ℕ) (year month number pages allowance : ℕ)
    → ForWantOfSpace (job_key year month number) (set_job a year month number pages allowance).reply
    (set_job a year month number pages allowance).after
