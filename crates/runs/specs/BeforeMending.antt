-- Document 02, wish 9: a lookup before mending gives the same answer as after mending to completion.
use Rattle.std.specs.Prelude.{ℕ, ◌≡◌, Bool, true, false, ◌&&◌, List, [], ◌∷◌}
use Rattle.replies.specs.Replies.{Said, is_done}
use Rattle.runs.specs.Run.{Machine, Point, is_mend, claimed, next, finish, Linked, Reached}

-- The calls are mends, cut off or not, and the last of them is done; where there is none, `wasDone` tells.
unfoldable pub mends_behind : (M : Machine) → (wasDone : Bool) → Point → List M.Call → Bool
mends_behind M wasDone p [] = wasDone
mends_behind M wasDone p (c ∷ cs) = is_mend (M.view c) && mends_behind M (is_done (M.step p.array c).reply) (next M p c) cs

-- Mending to completion: one mend or more, and the last of them is done.
abbrev pub mends_to_completion : (M : Machine) → Point → List M.Call → Bool
mends_to_completion M p calls = mends_behind M false p calls

-- At every point that a run comes to, a get of every claimed key says what it says after mending to completion.
abbrev pub LookupsBeforeMending : (M : Machine) → (Start : List ℕ → Type 0) → Type 0
LookupsBeforeMending M Start =
    (p : Point) → Reached M Start p → (mends : List M.Call) → Linked M p mends → mends_to_completion M p mends ≡ true
    → (key : ℕ) → claimed key ≡ true → (before after : Said) → M.Says p.array key before → M.Says (finish M p mends).array key after
    → before ≡ after
