-- The claims about a run and about mends as tests that compute, for the keys of a list. `lookup` is what a get of a key says.
use Rattle.std.specs.Prelude.{ℕ, Bool, true, not, ◌&&◌, ◌||◌, List, [], ◌∷◌}
use Rattle.replies.specs.Replies.{Said, said_same}
use Rattle.runs.specs.Map.{Map, View, formats, gets, puts, removes, mends, looks, keeps, map_says}
use Rattle.runs.specs.Run.{Machine, Point, claimed, next, finish}
use Rattle.runs.specs.BeforeMending.{mends_to_completion}

-- Of a claimed key both say the same.
abbrev pub same_of : (key : ℕ) → Said → Said → Bool
same_of key s t = not (claimed key) || said_same s t

-- A call that is a get of a claimed key says what the map says.
unfoldable pub get_agrees : View → Said → Map → Bool
get_agrees formats said m = true
get_agrees (gets key) said m = same_of key said (map_says (m key))
get_agrees (puts key value) said m = true
get_agrees (removes key) said m = true
get_agrees mends said m = true
get_agrees looks said m = true
get_agrees keeps said m = true

-- Each call of the run does.
unfoldable pub calls_agree : (M : Machine) → Point → List M.Call → Bool
calls_agree M p [] = true
calls_agree M p (c ∷ cs) = get_agrees (M.view c) (M.step p.array c).reply p.map && calls_agree M (next M p c) cs

-- At a point, gets of the keys do.
unfoldable pub gets_agree : (lookup : List ℕ → ℕ → Said) → Point → (keys : List ℕ) → Bool
gets_agree lookup p [] = true
gets_agree lookup p (key ∷ keys) = get_agrees (gets key) (lookup p.array key) p.map && gets_agree lookup p keys

-- The run from the point p agrees with the map; at its end the keys of the list are asked for.
unfoldable pub agrees : (M : Machine) → (lookup : List ℕ → ℕ → Said) → (keys : List ℕ) → Point → List M.Call → Bool
agrees M lookup keys p calls =
    calls_agree M p calls && gets_agree lookup (finish M p calls) keys

-- Lookups of the keys say the same on both arrays.
unfoldable pub same_answers : (lookup : List ℕ → ℕ → Said) → (a b : List ℕ) → (keys : List ℕ) → Bool
same_answers lookup a b [] = true
same_answers lookup a b (key ∷ keys) = same_of key (lookup a key) (lookup b key) && same_answers lookup a b keys

-- The calls mend the store of the point p to completion, and lookups say the same before and after.
unfoldable pub mends_unseen : (M : Machine) → (lookup : List ℕ → ℕ → Said) → (keys : List ℕ) → Point → List M.Call → Bool
mends_unseen M lookup keys p calls =
    mends_to_completion M p calls && same_answers lookup p.array (finish M p calls).array keys
