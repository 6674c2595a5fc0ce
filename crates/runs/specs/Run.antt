-- Document 01, 'The history rule': a run of calls, and the claim about it, over any store of words.
use Rattle.std.specs.Prelude.{ℕ, ◌≡◌, Bool, true, false, not, ◌&&◌, ◌||◌, List, [], ◌∷◌, eqb}
use Rattle.stores.specs.Plan.{Outcome}
use Rattle.replies.specs.Replies.{Said, is_done, is_refusal}
use Rattle.runs.specs.Map.{Map, View, formats, gets, puts, removes, mends, looks, keeps, empty, fed, map_says}

-- A store of words with its calls.
pub record Machine : Type 1 where
  pub Call : Type 0
  -- The call was made on this array. (A call that carries what it answered and left was made where these are right.)
  pub Made : List ℕ → Call → Type 0
  -- What the call says, and the array it leaves.
  pub step : List ℕ → Call → Outcome Said
  -- What the map is told of it.
  pub view : Call → View
  -- A get of the key says this.
  pub Says : List ℕ → (key : ℕ) → Said → Type 0
  -- After a call that is cut off, the store needs recovery.
  pub cut_needs_recovery : Bool

-- A point of a run: the array, the map, and whether the store needs recovery (document 01: waits for a mend).
pub record Point : Type 0 where
  pub array : List ℕ
  pub map : Map
  pub needs_recovery : Bool

-- The point at which a run begins.
abbrev pub start : List ℕ → Point
start a = record { array = a; map = empty; needs_recovery = false }

-- ---- Which call may come next, and which lookups are claimed

-- A call with this view and reply may come next. A format only with reply 8 or 9; lookups at any time (document 02, wish 9); and where the store
-- needs recovery, besides these only mends.
unfoldable pub may_follow : (needs_recovery : Bool) → View → Said → Bool
may_follow waits formats said = is_refusal 8 said || is_refusal 9 said
may_follow waits (gets key) said = true
may_follow waits (puts key value) said = not waits
may_follow waits (removes key) said = not waits
may_follow waits mends said = true
may_follow waits looks said = true
may_follow waits keeps said = not waits

-- A mend.
abbrev pub is_mend : View → Bool
is_mend formats = false
is_mend (gets key) = false
is_mend (puts key value) = false
is_mend (removes key) = false
is_mend mends = true
is_mend looks = false
is_mend keeps = false

-- A done mend.
unfoldable pub is_recovery : View → Said → Bool
is_recovery view said = is_mend view && is_done said

-- The store needs recovery after a call: from a reply 7 on, until a mend is done. `cuts` says whether a cut begins the need.
unfoldable pub recovery_after : (cuts needs_recovery : Bool) → View → Said → Bool
recovery_after cuts waits view said = cuts && is_refusal 7 said || (waits && not (is_recovery view said))

-- Lookups of a key are claimed: of every key but 0.
unfoldable pub claimed : (key : ℕ) → Bool
claimed key = not (eqb key 0)

-- ---- The run

-- The point after a call that says `said` and leaves `after`.
abbrev pub advance : (cuts : Bool) → Point → View → Said → (after : List ℕ) → Point
advance cuts p view said after =
    record { array = after; map = fed view (is_done said) p.map; needs_recovery = recovery_after cuts p.needs_recovery view said }

-- The point after a call.
unfoldable pub next : (M : Machine) → Point → M.Call → Point
next M p c = advance M.cut_needs_recovery p (M.view c) (M.step p.array c).reply (M.step p.array c).after

-- The point after a list of calls.
unfoldable pub finish : (M : Machine) → Point → List M.Call → Point
finish M p [] = p
finish M p (c ∷ cs) = finish M (next M p c) cs

-- The calls were made, each on the array that the one before left.
unfoldable pub Linked : (M : Machine) → Point → List M.Call → Type 0
Linked M p [] = Unit {0}
Linked M p (c ∷ cs) = M.Made p.array c × Linked M (next M p c) cs

-- The call may come next at this point.
abbrev pub may_call : (M : Machine) → Point → M.Call → Bool
may_call M p c = may_follow p.needs_recovery (M.view c) (M.step p.array c).reply

-- The calls are a valid run from this point on: each may come next where it stands.
unfoldable pub valid_run : (M : Machine) → Point → List M.Call → Bool
valid_run M p [] = true
valid_run M p (c ∷ cs) = may_call M p c && valid_run M (next M p c) cs

-- A point that some valid run comes to, from an array on which a run may start.
pub record Reached (M : Machine) (Start : List ℕ → Type 0) (p : Point) : Type 0 where
  pub first : List ℕ
  pub started : Start first
  pub calls : List M.Call
  pub linked : Linked M (start first) calls
  pub valid : valid_run M (start first) calls ≡ true
  pub comes : p ≡ finish M (start first) calls

-- ---- The claim

-- Something holds of each call of a run, at the point where it is made.
unfoldable pub EachCall : (M : Machine) → (Point → M.Call → Type 0) → Point → List M.Call → Type 0
EachCall M P p [] = Unit {0}
EachCall M P p (c ∷ cs) = P p c × EachCall M P (next M p c) cs

-- A call that is a get of a claimed key says what the map says.
abbrev pub GetAgrees : View → Said → Map → Type 0
GetAgrees formats said m = Unit {0}
GetAgrees (gets key) said m = claimed key ≡ true → said ≡ map_says (m key)
GetAgrees (puts key value) said m = Unit {0}
GetAgrees (removes key) said m = Unit {0}
GetAgrees mends said m = Unit {0}
GetAgrees looks said m = Unit {0}
GetAgrees keeps said m = Unit {0}

-- The same of a call of the store, by the map as the calls before it left it.
abbrev pub CallAgrees : (M : Machine) → Point → M.Call → Type 0
CallAgrees M p c = GetAgrees (M.view c) (M.step p.array c).reply p.map

-- A get of every claimed key says what the map says, whether or not the store needs recovery.
abbrev pub LookupsAgree : (M : Machine) → Point → Type 0
LookupsAgree M p =
    (key : ℕ) → claimed key ≡ true → (said : Said) → M.Says p.array key said → said ≡ map_says (p.map key)

-- The claim about a whole run: each get of a claimed key within it, and the lookups at its end, agree with the map.
abbrev pub AgreesWithMap : (M : Machine) → Point → List M.Call → Type 0
AgreesWithMap M p calls = EachCall M (CallAgrees M) p calls × LookupsAgree M (finish M p calls)

-- The history rule for a store: every valid run from an array on which a run may start agrees with the map.
abbrev pub RunsAgree : (M : Machine) → (Start : List ℕ → Type 0) → Type 0
RunsAgree M Start =
    (a : List ℕ) → Start a → (calls : List M.Call) → Linked M (start a) calls → valid_run M (start a) calls ≡ true
    → AgreesWithMap M (start a) calls
