-- Document 01, 'Replies that say no': what the code's answers mean in its numbers, tests in its order, and calls cut off.
use Rattle.std.specs.Prelude.{ℕ, Bool, true, false, ◌&&◌, ◌||◌, List, [], ◌∷◌, eqb, Result, Ok, Err}
use Rattle.std.proofs.Math.Option.{Option, none, some}
use Rattle.stores.specs.Options.{option_of}
use Rattle.stores.specs.Lists.{numbers_same}
use Rattle.stores.specs.Store.{Store}
use Rattle.stores.specs.Plan.{Plan, Outcome, reply_only, cut}
use Rattle.replies.specs.declared.Refusal.{Refusal}
use Rattle.replies.specs.declared.Refusal.TheVariants.{NoStore, NoKey, Broken, Unmended, TooDeep, NoSegment, CutOff, BadShape, TooShort, ShortList, BadYear, BadMonth, BadNumber, NoBuddy, BothLive, NoLeader}
use Rattle.replies.specs.declared.Reply.{Reply}
use Rattle.replies.specs.declared.Reply.TheVariants.{Done, Value, Listed, Absent}

-- The number of a refusal: 1 to 10 in document 01's table, from 11 on in document 02.
abbrev pub number_of : Refusal → ℕ
number_of NoStore = 1
number_of NoKey = 2
number_of Broken = 3
number_of Unmended = 4
number_of TooDeep = 5
number_of NoSegment = 6
number_of CutOff = 7
number_of BadShape = 8
number_of TooShort = 9
number_of ShortList = 10
number_of BadYear = 11
number_of BadMonth = 12
number_of BadNumber = 13
number_of NoBuddy = 14
number_of BothLive = 15
number_of NoLeader = 16

-- What a call says: done, with the values that go with it; done, with the number of records listed and the index of the block that follows,
-- if one does; absent; or the number of a refusal.
pub data Said : Type 0 where
  done : List ℕ → Said
  listed : (count : ℕ) → (next : Option ℕ) → Said
  absent : Said
  refused : ℕ → Said

-- What the code's reply or refusal says.
abbrev pub said_by : Result Reply Refusal → Said
said_by (Ok Done) = done []
said_by (Ok (Value v)) = done (v ∷ [])
said_by (Ok (Listed n next)) = listed n (option_of next)
said_by (Ok Absent) = absent
said_by (Err r) = refused (number_of r)

-- A reply is done.
abbrev pub is_done : Said → Bool
is_done (done values) = true
is_done (listed n f) = true
is_done absent = false
is_done (refused n) = false

-- The reply is the refusal with this number.
abbrev pub is_refusal : (number : ℕ) → Said → Bool
is_refusal number (done values) = false
is_refusal number (listed n f) = false
is_refusal number absent = false
is_refusal number (refused n) = eqb n number

-- The reply is 1, 3 or 4: the array has no index, or a damaged one.
abbrev pub says_damage : Said → Bool
says_damage said = is_refusal 1 said || (is_refusal 3 said || is_refusal 4 said)

-- The same follows.
unfoldable pub following_same : Option ℕ → Option ℕ → Bool
following_same (some i) (some j) = eqb i j
following_same (some i) none = false
following_same none (some j) = false
following_same none none = true

-- Two replies are the same.
unfoldable pub said_same : Said → Said → Bool
unfolding numbers_same following_same
said_same (done xs) (done ys) = numbers_same xs ys
said_same (done xs) (listed n g) = false
said_same (done xs) absent = false
said_same (done xs) (refused n) = false
said_same (listed m f) (done ys) = false
said_same (listed m f) (listed n g) = eqb m n && following_same f g
said_same (listed m f) absent = false
said_same (listed m f) (refused n) = false
said_same absent (done ys) = false
said_same absent (listed n g) = false
said_same absent absent = true
said_same absent (refused n) = false
said_same (refused m) (done ys) = false
said_same (refused m) (listed n g) = false
said_same (refused m) absent = false
said_same (refused m) (refused n) = eqb m n

-- A refusal, said by its number.
abbrev pub refuse : Refusal → Said
refuse r = refused (number_of r)

-- A test, and the tests after it: the first that fails gives its refusal, and none is given where all pass.
unfoldable pub unless : Bool → Refusal → Option Refusal → Option Refusal
unless true r later = later
unless false r later = some r

-- The plan of these stores, and then done.
abbrev pub done_after : List Store → Plan Said
done_after ss = record { due = ss; reply = done [] }

-- A plan behind tests: a refusal by the tests makes no store.
unfoldable pub tested : Option Refusal → Plan Said → Plan Said
tested none p = p
tested (some r) p = reply_only (refuse r)

-- A reply behind tests, of a call that makes no store.
unfoldable pub replied : Option Refusal → Said → Said
replied none s = s
replied (some r) s = refuse r

-- A call that changes the array a, under an allowance: 7, cut off, where more stores are due than allowed.
unfoldable pub changed : (allowance : ℕ) → Plan Said → List ℕ → Outcome Said
changed allowance p a = cut (refuse CutOff) allowance p a
