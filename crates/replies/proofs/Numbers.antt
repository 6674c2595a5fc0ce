-- The numbers of the refusals.
use Prim.Native.Nat.{◌<◌}
use native.Mathlib.Omega.{arith}
use Rattle.replies.specs.declared.Refusal.{Refusal}
use Rattle.replies.specs.declared.Refusal.TheVariants.{NoStore, NoKey, Broken, Unmended, TooDeep, NoSegment, CutOff, BadShape, TooShort, ShortList, BadYear, BadMonth, BadNumber, NoBuddy, BothLive, NoLeader}
use Rattle.replies.specs.Replies.{number_of}

-- Each has at most two digits, and none is the code of absent in the calls for C.
pub number_below_100 : (r : Refusal) → number_of r < 100
number_below_100 NoStore = omega arith
number_below_100 NoKey = omega arith
number_below_100 Broken = omega arith
number_below_100 Unmended = omega arith
number_below_100 TooDeep = omega arith
number_below_100 NoSegment = omega arith
number_below_100 CutOff = omega arith
number_below_100 BadShape = omega arith
number_below_100 TooShort = omega arith
number_below_100 ShortList = omega arith
number_below_100 BadYear = omega arith
number_below_100 BadMonth = omega arith
number_below_100 BadNumber = omega arith
number_below_100 NoBuddy = omega arith
number_below_100 BothLive = omega arith
number_below_100 NoLeader = omega arith
