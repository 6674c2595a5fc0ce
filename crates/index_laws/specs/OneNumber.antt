-- Document 02, wish 5: how much one number can change. Support compares what two calls leave of one array, that differ in one number
-- alone: the allowance, or the value of a put.
use Rattle.std.specs.Prelude.{ℕ, suc, ◌≡◌, false, List, [], ◌⊎◌, length}
use Rattle.std.proofs.Math.Option.{Option, none, some}
use Rattle.stores.specs.Store.{word}
use Rattle.stores.specs.Plan.{Outcome}
use Rattle.stores.specs.Difference.{SameBut, DifferAt, address_behind}
use Rattle.replies.specs.declared.Answer.{Answer}
use Rattle.replies.specs.Replies.{Said, done, refused, is_done, said_by}
use Rattle.index_rules.specs.declared.Call.{Call}
use Rattle.index_rules.specs.declared.Call.TheVariants.{Format, Get, Put, Remove, Merge, Mend, List as ListCall, ListBlock}
use Rattle.index_rules.specs.Layout.{value_address}
use Rattle.index_rules.specs.Slots.{Choice, found, into, full}
use Rattle.index_rules.specs.Get.{key_segment}
use Rattle.index_rules.specs.Put.{key_choice}
use Rattle.index_rules.specs.Step.{Effect, changes, answers, effect, step, Performed}

-- Two arrays differ in at most one word: they have the same length, and there is an address such that every other word is the same.
pub record AtMostOneWord (x y : List ℕ) : Type 0 where
  pub address : ℕ
  pub same : SameBut address x y

-- ---- The allowance

-- The same call with an allowance larger by one. A get and the listings have no allowance.
abbrev pub one_more : Call → Call
one_more (Format D S allowance) = Format D S (suc allowance)
one_more (Get key) = Get key
one_more (Put key value allowance) = Put key value (suc allowance)
one_more (Remove key allowance) = Remove key (suc allowance)
one_more (Merge key allowance) = Merge key (suc allowance)
one_more (Mend allowance) = Mend (suc allowance)
one_more ListCall = ListCall
one_more (ListBlock i) = ListBlock i

-- The word that one store more can change, where a call may make n: the address of its store number n + 1. None where no more is due.
abbrev pub next_address : Effect → Option ℕ
next_address (changes allowance p) = address_behind allowance p.due
next_address (answers w) = none

-- For one array and one call, an allowance larger by one changes at most one word of the array left behind.
abbrev pub OneMoreAllowed : Type 0
OneMoreAllowed = (a l : List ℕ) (call : Call) → AtMostOneWord (step a l call).outcome.after (step a l (one_more call)).outcome.after

-- The one word is that one; where there is none, the arrays left are the same.
abbrev pub OneMoreAllowedAt : Type 0
OneMoreAllowedAt =
    (a l : List ℕ) (call : Call)
    → DifferAt (next_address (effect a (length l) call)) (step a l call).outcome.after (step a l (one_more call)).outcome.after

-- ---- The value of a put

-- Two outcomes have the same reply and the same store count, and at most one word differs in what they leave.
pub record SameButOneWord (o p : Outcome Said) : Type 0 where
  pub reply : o.reply ≡ p.reply
  pub made : o.made ≡ p.made
  pub words : AtMostOneWord o.after p.after

-- A put with another value, all else equal.
abbrev pub OtherValue : Type 0
OtherValue =
    (a l : List ℕ) (key v w allowance : ℕ)
    → SameButOneWord (step a l (Put key v allowance)).outcome (step a l (Put key w allowance)).outcome

-- The value word of the slot that a put has chosen in the segment at `base`; none where the window is full.
abbrev pub value_in : (base : ℕ) → Choice → Option ℕ
value_in base (found j) = some (value_address base j)
value_in base (into j) = some (value_address base j)
value_in base full = none

-- The value word of the slot where a put of the key goes on the array x: of the slot that has the key, else of the slot for a new key.
abbrev pub value_word : List ℕ → (key : ℕ) → Option ℕ
value_word x key = value_in (key_segment x key) (key_choice x key)

-- No word: the puts are refused, or were cut off before the value was stored.
pub record NotStored (o p : Outcome Said) : Type 0 where
  pub not_done : is_done o.reply ≡ false
  pub same : o.after ≡ p.after

-- One word: the puts have stored v and w, and are done, or were cut off between value and key. It is, in either array left, the value
-- word of the slot where a put of the key goes.
pub record Stored (key v w : ℕ) (o p : Outcome Said) : Type 0 where
  pub reply : (o.reply ≡ done []) ⊎ (o.reply ≡ refused 7)
  pub address : ℕ
  pub first : value_word o.after key ≡ some address
  pub second : value_word p.after key ≡ some address
  pub first_value : word o.after address ≡ v
  pub second_value : word p.after address ≡ w
  pub same : SameBut address o.after p.after

-- It is one or the other.
abbrev pub OtherValueAt : Type 0
OtherValueAt =
    (a l : List ℕ) (key v w allowance : ℕ)
    → NotStored (step a l (Put key v allowance)).outcome (step a l (Put key w allowance)).outcome
    ⊎ Stored key v w (step a l (Put key v allowance)).outcome (step a l (Put key w allowance)).outcome

-- ---- The same of performed calls: of what programs run

-- An allowance larger by one.
abbrev pub OneMorePerformed : Type 0
OneMorePerformed =
    (call : Call) (a l : List ℕ) (r : Answer) (x l' : List ℕ) (s : Answer) (y m' : List ℕ)
    → Performed call a l r x l' → Performed (one_more call) a l s y m'
    → AtMostOneWord x y × DifferAt (next_address (effect a (length l) call)) x y

-- What a performed call has answered and left, as an outcome.
abbrev pub outcome_by : Answer → (after : List ℕ) → Outcome Said
outcome_by answer after = record { reply = said_by answer.reply; made = answer.stores; after = after }

-- A put with another value.
abbrev pub OtherValuePerformed : Type 0
OtherValuePerformed =
    (key v w allowance : ℕ) (a l : List ℕ) (r : Answer) (x l' : List ℕ) (s : Answer) (y m' : List ℕ)
    → Performed (Put key v allowance) a l r x l' → Performed (Put key w allowance) a l s y m'
    → SameButOneWord (outcome_by r x) (outcome_by s y) × (NotStored (outcome_by r x) (outcome_by s y) ⊎ Stored key v w (outcome_by r x) (outcome_by s y))
