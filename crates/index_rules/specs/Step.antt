-- One call as data, what it says and leaves in both lent arrays, and a call that was performed.
use Rattle.std.specs.Prelude.{ℕ, ◌≡◌, Bool, true, false, List, [], length}
use Rattle.stores.specs.Plan.{Plan, Outcome}
use Rattle.stores.specs.Written.{at_front}
use Rattle.replies.specs.declared.Answer.{Answer}
use Rattle.index_rules.specs.declared.Call.{Call}
use Rattle.index_rules.specs.declared.Call.TheVariants.{Format, Get, Put, Remove, Merge, Mend, List as ListCall, ListBlock}
use Rattle.replies.specs.Replies.{Said, changed}
use Rattle.replies.specs.Writing.{Writing, nothing}
use Rattle.replies.specs.Answered.{Answered}
use Rattle.index_rules.specs.Format.{format}
use Rattle.index_rules.specs.Get.{get}
use Rattle.index_rules.specs.Put.{put}
use Rattle.index_rules.specs.Remove.{remove}
use Rattle.index_rules.specs.Merge.{merge}
use Rattle.index_rules.specs.Mend.{mend}
use Rattle.index_rules.specs.Listing.{list}
use Rattle.index_rules.specs.ListBlock.{list_block}

-- ---- What a call does

-- A call changes the index array by a plan, under an allowance; or it answers, leaves the index array as it is, and may write to
-- the list array.
pub data Effect : Type 0 where
  changes : (allowance : ℕ) → Plan Said → Effect
  answers : Writing → Effect

-- What each call does with the index array a. `room` is the number of words in the list array that is lent with the call; only a
-- call that lists looks at it.
unfoldable pub effect : List ℕ → (room : ℕ) → Call → Effect
effect a room (Format D S allowance) = changes allowance (format a D S)
effect a room (Get key) = answers (nothing (get a key))
effect a room (Put key value allowance) = changes allowance (put a key value)
effect a room (Remove key allowance) = changes allowance (remove a key)
effect a room (Merge key allowance) = changes allowance (merge a key)
effect a room (Mend allowance) = changes allowance (mend a)
effect a room ListCall = answers (list a room)
effect a room (ListBlock i) = answers (list_block a i room)

-- The call is one that lists: it is lent a list array and writes to it.
abbrev pub lists : Call → Bool
lists (Format D S allowance) = false
lists (Get key) = false
lists (Put key value allowance) = false
lists (Remove key allowance) = false
lists (Merge key allowance) = false
lists (Mend allowance) = false
lists ListCall = true
lists (ListBlock i) = true

-- ---- What it says and leaves

-- What is said by an effect on the index array a, and the array left: 7, cut off, where more stores are due than allowed.
abbrev pub carried_out : Effect → List ℕ → Outcome Said
carried_out (changes allowance p) a = changed allowance p a
carried_out (answers w) a = record { reply = w.reply; made = 0; after = a }

-- The words that an effect writes to the front of the list array.
abbrev pub words_by : Effect → List ℕ
words_by (changes allowance p) = []
words_by (answers w) = w.words

-- What a call says, the stores it makes and the index array it leaves; and the list array it leaves.
pub record Step : Type 0 where
  pub outcome : Outcome Said
  pub list : List ℕ

-- One step, on the index array a and the list array l. Reply and every lent word follow from these and the call.
unfoldable pub step : (a l : List ℕ) → Call → Step
step a l call =
    record { outcome = carried_out (effect a (length l) call) a; list = at_front (words_by (effect a (length l) call)) l }

-- What a call that does not list says, the stores it makes and the array it leaves: with no list array lent.
abbrev pub outcome_of : List ℕ → Call → Outcome Said
outcome_of a call = (step a [] call).outcome

-- A call has been performed on the index array a with the list array l, and has answered and left a' and l'.
pub record Performed (call : Call) (a l : List ℕ) (answer : Answer) (a' l' : List ℕ) : Type 0 where
  pub answered : Answered (step a l call).outcome answer a'
  pub list : l' ≡ (step a l call).list
