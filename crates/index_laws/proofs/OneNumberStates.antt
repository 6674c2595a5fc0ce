-- States of calls with one number more or another, by the test of rows about several calls, which antt computes.
use Prim.Native.Nat.{ℕ}
use mathlib.Core.Path.{◌≡◌, refl}
use mathlib.Core.Bool.{true}
use mathlib.Core.List.{List, [], ◌∷◌, ◌++◌}
use mathlib.Core.Option.{Option, none, some}
use Rattle.stores.specs.Lists.{each}
use Rattle.stores.specs.Store.{Store, store}
use Rattle.index_rules.specs.declared.Call.{Call}
use Rattle.index_rules.specs.declared.Call.TheVariants.{Format, Put, Remove, Merge, Mend}
use Rattle.index_rules.specs.Slots.{found, into, full}
use Rattle.index_rules.proofs.States.{F, P263, P1030}
use Rattle.index_rules.proofs.Rows.{slot}
use Rattle.index_laws.specs.OneNumber.{value_in}
use Rattle.index_laws.proofs.Compared.{Compared, one_more_allowed, other_value, all_agree}
use Rattle.index_laws.proofs.Samples.{slots, four}
use Rattle.index_laws.proofs.MergeStates.{room_made, deeper}

-- On an index with damage: a call with an allowance larger by one; and a put with the value 2 in place of 1.
abbrev pub more : List Store → Call → (next apart : List ℕ) → Compared
more damage call next apart = one_more_allowed 520 (F 4 ∷ []) damage call next apart

abbrev other : List Store → (key allowance : ℕ) → (apart : List ℕ) → Compared
other damage key allowance apart = other_value 520 (F 4 ∷ []) damage key 1 2 allowance apart

-- Words before a format, none of which it leaves.
abbrev not_formatted : List Store
not_formatted = store 0 5 ∷ store 64 7 ∷ []

-- The pages of the sixteen puts of state e, and of those of state i, where these leave them.
abbrev sixteen_pages : List Store
sixteen_pages = slots 7 16 16

abbrev sixteen_apart_pages : List Store
sixteen_apart_pages = slots 7 64 16

pub one_number_states : List Compared
unfolding each
one_number_states =
    -- the put that splits, allowed one store more: word 0, a copied key, a key word cleared where one stood and where none did, the
    -- entries, value, key; all its stores are 79
    more sixteen_pages (P263 2) (0 ∷ []) (0 ∷ [])
    ∷ more sixteen_pages (P263 39) (202 ∷ []) (202 ∷ [])
    ∷ more (store 204 9 ∷ sixteen_pages) (P263 40) (204 ∷ []) (204 ∷ [])
    ∷ more sixteen_pages (P263 40) (204 ∷ []) []
    ∷ more sixteen_pages (P263 75) (3 ∷ []) (3 ∷ [])
    ∷ more sixteen_pages (P263 76) (2 ∷ []) (2 ∷ [])
    ∷ more sixteen_pages (P263 77) (67 ∷ []) (67 ∷ [])
    ∷ more sixteen_pages (P263 78) (66 ∷ []) (66 ∷ [])
    ∷ more sixteen_pages (P263 79) [] []
    -- a format, a remove that finds its key and one that does not, a mend, a put refused by 3 and by 4, and one that with all its stores is
    -- refused by 5
    ∷ one_more_allowed 520 [] not_formatted (Format 2 4 0) (0 ∷ []) (0 ∷ [])
    ∷ one_more_allowed 520 [] not_formatted (Format 2 4 30) (64 ∷ []) (64 ∷ [])
    ∷ one_more_allowed 520 [] not_formatted (Format 2 4 66) (0 ∷ []) (0 ∷ [])
    ∷ more (slot 28 7) (Remove 7 0) (64 ∷ []) (64 ∷ [])
    ∷ more (slot 28 7) (Remove 23 0) [] []
    ∷ more (four 0 0 1 1 1 1 1 1) (Mend 1) (6 ∷ []) (6 ∷ [])
    ∷ more (four 0 0 1 1 1 1 1 1) (Mend 3) [] []
    ∷ more (four 0 1 1 1 9 1 9 1) (Put 7 70 40) [] []
    ∷ more (four 0 1 1 1 2 1 2 1) (Put 7 70 40) [] []
    ∷ more sixteen_apart_pages (P1030 139) (4 ∷ []) (4 ∷ [])
    -- a merge: a value, a key, the first entry, the last, none
    ∷ more room_made (Merge 7 0) (67 ∷ []) (67 ∷ [])
    ∷ more room_made (Merge 7 1) (66 ∷ []) (66 ∷ [])
    ∷ more room_made (Merge 7 16) (2 ∷ []) (2 ∷ [])
    ∷ more room_made (Merge 7 17) (3 ∷ []) (3 ∷ [])
    ∷ more room_made (Merge 7 18) [] []
    ∷ more deeper (Merge 7 3) [] []
    -- the put that splits, with another value: cut before the value, between value and key, and whole
    ∷ other sixteen_pages 263 40 []
    ∷ other sixteen_pages 263 77 []
    ∷ other sixteen_pages 263 78 (67 ∷ [])
    ∷ other sixteen_pages 263 10000 (67 ∷ [])
    -- a put of a new key and of one that is there, also where a second slot has it; 0 is a value as any other
    ∷ other [] 7 10000 (65 ∷ [])
    ∷ other (slot 28 7) 7 10000 (65 ∷ [])
    ∷ other (slot 28 7 ++ slot 29 7) 7 10000 (65 ∷ [])
    ∷ other_value 520 (F 4 ∷ []) [] 7 0 1 10000 (65 ∷ [])
    -- a put refused by 1, 3, 4, 5 and 6
    ∷ other_value 520 [] [] 7 1 2 10000 []
    ∷ other (four 0 1 1 1 9 1 9 1) 7 10000 []
    ∷ other (four 0 1 1 1 2 1 2 1) 7 10000 []
    ∷ other sixteen_apart_pages 1030 10000 []
    ∷ other_value 136 (F 1 ∷ []) sixteen_pages 263 1 2 10000 []
    ∷ []

pub one_number_states_holds : all_agree one_number_states ≡ true
unfolding all_agree one_number_states
one_number_states_holds = refl

-- The value word of a put in the segment at word 8: of the slot that has the key, of the slot for a new one, and of none.
pub value_words : ◌≡◌ {A = List (Option ℕ)} (value_in 8 (found 28) ∷ value_in 8 (into 29) ∷ value_in 8 full ∷ []) (some 65 ∷ some 67 ∷ none ∷ [])
value_words = refl
