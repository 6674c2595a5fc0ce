-- A plan of three stores on an array of three words, under each allowance, where the next store goes, stores in a part, and words in
-- front, and lists told apart: tables that antt computes from the definitions.
use Prim.Native.Nat.{ℕ}
use mathlib.Core.Path.{◌≡◌, refl}
use mathlib.Core.Bool.{Bool, true, false}
use mathlib.Core.List.{List, [], ◌∷◌}
use mathlib.Core.Option.{Option, none, some}
use Rattle.stores.specs.Lists.{numbers_same, lists_same}
use Rattle.stores.specs.Store.{store, apply, exec, shifted}
use Rattle.stores.specs.Plan.{Plan, Outcome, cut}
use Rattle.stores.specs.Written.{at_front}
use Rattle.stores.specs.Difference.{address_behind}

-- Two stores at address 1, and one between them at address 2; the reply is 0.
abbrev pub plan : Plan ℕ
plan = record { due = store 1 10 ∷ store 2 20 ∷ store 1 11 ∷ []; reply = 0 }

abbrev pub under : (allowance : ℕ) → Outcome ℕ
under allowance = cut 7 allowance plan (5 ∷ 0 ∷ 0 ∷ [])

abbrev pub outcome : (reply made x y z : ℕ) → Outcome ℕ
outcome reply made x y z = record { reply = reply; made = made; after = x ∷ y ∷ z ∷ [] }

pub cuts : ◌≡◌ {A = List (Outcome ℕ)} (under 0 ∷ under 1 ∷ under 2 ∷ under 3 ∷ under 4 ∷ [])
    (outcome 7 0 5 0 0 ∷ outcome 7 1 5 10 0 ∷ outcome 7 2 5 10 20 ∷ outcome 0 3 5 11 20 ∷ outcome 0 3 5 11 20 ∷ [])
unfolding cut exec apply
cuts = refl

-- The addresses of the stores number 1, 2, 3; there is no fourth.
pub next_addresses : ◌≡◌ {A = List (Option ℕ)}
    (address_behind 0 plan.due ∷ address_behind 1 plan.due ∷ address_behind 2 plan.due ∷ address_behind 3 plan.due ∷ [])
    (some 1 ∷ some 2 ∷ some 1 ∷ none ∷ [])
unfolding address_behind
next_addresses = refl

-- Two stores in the part that starts at address 1.
pub in_a_part : apply (shifted 1 (store 0 8 ∷ store 1 9 ∷ [])) (5 ∷ 0 ∷ 0 ∷ []) ≡ 5 ∷ 8 ∷ 9 ∷ []
unfolding apply shifted
in_a_part = refl

-- Two words in front of three, of as many, and none.
pub in_front_holds : ◌≡◌ {A = List (List ℕ)}
    (at_front (8 ∷ 9 ∷ []) (5 ∷ 6 ∷ 7 ∷ []) ∷ at_front (8 ∷ 9 ∷ []) (5 ∷ 6 ∷ []) ∷ at_front [] (5 ∷ 6 ∷ []) ∷ [])
    ((8 ∷ 9 ∷ 7 ∷ []) ∷ (8 ∷ 9 ∷ []) ∷ (5 ∷ 6 ∷ []) ∷ [])
in_front_holds = refl

-- Two numbers and the same two; one more or one less, on either side; and another first or last one. The same with lists of one list.
pub numbers_told : ◌≡◌ {A = List Bool}
    (numbers_same (1 ∷ 2 ∷ []) (1 ∷ 2 ∷ []) ∷ numbers_same (1 ∷ []) (1 ∷ 2 ∷ []) ∷ numbers_same (1 ∷ 2 ∷ []) (1 ∷ []) ∷ numbers_same (3 ∷ 2 ∷ []) (1 ∷ 2 ∷ [])
    ∷ numbers_same (1 ∷ 3 ∷ []) (1 ∷ 2 ∷ []) ∷ [])
    (true ∷ false ∷ false ∷ false ∷ false ∷ [])
unfolding numbers_same
numbers_told = refl

pub lists_told : ◌≡◌ {A = List Bool}
    (lists_same ((1 ∷ 2 ∷ []) ∷ []) ((1 ∷ 2 ∷ []) ∷ []) ∷ lists_same [] ([] ∷ []) ∷ lists_same ([] ∷ []) [] ∷ lists_same ((1 ∷ []) ∷ []) ((2 ∷ []) ∷ []) ∷ [])
    (true ∷ false ∷ false ∷ false ∷ [])
unfolding numbers_same lists_same
lists_told = refl
