-- What C is told of each kind of reply, which antt computes from the definitions.
use Prim.Native.Nat.{ℕ}
use mathlib.Core.Option.{none, some}
use mathlib.Core.Path.{◌≡◌, refl}
use mathlib.Core.List.{List, [], ◌∷◌}
use Rattle.replies.specs.Replies.{Said, done, listed, absent, refused}
use Rattle.page_index.specs.Told.{code_of, value_of, next_said}

-- A reply's code and value, and what `*next` holds behind it where it held 9.
abbrev told : Said → List ℕ
told said = code_of said ∷ value_of said ∷ next_said said 9 ∷ []

-- Done, done with a value, a block with another behind it and the last one, absent, and the refusals 1 and 16.
pub told_so : ◌≡◌ {A = List (List ℕ)}
    (told (done []) ∷ told (done (70 ∷ [])) ∷ told (listed 3 (some 4)) ∷ told (listed 3 none) ∷ told absent ∷ told (refused 1) ∷ told (refused 16) ∷ [])
    ((0 ∷ 0 ∷ 9 ∷ []) ∷ (0 ∷ 70 ∷ 9 ∷ []) ∷ (0 ∷ 3 ∷ 4 ∷ []) ∷ (0 ∷ 3 ∷ 0 ∷ []) ∷ (255 ∷ 0 ∷ 9 ∷ []) ∷ (1 ∷ 0 ∷ 9 ∷ []) ∷ (16 ∷ 0 ∷ 9 ∷ []) ∷ [])
told_so = refl
