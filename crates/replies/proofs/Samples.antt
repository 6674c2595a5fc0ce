-- The numbers of the refusals, what counts as done and as damage, which replies are the same, calls cut off, writings behind tests, and effects.
-- antt computes each from the definitions.
use Prim.Native.Nat.{ℕ}
use mathlib.Core.Path.{◌≡◌, refl}
use mathlib.Core.Bool.{Bool, true, false, not, ◌&&◌}
use mathlib.Core.List.{List, [], ◌∷◌}
use mathlib.Core.Option.{none, some}
use lib.Dec.{eqb}
use Rattle.stores.specs.Store.{store, apply, exec}
use Rattle.stores.specs.Plan.{Plan, Outcome, cut}
use Rattle.replies.specs.declared.Refusal.TheVariants.{NoStore, NoKey, Broken, Unmended, TooDeep, NoSegment, CutOff, BadShape, TooShort, ShortList, BadYear, BadMonth, BadNumber, NoBuddy, BothLive, NoLeader}
use Rattle.stores.specs.Lists.{numbers_same}
use Rattle.replies.specs.Replies.{number_of, Said, done, listed, absent, refused, is_done, is_refusal, says_damage, following_same, said_same, unless, tested, changed}
use Rattle.replies.specs.Writing.{Writing, behind_tests}
use Rattle.replies.specs.Effects.{changes, answers, carried_out, words_by}

pub numbers : List ℕ
numbers =
    number_of NoStore ∷ number_of NoKey ∷ number_of Broken ∷ number_of Unmended ∷ number_of TooDeep ∷ number_of NoSegment ∷ number_of CutOff
    ∷ number_of BadShape ∷ number_of TooShort ∷ number_of ShortList ∷ number_of BadYear ∷ number_of BadMonth ∷ number_of BadNumber
    ∷ number_of NoBuddy ∷ number_of BothLive ∷ number_of NoLeader ∷ []

pub numbers_are : numbers ≡ 1 ∷ 2 ∷ 3 ∷ 4 ∷ 5 ∷ 6 ∷ 7 ∷ 8 ∷ 9 ∷ 10 ∷ 11 ∷ 12 ∷ 13 ∷ 14 ∷ 15 ∷ 16 ∷ []
unfolding numbers
numbers_are = refl

-- Two stores are due, and done is said behind them.
two : Plan Said
two = record { due = store 0 5 ∷ store 1 6 ∷ []; reply = done [] }

gives : Outcome Said → Said → ℕ → List ℕ → Bool
gives o said made after = said_same o.reply said && (eqb o.made made && numbers_same o.after after)

-- Two words are written, and done is said with their number.
written : Writing
written = record { reply = done (2 ∷ []); words = 5 ∷ 6 ∷ [] }

writes : Writing → Said → (words : List ℕ) → Bool
writes w said words = said_same w.reply said && numbers_same w.words words

-- A listing of one block is done; 1, 3 and 4 are told from other replies.
told : Bool
told =
    is_done (listed 3 none)
    && (says_damage (refused 1) && (says_damage (refused 3) && (says_damage (refused 4)
    && (not (says_damage (refused 10)) && (not (says_damage (refused 16)) && not (says_damage (listed 1 none)))))))

-- Replies of which no two are the same, in either order, but each with itself.
pub replies : List Said
replies =
    done [] ∷ done (3 ∷ []) ∷ done (4 ∷ []) ∷ listed 3 (some 0) ∷ listed 3 (some 4) ∷ listed 3 none ∷ listed 4 none ∷ absent ∷ refused 3 ∷ refused 4 ∷ []

-- A reply is told from those of the list.
told_from : Said → List Said → Bool
told_from s [] = true
told_from s (t ∷ ts) = not (said_same s t) && (not (said_same t s) && told_from s ts)

pub all_told : List Said → Bool
all_told [] = true
all_told (s ∷ ss) = said_same s s && (told_from s ss && all_told ss)

pub replies_told : all_told replies ≡ true
unfolding replies told_from all_told numbers_same following_same said_same
replies_told = refl

-- An effect that changes the array under an allowance, and one that answers, which alone writes to a list array.
effects : Bool
effects =
    gives (carried_out (changes 1 two) (0 ∷ 0 ∷ [])) (refused 7) 1 (5 ∷ 0 ∷ [])
    && (gives (carried_out (answers written) (0 ∷ 0 ∷ [])) (done (2 ∷ [])) 0 (0 ∷ 0 ∷ [])
    && (numbers_same (words_by (changes 1 two)) [] && numbers_same (words_by (answers written)) (5 ∷ 6 ∷ [])))

pub sample : Bool
sample =
    (is_done (done []) && (not (is_done absent) && (not (is_done (refused 7)) && (is_refusal 7 (refused 7) && not (is_refusal 7 (refused 8))))))
    && (told
    && (gives (changed 2 two (0 ∷ 0 ∷ [])) (done []) 2 (5 ∷ 6 ∷ [])
    && (gives (changed 1 two (0 ∷ 0 ∷ [])) (refused 7) 1 (5 ∷ 0 ∷ [])
    && (gives (changed 0 two (0 ∷ 0 ∷ [])) (refused 7) 0 (0 ∷ 0 ∷ [])
    && gives (changed 0 (tested (unless true NoKey (unless false Broken (some Unmended))) two) (0 ∷ 0 ∷ [])) (refused 3) 0 (0 ∷ 0 ∷ [])
    && (writes (behind_tests (unless true ShortList none) written) (done (2 ∷ [])) (5 ∷ 6 ∷ [])
    && (writes (behind_tests (unless false ShortList none) written) (refused 10) [] && effects))))))

pub sample_passes : sample ≡ true
unfolding sample effects told two gives written writes numbers_same following_same said_same unless tested behind_tests changed cut exec apply
sample_passes = refl
