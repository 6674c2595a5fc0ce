-- Rows of both tables with one wrong figure each, in every part of the tests, which antt computes: none passes.
use mathlib.Core.Path.{◌≡◌, refl}
use mathlib.Core.Bool.{Bool, true, not, ◌&&◌}
use mathlib.Core.List.{List, [], ◌∷◌}
use mathlib.Core.Option.{none, some}
use Rattle.replies.specs.Replies.{done, listed, refused}
use Rattle.index_rules.specs.declared.Call.TheVariants.{Remove, List as ListCall, ListBlock}
use Rattle.index_rules.proofs.Table.{Row, buckets, indexed, all_pass}
use Rattle.index_rules.proofs.States.{F, P, stands, names, page, missing, row}
use Rattle.index_rules.proofs.Rows.{slot, listed_by}
use Rattle.index_laws.proofs.Compared.{Compared, gathers, other_value, all_agree}
use Rattle.index_laws.proofs.OneNumberStates.{more}

unfoldable pub none_passes : List Row → Bool
none_passes [] = true
none_passes (r ∷ rs) = not (all_pass (r ∷ [])) && none_passes rs

pub wrong_rows : List Row
wrong_rows =
    buckets 15 (15 ∷ 0 ∷ 1 ∷ 3 ∷ [])
    ∷ indexed 2 39 2
    -- a put of page 7: what it says, the stores, a word, an entry's segment and local depth, a lookup
    ∷ row 520 (F 4 ∷ []) (P 7) (refused 7) 2 [] [] []
    ∷ row 520 (F 4 ∷ []) (P 7) (done []) 3 [] [] []
    ∷ row 520 (F 4 ∷ []) (P 7) (done []) 2 (stands 64 8 ∷ []) [] []
    ∷ row 520 (F 4 ∷ []) (P 7) (done []) 2 [] (names 1 0 ∷ []) []
    ∷ row 520 (F 4 ∷ []) (P 7) (done []) 2 [] (names 0 1 ∷ []) []
    ∷ row 520 (F 4 ∷ []) (P 7) (done []) 2 [] [] (missing 7 ∷ [])
    ∷ row 520 (F 4 ∷ []) (P 7) (done []) 2 [] [] (page 7 ∷ page 8 ∷ [])
    -- listings of page 7: how many, the words, one word more, the block that follows
    ∷ listed_by ListCall (F 4 ∷ []) (slot 28 7) (done (2 ∷ [])) (7 ∷ 70 ∷ []) 2
    ∷ listed_by ListCall (F 4 ∷ []) (slot 28 7) (done (1 ∷ [])) (7 ∷ 71 ∷ []) 2
    ∷ listed_by ListCall (F 4 ∷ []) (slot 28 7) (done (1 ∷ [])) (7 ∷ 70 ∷ 6 ∷ []) 2
    ∷ listed_by (ListBlock 0) (F 4 ∷ []) (slot 28 7) (listed 2 none) (7 ∷ 70 ∷ []) 0
    ∷ []

pub none_passes_holds : none_passes wrong_rows ≡ true
unfolding all_pass none_passes wrong_rows
none_passes_holds = refl

unfoldable pub none_agrees : List Compared → Bool
none_agrees [] = true
none_agrees (r ∷ rs) = not (all_agree (r ∷ [])) && none_agrees rs

pub wrong_comparisons : List Compared
wrong_comparisons =
    -- parts: none where there are some, some where there are none, others
    gathers 520 (F 4 ∷ []) (slot 28 7) 1 128 none
    ∷ gathers 520 (F 4 ∷ []) (slot 28 7) 0 128 (some [])
    ∷ gathers 520 (F 4 ∷ []) (slot 28 7) 1 128 (some [])
    ∷ gathers 520 (F 4 ∷ []) (slot 28 7) 1 128 (some ((7 ∷ 71 ∷ []) ∷ []))
    -- one store more: another address, none, a word that differs left out, one too many
    ∷ more (slot 28 7) (Remove 7 0) (65 ∷ []) (64 ∷ [])
    ∷ more (slot 28 7) (Remove 7 0) [] (64 ∷ [])
    ∷ more (slot 28 7) (Remove 7 0) (64 ∷ []) []
    ∷ more (slot 28 7) (Remove 7 1) [] (64 ∷ [])
    -- another value: a word that differs left out, another word
    ∷ other_value 520 (F 4 ∷ []) [] 7 1 2 10000 []
    ∷ other_value 520 (F 4 ∷ []) [] 7 1 2 10000 (64 ∷ [])
    ∷ []

pub none_agrees_holds : none_agrees wrong_comparisons ≡ true
unfolding all_agree none_agrees wrong_comparisons
none_agrees_holds = refl
