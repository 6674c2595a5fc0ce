-- The definitions of `specs/` on small cases, which antt computes.
use mathlib.Core.Path.{◌≡◌, refl}
use mathlib.Core.List.{List, [], ◌∷◌}
use lib.ListN.{replicate}
use Rattle.index_rules.specs.Layout.{valid_header, valid_shape, words_for, depth_in, max_depth_in, segments_in, mark_in, segment_of, local_depth}
use Rattle.index_rules.specs.Scan.{in_range}
use Rattle.replies.specs.Replies.{Said, done, refused}
use Rattle.std.specs.Prelude.{Ok, Err}
use Rattle.replies.specs.declared.Refusal.TheVariants.{NoStore, Broken}
use Rattle.index_layout.specs.Headers.{header_said, header_of}
use Rattle.index_layout.specs.Entries.{entry_said, entry_of}

-- Word 0 with D = 2 and S = 1 asks 136 words: one less is no store (refusal 1), as is an array of no words.
pub headers : ◌≡◌ {A = List Said}
    (header_of (0x5041474600010201 ∷ replicate 135 0) ∷ header_of (0x5041474600010201 ∷ replicate 134 0) ∷ header_of [] ∷ header_said (Err NoStore) ∷ [])
    (done (1 ∷ 2 ∷ 1 ∷ []) ∷ refused 1 ∷ refused 1 ∷ refused 1 ∷ [])
unfolding header_of valid_header valid_shape words_for depth_in max_depth_in segments_in mark_in
headers = refl

-- At G = 2 and S = 4: segment 3 with local depth 2, then a segment and a local depth that are one too large (refusal 3).
pub entries : ◌≡◌ {A = List Said}
    (entry_of 2 4 0x200000003 ∷ entry_of 2 4 0x200000004 ∷ entry_of 2 4 0x300000003 ∷ entry_said (Ok (record { segment = 3; depth = 2 })) ∷ entry_said (Err Broken) ∷ [])
    (done (3 ∷ 2 ∷ []) ∷ refused 3 ∷ refused 3 ∷ done (3 ∷ 2 ∷ []) ∷ refused 3 ∷ [])
unfolding entry_of in_range segment_of local_depth
entries = refl
