-- What the reader of word 0 answers, and what a header that was read says of its array.
use Rattle.std.specs.Prelude.{ℕ, ◌≡◌, true, List, [], ◌∷◌, Result, Ok, Err}
use Rattle.stores.specs.Lists.{pick}
use Rattle.replies.specs.declared.Refusal.{Refusal}
use Rattle.replies.specs.declared.Refusal.TheVariants.{NoStore}
use Rattle.index_rules.specs.Layout.{valid_header, depth, max_depth, segments}
use Rattle.replies.specs.Replies.{Said, done, refuse}
use Rattle.index_layout.specs.declared.header.Header.{Header}

-- What an answer of the reader says: G, D and S; or a refusal.
abbrev pub header_said : Result Header Refusal → Said
header_said (Ok h) = done (h.depth ∷ h.max_depth ∷ h.segments ∷ [])
header_said (Err r) = refuse r

-- What is to be said of the array a.
unfoldable pub header_of : List ℕ → Said
header_of a = pick (valid_header a) (done (depth a ∷ max_depth a ∷ segments a ∷ [])) (refuse NoStore)

-- Word 0 of the array a is valid, and the header h is what it says.
pub record Describes (h : Header) (a : List ℕ) : Type 0 where
  pub valid : valid_header a ≡ true
  pub depth_read : depth a ≡ h.depth
  pub max_depth_read : max_depth a ≡ h.max_depth
  pub segments_read : segments a ≡ h.segments
