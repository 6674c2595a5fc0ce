-- What the reader of an entry answers.
use Rattle.std.specs.Prelude.{ℕ, List, [], ◌∷◌, Result, Ok, Err}
use Rattle.stores.specs.Lists.{pick}
use Rattle.replies.specs.declared.Refusal.{Refusal}
use Rattle.replies.specs.declared.Refusal.TheVariants.{Broken}
use Rattle.index_rules.specs.Layout.{depth, segments, entry_at, segment_of, local_depth}
use Rattle.index_rules.specs.Scan.{in_range}
use Rattle.replies.specs.Replies.{Said, done, refuse}
use Rattle.index_layout.specs.declared.entry.Entry.{Entry}

-- What an answer of the reader says: segment and local depth; or a refusal.
abbrev pub entry_said : Result Entry Refusal → Said
entry_said (Ok e) = done (e.segment ∷ e.depth ∷ [])
entry_said (Err r) = refuse r

-- What is to be said of the entry e, where the directory has depth g and the index S segments.
unfoldable pub entry_of : (g S e : ℕ) → Said
entry_of g S e = pick (in_range g S e) (done (segment_of e ∷ local_depth e ∷ [])) (refuse Broken)

-- What is to be said of entry i of the present directory of the array a.
abbrev pub entry_read : List ℕ → (i : ℕ) → Said
entry_read a i = entry_of (depth a) (segments a) (entry_at a (depth a) i)
