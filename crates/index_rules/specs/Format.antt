-- Document 01, 'The calls and their stores': format.
use Rattle.std.specs.Prelude.{ℕ, List, [], ◌∷◌, ◌++◌, leb, length}
use Rattle.std.proofs.Math.Option.{Option, none}
use Rattle.stores.specs.Lists.{each}
use Rattle.stores.specs.Store.{Store, store}
use Rattle.stores.specs.Plan.{Plan}
use Rattle.replies.specs.declared.Refusal.{Refusal}
use Rattle.replies.specs.declared.Refusal.TheVariants.{BadShape, TooShort}
use Rattle.index_rules.specs.Layout.{valid_shape, words_for, header, segment_address, key_address}
use Rattle.replies.specs.Replies.{Said, done, unless, tested}

-- Format's tests: 8, then 9.
unfoldable pub format_tests : List ℕ → (D S : ℕ) → Option Refusal
format_tests a D S = unless (valid_shape D S) BadShape (unless (leb (words_for D S) (length a)) TooShort none)

-- The key words of the segment at `base` := 0, rising.
abbrev pub clearing : (base : ℕ) → List Store
clearing base = each (λ j. store (key_address base j) 0 ∷ []) 64

-- Format's stores: word 0 := 0; word 1 := 0; segment 0's key words := 0, rising; word 0 := valid, with G = 0.
unfoldable pub format_stores : (D S : ℕ) → List Store
format_stores D S =
    store 0 0 ∷ store 1 0 ∷ clearing (segment_address D 0) ++ (store 0 (header 0 D S) ∷ [])

-- The plan of a format.
unfoldable pub format : List ℕ → (D S : ℕ) → Plan Said
format a D S = tested (format_tests a D S) (record { due = format_stores D S; reply = done [] })
