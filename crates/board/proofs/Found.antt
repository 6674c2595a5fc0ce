-- One lookup, by the reply of the index's get: its line, the bytes of that, and its refusal.
use Prim.Native.Nat.{ℕ, ◌+◌, ◌*◌, ◌/◌, ◌%◌, ◌≤◌}
use mathlib.Core.Path.{◌≡◌, refl, sym, ap, ◌∙◌}
use mathlib.Core.List.{List, [], ◌∷◌, append-nil}
use native.Mathlib.Omega.{arith}
use lib.ListN.{length}
use Rattle.stores.specs.Lists.{each}
use Rattle.replies.specs.declared.Answer.{Answer}
use Rattle.replies.specs.declared.Refusal.{Refusal}
use Rattle.replies.specs.declared.Reply.{Reply}
use Rattle.replies.specs.declared.Reply.TheVariants.{Done, Value, Listed, Absent}
use Rattle.std.specs.Prelude.{Result, Ok, Err}
use Rattle.replies.specs.Replies.{Said, done, listed, absent, refused, said_by}
use Rattle.index_rules.specs.declared.Call.TheVariants.{Get}
use Rattle.index_rules.specs.Get.{get}
use Rattle.index_rules.specs.Step.{effect, step, outcome_of}
use Rattle.replies.specs.Answered.{Answered}
use Rattle.text.proofs.Digits.{length_decimal}
use Rattle.board.specs.Jobs.{job_key}
use Rattle.board.specs.Print.{job, job_line, text_of, job_found, jobs_in, lines_in, first_refusal, refused_in}
use Rattle.board.specs.Passes.{bytes_of, CountedBy}
use Rattle.board.proofs.Lines.{length_line}
use Rattle.board.proofs.Lookups.{bytes_each, job_turn, place_turn}

module _ (a : List ℕ) (year month number : ℕ) where
  -- What a get of the job's key has answered, the lookup says.
  pub got : (key : ℕ) (answer : Answer) (after : List ℕ) → key ≡ job_key year month number → Answered (outcome_of a (Get key)) answer after
      → get a (job_key year month number) ≡ said_by answer.reply
  unfolding step effect
  got key answer after e d = rw (← e) (sym d.reply)

  module _ (reply : Result Reply Refusal) (said : get a (job_key year month number) ≡ said_by reply) where
    -- ---- Its line

    pub lines_found : (pages : ℕ) → reply ≡ Ok (Value pages) → lines_in (job_turn a year month number) ≡ job_line (job month number pages)
    unfolding jobs_in job_found text_of
    lines_found pages e = rw (said, e) (append-nil (job_line (job month number pages)))

    -- No line where the reply is another, or a refusal.
    pub lines_none : (r : Reply) → reply ≡ Ok r → ((v : ℕ) → r ≡ Value v → ⊥) → lines_in (job_turn a year month number) ≡ []
    unfolding jobs_in job_found text_of
    lines_none r e t = rw (said, e) (go r t)
      where
        go : (r : Reply) → ((v : ℕ) → r ≡ Value v → ⊥)
            → lines_in (record { month = month; number = number; said = said_by (Ok r) } ∷ []) ≡ []
        go Done t = refl
        go (Value v) t = absurd (t v refl)
        go (Listed n f) t = refl
        go Absent t = refl

    pub lines_refused : (r : Refusal) → reply ≡ Err r → lines_in (job_turn a year month number) ≡ []
    unfolding jobs_in job_found text_of
    lines_refused r e = rw (said, e) refl

    -- ---- What is counted of it

    pub counted_found : (pages n : ℕ) → reply ≡ Ok (Value pages) → n ≡ length (job_line (job month number pages))
        → CountedBy (Ok n) (job_turn a year month number)
    unfolding refused_in first_refusal
    counted_found pages n e k = (rw (said, e) refl, k ∙ ap length (sym (lines_found pages e)))

    -- A reply with no value.
    pub counted_none : (r : Reply) → reply ≡ Ok r → ((v : ℕ) → r ≡ Value v → ⊥) → CountedBy (Ok 0) (job_turn a year month number)
    unfolding refused_in first_refusal jobs_in job_found text_of
    counted_none r e t = rw (said, e) (go r t)
      where
        go : (r : Reply) → ((v : ℕ) → r ≡ Value v → ⊥)
            → CountedBy (Ok 0) (record { month = month; number = number; said = said_by (Ok r) } ∷ [])
        go Done t = (refl, refl)
        go (Value v) t = absurd (t v refl)
        go (Listed n f) t = (refl, refl)
        go Absent t = (refl, refl)

    pub counted_refused : (r : Refusal) → reply ≡ Err r → CountedBy (Err r) (job_turn a year month number)
    unfolding refused_in first_refusal
    counted_refused r e = rw (said, e) refl

-- ---- Bounds

said_short : (month number : ℕ) (said : Said) → 1 ≤ month → month ≤ 12 → bytes_of (record { month = month; number = number; said = said } ∷ []) ≤ 46
unfolding jobs_in job_found text_of
said_short month number (done []) l h = omega arith
said_short month number (done (pages ∷ values)) l h =
    rw (append-nil (job_line (job month number pages)), length_line month number pages l h)
    (omega (arith, length_decimal number, length_decimal pages))
said_short month number (listed n f) l h = omega arith
said_short month number absent l h = omega arith
said_short month number (refused n) l h = omega arith

-- A line has at most 46 bytes.
pub job_short : (a : List ℕ) (year month number : ℕ) → 1 ≤ month → month ≤ 12 → bytes_of (job_turn a year month number) ≤ 46
job_short a year month number l h = said_short month number (get a (job_key year month number)) l h

-- So the bytes of a year are no large number.
pub places_short : (a : List ℕ) (year n : ℕ) → n ≤ 49152 → bytes_of (each (place_turn a year) n) ≤ 46 * n
places_short a year n h =
    bytes_each (place_turn a year) 46 n (λ i k. job_short a year (i / 4096 + 1) (i % 4096) (omega arith) (omega arith))
