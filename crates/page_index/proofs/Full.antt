-- A C function that tells 5 or 6 of a put leaves the key's probe window full, in a segment that can't be split.
use mathlib.Core.Path.{◌≡◌, sym, ap, ◌∙◌}
use mathlib.Core.List.{List, []}
use Prim.Native.Nat.{ℕ, ◌<◌}
use native.Mathlib.Omega.{arith}
use Rattle.stores.specs.Plan.{Outcome}
use Rattle.replies.specs.Replies.{Said, done, listed, absent, refused}
use Rattle.index_laws.specs.Full.{ForWantOfSpace}
use Rattle.index_laws.proofs.Full.{put_for_want_of_space}
use Rattle.board.proofs.Full.{set_for_want_of_space}
use Rattle.page_index.specs.declared.PageIndexReply.{PageIndexReply}
use Rattle.page_index.specs.Told.{Told, code_of}
use Rattle.page_index.specs.Full.{CodeForWantOfSpace, ToldForWantOfSpace, ToldSetForWantOfSpace}

-- A code of 1 to 254 is that of a refusal.
code_refused : (said : Said) (n : ℕ) → 0 < n → n < 255 → code_of said ≡ n → said ≡ refused n
code_refused (done values) n low high e = absurd (omega arith)
code_refused (listed m f) n low high e = absurd (omega arith)
code_refused absent n low high e = absurd (omega arith)
code_refused (refused m) n low high e = ap refused e

told_code : (key : ℕ) (o : Outcome Said) (r : PageIndexReply) (a' : List ℕ) → Told o r a' → ForWantOfSpace key o.reply o.after
    → CodeForWantOfSpace key r a'
told_code key o r a' t f =
    rw t.words
    (record {
      too_deep = λ e. f.too_deep (code_refused o.reply 5 (omega arith) (omega arith) (sym t.answer.code ∙ e));
      no_segment = λ e. f.no_segment (code_refused o.reply 6 (omega arith) (omega arith) (sym t.answer.code ∙ e));
    })

pub told_for_want_of_space : ToldForWantOfSpace
told_for_want_of_space a key value allowance r a' t = told_code key _ r a' t (put_for_want_of_space a [] key value allowance)

pub told_set_for_want_of_space : ToldSetForWantOfSpace
told_set_for_want_of_space a year month number pages allowance r a' t =
    told_code _ _ r a' t (set_for_want_of_space a year month number pages allowance)
