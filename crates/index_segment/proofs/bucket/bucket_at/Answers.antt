-- `index_segment::bucket::bucket_at` meets its contract.
use native.Mathlib.Omega.{arith}
use Prim.Native.Nat.{◌/◌, ◌<◌}
use mathlib.Core.Path.{◌∙◌}
use lib.ListN.{length}
use Rattle.index_segment.proofs.Words.{chunk_at}
use Rattle.index_segment.proofs.Search.{bucket_chunk}
use Rattle.index_segment.proofs.bucket.bucket_at.Goals as goal

pub returns : goal.returns
returns c =
    let a = c.args.segment.now in
    let b = c.args.number in
    let k : b < length a / 8 = omega arith in
    rw c.as_chunks.ensures.front (chunk_at 8 a (length a / 8) b k ∙ bucket_chunk a b (omega arith))
