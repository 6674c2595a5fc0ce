-- `index_segment::bucket::window_bucket` meets its contract.
use native.Mathlib.Omega.{arith}
use Rattle.index_laws.proofs.Keys.{bucket_mod, window_bucket_mod}
use Rattle.index_segment.proofs.bucket.window_bucket.Goals as goal

pub returns-clause-number : goal.returns-clause-number
returns-clause-number c = rw (window_bucket_mod c.args.key c.args.b, c.open_key-opened.ensures.0)

pub overflow_add-result : goal.overflow_add-result
overflow_add-result c = omega (arith, bucket_mod c.args.key, c.open_key-opened.ensures.0)
