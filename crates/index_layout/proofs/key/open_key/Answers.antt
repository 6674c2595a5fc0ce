-- `index_layout::key::open_key` meets its contract.
use Rattle.index_laws.proofs.Keys.{folded_xor, bucket_mod, bits_div}
use Rattle.index_layout.proofs.key.open_key.Goals as goal

pub returns : goal.returns
returns c = (rw (bucket_mod, folded_xor), rw (bits_div, folded_xor))
