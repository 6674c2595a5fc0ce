-- What the scan answers, and where it stands behind each entry.
use Rattle.std.specs.Prelude.{Result, Ok, Err, ℕ, ◌+◌, ◌≡◌, true, ◌&&◌, List, ltb, eqb}
use Rattle.std.proofs.Math.Option.{Option, none, some}
use Rattle.stores.specs.Lists.{pick}
use Rattle.replies.specs.declared.Refusal.{Refusal}
use Rattle.replies.specs.declared.Refusal.TheVariants.{Broken}
use Rattle.index_rules.specs.Layout.{depth, segments, local_depth}
use Rattle.index_rules.specs.Keys.{width}
use Rattle.index_rules.specs.Scan.{valid_leader, leaders_valid}
use Rattle.index_layout.specs.declared.header.Header.{Header}
use Rattle.index_layout.specs.Headers.{Describes}
use Rattle.index_directory.specs.declared.scan.LedBlock.{LedBlock}
use Rattle.index_directory.specs.declared.scan.ScanStep.{ScanStep}

-- What a scan answers, as a refusal of document 01, 'broken' or 'unmended', or none.
abbrev pub verdict_of : Result Unit Refusal → Option Refusal
verdict_of (Ok _) = none
verdict_of (Err r) = some r

-- The block that the entry e, at index i, leads in the directory of depth g.
abbrev pub block_led_by : (g i e : ℕ) → LedBlock
block_led_by g i e = record { leading = e; end = i + width g (local_depth e) }

-- Where a scan that stood at s stands behind the entry e of index i: in the block of s until that ends, `agree` being false
-- from the first entry on that differs from its leader; then in the block that e leads, if e is valid there.
unfoldable pub scan_at : (g S i e : ℕ) → ScanStep → Result ScanStep Refusal
scan_at g S i e s =
    pick (ltb i s.block.end) (Ok (record { block = s.block; agree = s.agree && eqb e s.block.leading }))
    (pick (valid_leader g S i e) (Ok (record { block = block_led_by g i e; agree = s.agree })) (Err Broken))

-- The header is what a valid word 0 says, and every leader is valid.
abbrev pub LeadersRead : Header → List ℕ → Type 0
LeadersRead h a = Describes h a × (leaders_valid a (depth a) (segments a) ≡ true)
