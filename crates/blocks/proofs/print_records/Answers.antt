-- `blocks::print_records` meets its contract: what is printed so far, and the lines of what is left, are the lines of the whole.
use mathlib.Core.Path.{sym, ap, ◌∙◌}
use mathlib.Core.List.{[]}
use native.Mathlib.Omega.{arith}
use Rattle.std.specs.Prelude.{map}
use Rattle.records.specs.Records.{record_in}
use Rattle.records.proofs.Chunks.{records_chunked}
use Rattle.blocks.proofs.Texts.{going_from, line_fits, goes_on, going_ends}
use Rattle.blocks.proofs.print_records.Goals as goal

pub loop-record-init : goal.loop-record-init
loop-record-init g c = going_from _ _ _ _ (omega (arith, c.as_chunks.ensures.front_len, c.requires))

pub print_record-p-requires : goal.print_record-p-requires
print_record-p-requires g c = line_fits _ _ _ _ c.loop-record.invariant c.loop-record-test.true

pub loop-record-preserved : goal.loop-record-preserved
loop-record-preserved g c = goes_on _ _ _ _ [] c.loop-record.invariant c.loop-record-test.true c.print_record-p.ensures

pub returns : goal.returns
returns g c =
    going_ends _ _ _ _ _ c.loop-record.invariant c.loop-record-test.false c.loop-record.auto.record-index-end
    (sym (records_chunked c.args.bytes.now) ∙ ap (map record_in) (sym c.as_chunks.ensures.front))
