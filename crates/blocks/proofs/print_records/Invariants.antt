use Rattle.blocks.proofs.Texts.{Going}
use Rattle.blocks.proofs.print_records.Given as goal

abbrev pub invariant-loop-record : goal.invariant-loop-record
invariant-loop-record g l = Going g.S.Show.line_of l.fn.s l.records l.initial.out l.out l.p l.record-index
