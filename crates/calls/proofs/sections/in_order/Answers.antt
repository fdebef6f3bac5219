-- `calls::sections::in_order` meets its contract.
use Rattle.std.proofs.Common.{sym, ◌∙◌, arith}
use Rattle.calls.specs.Calls.{step_of}
use Rattle.calls.proofs.Steps.{in_table, after_table, after_all}
use Rattle.calls.proofs.sections.in_order.Goals as goal

pub returns-then-i-table : goal.returns-then-i-table
unfolding step_of
returns-then-i-table c = sym (in_table c.args.tables.now c.loop-table.table-index c.loop-table.i _ (omega arith) (omega arith)) ∙ c.loop-table.invariant

pub loop-table-preserved : goal.loop-table-preserved
loop-table-preserved c = sym (after_table c.args.tables.now c.loop-table.table-index c.loop-table.i _ (omega arith) (omega arith)) ∙ c.loop-table.invariant

pub returns : goal.returns
returns c = sym (after_all c.args.tables.now c.loop-table.table-index c.loop-table.i (omega arith)) ∙ c.loop-table.invariant
