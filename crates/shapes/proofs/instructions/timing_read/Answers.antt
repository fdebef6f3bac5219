-- `steps::shapes::timing_read` meets its contract.
use Rattle.std.proofs.Common.{◌≡◌, ◌∙◌, get_or, rules}
use Rattle.shapes.specs.declared.instructions.TheConstants.{TIMING_READS, NO_READ}
use Rattle.shapes.specs.Shapes.{timing_read}
use Rattle.shapes.proofs.Laws.{by_parts}
use Rattle.shapes.proofs.instructions.timing_read.Goals as goal

pub returns : goal.returns
unfolding timing_read
returns c =
    let found : c.unwrap_or.result ≡ get_or TIMING_READS c.args.n NO_READ = search rules in
    found ∙ by_parts TIMING_READS c.args.n NO_READ
