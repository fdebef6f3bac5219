-- `records::runs::run_fresh` meets its contract.
use mathlib.Core.Path.{refl}
use Rattle.records.proofs.Meets.{fresh_run}
use Rattle.records.proofs.runs.run_fresh.Goals as goal

pub returns : goal.returns
returns c =
    record {
      runs_fresh = fresh_run c.args.rules c.args.bytes.now c.fresh.result c.run.result c.run.ensures.value c.fresh.ensures;
      bytes_kept = refl;
    }
