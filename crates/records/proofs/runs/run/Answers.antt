-- `records::runs::run` meets its contract.
use mathlib.Core.Path.{ap, ◌∙◌}
use Rattle.std.proofs.Common.{Result, rules, ◌≡◌}
use Rattle.session.specs.declared.Answer.{Answer}
use Rattle.records.specs.declared.runs.Progress.{Progress}
use Rattle.records.specs.Runs.{finished, no_counts}
use Rattle.records.proofs.Meets.{runs}
use Rattle.records.proofs.runs.run.Goals as goal

pub returns-in-Ok-clause-value : goal.returns-in-Ok-clause-value
unfolding finished
returns-in-Ok-clause-value c =
    let a = c.args in
    ap (λ (r : Result Progress Answer). finished r a.s) c.in-Ok.ensures ∙ runs a.rules a.s a.bytes.now

pub returns-in-Err-clause-value : goal.returns-in-Err-clause-value
unfolding finished
returns-in-Err-clause-value c =
    let a = c.args in
    let e : c.default.result ≡ no_counts = search rules in
    rw e (ap (λ (r : Result Progress Answer). finished r a.s) c.in-Err.ensures ∙ runs a.rules a.s a.bytes.now)
