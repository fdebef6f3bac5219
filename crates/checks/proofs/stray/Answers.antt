-- `checks::stray` meets its contract.
use Rattle.std.proofs.Common.{drop, ◌∙◌}
use Rattle.session.specs.Bus.{clean_from}
use Rattle.checks.specs.Sound.{stray_in}
use Rattle.checks.proofs.Places.{any_set}
use Rattle.checks.proofs.stray.Goals as goal

pub returns : goal.returns
unfolding stray_in
returns c =
    let r = c.args.reply in
    (rw c.clean_from.ensures at c.stray_from.ensures) ∙ any_set (drop (clean_from r.failure c.args.reads) r.data)
