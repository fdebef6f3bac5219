-- `reader::events::event_at` meets its contract.
use mathlib.Core.Path.{refl, sym, ◌∙◌}
use Rattle.records.proofs.Decoded.{meant_shown}
use Rattle.reader.specs.Events.{event_at}
use Rattle.reader.proofs.events.event_at.Goals as goal

pub returns-then-has_room : goal.returns-then-has_room
unfolding event_at
returns-then-has_room c =
    (rw (c.from.ensures, meant_shown, c.record_at.ensures) at c.event_of.ensures)
    ∙ sym (rw (sym c.if-has_room.ensures) refl)
