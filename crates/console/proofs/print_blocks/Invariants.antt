-- What was read in whole blocks was told, and the session after them is reached.
use Rattle.std.proofs.Common.{◌≡◌, ℕ, List, Some, length}
use Rattle.std.specs.Io.KnownBytes.{Appends}
use Rattle.session.specs.Machine.{fresh_session}
use Rattle.console.specs.Streams.{After}
use Rattle.console.proofs.print_blocks.Given as goal

abbrev pub invariant-loop : goal.invariant-loop
invariant-loop g l =
    (length l.block ≡ length l.initial.block) × (length l.text ≡ length l.initial.text)
    × ((written : List ℕ) × Appends (g.W.Write.contents l.initial.writer) (g.W.Write.contents l.writer) written
    × After g.S.Show.line_of g.S.Show.spare fresh_session (g.R.Read.remaining l.initial.reader) written (Some l.s) (g.R.Read.remaining l.reader))
