-- A record from eight bytes is what the definition shows.
use mathlib.Core.Path.{sym, refl}
use borrow.Author.Tests.{eq-eqb, ne_eqb}
use Rattle.records.specs.Records.{record_in, shown}
use Rattle.records.proofs.Decoded.{word_of, long_of}
use Rattle.records.proofs.one.RecordFromArrayU88.from.Goals as goal

pub returns-then-kind-eq1 : goal.returns-then-kind-eq1
unfolding shown record_in
returns-then-kind-eq1 c =
    rw (c.from_be_bytes.ensures, c.from_be_bytes-then-kind-eq1.ensures, long_of, word_of) (sym (rw (eq-eqb _ _ c.if-kind-eq1.true) refl))

pub returns-then-kind-eq2 : goal.returns-then-kind-eq2
unfolding shown record_in
returns-then-kind-eq2 c = sym (rw (ne_eqb _ _ c.if-kind-eq1.false, eq-eqb _ _ c.if-kind-eq2.true) refl)

pub returns-else-kind-eq2 : goal.returns-else-kind-eq2
unfolding shown record_in
returns-else-kind-eq2 c = sym (rw (ne_eqb _ _ c.if-kind-eq1.false, ne_eqb _ _ c.if-kind-eq2.false) refl)
