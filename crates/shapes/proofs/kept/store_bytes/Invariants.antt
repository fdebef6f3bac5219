use Rattle.std.proofs.Common.{◌≡◌, ◌+◌, ◌-◌, length}
use Rattle.session.specs.Instructions.{bytes_from, put}
use Rattle.shapes.proofs.kept.store_bytes.Given as goal

abbrev pub invariant-loop-k : goal.invariant-loop-k
invariant-loop-k l = (length l.next ≡ 24) × put l.next (l.slot + l.k) (bytes_from l.k (l.n - l.k) l.bytes) ≡ put l.initial.next l.slot (bytes_from 0 l.n l.bytes)
