-- `new` of lib.rs. SCOPE 2.1: it is call 1 at the address 0x29.
use Rattle.std.specs.Prelude.{◌≡◌, List}
use Rattle.session.specs.declared.Rules.{Rules}
use Rattle.session.specs.declared.Session.{Session}
use Rattle.session.specs.Calls.{default_address}
use Rattle.session.specs.Machine.{begin_def}
use Rattle.session.specs.Script.{Raw, play}
use Rattle.session.specs.RustBringUp.{new}
use Rattle.session.specs.Claim2.{drive}

-- what `begin_new` begins is the Rust's own `new`: from every session in which no call waits, over every list of bus replies, the same transfers in
-- the same order, the same answer and the same fields
abbrev pub BeginsNew : Type 0
BeginsNew = (rules : Rules) (s : Session) → s.code ≡ 0 → (replies : List Raw) → drive rules replies (begin_def rules s 1 default_address 0) ≡ play (new rules) replies
