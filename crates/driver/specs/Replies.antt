-- Calls and replies, over the plain data of the session's instruction. That they are the machine's is proved.
use Rattle.std.specs.Prelude.{cond, length, Option, Some, None}
use Rattle.session.specs.declared.Rules.{Rules}
use Rattle.session.specs.declared.Transfer.{Transfer}
use Rattle.session.specs.Machine.{outstanding as first_sent}
use Rattle.session.specs.declared.Session.{Session}
use Rattle.session.specs.Calls.{program_of}
use Rattle.session.specs.Machine.{Outcome as Result, waits_now, malformed, context_of, decide}

-- a call that is not refused
unfoldable pub launching : Rules → Session → Result
launching rules s = decide ((program_of rules s.code).entry (context_of s)) (program_of rules s.code) (length (program_of rules s.code).steps) 0 s

-- the transfer that a waiting session has out; none where no call waits or the session is ill-formed
unfoldable pub outstanding_of : Rules → Session → Option Transfer
outstanding_of rules s = cond (waits_now s) (cond (malformed rules s) None (Some (first_sent rules s))) None
