-- What a call, a reply or a record gives, as the code returns it.
use Rattle.session.specs.Machine.{Outcome as Result, sent, answered, refused, broken}
use Rattle.session.specs.declared.Given.{Given}
use Rattle.session.specs.declared.Outcome.{Outcome}

-- an answer stands with the transfers that its call made
unfoldable pub outcome_of : Result → Outcome
outcome_of (sent t s) = record { given = Given.Sent t; session = s }
outcome_of (answered x n s) = record { given = Given.Answered x n; session = s }
outcome_of (refused x s) = record { given = Given.Refused x; session = s }
outcome_of (broken s) = record { given = Given.IllFormed; session = s }
