-- What ends a program before its input does, and what only wants another try.
use Rattle.std.specs.Prelude.{◌≡◌, Bool, true, false, Result, IfErr, ⊤}
use Rattle.std.specs.declared.io.Error.{Error}
use Rattle.std.specs.declared.io.ErrorKind.{ErrorKind}
use Rattle.std.specs.IoError.{error_kind}
use Rattle.console.specs.declared.failure.Failure.{Failure}

-- a signal that came before any byte did, and a descriptor that does not block and has no byte yet
abbrev pub wants_another_try : ErrorKind → Bool
wants_another_try ErrorKind.Interrupted = true
wants_another_try ErrorKind.WouldBlock = true
wants_another_try _ = false

abbrev pub reason : Failure → Error
reason (Failure.Read e) = e
reason (Failure.Write e) = e

-- whoever sees a failure has been refused, and not only asked to wait
abbrev pub TriedAgain : {A : Type 0} → Result A Failure → Type 0
TriedAgain r = IfErr r (λ f. wants_another_try (error_kind (reason f)) ≡ false)

abbrev pub IsRead : Failure → Type 0
IsRead (Failure.Read e) = ⊤
IsRead (Failure.Write e) = ⊥

abbrev pub IsWrite : Failure → Type 0
IsWrite (Failure.Read e) = ⊥
IsWrite (Failure.Write e) = ⊤

-- what failed is said as what it was
abbrev pub FailedToRead : {A : Type 0} → Result A Failure → Type 0
FailedToRead r = IfErr r IsRead

abbrev pub FailedToWrite : {A : Type 0} → Result A Failure → Type 0
FailedToWrite r = IfErr r IsWrite

-- what is said where reading failed
abbrev pub OnRead : Type 0 → Failure → Type 0
OnRead P (Failure.Read e) = P
OnRead P (Failure.Write e) = ⊤
