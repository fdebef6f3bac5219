-- What is written for what is read. The bytes that a reader has left and those that a writer holds are known as far as their types tell them
-- (`remaining` and `contents` of std's `Read` and `Write`); where they are not, nothing is said of them.
use Rattle.std.specs.Prelude.{◌≡◌, ℕ, ◌%◌, ◌<◌, ◌≤◌, List, Option, Some, None, Result, IfSome, IfOk, IfErr, OnOk, length, take, ⊤}
use Rattle.std.specs.Io.{StartsWith}
use Rattle.std.specs.Io.KnownBytes.{Appends, Consumes, IsAtEnd}
use Rattle.session.specs.declared.Session.{Session}
use Rattle.session.specs.Records.{records_of}
use Rattle.session.specs.declared.Outcome.{Outcome}
use Rattle.blocks.specs.Blocks.{lines_of, session_past}
use Rattle.blocks.specs.Input.{text_from}
use Rattle.blocks.specs.Laws.{whole_part}
use Rattle.console.specs.declared.failure.Failure.{Failure}
use Rattle.console.specs.Failures.{TriedAgain, FailedToRead, FailedToWrite, OnRead}

-- what a writer got is the start of a text, and at `Ok` the whole of it
pub record Writes {A : Type 0} (text : List ℕ) (was now : Option (List ℕ)) (r : Result A Failure) : Type 0 where
  pub part : List ℕ
  pub appended : Appends was now part
  pub start : StartsWith text part
  pub whole : OnOk r (part ≡ text)
  pub side : FailedToWrite r
  pub again : TriedAgain r

-- a block is filled from its start on, and left short only at the end of the input or where reading fails
pub record Fills (given left : Option (List ℕ)) (was block : List ℕ) (count : ℕ) (ended : Result ⊤ Failure) : Type 0 where
  pub size : length block ≡ length was
  pub within : count ≤ length block
  pub taken : Consumes given left (take count block)
  pub at_end : OnOk ended (count < length block → IsAtEnd left)
  pub side : FailedToRead ended
  pub again : TriedAgain ended

-- every whole record of what was read has its line
pub record Told (line : Outcome → List ℕ) (s : Session) (given left : Option (List ℕ)) (written : List ℕ) : Type 0 where
  pub bytes : List ℕ
  pub taken : Consumes given left bytes
  pub lines : written ≡ lines_of line s (records_of bytes)

-- after a block: whole records and the session that they lead to where another block is to come, and none where the input has ended
abbrev pub After : (Outcome → List ℕ) → List ℕ → Session → Option (List ℕ) → List ℕ → Option Session → Option (List ℕ) → Type 0
After line spare s given part (Some t) left =
    (p : Told line s given left part) × (length p.bytes % 8 ≡ 0) × (t ≡ session_past s (records_of p.bytes))
After line spare s given part None left = IfSome given (λ bytes. part ≡ text_from line spare s bytes) × IsAtEnd left

pub record PrintsBlock (line : Outcome → List ℕ) (spare : List ℕ) (s : Session) (given left was now : Option (List ℕ)) (r : Result (Option Session) Failure)
    : Type 0 where
  pub written : List ℕ
  pub appended : Appends was now written
  pub start : IfSome given (λ bytes. StartsWith (text_from line spare s bytes) written)
  pub after : IfOk r (λ o. After line spare s given written o left)
  pub none_lost : IfErr r (OnRead (Told line s given left written))
  pub again : TriedAgain r

-- SCOPE 10.1: the whole records, whatever the pieces, and then what comes after them. What is written is always the start of the input's text, and
-- at `Ok` the whole of it, and the input is read to its end; where reading fails it is the text of the whole records that were read. `text` is what a
-- program prints for an input. That only a read or a write that failed leads to `Err` is not said: std's `Read` and `Write` keep no account of failures
pub record PrintsInput {A : Type 0} (text : List ℕ → List ℕ) (given left was now : Option (List ℕ)) (r : Result A Failure) : Type 0 where
  pub written : List ℕ
  pub appended : Appends was now written
  pub start : IfSome given (λ bytes. StartsWith (text bytes) written)
  pub whole : OnOk r (IfSome given (λ bytes. written ≡ text bytes))
  pub end : OnOk r (IsAtEnd left)
  pub none_lost : IfErr r (OnRead ((bytes : List ℕ) × Consumes given left bytes × (written ≡ text (whole_part bytes))))
  pub again : TriedAgain r
