-- Call 16 whole, and call 14 with what it answered. SCOPE 5.12: setting what was read sends the word that was read, but for the greatest.
use Rattle.std.specs.Prelude.{◌≡◌, [], ◌∷◌, ℕ, ◌+◌, ◌*◌, ◌<◌, ◌≤◌, length}
use Rattle.rate.specs.Rate.{signal_rate_limit_bits}
use Rattle.session.specs.declared.Rules.{Rules}
use Rattle.session.specs.Bus.{Driver, Answer, transfer_of}
use Rattle.session.specs.Records.{call, reply}
use Rattle.session.specs.Machine.{Session, answered}
use Rattle.session.specs.History.{step_def}
use Rattle.session.specs.Refusals.{Underway}
use Rattle.session.specs.Script.{Trace, sends, ends}
use Rattle.session.specs.Claim2.{Accepted, drive}
use Rattle.session.specs.Claim3.{good1, good2}

-- the word of two bytes, high byte first
abbrev pub limit_word_of : ℕ → ℕ → ℕ
limit_word_of high low = high * 256 + low

-- SCOPE 5.12: the trace of call 16 over a good reply: one read, and the limit of the word; the fields stay
abbrev pub trace_of_call16 : Driver → ℕ → ℕ → Trace
trace_of_call16 d high low =
    sends (transfer_of d.address (0x44 ∷ []) 2) (ends (Answer.Done (signal_rate_limit_bits (limit_word_of high low))) d)

-- every session that accepts the call has it
abbrev pub SessionReadsLimit : Session → ℕ → ℕ → Type 0
SessionReadsLimit s high low =
    high < 256 → low < 256
    → Accepted Rules.Current s 16 0 0
    → drive Rules.Current (good2 high low ∷ []) (step_def Rules.Current s (call 16 0 0)) ≡ trace_of_call16 s.driver high low

-- what is seen of call 14 with A = v, whose reply is good
abbrev pub sets : Rules → ℕ → ℕ → Session → Trace
sets rules v ignored s = drive rules (good1 ignored ∷ []) (step_def rules s (call 14 v 0))

-- SCOPE 5.12: call 14 with the limit of a word, whenever it was read and by either rules: every session that accepts it sends 44 and the word
abbrev pub SetsLimit : Rules → Session → ℕ → ℕ → ℕ → Type 0
SetsLimit rules s high low ignored =
    high < 256 → low < 256 → limit_word_of high low ≤ 65534
    → Accepted rules s 14 (signal_rate_limit_bits (limit_word_of high low)) 0
    → sets rules (signal_rate_limit_bits (limit_word_of high low)) ignored s
    ≡ sends (transfer_of s.driver.address (0x44 ∷ high ∷ low ∷ []) 1) (ends (Answer.Done 0) s.driver)

-- but for the limit of the greatest word, 511.9921875: answer 1, and nothing is sent
abbrev pub DeclinesGreatest : Rules → Session → ℕ → Type 0
DeclinesGreatest rules s ignored =
    Accepted rules s 14 (signal_rate_limit_bits 65535) 0 → sets rules (signal_rate_limit_bits 65535) ignored s ≡ ends Answer.False s.driver

-- a session in which call 16 waits, also one that no run leaves, is answered `v` to a reply with these two bytes, and is `s'` then
pub record Answered16 (s : Session) (high low v n : ℕ) (s' : Session) : Type 0 where
  pub code : s.code ≡ 16
  pub underway : Underway Rules.Current s
  pub long : length s.carried ≡ 24
  pub high_byte : high < 256
  pub low_byte : low < 256
  pub answered : step_def Rules.Current s (reply 0 (high ∷ low ∷ 0 ∷ 0 ∷ 0 ∷ 0 ∷ [])) ≡ answered (Answer.Done v) n s'

-- SCOPE 5.12: then call 14 with A = v sends 44 and the word that was read
abbrev pub SetsWhatWasRead : Session → ℕ → ℕ → ℕ → ℕ → Session → ℕ → Type 0
SetsWhatWasRead s high low v n s' ignored =
    Answered16 s high low v n s' → limit_word_of high low ≤ 65534
    → sets Rules.Current v ignored s' ≡ sends (transfer_of s'.driver.address (0x44 ∷ high ∷ low ∷ []) 1) (ends (Answer.Done 0) s'.driver)

-- SCOPE 5.12: of the word 65535 v is 511.9921875: call 14 is accepted, answers 1, and sends nothing
abbrev pub DeclinesTheGreatest : Session → ℕ → ℕ → Session → ℕ → Type 0
DeclinesTheGreatest s v n s' ignored = Answered16 s 255 255 v n s' → (v ≡ 0x43FF_FF00) × (sets Rules.Current v ignored s' ≡ ends Answer.False s'.driver)
