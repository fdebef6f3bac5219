-- Call 16 over its reply, and call 14 with its value: the Rust's scripts, by demand 2, with the leaf's laws of a word that is read back.
use mathlib.Core.Path.{◌≡◌, refl, sym, ap, subst, ◌∙◌}
use mathlib.Core.Bool.{Bool, true, false}
use mathlib.Core.List.{List, [], ◌∷◌}
use Prim.Native.Nat.{ℕ, zero, suc, ◌/◌, ◌%◌, ◌<◌}
use native.Mathlib.Nat.{mod-eq_of_lt, le_of_suc-le-suc}
use native.Mathlib.Omega.{arith}
use lib.ListN.{drop, get_or}
use borrow.Author.Tests.{le-leb, not-false}
use Rattle.std.specs.Prelude.{Option, None, Some}
use Rattle.rate.specs.Rate.{signal_rate_limit_word, signal_rate_limit_bits}
use Rattle.rate.proofs.ReadBack.{fits, same, read_back}
use Rattle.session.specs.declared.Rules.{Rules}
use Rattle.session.specs.Bus.{Driver, Answer, byte, values_of, transfer_of, zero_from}
use Rattle.session.specs.Instructions.{Instruction}
use Rattle.session.specs.Calls.{ops_of, programs, program_of}
use Rattle.session.specs.Machine.{Session, Outcome, sent, answered, refused, broken, resting, idle_wrong, up_wrong, malformed, outstanding}
use Rattle.session.specs.Records.{reply}
use Rattle.session.specs.History.{step_def, session_of}
use Rattle.session.specs.Script.{Trace, sends, ends, heard, play}
use Rattle.session.specs.RustClocks.{limit_contained}
use Rattle.session.specs.RustBringUp.{calls}
use Rattle.session.specs.LaterCalls.{limit_of_raw, later_calls, rust}
use Rattle.session.specs.Refusals.{call_rows}
use Rattle.session.specs.Claim2.{while_up, Accepted}
use Rattle.session.specs.Claim3.{good1, good2}
use Rattle.session.specs.AnySession.{word_sent, answers_of, EachAnswer}
use Rattle.session.specs.ReadLimit.{limit_word_of, SessionReadsLimit, sets, SetsLimit, DeclinesGreatest, Answered16, SetsWhatWasRead, DeclinesTheGreatest}
use Rattle.ground.proofs.Facts.{untrue, or_parts}
use Rattle.session.proofs.Strays.{sound_step}
use Rattle.session.proofs.Refused.{sound_of}
use Rattle.session.proofs.Pairs.{out_at}
use Rattle.session.proofs.RateLimit.{accepted_is, refused_is, read_is}
use Rattle.session.proofs.Carried.{carried_answers}
use Rattle.session.proofs.Demand2.{demand_2}

-- ---- a word of two bytes
word_lt : (high low : ℕ) → high < 256 → low < 256 → limit_word_of high low < 65536
word_lt high low h l = omega arith

limit_of : (high low : ℕ) → high < 256 → low < 256 → limit_of_raw (limit_word_of high low) ≡ signal_rate_limit_bits (limit_word_of high low)
limit_of high low h l = rw read_is (ap signal_rate_limit_bits (mod-eq_of_lt (word_lt high low h l)))

bytes_of_word : (high low : ℕ) → high < 256 → low < 256 → word_sent (limit_word_of high low) ≡ high ∷ low ∷ []
bytes_of_word high low h l =
    let p : limit_word_of high low / 256 % 256 ≡ high = omega (arith, h, l) in
    let q : limit_word_of high low % 256 ≡ low = omega (arith, h, l) in
    rw (p, q)

-- ---- call 16 from its start
rust_reads : (d : Driver) (high low : ℕ) → play (rust Rules.Current d 16 0 0) (good2 high low ∷ []) ≡ sends (transfer_of d.address (0x44 ∷ []) 2) (ends (Answer.Done (limit_of_raw (limit_word_of high low))) d)
unfolding rust calls later_calls play heard
rust_reads d high low = refl

pub session_reads_limit : (s : Session) (high low : ℕ) → SessionReadsLimit s high low
session_reads_limit s high low h l accepted =
    demand_2 Rules.Current s 16 0 0 accepted (good2 high low ∷ []) ∙ rust_reads s.driver high low
    ∙ ap (λ v. sends (transfer_of s.driver.address (0x44 ∷ []) 2) (ends (Answer.Done v) s.driver)) (limit_of high low h l)

-- ---- a session in which call 16 waits
up_step : (s : Session) → s.code ≡ 16 → malformed Rules.Current s ≡ false → s.driver.up ≡ true
unfolding malformed
up_step s e m =
    let marked : up_wrong s.code s.driver.up ≡ false = (or_parts _ _ (or_parts _ _ (or_parts _ _ (or_parts _ _ m).0).0).0).1 in
    not-false s.driver.up (rw e at marked)

only_step : (s : Session) → s.code ≡ 16 → malformed Rules.Current s ≡ false → s.step ≡ 0
unfolding program_of programs
only_step s e m = go s.step (rw e at (sound_step Rules.Current s m))
  where
    go : (k : ℕ) → idle_wrong 16 (drop k (ops_of (program_of Rules.Current 16))) s.idle ≡ false → k ≡ 0
    go zero h = refl
    go (suc zero) h = untrue (sym h)
    go (suc (suc k)) h = untrue (sym h)

-- the row of `answers_of` at a place
abbrev Row : (s : Session) → List ℕ → List (ℕ × ℕ × Answer × Driver) → ℕ → Type 0
Row s bs [] i = Unit {0}
Row s bs (r ∷ rs) zero = s.code ≡ r.0 → s.step ≡ r.1 → step_def Rules.Current s (reply 0 bs) ≡ answered r.2 s.transfers (resting r.3)
Row s bs (r ∷ rs) (suc i) = Row s bs rs i

row_at : (s : Session) (bs : List ℕ) (rs : List (ℕ × ℕ × Answer × Driver)) (i : ℕ) → EachAnswer Rules.Current s bs rs → Row s bs rs i
row_at s bs [] i h = tt
row_at s bs (r ∷ rs) zero h = h.0
row_at s bs (r ∷ rs) (suc i) h = row_at s bs rs i h.1

abbrev value_in : Outcome → ℕ
value_in (sent t s) = 0
value_in (answered x n s) = byte 0 (values_of x)
value_in (refused x s) = 0
value_in (broken s) = 0

-- ---- the Rust's call 14, by the leaf's word
abbrev by_word : Driver → Option ℕ → Trace
by_word d None = ends Answer.False d
by_word d (Some w) = sends (transfer_of d.address (0x44 ∷ word_sent w) 1) (ends (Answer.Done 0) d)

rust_sets : (rules : Rules) (d : Driver) (v ignored : ℕ) → play (rust rules d 14 v 0) (good1 ignored ∷ []) ≡ by_word d (signal_rate_limit_word v)
unfolding rust calls later_calls play heard
rust_sets rules d v ignored = go (limit_contained v) refl
  where
    go : (b : Bool) → limit_contained v ≡ b → play (rust rules d 14 v 0) (good1 ignored ∷ []) ≡ by_word d (signal_rate_limit_word v)
    go true e = rw (accepted_is v e, e)
    go false e = rw (refused_is v e, e)

sets_by_word : (rules : Rules) (s : Session) (v ignored : ℕ) → Accepted rules s 14 v 0 → sets rules v ignored s ≡ by_word s.driver (signal_rate_limit_word v)
sets_by_word rules s v ignored accepted = demand_2 rules s 14 v 0 accepted (good1 ignored ∷ []) ∙ rust_sets rules s.driver v ignored

pub sets_limit : (rules : Rules) (s : Session) (high low ignored : ℕ) → SetsLimit rules s high low ignored
sets_limit rules s high low ignored h l le accepted =
    sets_by_word rules s (signal_rate_limit_bits (limit_word_of high low)) ignored accepted
    ∙ ap (by_word s.driver) (same (limit_word_of high low) le)
    ∙ ap (λ bs. sends (transfer_of s.driver.address (0x44 ∷ bs) 1) (ends (Answer.Done 0) s.driver)) (bytes_of_word high low h l)

pub declines_limit : (rules : Rules) (s : Session) (ignored : ℕ) → DeclinesGreatest rules s ignored
declines_limit rules s ignored accepted =
    sets_by_word rules s (signal_rate_limit_bits 65535) ignored accepted ∙ ap (by_word s.driver) read_back.greatest

module _ (s : Session) (high low v n : ℕ) (s' : Session) (r : Answered16 s high low v n s') where
  abbrev word : ℕ
  word = limit_word_of high low

  abbrev bytes : List ℕ
  bytes = high ∷ low ∷ 0 ∷ 0 ∷ 0 ∷ 0 ∷ []

  good : (malformed Rules.Current s ≡ false)
  good = (sound_of Rules.Current s r.underway).1

  clean : zero_from (outstanding Rules.Current s).reads bytes ≡ true
  unfolding program_of programs
  clean = rw (out_at Rules.Current s 16 0 (Instruction.ReadWord 0x44 8) [] r.code (only_step s r.code good) refl) refl

  answer_is : answered (Answer.Done v) n s' ≡ answered (Answer.Done (limit_of_raw word)) s.transfers (resting s.driver)
  answer_is = sym r.answered ∙ row_at s bytes (answers_of s bytes) 14 (carried_answers Rules.Current s bytes r.underway r.long clean) r.code (only_step s r.code good)

  value_is : v ≡ signal_rate_limit_bits word
  value_is = ap value_in answer_is ∙ limit_of high low r.high_byte r.low_byte

  left_is : s' ≡ resting s.driver
  left_is = ap session_of answer_is

  -- call 14 with the value is accepted there
  accepted : Accepted Rules.Current s' 14 v 0
  unfolding call_rows
  accepted =
      record {
        none_waiting = ap (λ x. x.code) left_is;
        arguments = rw (le-leb v 4294967295 (rw value_is (le_of_suc-le-suc (fits word)))) refl;
        ready = while_up (ap (λ x. x.driver.up) left_is ∙ up_step s r.code good);
      }

pub sets_what_was_read : (s : Session) (high low v n : ℕ) (s' : Session) (ignored : ℕ) → SetsWhatWasRead s high low v n s' ignored
sets_what_was_read s high low v n s' ignored r le =
    let e : v ≡ signal_rate_limit_bits (limit_word_of high low) = value_is s high low v n s' r in
    ap (λ b. sets Rules.Current b ignored s') e
    ∙ sets_limit Rules.Current s' high low ignored r.high_byte r.low_byte le (subst (λ b. Accepted Rules.Current s' 14 b 0) e (accepted s high low v n s' r))

pub declines_the_greatest : (s : Session) (v n : ℕ) (s' : Session) (ignored : ℕ) → DeclinesTheGreatest s v n s' ignored
declines_the_greatest s v n s' ignored r =
    let e : v ≡ signal_rate_limit_bits 65535 = value_is s 255 255 v n s' r in (
      e ∙ ap (λ l. get_or l 5 0) read_back.values,
      ap (λ b. sets Rules.Current b ignored s') e ∙ declines_limit Rules.Current s' ignored (subst (λ b. Accepted Rules.Current s' 14 b 0) e (accepted s 255 255 v n s' r)),
    )
