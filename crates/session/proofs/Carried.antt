-- What is written and answered of carried bytes is lib.rs's formula of them.
use mathlib.Core.Path.{◌≡◌, refl, sym, ap, subst, ◌∙◌}
use mathlib.Core.Bool.{Bool, true, false, not, ◌&&◌, cond}
use mathlib.Core.List.{List, [], ◌∷◌}
use Prim.Native.Nat.{ℕ, zero, suc, ◌*◌}
use native.Mathlib.Omega.{arith}
use native.Mathlib.Nat.{zero-mul}
use lib.Dec.{eqb, ltb}
use borrow.Author.Tests.{ne_eqb}
use lib.ListN.{drop}
use Rattle.rate.specs.Rate.{signal_rate_limit_word}
use Rattle.session.specs.declared.Rules.{Rules}
use Rattle.session.specs.Bus.{Driver, Answer, good, zero_from}
use Rattle.session.specs.declared.Setting.{Setting}
use Rattle.session.specs.Instructions.{Instruction, range_slot, bytes_from, send_of}
use Rattle.session.specs.Rules.{dss_term_of}
use Rattle.session.specs.Steps.{slot_word, rate_in, period_too_long, op_of}
use Rattle.session.specs.Calls.{tuning, by_code, finishes, range_result, programs, program_of}
use Rattle.session.specs.Machine.{Session, answered, resting, held_by, context_of, kept_of, conclude, arrive, react, stray, outstanding}
use Rattle.session.specs.Records.{reply}
use Rattle.session.specs.History.{step_def}
use Rattle.session.specs.Refusals.{Underway}
use Rattle.session.specs.RustClocks.{limit_contained, limit_word}
use Rattle.session.specs.AnySession.{limit_sent, word_at, range_answer, CarriedWrites, CarriedAnswers, GoesOnAt, NoPeriod}
use Rattle.session.proofs.Cut.{stray_is}
use Rattle.session.proofs.Shape.{and_false}
use Rattle.session.proofs.Slots.{under, within}
use Rattle.session.proofs.Pairs.{met_at, out_at}
use Rattle.session.proofs.Bits.{or_is, and_is, spad_count_is, aperture_is, raw_is, mm_is}
use Rattle.session.proofs.RateLimit.{accepted_is, refused_is, read_is}
use Rattle.session.proofs.Same.{spads_are}

limit_is : (bits : ℕ) → limit_sent bits ≡ rate_in (signal_rate_limit_word bits)
limit_is bits = go (limit_contained bits) refl
  where
    go : (b : Bool) → limit_contained bits ≡ b → cond b (limit_word bits) 0 ≡ rate_in (signal_rate_limit_word bits)
    go true h = rw (accepted_is bits h) refl
    go false h = rw (refused_is bits h) refl

pub carried_writes : (rules : Rules) (s : Session) → CarriedWrites rules s
unfolding program_of programs tuning
carried_writes rules s = (
  λ e e'. rw (e, e', or_is) refl,
  (
    λ e e'. rw (e, e', or_is) refl,
    (
      λ e e'. rw (e, e', or_is) refl,
      (
        λ e e'. rw (e, e', and_is) refl,
        (
          λ e e'. rw (e, e', spads_are, spad_count_is, aperture_is) refl,
          (
            λ e e'. rw (e, e', and_is) refl,
            (
              λ e e'. rw (e, e') refl,
              (
                λ e e'. rw (e, e') refl,
                (
                  λ e e'. rw (e, e') refl,
                  (
                    λ e e'. rw (e, e') refl,
                    (
                      λ e e'. rw (e, e') refl,
                      (
                        λ e e'. rw (e, e', raw_is) refl,
                        (
                          λ e e'. rw (e, e', raw_is) refl,
                          (
                            λ e e'. rw (e, e') refl,
                            (
                              λ e e'. rw (e, e', and_is, or_is) refl,
                              (
                                λ e e'. rw (e, e', limit_is s.a) refl,
                                tt,
                              ),
                            ),
                          ),
                        ),
                      ),
                    ),
                  ),
                ),
              ),
            ),
          ),
        ),
      ),
    ),
  ),
)

-- a good reply to the last instruction of a call
module _ (rules : Rules) (s : Session) (bs : List ℕ) (u : Underway rules s) (clean : zero_from (outstanding rules s).reads bs ≡ true) where
  at_last : (code k : ℕ) (i : Instruction) (x : Answer) (d : Driver) → drop k (program_of rules code).steps ≡ i ∷ []
      → (s.code ≡ code → s.step ≡ k → react (op_of i) (program_of rules code) s (good bs) ≡ answered x s.transfers (resting d))
      → s.code ≡ code → s.step ≡ k → step_def rules s (reply 0 bs) ≡ answered x s.transfers (resting d)
  at_last code k i x d at r e e' =
      let z : zero_from (send_of (op_of i) (context_of s)).reads bs ≡ true = rw (out_at rules s code k i [] e e' at) at clean in
      let n : stray (send_of (op_of i) (context_of s)) 0 bs ≡ false = stray_is (send_of (op_of i) (context_of s)) 0 bs ∙ ap not z in
      met_at rules s code k i [] 0 bs e e' u at ∙ rw n (r e e')

-- the range word or the failure of its read
range_is : (s : Session) → conclude (range_result (context_of s)) s ≡ answered (range_answer s) s.transfers (resting (held_by s.code s.driver))
range_is s = go s.failed refl
  where
    go : (n : ℕ) → s.failed ≡ n → conclude (by_code n (finishes (slot_word range_slot) (context_of s))) s ≡ answered (cond (eqb n 0) (Answer.Done (word_at 4 s.carried)) (Answer.BusError n)) s.transfers (resting (held_by s.code s.driver))
    go zero e = refl
    go (suc n) e = rw (ne_eqb (suc n) 0 (λ z. omega (arith, z))) refl

pub carried_answers : (rules : Rules) (s : Session) (bs : List ℕ) → CarriedAnswers rules s bs
unfolding program_of programs tuning arrive
carried_answers rules s bs u long clean = (
  at_last rules s bs u clean 1 155 (Instruction.Write 0x01 0xE8) _ _ refl (λ e e'. rw (e, e') refl),
  (
    at_last rules s bs u clean 2 0 (Instruction.Read 0xC0 0) _ _ refl (λ e e'. rw (e, e', within (bytes_from 0 1 bs) s.carried 0 0 (omega arith) (omega (arith, long))) refl),
    (
      at_last rules s bs u clean 3 0 Instruction.WriteAddress _ _ refl (λ e e'. rw (e, e') refl),
      (
        at_last rules s bs u clean 4 9 Instruction.WriteMode _ _ refl (λ e e'. rw (e, e') refl),
        (
          at_last rules s bs u clean 5 5 (Instruction.Write 0xFF 0x00) _ _ refl (λ e e'. rw (e, e') refl),
          (
            at_last rules s bs u clean 6 3 (Instruction.Write 0x0B 0x00) _ _ refl (λ e e'. rw (e, e') (rw (e, e') at (range_is s))),
            (
              at_last rules s bs u clean 7 3 (Instruction.Write 0x0B 0x00) _ _ refl (λ e e'. rw (e, e') (rw (e, e') at (range_is s))),
              (
                at_last rules s bs u clean 8 12 (Instruction.Write 0x0B 0x00) _ _ refl (λ e e'. rw (e, e') (rw (e, e') at (range_is s))),
                (
                  at_last rules s bs u clean 9 6 (Instruction.WriteWord 8 Setting.Asked (dss_term_of rules)) _ _ refl (λ e e'. rw (e, e') refl),
                  (
                    at_last rules s bs u clean 10 1 Instruction.WriteHigh _ _ refl (λ e e'. rw (e, e') refl),
                    (
                      at_last rules s bs u clean 11 1 (Instruction.ReadWord 0x0C 10) _ _ refl (λ e e'. rw (e, e', mm_is, under (bytes_from 0 2 bs) s.carried 10 8 (omega arith), under (bytes_from 0 2 bs) s.carried 10 9 (omega arith), within (bytes_from 0 2 bs) s.carried 10 0 (omega arith) (omega (arith, long)), within (bytes_from 0 2 bs) s.carried 10 1 (omega arith) (omega (arith, long))) refl),
                      (
                        at_last rules s bs u clean 12 4 (Instruction.Write 0x0B 0x00) _ _ refl (λ e e'. rw (e, e') refl),
                        (
                          at_last rules s bs u clean 13 1 (Instruction.Write 0x0B 0x00) _ _ refl (λ e e'. rw (e, e') refl),
                          (
                            at_last rules s bs u clean 14 0 Instruction.WriteRate _ _ refl (λ e e'. rw (e, e') refl),
                            (
                              at_last rules s bs u clean 16 0 (Instruction.ReadWord 0x44 8) _ _ refl (λ e e'. rw (e, e', read_is, within (bytes_from 0 2 bs) s.carried 8 0 (omega arith) (omega (arith, long)), within (bytes_from 0 2 bs) s.carried 8 1 (omega arith) (omega (arith, long))) refl),
                              tt,
                            ),
                          ),
                        ),
                      ),
                    ),
                  ),
                ),
              ),
            ),
          ),
        ),
      ),
    ),
  ),
)

-- the oscillator word with no period
pub no_period : (rules : Rules) (s : Session) (bs : List ℕ) → NoPeriod rules s bs
unfolding program_of programs arrive
no_period rules s bs e e' z u clean =
    let i : Instruction = Instruction.ReadOscillator in
    let is : List Instruction = Instruction.WritePeriod ∷ Instruction.WriteMode ∷ [] in
    let c : zero_from (send_of (op_of i) (context_of s)).reads bs ≡ true = rw (out_at rules s 4 7 i is e e' refl) at clean in
    let n : stray (send_of (op_of i) (context_of s)) 0 bs ≡ false = stray_is (send_of (op_of i) (context_of s)) 0 bs ∙ ap not c in
    let u₇ : Session = kept_of s (op_of i) (good bs) in
    let w : ℕ = slot_word 8 (context_of u₇) in
    let p : period_too_long (context_of u₇) ≡ false = ap (λ a. not (eqb w 0) && ltb 4294967295 (a * w)) z ∙ ap (λ a. not (eqb w 0) && ltb 4294967295 a) (zero-mul w) ∙ and_false (not (eqb w 0)) in
    rw (met_at rules s 4 7 i is 0 bs e e' u refl, n, p) (subst (λ k. GoesOnAt 8 (arrive (program_of rules 4) (suc k) u₇)) (sym e') refl)
