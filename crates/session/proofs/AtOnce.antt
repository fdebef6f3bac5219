-- An accepted call is answered at once exactly by the rows of SCOPE 9.1 for 5, 6 and the first 1; else it makes a transfer.
use borrow.Author.Rules.{rules as author}
use lib.ListN.{length}
use native.Mathlib.Bridge.{le_by_compare, IsLe}
use native.Mathlib.Omega.{arith}
use mathlib.Core.Path.{◌≡◌, refl, ◌∙◌, ap}
use mathlib.Core.Bool.{Bool, true, false, ◌||◌, ◌&&◌, cond}
use mathlib.Core.Option.{Option}
use Prim.Native.Nat.{ℕ, ◌%◌}
use lib.Dec.{ltb}
use lib.Ieee.{binary32, round, of_bits, le}
use Rattle.rate.specs.Rate.{signal_rate_limit_word, rate_of, in_range, literal}
use Rattle.session.specs.declared.Rules.{Rules}
use Rattle.session.specs.Calls.{tuning, programs, program_of, arguments_ok}
use Rattle.session.specs.Machine.{Session, Outcome, context_of, arrive, decide, begun, begin_def}
use Rattle.session.specs.Records.{call}
use Rattle.session.specs.History.{step_def}
use Rattle.session.specs.Refusals.{at_once, first_answer}
use Rattle.session.specs.Claim1.{answer_shown, AtOnce}
use Rattle.session.specs.Claim2.{Accepted}
use Rattle.session.proofs.Table.{AllBelow, last_program, by_code_lem, fits_in, address_fits}
use Rattle.session.proofs.AcceptedIff.{range_is, ready_ok, accepted_iff}
use Rattle.session.proofs.Refused.{not_refused}

abbrev At : Rules → Session → ℕ → ℕ → ℕ → Type 0
At rules s a b code =
    arguments_ok rules code a b ≡ true
    → answer_shown (decide ((program_of rules code).entry (context_of (begun s code a b))) (program_of rules code) (length (program_of rules code).steps) 0 (begun s code a b))
    ≡ first_answer (at_once code a b)

branch : (f : Outcome → Option (ℕ × ℕ × ℕ)) (t : Bool) {x y : Outcome} {p q : Option (ℕ × ℕ × ℕ)} → f x ≡ p → f y ≡ q → f (cond t x y) ≡ cond t p q
branch f true h k = h
branch f false h k = k

at_3 : (rules : Rules) (s : Session) (a b : ℕ) → At rules s a b 3
unfolding program_of programs arrive IsLe
at_3 rules s a b h =
    let q : a % 256 ≡ a = address_fits rules 3 a b (le_by_compare _ _ tt) h in
    branch answer_shown (ltb (a % 256) 0x08 || ltb 0x77 (a % 256)) refl refl ∙ ap (λ (n : ℕ). first_answer (at_once 3 n b)) q

at_9 : (rules : Rules) (s : Session) (a b : ℕ) → At rules s a b 9
unfolding program_of programs arrive
at_9 rules s a b h = branch answer_shown (ltb a 20000) refl refl

at_10 : (rules : Rules) (s : Session) (a b : ℕ) → At rules s a b 10
unfolding program_of programs arrive
at_10 rules s a b h = go (ltb b (a % 65536)) (ltb 8190 (a % 65536)) (ltb 8190 b) refl refl refl ∙ ap (λ (n : ℕ). first_answer (at_once 10 n b)) q
  where
    q : a % 65536 ≡ a
    q = omega (arith, (fits_in rules 10 a b h).0)

    go : (t u v : Bool) → ltb b (a % 65536) ≡ t → ltb 8190 (a % 65536) ≡ u → ltb 8190 b ≡ v
        → answer_shown (decide ((program_of rules 10).entry (context_of (begun s 10 a b))) (program_of rules 10) (length (program_of rules 10).steps) 0 (begun s 10 a b)) ≡ first_answer (at_once 10 (a % 65536) b)
    go true u v e f g = rw e
    go false true v e f g = rw (e, f)
    go false false true e f g = rw (e, f, g)
    go false false false e f g = rw (e, f, g)

at_14 : (rules : Rules) (s : Session) (a b : ℕ) → At rules s a b 14
unfolding program_of programs arrive signal_rate_limit_word rate_of in_range literal
at_14 rules s a b h = go (le (round binary32 false 0 1) (of_bits binary32 a) && le (of_bits binary32 a) (round binary32 false 51199 100)) refl
  where
    go : (t : Bool) → le (round binary32 false 0 1) (of_bits binary32 a) && le (of_bits binary32 a) (round binary32 false 51199 100) ≡ t
        → answer_shown (decide ((program_of rules 14).entry (context_of (begun s 14 a b))) (program_of rules 14) (length (program_of rules 14).steps) 0 (begun s 14 a b)) ≡ first_answer (at_once 14 a b)
    go true e = rw e
    go false e = rw e

each : (rules : Rules) (s : Session) (a b : ℕ) → AllBelow (At rules s a b) 1 (last_program rules)
unfolding program_of programs tuning arrive
each rules s a b = search (author, at_3, at_9, at_10, at_14)

pub answered_at_once : (rules : Rules) (s : Session) (code a b : ℕ) → AtOnce rules s code a b
unfolding begin_def step_def
answered_at_once rules s code a b e =
    let c : Accepted rules s code a b = (accepted_iff rules s code a b).0 (not_refused rules s (call code a b) e) in
    let h : arguments_ok rules code a b ≡ true = range_is rules code a b ∙ c.arguments in
    rw (c.none_waiting, h, ready_ok s code c.ready) (by_code_lem rules (At rules s a b) (each rules s a b) code a b h h)
