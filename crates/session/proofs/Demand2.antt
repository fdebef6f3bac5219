-- Demand 2: over every list of bus replies an accepted call gives the transfers, the answer and the fields of its Rust function.
use borrow.Author.Rules.{rules as author}
use mathlib.Core.Path.{◌≡◌, refl, sym, ap, ◌∙◌}
use mathlib.Core.Bool.{true, false}
use mathlib.Core.List.{List, [], ◌∷◌, map}
use Prim.Native.Nat.{ℕ}
use native.Mathlib.Omega.{arith}
use lib.ListN.{length}
use Rattle.session.specs.declared.Rules.{Rules}
use Rattle.session.specs.Instructions.{Instruction, Context, Op, Final}
use Rattle.session.specs.Steps.{op_of}
use Rattle.session.specs.Calls.{ops_of, programs, program_of, arguments_ok}
use Rattle.session.specs.Machine.{Session, context_of, decide, begun, not_up, begin_def}
use Rattle.session.specs.History.{step_def}
use Rattle.session.specs.Script.{Raw, play}
use Rattle.session.specs.LaterCalls.{rust}
use Rattle.session.specs.AnySession.{concluded, decided, resume}
use Rattle.session.specs.Claim2.{Accepted, drive, Demand2}
use Rattle.session.proofs.Table.{AllBelow, last_program, by_code_lem}
use Rattle.session.proofs.Good.{begun_marked, decide_goes}
use Rattle.session.proofs.AcceptedIff.{range_is, ready_ok}
use Rattle.session.proofs.OneStep.{alike, decides_stands}
use Rattle.session.proofs.EveryList.{stands_same, every_list}
use Rattle.session.proofs.Tests.{verdict_same}
use Rattle.session.proofs.Once.{once_of}
use Rattle.session.proofs.Eager.{made_once}
use Rattle.session.proofs.Same.{script, each_call}

-- over all the instructions: the end
past_all : (fin : Context → Final) (c : Context) (f : Instruction → Op) (is : List Instruction) → resume fin (length is) (map f is) c ≡ concluded (fin c) c.driver
past_all fin c f [] = refl
past_all fin c f (i ∷ is) = past_all fin c f is

-- a call that is begun is the script of its instructions
pub begin_same : (rules : Rules) (rs : List Raw) (s : Session) (code a b : ℕ) → arguments_ok rules code a b ≡ true → not_up code s.driver.up ≡ false
    → drive rules rs (decide ((program_of rules code).entry (context_of (begun s code a b))) (program_of rules code) (length (program_of rules code).steps) 0 (begun s code a b)) ≡ play (script rules code (context_of (begun s code a b))) rs
begin_same rules rs s code a b h u =
    let t : Session = begun s code a b in
    let c : Context = context_of t in
    let n : ℕ = length (program_of rules code).steps in
    stands_same rules rs (every_list rules rs) t (decide ((program_of rules code).entry c) (program_of rules code) n 0 t) (decided ((program_of rules code).entry c) n c (λ n. resume (program_of rules code).final n (ops_of (program_of rules code)) c))
    (decides_stands rules t ((program_of rules code).entry c) n 0 t (ops_of (program_of rules code)) (alike t) refl)
    (decide_goes rules ((program_of rules code).entry c) t n 0 (record { args = h; marked = begun_marked s code a b u; bound = omega arith }))
    ∙ ap (λ x. play x rs) (verdict_same ((program_of rules code).entry c) n c _ _ (made_once rules code c) (past_all (program_of rules code).final c op_of (program_of rules code).steps ∙ sym (past_all (program_of rules code).final c once_of (program_of rules code).steps)))

each : (rules : Rules) (s : Session) (a b : ℕ) → AllBelow (λ n. script rules n (context_of (begun s n a b)) ≡ rust rules s.driver n a b) 1 (last_program rules)
unfolding programs
each rules s a b =
    search (author, each_call)

pub demand_2 : (rules : Rules) (s : Session) (code a b : ℕ) → Accepted rules s code a b → (rs : List Raw) → Demand2 rules s code a b rs
unfolding begin_def step_def
demand_2 rules s code a b c rs =
    let h : arguments_ok rules code a b ≡ true = range_is rules code a b ∙ c.arguments in
    let u : not_up code s.driver.up ≡ false = ready_ok s code c.ready in
    rw (c.none_waiting, h, u)
    (begin_same rules rs s code a b h u ∙ ap (λ x. play x rs) (by_code_lem rules (λ n. script rules n (context_of (begun s n a b)) ≡ rust rules s.driver n a b) (each rules s a b) code a b h))
