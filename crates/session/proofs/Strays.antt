-- A reply is refused with answer 12 exactly where it has a stray byte.
use mathlib.Core.Path.{◌≡◌, refl, sym, ap, subst, ◌∙◌}
use mathlib.Core.Logic.{◌↔◌}
use mathlib.Core.Bool.{Bool, true, false, not, ◌||◌, ◌&&◌}
use mathlib.Core.List.{List, [], ◌∷◌}
use Prim.Native.Nat.{ℕ, zero, suc, ◌≤◌, zero-le}
use native.Mathlib.Omega.{arith}
use native.Mathlib.Nat.{not-suc-le-zero, le_of_suc-le-suc}
use lib.Dec.{eqb, ltb}
use lib.ListN.{drop}
use borrow.Author.Tests.{eqb-true, eqb-false, ne_eqb, not-true, not-false}
use Rattle.session.specs.declared.Rules.{Rules}
use Rattle.session.specs.Records.{reply}
use Rattle.session.specs.History.{step_def}
use Rattle.session.specs.Bus.{Transfer, Answer, byte, zero_from}
use Rattle.session.specs.Instructions.{Op, send_of}
use Rattle.session.specs.Calls.{ops_of, program_of, ceiling_of, arguments_ok}
use Rattle.session.specs.Machine.{Session, refused, context_of, to_reply, stray, on_ops, first_transfer_out, outstanding, idle_wrong, up_wrong, malformed, waits_now, ill_formed, reply_def}
use Rattle.session.specs.Claim1.{refusal_number, Stray, past_length, beside_failure, Accepts}
use Rattle.ground.proofs.Facts.{cond_case, both, clash, untrue, or_parts}
use Rattle.session.proofs.Cut.{stray_is}
use Rattle.session.proofs.Accepts.{react_accepts}

found : (n : ℕ) (bs : List ℕ) → zero_from n bs ≡ false → (i : ℕ) × (n ≤ i) × (byte i bs ≡ 0 → ⊥)
found n [] e = untrue (sym e)
found zero (x ∷ xs) e = go (eqb x 0) refl e (λ q. found zero xs q)
  where
    go : (b : Bool) → eqb x 0 ≡ b → b && zero_from zero xs ≡ false → (zero_from zero xs ≡ false → (i : ℕ) × (0 ≤ i) × (byte i xs ≡ 0 → ⊥)) → (i : ℕ) × (0 ≤ i) × (byte i (x ∷ xs) ≡ 0 → ⊥)
    go true h q k = let f = k q in (suc f.0, zero-le, f.2)
    go false h q k = (0, zero-le, eqb-false x 0 h)
found (suc n) (x ∷ xs) e = let f = found n xs e in let le : n ≤ f.0 = f.1 in (suc f.0, omega arith, f.2)

all_zero_lem : (n : ℕ) (bs : List ℕ) → zero_from n bs ≡ true → (i : ℕ) → n ≤ i → byte i bs ≡ 0
all_zero_lem n [] e zero h = refl
all_zero_lem n [] e (suc i) h = refl
all_zero_lem zero (x ∷ xs) e zero h = eqb-true x 0 (both (eqb x 0) (zero_from zero xs) e).0
all_zero_lem zero (x ∷ xs) e (suc i) h = all_zero_lem zero xs (both (eqb x 0) (zero_from zero xs) e).1 i zero-le
all_zero_lem (suc n) (x ∷ xs) e zero h = absurd (not-suc-le-zero h)
all_zero_lem (suc n) (x ∷ xs) e (suc i) h = all_zero_lem n xs e i (le_of_suc-le-suc h)

strays : (t : Transfer) (f : ℕ) (bs : List ℕ) → stray t f bs ≡ true → Stray t.reads f bs
strays t zero bs e = let q = found t.reads bs (not-true (zero_from t.reads bs) (sym (stray_is t zero bs) ∙ e)) in past_length refl q.0 q.1 q.2
strays t (suc k) bs e = let q = found 0 bs (not-true (zero_from 0 bs) (sym (stray_is t (suc k) bs) ∙ e)) in beside_failure (λ h. omega arith) q.0 q.2

is_stray : (t : Transfer) (f : ℕ) (bs : List ℕ) → Stray t.reads f bs → stray t f bs ≡ true
is_stray t f bs (past_length e i le h) = subst (λ n. stray t n bs ≡ true) (sym e) (stray_is t 0 bs ∙ go (zero_from t.reads bs) refl)
  where
    go : (b : Bool) → zero_from t.reads bs ≡ b → not b ≡ true
    go true q = absurd (h (all_zero_lem t.reads bs q i le))
    go false q = refl
is_stray t zero bs (beside_failure e i h) = absurd (e refl)
is_stray t (suc k) bs (beside_failure e i h) = stray_is t (suc k) bs ∙ go (zero_from 0 bs) refl
  where
    go : (b : Bool) → zero_from 0 bs ≡ b → not b ≡ true
    go true q = absurd (h (all_zero_lem 0 bs q i zero-le))
    go false q = refl

-- a sound session stands at an operation
pub sound_step : (rules : Rules) (s : Session) → malformed rules s ≡ false → idle_wrong s.code (drop s.step (ops_of (program_of rules s.code))) s.idle ≡ false
unfolding malformed
sound_step rules s h =
    let ab : Bool = not (arguments_ok rules s.code s.a s.b) || up_wrong s.code s.driver.up in
    let c : Bool = idle_wrong s.code (drop s.step (ops_of (program_of rules s.code))) s.idle in
    let d : Bool = eqb s.transfers 0 in
    (or_parts ab c (or_parts (ab || c) d (or_parts ((ab || c) || d) (ltb (ceiling_of rules s.code) s.transfers) h).0).0).1

-- by the machine's own test of the session
pub record Strays (rules : Rules) (s : Session) (f : ℕ) (bs : List ℕ) : Type 0 where
  pub waiting : s.code ≡ 0 → ⊥
  pub sound : malformed rules s ≡ false
  pub stray : Stray (outstanding rules s).reads f bs

pub refused_where : (rules : Rules) (s : Session) (f : ℕ) (bs : List ℕ) → (step_def rules s (reply f bs) ≡ refused Answer.StrayByte s) ↔ Strays rules s f bs
unfolding reply_def step_def
refused_where rules s f bs = (there, back)
  where
    at : (l : List Op) → ((s.code ≡ 0) → ⊥) → malformed rules s ≡ false → drop s.step (ops_of (program_of rules s.code)) ≡ l → on_ops l (program_of rules s.code) s f bs ≡ refused Answer.StrayByte s → Strays rules s f bs
    at [] w m e = λ q. clash cc
    at (op ∷ rest) w m e =
        cond_case (λ o. o ≡ refused Answer.StrayByte s → Strays rules s f bs) (stray (send_of op (context_of s)) f bs)
        (λ h q. record { waiting = w; sound = m; stray = rw e (strays (send_of op (context_of s)) f bs h) })
        (λ h q. absurd (subst Accepts q (react_accepts op (program_of rules s.code) s (to_reply f bs))))

    there : step_def rules s (reply f bs) ≡ refused Answer.StrayByte s → Strays rules s f bs
    there =
        cond_case (λ o. o ≡ refused Answer.StrayByte s → Strays rules s f bs) (ill_formed rules s)
        (λ m q. clash cc)
        (λ m. cond_case (λ o. o ≡ refused Answer.StrayByte s → Strays rules s f bs) (not (waits_now s))
        (λ e q. let z : ◌≡◌ {A = ℕ} 11 12 = ap refusal_number q in absurd (omega arith))
        (λ e.
        let w : waits_now s ≡ true = not-false (waits_now s) e in
        at (drop s.step (ops_of (program_of rules s.code))) (eqb-false s.code 0 (not-true (eqb s.code 0) w)) (rw w at m) refl))

    on : (l : List Op) → idle_wrong s.code l s.idle ≡ false → Stray (first_transfer_out l (context_of s)).reads f bs → on_ops l (program_of rules s.code) s f bs ≡ refused Answer.StrayByte s
    on [] i x = untrue (sym i)
    on (op ∷ rest) i x = rw (is_stray (send_of op (context_of s)) f bs x)

    back : Strays rules s f bs → step_def rules s (reply f bs) ≡ refused Answer.StrayByte s
    back r =
        rw (ne_eqb s.code 0 r.waiting, r.sound)
        (on (drop s.step (ops_of (program_of rules s.code))) (sound_step rules s r.sound) r.stray)
