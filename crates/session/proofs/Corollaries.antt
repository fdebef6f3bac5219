-- What demand 3 says in other words: the last n exchanges of a call, and the transfers of a bring-up.
use mathlib.Core.Path.{subst}
use mathlib.Core.Logic.{◌↔◌}
use mathlib.Core.Bool.{Bool, true, false, ◌&&◌, cond}
use mathlib.Core.List.{List, [], ◌∷◌}
use Prim.Native.Nat.{ℕ, zero, suc, ◌≤◌, zero-le}
use native.Mathlib.Omega.{arith}
use native.Mathlib.Nat.{le_of_suc-le-suc, not-suc-le-zero}
use lib.Dec.{T}
use Rattle.session.specs.declared.Rules.{Rules}
use Rattle.session.specs.Bus.{Condition}
use Rattle.session.specs.Machine.{fresh_session}
use Rattle.session.specs.History.{run_def, Exchange, calls_of, transfers_of}
use Rattle.session.specs.Claim3.{most_in, ceiling_in, floor_in, read_of, idle_reply, idle_reads, All, Lawful, LawfulBeyond, LastIdle, BringUpCount}
use Rattle.session.proofs.Lawful.{all_two}
use Rattle.session.proofs.Demand3.{demand_3}

pub last_idle : (n : ℕ) (x : Condition) (code : ℕ) (es : List Exchange) → (n ≤ idle_reads x code es) ↔ LastIdle n x code es
last_idle zero x code es = (λ h. tt, λ h. zero-le)
last_idle (suc n) x code [] = (λ h. absurd (not-suc-le-zero h), λ h. absurd h)
last_idle (suc n) x code (e ∷ es) = go (read_of x code e.sent es && idle_reply x e.reply) (last_idle n x code es)
  where
    go : (b : Bool) → (n ≤ idle_reads x code es) ↔ LastIdle n x code es
        → (suc n ≤ cond b (suc (idle_reads x code es)) 0) ↔ (T b × LastIdle n x code es)
    go true ih = (λ h. (tt, ih.0 (le_of_suc-le-suc h)), λ h. omega (arith, ih.1 h.1))
    go false ih = (λ h. absurd (not-suc-le-zero h), λ h. absurd h.0)

pub bring_up_count : (rules : Rules) (bytes : List ℕ) → All (BringUpCount rules) (calls_of (run_def rules fresh_session bytes).history)
unfolding floor_in most_in
bring_up_count rules bytes =
    all_two (Lawful rules) LawfulBeyond (BringUpCount rules)
    (λ c h k e d. (subst (λ n. floor_in n ≤ transfers_of c) e (k.floor d), subst (λ n. transfers_of c ≤ ceiling_in rules n) e h.ceiling))
    (calls_of (run_def rules fresh_session bytes).history) (demand_3 rules bytes).demand.calls (demand_3 rules bytes).beyond.calls
