-- A run from any session ends as the claim says: with 14, with 15, or through all records.
use mathlib.Core.Path.{◌≡◌, refl, sym, ap, subst, ◌∙◌}
use mathlib.Core.Bool.{true, false}
use mathlib.Core.List.{List, [], ◌∷◌}
use Prim.Native.Nat.{ℕ, ◌%◌}
use borrow.Author.Tests.{eqb-true, eqb-false}
use lib.ListN.{length}
use Rattle.session.specs.declared.Rules.{Rules}
use Rattle.session.specs.Bus.{Answer}
use Rattle.session.specs.Machine.{Session, Outcome, sent, answered, refused, broken, ill_formed}
use Rattle.session.specs.Records.{Record, records_of, is_whole}
use Rattle.session.specs.History.{step_def, Entry, Run, stopped, taking, run_from, run_records, run_def, got_of, session_of, session_after, Genuine, in_order}
use Rattle.session.specs.Claim1.{RunEnds, spare_bytes, ill_formed_given, ill_formed_met, all_run, completed}
use Rattle.ground.proofs.Facts.{cond_case}
use Rattle.session.proofs.Ill.{IllOf, ill_is}

-- one record more
pub genuine_more : (rules : Rules) (given s : Session) (h : List Entry) (r : Record) (o : Outcome) → s ≡ session_after rules given h → Genuine rules given h → ill_formed rules s ≡ false → step_def rules s r ≡ o
    → Genuine rules given (record { what = r; got = got_of o } ∷ h) × (session_of o ≡ session_after rules given (record { what = r; got = got_of o } ∷ h))
genuine_more rules given s h r o here g i e =
    let p : step_def rules (session_after rules given h) r ≡ o = ap (λ z. step_def rules z r) (sym here) ∙ e in
    ((subst (λ z. ill_formed rules z ≡ false) here i, ap got_of (sym p), g), ap session_of (sym p))

-- what a run over the records left gives, from a session s that the history h has led to
data Over (rules : Rules) (given : Session) (all : List Record) : Run → Type 0 where
  met : (h : List Entry) (r : Record) (rest : List Record) → in_order h (r ∷ rest) ≡ all → Genuine rules given h → ill_formed rules (session_after rules given h) ≡ true
      → Over rules given all (stopped Answer.IllFormedSession given)
  through : (h : List Entry) → in_order h [] ≡ all → Genuine rules given h
      → Over rules given all (completed (session_after rules given h) h)

over : (rules : Rules) (given : Session) (rs : List Record) (s : Session) (h : List Entry) → s ≡ session_after rules given h → Genuine rules given h → Over rules given (in_order h rs) (run_from rules given rs s h)
unfolding run_from
over rules given [] s h here g = subst (λ z. Over rules given (in_order h []) (completed z h)) (sym here) (through h refl g)
over rules given (r ∷ rs) s h here g = go (step_def rules s r) refl (ill_is rules s r) (over rules given rs)
  where
    next : (o : Outcome) → step_def rules s r ≡ o → ill_formed rules s ≡ false
        → ((s' : Session) (h' : List Entry) → s' ≡ session_after rules given h' → Genuine rules given h' → Over rules given (in_order h' rs) (run_from rules given rs s' h'))
        → Over rules given (in_order h (r ∷ rs)) (run_from rules given rs (session_of o) (record { what = r; got = got_of o } ∷ h))
    next o e i k = let q = genuine_more rules given s h r o here g i e in k (session_of o) (record { what = r; got = got_of o } ∷ h) q.1 q.0

    go : (o : Outcome) → step_def rules s r ≡ o → IllOf rules s o
        → ((s' : Session) (h' : List Entry) → s' ≡ session_after rules given h' → Genuine rules given h' → Over rules given (in_order h' rs) (run_from rules given rs s' h'))
        → Over rules given (in_order h (r ∷ rs)) (taking o given h r (run_from rules given rs))
    go (sent t s') e i k = next (sent t s') e i k
    go (answered x n s') e i k = next (answered x n s') e i k
    go (refused x s') e i k = next (refused x s') e i k
    go (broken s') e i k = met h r rs refl g (subst (λ z. ill_formed rules z ≡ true) here i)

pub run_ends : (rules : Rules) (s : Session) (bytes : List ℕ) → RunEnds rules s bytes (run_def rules s bytes)
unfolding run_def run_records
run_ends rules s bytes =
    cond_case (RunEnds rules s bytes) (is_whole bytes)
    (λ w. cond_case (RunEnds rules s bytes) (ill_formed rules s) (λ i. ill_formed_given (eqb-true (length bytes % 8) 0 w) i) (λ i. go (eqb-true (length bytes % 8) 0 w) i (run_from rules s (records_of bytes) s []) (over rules s (records_of bytes) s [] refl tt)))
    (λ w. spare_bytes (eqb-false (length bytes % 8) 0 w))
  where
    go : length bytes % 8 ≡ 0 → ill_formed rules s ≡ false → (run : Run) → Over rules s (records_of bytes) run → RunEnds rules s bytes run
    go w i run (met h r rest e g m) = ill_formed_met w h r rest e g m
    go w i run (through h e g) = all_run w i h e g
