-- The failures of a call so far: none, or a failed range read and the clearing writes after it.
use mathlib.Core.Path.{◌≡◌, refl, sym, subst}
use mathlib.Core.Bool.{true}
use mathlib.Core.List.{List, [], ◌∷◌}
use Prim.Native.Nat.{ℕ, suc}
use Rattle.session.specs.declared.Rules.{Rules}
use Rattle.session.specs.Bus.{Transfer, Answer, transfer_of, Reply, bad, good}
use Rattle.session.specs.Instructions.{Instruction, Context, Verdict, Op, write, read, wait, range, failure, send_of}
use Rattle.session.specs.Steps.{slot, pass, op_of}
use Rattle.session.specs.Calls.{program_of}
use Rattle.session.specs.History.{Exchange, by, Standing, waiting, ended}
use Rattle.session.specs.Claim3.{range_read, range_failure, reported, first_out, first_failed, second_out, second_failed, both_good, AfterReply, Failures}
use Rattle.ground.proofs.Facts.{clash}
use Rattle.session.proofs.Laws.{clear_ops}

abbrev pub IsGood : Reply → Type 0
IsGood (bad e) = ⊥
IsGood (good bs) = Unit {0}

abbrev pub AllGood : List Exchange → Type 0
AllGood [] = Unit {0}
AllGood (e ∷ es) = IsGood e.reply × AllGood es

abbrev pub clear_sent : ℕ → ℕ → Transfer
clear_sent adr b = transfer_of adr (0x0B ∷ b ∷ []) 1

abbrev pub clear_op : ℕ → Op
clear_op b = op_of (Instruction.Write 0x0B b)

-- a range read of a call, and its end after a failed one
pub record Ranged (rules : Rules) (code : ℕ) (t : Transfer) : Type 0 where
  pub inside : range_read code t ≡ true
  pub final : (c : Context) (e : ℕ) → c.failed ≡ suc e → (program_of rules code).final c ≡ failure (suc e)

-- over the operations that are left and the exchanges so far
pub data Phase (rules : Rules) (code : ℕ) (ops : List Op) : List Exchange → Type 0 where
  clean : {ex : List Exchange} → AllGood ex → Phase rules code ops ex
  tidy0 : {ex : List Exchange} {u : Transfer} → Ranged rules code u → (e : ℕ) → ops ≡ clear_ops → AllGood ex → Phase rules code ops (by u (bad e) ∷ ex)
  tidy1 : {ex : List Exchange} {u : Transfer} → Ranged rules code u → (e : ℕ) (adr' : ℕ) (bs : List ℕ) → ops ≡ clear_op 0 ∷ [] → AllGood ex
      → Phase rules code ops (by (clear_sent adr' 1) (good bs) ∷ by u (bad e) ∷ ex)
  tidy2 : {ex : List Exchange} {u : Transfer} → Ranged rules code u → (e : ℕ) (adr' : ℕ) (bs : List ℕ) (adr'' : ℕ) (bs' : List ℕ) → ops ≡ [] → AllGood ex
      → Phase rules code ops (by (clear_sent adr'' 0) (good bs') ∷ by (clear_sent adr' 1) (good bs) ∷ by u (bad e) ∷ ex)

reply_good : (code : ℕ) (t : Transfer) (r : Reply) (later es : List Exchange) (st : Standing) → IsGood r → AfterReply code t r later es st
reply_good code t (bad e) later es st g = absurd g
reply_good code t (good bs) later es st g = tt

pub good_any : (code : ℕ) (later ex : List Exchange) (st : Standing) → AllGood ex → Failures code later ex st
good_any code later [] st g = tt
good_any code later (e ∷ es) st g = (reply_good code e.sent e.reply later es st g.0, good_any code (e ∷ later) es st g.1)

-- the call is cleared and ends with the range read's code
pub phase_cleared : (rules : Rules) (code n e adr' : ℕ) (bs : List ℕ) (adr'' : ℕ) (bs' : List ℕ) (ex : List Exchange) {u : Transfer} → Ranged rules code u → AllGood ex
    → Failures code [] (by (clear_sent adr'' 0) (good bs') ∷ by (clear_sent adr' 1) (good bs) ∷ by u (bad e) ∷ ex) (ended (Answer.BusError (suc e)) n)
phase_cleared rules code n e adr' bs adr'' bs' ex r g =
    rw r.inside (tt, (tt, (both_good (clear_sent adr' 1) bs (clear_sent adr'' 0) bs' n refl refl, good_any code _ ex _ g)))

-- it waits for the operation `op`
pub phase_waiting : (rules : Rules) (code : ℕ) (op : Op) (rest : List Op) (ex : List Exchange) (c : Context) → Phase rules code (op ∷ rest) ex → Failures code [] ex (waiting (send_of op c))
phase_waiting rules code op rest ex c (clean g) = good_any code [] ex _ g
phase_waiting rules code op rest ex c (tidy0 {ex = ex'} {u = u} r e q g) =
    let h : op ≡ clear_op 1 = cc in rw (h, r.inside) (first_out _ refl, good_any code _ ex' _ g)
phase_waiting rules code op rest ex c (tidy1 {ex = ex'} {u = u} r e adr' bs q g) =
    let h : op ≡ clear_op 0 = cc in rw (h, r.inside) (tt, (second_out _ bs _ refl refl, good_any code _ ex' _ g))
phase_waiting rules code op rest ex c (tidy2 r e adr' bs adr'' bs' q g) = clash cc

-- that operation fails
pub phase_failed : (rules : Rules) (code : ℕ) (op : Op) (rest : List Op) (ex : List Exchange) (c : Context) (k n : ℕ) → Phase rules code (op ∷ rest) ex
    → Failures code (by (send_of op c) (bad k) ∷ []) ex (ended (Answer.BusError (reported code (range_failure code ex) (suc k))) n)
phase_failed rules code op rest ex c k n (clean g) = good_any code _ ex _ g
phase_failed rules code op rest ex c k n (tidy0 {ex = ex'} {u = u} r e q g) =
    let h : op ≡ clear_op 1 = cc in rw (h, r.inside) (first_failed _ k n refl, good_any code _ ex' _ g)
phase_failed rules code op rest ex c k n (tidy1 {ex = ex'} {u = u} r e adr' bs q g) =
    let h : op ≡ clear_op 0 = cc in rw (h, r.inside) (tt, (second_failed _ bs _ k n refl refl, good_any code _ ex' _ g))
phase_failed rules code op rest ex c k n (tidy2 r e adr' bs adr'' bs' q g) = clash cc

-- a write that succeeds: with no failure before it, or one of the two clearing writes, after which the call goes on
pub data AfterWrite (rules : Rules) (code : ℕ) (after : Context → Verdict) (rest : List Op) (t : Transfer) (bs : List ℕ) (ex : List Exchange) : Type 0 where
  cleanly : AllGood ex → AfterWrite rules code after rest t bs ex
  tidily : after ≡ pass → Phase rules code rest (by t (good bs) ∷ ex) → AfterWrite rules code after rest t bs ex

pub phase_write : (rules : Rules) (code reg : ℕ) (bytes : Context → List ℕ) (len over : ℕ) (after : Context → Verdict) (rest : List Op) (ex : List Exchange) (c : Context) (bs : List ℕ)
    → Phase rules code (write reg bytes len over after ∷ rest) ex → AfterWrite rules code after rest (send_of (write reg bytes len over after) c) bs ex
phase_write rules code reg bytes len over after rest ex c bs (clean g) = cleanly g
phase_write rules code reg bytes len over after rest ex c bs (tidy0 {ex = ex'} {u = u} r e q g) =
    let h : write reg bytes len over after ≡ clear_op 1 = cc in
    let hr : rest ≡ clear_op 0 ∷ [] = cc in
    let hc : after ≡ pass = cc in
    tidily hc (subst (λ o. Phase rules code rest (by (send_of o c) (good bs) ∷ by u (bad e) ∷ ex')) (sym h) (tidy1 r e c.address bs hr g))
phase_write rules code reg bytes len over after rest ex c bs (tidy1 {ex = ex'} {u = u} r e adr' bs₁ q g) =
    let h : write reg bytes len over after ≡ clear_op 0 = cc in
    let hr : rest ≡ [] = cc in
    let hc : after ≡ pass = cc in
    tidily hc (subst (λ o. Phase rules code rest (by (send_of o c) (good bs) ∷ by (clear_sent adr' 1) (good bs₁) ∷ by u (bad e) ∷ ex')) (sym h) (tidy2 r e adr' bs₁ c.address bs hr g))
phase_write rules code reg bytes len over after rest ex c bs (tidy2 r e adr' bs₁ adr'' bs' q g) = clash cc

-- any other operation stands only where nothing has failed
abbrev pub NoWrite : Op → Type 0
NoWrite (write reg bytes len over after) = ⊥
NoWrite (read reg len slot finds over after) = Unit {0}
NoWrite (wait w) = Unit {0}
NoWrite (range reg len slot over) = Unit {0}

pub phase_clean : (rules : Rules) (code : ℕ) (op : Op) (rest : List Op) (ex : List Exchange) → NoWrite op → Phase rules code (op ∷ rest) ex → AllGood ex
phase_clean rules code op rest ex n (clean g) = g
phase_clean rules code op rest ex n (tidy0 r e q g) = let h : op ≡ clear_op 1 = cc in absurd (rw h at n)
phase_clean rules code op rest ex n (tidy1 r e adr' bs q g) = let h : op ≡ clear_op 0 = cc in absurd (rw h at n)
phase_clean rules code op rest ex n (tidy2 r e adr' bs adr'' bs' q g) = clash cc
