-- A register's first read is kept at a slot and stays there: the carried bytes are those that the bus showed first.
use mathlib.Core.Path.{◌≡◌, refl, sym, ap, ◌∙◌}
use mathlib.Core.Bool.{Bool, true, false, ◌||◌, ◌&&◌, cond}
use mathlib.Core.List.{List, [], ◌∷◌}
use Prim.Native.Nat.{ℕ, zero, suc, ◌+◌, ◌≤◌, ◌<◌}
use native.Mathlib.Nat.{zero-add}
use native.Mathlib.Omega.{arith}
use lib.Dec.{eqb, leb}
use lib.ListN.{length, drop}
use borrow.Author.Tests.{leb-true, eqb-true}
use Rattle.session.specs.declared.Rules.{Rules}
use Rattle.session.specs.Bus.{byte, Reply, bad, good, data_in, Condition}
use Rattle.session.specs.Instructions.{Context, Op, write, read, wait, range, bytes_from, put, send_of, kept_bytes}
use Rattle.session.specs.Steps.{slot}
use Rattle.session.specs.Calls.{ops_of, program_of}
use Rattle.session.specs.History.{Exchange, by}
use Rattle.session.specs.Claim3.{wrote, was_read, first_data}
use Rattle.ground.proofs.Facts.{both, clash}
use Rattle.session.proofs.Slots.{length_from, from_at, under, above, within, length_put}
use Rattle.session.proofs.Shape.{asks_op, full, leaps, one_byte}

pub record Track : Type 0 where
  pub reg : ℕ
  pub slot : ℕ
  pub len : ℕ

abbrev pub apart : Track → ℕ → ℕ → Bool
apart t k n = leb (k + n) t.slot || leb (t.slot + t.len) k

-- an operation leaves the slots alone; an operation is the read that fills them
abbrev pub misses : Track → Op → Bool
misses t (write reg bytes len over after) = true
misses t (read reg len k finds over after) = apart t k len
misses t (wait w) = true
misses t (range reg len k over) = apart t k len

abbrev pub fills : Track → Op → Bool
fills t (write reg bytes len over after) = false
fills t (read reg len k finds over after) = eqb k t.slot && (eqb len t.len && leb (t.slot + t.len) 24)
fills t (wait w) = false
fills t (range reg len slot over) = false

-- over the operations left: the register is first asked for by the read that fills the slots, and nothing else touches them;
-- operations are skipped only after that
abbrev pub trace_ok : Track → Bool → List Op → Bool
trace_ok t found [] = true
trace_ok t found (op ∷ ops) =
    cond found (misses t op) (cond (asks_op t.reg op) (fills t op) (misses t op))
    && (cond (leaps op) (found || asks_op t.reg op) true && trace_ok t (found || asks_op t.reg op) ops)

abbrev pub Sound : Rules → Track → ℕ → Type 0
Sound rules t code = trace_ok t false (ops_of (program_of rules code)) ≡ true

pub record Traced (t : Track) (carried : List ℕ) (ops : List Op) (ex : List Exchange) : Type 0 where
  pub law : trace_ok t (was_read t.reg ex) ops ≡ true
  pub bytes : (i : ℕ) → i < t.len → byte (t.slot + i) carried ≡ byte i (first_data t.reg ex)

trace_drop : (t : Track) (n : ℕ) (ops : List Op) → trace_ok t true ops ≡ true → trace_ok t true (drop n ops) ≡ true
trace_drop t zero ops h = h
trace_drop t (suc n) [] h = h
trace_drop t (suc n) (op ∷ ops) h =
    trace_drop t n ops (both (cond (leaps op) true true) (trace_ok t true ops) (both (misses t op) (cond (leaps op) true true && trace_ok t true ops) h).1).1

pub trace_skip : (t : Track) (carried : List ℕ) (n : ℕ) (ops : List Op) (ex : List Exchange) → was_read t.reg ex ≡ true
    → Traced t carried ops ex → Traced t carried (drop n ops) ex
trace_skip t carried n ops ex e d = record { law = rw e (trace_drop t n ops (rw e at d.law)); bytes = d.bytes }

first_none : (reg : ℕ) (ex : List Exchange) → was_read reg ex ≡ false → first_data reg ex ≡ []
first_none reg [] h = refl
first_none reg (e ∷ es) h = go (was_read reg es) (wrote (reg ∷ []) e.sent) h
  where
    go : (a b : Bool) → a || b ≡ false → cond a (first_data reg es) (cond b (data_in e.reply) []) ≡ []
    go true b q = cc
    go false true q = cc
    go false false q = refl

missed : (t : Track) (l : List ℕ) (k n : ℕ) (bs : List ℕ) → apart t k n ≡ true → (i : ℕ) → i < t.len
    → byte (t.slot + i) (put l k (bytes_from 0 n bs)) ≡ byte (t.slot + i) l
missed t l k n bs h i lt = go (leb (k + n) t.slot) refl
  where
    go : (b : Bool) → leb (k + n) t.slot ≡ b → byte (t.slot + i) (put l k (bytes_from 0 n bs)) ≡ byte (t.slot + i) l
    go true e =
        let le : k + n ≤ t.slot = leb-true (k + n) t.slot e in
        above (bytes_from 0 n bs) l k (t.slot + i) (omega (arith, length_from 0 n bs))
    go false e =
        let le : t.slot + t.len ≤ k = leb-true (t.slot + t.len) k (rw e at h) in
        under (bytes_from 0 n bs) l k (t.slot + i) (omega arith)

pub untouched : (t : Track) (op : Op) (r : Reply) (l : List ℕ) → misses t op ≡ true → (i : ℕ) → i < t.len
    → byte (t.slot + i) (kept_bytes op r l) ≡ byte (t.slot + i) l
untouched t (write reg bytes len over after) r l h i lt = refl
untouched t (read reg len k finds over after) (bad e) l h i lt = refl
untouched t (read reg len k finds over after) (good bs) l h i lt = missed t l k len bs h i lt
untouched t (wait w) r l h i lt = refl
untouched t (range reg len k over) (bad e) l h i lt = refl
untouched t (range reg len k over) (good bs) l h i lt = missed t l k len bs h i lt

-- a reply after which the call can go on
abbrev pub GoesOn : Op → Reply → Type 0
GoesOn (write reg bytes len over after) r = Unit {0}
GoesOn (read reg len slot finds over after) (bad e) = ⊥
GoesOn (read reg len slot finds over after) (good bs) = Unit {0}
GoesOn (wait w) r = Unit {0}
GoesOn (range reg len slot over) r = Unit {0}

filled_in : (t : Track) (op : Op) (r : Reply) (l : List ℕ) → GoesOn op r → length l ≡ 24 → fills t op ≡ true
    → (i : ℕ) → i < t.len → byte (t.slot + i) (kept_bytes op r l) ≡ byte i (data_in r)
filled_in t (write reg bytes len over after) r l g n h i lt = cc
filled_in t (read reg len k finds over after) (bad e) l g n h i lt = absurd g
filled_in t (read reg len k finds over after) (good bs) l g n h i lt =
    let h₁ = both (eqb k t.slot) (eqb len t.len && leb (t.slot + t.len) 24) h in
    let h₂ = both (eqb len t.len) (leb (t.slot + t.len) 24) h₁.1 in
    let p : k ≡ t.slot = eqb-true k t.slot h₁.0 in
    let q : len ≡ t.len = eqb-true len t.len h₂.0 in
    let le : t.slot + t.len ≤ 24 = leb-true (t.slot + t.len) 24 h₂.1 in
    let lt' : i < len = omega arith in
    ap (λ j. byte (j + i) (put l k (bytes_from 0 len bs))) (sym p)
    ∙ within (bytes_from 0 len bs) l k i (omega (arith, length_from 0 len bs)) (omega (arith, length_from 0 len bs))
    ∙ from_at 0 len i bs lt' ∙ ap (λ j. byte j bs) (zero-add i)
filled_in t (wait w) r l g n h i lt = cc
filled_in t (range reg len slot over) r l g n h i lt = cc

-- one exchange
pub trace_step : (t : Track) (op : Op) (rest : List Op) (c : Context) (r : Reply) (l : List ℕ) (ex : List Exchange)
    → full op c ≡ true → GoesOn op r → length l ≡ 24
    → Traced t l (op ∷ rest) ex → Traced t (kept_bytes op r l) rest (by (send_of op c) r ∷ ex)
trace_step t op rest c r l ex f g n d = go (was_read t.reg ex) refl
  where
    go : (b : Bool) → was_read t.reg ex ≡ b → Traced t (kept_bytes op r l) rest (by (send_of op c) r ∷ ex)
    go true e =
        let h = both (misses t op) (cond (leaps op) true true && trace_ok t true rest) (rw e at d.law) in
        record {
          law = rw e (both (cond (leaps op) true true) (trace_ok t true rest) h.1).1;
          bytes = λ i lt. rw e (untouched t op r l h.0 i lt ∙ d.bytes i lt);
        }
    go false e = on (asks_op t.reg op) refl
      where
        on : (a : Bool) → asks_op t.reg op ≡ a → Traced t (kept_bytes op r l) rest (by (send_of op c) r ∷ ex)
        on true q =
            let h = both (fills t op) (cond (leaps op) true true && trace_ok t true rest) (rw (e, q) at d.law) in
            record {
              law = rw (e, one_byte t.reg op c f, q) (both (cond (leaps op) true true) (trace_ok t true rest) h.1).1;
              bytes = λ i lt. rw (e, one_byte t.reg op c f, q) (filled_in t op r l g n h.0 i lt);
            }
        on false q =
            let h = both (misses t op) (cond (leaps op) false true && trace_ok t false rest) (rw (e, q) at d.law) in
            record {
              law = rw (e, one_byte t.reg op c f, q) (both (cond (leaps op) false true) (trace_ok t false rest) h.1).1;
              bytes = λ i lt. rw (e, one_byte t.reg op c f, q) (untouched t op r l h.0 i lt ∙ d.bytes i lt ∙ ap (byte i) (first_none t.reg ex e));
            }

-- another read of a wait
pub trace_again : (t : Track) (l : List ℕ) (w : Condition) (rest : List Op) (c : Context) (r : Reply) (ex : List Exchange)
    → Traced t l (wait w ∷ rest) ex → Traced t l (wait w ∷ rest) (by (send_of (wait w) c) r ∷ ex)
trace_again t l w rest c r ex d = go (was_read t.reg ex) (asks_op t.reg (wait w)) refl refl
  where
    go : (b a : Bool) → was_read t.reg ex ≡ b → asks_op t.reg (wait w) ≡ a → Traced t l (wait w ∷ rest) (by (send_of (wait w) c) r ∷ ex)
    go true a e q = record { law = rw e (rw e at d.law); bytes = λ i lt. rw e (d.bytes i lt) }
    go false true e q = let y : false ≡ true = rw (e, q) at d.law in clash cc
    go false false e q =
        record { law = rw (e, q) (rw (e, q) at d.law); bytes = λ i lt. rw (e, q) (d.bytes i lt ∙ ap (byte i) (first_none t.reg ex e)) }

-- an operation that can skip stands only after the read
pub trace_late : (t : Track) (op : Op) (rest : List Op) (c : Context) (r : Reply) (l : List ℕ) (ex : List Exchange)
    → full op c ≡ true → leaps op ≡ true → Traced t l (op ∷ rest) ex → was_read t.reg (by (send_of op c) r ∷ ex) ≡ true
trace_late t op rest c r l ex f a d =
    rw (one_byte t.reg op c f)
    (rw a at (both (cond (leaps op) (was_read t.reg ex || asks_op t.reg op) true) (trace_ok t (was_read t.reg ex || asks_op t.reg op) rest) (both (cond (was_read t.reg ex) (misses t op) (cond (asks_op t.reg op) (fills t op) (misses t op))) (cond (leaps op) (was_read t.reg ex || asks_op t.reg op) true && trace_ok t (was_read t.reg ex || asks_op t.reg op) rest) d.law).1).0)

pub length_kept : (op : Op) (r : Reply) (l : List ℕ) → length (kept_bytes op r l) ≡ length l
length_kept (write reg bytes len over after) r l = refl
length_kept (read reg len slot finds over after) (bad e) l = refl
length_kept (read reg len slot finds over after) (good bs) l = length_put l slot (bytes_from 0 len bs)
length_kept (wait w) r l = refl
length_kept (range reg len slot over) (bad e) l = refl
length_kept (range reg len slot over) (good bs) l = length_put l slot (bytes_from 0 len bs)
