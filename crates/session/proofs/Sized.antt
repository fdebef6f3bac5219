-- Every transfer of every call writes one to seven bytes and reads 0, 1, 2 or 6.
use mathlib.Core.Path.{◌≡◌, refl, subst, ap}
use mathlib.Core.Bool.{Bool, true, ◌&&◌}
use mathlib.Core.List.{List, [], ◌∷◌}
use Prim.Native.Nat.{ℕ, zero, suc, ◌≤◌}
use native.Mathlib.Omega.{arith}
use native.Mathlib.Nat.{le_of_suc-le-suc}
use borrow.Author.Tests.{leb-true}
use lib.Dec.{leb}
use lib.ListN.{length, take, drop}
use Rattle.session.specs.declared.Rules.{Rules}
use Rattle.session.specs.Bus.{pad_to, transfer_of, zero_from, wait_register}
use Rattle.session.specs.Instructions.{Context, Op, write, read, wait, range, send_of}
use Rattle.session.specs.Steps.{slot}
use Rattle.session.specs.Calls.{ops_of, tuning, programs, program_of}
use Rattle.session.specs.Claim1.{is_length, OnTheBus, Says}
use Rattle.ground.proofs.Facts.{both, clash}
use Rattle.session.proofs.Table.{of_test}

abbrev sized : Op → Context → Bool
sized (write reg bytes len over after) c = leb (length (bytes c)) 6 && is_length len
sized (read reg len slot finds over after) c = is_length len
sized (wait w) c = true
sized (range reg len slot over) c = is_length len

abbrev all_sized : List Op → Context → Bool
all_sized [] c = true
all_sized (op ∷ ops) c = sized op c && all_sized ops c

sized_law : (rules : Rules) (code : ℕ) (c : Context) → all_sized (ops_of (program_of rules code)) c ≡ true
unfolding programs tuning
sized_law rules code c = of_test rules (λ k p. all_sized (ops_of p) c) (λ k. refl) refl code

sized_at : (k : ℕ) (l : List Op) (c : Context) {op : Op} {rest : List Op} → all_sized l c ≡ true → drop k l ≡ op ∷ rest → sized op c ≡ true
sized_at zero [] c h e = clash cc
sized_at zero (x ∷ l) c {op} h e = let q : x ≡ op = cc in subst (λ o. sized o c ≡ true) q (both (sized x c) (all_sized l c) h).0
sized_at (suc k) [] c h e = clash cc
sized_at (suc k) (x ∷ l) c h e = sized_at k l c (both (sized x c) (all_sized l c) h).1 e

padded : (n : ℕ) (bs : List ℕ) → zero_from (length bs) (pad_to n bs) ≡ true
padded zero bs = refl
padded (suc n) [] = padded n []
padded (suc n) (b ∷ bs) = padded n bs

seven : (n : ℕ) (bs : List ℕ) → length (pad_to n bs) ≡ n
seven zero bs = refl
seven (suc n) [] = ap suc (seven n [])
seven (suc n) (b ∷ bs) = ap suc (seven n bs)

made : (adr reg n : ℕ) (bs : List ℕ) → length bs ≤ 6 → is_length n ≡ true → OnTheBus (transfer_of adr (reg ∷ bs) n)
made adr reg n bs h r = record { some_byte = omega arith; at_most_seven = omega arith; room = seven 7 (reg ∷ bs); rest_zero = padded 7 (reg ∷ bs); read_length = r }

-- what a transfer is made of can be read off it
bytes_back : (n : ℕ) (bs : List ℕ) → length bs ≤ n → take (length bs) (pad_to n bs) ≡ bs
bytes_back zero [] h = refl
bytes_back zero (b ∷ bs) h = absurd (omega (arith, h))
bytes_back (suc n) [] h = refl
bytes_back (suc n) (b ∷ bs) h = ap (λ l. b ∷ l) (bytes_back n bs (le_of_suc-le-suc h))

pub transfer_says : (adr n : ℕ) (bs : List ℕ) → length bs ≤ 7 → Says adr bs n (transfer_of adr bs n)
transfer_says adr n bs h = record { to = refl; bytes_written = bytes_back 7 bs h; then_read = refl }

-- it goes to the address that its context names
pub sent_to : (op : Op) (c : Context) → (send_of op c).address ≡ c.address
sent_to (write reg bytes len over after) c = refl
sent_to (read reg len slot finds over after) c = refl
sent_to (wait w) c = refl
sent_to (range reg len slot over) c = refl

pub on_the_bus : (rules : Rules) (code k : ℕ) (op : Op) (rest : List Op) (c : Context) → drop k (ops_of (program_of rules code)) ≡ op ∷ rest → OnTheBus (send_of op c)
on_the_bus rules code k op rest c e = go op (sized_at k (ops_of (program_of rules code)) c (sized_law rules code c) e)
  where
    go : (o : Op) → sized o c ≡ true → OnTheBus (send_of o c)
    go (write reg bytes len over after) h =
        let q = both (leb (length (bytes c)) 6) (is_length len) h in
        made c.address reg len (bytes c) (leb-true (length (bytes c)) 6 q.0) q.1
    go (read reg len slot finds over after) h = made c.address reg len [] (omega arith) h
    go (wait w) h = made c.address (wait_register w) 1 [] (omega arith) refl
    go (range reg len slot over) h = made c.address reg len [] (omega arith) h
