-- The fields of a history are those of the last bring-up where every other call was begun while up, and none while not up.
use mathlib.Core.Path.{◌≡◌, refl, ap, ◌∙◌}
use mathlib.Core.Bool.{Bool, true, false, not, ◌||◌, cond}
use mathlib.Core.List.{List, [], ◌∷◌}
use Prim.Native.Nat.{ℕ}
use lib.Dec.{eqb}
use Rattle.session.specs.Bus.{Driver, absent, with_driver_address, with_driver_budget}
use Rattle.session.specs.Machine.{not_up}
use Rattle.session.specs.History.{CallRun}
use Rattle.session.specs.Claim3.{is_done, up_by, after_done, is_up, driver_of, BegunUp}
use Rattle.ground.proofs.Facts.{clash}

-- after an accepted call that is not answered Done
abbrev pub after_begun : ℕ → Driver → Driver
after_begun code d = cond (eqb code 1) absent d

-- call by call, without the test for up
abbrev pub fields_of : List CallRun → Driver
fields_of [] = absent
fields_of (c ∷ cs) =
    cond (is_done c.standing) (after_done c.code c.a c.exchanges (fields_of cs)) (after_begun c.code (fields_of cs))

pub up_is : (cs : List CallRun) → (fields_of cs).up ≡ is_up cs
up_is [] = refl
up_is (c ∷ cs) = go (is_done c.standing) (eqb c.code 1) (eqb c.code 3) (eqb c.code 9) (up_is cs)
  where
    go : (fine one three nine : Bool) → (fields_of cs).up ≡ is_up cs
        → (cond fine (cond one (up_by c.a c.exchanges) (cond three (with_driver_address (fields_of cs) c.a) (cond nine (with_driver_budget (fields_of cs) c.a) (fields_of cs)))) (cond one absent (fields_of cs))).up
        ≡ cond one fine (is_up cs)
    go true true three nine h = refl
    go true false true nine h = h
    go true false false true h = h
    go true false false false h = h
    go false true three nine h = refl
    go false false three nine h = h

pub fields_are : (cs : List CallRun) → BegunUp cs → fields_of cs ≡ driver_of cs
fields_are [] h = refl
fields_are (c ∷ cs) h =
    ap (λ d. cond (is_done c.standing) (after_done c.code c.a c.exchanges d) (after_begun c.code d)) (fields_are cs h.1)
    ∙ go (is_done c.standing) (eqb c.code 1) (is_up cs) h.0
  where
    go : (fine one up : Bool) → one || up ≡ true
        → cond fine (cond one (up_by c.a c.exchanges) (cond (eqb c.code 3) (with_driver_address (driver_of cs) c.a) (cond (eqb c.code 9) (with_driver_budget (driver_of cs) c.a) (driver_of cs)))) (cond one absent (driver_of cs))
        ≡ cond (cond one fine up) (cond fine (cond one (up_by c.a c.exchanges) (cond (eqb c.code 3) (with_driver_address (driver_of cs) c.a) (cond (eqb c.code 9) (with_driver_budget (driver_of cs) c.a) (driver_of cs)))) (driver_of cs)) absent
    go true true up e = refl
    go false true up e = refl
    go true false true e = refl
    go false false true e = refl
    go fine false false e = clash cc

pub down : (cs : List CallRun) → is_up cs ≡ false → driver_of cs ≡ absent
down [] e = refl
down (c ∷ cs) e = rw e

pub begun_while_up : (code : ℕ) (u : Bool) → not_up code u ≡ false → eqb code 1 || u ≡ true
begun_while_up code u h = go (eqb code 1) u h
  where
    go : (b v : Bool) → cond b false (not v) ≡ false → b || v ≡ true
    go true v e = refl
    go false true e = refl
    go false false e = clash cc
