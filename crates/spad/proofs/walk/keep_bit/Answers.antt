-- `spad::keep_bit` meets its contract: each branch is one of the laws of one bit.
use Prim.Native.Nat.{◌%◌}
use native.Mathlib.Omega.{arith}
use lib.Dec.{eqb}
use Rattle.spad.proofs.Keep.{keep_skip, keep_none, keep_one}
use Rattle.spad.proofs.walk.keep_bit.Goals as goal

pub returns-then-left-gt0 : goal.returns-then-left-gt0
returns-then-left-gt0 c =
    let a = c.args in
    record { small = omega arith; walked = λ xs. keep_skip a.left.skip a.left.wanted (eqb (a.b % 2) 1) xs (omega arith) }

pub returns-then-left-eq0 : goal.returns-then-left-eq0
returns-then-left-eq0 c =
    let a = c.args in
    record {
      small = omega arith;
      walked = λ xs. keep_none a.left.skip a.left.wanted (eqb (a.b % 2) 1) xs (omega arith) (omega arith);
    }

pub returns : goal.returns
returns c =
    let a = c.args in
    record {
      small = omega arith;
      walked = λ xs. keep_one a.left.skip a.left.wanted (a.b % 2) xs (omega arith) (omega arith) (omega arith);
    }
