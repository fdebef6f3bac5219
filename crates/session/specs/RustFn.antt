-- How lib.rs is written here: a method of the chip is a `Fn`, a line `x ← m` is `let x = m?;`, a panic ends the call in its place.
use Rattle.std.specs.Prelude.{Bool, cond, List, [], ◌∷◌, ℕ, suc, ◌+◌, ◌*◌, ◌/◌, ◌%◌}
use Rattle.session.specs.Bus.{byte, transfer_of, Answer}
use Rattle.session.specs.Script.{Script, send, on_reply, wait_loop}

-- the fields of VL53L0x that a call can change
pub record Chip : Type 0 where
  pub address : ℕ
  pub stop_variable : ℕ
  pub measurement_timing_budget_microseconds : ℕ

pub data Result (A : Type 0) : Type 0 where
  ok : A → Result A
  err : Answer → Result A

-- a method that returns `Result<A, _>`: it hands its result and the chip to what follows
abbrev pub Fn : Type 0 → Type 0
Fn A = Chip → (Result A → Chip → Script) → Script

abbrev pub on_result : {A : Type 0} → Result A → (A → Script) → (Answer → Script) → Script
on_result (ok a) f g = f a
on_result (err e) f g = g e

-- `?`
abbrev pub ◌>>=◌ : {A B : Type 0} → Fn A → (A → Fn B) → Fn B
◌>>=◌ m f chip ret = m chip (λ r c. on_result r (λ a. f a c ret) (λ e. ret (err e) c))

abbrev pub ◌>>◌ : {A B : Type 0} → Fn A → Fn B → Fn B
◌>>◌ m n chip ret = m chip (λ r c. on_result r (λ a. n c ret) (λ e. ret (err e) c))

infixl 10 ◌>>=◌
infixl 10 ◌>>◌
abbrev pub Ok : {A : Type 0} → A → Fn A
Ok a chip ret = ret (ok a) chip

abbrev pub Err : {A : Type 0} → Answer → Fn A
Err e chip ret = ret (err e) chip

-- the result itself, with no `?`
abbrev pub try : {A : Type 0} → Fn A → Fn (Result A)
try m chip ret = m chip (λ r c. ret (ok r) c)

abbrev pub hand : {A : Type 0} → Result A → Fn A
hand r chip ret = ret r chip

-- a panic goes through every `?`; no `try` stands around one
abbrev pub panic : {A : Type 0} → ℕ → Fn A
panic place = Err (Answer.Panic place)

abbrev pub if : {A : Type 0} → Bool → Fn A → Fn A → Fn A
if b m n chip ret = cond b (m chip ret) (n chip ret)

abbrev pub self : {A : Type 0} → (Chip → Fn A) → Fn A
self f chip ret = f chip chip ret

abbrev pub set_self_stop_variable : ℕ → Fn Unit
set_self_stop_variable v chip ret =
    ret (ok tt) (record { address = chip.address; stop_variable = v; measurement_timing_budget_microseconds = chip.measurement_timing_budget_microseconds })

abbrev pub set_self_address : ℕ → Fn Unit
set_self_address v chip ret =
    ret (ok tt) (record { address = v; stop_variable = chip.stop_variable; measurement_timing_budget_microseconds = chip.measurement_timing_budget_microseconds })

abbrev pub set_self_budget : ℕ → Fn Unit
set_self_budget v chip ret =
    ret (ok tt) (record { address = chip.address; stop_variable = chip.stop_variable; measurement_timing_budget_microseconds = v })

-- self.com.write_read(self.address, ws, buffer of n), and what is made of the buffer
abbrev pub write_read : {A : Type 0} → List ℕ → ℕ → (List ℕ → A) → Fn A
write_read ws n made chip ret =
    send (transfer_of chip.address ws n) (λ r. on_reply r (λ e. ret (err (Answer.BusError (suc e))) chip) (λ bs. ret (ok (made bs)) chip))

-- self.com.write(self.address, ws)
abbrev pub com_write : List ℕ → Fn Unit
com_write ws = write_read ws 0 (λ bs. tt)

-- lib.rs 112 and 121: read_register, read_byte
abbrev pub read_register : ℕ → Fn ℕ
read_register reg = write_read (reg ∷ []) 1 (λ bs. byte 0 bs)

-- lib.rs 153: read_16bit
abbrev pub read_16bit : ℕ → Fn ℕ
read_16bit reg = write_read (reg ∷ []) 2 (λ bs. byte 0 bs * 256 + byte 1 bs)

-- lib.rs 130: read_6bytes
abbrev pub read_6bytes : ℕ → Fn (List ℕ)
read_6bytes reg = write_read (reg ∷ []) 6 (λ bs. byte 0 bs ∷ byte 1 bs ∷ byte 2 bs ∷ byte 3 bs ∷ byte 4 bs ∷ byte 5 bs ∷ [])

-- lib.rs 159 and 164: write_byte, write_register
abbrev pub write_byte : ℕ → ℕ → Fn Unit
write_byte reg b = write_read (reg ∷ b ∷ []) 1 (λ bs. tt)

-- lib.rs 182: write_16bit
abbrev pub write_16bit : ℕ → ℕ → Fn Unit
write_16bit reg word = write_read (reg ∷ word / 256 % 256 ∷ word % 256 ∷ []) 1 (λ bs. tt)

-- lib.rs 190: write_32bit
abbrev pub write_32bit : ℕ → ℕ → Fn Unit
write_32bit reg word =
    write_read (reg ∷ word / 16777216 % 256 ∷ word / 65536 % 256 ∷ word / 256 % 256 ∷ word % 256 ∷ []) 1 (λ bs. tt)

-- lib.rs 170: write_6bytes
abbrev pub write_6bytes : ℕ → List ℕ → Fn Unit
write_6bytes reg bytes =
    write_read (reg ∷ byte 0 bytes ∷ byte 1 bytes ∷ byte 2 bytes ∷ byte 3 bytes ∷ byte 4 bytes ∷ byte 5 bytes ∷ []) 6 (λ bs. tt)

-- `let mut c = 0; while idle(self.read_register(reg)?) { c += 1; if c == limit { return Err(Timeout); } }`
abbrev pub while_idle : ℕ → ℕ → (ℕ → Bool) → Fn Unit
while_idle limit reg idle chip ret =
    wait_loop limit (transfer_of chip.address (reg ∷ []) 1) (λ bs. idle (byte 0 bs))
    (λ e. ret (err (Answer.BusError (suc e))) chip)
    (ret (err Answer.Timeout) chip)
    (ret (ok tt) chip)
