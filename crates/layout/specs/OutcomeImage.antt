-- Where the bytes of an outcome stand, in the plain numbers of bindings/c/vl53l0x.h. How Layout.antt puts an image together is not used.
use Rattle.std.specs.Prelude.{◌≡◌, true, List, ◌∷◌, ℕ, ◌+◌, ◌*◌, ◌<◌, leb, length, take, drop, get_or, replicate}
use Rattle.session.specs.declared.Transfer.{Transfer}
use Rattle.session.specs.declared.Answer.{Answer}
use Rattle.session.specs.declared.Given.{Given}
use Rattle.session.specs.Bus.{byte, zero_from, number_of, values_of}
use Rattle.layout.specs.Layout.{given_bytes}
use Rattle.layout.specs.RoundTrip.{are_bytes}

-- the number in four bytes from i on, low byte first
abbrev pub number_at : ℕ → List ℕ → ℕ
number_at i l = byte i l + 256 * byte (i + 1) l + 65536 * byte (i + 2) l + 16777216 * byte (i + 3) l

-- the value at k; 0 where the answer has fewer
abbrev pub value_at : ℕ → Answer → ℕ
value_at k x = get_or (values_of x) k 0

-- the bytes l are the answer x after n transfers
pub record AnswerAt (x : Answer) (n : ℕ) (l : List ℕ) : Type 0 where
  pub size : length l ≡ 25
  pub number : byte 0 l ≡ number_of x
  pub first : number_at 1 l ≡ value_at 0 x
  pub second : number_at 5 l ≡ value_at 1 x
  pub third : number_at 9 l ≡ value_at 2 x
  pub fourth : number_at 13 l ≡ value_at 3 x
  pub fifth : number_at 17 l ≡ value_at 4 x
  pub transfers : number_at 21 l ≡ n

-- the bytes l are the transfer t
pub record TransferAt (t : Transfer) (l : List ℕ) : Type 0 where
  pub size : length l ≡ 25
  pub number : byte 0 l ≡ 255
  pub address : byte 1 l ≡ t.address
  pub count : byte 2 l ≡ t.count
  pub written : take 7 (drop 3 l) ≡ t.written
  pub reads : byte 10 l ≡ t.reads
  pub rest : zero_from 11 l ≡ true

-- an answer's image is made of bytes where its numbers fit their fields, as those of the code do; a transfer's bytes are the transfer's own.
-- Byte 0 tells the two apart
pub record OutcomeImage : Type 0 where
  pub answered : (x : Answer) (n : ℕ) → AnswerAt x n (given_bytes (Given.Answered x n))
  pub bytes : (x : Answer) (n : ℕ) → ((k : ℕ) → value_at k x < 4294967296) → n < 4294967296
      → are_bytes (given_bytes (Given.Answered x n)) ≡ true
  pub room : (x : Answer) → leb (length (values_of x)) 5 ≡ true
  pub apart : (x : Answer) → number_of x < 254
  pub refused : (x : Answer) → given_bytes (Given.Refused x) ≡ number_of x ∷ replicate 24 0
  pub ill_formed : given_bytes Given.IllFormed ≡ 15 ∷ replicate 24 0
  pub sent : (t : Transfer) → length t.written ≡ 7 → TransferAt t (given_bytes (Given.Sent t))
