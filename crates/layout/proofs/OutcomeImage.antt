-- The bytes of an outcome stand where the C header says.
use mathlib.Core.Path.{◌≡◌, refl}
use mathlib.Core.Bool.{true}
use mathlib.Core.List.{List, [], ◌∷◌, ◌++◌}
use Prim.Native.Nat.{ℕ, zero, suc, ◌+◌, ◌*◌, ◌/◌, ◌%◌, ◌<◌}
use native.Mathlib.Omega.{arith}
use lib.Dec.{leb}
use lib.ListN.{length}
use borrow.Author.Tests.{lt-ltb}
use Rattle.std.specs.Prelude.{get_or, replicate}
use Rattle.session.specs.declared.Transfer.{Transfer}
use Rattle.session.specs.declared.Answer.{Answer}
use Rattle.session.specs.declared.Given.{Given}
use Rattle.session.specs.Bus.{number_of, values_of}
use Rattle.layout.specs.Layout.{long_bytes, longs_bytes, transfer_bytes, answer_bytes, given_bytes}
use Rattle.layout.specs.RoundTrip.{are_bytes}
use Rattle.layout.specs.OutcomeImage.{value_at, AnswerAt, TransferAt, OutcomeImage}
use Rattle.layout.proofs.Images.{one_value}

-- the five numbers, one by one
abbrev five : ℕ → ℕ → ℕ → ℕ → ℕ → List ℕ → List ℕ
five a b c d e l = long_bytes a ++ long_bytes b ++ long_bytes c ++ long_bytes d ++ long_bytes e ++ l

padded : (xs l : List ℕ) → longs_bytes 5 xs ++ l ≡ five (get_or xs 0 0) (get_or xs 1 0) (get_or xs 2 0) (get_or xs 3 0) (get_or xs 4 0) l
padded [] l = refl
padded (a ∷ []) l = refl
padded (a ∷ b ∷ []) l = refl
padded (a ∷ b ∷ c ∷ []) l = refl
padded (a ∷ b ∷ c ∷ d ∷ []) l = refl
padded (a ∷ b ∷ c ∷ d ∷ e ∷ xs) l = refl

number_is : (x : ℕ) → x % 256 + 256 * (x / 256 % 256) + 65536 * (x / 65536 % 256) + 16777216 * (x / 16777216) ≡ x
number_is x = omega arith

answered : (x : Answer) (n : ℕ) → AnswerAt x n (given_bytes (Given.Answered x n))
unfolding given_bytes answer_bytes
answered x n =
    rw (padded (values_of x) (long_bytes n))
    (record {
      size = refl;
      number = refl;
      first = number_is (value_at 0 x);
      second = number_is (value_at 1 x);
      third = number_is (value_at 2 x);
      fourth = number_is (value_at 3 x);
      fifth = number_is (value_at 4 x);
      transfers = number_is n;
    })

apart : (x : Answer) → number_of x < 254
apart (Answer.Done value) = omega arith
apart Answer.False = omega arith
apart (Answer.InvalidDevice identity) = omega arith
apart (Answer.BusError code) = omega arith
apart Answer.Timeout = omega arith
apart (Answer.InvalidAddress address) = omega arith
apart Answer.InvalidArgument = omega arith
apart Answer.WouldBlock = omega arith
apart (Answer.Panic place) = omega arith
apart Answer.NotUp = omega arith
apart Answer.CallWaits = omega arith
apart Answer.NoCallWaits = omega arith
apart Answer.StrayByte = omega arith
apart Answer.IllFormedRecord = omega arith
apart Answer.SpareBytes = omega arith
apart Answer.IllFormedSession = omega arith

-- a number that fits is four bytes, and so are many
four : (x : ℕ) (l : List ℕ) → x < 4294967296 → are_bytes l ≡ true → are_bytes (long_bytes x ++ l) ≡ true
four x l h e =
    rw (lt-ltb (x % 256) 256 (omega arith), lt-ltb (x / 256 % 256) 256 (omega arith), lt-ltb (x / 65536 % 256) 256 (omega arith), lt-ltb (x / 16777216) 256 (omega arith))
    e

many : (m : ℕ) (xs l : List ℕ) → ((k : ℕ) → get_or xs k 0 < 4294967296) → are_bytes l ≡ true → are_bytes (longs_bytes m xs ++ l) ≡ true
many zero xs l h e = e
many (suc m) [] l h e = many m [] l h e
many (suc m) (x ∷ xs) l h e = four x (longs_bytes m xs ++ l) (h 0) (many m xs l (λ (k : ℕ). h (suc k)) e)

bytes : (x : Answer) (n : ℕ) → ((k : ℕ) → value_at k x < 4294967296) → n < 4294967296 → are_bytes (given_bytes (Given.Answered x n)) ≡ true
unfolding given_bytes answer_bytes
bytes x n h hn =
    rw (lt-ltb (number_of x) 256 (omega (arith, apart x)))
    (many 5 (values_of x) (long_bytes n) h (four n [] hn refl))

room : (x : Answer) → leb (length (values_of x)) 5 ≡ true
room x = rw (one_value x) refl

refused : (x : Answer) → given_bytes (Given.Refused x) ≡ number_of x ∷ replicate 24 0
unfolding given_bytes answer_bytes
refused x = refl

ill_formed : given_bytes Given.IllFormed ≡ 15 ∷ replicate 24 0
unfolding given_bytes answer_bytes
ill_formed = refl

image : (a c r : ℕ) (written : List ℕ) → length written ≡ 7
    → TransferAt (record { address = a; count = c; written = written; reads = r }) (given_bytes (Given.Sent (record { address = a; count = c; written = written; reads = r })))
unfolding given_bytes transfer_bytes
image a c r (b ∷ d ∷ e ∷ f ∷ g ∷ h ∷ i ∷ []) same =
    record { size = refl; number = refl; address = refl; count = refl; written = refl; reads = refl; rest = refl }
image a c r [] same = absurd (omega (arith, same))
image a c r (b ∷ []) same = absurd (omega (arith, same))
image a c r (b ∷ d ∷ []) same = absurd (omega (arith, same))
image a c r (b ∷ d ∷ e ∷ []) same = absurd (omega (arith, same))
image a c r (b ∷ d ∷ e ∷ f ∷ []) same = absurd (omega (arith, same))
image a c r (b ∷ d ∷ e ∷ f ∷ g ∷ []) same = absurd (omega (arith, same))
image a c r (b ∷ d ∷ e ∷ f ∷ g ∷ h ∷ []) same = absurd (omega (arith, same))
image a c r (b ∷ d ∷ e ∷ f ∷ g ∷ h ∷ i ∷ j ∷ l) same = absurd (omega (arith, same))

pub outcome_image : OutcomeImage
outcome_image =
    record {
      answered = answered;
      bytes = bytes;
      room = room;
      apart = apart;
      refused = refused;
      ill_formed = ill_formed;
      sent = λ (t : Transfer). image t.address t.count t.reads t.written;
    }
