-- The lines of text that transfers, answers and the driver's fields are printed as: lists of ASCII bytes.
-- SCOPE 10: the lines of rolltrace and of rollfields.
use Rattle.std.specs.Prelude.{Bool, cond, List, [], ◌∷◌, ◌++◌, ℕ, zero, suc, ◌+◌, ◌/◌, ◌%◌, ltb, get_or}
use Rattle.session.specs.declared.Answer.{Answer}
use Rattle.session.specs.declared.Driver.{Driver}
use Rattle.session.specs.declared.Transfer.{Transfer}
use Rattle.session.specs.Bus.{bytes_of, number_of, values_of}
use Rattle.session.specs.declared.Given.{Given}
use Rattle.session.specs.declared.Outcome.{Outcome}

abbrev pub newline : ℕ
newline = 10

abbrev pub space : ℕ
space = 32

abbrev pub letter_a : ℕ
letter_a = 65

abbrev pub letter_f : ℕ
letter_f = 70

abbrev pub letter_t : ℕ
letter_t = 84

-- SCOPE 10.1: pairs of hexadecimal digits in capitals: 0 to 9 are bytes 48 to 57, A to F bytes 65 to 70
unfoldable pub hex_digit : ℕ → ℕ
hex_digit n = cond (ltb n 10) (48 + n) (55 + n)

-- the high digit first
abbrev pub hex_pair : ℕ → List ℕ
hex_pair b = hex_digit (b / 16) ∷ hex_digit (b % 16) ∷ []

-- SCOPE 10.1: the written bytes run together
abbrev pub hex_pairs : List ℕ → List ℕ
hex_pairs [] = []
hex_pairs (b ∷ bs) = hex_pair b ++ hex_pairs bs

-- a number that has at most k + 1 digits: the digits of its tenth, then its last one
unfoldable pub digits : ℕ → ℕ → List ℕ
digits zero n = (48 + n) ∷ []
digits (suc k) n = cond (ltb n 10) ((48 + n) ∷ []) (digits k (n / 10) ++ ((48 + n % 10) ∷ []))

-- a number below 10,000,000,000, as in A 2 0 1 of SCOPE 10.1: decimal, with no zeros in front
abbrev pub decimal : ℕ → List ℕ
decimal n = digits 9 n

-- each field after a space, and the end of the line
abbrev pub fields : List (List ℕ) → List ℕ
fields [] = newline ∷ []
fields (x ∷ xs) = space ∷ (x ++ fields xs)

abbrev pub line : ℕ → List (List ℕ) → List ℕ
line letter xs = letter ∷ fields xs

-- SCOPE 10.1: T, address, the written bytes, read length
unfoldable pub transfer_line : Transfer → List ℕ
transfer_line t = line letter_t (hex_pair t.address ∷ hex_pairs (bytes_of t) ∷ decimal t.reads ∷ [])

-- SCOPE 10.1: A, number, value, the call's transfers
unfoldable pub answer_line : ℕ → ℕ → ℕ → List ℕ
answer_line number value transfers = line letter_a (decimal number ∷ decimal value ∷ decimal transfers ∷ [])

abbrev pub flag : Bool → ℕ
flag up = cond up 1 0

-- SCOPE 10.2: the driver's fields: F, up, address, stop byte, budget
unfoldable pub fields_line : Driver → List ℕ
fields_line d =
    line letter_f (decimal (flag d.up) ∷ decimal d.address ∷ decimal d.stop ∷ decimal d.budget ∷ [])

-- an answer's value: its first, and today its only one
abbrev pub value_of : Answer → ℕ
value_of x = get_or (values_of x) 0 0

-- SCOPE 10.1: a refusal has 0 transfers; its value is 0 too
unfoldable pub given_line : Given → List ℕ
given_line (Given.Sent t) = transfer_line t
given_line (Given.Answered x n) = answer_line (number_of x) (value_of x) n
given_line (Given.Refused x) = answer_line (number_of x) 0 0
given_line Given.IllFormed = answer_line (number_of Answer.IllFormedSession) 0 0

abbrev pub outcome_line : Outcome → List ℕ
outcome_line o = given_line o.given
