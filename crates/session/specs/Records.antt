-- Records of eight bytes. SCOPE 7.
use Rattle.std.specs.Prelude.{Bool, cond, List, [], ◌∷◌, ℕ, ◌+◌, ◌*◌, ◌/◌, ◌%◌, eqb, length}
use Rattle.session.specs.Bus.{pad_to}

-- a call (code, A, B), a reply (failure code or 0, six data bytes), or a record of no kind
pub data Record : Type 0 where
  call : ℕ → ℕ → ℕ → Record
  reply : ℕ → List ℕ → Record
  other : Record

-- SCOPE 7.1: a call is 0x01, code, A in four bytes, B in two, high byte first; a reply is 0x02, failure code or 0, six data bytes
abbrev pub record_of : ℕ → ℕ → ℕ → ℕ → ℕ → ℕ → ℕ → ℕ → Record
record_of kind x b₂ b₃ b₄ b₅ b₆ b₇ =
    cond (eqb kind 0x01) (call x (b₂ * 16777216 + b₃ * 65536 + b₄ * 256 + b₅) (b₆ * 256 + b₇))
    (cond (eqb kind 0x02) (reply x (b₂ ∷ b₃ ∷ b₄ ∷ b₅ ∷ b₆ ∷ b₇ ∷ [])) other)

-- the eight bytes of a call and of a reply
abbrev pub call_bytes : ℕ → ℕ → ℕ → List ℕ
call_bytes code a b = 0x01 ∷ code ∷ a / 16777216 % 256 ∷ a / 65536 % 256 ∷ a / 256 % 256 ∷ a % 256 ∷ b / 256 % 256 ∷ b % 256 ∷ []

abbrev pub reply_bytes : ℕ → List ℕ → List ℕ
reply_bytes f bs = 0x02 ∷ f ∷ pad_to 6 bs

-- the whole records of a list
unfoldable pub records_of : List ℕ → List Record
records_of [] = []
records_of (a ∷ []) = []
records_of (a ∷ b ∷ []) = []
records_of (a ∷ b ∷ c ∷ []) = []
records_of (a ∷ b ∷ c ∷ d ∷ []) = []
records_of (a ∷ b ∷ c ∷ d ∷ e ∷ []) = []
records_of (a ∷ b ∷ c ∷ d ∷ e ∷ f ∷ []) = []
records_of (a ∷ b ∷ c ∷ d ∷ e ∷ f ∷ g ∷ []) = []
records_of (a ∷ b ∷ c ∷ d ∷ e ∷ f ∷ g ∷ h ∷ l) = record_of a b c d e f g h ∷ records_of l

-- SCOPE 8.2: a list whose length is no multiple of 8 is not run
abbrev pub is_whole : List ℕ → Bool
is_whole bytes = eqb (length bytes % 8) 0
