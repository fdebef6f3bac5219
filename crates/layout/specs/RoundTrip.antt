-- Sessions and their bytes, there and back.
use Rattle.std.specs.Prelude.{◌≡◌, Bool, true, ◌&&◌, List, [], ◌∷◌, ℕ, ◌<◌, ltb, length}
use Rattle.session.specs.declared.Session.{Session}
use Rattle.layout.specs.Layout.{session_bytes, is_session, session_in}

-- a session whose numbers fit their fields, as those of the code do
pub record Fits (s : Session) : Type 0 where
  pub budget : s.driver.budget < 4294967296
  pub a : s.a < 4294967296
  pub b : s.b < 65536
  pub idle : s.idle < 4294967296
  pub transfers : s.transfers < 4294967296
  pub found_budget : s.found_budget < 4294967296
  pub carried : length s.carried ≡ 24

abbrev pub are_bytes : List ℕ → Bool
are_bytes [] = true
are_bytes (x ∷ xs) = ltb x 256 && are_bytes xs

-- the bytes of a session are one, and it is that session; bytes that are a session are the bytes of the session that they are
pub record RoundTrip : Type 0 where
  pub is_a_session : (s : Session) → Fits s → is_session (session_bytes s) ≡ true
  pub read_back : (s : Session) → Fits s → session_in (session_bytes s) ≡ s
  pub write_back : (l : List ℕ) → are_bytes l ≡ true → is_session l ≡ true → session_bytes (session_in l) ≡ l
