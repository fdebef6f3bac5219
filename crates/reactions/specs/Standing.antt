-- What the code knows of a session that makes a move.
use Rattle.std.specs.Prelude.{◌≡◌, Bool, true, false}
use Rattle.session.specs.declared.Session.{Session}
use Rattle.checks.specs.Sound.{Sound}
use Rattle.reactions.specs.declared.Move.{Move}

-- does a move stay in the session's call?
unfoldable pub leads : Move → Bool
leads (Move.To k) = true
leads (Move.Again n) = true
leads (Move.Out x) = true
leads (Move.Refused x) = false
leads Move.IllFormed = false

-- what is known of a session that its call goes on with
abbrev pub SoundIf : Bool → Session → Type 0
SoundIf on s = on ≡ true → Sound s
