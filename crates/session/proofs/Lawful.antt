-- The laws of a call as they are proved, those of demand 3 and those beyond it together.
use mathlib.Core.Path.{◌≡◌}
use mathlib.Core.Bool.{true}
use mathlib.Core.List.{List, [], ◌∷◌}
use Prim.Native.Nat.{◌≤◌}
use Rattle.session.specs.declared.Rules.{Rules}
use Rattle.session.specs.History.{CallRun, transfers_of}
use Rattle.session.specs.Claim3.{ceiling_in, floor_in, TimeoutRule, FailureRule, FigureRule, is_done, values_in, budget_of_first, All, Lawful, LawfulBeyond}

pub record BothLaws (rules : Rules) (c : CallRun) : Type 0 where
  pub ceiling : transfers_of c ≤ ceiling_in rules c.code
  pub timeout : TimeoutRule c
  pub failure : FailureRule c
  pub figure : FigureRule c c.standing
  pub value : is_done c.standing ≡ true → c.code ≡ 15 → values_in c.standing ≡ budget_of_first c.exchanges ∷ []
  pub floor : is_done c.standing ≡ true → floor_in c.code ≤ transfers_of c

all_map : {A : Type 0} (P Q : A → Type 0) → ((a : A) → P a → Q a) → (l : List A) → All P l → All Q l
all_map P Q f [] h = tt
all_map P Q f (a ∷ l) h = (f a h.0, all_map P Q f l h.1)

pub lawful : (rules : Rules) (cs : List CallRun) → All (BothLaws rules) cs → All (Lawful rules) cs
lawful rules = all_map (BothLaws rules) (Lawful rules) (λ c h. record { ceiling = h.ceiling; timeout = h.timeout; failure = h.failure })

pub lawful_beyond : (rules : Rules) (cs : List CallRun) → All (BothLaws rules) cs → All LawfulBeyond cs
lawful_beyond rules = all_map (BothLaws rules) LawfulBeyond (λ c h. record { figure = h.figure; value = h.value; floor = h.floor })

-- and together again
pub all_two : {A : Type 0} (P Q R : A → Type 0) → ((a : A) → P a → Q a → R a) → (l : List A) → All P l → All Q l → All R l
all_two P Q R f [] h k = tt
all_two P Q R f (a ∷ l) h k = (f a h.0 k.0, all_two P Q R f l h.1 k.1)
