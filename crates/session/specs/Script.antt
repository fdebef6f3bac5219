-- A script: what a Rust call does on the bus, as a tree. It ends in an answer and the driver's fields,
-- or sends a transfer and goes on by the reply.
use Rattle.std.specs.Prelude.{Bool, true, false, cond, List, [], ◌∷◌, ℕ, zero, suc, take}
use Rattle.session.specs.Bus.{Driver, Transfer, Answer, Reply, bad, good, zero_from, clean_from}

pub data Script : Type 0 where
  done : Answer → Driver → Script
  send : Transfer → (Reply → Script) → Script

-- the branches of a reply
abbrev pub on_reply : {A : Type 0} → Reply → (ℕ → A) → (List ℕ → A) → A
on_reply (bad e) f g = f e
on_reply (good bs) f g = g bs

-- a wait: at most n reads of t; the read that reaches the limit idle runs `out`
unfoldable pub wait_loop : ℕ → Transfer → (List ℕ → Bool) → (ℕ → Script) → Script → Script → Script
wait_loop zero t idle fail out ready = out
wait_loop (suc n) t idle fail out ready =
    send t (λ r. on_reply r fail (λ bs. elim (idle bs) [ true ↦ wait_loop n t idle fail out ready | false ↦ ready ]))

-- a reply as its record gives it: the failure code or 0, and six data bytes
pub record Raw : Type 0 where
  pub failure : ℕ
  pub b₀ : ℕ
  pub b₁ : ℕ
  pub b₂ : ℕ
  pub b₃ : ℕ
  pub b₄ : ℕ
  pub b₅ : ℕ

abbrev pub data_of : Raw → List ℕ
data_of r = r.b₀ ∷ r.b₁ ∷ r.b₂ ∷ r.b₃ ∷ r.b₄ ∷ r.b₅ ∷ []

abbrev pub is_clean : Transfer → Raw → Bool
is_clean t r = zero_from (clean_from r.failure t.reads) (data_of r)

-- the reply that the Rust sees: a failure, or as many bytes as it asked for
abbrev pub cut : Transfer → ℕ → List ℕ → Reply
cut t zero bs = good (take t.reads bs)
cut t (suc e) bs = bad e

-- what is seen of a call over a list of replies: transfers and refused replies in order,
-- then the answer with the fields, or a call that still waits
pub data Trace : Type 0 where
  sends : Transfer → Trace → Trace
  refuses : Answer → Trace → Trace
  waits : Trace
  ends : Answer → Driver → Trace

-- a script's first transfer or its end, before what comes after
abbrev pub shown : Script → Trace → Trace
shown (done a d) x = ends a d
shown (send t k) x = sends t x

-- after that transfer: a reply with a stray byte is refused, and the transfer stays out
unfoldable pub heard : Script → List Raw → Trace
heard (done a d) rs = waits
heard (send t k) [] = waits
heard (send t k) (r ∷ rs) =
    cond (is_clean t r)
    (shown (k (cut t r.failure (data_of r))) (heard (k (cut t r.failure (data_of r))) rs))
    (refuses Answer.StrayByte (heard (send t k) rs))

unfoldable pub play : Script → List Raw → Trace
play x rs = shown x (heard x rs)
