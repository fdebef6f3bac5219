-- What is written part by part, and what is left to write.
use Rattle.std.proofs.Common.{◌≡◌, ℕ, ◌+◌, ◌-◌, ◌*◌, ◌/◌, ◌%◌, ◌≤◌, List, [], ◌∷◌, ◌++◌, Option, None, Some, IfSome, Result, refl, sym, ap, subst, ◌∙◌, arith, append_assoc, append-nil, length, take, drop, length-append, length-drop, take-append-drop}
use lib.Seq.{take-add, take_all}
use Rattle.console.specs.declared.failure.Failure.{Failure}
use Rattle.std.specs.Prelude.{⊤}
use Rattle.std.specs.Io.{StartsWith}
use Rattle.std.specs.Io.KnownBytes.{Appends, Consumes, Keeps, IsAtEnd}
use Rattle.std.proofs.KnownBytes.{Appends-trans, Appends-kept, Consumes-trans, Consumes-kept, Consumes-whole}
use Rattle.std.proofs.Transfers.{starts_with_of_append, starts_with_trans}
use Rattle.records.proofs.Turns.{tail}
use Rattle.session.specs.declared.Session.{Session}
use Rattle.session.specs.Records.{records_of}
use Rattle.session.specs.declared.Outcome.{Outcome}
use Rattle.blocks.specs.Blocks.{lines_of, session_past}
use Rattle.blocks.specs.Input.{after_lines, text_from}
use Rattle.blocks.specs.Laws.{whole_part}
use Rattle.blocks.proofs.Laws.{blocks_join, part_whole, part_records}
use Rattle.console.specs.Failures.{IsWrite, OnRead}
use Rattle.console.specs.Streams.{Writes, Told, After}

-- one write more, from k on
pub put_more : (a b c : Option (List ℕ)) (l : List ℕ) (k n m : ℕ) → m ≡ k + n → k ≤ length l → n ≤ length (take (length l - k) (drop k l))
    → Appends a b (take k l) → Appends b c (take n (take (length l - k) (drop k l))) → (m ≤ length l) × Appends a c (take m l)
put_more a b c l k n m e h fits p q =
    let all = tail k l in
    let joined : take k l ++ take n (take (length l - k) (drop k l)) ≡ take m l =
    ap (λ (r : List ℕ). take k l ++ take n r) all ∙ sym (take-add k n l) ∙ ap (λ j. take j l) (sym e) in
    (omega (arith, e, h, fits, ap length all, length-drop k l), subst (Appends a c) joined (Appends-trans a b c _ _ p q))

pub put_kept : (a b c : Option (List ℕ)) (l : List ℕ) (k m : ℕ) → m ≡ k → k ≤ length l → Appends a b (take k l) → Keeps b c → (m ≤ length l) × Appends a c (take m l)
put_kept a b c l k m e h p q = (omega (arith, e, h), subst (Appends a c) (ap (λ j. take j l) (sym e)) (Appends-kept a b c _ p q))

pub writes_same : {A : Type 0} (l m : List ℕ) (was now : Option (List ℕ)) (r : Result A Failure) → l ≡ m → Writes l was now r → Writes m was now r
writes_same l m was now r e p = subst (λ t. Writes t was now r) e p

-- one read more, from k on
pub fill_more : (a b c : Option (List ℕ)) (old new : List ℕ) (k n m : ℕ) → m ≡ k + n → take k new ≡ take k old
    → Consumes a b (take k old) → Consumes b c (take n (drop k new)) → Consumes a c (take m new)
fill_more a b c old new k n m e front p q =
    subst (Consumes a c) (ap (λ (l : List ℕ). l ++ take n (drop k new)) (sym front) ∙ sym (take-add k n new) ∙ ap (λ j. take j new) (sym e))
    (Consumes-trans a b c _ _ p q)

pub fill_kept : (a b c : Option (List ℕ)) (old new : List ℕ) (k m : ℕ) → m ≡ k → take k new ≡ take k old → Consumes a b (take k old) → Keeps b c → Consumes a c (take m new)
fill_kept a b c old new k m e front p q = subst (Consumes a c) (sym front ∙ ap (λ j. take j new) (sym e)) (Consumes-kept a b c _ p q)

starts_after : (w z v : List ℕ) → StartsWith z v → StartsWith (w ++ z) (w ++ v)
starts_after [] z v h = h
starts_after (x ∷ w) z v h = ap (λ (l : List ℕ). x ∷ l) (starts_after w z v h)

pub read_failed : (P : Type 0) (f : Failure) → P → OnRead P f
read_failed P (Failure.Read e) p = p
read_failed P (Failure.Write e) p = tt

pub write_failed : (P : Type 0) (f : Failure) → IsWrite f → OnRead P f
write_failed P (Failure.Read e) w = absurd w
write_failed P (Failure.Write e) w = tt

pub on_read : (P Q : Type 0) (f : Failure) → (P → Q) → OnRead P f → OnRead Q f
on_read P Q (Failure.Read e) h p = h p
on_read P Q (Failure.Write e) h p = tt

abbrev pub told : (line : Outcome → List ℕ) (s : Session) (given left : Option (List ℕ)) (bytes w : List ℕ) → Consumes given left bytes
    → w ≡ lines_of line s (records_of bytes) → Told line s given left w
told line s given left bytes w p e = record { bytes = bytes; taken = p; lines = e }

-- the text of the bytes that were left is `part`, and then the text of those that are left now, for the session t
abbrev pub GoesOn : (Outcome → List ℕ) → List ℕ → Session → Option (List ℕ) → List ℕ → Session → Option (List ℕ) → Type 0
GoesOn line spare s None part t left = ⊤
GoesOn line spare s (Some bytes) part t None = ⊥
GoesOn line spare s (Some bytes) part t (Some rest) = text_from line spare s bytes ≡ part ++ text_from line spare t rest

module _ (line : Outcome → List ℕ) (spare : List ℕ) where
  -- the lines of what was read are the start of the text
  lines_start : (s : Session) (bs rest : List ℕ) → StartsWith (text_from line spare s (bs ++ rest)) (lines_of line s (records_of bs))
  lines_start s bs rest =
      let n = length bs / 8 * 8 in
      let front = take n bs in
      let behind = drop n bs ++ rest in
      let cut : bs ++ rest ≡ front ++ behind = ap (λ (l : List ℕ). l ++ rest) (sym (take-append-drop n bs)) ∙ append_assoc front (drop n bs) rest in
      let more = text_from line spare (session_past s (records_of front)) behind in
      starts_with_of_append _ _ more
      (ap (text_from line spare s) cut ∙ (blocks_join line spare).text s front behind (part_whole bs)
      ∙ ap (λ rs. lines_of line s rs ++ more) (part_records bs))

  pub block_start : (s : Session) (given left : Option (List ℕ)) (bs w : List ℕ) → Consumes given left bs → StartsWith (lines_of line s (records_of bs)) w
      → IfSome given (λ bytes. StartsWith (text_from line spare s bytes) w)
  block_start s None left bs w p h = tt
  block_start s (Some xs) None bs w p h = absurd p
  block_start s (Some xs) (Some ys) bs w p h =
      subst (λ l. StartsWith (text_from line spare s l) w) (sym p) (starts_with_trans _ _ _ (lines_start s bs ys) h)

  -- what was told is the start of the text
  pub start_end : (s : Session) (given left : Option (List ℕ)) (w : List ℕ) → Told line s given left w
      → IfSome given (λ bytes. StartsWith (text_from line spare s bytes) w)
  start_end s given left w p = block_start s given left p.bytes w p.taken (rw (← p.lines) (take_all (length w) w (omega arith)))

  pub block_goes : (s t : Session) (given left : Option (List ℕ)) (bs w : List ℕ) → Consumes given left bs → length bs % 8 ≡ 0
      → w ≡ lines_of line s (records_of bs) → t ≡ session_past s (records_of bs) → GoesOn line spare s given w t left
  block_goes s t None left bs w p whole e f = tt
  block_goes s t (Some xs) None bs w p whole e f = absurd p
  block_goes s t (Some xs) (Some ys) bs w p whole e f = rw (p, e, f) ((blocks_join line spare).text s bs ys whole)

  -- the last block, and what comes after it
  pub last_start : (s : Session) (given left : Option (List ℕ)) (bs w v : List ℕ) → Consumes given left bs → IsAtEnd left
      → w ≡ lines_of line s (records_of bs) → StartsWith (after_lines spare bs) v → IfSome given (λ bytes. StartsWith (text_from line spare s bytes) (w ++ v))
  unfolding text_from
  last_start s given left bs w v p end e h =
      Consumes-whole given left bs (λ bytes. StartsWith (text_from line spare s bytes) (w ++ v)) p end
      (subst (λ l. StartsWith (text_from line spare s bs) (l ++ v)) (sym e) (starts_after (lines_of line s (records_of bs)) (after_lines spare bs) v h))

  pub last_whole : (s : Session) (given left : Option (List ℕ)) (bs w v : List ℕ) → Consumes given left bs → IsAtEnd left
      → w ≡ lines_of line s (records_of bs) → v ≡ after_lines spare bs → IfSome given (λ bytes. w ++ v ≡ text_from line spare s bytes)
  unfolding text_from
  last_whole s given left bs w v p end e h =
      Consumes-whole given left bs (λ bytes. w ++ v ≡ text_from line spare s bytes) p end (rw (e, h) refl)

  -- a part more, after what was written before
  pub start_on : (s t : Session) (given mid : Option (List ℕ)) (w v : List ℕ) → GoesOn line spare s given w t mid
      → IfSome mid (λ bytes. StartsWith (text_from line spare t bytes) v) → IfSome given (λ bytes. StartsWith (text_from line spare s bytes) (w ++ v))
  start_on s t None mid w v g h = tt
  start_on s t (Some xs) None w v g h = absurd g
  start_on s t (Some xs) (Some ys) w v g h = subst (λ l. StartsWith l (w ++ v)) (sym g) (starts_after w _ v h)

  pub whole_on : (s t : Session) (given mid : Option (List ℕ)) (w v : List ℕ) → GoesOn line spare s given w t mid
      → IfSome mid (λ bytes. v ≡ text_from line spare t bytes) → IfSome given (λ bytes. w ++ v ≡ text_from line spare s bytes)
  whole_on s t None mid w v g h = tt
  whole_on s t (Some xs) None w v g h = absurd g
  whole_on s t (Some xs) (Some ys) w v g h = ap (λ (l : List ℕ). w ++ l) h ∙ sym g

  -- more was read and told after whole records
  abbrev pub told_on : (s t : Session) (given mid left : Option (List ℕ)) (w v : List ℕ) (p : Told line s given mid w) → length p.bytes % 8 ≡ 0
      → t ≡ session_past s (records_of p.bytes) → Told line t mid left v → Told line s given left (w ++ v)
  told_on s t given mid left w v p whole e q =
      told line s given left (p.bytes ++ q.bytes) (w ++ v) (Consumes-trans given mid left p.bytes q.bytes p.taken q.taken)
      (rw (p.lines, q.lines, e) (sym ((blocks_join line spare).lines s p.bytes q.bytes whole)))

  pub block_on : (s t u : Session) (given mid left : Option (List ℕ)) (w v : List ℕ) → After line spare s given w (Some t) mid
      → After line spare t mid v (Some u) left → After line spare s given (w ++ v) (Some u) left
  block_on s t u given mid left w v (p, whole, e) (q, whole', e') = (
    told_on s t given mid left w v p whole e q,
    omega (arith, whole, whole', length-append p.bytes q.bytes),
    rw (e', e) (sym ((blocks_join line spare).session s p.bytes q.bytes whole)),
  )

  -- the text of what was told
  pub told_text : (s : Session) (given left : Option (List ℕ)) (w : List ℕ) → Told line s given left w
      → (bytes : List ℕ) × Consumes given left bytes × (w ≡ text_from line spare s (whole_part bytes))
  unfolding text_from after_lines
  told_text s given left w p =
      (p.bytes, p.taken, rw (part_whole p.bytes, part_records p.bytes) (p.lines ∙ sym (append-nil _)))

  -- before the first block
  pub block_none : (s : Session) (given : Option (List ℕ)) → After line spare s given [] (Some s) given
  unfolding lines_of session_past records_of
  block_none s None = (told line s None None [] [] tt refl, refl, refl)
  block_none s (Some xs) = (told line s (Some xs) (Some xs) [] [] refl refl, refl, refl)
