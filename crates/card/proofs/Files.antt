-- A file: the records of its receipts, and what stands after them. Assumes nothing.
use Prim.Native.Nat.{ℕ, zero, suc, ◌+◌, ◌<◌}
use mathlib.Core.Bool.{Bool, true, false, cond, false≢true}
use mathlib.Core.List.{List, [], ◌∷◌, ◌++◌, append_assoc, append-nil}
use mathlib.Core.Logic.{◌⊎◌, inl, inr, ◌≢◌, ◌↔◌}
use mathlib.Core.Path.{◌≡◌, refl, sym, ap, ap₂, ◌∙◌, subst}
use native.Mathlib.Omega.{arith}
use borrow.Author.Tests.{eqb-true}
use lib.Dec.{eqb}
use lib.ListN.{length, take, drop, take-append-drop}
use Rattle.model.specs.declared.Receipt.{Receipt}
use Rattle.model.proofs.Tests.{and_both}
use Rattle.words.specs.Words.{Bytes}
use Rattle.card.specs.Card.{record_of, records_of, head, card_of, wrong_head, past_end, unsound, Found, Ends, Accepts, Refuses, entry_in, Contents, holding, ended, onward, records_in, same, has_head, read_card}
use Rattle.card.specs.Claim.{AllFit, Holds, Reads, GoesOn, Refused}
use Rattle.card.proofs.Bytes.{bytes_after, bytes_drop}
use Rattle.card.proofs.Records.{written_read, Case, past, broken, whole, cases, case-number, read-written, past-exactly, cut-past}

-- reading on -------------------------------------------------------------------------------------------------------------

-- what is left of the record before is passed over
pub records-skip : (n : ℕ) (bs : List ℕ) → records_in n bs ≡ records_in 0 (drop n bs)
unfolding records_in
records-skip zero bs = refl
records-skip (suc n) [] = refl
records-skip (suc n) (b ∷ bs) = records-skip n bs

-- what is read from a place on, by what stands there
abbrev pub read_on : Found → Contents
read_on Ends = ended 0
read_on (Accepts r rest) = record { receipts = r ∷ (records_in 0 rest).receipts; answer = (records_in 0 rest).answer }
read_on (Refuses n) = ended n

pub records-on : (bs : List ℕ) → records_in 0 bs ≡ read_on (entry_in bs)
unfolding records_in entry_in onward
records-on [] = refl
records-on (L ∷ xs) = go (cases L xs)
  where
    go : {x : Found} → Case L xs x → onward x (records_in (L + 2) xs) ≡ read_on x
    go (past h) = refl
    go (broken h) = refl
    go (whole h p) = rw (records-skip (L + 2) xs)

-- with receipts in front
abbrev pub prepend : List Receipt → Contents → Contents
prepend rs c = record { receipts = rs ++ c.receipts; answer = c.answer }

records-append : (rs more : List Receipt) → records_of (rs ++ more) ≡ records_of rs ++ records_of more
unfolding records_of
records-append [] more = refl
records-append (r ∷ rs) more = rw (records-append rs more, append_assoc (record_of r) (records_of rs) (records_of more))

-- records that were written are read, whatever follows
pub records-read : (rs : List Receipt) (rest : List ℕ) → AllFit rs → records_in 0 (records_of rs ++ rest) ≡ prepend rs (records_in 0 rest)
unfolding records_of
records-read [] rest f = refl
records-read (r ∷ rs) rest f =
    let after = records_of rs ++ rest in
    rw (append_assoc (record_of r) (records_of rs) rest, records-on (record_of r ++ after), written_read r after f.0, records-read rs rest f.1)

-- what was read ----------------------------------------------------------------------------------------------------------

-- the records of the receipts, and the bytes at which the reading ended
pub record Stopped (bs : List ℕ) (rs : List Receipt) (n : ℕ) : Type 0 where
  pub fit : AllFit rs
  pub rest : List ℕ
  pub bytes : bs ≡ records_of rs ++ rest
  pub ends : records_in 0 rest ≡ ended n

-- one record more, in front
more : (bs : List ℕ) (r : Receipt) (after : List ℕ) (rs : List Receipt) (n : ℕ) → Holds bs r after → Stopped after rs n
    → Stopped bs (r ∷ rs) n
unfolding records_of
more bs r after rs n h s =
    record {
      fit = (h.fits, s.fit);
      rest = s.rest;
      bytes = rw (append_assoc (record_of r) (records_of rs) s.rest, ← s.bytes) h.bytes;
      ends = s.ends;
    }

split : (x r : Receipt) (c : Contents) (rs : List Receipt) (n : ℕ) → prepend (x ∷ []) c ≡ holding (r ∷ rs) n
    → (x ≡ r) × (c ≡ holding rs n)
split x r c rs n e =
    let l : x ∷ c.receipts ≡ r ∷ rs = ap (λ (d : Contents). d.receipts) e in
    let a : c.answer ≡ n = ap (λ (d : Contents). d.answer) e in
    (cc, ap₂ holding (cc) a)

none-there : {A : Type 0} (m : ℕ) (r : Receipt) (rs : List Receipt) (n : ℕ) → ended m ≡ holding (r ∷ rs) n → A
none-there m r rs n e = let l : [] ≡ r ∷ rs = ap (λ (d : Contents). d.receipts) e in absurd (cc)

pub stopped : (rs : List Receipt) (bs : List ℕ) (n : ℕ) → Bytes bs → records_in 0 bs ≡ holding rs n → Stopped bs rs n
unfolding records_of
stopped [] bs n b e = record { fit = tt; rest = bs; bytes = refl; ends = e }
stopped (r ∷ rs) bs n b e = go (entry_in bs) refl (sym (records-on bs) ∙ e) (λ after. stopped rs after n)
  where
    go : (x : Found) → entry_in bs ≡ x → read_on x ≡ holding (r ∷ rs) n
        → ((after : List ℕ) → Bytes after → records_in 0 after ≡ holding rs n → Stopped after rs n) → Stopped bs (r ∷ rs) n
    go Ends p q later = none-there 0 r rs n q
    go (Accepts x after) p q later =
        let h = read-written bs x after b p in
        let k = split x r (records_in 0 after) rs n q in
        let s = later after (bytes_after (record_of x) after (rw h.bytes at b)) k.1 in
        rw (← k.0) (more bs x after rs n h s)
    go (Refuses m) p q later = none-there m r rs n q

-- it ended at a record that is refused, or at the end of the file
refused-at : (L : ℕ) (xs : List ℕ) (n : ℕ) → records_in 0 (L ∷ xs) ≡ ended n → Refused n L xs
refused-at L xs n e = go (cases L xs) (sym (records-on (L ∷ xs)) ∙ e)
  where
    go : {x : Found} → Case L xs x → read_on x ≡ ended n → x ≡ Refuses n
    go (past h) q = ap (λ (c : Contents). Refuses c.answer) q
    go (broken h) q = ap (λ (c : Contents). Refuses c.answer) q
    go (whole {r} h p) q = let after = records_in 0 (drop (L + 2) xs) in none-there n r after.receipts after.answer (sym q)

pub refused-number : (L : ℕ) (xs : List ℕ) (n : ℕ) → Refused n L xs → (n ≡ past_end) ⊎ (n ≡ unsound)
refused-number L xs n e = case-number (subst (Case L xs) e (cases L xs))

end-zero : (bs : List ℕ) → records_in 0 bs ≡ ended 0 → bs ≡ []
end-zero [] e = refl
end-zero (L ∷ xs) e = go (refused-number L xs 0 (refused-at L xs 0 e))
  where
    go : (0 ≡ past_end) ⊎ (0 ≡ unsound) → L ∷ xs ≡ []
    go (inl p) = absurd (omega arith)
    go (inr p) = absurd (omega arith)

end_refused : (bs : List ℕ) (n : ℕ) → n ≢ 0 → records_in 0 bs ≡ ended n
    → (L : ℕ) × (after : List ℕ) × (bs ≡ L ∷ after) × Refused n L after
unfolding records_in
end_refused [] n h e = absurd (h (sym (ap (λ (c : Contents). c.answer) e)))
end_refused (L ∷ xs) n h e = (L, xs, refl, refused-at L xs n e)

-- 121 is no record's number
not-wrong-head : (left : ℕ) (bs : List ℕ) → (records_in left bs).answer ≢ wrong_head
unfolding records_in onward
not-wrong-head left [] e = omega arith
not-wrong-head (suc left) (b ∷ bs) e = not-wrong-head left bs e
not-wrong-head zero (L ∷ xs) e = go (not-wrong-head (L + 2) xs) (cases L xs) e
  where
    go : {x : Found} → (records_in (L + 2) xs).answer ≢ wrong_head → Case L xs x → (onward x (records_in (L + 2) xs)).answer ≢ wrong_head
    go later (past h) q = omega arith
    go later (broken h) q = omega arith
    go later (whole h p) q = later q

-- the head ---------------------------------------------------------------------------------------------------------------

same_true : (xs ys : List ℕ) → same xs ys ≡ true → xs ≡ ys
unfolding same
same_true [] [] e = refl
same_true [] (y ∷ ys) e = absurd (false≢true e)
same_true (x ∷ xs) [] e = absurd (false≢true e)
same_true (x ∷ xs) (y ∷ ys) e =
    let h = and_both (eqb x y) (same xs ys) e in
    ap₂ (λ (z : ℕ) (zs : List ℕ). z ∷ zs) (eqb-true x y h.0) (same_true xs ys h.1)

same_head : same head head ≡ true
unfolding same head
same_head = refl

pub has-head : (file : List ℕ) → (has_head file ≡ true) ↔ (take 4 file ≡ head)
unfolding has_head
has-head file = (λ e. same_true (take 4 file) head e, λ e. rw e same_head)

pub wrong-head : (file : List ℕ) → ((read_card file).answer ≡ wrong_head) ↔ (has_head file ≡ false)
unfolding read_card
wrong-head file = (λ e. go (has_head file) refl e, λ e. rw e)
  where
    go : (t : Bool) → has_head file ≡ t → (cond t (records_in 0 (drop 4 file)) (ended wrong_head)).answer ≡ wrong_head → has_head file ≡ false
    go true h e = absurd (not-wrong-head 0 (drop 4 file) e)
    go false h e = h

pub no-receipts : (file : List ℕ) → has_head file ≡ false → Reads file [] wrong_head
unfolding read_card
no-receipts file e = rw e

-- files ------------------------------------------------------------------------------------------------------------------

-- a card, whatever follows
pub card-on : (rs : List Receipt) (rest : List ℕ) → AllFit rs → read_card (card_of rs ++ rest) ≡ prepend rs (records_in 0 rest)
unfolding read_card has_head same card_of head
card-on rs rest f = records-read rs rest f

pub card-read : (rs : List Receipt) → AllFit rs → Reads (card_of rs) rs 0
unfolding records_in
card-read rs f = rw (append-nil (card_of rs), append-nil rs) at (card-on rs [] f)

-- what was read of a file
pub record Read (file : List ℕ) (rs : List Receipt) (n : ℕ) : Type 0 where
  pub fit : AllFit rs
  pub rest : List ℕ
  pub bytes : file ≡ card_of rs ++ rest
  pub ends : records_in 0 rest ≡ ended n

pub read-so : (file : List ℕ) (rs : List Receipt) (n : ℕ) → Bytes file → n ≢ wrong_head → Reads file rs n → Read file rs n
unfolding read_card card_of
read-so file rs n b h e = go (has_head file) refl e
  where
    go : (t : Bool) → has_head file ≡ t → cond t (records_in 0 (drop 4 file)) (ended wrong_head) ≡ holding rs n → Read file rs n
    go true p q =
        let s = stopped rs (drop 4 file) n (bytes_drop 4 file b) q in
        record {
          fit = s.fit;
          rest = s.rest;
          bytes = rw (append_assoc head (records_of rs) s.rest, ← s.bytes, ← (has-head file).0 p) (sym (take-append-drop 4 file));
          ends = s.ends;
        }
    go false p q = absurd (h (sym (ap (λ (c : Contents). c.answer) q)))

pub read-card : (file : List ℕ) (rs : List Receipt) → Bytes file → Reads file rs 0 → AllFit rs × (file ≡ card_of rs)
read-card file rs b e =
    let s = read-so file rs 0 b (λ z. omega arith) e in
    (s.fit, rw (end-zero s.rest s.ends, append-nil (card_of rs)) at s.bytes)

pub before-stand : (file : List ℕ) (rs : List Receipt) (n : ℕ) → Bytes file → n ≢ 0 → n ≢ wrong_head → Reads file rs n
    → GoesOn file rs (Refused n)
before-stand file rs n b h k e =
    let s = read-so file rs n b k e in
    let (L, after, p, r) = end_refused s.rest n h s.ends in
    record { fit = s.fit; L = L; after = after; bytes = rw p at s.bytes; so = r }

pub refused-read : (file : List ℕ) (rs : List Receipt) (n : ℕ) → GoesOn file rs (Refused n) → Reads file rs n
refused-read file rs n g =
    let e : records_in 0 (g.L ∷ g.after) ≡ ended n = records-on (g.L ∷ g.after) ∙ ap read_on g.so in
    rw (g.bytes, card-on rs (g.L ∷ g.after) g.fit, e, append-nil rs)

pub appended : (rs more : List Receipt) → card_of (rs ++ more) ≡ card_of rs ++ records_of more
unfolding card_of head
appended rs more = ap (λ (l : List ℕ). head ++ l) (records-append rs more)

pub cut : (rs : List Receipt) (r : Receipt) (k : ℕ) → AllFit rs → 0 < k → k < length (record_of r)
    → Reads (card_of rs ++ take k (record_of r)) rs past_end
cut rs r zero f p h = absurd (omega arith)
cut rs r (suc k) f p h =
    let (L, after, e, short) = cut-past r k h in
    refused-read (card_of rs ++ take (suc k) (record_of r)) rs past_end
    (record { fit = f; L = L; after = after; bytes = rw e; so = (past-exactly L after).1 short })

-- what is said of the record after, in another way
goes_so : (file : List ℕ) (rs : List Receipt) (P Q : ℕ → List ℕ → Type 0) → Bytes file
    → ((L : ℕ) (after : List ℕ) → Bytes (L ∷ after) → P L after → Q L after) → GoesOn file rs P → GoesOn file rs Q
goes_so file rs P Q b f g =
    let c = bytes_after (card_of rs) (g.L ∷ g.after) (rw g.bytes at b) in
    record { fit = g.fit; L = g.L; after = g.after; bytes = g.bytes; so = f g.L g.after c g.so }

pub exactly : (file : List ℕ) (rs : List Receipt) (n : ℕ) (P : ℕ → List ℕ → Type 0) → Bytes file → n ≢ 0 → n ≢ wrong_head
    → ((L : ℕ) (after : List ℕ) → Bytes (L ∷ after) → Refused n L after ↔ P L after) → Reads file rs n ↔ GoesOn file rs P
exactly file rs n P b h k iff =
    let to = goes_so file rs (Refused n) P b (λ L after c. (iff L after c).0) in
    let back = goes_so file rs P (Refused n) b (λ L after c. (iff L after c).1) in
    (λ e. to (before-stand file rs n b h k e), λ g. refused-read file rs n (back g))
