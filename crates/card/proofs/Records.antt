-- A record, written and read. Assumes nothing.
use Prim.Native.Nat.{ℕ, suc, ◌+◌, ◌^◌, ◌<◌, ◌≤◌}
use mathlib.Core.Bool.{Bool, true, false, ◌&&◌, cond}
use mathlib.Core.List.{List, [], ◌∷◌, ◌++◌, append_assoc}
use mathlib.Core.Logic.{◌⊎◌, inl, inr, ◌↔◌}
use Rattle.std.specs.Prelude.{Option, Some, None, option_and_then}
use Rattle.std.proofs.lemmas.Option.{none-some, option_and_then_some}
use mathlib.Core.Path.{◌≡◌, refl, ap, ◌∙◌, subst}
use native.Mathlib.Omega.{arith}
use borrow.Author.Tests.{le-leb, lt-leb, leb-true, leb-false, eq-eqb, eqb-true}
use lib.Dec.{eqb, leb}
use lib.ListN.{length, take, drop, get_or, length-append, length-take, length-drop, take-append-drop}
use lib.Seq.{length-take-le, take-append_seam, drop-append_seam, drop-append-add, take_at, drop_at, drop-drop}
use Rattle.model.specs.declared.Receipt.{Receipt}
use Rattle.model.proofs.Tests.{and_both}
use Rattle.words.specs.Words.{Bytes, little_end, little_number}
use Rattle.words.proofs.Numbers.{number-bytes}
use Rattle.words.proofs.Ends.{length-little_end}
use Rattle.card.specs.Card.{widths, numbers_of, receipt_of, map_of, fields_of, body_of, sum, framed, record_of, fields_in, is_framed, receipt_in, Found, Accepts, Refuses, past_end, unsound, judged, entry_in}
use Rattle.card.specs.Functions.{error_number, error_of, Fit}
use Rattle.card.specs.Claim.{Fits, Holds, Sized, Refused, EndsPast, Broken}
use Rattle.card.proofs.Bytes.{bytes_take, bytes_drop, bytes-append, bytes-little_end, sum_below, width-number}
use Rattle.card.proofs.FieldLaws.{fit_length, map_below, fields-length, fields-bytes, fields_read, Written, fields-written}
use Rattle.card.proofs.Receipts.{numbers_fit, receipt-back, made}

-- a receipt's body, and the last two bytes of a record
abbrev body_for : Receipt → List ℕ
body_for r = body_of widths (numbers_of r)

abbrev sum_bytes : List ℕ → List ℕ
sum_bytes body = little_end 2 (length body + sum body)

-- sizes ------------------------------------------------------------------------------------------------------------------

module _ (ns : List ℕ) where
  pub body-length : length (body_of widths ns) ≡ 4 + length (fields_of widths ns)
  unfolding body_of
  body-length = simp (length-append, length-little_end)

  body-most : length (body_of widths ns) ≤ 126
  unfolding widths sum
  body-most = omega (arith, body-length, fields-length widths ns)

  body_bytes : Bytes (body_of widths ns)
  unfolding body_of
  body_bytes = bytes-append (little_end 4 (map_of ns)) (fields_of widths ns) (bytes-little_end 4 (map_of ns)) (fields-bytes widths ns)

pub framed-length : (body : List ℕ) → length (framed body) ≡ length body + 3
unfolding framed
framed-length body = simp (length-append, length-little_end) (omega arith)

-- the length byte, and as many bytes, each at most 255
framed-sum : (body : List ℕ) → Bytes body → length body ≤ 126 → length body + sum body ≤ 32256
framed-sum body b h = omega (arith, sum_below body b)

pub sized : (r : Receipt) → Sized r
unfolding record_of framed
sized r =
    let body = body_for r in
    let b = body_bytes (numbers_of r) in
    let n = framed-length body in
    let l = body-length (numbers_of r) in
    let m = body-most (numbers_of r) in
    record {
      least = omega arith;
      most = omega arith;
      total = framed-sum body b m;
      bytes = (omega arith, bytes-append body (sum_bytes body) b (bytes-little_end 2 (length body + sum body)));
    }

-- written, then read -----------------------------------------------------------------------------------------------------

-- what is read at the front of a framed body is what it holds
entry-framed : (body rest : List ℕ) → entry_in (framed body ++ rest) ≡ judged (receipt_in (length body) body (sum_bytes body)) rest
unfolding entry_in framed
entry-framed body rest =
    let L = length body in
    let end = sum_bytes body in
    let xs = end ++ rest in
    let two : length end ≡ 2 = length-little_end 2 (L + sum body) in
    let l : L + 3 ≤ suc (length (body ++ xs)) = omega (arith, length-append body xs, length-append end rest) in
    rw (append_assoc body end rest, le-leb (L + 3) (suc (length (body ++ xs))) l)
    (rw (take-append_seam body xs, drop-append_seam body xs, drop-append-add body xs 2, take_at end rest 2 two, drop_at end rest 2 two))

framed-body : (body : List ℕ) → Bytes body → 4 ≤ length body → length body ≤ 126 → is_framed (length body) body (sum_bytes body) ≡ true
unfolding is_framed
framed-body body b low high =
    let s = length body + sum body in
    let k : s < 256 ^ 2 = omega (arith, framed-sum body b high) in
    rw (le-leb 4 (length body) low, le-leb (length body) 126 high) (eq-eqb (little_number (little_end 2 s)) s (number-bytes 2 s k))

body-fields : (ns : List ℕ) → Fit widths ns
    → fields_in widths (little_number (take 4 (body_of widths ns))) (drop 4 (body_of widths ns)) ≡ Some ns
unfolding body_of widths
body-fields ns f =
    let bs = little_end 4 (map_of ns) in
    let fs = fields_of widths ns in
    let four : length bs ≡ 4 = length-little_end 4 (map_of ns) in
    let k : map_of ns < 256 ^ 4 = omega (arith, rw (fit_length widths ns f) at (map_below ns)) in
    rw (take_at bs fs 4 four, drop_at bs fs 4 four, number-bytes 4 (map_of ns) k) (fields_read widths ns f)

written-receipt : (r : Receipt) → Fits r → receipt_in (length (body_for r)) (body_for r) (sum_bytes (body_for r)) ≡ Some r
unfolding receipt_in
written-receipt r f =
    let ns = numbers_of r in
    let framed = framed-body (body_for r) (body_bytes ns) (omega (arith, body-length ns)) (body-most ns) in
    rw (framed, body-fields ns (numbers_fit r f)) (receipt-back r f)

pub written_read : (r : Receipt) (rest : List ℕ) → Fits r → entry_in (record_of r ++ rest) ≡ Accepts r rest
unfolding record_of judged
written_read r rest f = entry-framed (body_for r) rest ∙ ap (λ (o : Option Receipt). judged o rest) (written-receipt r f)

-- read, then written -----------------------------------------------------------------------------------------------------

-- what an accepted record says of its parts
record Sound (L : ℕ) (body end : List ℕ) (r : Receipt) : Type 0 where
  low : 4 ≤ L
  sum_is : little_number end ≡ L + sum body
  numbers : List ℕ
  fields : fields_in widths (little_number (take 4 body)) (drop 4 body) ≡ Some numbers
  receipt : receipt_of numbers ≡ Some r

sound : (L : ℕ) (body end : List ℕ) (r : Receipt) → receipt_in L body end ≡ Some r → Sound L body end r
unfolding receipt_in is_framed
sound L body end r e = go (is_framed L body end) refl e
  where
    fs : Option (List ℕ)
    fs = fields_in widths (little_number (take 4 body)) (drop 4 body)

    go : (t : Bool) → is_framed L body end ≡ t → cond t (option_and_then receipt_of fs) None ≡ Some r → Sound L body end r
    go true h e =
        let p = and_both (leb 4 L) (leb L 126 && eqb (little_number end) (L + sum body)) h in
        let q = and_both (leb L 126) (eqb (little_number end) (L + sum body)) p.1 in
        option_and_then_some receipt_of fs r e (
        λ ns f m.
        record {
          low = leb-true 4 L p.0;
          sum_is = eqb-true (little_number end) (L + sum body) q.1;
          numbers = ns;
          fields = f;
          receipt = m;
        }
        )
    go false h e = absurd (none-some r e)

body-written : (body ns : List ℕ) → Bytes body → 4 ≤ length body
    → Written widths (little_number (take 4 body)) (drop 4 body) ns → body_of widths ns ≡ body
unfolding body_of
body-written body ns b h w =
    rw (w.map, w.fields, width-number 4 (take 4 body) (length-take-le 4 body h) (bytes_take 4 body b)) (take-append-drop 4 body)

-- a length byte, as many bytes and two more are their framed body
framed-written : (L : ℕ) (xs : List ℕ) → Bytes xs → L + 2 ≤ length xs → little_number (take 2 (drop L xs)) ≡ L + sum (take L xs)
    → L ∷ xs ≡ framed (take L xs) ++ drop (L + 2) xs
unfolding framed
framed-written L xs b h s =
    let end = take 2 (drop L xs) in
    let l : length (take L xs) ≡ L = length-take-le L xs (omega arith) in
    let two : length end ≡ 2 = length-take-le 2 (drop L xs) (simp length-drop (omega arith)) in
    let e : little_end 2 (L + sum (take L xs)) ≡ end = rw s at (width-number 2 end two (bytes_take 2 (drop L xs) (bytes_drop L xs b))) in
    rw (l, e, append_assoc (take L xs) end (drop (L + 2) xs), ← drop-drop 2 L xs, take-append-drop 2 (drop L xs), take-append-drop L xs)

-- what stands at a length byte with the bytes after it
pub data Case (L : ℕ) (xs : List ℕ) : Found → Type 0 where
  past : EndsPast L xs → Case L xs (Refuses past_end)
  broken : L + 3 ≤ length (L ∷ xs) → Case L xs (Refuses unsound)
  whole : {r : Receipt} → L + 3 ≤ length (L ∷ xs) → receipt_in L (take L xs) (take 2 (drop L xs)) ≡ Some r → Case L xs (Accepts r (drop (L + 2) xs))

pub cases : (L : ℕ) (xs : List ℕ) → Case L xs (entry_in (L ∷ xs))
unfolding entry_in judged
cases L xs = go (leb (L + 3) (length (L ∷ xs))) refl (receipt_in L (take L xs) (take 2 (drop L xs))) refl
  where
    go : (t : Bool) → leb (L + 3) (length (L ∷ xs)) ≡ t → (o : Option Receipt) → receipt_in L (take L xs) (take 2 (drop L xs)) ≡ o
        → Case L xs (cond t (judged o (drop (L + 2) xs)) (Refuses past_end))
    go true h (Some r) p = whole (leb-true (L + 3) (length (L ∷ xs)) h) p
    go true h None p = broken (leb-true (L + 3) (length (L ∷ xs)) h)
    go false h o p = past (leb-false (L + 3) (length (L ∷ xs)) h)

case-written : {L : ℕ} {xs : List ℕ} {r : Receipt} {rest : List ℕ} → Bytes xs → Case L xs (Accepts r rest) → Holds (L ∷ xs) r rest
unfolding record_of
case-written {L} {xs} {r} b (whole h p) =
    let body = take L xs in
    let s = sound L body (take 2 (drop L xs)) r p in
    let l : length body ≡ L = length-take-le L xs (omega arith) in
    let bb = bytes_take L xs b in
    let w = fields-written widths (little_number (take 4 body)) (drop 4 body) s.numbers (bytes_drop 4 body bb) s.fields in
    let m = made s.numbers r w.fit s.receipt in
    record {
      fits = m.fits;
      bytes = rw (m.numbers, body-written body s.numbers bb (omega arith) w) (framed-written L xs b (omega arith) s.sum_is);
    }

pub read-written : (bs : List ℕ) (r : Receipt) (rest : List ℕ) → Bytes bs → entry_in bs ≡ Accepts r rest → Holds bs r rest
unfolding entry_in
read-written [] r rest b e = absurd (cc)
read-written (L ∷ xs) r rest b e = case-written b.1 (subst (Case L xs) e (cases L xs))

pub first-bytes : (bs : List ℕ) (r : Receipt) (rest : List ℕ) → Bytes bs → entry_in bs ≡ Accepts r rest
    → (take (get_or bs 0 0 + 3) bs ≡ record_of r) × (drop (get_or bs 0 0 + 3) bs ≡ rest)
unfolding record_of framed
first-bytes bs r rest b e =
    let body = body_for r in
    let l = framed-length body in
    rw (read-written bs r rest b e).bytes (take_at (framed body) rest (length body + 3) l, drop_at (framed body) rest (length body + 3) l)

-- refused ----------------------------------------------------------------------------------------------------------------

module _ {L : ℕ} {xs : List ℕ} where
  pub case-number : {n : ℕ} → Case L xs (Refuses n) → (n ≡ past_end) ⊎ (n ≡ unsound)
  case-number (past h) = inl refl
  case-number (broken h) = inr refl

  case-error : {n : ℕ} → Case L xs (Refuses n) → error_number (error_of n) ≡ n
  unfolding error_number error_of
  case-error (past h) = refl
  case-error (broken h) = refl

  case-past : {n : ℕ} → n ≡ past_end → Case L xs (Refuses n) → EndsPast L xs
  case-past e (past h) = h
  case-past e (broken h) = absurd (omega arith)

  case-broken : {n : ℕ} → n ≡ unsound → Case L xs (Refuses n) → L + 3 ≤ length (L ∷ xs)
  case-broken e (past h) = absurd (omega arith)
  case-broken e (broken h) = h

  broken-refused : {x : Found} → Bytes xs → Broken L xs → Case L xs x → x ≡ Refuses unsound
  broken-refused b n (past h) = absurd (omega arith)
  broken-refused b n (broken h) = refl
  broken-refused b n (whole {r} h p) = let k = case-written b (whole h p) in absurd (n.none r (drop (L + 2) xs) k.fits k.bytes)

-- a refusal by its number
pub error-number : (bs : List ℕ) (n : ℕ) → entry_in bs ≡ Refuses n → error_number (error_of n) ≡ n
unfolding entry_in
error-number [] n e = absurd (cc)
error-number (L ∷ xs) n e = case-error (subst (Case L xs) e (cases L xs))

-- 122: it ends past the file
pub past-exactly : (L : ℕ) (xs : List ℕ) → Refused past_end L xs ↔ EndsPast L xs
unfolding entry_in
past-exactly L xs = (λ e. case-past refl (subst (Case L xs) e (cases L xs)), λ h. rw (lt-leb (L + 3) (length (L ∷ xs)) h))

-- 123: it does not, and is no receipt's
refused-so : (L : ℕ) (xs : List ℕ) → Refused unsound L xs → Broken L xs
refused-so L xs e =
    record { whole = case-broken refl (subst (Case L xs) e (cases L xs)); none = λ r rest f p. absurd (cc (written_read r rest f)) }

pub unsound-exactly : (L : ℕ) (xs : List ℕ) → Bytes (L ∷ xs) → Refused unsound L xs ↔ Broken L xs
unsound-exactly L xs b = (λ e. refused-so L xs e, λ n. broken-refused b.1 n (cases L xs))

-- some of the first bytes of a record, and not all
pub cut-past : (r : Receipt) (k : ℕ) → suc k < length (record_of r)
    → (L : ℕ) × (after : List ℕ) × (take (suc k) (record_of r) ≡ L ∷ after) × EndsPast L after
unfolding record_of framed
cut-past r k h =
    let body = body_for r in
    let bs = body ++ sum_bytes body in
    (length body, take k bs, refl, omega (arith, framed-length body, length-take k bs))
