-- What the reader's tests say of a field, of the fields and of a record. Assumes nothing.
use Prim.Native.Nat.{ℕ, zero, suc, ◌+◌, ◌-◌, ◌/◌, ◌<◌, ◌≤◌}
use mathlib.Core.Bool.{Bool, true, false, ◌&&◌, cond, false≢true}
use mathlib.Core.List.{List, [], ◌∷◌, ◌++◌, append_assoc, append-nil}
use Rattle.std.specs.Prelude.{Option, Some, None, not}
use Rattle.std.specs.Bool.{then_some}
use Rattle.std.proofs.lemmas.Option.{none-some}
use mathlib.Core.Path.{◌≡◌, refl, sym, ap, ◌∙◌}
use native.Mathlib.Omega.{arith}
use native.Mathlib.Numerals.{add-one}
use borrow.Author.Tests.{le-leb, lt-leb, leb-true, ne_eqb}
use lib.Dec.{leb, eqb}
use lib.ListN.{length, take, drop, get_or, set, replicate, length-drop}
use lib.Seq.{take-suc, take-suc-set, drop-drop, get_or-set_other, take_all}
use Rattle.model.proofs.Tests.{and_both}
use Rattle.words.specs.Words.{little_number}
use Rattle.card.specs.Card.{widths, receipt_of, stands, field_in, joined, odd, fields_in, sum, is_framed, receipt_in}
use Rattle.card.specs.Functions.{prefixed, ZeroFrom}
use Rattle.card.proofs.Steps.{rest_at}

-- a field whose bit stands -----------------------------------------------------------------------------------------------

pub field-missing : (w : ℕ) (bs : List ℕ) → (w ≡ 0 → ⊥) → length bs < w → None ≡ field_in true w bs
unfolding field_in
field-missing zero bs h l = absurd (h refl)
field-missing (suc w) bs h l = rw (lt-leb (suc w) (length bs) l)

some-stands : (n : ℕ) → then_some (not (eqb n 0)) n ≡ cond (stands n) (Some n) None
unfolding stands
some-stands zero = refl
some-stands (suc n) = rw (ne_eqb (suc n) 0 (λ e. omega (arith, e)))

pub field-there : (w : ℕ) (bs : List ℕ) → (w ≡ 0 → ⊥) → w ≤ length bs
    → then_some (not (eqb (little_number (take w bs)) 0)) (little_number (take w bs)) ≡ field_in true w bs
unfolding field_in
field-there zero bs h l = absurd (h refl)
field-there (suc w) bs h l = rw (le-leb (suc w) (length bs) l) (some-stands (little_number (take (suc w) bs)))

-- a field that is read is within the bytes
is-there : (w : ℕ) (bs : List ℕ) (x n : ℕ) (t u : Bool) → leb w (length bs) ≡ t → cond (t && u) (Some x) None ≡ Some n → w ≤ length bs
is-there w bs x n true u e h = leb-true w (length bs) e
is-there w bs x n false u e h = absurd (none-some n h)

pub field_fits : (w : ℕ) (bs : List ℕ) (n : ℕ) → field_in true w bs ≡ Some n → w ≤ length bs
unfolding field_in
field_fits zero bs n h = omega arith
field_fits (suc w) bs n h = is-there (suc w) bs _ n (leb (suc w) (length bs)) (stands (little_number (take (suc w) bs))) refl h

-- the fields, after those that are read ----------------------------------------------------------------------------------

pub prefixed-nil : (o : Option (List ℕ)) → prefixed [] o ≡ o
unfolding prefixed
prefixed-nil (Some ms) = refl
prefixed-nil None = refl

one_more : (ns : List ℕ) (n : ℕ) (o : Option (List ℕ)) → prefixed ns (joined (Some n) o) ≡ prefixed (ns ++ (n ∷ [])) o
unfolding prefixed joined
one_more ns n (Some ms) = ap Some (sym (append_assoc ns (n ∷ []) ms))
one_more ns n None = refl

pub zeros : (n k : ℕ) → get_or (replicate {A = ℕ} n 0) k 0 ≡ 0
zeros zero k = refl
zeros (suc n) zero = refl
zeros (suc n) (suc k) = zeros n k

-- the field at i, of a map and bytes from a place on
module _ (i : ℕ) (l : i < 22) (m : ℕ) (body : List ℕ) (at : ℕ) where
  fields_at : fields_in (drop i widths) m (drop at body)
      ≡ joined (field_in (odd m) (get_or widths i 0) (drop at body)) (fields_in (drop (i + 1) widths) (m / 2) (drop (cond (odd m) (get_or widths i 0) 0) (drop at body)))
  unfolding widths fields_in
  fields_at = rw (rest_at widths i l)

  module _ (ns : List ℕ) (e : length ns ≡ 22) where
    pub fields-clear : odd m ≡ false → ZeroFrom i ns
        → prefixed (take i ns) (fields_in (drop i widths) m (drop at body)) ≡ prefixed (take (i + 1) ns) (fields_in (drop (i + 1) widths) (m / 2) (drop at body))
    unfolding field_in
    fields-clear h z =
        let k : i < length ns = omega arith in
        rw (fields_at, h, one_more, add-one, take-suc ns i 0, z i (omega arith))

    -- the field's w bytes
    module _ (w : ℕ) (q : w ≡ get_or widths i 0) (h : odd m ≡ true) where
      pub fields-none : field_in true w (drop at body) ≡ None → prefixed (take i ns) (fields_in (drop i widths) m (drop at body)) ≡ None
      unfolding prefixed joined
      fields-none f = rw (fields_at, h, ← q, f)

      module _ (n : ℕ) (f : field_in true w (drop at body) ≡ Some n) where
        pub fields-set : prefixed (take i ns) (fields_in (drop i widths) m (drop at body))
            ≡ prefixed (take (i + 1) (set ns i n)) (fields_in (drop (i + 1) widths) (m / 2) (drop (at + w) body))
        fields-set =
            let k : i < length ns = omega arith in
            rw (fields_at, h, ← q, f, one_more, drop-drop, add-one, take-suc-set)

        pub next-within : at ≤ length body → at + w ≤ length body
        next-within l = let k = field_fits w (drop at body) n f in omega (arith, k, length-drop at body)

pub zero-set : (i n : ℕ) (ns : List ℕ) → ZeroFrom i ns → ZeroFrom (i + 1) (set ns i n)
zero-set i n ns z k h = get_or-set_other ns i k n 0 (λ e. omega (arith, e)) ∙ z k (omega arith)

-- past the last field
pub bits_left : (ns : List ℕ) (m : ℕ) (bs : List ℕ) → (m ≡ 0 → ⊥) → prefixed ns (fields_in (drop 22 widths) m bs) ≡ None
unfolding widths fields_in prefixed
bits_left ns zero bs h = absurd (h refl)
bits_left ns (suc m) bs h = refl

pub bytes_left : (ns : List ℕ) (m : ℕ) (bs : List ℕ) → m ≡ 0 → 0 < length bs → prefixed ns (fields_in (drop 22 widths) m bs) ≡ None
unfolding widths fields_in prefixed
bytes_left ns m [] e h = absurd (omega arith)
bytes_left ns m (b ∷ bs) e h = rw e

pub none_left : (ns : List ℕ) (m : ℕ) (bs : List ℕ) → m ≡ 0 → length bs ≡ 0 → prefixed ns (fields_in (drop 22 widths) m bs) ≡ Some ns
unfolding widths fields_in prefixed
none_left ns m [] e h = rw e (ap Some (append-nil ns))
none_left ns m (b ∷ bs) e h = absurd (omega arith)

-- the frame of a record --------------------------------------------------------------------------------------------------

joined-tests : (t u v : Bool) → (t && u) ≡ true → v ≡ (t && (u && v))
joined-tests true true v e = refl
joined-tests true false v e = absurd (false≢true e)
joined-tests false u v e = absurd (false≢true e)

unjoined-tests : (t u v : Bool) → (t && u) ≡ false → false ≡ (t && (u && v))
unjoined-tests true true v e = absurd (false≢true (sym e))
unjoined-tests true false v e = refl
unjoined-tests false u v e = refl

module _ (L : ℕ) (body end : List ℕ) where
  pub frame-in : (leb 4 L && leb L 126) ≡ true → eqb (little_number end) (L + sum body) ≡ is_framed L body end
  unfolding is_framed
  frame-in e = joined-tests (leb 4 L) (leb L 126) _ e

  pub frame-out : (leb 4 L && leb L 126) ≡ false → false ≡ is_framed L body end
  unfolding is_framed
  frame-out e = unjoined-tests (leb 4 L) (leb L 126) (eqb (little_number end) (L + sum body)) e

pub frame-least : (L : ℕ) (body end : List ℕ) → is_framed L body end ≡ true → 4 ≤ L
unfolding is_framed
frame-least L body end e = leb-true 4 L (and_both (leb 4 L) (leb L 126 && eqb (little_number end) (L + sum body)) e).0

-- the receipt of a record ------------------------------------------------------------------------------------------------

-- the fields as the code reads them
pub fields-are : (body : List ℕ) {m : ℕ} → m ≡ little_number (take 4 body)
    → fields_in widths (little_number (take 4 body)) (drop 4 body) ≡ fields_in widths m (take (length body - 4) (drop 4 body))
fields-are body e = rw (e, take_all (length body - 4) (drop 4 body) (simp length-drop (omega arith)))

module _ (L : ℕ) (body end : List ℕ) where
  abbrev fields : Option (List ℕ)
  fields = fields_in widths (little_number (take 4 body)) (drop 4 body)

  pub unframed : is_framed L body end ≡ false → None ≡ receipt_in L body end
  unfolding receipt_in
  unframed e = rw e

  pub fieldless : is_framed L body end ≡ true → fields ≡ None → None ≡ receipt_in L body end
  unfolding receipt_in
  fieldless e h = rw (e, h)

  pub with-fields : {ns : List ℕ} → is_framed L body end ≡ true → fields ≡ Some ns → receipt_of ns ≡ receipt_in L body end
  unfolding receipt_in
  with-fields e h = rw (e, h)
