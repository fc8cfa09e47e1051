-- A host's loop over `rolthai_card_read` reads what the file holds. Assumes nothing.
use Prim.Native.Nat.{ℕ, zero, suc, ◌+◌, ◌<◌, ◌≤◌}
use mathlib.Core.Bool.{Bool, true, false}
use mathlib.Core.List.{List, [], ◌∷◌, map}
use mathlib.Core.Logic.{◌≢◌}
use mathlib.Core.Path.{◌≡◌, refl, sym, ap, ◌∙◌, subst}
use native.Mathlib.Omega.{arith}
use borrow.Author.Tests.{le-ltb, ltb-true, ltb-false}
use lib.Dec.{ltb}
use lib.ListN.{length, take, drop, get_or, drop_of_length-le, length-append}
use lib.Seq.{drop-drop}
use Rattle.model.specs.declared.Receipt.{Receipt}
use Rattle.words.specs.Words.{Bytes, bytes_of}
use Rattle.words.proofs.Over.{over-part, length_over}
use Rattle.card.specs.Card.{record_of, records_of, head, card_of, Found, Accepts, entry_in, Contents, ended, records_in, has_head, wrong_head, past_end, unsound, read_card}
use Rattle.card.specs.Wire.{wire_words, head_answer, entry_answer, entry_read, wire_answer, wire_read, Readings, last, next, Hosted, headless, headed, last_answer, last_place}
use Rattle.card.proofs.Bytes.{bytes_drop}
use Rattle.card.proofs.Files.{read_on, records-on}
use Rattle.card.proofs.ReadBack.{record-first, first-there}
use Rattle.card.proofs.Records.{Case, past, broken, whole, cases, read-written}
use Rattle.card.proofs.Steps.{rest_at}
use Rattle.card.proofs.Wire.{words_size}

abbrev words_for : Receipt → List ℕ
words_for r = bytes_of (wire_words r)

module _ (card : List ℕ) (b : Bytes card) where
  -- from a place on a host keeps the receipts of these contents, and ends with their answer behind their records
  abbrev Keeps : ℕ → List ℕ → Contents → Type 0
  Keeps at out c = Readings card at out (map words_for c.receipts) (last_answer c.answer) (at + length (records_of c.receipts))

  -- one reading, from 4 on and with room for a receipt
  module _ (at : ℕ) (out : List ℕ) (h : 4 ≤ at) (l : 192 ≤ length out) where
    answer-is : {f : Found} → entry_in (drop at card) ≡ f → wire_answer card at out ≡ entry_answer f
    unfolding wire_answer
    answer-is e = rw (le-ltb at 4 h, le-ltb (length out) 192 l, e)

    read_is : {f : Found} → entry_in (drop at card) ≡ f → wire_read card at out ≡ entry_read f out
    unfolding wire_read
    read_is e = rw (le-ltb at 4 h, le-ltb (length out) 192 l, e)

    -- an answer that is not 0 ends the readings where it comes
    ends : (n : ℕ) → wire_answer card at out ≡ last_answer n → last_answer n ≢ 0 → Keeps at out (ended n)
    unfolding records_of
    ends n e k = let p : at ≡ at + 0 = omega arith in subst (λ (z : ℕ). Readings card at out [] (last_answer n) z) p (last e k)

    at-end : length card ≤ at → Keeps at out (records_in 0 (drop at card))
    unfolding records_in entry_in entry_answer last_answer
    at-end k = let e = drop_of_length-le card {i = at} k in rw e (ends 0 (answer-is (ap entry_in e)) (λ z. omega (arith, z)))

    -- what is kept of an accepted record, the room that stays, and the place after it
    module _ (r : Receipt) (rest : List ℕ) (e : entry_in (drop at card) ≡ Accepts r rest) where
      kept-is : take 192 (wire_read card at out) ≡ words_for r
      unfolding entry_read
      kept-is = rw (read_is e) (over-part out 0 (words_for r) 192 (words_size r) l)

      room : 192 ≤ length (wire_read card at out)
      unfolding entry_read
      room = rw (read_is e) (omega (arith, length_over out 0 (words_for r) (omega (arith, words_size r)), words_size r))

      size_is : get_or card at 0 + 3 ≡ length (record_of r)
      size_is =
          let k = (read-written (drop at card) r rest (bytes_drop at card b) e).bytes in
          rw (first-there card at, k) (record-first r rest)

      place_is : (rs : List Receipt) → at + get_or card at 0 + 3 + length (records_of rs) ≡ at + length (records_of (r ∷ rs))
      unfolding records_of
      place_is rs = rw (length-append (record_of r) (records_of rs)) (omega (arith, size_is))

      -- the readings from here on, where these bytes are kept first
      abbrev Left : Contents → List ℕ → ℕ → Type 0
      Left c bs place = Readings card at out (bs ∷ map words_for c.receipts) (last_answer c.answer) place

      onward : (c : Contents) → Keeps (at + get_or card at 0 + 3) (wire_read card at out) c
          → Keeps at out (record { receipts = r ∷ c.receipts; answer = c.answer })
      unfolding entry_answer
      onward c later =
          let bs = take 192 (wire_read card at out) in
          let first = subst (Left c bs) (place_is c.receipts) (next (answer-is e) later) in
          subst (λ (ds : List ℕ). Left c ds (at + length (records_of (r ∷ c.receipts)))) kept-is first

    before-end : at < length card
        → ((out' : List ℕ) → 192 ≤ length out' → Keeps (at + get_or card at 0 + 3) out' (records_in 0 (drop (at + get_or card at 0 + 3) card)))
        → Keeps at out (records_in 0 (drop at card))
    unfolding entry_answer last_answer
    before-end k later = rw (records-on (drop at card), front) (go (cases L xs) (ap entry_in front))
      where
        L : ℕ
        L = get_or card at 0

        xs : List ℕ
        xs = drop (at + 1) card

        front : drop at card ≡ L ∷ xs
        front = rest_at card at k

        go : {x : Found} → Case L xs x → entry_in (drop at card) ≡ x → Keeps at out (read_on x)
        go (past p) e = ends past_end (answer-is e) (λ z. omega (arith, z))
        go (broken p) e = ends unsound (answer-is e) (λ z. omega (arith, z))
        go (whole {r} p q) e =
            let rest = drop (L + 2) xs in
            let k : at + 1 + (L + 2) ≡ at + L + 3 = omega arith in
            let b : drop (at + L + 3) card ≡ rest = rw (drop-drop, k) in
            onward r rest e (records_in 0 rest) (rw b at (later (wire_read card at out) (room r rest e)))

  -- from any place on; n bounds how many readings there can be
  from_place : (n at : ℕ) (out : List ℕ) → 4 ≤ at → 192 ≤ length out → length card ≤ at + n → Keeps at out (records_in 0 (drop at card))
  from_place zero at out h l m = at-end at out h l (omega arith)
  from_place (suc n) at out h l m =
      go (ltb at (length card)) refl (λ out' k. from_place n (at + get_or card at 0 + 3) out' (omega arith) k (omega arith))
    where
      go : (t : Bool) → ltb at (length card) ≡ t
          → ((out' : List ℕ) → 192 ≤ length out' → Keeps (at + get_or card at 0 + 3) out' (records_in 0 (drop (at + get_or card at 0 + 3) card)))
          → Keeps at out (records_in 0 (drop at card))
      go true e later = before-end at out h l (ltb-true at (length card) e) later
      go false e later = at-end at out h l (ltb-false at (length card) e)

card-size : (rs : List Receipt) → 4 + length (records_of rs) ≡ length (card_of rs)
unfolding card_of head
card-size rs = omega arith

pub hosted : (file out : List ℕ) → Bytes file → 192 ≤ length out
    → Hosted file out (map (λ (r : Receipt). bytes_of (wire_words r)) (read_card file).receipts) (last_answer (read_card file).answer) (last_place file)
unfolding read_card wire_answer wire_read head_answer last_answer last_place
hosted file out b l = go (has_head file) refl
  where
    go : (t : Bool) → has_head file ≡ t
        → Hosted file out (map (λ (r : Receipt). bytes_of (wire_words r)) (read_card file).receipts) (last_answer (read_card file).answer) (last_place file)
    go true e =
        let read = from_place file b (length file) 4 out (omega arith) l (omega arith) in
        rw (e, ← card-size (records_in 0 (drop 4 file)).receipts) (headed (rw e) read)
    go false e = rw e (headless {n = wrong_head} (rw e) (λ z. omega (arith, z)))

-- and there is no other run of the loop
only-readings : {card : List ℕ} {at : ℕ} {out : List ℕ} {kept kept' : List (List ℕ)} {n n' p p' : ℕ} → Readings card at out kept n p
    → Readings card at out kept' n' p' → (kept ≡ kept') × (n ≡ n') × (p ≡ p')
only-readings (last e h) (last f k) = (refl, sym e ∙ f, refl)
only-readings (last e h) (next f r) = absurd (h (sym e ∙ f))
only-readings (next e r) (last f k) = absurd (k (sym f ∙ e))
only-readings (next e r) (next f s) = let (a, b, c) = only-readings r s in (rw a, b, c)

only : {card out : List ℕ} {kept kept' : List (List ℕ)} {n n' p p' : ℕ} → Hosted card out kept n p → Hosted card out kept' n' p'
    → (kept ≡ kept') × (n ≡ n') × (p ≡ p')
only (headless e h) (headless f k) = (refl, sym e ∙ f, refl)
only (headless e h) (headed f r) = absurd (h (sym e ∙ f))
only (headed e r) (headless f k) = absurd (k (sym f ∙ e))
only (headed e r) (headed f s) = only-readings r s

pub hosted-only : (file out : List ℕ) (kept : List (List ℕ)) (n place : ℕ) → Bytes file → 192 ≤ length out → Hosted file out kept n place
    → (kept ≡ map (λ (r : Receipt). bytes_of (wire_words r)) (read_card file).receipts) × (n ≡ last_answer (read_card file).answer)
    × (place ≡ last_place file)
hosted-only file out kept n place b l h = only h (hosted file out b l)
