-- 02's sentences on card files (item 1), and what a host is told of them (docs/CARD.md), each from `CardClaim` alone: nothing is used here but that
-- record and the definitions that it names, so that no part of it can be weakened unnoticed.
use Prim.Native.Nat.{ℕ, ◌+◌, ◌<◌, ◌≤◌}
use Rattle.std.specs.Prelude.{Some, Ok, Bool, true, false, ◌⊎◌, ◌≢◌, ◌≡◌, refl, eqb, take, drop, get_or}
use Rattle.std.proofs.lemmas.Bool.{false≢true}
use mathlib.Core.List.{List, [], ◌∷◌, ◌++◌, map, append-nil}
use Rattle.std.proofs.Common.{inl, inr, sym, ap, ◌∙◌, take_all}
use native.Mathlib.Omega.{arith}
use denote.Laws.{Is}
use borrow.Author.Tests.{le-leb, eqb-true, eqb-false}
use Rattle.std.proofs.Math.ListN.{length}
use Rattle.std.proofs.Math.Seq.{take-append_seam}
use mir.Val.{Val}
use Rattle.model.specs.contracts.Receipt.{the_row}
use Rattle.model.specs.declared.Receipt.{Receipt}
use Rattle.words.specs.Words.{Bytes, little_end, little_number, bytes_of, over}
use Rattle.card.specs.Card.{widths, numbers_of, body_of, sum, record_of, records_of, head, card_of, past_end, unsound, Found, Ends, Accepts, Refuses, entry_in, Contents, holding, has_head, read_card}
use Rattle.card.specs.Functions.{has_room, written, counted, count, read_at, read_all}
use Rattle.card.specs.Wire.{wire_words, wire_receipt, wire_count, wire_written, Hosted, last_answer, last_place}
use Rattle.card.specs.Claim.{Fits, AllFit, Reads, CardClaim}

-- the receipt that was accepted, and a file's receipts
abbrev accepted : Found → Receipt → Receipt
accepted Ends r = r
accepted (Accepts s rest) r = s
accepted (Refuses n) r = r

abbrev listed : Contents → List Receipt
listed x = x.receipts

bytes-both : (xs ys : List ℕ) → Bytes xs → Bytes ys → Bytes (xs ++ ys)
bytes-both [] ys a b = b
bytes-both (x ∷ xs) ys a b = (a.0, bytes-both xs ys a.1 b)

all_fit : (rs : List Receipt) (r : Receipt) → AllFit rs → Fits r → AllFit (rs ++ (r ∷ []))
all_fit [] r f g = (g, tt)
all_fit (x ∷ rs) r f g = (f.0, all_fit rs r f.1 g)

module _ (c : CardClaim) where
  -- records ---------------------------------------------------------------------------------------------------------------

  -- "inverse to each other on every receipt": no two receipts have one record,
  pub one-receipt : (r s : Receipt) → Fits r → Fits s → record_of r ≡ record_of s → r ≡ s
  one-receipt r s f g e =
      let h = sym (c.written_read r [] f) ∙ ap (λ (bs : List ℕ). entry_in (bs ++ [])) e ∙ c.written_read s [] g in
      ap (λ (x : Found). accepted x r) h

  -- and each that the code can hold has one, which is read whatever follows;
  pub every-receipt : (r : Receipt) (vs : List Val) (rest : List ℕ) → Is the_row r vs → entry_in (record_of r ++ rest) ≡ Accepts r rest
  every-receipt r vs rest h = c.written_read r rest (c.held r vs h)

  -- "and every accepted record": written again, it is the same bytes,
  pub same_bytes : (bs : List ℕ) (r : Receipt) (rest : List ℕ) → Bytes bs → entry_in bs ≡ Accepts r rest → bs ≡ record_of r ++ rest
  same_bytes bs r rest b e = (c.read-written bs r rest b e).bytes

  -- no two records hold one receipt, whatever follows them,
  pub one-record : (bs ds : List ℕ) (r : Receipt) (xs ys : List ℕ) → Bytes bs → Bytes ds → entry_in bs ≡ Accepts r xs → entry_in ds ≡ Accepts r ys
      → take (get_or bs 0 0 + 3) bs ≡ take (get_or ds 0 0 + 3) ds
  one-record bs ds r xs ys b d e k = (c.first-bytes bs r xs b e).0 ∙ sym (c.first-bytes ds r ys d k).0

  -- the next one is L + 3 bytes on,
  pub next-record : (bs : List ℕ) (r : Receipt) (rest : List ℕ) → Bytes bs → entry_in bs ≡ Accepts r rest
      → entry_in (drop (get_or bs 0 0 + 3) bs) ≡ entry_in rest
  next-record bs r rest b e = ap entry_in (c.first-bytes bs r rest b e).1

  -- and a copy of it is accepted anywhere
  pub copied : (bs : List ℕ) (r : Receipt) (rest other : List ℕ) → Bytes bs → entry_in bs ≡ Accepts r rest
      → entry_in (record_of r ++ other) ≡ Accepts r other
  copied bs r rest other b e = c.written_read r other (c.read-written bs r rest b e).fits

  -- "L is 4 to 126": with length byte and sum, 7 to 129 bytes
  pub lengths : (r : Receipt) → (7 ≤ length (record_of r)) × (length (record_of r) ≤ 129)
  lengths r = ((c.sized r).least, (c.sized r).most)

  -- "the sum of length byte and body as two bytes": nothing of it is cut off
  pub whole_sum : (r : Receipt)
      → let body = body_of widths (numbers_of r) in little_number (little_end 2 (length body + sum body)) ≡ length body + sum body
  whole_sum r = c.number 2 _ (omega (arith, (c.sized r).total))

  -- what is written are bytes
  pub written-bytes : (rs : List Receipt) → Bytes (card_of rs)
  unfolding card_of head records_of
  written-bytes rs = bytes-both head (records_of rs) (omega arith, (omega arith, (omega arith, (omega arith, tt)))) (all rs)
    where
      all : (rs : List Receipt) → Bytes (records_of rs)
      all [] = tt
      all (r ∷ rs) = bytes-both (record_of r) (records_of rs) (c.sized r).bytes (all rs)

  -- files -----------------------------------------------------------------------------------------------------------------

  -- no two lists of receipts have one card, and no two files are read to their ends alike
  pub one_list : (rs ss : List Receipt) → AllFit rs → AllFit ss → card_of rs ≡ card_of ss → rs ≡ ss
  one_list rs ss f g e = ap listed (sym (c.card-read rs f) ∙ ap read_card e ∙ c.card-read ss g)

  pub one-file : (file other : List ℕ) (rs : List Receipt) → Bytes file → Bytes other → Reads file rs 0 → Reads other rs 0 → file ≡ other
  one-file file other rs a b e k = (c.read-card file rs a e).1 ∙ sym (c.read-card other rs b k).1

  -- what was read to its end is read again where it is written anew
  pub read_again : (file : List ℕ) (rs : List Receipt) → Bytes file → Reads file rs 0 → Reads (card_of rs) rs 0
  read_again file rs b e = c.card-read rs (c.read-card file rs b e).0

  -- "Answers: 121 .., 122 .., 123", and 0 at the end of a file: there is no other
  pub answers : (file : List ℕ) → Bytes file
      → (n : ℕ) → (read_card file).answer ≡ n → n ≢ 0 → n ≢ 121 → n ≢ 122 → n ≡ 123
  answers file b n e h k l = go (c.before-stand file (read_card file).receipts n b h k (ap (holding (read_card file).receipts) e)).0
    where
      go : (n ≡ past_end) ⊎ (n ≡ unsound) → n ≡ 123
      go (inl p) = absurd (l p)
      go (inr p) = p

  -- "121 wrong or short head, tested first": whatever follows, and only there; no receipt is handed out
  pub wrong-head-first : (file : List ℕ) → take 4 file ≢ head → ((read_card file).answer ≡ 121) × ((read_card file).receipts ≡ [])
  wrong-head-first file h = let e = no-head (has_head file) refl in ((c.wrong-head file).1 e, ap listed (c.no-receipts file e))
    where
      no-head : (t : Bool) → has_head file ≡ t → has_head file ≡ false
      no-head true e = absurd (h ((c.has-head file).0 e))
      no-head false e = e

  pub only-a-wrong-head : (file : List ℕ) → take 4 file ≡ head → (read_card file).answer ≢ 121
  only-a-wrong-head file e n = false≢true (sym ((c.wrong-head file).0 n) ∙ (c.has-head file).1 e)

  -- "A refused record hands out nothing and ends the reading; those before it stand": of any file that is not read to its end, the receipts are
  -- those of a card that is, and a record follows which is refused with the file's answer
  pub those-before-stand : (file : List ℕ) (rs : List Receipt) (n : ℕ) → Bytes file → n ≢ 0 → n ≢ 121 → Reads file rs n
      → Reads (card_of rs) rs 0 × (L : ℕ) × (after : List ℕ) × (file ≡ card_of rs ++ (L ∷ after)) × (entry_in (L ∷ after) ≡ Refuses n)
  those-before-stand file rs n b h k e =
      let g = (c.before-stand file rs n b h k e).1 in (c.card-read rs g.fit, g.L, g.after, g.bytes, g.so)

  -- "then for each record 122 if it ends past the file": whatever its length byte is, and only then
  pub ends-past-the-file : (rs : List Receipt) (L : ℕ) (after : List ℕ) → AllFit rs → Bytes (card_of rs ++ (L ∷ after)) → length (L ∷ after) < L + 3
      → Reads (card_of rs ++ (L ∷ after)) rs 122
  ends-past-the-file rs L after f b h = (c.ends-past _ rs b).1 (record { fit = f; L = L; after = after; bytes = refl; so = h })

  pub only-past-the-file : (file : List ℕ) (rs : List Receipt) → Bytes file → Reads file rs 122
      → AllFit rs × (L : ℕ) × (after : List ℕ) × (file ≡ card_of rs ++ (L ∷ after)) × (length (L ∷ after) < L + 3)
  only-past-the-file file rs b e = let g = (c.ends-past file rs b).0 e in (g.fit, g.L, g.after, g.bytes, g.so)

  -- "then 123 for any other broken rule": where a record that ends in the file is no receipt's, and only there
  pub no-receipt's-record : (rs : List Receipt) (L : ℕ) (after : List ℕ) → AllFit rs → Bytes (card_of rs ++ (L ∷ after)) → L + 3 ≤ length (L ∷ after)
      → ((r : Receipt) (rest : List ℕ) → Fits r → L ∷ after ≢ record_of r ++ rest) → Reads (card_of rs ++ (L ∷ after)) rs 123
  no-receipt's-record rs L after f b h n =
      (c.is-unsound _ rs b).1 (record { fit = f; L = L; after = after; bytes = refl; so = record { whole = h; none = n } })

  pub only-no-receipt's : (file : List ℕ) (rs : List Receipt) → Bytes file → Reads file rs 123
      → (L : ℕ) × (after : List ℕ) × (file ≡ card_of rs ++ (L ∷ after)) × (L + 3 ≤ length (L ∷ after))
      × ((r : Receipt) (rest : List ℕ) → Fits r → L ∷ after ≢ record_of r ++ rest)
  only-no-receipt's file rs b e = let g = (c.is-unsound file rs b).0 e in (g.L, g.after, g.bytes, g.so.whole, g.so.none)

  -- the functions ---------------------------------------------------------------------------------------------------------

  -- The tool's loop and a host's read a card of receipts as these, to its end. A host's has an end, and no other one.
  pub tool-reads : (rs : List Receipt) → AllFit rs → read_all (card_of rs) ≡ holding rs 0
  tool-reads rs f = c.loop (card_of rs) ∙ c.card-read rs f

  pub host-reads : (rs : List Receipt) (out : List ℕ) → AllFit rs → 192 ≤ length out
      → Hosted (card_of rs) out (map (λ (r : Receipt). bytes_of (wire_words r)) rs) 1 (last_place (card_of rs))
  unfolding last_answer
  host-reads rs out f h = rw (c.card-read rs f) at (c.hosted (card_of rs) out (written-bytes rs) h)

  pub host-reads-only : (rs : List Receipt) (out : List ℕ) (kept : List (List ℕ)) (n place : ℕ) → AllFit rs → 192 ≤ length out
      → Hosted (card_of rs) out kept n place → (kept ≡ map (λ (r : Receipt). bytes_of (wire_words r)) rs) × (n ≡ 1)
  unfolding last_answer
  host-reads-only rs out kept n place f h p =
      let k = c.hosted-only (card_of rs) out kept n place (written-bytes rs) h p in
      let e = c.card-read rs f in
      (rw e at k.0, rw e at k.1)

  -- whatever ended the readings of a file that has a head: cut to that place, it is the card of the receipts that were read
  pub cut-to-the-place : (file out : List ℕ) (kept : List (List ℕ)) (n place : ℕ) → Bytes file → 192 ≤ length out → take 4 file ≡ head
      → Hosted file out kept n place → take place file ≡ card_of (read_card file).receipts
  unfolding last_place
  cut-to-the-place file out kept n place b h e p =
      rw ((c.hosted-only file out kept n place b h p).2, (c.has-head file).1 e) (go (eqb answer 0) refl)
    where
      answer : ℕ
      answer = (read_card file).answer

      rs : List Receipt
      rs = (read_card file).receipts

      go : (t : Bool) → eqb answer 0 ≡ t → take (length (card_of rs)) file ≡ card_of rs
      go true q =
          let f = (c.read-card file rs b (ap (holding rs) (eqb-true answer 0 q))).1 in
          ap (take (length (card_of rs))) f ∙ take_all (length (card_of rs)) (card_of rs) (omega arith)
      go false q =
          let g = (c.before-stand file rs answer b (eqb-false answer 0 q) (only-a-wrong-head file e) refl).1 in
          ap (take (length (card_of rs))) g.bytes ∙ take-append_seam (card_of rs) (g.L ∷ g.after)

  -- Room for 129 bytes is enough: then a receipt's words are filed as its record, at the front,
  pub filed : (r : Receipt) (card : List ℕ) → Fits r → 129 ≤ length card
      → (wire_count (wire_receipt (bytes_of (wire_words r))) card ≡ length (record_of r))
      × (wire_written (wire_receipt (bytes_of (wire_words r))) card ≡ over card 0 (record_of r))
  unfolding wire_count wire_written count counted written has_room
  filed r card f h =
      let w = c.words-read r f in
      let e = le-leb (0 + length (record_of r)) (length card) (omega (arith, (c.sized r).most)) in
      (rw (w, e), rw (w, e))

  -- and a record that is written at a place is read there, and the next place is behind it
  pub read-where-written : (card : List ℕ) (at : ℕ) (r : Receipt) → Fits r → at + 129 ≤ length card
      → read_at (written card at (record_of r)) at ≡ Ok (Some (record { receipt = r; next = at + length (record_of r) }))
  unfolding count counted has_room
  read-where-written card at r f h =
      let e = le-leb (at + length (record_of r)) (length card) (omega (arith, (c.sized r).most)) in
      rw e at (c.placed card at r f e)

  -- words that are taken for a receipt are that receipt's alone, and its record is read
  pub one-receipt's-words : (bs ds : List ℕ) (r : Receipt) → Bytes bs → Bytes ds → wire_receipt bs ≡ Some r → wire_receipt ds ≡ Some r → bs ≡ ds
  one-receipt's-words bs ds r b d e k = sym (c.read-words bs r b e).1 ∙ (c.read-words ds r d k).1

  pub taken-and-read : (bs : List ℕ) (r : Receipt) (rest : List ℕ) → Bytes bs → wire_receipt bs ≡ Some r → entry_in (record_of r ++ rest) ≡ Accepts r rest
  taken-and-read bs r rest b e = c.written_read r rest (c.read-words bs r b e).0

  -- adding ----------------------------------------------------------------------------------------------------------------

  -- a record added to a card's end is read after the others; cut anywhere, those before it stand, with 122
  pub added : (rs : List Receipt) (r : Receipt) → AllFit rs → Fits r → Reads (card_of rs ++ record_of r) (rs ++ (r ∷ [])) 0
  unfolding records_of
  added rs r f g =
      let e = c.appended rs (r ∷ []) in
      rw (e, append-nil (record_of r)) at (c.card-read (rs ++ (r ∷ [])) (all_fit rs r f g))

  pub cut-anywhere : (rs : List Receipt) (r : Receipt) (k : ℕ) → AllFit rs → 0 < k → k < length (record_of r)
      → Reads (card_of rs ++ take k (record_of r)) rs 122
  cut-anywhere rs r k f h l = c.cut rs r k f h l
