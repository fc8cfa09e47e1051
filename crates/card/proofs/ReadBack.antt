-- A record that was written at a place is read there. Assumes nothing.
use Prim.Native.Nat.{ℕ, ◌+◌, ◌≤◌}
use mathlib.Core.Bool.{true}
use mathlib.Core.List.{List, ◌++◌}
use mathlib.Core.Path.{◌≡◌, sym, ap, ◌∙◌}
use native.Mathlib.Nat.{add-zero}
use native.Mathlib.Omega.{arith}
use borrow.Author.Tests.{leb-true}
use lib.ListN.{length, take, drop, get_or}
use lib.Seq.{drop_at, get_or-drop, length-take-le}
use Rattle.model.specs.declared.Receipt.{Receipt}
use Rattle.words.specs.Words.{over}
use Rattle.std.specs.Prelude.{Some, Ok}
use Rattle.card.specs.Card.{widths, numbers_of, body_of, framed, record_of}
use Rattle.card.specs.Functions.{has_room, written, count, read_of, read_at}
use Rattle.card.specs.Claim.{Fits}
use Rattle.card.proofs.Records.{framed-length, written_read}
use Rattle.card.proofs.Writing.{with-room, count-with}

-- what stands from a place on where bytes were written there
over-front : (card : List ℕ) (at : ℕ) (bs : List ℕ) → at ≤ length card → drop at (over card at bs) ≡ bs ++ drop (at + length bs) card
unfolding over
over-front card at bs h = drop_at (take at card) (bs ++ drop (at + length bs) card) at (length-take-le at card h)

-- the first byte of a record
pub record-first : (r : Receipt) (rest : List ℕ) → get_or (record_of r ++ rest) 0 0 + 3 ≡ length (record_of r)
unfolding record_of framed
record-first r rest = sym (framed-length (body_of widths (numbers_of r)))

pub first-there : (l : List ℕ) (at : ℕ) → get_or l at 0 ≡ get_or (drop at l) 0 0
first-there l at = sym (get_or-drop at l 0 0 ∙ ap (λ (n : ℕ). get_or l n 0) (add-zero at))

pub placed : (card : List ℕ) (at : ℕ) (r : Receipt) → Fits r → has_room card at (record_of r) ≡ true
    → read_at (written card at (record_of r)) at ≡ Ok (Some (record { receipt = r; next = at + count card at (record_of r) }))
unfolding has_room read_at read_of
placed card at r f h =
    let k = leb-true (at + length (record_of r)) (length card) h in
    let w = with-room card at (record_of r) k in
    let rest = drop (at + length (record_of r)) card in
    let l = over card at (record_of r) in
    let e : drop at l ≡ record_of r ++ rest = over-front card at (record_of r) (omega arith) in
    let n : at + get_or (record_of r ++ rest) 0 0 + 3 ≡ at + length (record_of r) = omega (arith, record-first r rest) in
    rw (← count-with card at (record_of r) k, ← w.1, first-there l at, e, written_read r rest f, n)
