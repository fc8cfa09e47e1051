-- A record written by its parts: the length byte, the map, the fields, the sum. Assumes nothing.
use Prim.Native.Nat.{ℕ, ◌+◌, ◌<◌, ◌≤◌}
use mathlib.Core.List.{List, ◌∷◌, ◌++◌}
use mathlib.Core.Path.{◌≡◌, sym, ap, ◌∙◌}
use native.Mathlib.Omega.{arith}
use lib.ListN.{length, take, drop, set}
use Rattle.std.specs.Prelude.{Some, None}
use Rattle.model.specs.declared.Receipt.{Receipt}
use Rattle.words.specs.Words.{little_end, over}
use Rattle.words.proofs.Ends.{length-little_end}
use Rattle.words.proofs.Over.{over-cons, over-over, over-part}
use Rattle.card.specs.declared.Plan.{Plan}
use Rattle.card.specs.Card.{widths, numbers_of, map_of, fields_of, body_of, sum, framed, record_of}
use Rattle.card.specs.Functions.{written, counted, Plans}
use Rattle.card.proofs.Records.{body-length, framed-length}
use Rattle.card.proofs.Writing.{with-room, without-room}

module _ (ns : List ℕ) (plan : Plan) (p : Plans ns plan) where
  size_is : length (framed (body_of widths ns)) ≡ plan.length + 3
  size_is = omega (arith, framed-length (body_of widths ns), body-length ns, p.length-is)

  module _ (card : List ℕ) (at : ℕ) (room : at + (plan.length + 3) ≤ length card) where
    -- up to the fields
    front : List ℕ
    front = plan.length ∷ body_of widths ns

    front-size : length front ≡ plan.length + 1
    unfolding front
    front-size = omega (arith, body-length ns, p.length-is)

    begun : {c₂ c₃ : List ℕ} → c₂ ≡ over (set card at plan.length) (at + 1) (little_end 4 plan.map)
        → c₃ ≡ over c₂ (at + 5) (fields_of widths ns) → c₃ ≡ over card at front
    unfolding front body_of
    begun d e =
        e
        ∙ rw (d, over-cons card at plan.length (little_end 4 plan.map) (omega arith), p.map_is)
        (over-over card at (plan.length ∷ little_end 4 (map_of ns)) (fields_of widths ns) 5 (omega (arith, length-little_end 4 (map_of ns))) (omega (arith, p.length-is)))

    ended : {c₃ c₄ : List ℕ} {s n : ℕ} → c₃ ≡ over card at front → n ≡ plan.length + 1 → s ≡ sum (take n (drop at c₃))
        → c₄ ≡ over c₃ (at + plan.length + 1) (little_end 2 s) → c₄ ≡ over card at (framed (body_of widths ns))
    unfolding front framed sum
    ended {s = s} d k e f =
        let q : plan.length ≡ length (body_of widths ns) = omega (arith, body-length ns, p.length-is) in
        let a : at + plan.length + 1 ≡ at + (plan.length + 1) = omega arith in
        let t : s ≡ plan.length + sum (body_of widths ns) = e ∙ rw (d, over-part card at front _ (front-size ∙ sym k) (omega arith)) in
        let v : front ++ little_end 2 s ≡ framed (body_of widths ns) = rw (t, q) in
        f ∙ rw (d, a, over-over card at front (little_end 2 s) (plan.length + 1) front-size (omega arith), v)

-- where the receipt's numbers are these, what is answered and what is left
module _ (r : Receipt) (ns : List ℕ) (e : ns ≡ numbers_of r) (plan : Plan) (p : Plans ns plan) (card : List ℕ) (at : ℕ) where
  record-size : length (record_of r) ≡ plan.length + 3
  unfolding record_of
  record-size = rw e at (size_is ns plan p)

  pub no_record : length card < at + (plan.length + 3) → (None ≡ counted card at (record_of r)) × (card ≡ written card at (record_of r))
  no_record h = without-room card at (record_of r) (omega (arith, record-size))

  pub record-placed : {c₂ c₃ c₄ : List ℕ} {s n : ℕ} → at + (plan.length + 3) ≤ length card
      → c₂ ≡ over (set card at plan.length) (at + 1) (little_end 4 plan.map) → c₃ ≡ over c₂ (at + 5) (fields_of widths ns)
      → n ≡ plan.length + 1 → s ≡ sum (take n (drop at c₃)) → c₄ ≡ over c₃ (at + plan.length + 1) (little_end 2 s)
      → (Some (plan.length + 3) ≡ counted card at (record_of r)) × (c₄ ≡ written card at (record_of r))
  unfolding record_of
  record-placed h a b k c d =
      let w = with-room card at (record_of r) (omega (arith, record-size)) in
      (ap Some (sym record-size) ∙ w.0, ended ns plan p card at h (begun ns plan p card at h a b) k c d ∙ rw e w.1)
