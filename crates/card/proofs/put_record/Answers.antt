use Prim.Native.Nat.{◌+◌, ◌-◌, ◌<◌, ◌≤◌}
use mathlib.Core.Path.{◌≡◌}
use native.Mathlib.Omega.{arith}
use lib.ListN.{length}
use Rattle.card.proofs.Placed.{no_record, record-placed}
use Rattle.card.proofs.put_record.Goals.{then-at-card-via-then-at-card, then-at-card-via-else-at-card+then-card-at}
use Rattle.card.proofs.put_record.Goals as goal

pub returns-then-at-card : goal.returns-then-at-card
returns-then-at-card c =
    let short : length c.args.card.now < c.args.at + (c.plan_of-plan.result.length + 3) =
    elim c.then-at-card.branch [
      | then-at-card-via-then-at-card w ↦ omega arith
      | then-at-card-via-else-at-card+then-card-at w ↦ omega arith
    ] in
    let w = no_record c.args.r _ c.numbers_of-numbers.ensures _ c.plan_of-plan.ensures c.args.card.now c.args.at short in
    record { answer = w.0; bytes = w.1 }

pub returns : goal.returns
returns c =
    let s = c.args in
    let L = c.plan_of-plan.result.length in
    let w : (s.at + L + 1) - s.at ≡ L + 1 = omega arith in
    let room : s.at + (L + 3) ≤ length s.card.now = omega (arith, c.if-at-card.false, c.if-card-at.false) in
    let p =
    record-placed s.r _ c.numbers_of-numbers.ensures _ c.plan_of-plan.ensures s.card.now s.at room c.put_number.ensures
    c.put_fields.ensures w c.sum_of-sum.ensures.value c.put_number-2.ensures in
    record { answer = p.0; bytes = p.1 }
