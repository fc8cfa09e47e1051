use native.Mathlib.Omega.{arith}
use mathlib.Core.Path.{◌≡◌, ap, ◌∙◌}
use Prim.Native.Nat.{◌+◌, ◌-◌}
use Rattle.receipts_main.specs.CaseG.{issued}
use Rattle.receipts_main.proofs.Issued.{issued-more}
use Rattle.receipts_main.proofs.filled.Goals as goal

pub loop-number-init : goal.loop-number-init
unfolding issued
loop-number-init c = record { kept = c.empty-ring.ensures.kept; keeps = c.empty-ring.ensures.nothing }

pub loop-number-preserved : goal.loop-number-preserved
loop-number-preserved c =
    let n = c.loop-number.number in
    let r = c.«record».ensures in
    let e : n ≡ n + 1 - 1 = omega arith in
    record {
      kept = r.kept;
      keeps = r.keeps ∙ rw (c.loop-number.invariant.keeps, c.numbered.ensures) (issued-more n (n - 1) (omega arith) (omega arith) ∙ ap issued e);
    }

pub returns : goal.returns
returns c = let e : c.loop-number.number - 1 ≡ 64 = omega arith in rw e at c.loop-number.invariant
