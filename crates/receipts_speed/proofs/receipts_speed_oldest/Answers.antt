use native.Mathlib.Numerals.{add-one}
use mathlib.Core.Path.{◌∙◌}
use Rattle.receipts_speed.specs.Pushes.{kept_after}
use Rattle.receipts_speed.proofs.receipts_speed_oldest.Goals as goal

pub loop-id-init : goal.loop-id-init
unfolding kept_after
loop-id-init c = record { kept = c.empty-ring.ensures.kept; keeps = c.empty-ring.ensures.nothing }

pub loop-id-preserved : goal.loop-id-preserved
unfolding kept_after
loop-id-preserved c =
    let r = c.«record».ensures in
    record { kept = r.kept; keeps = r.keeps ∙ rw (c.loop-id.invariant.keeps, c.numbered.ensures, add-one) }
