use mathlib.Core.Path.{◌≡◌}
use Rattle.std.specs.Prelude.{Some}
use Rattle.receipts.specs.Indexes.{slot_at}
use Rattle.receipts.specs.Rings.{stores_of}
use Rattle.receipts.proofs.Ring.receipt.Goals.{in-Rejected, in-Other}
use Rattle.receipts.proofs.Ring.receipt.Goals as goal

pub bounds-self-slot : goal.bounds-self-slot
bounds-self-slot c =
    let st = stores_of c.args.self.now in
    let e : c.match-branch-2.slot ≡ slot_at (Some c.in_ok-place.field-0) st =
    elim c.match-branch-2.branch [ in-Rejected w ↦ rw (w.slot-is, w.in-Rejected.is) | in-Other w ↦ rw (w.slot-is, w.in-Other.is) ] in
    rw e (c.in_ok-place.ensures.below st c.requires)
