use lib.ListN.{get_or}
use Rattle.runtime.proofs.Looks.{lease-low, record-low}
use mathlib.Core.Path.{refl}
use Rattle.runtime.proofs.Cells.{same_at, set_any}
use Rattle.model.specs.Records.{no_capability, no_lease}
use Rattle.runtime.proofs.Orders.{admits-in, order-fits, order-stands, sequenced_as}
use Rattle.runtime.specs.Runtimes.{asked_in, hand_in, tables_in}
use Rattle.runtime.proofs.admit.Goals as goal

pub bounds-rt-at : goal.bounds-rt-at
bounds-rt-at c = c.requires.1.0.inside

pub bounds-rt-axis : goal.bounds-rt-axis
bounds-rt-axis c = c.axis_or_spare-axis.ensures.1

pub bounds-rt-axis-2 : goal.bounds-rt-axis-2
bounds-rt-axis-2 c = c.axis_or_spare-axis.ensures.1

pub admitted-change-requires : goal.admitted-change-requires
admitted-change-requires c = order-fits c.args.rt.now (c.requires.0) c.args.at (c.requires.1.0) (c.requires.1.1)

pub next_place-rt-requires : goal.next_place-rt-requires
next_place-rt-requires c = c.requires.0.kept.placed.replay.within

pub returns : goal.returns
returns c =
    rw (
      c.awaiting-rt.ensures,
      c.next_place-rt.ensures,
      c.entered.ensures,
      set_any (sequenced_as c.args.rt.now.submission.action.sequence) _ no_lease c.args.rt.now.leases c.axis_or_spare-axis.result,
      (rw (same_at _ no_capability c.args.rt.now.capabilities c.args.at (record-low c.args.rt.now c.requires.0.kept c.args.at c.requires.1.0.inside)) at c.axis_or_spare-axis.ensures.0),
    ) (admits-in c.args.rt.now c.requires.0 c.args.at c.requires.1.0 c.requires.1.1 c.admitted-change.result (
    c.admitted-change.ensures c.args.rt.now.fixed (tables_in c.args.rt.now) (asked_in c.args.rt.now) (hand_in c.args.rt.now) (get_or c.args.rt.now.capabilities c.args.at no_capability) c.requires.0.sound refl
    (rw (same_at _ no_lease c.args.rt.now.leases c.axis_or_spare-axis.result (lease-low c.args.rt.now c.requires.0.kept c.axis_or_spare-axis.result c.axis_or_spare-axis.ensures.1), (rw (same_at _ no_capability c.args.rt.now.capabilities c.args.at (record-low c.args.rt.now c.requires.0.kept c.args.at c.requires.1.0.inside)) at c.axis_or_spare-axis.ensures.0)) (order-stands c.args.rt.now c.requires.0 c.args.at c.requires.1.0 c.requires.1.1)) c.requires.1.1))
