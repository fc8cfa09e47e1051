use mathlib.Core.Path.{◌∙◌, sym}
use lib.ListN.{get_or}
use Rattle.model.specs.Records.{no_lease, no_capability}
use Rattle.runtime.proofs.Looks.{lease-low, record-low}
use Rattle.runtime.proofs.Cells.{same_at}
use Rattle.runtime.proofs.Orders.{order-shown}
use Rattle.runtime.proofs.Rulings.{failed-so, order-ruled, passed-so, receipt-so, rejects-so, resource-so}
use Rattle.runtime.specs.Runtimes.{asked_in, hand_in, tables_in}
use Rattle.runtime.proofs.submit_on.Goals as goal

pub bounds-rt-at : goal.bounds-rt-at
bounds-rt-at c = c.look_place-at.ensures.inside

pub bounds-rt-axis : goal.bounds-rt-axis
bounds-rt-axis c = c.axis_or_spare-axis.ensures.1

pub look_place-at-requires : goal.look_place-at-requires
look_place-at-requires c = c.requires

pub look_hit-hit-requires : goal.look_hit-hit-requires
look_hit-hit-requires c = c.requires

pub admit-requires : goal.admit-requires
admit-requires c = (c.requires, (c.look_place-at.ensures, passed-so c.order_check-ruling.result (order-ruled c.args.rt.now c.requires c.look_place-at.result c.look_place-at.ensures c.early_check-early.result (c.early_check-early.ensures (tables_in c.args.rt.now) (asked_in c.args.rt.now) (hand_in c.args.rt.now) (get_or c.args.rt.now.capabilities c.look_place-at.result no_capability) c.requires.sound (rw (same_at _ no_lease c.args.rt.now.leases c.axis_or_spare-axis.result (lease-low c.args.rt.now c.requires.kept c.axis_or_spare-axis.result c.axis_or_spare-axis.ensures.1), (rw (same_at _ no_capability c.args.rt.now.capabilities c.look_place-at.result (record-low c.args.rt.now c.requires.kept c.look_place-at.result c.look_place-at.ensures.inside)) at c.axis_or_spare-axis.ensures.0)) (order-shown c.args.rt.now c.requires c.look_place-at.result c.look_place-at.ensures))) c.look_hit-hit.result (rw c.is_passed-wanted.ensures at c.look_hit-hit.ensures) c.order_check-ruling.result (rw (same_at _ no_capability c.args.rt.now.capabilities c.look_place-at.result (record-low c.args.rt.now c.requires.kept c.look_place-at.result c.look_place-at.ensures.inside), same_at _ no_lease c.args.rt.now.leases c.axis_or_spare-axis.result (lease-low c.args.rt.now c.requires.kept c.axis_or_spare-axis.result c.axis_or_spare-axis.ensures.1), (rw (same_at _ no_capability c.args.rt.now.capabilities c.look_place-at.result (record-low c.args.rt.now c.requires.kept c.look_place-at.result c.look_place-at.ensures.inside)) at c.axis_or_spare-axis.ensures.0)) at c.order_check-ruling.ensures)) c.in-Passed.is))

pub reject-requires : goal.reject-requires
reject-requires c = (
  c.requires,
  (
    resource-so c.args.rt.now c.requires c.look_place-at.result c.look_place-at.ensures ∙ sym (rw (same_at _ no_capability c.args.rt.now.capabilities c.look_place-at.result (record-low c.args.rt.now c.requires.kept c.look_place-at.result c.look_place-at.ensures.inside)) at c.resource_of-resource.ensures),
    receipt-so c.args.rt.now c.requires c.look_place-at.result c.look_place-at.ensures c.early_check-early.result (c.early_check-early.ensures (tables_in c.args.rt.now) (asked_in c.args.rt.now) (hand_in c.args.rt.now) (get_or c.args.rt.now.capabilities c.look_place-at.result no_capability) c.requires.sound (rw (same_at _ no_lease c.args.rt.now.leases c.axis_or_spare-axis.result (lease-low c.args.rt.now c.requires.kept c.axis_or_spare-axis.result c.axis_or_spare-axis.ensures.1), (rw (same_at _ no_capability c.args.rt.now.capabilities c.look_place-at.result (record-low c.args.rt.now c.requires.kept c.look_place-at.result c.look_place-at.ensures.inside)) at c.axis_or_spare-axis.ensures.0)) (order-shown c.args.rt.now c.requires c.look_place-at.result c.look_place-at.ensures))) c.look_hit-hit.result (rw c.is_passed-wanted.ensures at c.look_hit-hit.ensures) (failed-so c.order_check-ruling.result (order-ruled c.args.rt.now c.requires c.look_place-at.result c.look_place-at.ensures c.early_check-early.result (c.early_check-early.ensures (tables_in c.args.rt.now) (asked_in c.args.rt.now) (hand_in c.args.rt.now) (get_or c.args.rt.now.capabilities c.look_place-at.result no_capability) c.requires.sound (rw (same_at _ no_lease c.args.rt.now.leases c.axis_or_spare-axis.result (lease-low c.args.rt.now c.requires.kept c.axis_or_spare-axis.result c.axis_or_spare-axis.ensures.1), (rw (same_at _ no_capability c.args.rt.now.capabilities c.look_place-at.result (record-low c.args.rt.now c.requires.kept c.look_place-at.result c.look_place-at.ensures.inside)) at c.axis_or_spare-axis.ensures.0)) (order-shown c.args.rt.now c.requires c.look_place-at.result c.look_place-at.ensures))) c.look_hit-hit.result (rw c.is_passed-wanted.ensures at c.look_hit-hit.ensures) c.order_check-ruling.result (rw (same_at _ no_capability c.args.rt.now.capabilities c.look_place-at.result (record-low c.args.rt.now c.requires.kept c.look_place-at.result c.look_place-at.ensures.inside), same_at _ no_lease c.args.rt.now.leases c.axis_or_spare-axis.result (lease-low c.args.rt.now c.requires.kept c.axis_or_spare-axis.result c.axis_or_spare-axis.ensures.1), (rw (same_at _ no_capability c.args.rt.now.capabilities c.look_place-at.result (record-low c.args.rt.now c.requires.kept c.look_place-at.result c.look_place-at.ensures.inside)) at c.axis_or_spare-axis.ensures.0)) at c.order_check-ruling.ensures)) c.in-Failed.is),
  ),
)

pub returns-in-Passed : goal.returns-in-Passed
returns-in-Passed c = c.admit.ensures

pub returns-in-Failed : goal.returns-in-Failed
returns-in-Failed c = rejects-so c.args.rt.now c.reject.new.rt c.reject.result (failed-so c.order_check-ruling.result (order-ruled c.args.rt.now c.requires c.look_place-at.result c.look_place-at.ensures c.early_check-early.result (c.early_check-early.ensures (tables_in c.args.rt.now) (asked_in c.args.rt.now) (hand_in c.args.rt.now) (get_or c.args.rt.now.capabilities c.look_place-at.result no_capability) c.requires.sound (rw (same_at _ no_lease c.args.rt.now.leases c.axis_or_spare-axis.result (lease-low c.args.rt.now c.requires.kept c.axis_or_spare-axis.result c.axis_or_spare-axis.ensures.1), (rw (same_at _ no_capability c.args.rt.now.capabilities c.look_place-at.result (record-low c.args.rt.now c.requires.kept c.look_place-at.result c.look_place-at.ensures.inside)) at c.axis_or_spare-axis.ensures.0)) (order-shown c.args.rt.now c.requires c.look_place-at.result c.look_place-at.ensures))) c.look_hit-hit.result (rw c.is_passed-wanted.ensures at c.look_hit-hit.ensures) c.order_check-ruling.result (rw (same_at _ no_capability c.args.rt.now.capabilities c.look_place-at.result (record-low c.args.rt.now c.requires.kept c.look_place-at.result c.look_place-at.ensures.inside), same_at _ no_lease c.args.rt.now.leases c.axis_or_spare-axis.result (lease-low c.args.rt.now c.requires.kept c.axis_or_spare-axis.result c.axis_or_spare-axis.ensures.1), (rw (same_at _ no_capability c.args.rt.now.capabilities c.look_place-at.result (record-low c.args.rt.now c.requires.kept c.look_place-at.result c.look_place-at.ensures.inside)) at c.axis_or_spare-axis.ensures.0)) at c.order_check-ruling.ensures)) c.in-Failed.is) c.reject.ensures
