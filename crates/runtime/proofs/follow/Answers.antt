use native.Mathlib.Omega.{arith}
use Rattle.runtime.proofs.Slots.{none_past}
use Rattle.runtime.specs.Kept.{emptied, idled, clears}
use Rattle.model.specs.Records.{no_lease, no_active}
use Rattle.runtime.proofs.Cells.{set_any}
use Rattle.runtime.proofs.Follows.{clears-inside}
use mathlib.Core.Path.{refl}
use Rattle.runtime.proofs.follow.Goals as goal

pub bounds-rt-axis : goal.bounds-rt-axis
bounds-rt-axis c = rw c.cleared-axis.ensures (clears-inside (c.args.course.way) c.args.course c.requires)

pub bounds-rt-axis-2 : goal.bounds-rt-axis-2
bounds-rt-axis-2 c = rw c.cleared-axis.ensures (clears-inside (c.args.course.way) c.args.course c.requires)

pub returns : goal.returns
returns c = record {
  stored = rw (
    c.way_waits-rt.ensures,
    c.soonest_with-rt.ensures,
    c.held_without-left.ensures,
    c.id_of-rt.ensures,
    c.owner_of-rt.ensures,
    c.cleared-axis.ensures,
    set_any emptied _ no_lease c.args.rt.now.leases (clears c.args.course.way c.args.course.falling.axis),
    set_any idled _ no_active c.args.rt.now.active (clears c.args.course.way c.args.course.falling.axis),
    none_past _ c.args.rt.now.leases (clears c.args.course.way c.args.course.falling.axis),
  ) refl;
  answered = refl;
}

pub bounds-rt-axis-3 : goal.bounds-rt-axis-3
bounds-rt-axis-3 c = rw c.cleared-axis.ensures (clears-inside c.args.course.way c.args.course c.requires)

pub offset_bounds-rt-axis-2 : goal.offset_bounds-rt-axis-2
offset_bounds-rt-axis-2 c = record { fits = omega (arith, c.cleared-axis.ensures, clears-inside c.args.course.way c.args.course c.requires) }

pub offset_bounds-rt-axis-3 : goal.offset_bounds-rt-axis-3
offset_bounds-rt-axis-3 c = record { fits = omega (arith, c.cleared-axis.ensures, clears-inside c.args.course.way c.args.course c.requires) }
