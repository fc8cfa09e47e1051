use Rattle.model.specs.Records.{no_lease}
use Rattle.runtime.proofs.Looks.{lease-low}
use Rattle.runtime.proofs.Cells.{same_at}
use Rattle.runtime.proofs.Leases.{held-shown}
use Rattle.runtime.proofs.Rulings.{failed-so, passed-so, refuses-renew, renews}
use Rattle.runtime.specs.Runtimes.{tables_in}
use Rattle.runtime.proofs.renew_on.Goals as goal

pub bounds-rt-axis : goal.bounds-rt-axis
bounds-rt-axis c = c.look_held-axis.ensures.1

pub look_held-axis-requires : goal.look_held-axis-requires
look_held-axis-requires c = c.requires

pub lengthen-requires : goal.lengthen-requires
lengthen-requires c = (c.requires, (c.look_held-axis.ensures.0, passed-so c.renew_check-ruling.result (c.renew_check-ruling.ensures (tables_in c.args.rt.now) (rw (same_at _ no_lease c.args.rt.now.leases c.look_held-axis.result (lease-low c.args.rt.now c.requires.kept c.look_held-axis.result c.look_held-axis.ensures.1)) (held-shown c.args.rt.now c.requires c.args.rt.now.renewal.owner c.args.rt.now.renewal.lease_id c.look_held-axis.result c.look_held-axis.ensures.0 c.look_held-axis.ensures.1))) c.in-Passed.is))

pub refuse-requires : goal.refuse-requires
refuse-requires c = c.requires

pub returns-in-Passed : goal.returns-in-Passed
returns-in-Passed c = renews c.args.rt.now c.lengthen.new.rt c.lengthen.result (passed-so c.renew_check-ruling.result (c.renew_check-ruling.ensures (tables_in c.args.rt.now) (rw (same_at _ no_lease c.args.rt.now.leases c.look_held-axis.result (lease-low c.args.rt.now c.requires.kept c.look_held-axis.result c.look_held-axis.ensures.1)) (held-shown c.args.rt.now c.requires c.args.rt.now.renewal.owner c.args.rt.now.renewal.lease_id c.look_held-axis.result c.look_held-axis.ensures.0 c.look_held-axis.ensures.1))) c.in-Passed.is) c.lengthen.ensures

pub returns-in-Failed : goal.returns-in-Failed
returns-in-Failed c = refuses-renew c.args.rt.now c.refuse.new.rt c.refuse.result (failed-so c.renew_check-ruling.result (c.renew_check-ruling.ensures (tables_in c.args.rt.now) (rw (same_at _ no_lease c.args.rt.now.leases c.look_held-axis.result (lease-low c.args.rt.now c.requires.kept c.look_held-axis.result c.look_held-axis.ensures.1)) (held-shown c.args.rt.now c.requires c.args.rt.now.renewal.owner c.args.rt.now.renewal.lease_id c.look_held-axis.result c.look_held-axis.ensures.0 c.look_held-axis.ensures.1))) c.in-Failed.is) c.refuse.ensures
