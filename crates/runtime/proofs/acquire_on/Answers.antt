use Rattle.model.specs.Records.{no_lease}
use Rattle.runtime.proofs.Looks.{lease-low}
use Rattle.runtime.proofs.Cells.{same_at}
use Rattle.runtime.proofs.Rulings.{acquires, failed-so, passed-so, refuses-acquire, request-shown}
use Rattle.runtime.specs.Runtimes.{asked_in, hand_in, tables_in}
use Rattle.runtime.proofs.acquire_on.Goals as goal

pub bounds-rt-axis : goal.bounds-rt-axis
bounds-rt-axis c = c.axis_or_spare-axis.ensures.1

pub look_allowed-allowed-requires : goal.look_allowed-allowed-requires
look_allowed-allowed-requires c = c.requires

pub grant-requires : goal.grant-requires
grant-requires c = (c.requires, passed-so c.acquire_check-ruling.result (c.acquire_check-ruling.ensures (tables_in c.args.rt.now) (asked_in c.args.rt.now) (hand_in c.args.rt.now) (c.requires.sound) (rw (c.look_allowed-allowed.ensures, same_at _ no_lease c.args.rt.now.leases c.axis_or_spare-axis.result (lease-low c.args.rt.now c.requires.kept c.axis_or_spare-axis.result c.axis_or_spare-axis.ensures.1), c.axis_or_spare-axis.ensures.0) (request-shown c.args.rt.now c.requires))) c.in-Passed.is)

pub refuse-requires : goal.refuse-requires
refuse-requires c = c.requires

pub returns-in-Passed : goal.returns-in-Passed
returns-in-Passed c = acquires c.args.rt.now c.grant.new.rt c.grant.result c.args.time (passed-so c.acquire_check-ruling.result (c.acquire_check-ruling.ensures (tables_in c.args.rt.now) (asked_in c.args.rt.now) (hand_in c.args.rt.now) (c.requires.sound) (rw (c.look_allowed-allowed.ensures, same_at _ no_lease c.args.rt.now.leases c.axis_or_spare-axis.result (lease-low c.args.rt.now c.requires.kept c.axis_or_spare-axis.result c.axis_or_spare-axis.ensures.1), c.axis_or_spare-axis.ensures.0) (request-shown c.args.rt.now c.requires))) c.in-Passed.is) c.grant.ensures

pub returns-in-Failed : goal.returns-in-Failed
returns-in-Failed c = refuses-acquire c.args.rt.now c.refuse.new.rt c.refuse.result c.args.time (failed-so c.acquire_check-ruling.result (c.acquire_check-ruling.ensures (tables_in c.args.rt.now) (asked_in c.args.rt.now) (hand_in c.args.rt.now) (c.requires.sound) (rw (c.look_allowed-allowed.ensures, same_at _ no_lease c.args.rt.now.leases c.axis_or_spare-axis.result (lease-low c.args.rt.now c.requires.kept c.axis_or_spare-axis.result c.axis_or_spare-axis.ensures.1), c.axis_or_spare-axis.ensures.0) (request-shown c.args.rt.now c.requires))) c.in-Failed.is) c.refuse.ensures
