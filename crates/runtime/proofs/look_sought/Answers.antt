use Rattle.runtime.proofs.Looks.{sought-due, sought-forbidden, sought-nothing}
use lib.Dec.{lit<}
use Rattle.runtime.proofs.look_sought.Goals as goal

pub look_due-requires : goal.look_due-requires
look_due-requires c = c.requires

pub look_forbidden-requires : goal.look_forbidden-requires
look_forbidden-requires c = c.requires

pub returns-in-Due : goal.returns-in-Due
returns-in-Due c = (sought-due c.args.rt.now (c.requires.0) c.args.sought c.in-Due.is c.args.from c.args.time c.args.flags c.look_due.result c.look_due.ensures.0, c.look_due.ensures.1)

pub returns-in-Forbidden : goal.returns-in-Forbidden
returns-in-Forbidden c = (sought-forbidden c.args.rt.now (c.requires.0) c.args.sought c.in-Forbidden.is c.args.from c.args.time c.args.flags c.look_forbidden.result c.look_forbidden.ensures.0, c.look_forbidden.ensures.1)

pub returns-in-Nothing : goal.returns-in-Nothing
returns-in-Nothing c = (sought-nothing c.args.rt.now (c.requires.0) c.args.sought c.in-Nothing.is c.args.from c.args.time c.args.flags 8, lit< tt)
