use borrow.Author.Rules.{rules}
use Rattle.host_store.proofs.Finds.{due-sought, forbidden-sought, nothing-sought}
use Rattle.host_store.proofs.look_sought.Goals as goal

pub returns-in-Due : goal.returns-in-Due
returns-in-Due c = due-sought _ _ _ _ _ _ c.in-Due.is c.look_due.ensures

pub returns-in-Forbidden : goal.returns-in-Forbidden
returns-in-Forbidden c = forbidden-sought _ _ _ _ _ _ c.in-Forbidden.is c.look_forbidden.ensures

pub returns-in-Nothing : goal.returns-in-Nothing
returns-in-Nothing c = (nothing-sought _ _ _ _ _ _ c.in-Nothing.is, search rules)
