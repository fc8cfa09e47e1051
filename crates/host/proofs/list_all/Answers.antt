use borrow.Author.Rules.{rules}
use Prim.Native.Nat.{◌-◌, ◌≤◌}
use native.Mathlib.Omega.{arith}
use mathlib.Core.Path.{subst, ap, ◌∙◌}
use Rattle.host.specs.Host.{ListsAll}
use Rattle.host.proofs.Starting.{lists-none, lists-more, lists-end, lists-one}
use Rattle.host.proofs.list_all.Goals as goal

pub loop-i-init : goal.loop-i-init
loop-i-init c = (search rules, lists-none _ _)

pub list-requires : goal.list-requires
list-requires c = let n = c.loop-i.invariant.1.long in omega (arith, n, c.requires.0)

pub loop-i-preserved : goal.loop-i-preserved
loop-i-preserved c = (search rules, lists-more _ c.loop-i.invariant.1 (lists-one _ _ c.capability_record-words.ensures c.capability_of.ensures c.list.ensures))

pub shape_of-state : goal.shape_of-state
shape_of-state c = c.loop-i.invariant.1.long

pub returns : goal.returns
returns c = lists-end c.loop-i.invariant.0 c.loop-i-test.false c.loop-i.invariant.1
