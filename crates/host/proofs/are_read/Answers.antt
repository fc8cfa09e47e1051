use borrow.Author.Rules.{rules}
use borrow.Author.Tests.{not-true, not-false}
use Prim.Native.Nat.{◌-◌, ◌≤◌}
use mathlib.Core.Bool.{true}
use mathlib.Core.Path.{◌≡◌, refl, sym, ap, ◌∙◌}
use native.Mathlib.Omega.{arith}
use Rattle.host.specs.Host.{are_read}
use Rattle.host.proofs.Starting.{all-read-none, all-read-more, not-all-read, read_as, all-read-end}
use Rattle.host.proofs.are_read.Goals as goal

pub loop-i-init : goal.loop-i-init
loop-i-init c = (search rules, all-read-none _)

pub returns-then-not-is_read : goal.returns-then-not-is_read
returns-then-not-is_read c = sym (not-all-read _ _ _ c.loop-i-test.true (read_as c.capability_record.ensures c.is_read.ensures (not-true _ c.if-not-is_read.true-raw)))

pub loop-i-preserved : goal.loop-i-preserved
loop-i-preserved c = (search rules, all-read-more _ _ c.loop-i.invariant.1 (read_as c.capability_record.ensures c.is_read.ensures (not-false _ c.if-not-is_read.false-raw)))

pub returns : goal.returns
returns c = sym (all-read-end _ _ _ c.loop-i.invariant.0 c.loop-i-test.false c.loop-i.invariant.1)
