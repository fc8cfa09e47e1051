use mathlib.Core.Path.{refl}
use native.Mathlib.Omega.{arith}
use Rattle.cells.specs.Cells.{part}
use Rattle.host.proofs.Lent.{lent-enough, lent-room, tells-lack, tells-read}
use borrow.Author.Rules.{rules}
use Rattle.host.proofs.read.Goals as goal

pub returns-then-lack-ne0 : goal.returns-then-lack-ne0
returns-then-lack-ne0 c = tells-lack c.lack-lack.ensures c.if-lack-ne0.true refl refl

pub tell-requires : goal.tell-requires
tell-requires c = let e = c.lack-lack.ensures in let z = c.if-lack-ne0.false in (lent-enough _ _ e z, omega arith, lent-room _ _ e z)

pub returns : goal.returns
unfolding part
returns c = tells-read _ c.lack-lack.ensures c.if-lack-ne0.false c.tell.ensures
