use mathlib.Core.Path.{refl}
use Rattle.runtime.proofs.placed.Goals as goal

pub returns-then-rejection : goal.returns-then-rejection
returns-then-rejection c =
    let p = c.push-pushed in
    record { pushed = p.result; pushes = p.ensures; index = refl; slot = refl; rejected = rw c.if-rejection.true; others = rw c.if-rejection.true }

pub returns : goal.returns
returns c =
    let p = c.push-pushed in
    record { pushed = p.result; pushes = p.ensures; index = refl; slot = refl; rejected = rw c.if-rejection.false; others = rw c.if-rejection.false }
