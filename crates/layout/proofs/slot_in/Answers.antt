use Rattle.rows.proofs.Codes.{below_less}
use native.Mathlib.Omega.{arith}
use Prim.Native.Nat.{ℕ, ◌<◌}
use mathlib.Core.Path.{sym, subst}
use Rattle.layout.specs.Layout.{runtime_in}
use borrow.Author.Rules.{rules}
use Rattle.layout.proofs.slot_in.Goals as goal

pub returns : goal.returns
unfolding runtime_in
returns c = (c.held_below.ensures, subst (λ (x : ℕ). x < 65) (sym c.held_below.ensures) (below_less 65 _ (omega arith)))
