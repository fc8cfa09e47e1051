use Rattle.rows.proofs.Codes.{below_less}
use native.Mathlib.Omega.{arith}
use Prim.Native.Nat.{ℕ, ◌<◌}
use mathlib.Core.Path.{sym, subst}
use Rattle.layout.specs.Layout.{runtime_in}
use borrow.Author.Rules.{rules}
use Rattle.layout.proofs.cursor_in.Goals as goal

pub returns : goal.returns
unfolding runtime_in
returns c = (c.held_below.ensures, subst (λ (x : ℕ). x < 32) (sym c.held_below.ensures) (below_less 32 _ (omega arith)))
