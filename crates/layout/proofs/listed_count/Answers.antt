use native.Mathlib.Omega.{arith}
use Prim.Native.Nat.{ℕ, ◌<◌}
use mathlib.Core.Path.{sym, subst}
use Rattle.rows.proofs.Codes.{below_less}
use Rattle.layout.specs.Layout.{listing_in}
use borrow.Author.Rules.{rules}
use Rattle.layout.proofs.listed_count.Goals as goal

pub returns : goal.returns
unfolding listing_in
returns c = (c.held_below.ensures, subst (λ (x : ℕ). x < 18) (sym c.held_below.ensures) (below_less 18 _ (omega arith)))
