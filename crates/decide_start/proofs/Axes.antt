-- The marks of the used axes. Assumes nothing.
use Prim.Native.Nat.{ℕ, ◌+◌, ◌<◌}
use mathlib.Core.Bool.{Bool, false}
use mathlib.Core.List.{List}
use mathlib.Core.Path.{◌≡◌, ◌∙◌}
use native.Mathlib.Omega.{arith}
use borrow.Author.Count.{below_more}
use lib.ListN.{length, get_or, set}
use lib.Seq.{get_or-set_same, get_or-set_other}

-- one more mark
pub mark-more : (p : ℕ → Bool) (marks : List Bool) (i : ℕ) (mark : Bool) → i < length marks → mark ≡ p i
    → ((k : ℕ) → k < i → get_or marks k false ≡ p k) → (k : ℕ) → k < i + 1 → get_or (set marks i mark) k false ≡ p k
mark-more p marks i mark h e all =
    below_more _ i (λ k l. get_or-set_other marks i k mark false (λ same. omega arith) ∙ all k l) (get_or-set_same marks i mark false h ∙ e)
