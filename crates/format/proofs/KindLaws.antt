-- Words compared one by one are pairs of which each passes. Assumes nothing.
use Prim.Native.Nat.{ℕ}
use mathlib.Core.Bool.{Bool, ◌&&◌}
use mathlib.Core.List.{List, [], ◌∷◌}
use mathlib.Core.Path.{◌≡◌, refl, ap}
use lib.Dec.{leb}
use Rattle.std.specs.List.{zip, list_all}
use Rattle.format.specs.Kinds.{within}

pub each_pair : (ws ls : List ℕ) → list_all (λ (p : ℕ × ℕ). leb p.0 p.1) (zip ws ls) ≡ within ws ls
unfolding within
each_pair [] ls = refl
each_pair (w ∷ ws) [] = refl
each_pair (w ∷ ws) (l ∷ ls) = ap (λ (b : Bool). leb w l && b) (each_pair ws ls)
