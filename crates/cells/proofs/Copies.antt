-- What the two loops that copy words know, one word more.
use Prim.Native.Nat.{ℕ, zero, suc, ◌+◌, ◌<◌}
use native.Mathlib.Numerals.{add-one}
use native.Mathlib.Omega.{arith}
use mathlib.Core.List.{List, [], ◌∷◌, ◌++◌}
use mathlib.Core.Path.{◌≡◌, refl, sym, ap, ◌∙◌}
use lib.ListN.{length, get_or, set, take}
use lib.Seq.{take-suc, length-take-le}
use Rattle.cells.specs.Cells.{tab, part, put_from, put}

tab-snoc : {A : Type 0} (f : ℕ → A) (n : ℕ) → tab f (suc n) ≡ tab f n ++ (f n ∷ [])
tab-snoc f zero = refl
tab-snoc f (suc n) = ap (λ l. f 0 ∷ l) (tab-snoc (λ (i : ℕ). f (suc i)) n)

pub part-more : (w : List ℕ) (b n : ℕ) → part w b (n + 1) ≡ part w b n ++ (get_or w (b + n) 0 ∷ [])
unfolding part
part-more w b n = ap (tab (λ (i : ℕ). get_or w (b + i) 0)) (add-one n) ∙ tab-snoc (λ (i : ℕ). get_or w (b + i) 0) n

put-snoc : (w : List ℕ) (b j : ℕ) (xs : List ℕ) (x : ℕ) → put_from w b j (xs ++ (x ∷ [])) ≡ set (put_from w b j xs) (b + (j + length xs)) x
put-snoc w b j [] x = ap (λ (n : ℕ). set w n x) (omega arith)
put-snoc w b j (y ∷ xs) x = put-snoc (set w (b + j) y) b (suc j) xs x ∙ ap (λ (n : ℕ). set (put_from (set w (b + j) y) b (suc j) xs) n x) (omega arith)

pub put-more : (w : List ℕ) (b : ℕ) (ws : List ℕ) (i : ℕ) → i < length ws → set (put w b (take i ws)) (b + i) (get_or ws i 0) ≡ put w b (take (i + 1) ws)
unfolding put
put-more w b ws i h =
    sym (ap (λ (n : ℕ). put_from w b 0 (take n ws)) (add-one i) ∙ ap (put_from w b 0) (take-suc ws i 0 h) ∙ put-snoc w b 0 (take i ws) (get_or ws i 0)
    ∙ ap (λ (n : ℕ). set (put_from w b 0 (take i ws)) n (get_or ws i 0)) (omega (arith, length-take-le i ws (omega arith))))
