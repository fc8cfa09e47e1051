-- Lent words by regions: a part of them, a run of words stored, and a table of rows of k words each. Of any layout.
use Rattle.std.specs.Prelude.{ℕ, zero, suc, ◌+◌, ◌*◌, List, [], ◌∷◌, get_or, set}

-- f 0, f 1, .. f (n - 1)
abbrev pub tab : {A : Type 0} → (ℕ → A) → ℕ → List A
tab f zero = []
tab f (suc n) = f 0 ∷ tab (λ (i : ℕ). f (suc i)) n

-- k words from b on
unfoldable pub part : List ℕ → ℕ → ℕ → List ℕ
part w b k = tab (λ (i : ℕ). get_or w (b + i) 0) k

-- words stored one by one at b + i, b + (i + 1), ..
abbrev pub put_from : List ℕ → ℕ → ℕ → List ℕ → List ℕ
put_from w b i [] = w
put_from w b i (x ∷ xs) = put_from (set w (b + i) x) b (suc i) xs

unfoldable pub put : List ℕ → ℕ → List ℕ → List ℕ
put w b xs = put_from w b 0 xs

-- n rows of k words each, from off on, read by d
unfoldable pub table : {A : Type 0} → (List ℕ → A) → List ℕ → ℕ → ℕ → ℕ → List A
table d w off k n = tab (λ (i : ℕ). d (part w (off + i * k) k)) n
