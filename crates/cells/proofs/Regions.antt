-- Regions of one list of words: what stands outside of a run of stores stays, what was stored is read, and a table of elements is one list.
-- Each law is over offsets and lengths, and of no layout.
use Prim.Native.Nat.{ℕ, zero, suc, ◌+◌, ◌*◌, ◌<◌, ◌≤◌}
use native.Mathlib.Nat.{add-zero, not-suc-le-zero, le_of_suc-le-suc, suc-mul, mul-le-mul_right}
use native.Mathlib.Omega.{arith}
use mathlib.Core.Bool.{Bool, true, false, ◌||◌}
use mathlib.Core.List.{List, [], ◌∷◌}
use mathlib.Core.Logic.{◌⊎◌, inl, inr, ⊎_elim}
use mathlib.Core.Path.{◌≡◌, refl, sym, ap, ◌∙◌, subst}
use borrow.Author.Tests.{leb-true}
use lib.Dec.{leb}
use lib.ListN.{length, get_or, set, length-set}
use lib.Seq.{get_or-set_same, get_or-set_other}
use Rattle.cells.specs.Cells.{tab, part, put_from, put, table}

-- tables by a function ----------------------------------------------------------------------------------------------

pub tab-ext : {A : Type 0} (f g : ℕ → A) (n : ℕ) → ((i : ℕ) → i < n → f i ≡ g i) → tab f n ≡ tab g n
tab-ext f g zero e = refl
tab-ext f g (suc n) e =
    ap (λ x. x ∷ tab (λ (i : ℕ). f (suc i)) n) (e 0 (omega arith)) ∙ ap (λ l. g 0 ∷ l) (tab-ext (λ (i : ℕ). f (suc i)) (λ (i : ℕ). g (suc i)) n (λ i h. e (suc i) (omega arith)))

pub length-tab : {A : Type 0} (f : ℕ → A) (n : ℕ) → length (tab f n) ≡ n
length-tab f zero = refl
length-tab f (suc n) = ap suc (length-tab (λ (i : ℕ). f (suc i)) n)

pub get_d-tab : {A : Type 0} (f : ℕ → A) (n i : ℕ) (d : A) → i < n → get_or (tab f n) i d ≡ f i
get_d-tab f zero i d h = absurd (not-suc-le-zero h)
get_d-tab f (suc n) zero d h = refl
get_d-tab f (suc n) (suc i) d h = get_d-tab (λ (j : ℕ). f (suc j)) n i d (le_of_suc-le-suc h)

-- one place changed, whether it is among the n or not
pub tab-set : {A : Type 0} (f g : ℕ → A) (n i : ℕ) (x : A) → (i < n → g i ≡ x) → ((j : ℕ) → j < n → (j ≡ i → ⊥) → g j ≡ f j) → tab g n ≡ set (tab f n) i x
tab-set f g zero i x at else = refl
tab-set f g (suc n) zero x at else =
    ap (λ y. y ∷ tab (λ (i : ℕ). g (suc i)) n) (at (omega arith))
    ∙ ap (λ l. x ∷ l) (tab-ext (λ (i : ℕ). g (suc i)) (λ (i : ℕ). f (suc i)) n (λ i h. else (suc i) (omega arith) (λ e. omega arith)))
tab-set f g (suc n) (suc i) x at else =
    ap (λ y. y ∷ tab (λ (i : ℕ). g (suc i)) n) (else 0 (omega arith) (λ e. omega arith))
    ∙ ap (λ l. f 0 ∷ l) (tab-set (λ (j : ℕ). f (suc j)) (λ (j : ℕ). g (suc j)) n i x (λ h. at (omega arith)) (λ j h ne. else (suc j) (omega arith) (λ e. ne (omega arith))))

-- a run of stores ---------------------------------------------------------------------------------------------------

length-put_from : (w : List ℕ) (b i : ℕ) (xs : List ℕ) → length (put_from w b i xs) ≡ length w
length-put_from w b i [] = refl
length-put_from w b i (x ∷ xs) = length-put_from (set w (b + i) x) b (suc i) xs ∙ length-set w (b + i) x

-- outside of the run
put_from-out : (w : List ℕ) (b i : ℕ) (xs : List ℕ) (j : ℕ) → (j < b + i) ⊎ (b + i + length xs ≤ j) → get_or (put_from w b i xs) j 0 ≡ get_or w j 0
put_from-out w b i [] j o = refl
put_from-out w b i (x ∷ xs) j o =
    put_from-out (set w (b + i) x) b (suc i) xs j (⊎_elim (λ h. inl (omega arith)) (λ h. inr (omega arith)) o)
    ∙ get_or-set_other w (b + i) j x 0 (λ e. ⊎_elim (λ h. omega arith) (λ h. omega arith) o)

-- inside of it
put_from-in : (w : List ℕ) (b i : ℕ) (xs : List ℕ) (j : ℕ) → j < length xs → b + i + length xs ≤ length w → get_or (put_from w b i xs) (b + (i + j)) 0 ≡ get_or xs j 0
put_from-in w b i [] j h r = absurd (not-suc-le-zero h)
put_from-in w b i (x ∷ xs) zero h r =
    put_from-out (set w (b + i) x) b (suc i) xs (b + (i + 0)) (inl (omega arith))
    ∙ ap (λ (n : ℕ). get_or (set w (b + i) x) n 0) (omega arith)
    ∙ get_or-set_same w (b + i) x 0 (omega arith)
put_from-in w b i (x ∷ xs) (suc j) h r =
    ap (λ (n : ℕ). get_or (put_from (set w (b + i) x) b (suc i) xs) n 0) (omega arith)
    ∙ put_from-in (set w (b + i) x) b (suc i) xs j (omega arith) (omega (arith, length-set w (b + i) x))

pub length-put : (w : List ℕ) (b : ℕ) (xs : List ℕ) → length (put w b xs) ≡ length w
unfolding put
length-put w b xs = length-put_from w b 0 xs

pub put-out : (w : List ℕ) (b : ℕ) (xs : List ℕ) (j : ℕ) → (j < b) ⊎ (b + length xs ≤ j) → get_or (put w b xs) j 0 ≡ get_or w j 0
unfolding put
put-out w b xs j o = put_from-out w b 0 xs j (⊎_elim (λ h. inl (omega arith)) (λ h. inr (omega arith)) o)

-- parts -------------------------------------------------------------------------------------------------------------

-- a part that no store of the run meets
pub part-away : (w : List ℕ) (b : ℕ) (xs : List ℕ) (p k : ℕ) → (p + k ≤ b) ⊎ (b + length xs ≤ p) → part (put w b xs) p k ≡ part w p k
unfolding part
part-away w b xs p k o =
    tab-ext _ _ k (λ i h. put-out w b xs (p + i) (⊎_elim (λ a. inl (omega arith)) (λ a. inr (omega arith)) o))

list-is : (xs : List ℕ) → tab (λ (i : ℕ). get_or xs i 0) (length xs) ≡ xs
list-is [] = refl
list-is (x ∷ xs) = ap (λ l. x ∷ l) (list-is xs)

-- the part that was stored
pub part-put : (w : List ℕ) (b : ℕ) (xs : List ℕ) → b + length xs ≤ length w → part (put w b xs) b (length xs) ≡ xs
unfolding put part
part-put w b xs r =
    tab-ext _ (λ (i : ℕ). get_or xs i 0) (length xs) (λ i h. ap (λ (n : ℕ). get_or (put w b xs) (b + n) 0) (omega arith) ∙ put_from-in w b 0 xs i h (omega arith)) ∙ list-is xs

-- tables of elements ------------------------------------------------------------------------------------------------

apart : (j i : ℕ) → (j ≡ i → ⊥) → (j < i) ⊎ (i < j)
apart zero zero ne = absurd (ne refl)
apart zero (suc i) ne = inl (omega arith)
apart (suc j) zero ne = inr (omega arith)
apart (suc j) (suc i) ne = ⊎_elim (λ h. inl (omega arith)) (λ h. inr (omega arith)) (apart j i (λ e. ne (ap suc e)))

-- element i of those below n ends by where they all end
ends : (k : ℕ) {i n : ℕ} → i < n → i * k + k ≤ n * k
ends k {i} {n} h = subst (λ (m : ℕ). m ≤ n * k) (suc-mul i k) (mul-le-mul_right k h)

module _ {A : Type 0} (d : List ℕ → A) (w : List ℕ) (off k n : ℕ) where
  pub length-table : length (table d w off k n) ≡ n
  unfolding table
  length-table = length-tab _ n

  pub get_d-table : (i : ℕ) (e : A) → i < n → get_or (table d w off k n) i e ≡ d (part w (off + i * k) k)
  unfolding table
  get_d-table i e h = get_d-tab _ n i e h

  -- a run of stores elsewhere
  pub table-away : (b : ℕ) (xs : List ℕ) → (off + n * k ≤ b) ⊎ (b + length xs ≤ off) → table d (put w b xs) off k n ≡ table d w off k n
  unfolding table
  table-away b xs o =
      tab-ext _ _ n (λ i h. ap d (part-away w b xs (off + i * k) k (⊎_elim (λ a. inl (omega (arith, ends k h))) (λ a. inr (omega arith)) o)))

  -- an element stored: the list with it at its place; past the last, the same list
  pub table-put : (i : ℕ) (xs : List ℕ) → length xs ≡ k → off + n * k ≤ length w → table d (put w (off + i * k) xs) off k n ≡ set (table d w off k n) i (d xs)
  unfolding table
  table-put i xs e r =
      tab-set _ _ n i (d xs)
      (λ h. ap d (ap (part (put w (off + i * k) xs) (off + i * k)) (sym e) ∙ part-put w (off + i * k) xs (omega (arith, ends k h))))
      (λ j h ne. ap d (part-away w (off + i * k) xs (off + j * k) k (⊎_elim (λ a. inl (omega (arith, ends k a))) (λ a. inr (omega (arith, ends k a))) (apart j i ne))))

-- nothing but zeros -------------------------------------------------------------------------------------------------

pub part-zero : (w : List ℕ) (b k : ℕ) → ((j : ℕ) → j < k → get_or w (b + j) 0 ≡ 0) → part w b k ≡ tab (λ (i : ℕ). 0) k
unfolding part
part-zero w b k z = tab-ext _ _ k z

pub table-zero : {A : Type 0} (d : List ℕ → A) (w : List ℕ) (off k n : ℕ) → ((j : ℕ) → off ≤ j → j < off + n * k → get_or w j 0 ≡ 0)
    → table d w off k n ≡ tab (λ (i : ℕ). d (tab (λ (j : ℕ). 0) k)) n
unfolding table
table-zero d w off k n z = tab-ext _ _ n (λ i h. ap d (part-zero w (off + i * k) k (λ j less. z (off + i * k + j) (omega arith) (omega (arith, ends k h)))))

-- beside a region ---------------------------------------------------------------------------------------------------

-- k words from p on have none of the size words from off on
abbrev pub beside : ℕ → ℕ → ℕ → ℕ → Bool
beside off size p k = leb (p + k) off || leb (off + size) p

either : (a b : Bool) → (a || b) ≡ true → (a ≡ true) ⊎ (b ≡ true)
either true b e = inl refl
either false b e = inr e

apart_by : (off size p k : ℕ) → beside off size p k ≡ true → (p + k ≤ off) ⊎ (off + size ≤ p)
apart_by off size p k e =
    ⊎_elim (λ h. inl (leb-true _ _ h)) (λ h. inr (leb-true _ _ h)) (either (leb (p + k) off) (leb (off + size) p) e)

-- What a run of stores within a region leaves beside it. Where the numbers are known, `simp` finds the test true by itself.
module _ (w : List ℕ) (b : ℕ) (xs : List ℕ) (off size : ℕ) (low : off ≤ b) (high : b + length xs ≤ off + size) where
  pub part-beside : (p k : ℕ) → beside off size p k ≡ true → part (put w b xs) p k ≡ part w p k
  part-beside p k e =
      part-away w b xs p k (⊎_elim (λ h. inl (omega (arith, low))) (λ h. inr (omega (arith, high))) (apart_by off size p k e))

  pub word-beside : (p : ℕ) → beside off size p 1 ≡ true → get_or (put w b xs) p 0 ≡ get_or w p 0
  word-beside p e =
      put-out w b xs p (⊎_elim (λ h. inl (omega (arith, low))) (λ h. inr (omega (arith, high))) (apart_by off size p 1 e))

  pub table_beside : {A : Type 0} (d : List ℕ → A) (p k n : ℕ) → beside off size p (n * k) ≡ true → table d (put w b xs) p k n ≡ table d w p k n
  table_beside d p k n e =
      table-away d w p k n b xs (⊎_elim (λ h. inl (omega (arith, low))) (λ h. inr (omega (arith, high))) (apart_by off size p (n * k) e))

-- what was stored, read again -----------------------------------------------------------------------------------------

pub part-here : (w : List ℕ) (b : ℕ) (xs : List ℕ) (k : ℕ) → length xs ≡ k → b + k ≤ length w → part (put w b xs) b k ≡ xs
part-here w b xs k e h = ap (part (put w b xs) b) (sym e) ∙ part-put w b xs (omega (arith, e))

pub word-here : (w : List ℕ) (b x : ℕ) → b < length w → get_or (put w b (x ∷ [])) b 0 ≡ x
unfolding put
word-here w b x h = ap (λ (n : ℕ). get_or (set w n x) b 0) (add-zero b) ∙ get_or-set_same w b x 0 h

-- the first word of a part stored
pub part-first : (w : List ℕ) (b x m : ℕ) → 0 < m → b < length w → part (put w b (x ∷ [])) b m ≡ set (part w b m) 0 x
unfolding part
part-first w b x zero h r = absurd (not-suc-le-zero h)
part-first w b x (suc m) h r =
    ap (λ (y : ℕ). y ∷ tab (λ (j : ℕ). get_or (put w b (x ∷ [])) (b + suc j) 0) m) (ap (λ (n : ℕ). get_or (put w b (x ∷ [])) n 0) (add-zero b) ∙ word-here w b x r)
    ∙ ap (λ l. x ∷ l) (tab-ext _ _ m (λ j k. put-out w b (x ∷ []) (b + suc j) (inr (omega arith))))

-- .. and of a row
pub table-word : {A : Type 0} (d : List ℕ → A) (w : List ℕ) (off k n i x : ℕ) → i < n → 0 < k → off + n * k ≤ length w
    → table d (put w (off + i * k) (x ∷ [])) off k n ≡ set (table d w off k n) i (d (set (part w (off + i * k) k) 0 x))
unfolding table
table-word d w off k n i x less some r =
    tab-set _ _ n i (d (set (part w (off + i * k) k) 0 x)) (λ h. ap d (part-first w (off + i * k) x k some (omega (arith, ends k less))))
    (λ j h ne.
    ap d
    (part-away w (off + i * k) (x ∷ []) (off + j * k) k
    (⊎_elim (λ a. inl (omega (arith, ends k a))) (λ a. inr (omega (arith, ends k a, some))) (apart j i ne))))
