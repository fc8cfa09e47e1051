-- A circle of places, for any number of them. Assumes nothing.
use Prim.Native.Nat.{ℕ, suc, ◌+◌, ◌-◌, ◌%◌, ◌<◌, ◌≤◌}
use mathlib.Core.Path.{◌≡◌, sym, ap, ◌∙◌}
use mathlib.Core.List.{List, [], ◌∷◌, ◌++◌, reverse, reverse-append, reverse-cons, append_assoc, append-nil}
use native.Mathlib.Decide.{dec_lt}
use native.Mathlib.Numerals.{add-one}
use native.Mathlib.Nat.{mod-eq_of_lt, mod_self, add-mod_right}
use native.Mathlib.Omega.{arith}
use lib.ListN.{length, get_or, take, drop, set, replicate, length-append, length-drop, length-reverse, length-replicate, take-append-drop, drop_of_length-le, get_or-append, get_or-replicate}
use lib.Seq.{drop-cons, set_split, take-suc-set, drop-set-lt, take_at, get_or_at, get_or-append-add, get_or-take, get_or-drop, length-take-le, ext_get_or}
use Rattle.replay.specs.Ring.{backwards}

-- the place i steps before the one before c: below c, or from the last one down
module _ (m c i : ℕ) where
  below : i < c → c ≤ m → (c + m - i) % suc m ≡ c - suc i
  below k h =
      ap (λ (x : ℕ). x % suc m) (omega arith)
      ∙ add-mod_right (c - suc i) (suc m)
      ∙ mod-eq_of_lt (omega arith)

  around : c ≤ i → i ≤ m → (c + m - i) % suc m ≡ c + m - i
  around k h = mod-eq_of_lt (omega arith)

module _ {A : Type 0} where
  pub length-backwards : (l : List A) (c : ℕ) → length (backwards l c) ≡ length l
  unfolding backwards
  length-backwards l c =
      length-append (reverse (take c l)) (reverse (drop c l))
      ∙ (simp length-reverse (sym (length-append (take c l) (drop c l)) ∙ ap length (take-append-drop c l)))

  get_d_reverse : (l : List A) (i : ℕ) (d : A) → i < length l → get_or (reverse l) i d ≡ get_or l (length l - suc i) d
  get_d_reverse [] i d h = absurd (omega arith)
  get_d_reverse (x ∷ l) i d h = ap (λ (r : List A). get_or r i d) (reverse-cons x l) ∙ by_cases (dec_lt i (length l)) (get_d_reverse l i d)
    where
      by_cases : Dec (i < length l)
          → (i < length l → get_or (reverse l) i d ≡ get_or l (length l - suc i) d)
          → get_or (reverse l ++ (x ∷ [])) i d ≡ get_or (x ∷ l) (suc (length l) - suc i) d
      by_cases (yes k) ih =
          let e : suc (length l) - suc i ≡ suc (length l - suc i) = omega arith in
          get_or-append (reverse l) (x ∷ []) d i (rw length-reverse k) ∙ ih k ∙ rw e
      by_cases (no k) ih =
          let e : suc (length l) - suc i ≡ 0 = omega (arith, k) in
          get_or_at (reverse l) x [] d i (length-reverse l ∙ omega (arith, k)) ∙ rw e

  -- a walk around a circle of places that are all alike
  pub backwards-alike : (n : ℕ) (a : A) → backwards (replicate n a) 0 ≡ replicate n a
  unfolding backwards
  backwards-alike n a =
      ext_get_or a (reverse (replicate n a)) (replicate n a) (length-reverse (replicate n a)) λ i h.
      let k : i < n = omega (arith, length-reverse (replicate n a), length-replicate n a) in
      get_d_reverse (replicate n a) i a (omega (arith, length-replicate n a))
      ∙ get_or-replicate n (length (replicate n a) - suc i) a a (omega (arith, length-replicate n a))
      ∙ sym (get_or-replicate n i a a k)

  module _ (m : ℕ) (l : List A) (n : length l ≡ suc m) (c : ℕ) (h : c < suc m) where
    first : length (take c l) ≡ c
    first = length-take-le c l (omega arith)

    -- the place that a walk backwards reaches after i steps
    backwards-at : (i : ℕ) (d : A) → i < suc m → get_or (backwards l c) i d ≡ get_or l ((c + m - i) % suc m) d
    unfolding backwards
    backwards-at i d k = by_cases (dec_lt i c)
      where
        by_cases : Dec (i < c) → get_or (reverse (take c l) ++ reverse (drop c l)) i d ≡ get_or l ((c + m - i) % suc m) d
        by_cases (yes j) =
            get_or-append (reverse (take c l)) (reverse (drop c l)) d i (rw (length-reverse, first) j)
            ∙ get_d_reverse (take c l) i d (rw first j)
            ∙ ap (λ (x : ℕ). get_or (take c l) (x - suc i) d) first
            ∙ get_or-take c l (c - suc i) d (omega arith)
            ∙ ap (λ (x : ℕ). get_or l x d) (sym (below m c i j (omega arith)))
        by_cases (no j) =
            let e : i ≡ length (reverse (take c l)) + (i - c) = omega (arith, j, length-reverse (take c l), first) in
            let s : length (drop c l) ≡ suc m - c = length-drop c l ∙ ap (λ (x : ℕ). x - c) n in
            ap (λ (x : ℕ). get_or (reverse (take c l) ++ reverse (drop c l)) x d) e
            ∙ get_or-append-add (reverse (take c l)) (reverse (drop c l)) (i - c) d
            ∙ get_d_reverse (drop c l) (i - c) d (omega (arith, j))
            ∙ get_or-drop c l (length (drop c l) - suc (i - c)) d
            ∙ ap (λ (x : ℕ). get_or l x d) ((omega (arith, j)) ∙ sym (around m c i (omega (arith, j)) (omega arith)))

    -- what is left of the walk after i steps
    pub backwards-from : (i : ℕ) (d : A) → i < suc m → drop i (backwards l c) ≡ get_or l ((c + m - i) % suc m) d ∷ drop (i + 1) (backwards l c)
    backwards-from i d k =
        rw (add-one, ← backwards-at i d k) (drop-cons (backwards l c) i d (rw (length-backwards, n) k))

    -- a store at the cursor, and a step of the cursor: the last place of the walk is gone, and the new one is its first
    pub backwards-set : (a : A) → backwards (set l c a) ((c + 1) % suc m) ≡ a ∷ take m (backwards l c)
    unfolding backwards
    backwards-set a =
        stepped (dec_lt (c + 1) (suc m)) ∙ ap (λ (r : List A). a ∷ r) (sym (ap (take m) old ∙ take_at rest (get_or l c a ∷ []) m all_but_one))
      where
        rest : List A
        rest = reverse (take c l) ++ reverse (drop (suc c) l)

        old : reverse (take c l) ++ reverse (drop c l) ≡ rest ++ (get_or l c a ∷ [])
        old =
            ap (λ (r : List A). reverse (take c l) ++ reverse r) (drop-cons l c a (omega arith))
            ∙ ap (λ (r : List A). reverse (take c l) ++ r) (reverse-cons (get_or l c a) (drop (suc c) l))
            ∙ sym (append_assoc (reverse (take c l)) (reverse (drop (suc c) l)) (get_or l c a ∷ []))

        all_but_one : length rest ≡ m
        all_but_one =
            length-append (reverse (take c l)) (reverse (drop (suc c) l))
            ∙ simp (length-reverse, first, length-drop) (omega arith)

        stepped : Dec (c + 1 < suc m)
            → reverse (take ((c + 1) % suc m) (set l c a)) ++ reverse (drop ((c + 1) % suc m) (set l c a)) ≡ a ∷ rest
        stepped (yes j) =
            let e : (c + 1) % suc m ≡ suc c = mod-eq_of_lt j ∙ add-one c in
            ap (λ (x : ℕ). reverse (take x (set l c a)) ++ reverse (drop x (set l c a))) e
            ∙ ap (λ (r : List A). reverse r ++ reverse (drop (suc c) (set l c a))) (take-suc-set l c a (omega arith))
            ∙ ap (λ (r : List A). r ++ reverse (drop (suc c) (set l c a))) (reverse-append (take c l) (a ∷ []))
            ∙ ap (λ (r : List A). a ∷ (reverse (take c l) ++ reverse r)) (drop-set-lt (suc c) l c a (omega arith))
        stepped (no j) =
            let e : (c + 1) % suc m ≡ 0 = ap (λ (x : ℕ). x % suc m) (omega (arith, j)) ∙ mod_self (suc m) in
            let z : drop (suc c) l ≡ [] = drop_of_length-le l {i = suc c} (omega (arith, j)) in
            ap (λ (x : ℕ). reverse (take x (set l c a)) ++ reverse (drop x (set l c a))) e
            ∙ ap (λ (r : List A). reverse r) (set_split l c a (omega arith))
            ∙ reverse-append (take c l) (a ∷ drop (suc c) l)
            ∙ ap (λ (r : List A). reverse (a ∷ r) ++ reverse (take c l)) z
            ∙ sym (ap (λ (r : List A). a ∷ (reverse (take c l) ++ reverse r)) z ∙ ap (λ (r : List A). a ∷ r) (append-nil (reverse (take c l))))
