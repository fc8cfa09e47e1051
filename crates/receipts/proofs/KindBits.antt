-- The bits of a number as a list of kinds, the lowest last: one more, the oldest that is set taken out, and the kind at a place.
-- Assumes nothing.
use Prim.Native.Nat.{ℕ, zero, suc, ◌+◌, ◌-◌, ◌*◌, ◌/◌, ◌%◌, ◌^◌, ◌<◌, ◌≤◌}
use native.Mathlib.Nat.{pow-succ', not-suc-le-zero, le_of_suc-le-suc, le_refl, one-mul, add-suc, add-zero, div-one}
use native.Mathlib.Numerals.{add-one}
use native.Mathlib.Omega.{arith}
use mathlib.Core.Path.{◌≡◌, refl, sym, ap, ◌∙◌}
use mathlib.Core.Logic.{⊎_elim}
use mathlib.Core.Bool.{Bool, true, false}
use mathlib.Core.List.{List, [], ◌∷◌, ◌++◌}
use lib.ListN.{length, get_or, take, length-append, replicate}
use lib.Seq.{take_all, take_at, take-take, take-append-le, get_or_at, get_or-take}
use lib.Pow.{shl_exact, shr-shr, shr_lt, pow_mono}
use lib.Count.{count_leading_zeros, leading_top, ones, ones_step, ones_in}
use lib.Dec.{eqb}
use Rattle.receipts.specs.Orders.{kinds_of, trues, odd, Top}
use Rattle.receipts.proofs.Circles.{lt-or-ge}

pub kinds-length : (c x : ℕ) → length (kinds_of c x) ≡ c
unfolding kinds_of
kinds-length zero x = refl
kinds-length (suc c) x =
    length-append (kinds_of c (x / 2)) (odd x ∷ []) ∙ ap (λ (n : ℕ). n + 1) (kinds-length c (x / 2)) ∙ add-one c

pub trues-append : (xs ys : List Bool) → trues (xs ++ ys) ≡ trues xs + trues ys
trues-append [] ys = omega arith
trues-append (true ∷ xs) ys = let e = trues-append xs ys in omega arith
trues-append (false ∷ xs) ys = trues-append xs ys

pub trues-one : (x : ℕ) → trues (odd x ∷ []) ≡ x % 2
trues-one x = two (x % 2) (omega arith)
  where
    two : (k : ℕ) → k < 2 → trues (eqb k 1 ∷ []) ≡ k
    two zero h = refl
    two (suc zero) h = refl
    two (suc (suc k)) h = absurd (omega arith)

-- one more -----------------------------------------------------------------------------------------------------------

module _ (c x : ℕ) where
  pub kinds-rejection : kinds_of (suc c) (x * 2 + 1) ≡ kinds_of c x ++ (true ∷ [])
  unfolding kinds_of
  kinds-rejection =
      let e : (x * 2 + 1) / 2 ≡ x = omega arith in let o : (x * 2 + 1) % 2 ≡ 1 = omega arith in rw (e, o)

  pub kinds-other : kinds_of (suc c) (x * 2) ≡ kinds_of c x ++ (false ∷ [])
  unfolding kinds_of
  kinds-other = let e : x * 2 / 2 ≡ x = omega arith in let o : x * 2 % 2 ≡ 0 = omega arith in rw (e, o)

-- none is set --------------------------------------------------------------------------------------------------------

snoc-replicate : (c : ℕ) → replicate c false ++ (false ∷ []) ≡ replicate (suc c) false
snoc-replicate zero = refl
snoc-replicate (suc c) = ap (λ (l : List Bool). false ∷ l) (snoc-replicate c)

pub kinds-none : (c : ℕ) → kinds_of c 0 ≡ replicate c false
unfolding kinds_of
kinds-none zero = refl
kinds-none (suc c) = rw (kinds-none c) (snoc-replicate c)

pub trues-none : (c : ℕ) → trues (replicate c false) ≡ 0
trues-none zero = refl
trues-none (suc c) = trues-none c

-- the number is 0 exactly where no kind is set
pub kinds-zero : (c x : ℕ) → x < 2 ^ c → trues (kinds_of c x) ≡ 0 → x ≡ 0
unfolding kinds_of
kinds-zero zero x h e = omega arith
kinds-zero (suc c) x h e =
    let t = trues-append (kinds_of c (x / 2)) (odd x ∷ []) in
    let b = trues-one x in
    omega (arith, kinds-zero c (x / 2) (omega (arith, pow-succ' 2 c)) (omega arith))

pub kinds-positive : (c x k : ℕ) → trues (kinds_of c x) ≡ suc k → 0 < x
kinds-positive c zero k e = absurd (omega (arith, ap trues (kinds-none c), trues-none c))
kinds-positive c (suc x) k e = omega arith

-- the oldest that is set ---------------------------------------------------------------------------------------------

abbrev pub without_first : List Bool → List Bool
without_first [] = []
without_first (true ∷ bs) = bs
without_first (false ∷ bs) = false ∷ without_first bs

first-append : (xs ys : List Bool) → 0 < trues xs → without_first (xs ++ ys) ≡ without_first xs ++ ys
first-append [] ys h = absurd (not-suc-le-zero h)
first-append (true ∷ xs) ys h = refl
first-append (false ∷ xs) ys h = ap (λ (l : List Bool). false ∷ l) (first-append xs ys h)

first-none : (xs : List Bool) → trues xs ≡ 0 → without_first (xs ++ (true ∷ [])) ≡ xs
first-none [] h = refl
first-none (true ∷ xs) h = absurd (omega arith)
first-none (false ∷ xs) h = ap (λ (l : List Bool). false ∷ l) (first-none xs h)

pub trues-first : (bs : List Bool) (k : ℕ) → trues bs ≡ suc k → trues (without_first bs) ≡ k
trues-first [] k h = absurd (omega arith)
trues-first (true ∷ bs) k h = omega arith
trues-first (false ∷ bs) k h = trues-first bs k h

module _ (j x : ℕ) (low : 2 ^ suc j ≤ x) (high : x < 2 ^ suc (suc j)) where
  half-low : 2 ^ j ≤ x / 2
  half-low = omega (arith, pow-succ' 2 j)

  half_high : x / 2 < 2 ^ suc j
  half_high = omega (arith, pow-succ' 2 (suc j))

  half-rest : (x - 2 ^ suc j) / 2 ≡ x / 2 - 2 ^ j
  half-rest = omega (arith, pow-succ' 2 j)

  odd-rest : (x - 2 ^ suc j) % 2 ≡ x % 2
  odd-rest = omega (arith, pow-succ' 2 j)

kinds-some : (j c x : ℕ) → 2 ^ j ≤ x → x < 2 ^ suc j → j ≤ c → 0 < trues (kinds_of (suc c) x)
unfolding kinds_of
kinds-some zero c x low high h = let e : x ≡ 1 = omega arith in rw (e, trues-append) (omega arith)
kinds-some (suc j) zero x low high h = absurd (not-suc-le-zero h)
kinds-some (suc j) (suc c) x low high h =
    let ih = kinds-some j c (x / 2) (half-low j x low high) (half_high j x low high) (le_of_suc-le-suc h) in
    omega (arith, trues-append (kinds_of (suc c) (x / 2)) (odd x ∷ []))

kinds-without : (j c x : ℕ) → 2 ^ j ≤ x → x < 2 ^ suc j → j ≤ c → kinds_of c (x - 2 ^ j) ≡ without_first (kinds_of (suc c) x)
unfolding kinds_of
kinds-without zero c x low high h =
    let e : x ≡ 1 = omega arith in rw e (sym (first-none (kinds_of c 0) (ap trues (kinds-none c) ∙ trues-none c)))
kinds-without (suc j) zero x low high h = absurd (not-suc-le-zero h)
kinds-without (suc j) (suc c) x low high h =
    let l = half-low j x low high in
    let g = half_high j x low high in
    rw (half-rest j x low high, odd-rest j x low high)
    (ap (λ (l : List Bool). l ++ (odd x ∷ [])) (kinds-without j c (x / 2) l g (le_of_suc-le-suc h))
    ∙ sym (first-append (kinds_of (suc c) (x / 2)) (odd x ∷ []) (kinds-some j c (x / 2) l g (le_of_suc-le-suc h))))

module _ (c x t : ℕ) (top : Top x t) (h : x < 2 ^ suc c) where
  place-below : top.place ≤ c
  place-below =
      ⊎_elim (λ (l : top.place < suc c). omega arith) (λ (g : suc c ≤ top.place). absurd (omega (arith, top.low, pow_mono g)))
      (lt-or-ge top.place (suc c))

  -- without its highest bit
  pub kinds-drop : kinds_of c (x - t) ≡ without_first (kinds_of (suc c) x)
  kinds-drop = rw top.power (kinds-without top.place c x top.low top.high place-below)

  pub drop-small : x - t < 2 ^ c
  drop-small = omega (arith, top.power, top.low, top.high, pow-succ' 2 top.place, pow_mono place-below)

module _ (x : ℕ) (h : 0 < x) (l : x < 2 ^ 64) where
  pub top-place : count_leading_zeros 64 x ≤ 63
  top-place = let t = leading_top 64 x h l in omega (arith, t.1)

  pub top_of : Top x ((1 * 2 ^ (63 - count_leading_zeros 64 x)) % 2 ^ 64)
  top_of =
      let t = leading_top 64 x h l in
      let e : 63 - count_leading_zeros 64 x ≡ t.0 = omega (arith, t.1) in
      record {
        place = t.0;
        power = rw e (shl_exact {a = 1} 1 t.0 64 (omega arith) (omega (arith, t.1)) ∙ one-mul (2 ^ t.0));
        low = t.2;
        high = t.3;
      }

-- the kind at a place, and how many are set before it ----------------------------------------------------------------

kinds-front : (at e x : ℕ) → take at (kinds_of (at + e) x) ≡ kinds_of at (x / 2 ^ e)
unfolding kinds_of
kinds-front at zero x = rw (add-zero at, div-one x) (take_all at (kinds_of at x) (omega (arith, kinds-length at x)))
kinds-front at (suc e) x =
    rw (add-suc at e, take-append-le at (kinds_of (at + e) (x / 2)) (odd x ∷ []) (omega (arith, kinds-length (at + e) (x / 2))))
    (kinds-front at e (x / 2) ∙ ap (kinds_of at) (shr-shr x 1 e ∙ ap (λ (k : ℕ). x / 2 ^ k) (omega arith)))

module _ (at e x : ℕ) where
  abbrev upto : ℕ
  upto = x / 2 ^ e

  next-front : take (suc at) (kinds_of (suc at + e) x) ≡ kinds_of at (upto / 2) ++ (odd upto ∷ [])
  unfolding kinds_of
  next-front = kinds-front (suc at) e x

  kinds-at : get_or (kinds_of (suc at + e) x) at false ≡ odd upto
  kinds-at =
      sym (get_or-take (suc at) (kinds_of (suc at + e) x) at false (le_refl (suc at)))
      ∙ ap (λ (l : List Bool). get_or l at false) next-front
      ∙ get_or_at (kinds_of at (upto / 2)) (odd upto) [] false at (kinds-length at (upto / 2))

  kinds-older : take at (kinds_of (suc at + e) x) ≡ kinds_of at (upto / 2)
  kinds-older =
      sym (take-take at (suc at) (kinds_of (suc at + e) x) (omega arith)) ∙ ap (take at) next-front
      ∙ take_at (kinds_of at (upto / 2)) (odd upto ∷ []) at (kinds-length at (upto / 2))

pub trues-ones : (c x : ℕ) → x < 2 ^ c → trues (kinds_of c x) ≡ ones x
unfolding kinds_of ones ones_in
trues-ones zero x h = let e : x ≡ 0 = omega arith in rw e
trues-ones (suc c) x h =
    omega (arith, trues-append (kinds_of c (x / 2)) (odd x ∷ []), trues-one x, ones_step x, trues-ones c (x / 2) (omega (arith, pow-succ' 2 c)))

older-ones : (at e x : ℕ) → x < 2 ^ (suc at + e) → trues (take at (kinds_of (suc at + e) x)) ≡ ones (x / 2 ^ e / 2)
older-ones at e x h =
    ap trues (kinds-older at e x) ∙ trues-ones at (x / 2 ^ e / 2) (omega (arith, shr_lt {n = x} (suc at) e h, pow-succ' 2 at))

-- of c kinds, e of them newer than the one at a place
module _ (c at e x : ℕ) (q : c ≡ suc at + e) where
  pub kind_at : get_or (kinds_of c x) at false ≡ odd (x / 2 ^ e)
  kind_at = rw q (kinds-at at e x)

  pub older-at : x < 2 ^ c → trues (take at (kinds_of c x)) ≡ ones (x / 2 ^ e / 2)
  older-at h = rw q (older-ones at e x (rw q at h))
