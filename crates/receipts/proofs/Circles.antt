-- A circle of n places: the front goes, one more comes at the end, and the element at a place. Over any capacity.
-- Assumes nothing.
use Prim.Native.Nat.{ℕ, zero, suc, ◌+◌, ◌-◌, ◌<◌, ◌≤◌, zero-le, suc-le-suc}
use native.Mathlib.Nat.{not-suc-le-zero, add-zero}
use native.Mathlib.Numerals.{add-one}
use native.Mathlib.Omega.{arith}
use mathlib.Core.Path.{◌≡◌, refl, sym, ap, ◌∙◌}
use mathlib.Core.Logic.{◌≢◌, ◌⊎◌, inl, inr, ⊎_elim}
use mathlib.Core.List.{List, [], ◌∷◌, ◌++◌}
use lib.ListN.{length, get_or, set}
use lib.Seq.{get_or-set_same, get_or-set_other}
use borrow.Author.Tests.{lt-ltb, le-ltb}
use Rattle.receipts.specs.declared.Circle.{Circle}
use Rattle.receipts.specs.Orders.{wrapped, around}
use Rattle.receipts.specs.Circles.{slots_of, place_at, longer_by, shorter_by}

pub lt-or-ge : (a b : ℕ) → (a < b) ⊎ (b ≤ a)
lt-or-ge a zero = inr zero-le
lt-or-ge zero (suc b) = inl (suc-le-suc zero-le)
lt-or-ge (suc a) (suc b) = ⊎_elim (λ l. inl (suc-le-suc l)) (λ g. inr (suc-le-suc g)) (lt-or-ge a b)

module _ (n i : ℕ) where
  pub wrapped-low : i < n → wrapped n i ≡ i
  wrapped-low h = rw (lt-ltb i n h)

  pub wrapped-high : n ≤ i → wrapped n i ≡ i - n
  wrapped-high h = rw (le-ltb i n h)

  pub wrapped-below : i < n + n → wrapped n i < n
  wrapped-below h = ⊎_elim (λ (l : i < n). omega (arith, wrapped-low l)) (λ (g : n ≤ i). omega (arith, wrapped-high g)) (lt-or-ge i n)

module _ (n head : ℕ) (h : head < n) where
  pub next-below : wrapped n (head + 1) < n
  next-below = wrapped-below n (head + 1) (omega arith)

  -- a place of the circle, seen from its second
  wrapped-shift : (k : ℕ) → k < n → wrapped n (wrapped n (head + 1) + k) ≡ wrapped n (head + suc k)
  wrapped-shift k l =
      ⊎_elim
      (λ (a : head + 1 < n). let e : head + 1 + k ≡ head + suc k = omega arith in rw (wrapped-low n (head + 1) a, e))
      (λ (g : n ≤ head + 1).
      let e : wrapped n (head + 1) + k ≡ k = omega (arith, wrapped-high n (head + 1) g) in
      rw e (wrapped-low n k l ∙ sym (wrapped-high n (head + suc k) (omega arith) ∙ omega arith)))
      (lt-or-ge (head + 1) n)

  wrapped-apart : (k : ℕ) → suc k < n → head ≢ wrapped n (head + suc k)
  wrapped-apart k l e =
      ⊎_elim
      (λ (a : head + suc k < n). omega (arith, wrapped-low n (head + suc k) a))
      (λ (g : n ≤ head + suc k). omega (arith, wrapped-high n (head + suc k) g))
      (lt-or-ge (head + suc k) n)

module _ (store : List ℕ) (n : ℕ) where
  pub around-length : (head count : ℕ) → length (around store n head count) ≡ count
  unfolding around
  around-length head zero = refl
  around-length head (suc count) = ap suc (around-length (wrapped n (head + 1)) count)

  -- a store at the end
  pub around-push : (end x : ℕ) → end < length store → (head count : ℕ) → head < n → count < n → end ≡ wrapped n (head + count)
      → around (set store end x) n head (suc count) ≡ around store n head count ++ (x ∷ [])
  unfolding around
  around-push end x inside head zero h l e =
      let e' : head ≡ end = omega (arith, wrapped-low n (head + 0) (omega arith)) in rw (e', get_or-set_same store end x 0 inside)
  around-push end x inside head (suc count) h l e =
      let k : head ≢ end = λ q. wrapped-apart n head h count l (omega arith) in
      let t : wrapped n (wrapped n (head + 1) + count) ≡ wrapped n (head + suc count) = wrapped-shift n head h count (omega arith) in
      rw (get_or-set_other store end head x 0 k)
      (ap (λ (l : List ℕ). get_or store head 0 ∷ l)
      (around-push end x inside (wrapped n (head + 1)) count (next-below n head h) (omega arith) (omega arith)))

  -- the element at a place from the front
  pub around-at : (head count k : ℕ) → head < n → count ≤ n → k < count
      → get_or store (wrapped n (head + k)) 0 ≡ get_or (around store n head count) k 0
  unfolding around
  around-at head zero k h l m = absurd (not-suc-le-zero m)
  around-at head (suc count) zero h l m =
      let e : wrapped n (head + 0) ≡ head = wrapped-low n (head + 0) (omega arith) ∙ add-zero head in rw e
  around-at head (suc count) (suc k) h l m =
      rw (← wrapped-shift n head h k (omega arith))
      (around-at (wrapped n (head + 1)) count k (next-below n head h) (omega arith) (omega arith))

  -- the front goes
  pub around-pop : (head count k : ℕ) → count ≡ suc k → around store n head count ≡ get_or store head 0 ∷ around store n (wrapped n (head + 1)) k
  unfolding around
  around-pop head count k e = rw e

-- at 64 --------------------------------------------------------------------------------------------------------------

pub place-below : (c : Circle) (k : ℕ) → c.head < 64 → k ≤ 64 → place_at c k < 64
place-below c k h l = wrapped-below 64 (c.head + k) (omega arith)

module _ (c : Circle) (store : List ℕ) where
  pub slots_length : length (slots_of c store) ≡ c.count
  unfolding slots_of
  slots_length = around-length store 64 c.head c.count

  pub slots-shorter : 0 < c.count → slots_of c store ≡ get_or store c.head 0 ∷ slots_of (shorter_by c) store
  unfolding slots_of
  slots-shorter h = around-pop store 64 c.head c.count (c.count - 1) (omega arith)

  module _ (h : c.head < 64) where
    pub slot_at : (k : ℕ) → c.count ≤ 64 → k < c.count → get_or store (place_at c k) 0 ≡ get_or (slots_of c store) k 0
    unfolding slots_of
    slot_at k w l = around-at store 64 c.head c.count k h w l

    pub slots-longer : (slot : ℕ) → length store ≡ 64 → c.count < 64
        → slots_of (longer_by c) (set store (place_at c c.count) slot) ≡ slots_of c store ++ (slot ∷ [])
    unfolding slots_of
    slots-longer slot l k =
        rw (add-one c.count)
        (around-push store 64 (place_at c c.count) slot (omega (arith, place-below c c.count h (omega arith))) c.head c.count h k refl)
