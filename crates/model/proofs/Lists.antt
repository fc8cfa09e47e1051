-- Tests over a list, as a loop makes them: from a place on, an element at a time. Assumes nothing.
use Prim.Native.Nat.{ℕ, ◌+◌, ◌<◌, ◌≤◌, min}
use mathlib.Core.Path.{◌≡◌, ap}
use mathlib.Core.Bool.{Bool, true, false, ◌&&◌, and-true}
use mathlib.Core.List.{List, [], ◌∷◌}
use native.Mathlib.Numerals.{add-one}
use native.Mathlib.Omega.{arith}
use lib.ListN.{length, get_or, take, drop, drop_of_length-le, length-take}
use lib.Seq.{drop-cons, get_or-take}
use Rattle.model.specs.Lists.{all, any, every}

module _ {A : Type 0} (p : A → Bool) (l : List A) where
  module _ (i : ℕ) (d : A) (h : i < length l) where
    pub all-stop : p (get_or l i d) ≡ false → all p (drop i l) ≡ false
    all-stop e = rw (drop-cons l i d h, e)

    pub all_pass : p (get_or l i d) ≡ true → all p (drop i l) ≡ all p (drop (i + 1) l)
    all_pass e = rw (drop-cons l i d h, add-one, e)

    pub any-hit : p (get_or l i d) ≡ true → any p (drop i l) ≡ true
    any-hit e = rw (drop-cons l i d h, e)

    pub any-miss : p (get_or l i d) ≡ false → any p (drop i l) ≡ any p (drop (i + 1) l)
    any-miss e = rw (drop-cons l i d h, add-one, e)

  pub all_end : (i : ℕ) → length l ≤ i → all p (drop i l) ≡ true
  all_end i h = rw (drop_of_length-le l h)

  pub any-end : (i : ℕ) → length l ≤ i → any p (drop i l) ≡ false
  any-end i h = rw (drop_of_length-le l h)

-- over the first `count` elements
module _ {A : Type 0} (p : A → Bool) (l : List A) (count i : ℕ) where
  module _ (d : A) (h : i < length l) (k : i < count) where
    within : i < length (take count l)
    within = simp length-take (omega arith)

    pub first-hit : p (get_or l i d) ≡ true → any p (drop i (take count l)) ≡ true
    first-hit e = any-hit p (take count l) i d within (rw (get_or-take count l i d k) e)

    pub first-miss : p (get_or l i d) ≡ false → any p (drop i (take count l)) ≡ any p (drop (i + 1) (take count l))
    first-miss e = any-miss p (take count l) i d within (rw (get_or-take count l i d k) e)

  pub first-end : min count (length l) ≤ i → any p (drop i (take count l)) ≡ false
  first-end h = any-end p (take count l) i (simp length-take h)

pub all_two : {A : Type 0} (p : A → Bool) (l : List A) (d : A) → length l ≡ 2 → all p l ≡ (p (get_or l 0 d) && p (get_or l 1 d))
all_two p [] d n = absurd (omega arith)
all_two p (a ∷ []) d n = absurd (omega arith)
all_two p (a ∷ b ∷ []) d n = ap (λ (t : Bool). p a && t) (and-true (p b))
all_two p (a ∷ b ∷ x ∷ l) d n = absurd (omega arith)

-- a list of conditions: past one that holds, at one that does not, and at the last
pub passed : {a : Bool} (l : List Bool) → a ≡ true → every (a ∷ l) ≡ every l
unfolding every
passed l e = rw e

pub stopped : {a : Bool} (l : List Bool) → a ≡ false → every (a ∷ l) ≡ false
unfolding every
stopped l e = rw e

pub last : (a : Bool) → every (a ∷ []) ≡ a
unfolding every
last a = and-true a
