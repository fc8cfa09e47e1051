-- Facts about any Bool, Option or list. Assumes nothing.
use mathlib.Core.Bool.{Bool, true, false, cond, ◌||◌, true≢false, or_assoc}
use mathlib.Core.List.{List, [], ◌∷◌, ◌++◌}
use mathlib.Core.Logic.{◌⊎◌, inl, inr, ⊎_elim}
use Rattle.std.specs.Prelude.{Option, Some, None}
use Rattle.model.proofs.Options.{some-ne-none}
use mathlib.Core.Path.{◌≡◌, refl, sym, ap, ◌∙◌}
use Rattle.model.specs.Lists.{any}
use Rattle.rules.specs.Lists.{Mem}

-- `||` is false where both its sides are
pub neither : (a b : Bool) → (a || b) ≡ false → (a ≡ false) × (b ≡ false)
neither true b e = absurd (true≢false e)
neither false b e = (refl, e)

-- a chain of tests ends in none where the first test fails and the rest ends in none
pub cond-none : {A : Type 0} (t : Bool) (a : A) (o : Option A) → cond t (Some a) o ≡ None → (t ≡ false) × (o ≡ None)
cond-none true a o e = absurd (some-ne-none a e)
cond-none false a o e = (refl, e)

pub any_append : {A : Type 0} (p : A → Bool) (l m : List A) → any p (l ++ m) ≡ (any p l || any p m)
any_append p [] m = refl
any_append p (a ∷ l) m = ap (λ t. p a || t) (any_append p l m) ∙ sym (or_assoc (p a) (any p l) (any p m))

-- and true where one of them is
pub one_of : (a b : Bool) → (a || b) ≡ true → (a ≡ true) ⊎ (b ≡ true)
one_of true b e = inl refl
one_of false b e = inr e

pub or_right : (a b : Bool) → b ≡ true → (a || b) ≡ true
or_right true b e = refl
or_right false b e = e

-- an element of two lists together
module _ {A : Type 0} (a : A) where
  pub mem-left : (l m : List A) → Mem a l → Mem a (l ++ m)
  mem-left [] m k = absurd k
  mem-left (x ∷ l) m (inl e) = inl e
  mem-left (x ∷ l) m (inr k) = inr (mem-left l m k)

  pub mem-right : (l m : List A) → Mem a m → Mem a (l ++ m)
  mem-right [] m k = k
  mem-right (x ∷ l) m k = inr (mem-right l m k)

  pub mem-split : (l m : List A) → Mem a (l ++ m) → Mem a l ⊎ Mem a m
  mem-split [] m k = inr k
  mem-split (x ∷ l) m (inl e) = inl (inl e)
  mem-split (x ∷ l) m (inr k) = ⊎_elim (λ n. inl (inr n)) inr (mem-split l m k)
