-- How the code's tests read. Assumes nothing.
use Prim.Native.Nat.{ℕ, zero, suc, ◌-◌, ◌^◌, ◌<◌, ◌≤◌, zero-le}
use mathlib.Core.Path.{◌≡◌, refl, sym, ◌∙◌, subst⁻¹}
use mathlib.Core.Bool.{Bool, true, false, ◌&&◌}
use native.Mathlib.Omega.{arith}
use borrow.Author.Tests.{ne_eqb, le-leb}
use lib.Dec.{eqb, leb}
use lib.IntN.{ℤ, pos, negsuc, nat_abs}
use lib.Signed.{le_z}
use mir.Facts.{to_z-of_z}
use mir.Syntax.{Width, w32}
use mir.Val.{SFits, to_z, of_z}

-- `&&`: its second operand where the first holds, false where it doesn't
pub and-when : {x a b : Bool} → a ≡ true → x ≡ b → x ≡ (a && b)
and-when {x} {a} {b} h e = subst⁻¹ (λ (t : Bool). x ≡ (t && b)) h e

pub and-unless : {x a : Bool} (b : Bool) → a ≡ false → x ≡ false → x ≡ (a && b)
and-unless {x} {a} b h e = subst⁻¹ (λ (t : Bool). x ≡ (t && b)) h e

pub and_both : (a b : Bool) → (a && b) ≡ true → (a ≡ true) × (b ≡ true)
and_both true b e = (refl, e)
and_both false b e = absurd (apart e)
  where
    apart : false ≡ true → ⊥
    apart e = let z : ◌≡◌ {A = ℕ} 0 1 = cc in omega arith

pub positive : (n : ℕ) → (n ≡ 0 → ⊥) → leb 1 n ≡ true
positive n h = le-leb 1 n (omega (arith, h))

-- what the last arm of a `match` on a number is told: that none of the numbers below k matched
abbrev NoneBelow : ℕ → ℕ → Type 0
NoneBelow zero n = Unit
NoneBelow (suc k) n = NoneBelow k n × (n ≡ k → ⊥)

one_more : {k n : ℕ} → k ≤ n → (n ≡ k → ⊥) → suc k ≤ n
one_more h e = omega (arith, e)

pub none_below : (k n : ℕ) → NoneBelow k n → k ≤ n
none_below zero n t = zero-le
none_below (suc k) n t = one_more (none_below k n t.0) t.1

-- signed numbers
pub signed_le : (w : Width) (a b : ℤ) → SFits w a → SFits w b → le_z (to_z w (of_z w a)) (to_z w (of_z w b)) ≡ le_z a b
signed_le w a b fa fb = simp (to_z-of_z {w = w} fa, to_z-of_z {w = w} fb)

negative : (n : ℕ) → n < 2 ^ 31 → 2 ^ 32 - suc n ≡ 0 → ⊥
negative n h e = omega arith

not-zero : (n : ℕ) → suc n ≡ 0 → ⊥
not-zero n e = omega arith

pub signed-zero : (z : ℤ) → SFits w32 z → eqb (of_z w32 z) 0 ≡ eqb (nat_abs z) 0
signed-zero (pos n) f = refl
signed-zero (negsuc n) f = ne_eqb (2 ^ 32 - suc n) 0 (negative n f.sfits) ∙ sym (ne_eqb (suc n) 0 (not-zero n))
