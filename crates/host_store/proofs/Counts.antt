-- The test of the numbers decides, and the push behind it keeps its promise. Assumes nothing.
use Prim.Native.Nat.{ℕ, suc, ◌+◌, ◌%◌, ◌^◌, ◌<◌, ◌≤◌}
use native.Mathlib.Nat.{pow-succ'}
use native.Mathlib.Omega.{arith}
use mathlib.Core.Path.{◌≡◌, sym, subst, ◌∙◌}
use mathlib.Core.Logic.{⊎_elim}
use mathlib.Core.Bool.{Bool, true, false}
use lib.Pow.{pow_mono}
use lib.Count.{count_leading_zeros, leading_length, ones}
use Rattle.receipts.specs.declared.Index.{Index}
use Rattle.receipts.specs.declared.Pushed.{Pushed}
use Rattle.receipts.specs.Orders.{Counted}
use Rattle.receipts.specs.Indexes.{Numbered, Keeps, Pushes}
use Rattle.receipts.proofs.KindBits.{trues-ones}
use Rattle.receipts.proofs.Circles.{lt-or-ge}
use Rattle.rows.specs.Rows.{Headed}
use Rattle.host_store.specs.Pushes.{Tells, AnyPush}

-- a number has as many bits as its leading zeros leave
module _ (x c : ℕ) (fits : x < 2 ^ 64) where
  small_of : 64 ≤ count_leading_zeros 64 x + c → x < 2 ^ c
  small_of h =
      let t = leading_length 64 x fits in
      let m : 2 ^ t.0 ≤ 2 ^ c = pow_mono (omega (arith, t.1)) in
      omega (arith, t.2)

  zeros_of : x < 2 ^ c → 64 ≤ count_leading_zeros 64 x + c
  zeros_of h =
      let t = leading_length 64 x fits in
      ⊎_elim (λ (l : t.0 < suc c). omega (arith, t.1))
      (λ (g : suc c ≤ t.0). absurd (omega (arith, t.3, pow_mono g, pow-succ' 2 c)))
      (lt-or-ge t.0 (suc c))

no-tell : (P : Type 0) → (P → ⊥) → Tells false P
no-tell P n = record { yes = λ e. absurd (let z : ◌≡◌ {A = ℕ} 0 1 = cc in omega arith); no = λ p. absurd (n p) }

pub counted-not : (x a b : ℕ) → x < 2 ^ 64 → count_leading_zeros 64 x + (a + b) < 64 → Tells false (Counted x a b)
counted-not x a b f h = no-tell (Counted x a b) (λ c. omega (arith, zeros_of x (a + b) f c.small))

pub counted-by : (x a b : ℕ) (r : Bool) → x < 2 ^ 64 → 64 ≤ count_leading_zeros 64 x + (a + b) → (r ≡ true → ones x ≡ a) → (ones x ≡ a → r ≡ true) → Tells r (Counted x a b)
counted-by x a b r f h y n =
    let s = small_of x (a + b) f h in
    record {
      yes = λ e. record { small = s; told = trues-ones (a + b) x s ∙ y e };
      no = λ c. n (sym (trues-ones (a + b) x s) ∙ c.told);
    }

module _ (i : Index) where
  pub numbered-not : (Numbered i → ⊥) → Tells false (Numbered i)
  numbered-not n = no-tell (Numbered i) n

  pub numbered-by : (r : Bool) → Headed i → i.rejected.count + i.others.count ≤ 64
      → Tells r (Counted i.kinds i.rejected.count i.others.count) → Tells r (Numbered i)
  numbered-by r h w t = record {
    yes = λ e. record { rejections = h.0; others = h.1; within = w; counted = t.yes e };
    no = λ n. t.no n.counted;
  }

-- a push -----------------------------------------------------------------------------------------------------------------

module _ (i : Index) (k : Bool) (a b : ℕ) where
  pub any-pushed : (p : Pushed) → Pushes i k a b p → AnyPush i k a b (record { index = p.index; slot = p.slot % 64; place = p.place })
  any-pushed p g =
      record {
        inside = omega (arith, g.inside);
        below = omega arith;
        heads = (g.numbered.rejections, g.numbered.others);
        pushes = λ n.
            record {
              numbered = g.numbered;
              inside = g.inside;
              keeps = λ st s f r e.
                  let q = g.keeps st s f r e in
                  let same : p.slot ≡ p.slot % 64 = omega (arith, q.below) in
                  subst (λ (n : ℕ). Keeps i st k (record { index = p.index; slot = n; place = p.place }) r) same q;
            };
      }

  pub any-spare : (t : Bool) → Headed i → Tells t (Numbered i) → t ≡ false → AnyPush i k a b (record { index = i; slot = 64; place = 64 })
  any-spare t h d e =
      record {
        inside = omega arith;
        below = omega arith;
        heads = h;
        pushes = λ n. absurd (let q = d.no n in let z : ◌≡◌ {A = Bool} true false = sym q ∙ e in let y : ◌≡◌ {A = ℕ} 0 1 = cc in omega arith);
      }
