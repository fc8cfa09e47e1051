-- The steps of a push, over any capacity: a slot is free, the oldest rejection goes, the oldest of the others goes, a rejection comes,
-- another comes. Assumes nothing.
use Prim.Native.Nat.{ℕ, suc, ◌+◌, ◌-◌, ◌*◌, ◌^◌, ◌<◌}
use native.Mathlib.Nat.{pow-succ', zero-add}
use lib.Pow.{pow_pos}
use native.Mathlib.Numerals.{add-one}
use native.Mathlib.Omega.{arith}
use mathlib.Core.Path.{◌≡◌, refl, sym, ap, subst, ◌∙◌}
use mathlib.Core.Bool.{Bool, true, false}
use mathlib.Core.List.{List, [], ◌∷◌, ◌++◌, map}
use lib.Dec.{ltb}
use lib.ListN.{length, length-append}
use Rattle.model.specs.declared.Receipt.{Receipt}
use Rattle.rules.specs.Receipts.{rejected, evict}
use Rattle.receipts.specs.Orders.{order, kinds_of, trues, one, times, Top, Counted, Ordered, Roomy}
use Rattle.receipts.proofs.KindBits.{kinds-length, trues-append, kinds-rejection, kinds-other, kinds-none, trues-none, kinds-zero, trues-first, kinds-drop, drop-small, without_first}
use Rattle.receipts.proofs.Merges.{Told, Rejections, Others, merge-length, merge-rejection, merge-other, merge-drop, merge-oldest}
use Rattle.receipts.proofs.Uses.{times-self, times_snoc, times-merge, one-le, below_of, below_more, all_snoc}

snoc-length : (xs : List ℕ) (x : ℕ) → length (xs ++ (x ∷ [])) ≡ suc (length xs)
snoc-length xs x = length-append xs (x ∷ []) ∙ add-one (length xs)

module _ (x : ℕ) (rs os : List ℕ) where
  pub told_of : trues (kinds_of (length rs + length os) x) ≡ length rs → Told (kinds_of (length rs + length os) x) rs os
  told_of t = record { rejections = t; all = kinds-length (length rs + length os) x }

  pub order-length : trues (kinds_of (length rs + length os) x) ≡ length rs → length (order x rs os) ≡ length rs + length os
  unfolding order
  order-length t = merge-length (kinds_of (length rs + length os) x) rs os (told_of t) ∙ kinds-length (length rs + length os) x

-- the kinds, by how many they tell -----------------------------------------------------------------------------------

module _ (x a b : ℕ) where
  pub counted-rejection : (a' : ℕ) → a' ≡ suc a → Counted x a b → Counted (x * 2 + 1) a' b
  counted-rejection a' e c =
      let m : a' + b ≡ suc (a + b) = omega arith in
      record {
        small = rw m (omega (arith, pow-succ' 2 (a + b), c.small));
        told = rw (m, kinds-rejection, trues-append) (omega (arith, c.told));
      }

  pub counted-other : (b' : ℕ) → b' ≡ suc b → Counted x a b → Counted (x * 2) a b'
  counted-other b' e c =
      let m : a + b' ≡ suc (a + b) = omega arith in
      record {
        small = rw m (omega (arith, pow-succ' 2 (a + b), c.small));
        told = rw (m, kinds-other, trues-append) (omega (arith, c.told));
      }

  pub counted-dropped : (t a' : ℕ) → a' ≡ suc a → Counted x a' b → Top x t → Counted (x - t) a b
  counted-dropped t a' e c top =
      let m : a' + b ≡ suc (a + b) = omega arith in
      let small : x < 2 ^ suc (a + b) = rw m at c.small in
      let told : trues (kinds_of (suc (a + b)) x) ≡ a' = rw m at c.told in
      record {
        small = drop-small (a + b) x t top small;
        told = ap trues (kinds-drop (a + b) x t top small) ∙ trues-first (kinds_of (suc (a + b)) x) a (told ∙ e);
      }

  -- where there is no rejection
  pub counted-oldest : (b' : ℕ) → a ≡ 0 → Counted x a b' → Counted x a b
  counted-oldest b' z c =
      let unset : x ≡ 0 = kinds-zero (a + b') x c.small (c.told ∙ z) in
      record { small = omega (arith, pow_pos (a + b)); told = rw unset (ap trues (kinds-none (a + b)) ∙ trues-none (a + b) ∙ sym z) }

-- a slot is free -----------------------------------------------------------------------------------------------------

pub count-free : (n x : ℕ) (rs os : List ℕ) → Ordered n x rs os → length rs + length os < n → Roomy n x rs os (length rs + length os)
count-free n x rs os a h = record {
  within = h;
  counted = a.counted;
  once = λ s. omega (arith, a.once s, below_more s (length rs + length os));
}

-- one is dropped, by the rule: its slot is free
pub record Dropped (n x : ℕ) (rs os : List ℕ) (x' : ℕ) (rs' os' : List ℕ) (slot : ℕ) : Type 0 where
  pub roomy : Roomy n x' rs' os' slot
  pub rejections : (f : ℕ → Receipt) → Rejections f rs → Rejections f rs'
  pub others : (f : ℕ → Receipt) → Others f os → Others f os'
  pub evicted : (f : ℕ → Receipt) → Rejections f rs → Others f os → map f (order x' rs' os') ≡ evict (map f (order x rs os))

-- the oldest rejection
module _ (n x t r : ℕ) (rs os : List ℕ) (a : Ordered n x (r ∷ rs) os) (top : Top x t) where
  more : suc (length rs) + length os ≡ suc (length rs + length os)
  more = omega arith

  small : x < 2 ^ suc (length rs + length os)
  small = rw more at a.counted.small

  told : trues (kinds_of (suc (length rs + length os)) x) ≡ suc (length rs)
  told = rw more at a.counted.told

  kinds : kinds_of (length rs + length os) (x - t) ≡ without_first (kinds_of (suc (length rs + length os)) x)
  kinds = kinds-drop (length rs + length os) x t top small

  first-rejection : Dropped n x (r ∷ rs) os (x - t) rs os r
  unfolding order
  first-rejection = record {
    roomy = record {
      within = omega (arith, a.within);
      counted = counted-dropped x (length rs) (length os) t (suc (length rs)) refl a.counted top;
      once = λ s. omega (arith, a.once s, ap (λ (k : ℕ). one (ltb s k)) more);
    };
    rejections = λ f y. y.1;
    others = λ f z. z;
    evicted = λ f y z. rw (more, kinds) (merge-drop f r rs y.0 (kinds_of (suc (length rs + length os)) x) os (omega (arith, told)) z);
  }

-- the oldest of the others, where no rejection is kept
module _ (n x o : ℕ) (os : List ℕ) (a : Ordered n x [] (o ∷ os)) where
  unset : x ≡ 0
  unset = kinds-zero (0 + suc (length os)) x a.counted.small a.counted.told

  first-other : Dropped n x [] (o ∷ os) x [] os o
  unfolding order
  first-other = record {
    roomy = record {
      within = omega (arith, a.within);
      counted = counted-oldest x 0 (length os) (suc (length os)) refl a.counted;
      once = λ s. omega (arith, a.once s, ap (λ (k : ℕ). one (ltb s k)) (zero-add (suc (length os))), ap (λ (k : ℕ). one (ltb s (suc k))) (zero-add (length os)));
    };
    rejections = λ f y. y;
    others = λ f z. z.1;
    evicted = λ f y z. rw (unset, zero-add (length os), zero-add (suc (length os)), kinds-none (length os), kinds-none (suc (length os))) (merge-oldest f (length os) o os z);
  }

empty_of : (xs : List ℕ) → length xs ≡ 0 → xs ≡ []
empty_of [] h = refl
empty_of (x ∷ xs) h = absurd (omega arith)

-- the same of a list that is a first and a rest
module _ (n x : ℕ) (rs os : List ℕ) (slot : ℕ) (rest : List ℕ) where
  pub rejection-dropped : (t : ℕ) → rs ≡ slot ∷ rest → Ordered n x rs os → Top x t → Dropped n x rs os (x - t) rest os slot
  rejection-dropped t e a top =
      subst (λ (l : List ℕ). Dropped n x l os (x - t) rest os slot) (sym e)
      (first-rejection n x t slot rest os (subst (λ (l : List ℕ). Ordered n x l os) e a) top)

  pub other-dropped : os ≡ slot ∷ rest → length rs ≡ 0 → Ordered n x rs os → Dropped n x rs os x rs rest slot
  other-dropped e h a =
      let z : rs ≡ [] = empty_of rs h in
      rw z
      (subst (λ (l : List ℕ). Dropped n x [] l x [] rest slot) (sym e)
      (first-other n x slot rest (subst (λ (l : List ℕ). Ordered n x [] l) e (rw z at a))))

-- one more -----------------------------------------------------------------------------------------------------------

-- a slot goes to the end of the order, and to the circle of its kind
pub record Grown (n x : ℕ) (rs os : List ℕ) (slot : ℕ) (kind : Bool) (x' : ℕ) (rs' os' : List ℕ) : Type 0 where
  pub ordered : Ordered n x' rs' os'
  pub appended : order x' rs' os' ≡ order x rs os ++ (slot ∷ [])
  pub rejections : (f : ℕ → Receipt) → rejected (f slot) ≡ kind → Rejections f rs → Rejections f rs'
  pub others : (f : ℕ → Receipt) → rejected (f slot) ≡ kind → Others f os → Others f os'

module _ (n x : ℕ) (rs os : List ℕ) (slot : ℕ) (a : Roomy n x rs os slot) where
  pub slot-below : slot < n
  slot-below = omega (arith, a.within, below_of slot (suc (length rs + length os)) (omega (arith, a.once slot, times-self slot)))

  pub slot-unused : times slot rs + times slot os ≡ 0
  slot-unused = omega (arith, a.once slot, times-self slot, one-le (ltb slot (suc (length rs + length os))))

  pub order-unused : times slot (order x rs os) ≡ 0
  unfolding order
  order-unused = omega (arith, slot-unused, times-merge slot (kinds_of (length rs + length os) x) rs os)

  more-rejections : length (rs ++ (slot ∷ [])) + length os ≡ suc (length rs + length os)
  more-rejections = omega (arith, snoc-length rs slot)

  pub rejection-grown : Grown n x rs os slot true (x * 2 + 1) (rs ++ (slot ∷ [])) os
  unfolding order
  rejection-grown = record {
    ordered = record {
      within = omega (arith, more-rejections, a.within);
      counted = counted-rejection x (length rs) (length os) (length (rs ++ (slot ∷ []))) (snoc-length rs slot) a.counted;
      once = λ s. rw more-rejections (omega (arith, a.once s, times_snoc s rs slot));
    };
    appended = rw (more-rejections, kinds-rejection) (merge-rejection (kinds_of (length rs + length os) x) rs os slot (told_of x rs os a.counted.told));
    rejections = λ f h y. all_snoc (λ s. rejected (f s) ≡ true) rs slot y h;
    others = λ f h z. z;
  }

  more-others : length rs + length (os ++ (slot ∷ [])) ≡ suc (length rs + length os)
  more-others = omega (arith, snoc-length os slot)

  pub other-grown : Grown n x rs os slot false (x * 2) rs (os ++ (slot ∷ []))
  unfolding order
  other-grown = record {
    ordered = record {
      within = omega (arith, more-others, a.within);
      counted = counted-other x (length rs) (length os) (length (os ++ (slot ∷ []))) (snoc-length os slot) a.counted;
      once = λ s. rw more-others (omega (arith, a.once s, times_snoc s os slot));
    };
    appended = rw (more-others, kinds-other) (merge-other (kinds_of (length rs + length os) x) rs os slot (told_of x rs os a.counted.told));
    rejections = λ f h y. y;
    others = λ f h z. all_snoc (λ s. rejected (f s) ≡ false) os slot z h;
  }
