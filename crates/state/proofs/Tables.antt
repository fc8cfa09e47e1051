-- How many leases stand, and what is left of the tables where an axis is cleared. Assumes nothing.
use Prim.Native.Nat.{ℕ, zero, suc, ◌+◌, ◌<◌}
use mathlib.Core.Bool.{Bool, true, false, cond, not, false≢true}
use mathlib.Core.List.{List, [], ◌∷◌}
use Rattle.std.specs.Prelude.{Option, Some, None}
use Rattle.std.proofs.lemmas.Option.{none-some}
use mathlib.Core.Path.{◌≡◌, refl, sym, ap, ◌∙◌}
use native.Mathlib.Omega.{arith}
use borrow.Author.Tests.{ne_eqb, eqb-true}
use lib.Dec.{eqb}
use lib.ListN.{length, get_or, set, length-set}
use Rattle.model.specs.declared.Active.{Active}
use Rattle.model.specs.declared.Lease.{Lease}
use Rattle.model.specs.Lists.{any}
use Rattle.rules.specs.Admission.{is_some}
use Rattle.rules.specs.Receipts.{top}
use Rattle.state.specs.State.{count_of, Sized, Counted}
use Rattle.state.specs.Stores.{without, soonest_with}

-- a lease stands exactly if the count is not 0
pub held_any : (ls : List (Option Lease)) → not (eqb (count_of ls) 0) ≡ any is_some ls
unfolding count_of is_some
held_any [] = refl
held_any (None ∷ ls) = held_any ls
held_any (Some l ∷ ls) = ap not (ne_eqb (suc (count_of ls)) 0 (λ e. absurd (omega arith)))

-- how many a slot holds
unfoldable pub one : Option Lease → ℕ
one None = 0
one (Some l) = 1

-- one slot stored, the others as they were
pub count_set : (ls : List (Option Lease)) (i : ℕ) (o : Option Lease) → i < length ls
    → count_of (set ls i o) + one (get_or ls i None) ≡ count_of ls + one o
unfolding count_of one
count_set [] i o h = absurd (omega arith)
count_set (None ∷ ls) zero None h = refl
count_set (None ∷ ls) zero (Some x) h = omega arith
count_set (Some l ∷ ls) zero None h = omega arith
count_set (Some l ∷ ls) zero (Some x) h = refl
count_set (None ∷ ls) (suc i) o h = count_set ls i o (omega arith)
count_set (Some l ∷ ls) (suc i) o h = let e = count_set ls i o (omega arith) in omega arith

pub count-without : (ls : List (Option Lease)) (i : ℕ) → i < length ls → without (get_or ls i None) (count_of ls) ≡ count_of (set ls i None)
unfolding one without
count-without ls i h = taken (get_or ls i None) (count_set ls i None h)
  where
    taken : (o : Option Lease) → count_of (set ls i None) + one o ≡ count_of ls + 0 → without o (count_of ls) ≡ count_of (set ls i None)
    taken None e = omega (arith, e)
    taken (Some l) e = omega (arith, e)

-- where no lease stands, nothing ends -------------------------------------------------------------------------------------

none-held : (ls : List (Option Lease)) (axis : ℕ) (l : Lease) → count_of ls ≡ 0 → get_or ls axis None ≡ Some l → ⊥
unfolding count_of
none-held [] axis l e k = none-some _ k
none-held (None ∷ ls) zero l e k = none-some _ k
none-held (None ∷ ls) (suc axis) l e k = none-held ls axis l e k
none-held (Some x ∷ ls) axis l e k = absurd (omega (arith, e))

pub soonest-counted : {n soonest : ℕ} {ls : List (Option Lease)} {os : List (Option Active)} → Sized ls os → Counted n soonest ls os
    → Counted n (soonest_with n soonest) ls os
unfolding soonest_with is_some
soonest-counted {n} {soonest} {ls} {os} s c = by (eqb n 0) refl
  where
    standing : (axis : ℕ) (o : Option Lease) → get_or ls axis None ≡ o → n ≡ 0 → is_some o ≡ true → ⊥
    standing axis None e z k = false≢true k
    standing axis (Some l) e z k = none-held ls axis l (sym c.held ∙ z) e

    by : (t : Bool) → eqb n 0 ≡ t → Counted n (cond t top soonest) ls os
    by false e = c
    by true e =
        let z = eqb-true n 0 e in
        record {
          held = c.held;
          leases = λ axis l k. absurd (none-held ls axis l (sym c.held ∙ z) k);
          active = λ axis a k. absurd (standing axis (get_or ls axis None) refl z (s.under axis a k));
        }

-- an axis cleared ---------------------------------------------------------------------------------------------------------

-- what stands in a slot after a store of nothing stood there before
pub still : {A : Type 0} (l : List (Option A)) (i j : ℕ) (x : A) → get_or (set l i None) j None ≡ Some x → get_or l j None ≡ Some x
still [] i j x e = e
still (a ∷ l) zero zero x e = absurd (none-some _ e)
still (a ∷ l) zero (suc j) x e = e
still (a ∷ l) (suc i) zero x e = e
still (a ∷ l) (suc i) (suc j) x e = still l i j x e

-- .. and a slot that was not stored to is as it was; one that was is empty
kept : {A B : Type 0} (l : List (Option A)) (m : List (Option B)) (i j : ℕ) (x : A) → get_or (set l i None) j None ≡ Some x
    → is_some (get_or m j None) ≡ true → i < length l → is_some (get_or (set m i None) j None) ≡ true
kept [] m i j x e k h = absurd (omega arith)
kept (a ∷ l) [] i j x e k h = k
kept (a ∷ l) (b ∷ m) zero zero x e k h = absurd (none-some _ e)
kept (a ∷ l) (b ∷ m) zero (suc j) x e k h = k
kept (a ∷ l) (b ∷ m) (suc i) zero x e k h = k
kept (a ∷ l) (b ∷ m) (suc i) (suc j) x e k h = kept l m i j x e k (omega arith)

module _ {ls : List (Option Lease)} {os : List (Option Active)} (s : Sized ls os) (i : ℕ) (h : i < 8) where
  pub cleared-sized : Sized (set ls i None) (set os i None)
  cleared-sized =
      record {
        leases = length-set ls i None ∙ s.leases;
        active = length-set os i None ∙ s.active;
        under = λ axis a e. kept os ls i axis a e (s.under axis a (still os i axis a e)) (rw s.active h);
      }

  pub cleared-counted : {n soonest : ℕ} → Counted n soonest ls os
      → Counted (without (get_or ls i None) n) (soonest_with (without (get_or ls i None) n) soonest) (set ls i None) (set os i None)
  cleared-counted {n} {soonest} c =
      let count : without (get_or ls i None) n ≡ count_of (set ls i None) = rw c.held (count-without ls i (rw s.leases h)) in
      soonest-counted cleared-sized
      (record { held = count; leases = λ axis l e. c.leases axis l (still ls i axis l e); active = λ axis a e. c.active axis a (still os i axis a e) })
