-- A lease stored where one stood that ends at the same time: as many leases stand, on the same axes. Assumes nothing.
use Prim.Native.Nat.{ℕ, zero, suc, ◌+◌, ◌<◌, ◌≤◌}
use mathlib.Core.Bool.{true}
use mathlib.Core.List.{List, [], ◌∷◌}
use Rattle.std.specs.Prelude.{Option, Some, None}
use Rattle.model.proofs.Options.{some-injective}
use mathlib.Core.Path.{◌≡◌, refl, ◌∙◌, subst}
use native.Mathlib.Omega.{arith}
use lib.ListN.{get_or, set, length-set}
use Rattle.model.specs.declared.Active.{Active}
use Rattle.model.specs.declared.Lease.{Lease}
use Rattle.rules.specs.Admission.{is_some}
use Rattle.state.specs.State.{count_of, Sized, Counted}
use Rattle.state.proofs.Tables.{one, count_set}

-- what is true of every lease that stands, and of the one stored, is true of every lease that then stands
each-stored : (P : Lease → Type 0) (ls : List (Option Lease)) (i : ℕ) (x : Lease) → P x
    → ((j : ℕ) (y : Lease) → get_or ls j None ≡ Some y → P y) → (j : ℕ) (y : Lease) → get_or (set ls i (Some x)) j None ≡ Some y → P y
each-stored P [] i x p each j y e = each j y e
each-stored P (a ∷ ls) zero x p each zero y e = subst P (some-injective _ _ e) p
each-stored P (a ∷ ls) zero x p each (suc j) y e = each (suc j) y e
each-stored P (a ∷ ls) (suc i) x p each zero y e = each zero y e
each-stored P (a ∷ ls) (suc i) x p each (suc j) y e = each-stored P ls i x p (λ k z m. each (suc k) z m) j y e

pub stands-stored : (ls : List (Option Lease)) (i j : ℕ) (x : Lease) → is_some (get_or ls j None) ≡ true → is_some (get_or (set ls i (Some x)) j None) ≡ true
unfolding is_some
stands-stored [] i j x e = e
stands-stored (a ∷ ls) zero zero x e = refl
stands-stored (a ∷ ls) zero (suc j) x e = e
stands-stored (a ∷ ls) (suc i) zero x e = e
stands-stored (a ∷ ls) (suc i) (suc j) x e = stands-stored ls i j x e

module _ {ls : List (Option Lease)} {os : List (Option Active)} (s : Sized ls os) (i : ℕ) (h : i < 8) (l x : Lease) (there : get_or ls i None ≡ Some l) where
  pub stored-sized : Sized (set ls i (Some x)) os
  stored-sized =
      record {
        leases = length-set ls i (Some x) ∙ s.leases;
        active = s.active;
        under = λ axis a e. stands-stored ls i axis x (s.under axis a e);
      }

  pub stored-counted : {n soonest : ℕ} → x.expires_at ≡ l.expires_at → Counted n soonest ls os → Counted n soonest (set ls i (Some x)) os
  unfolding one
  stored-counted {n} {soonest} same c =
      let e : count_of (set ls i (Some x)) + 1 ≡ count_of ls + 1 = rw there at (count_set ls i (Some x) (rw s.leases h)) in
      record {
        held = c.held ∙ omega (arith, e);
        leases = each-stored (λ y. soonest ≤ y.expires_at) ls i x (rw same (c.leases i l there)) c.leases;
        active = c.active;
      }
