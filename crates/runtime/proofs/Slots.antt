-- Tables with an element more than they show: what a store and a look-up are, seen through what the slots hold. Assumes nothing.
use Prim.Native.Nat.{ℕ, zero, suc, ◌<◌, ◌≤◌}
use mathlib.Core.List.{List, [], ◌∷◌, map}
use Rattle.std.specs.Prelude.{Option, None}
use mathlib.Core.Path.{◌≡◌, refl, ap, ◌∙◌}
use native.Mathlib.Omega.{arith}
use Rattle.model.specs.declared.Lease.{Lease}
use Rattle.model.specs.declared.LeaseSlot.{LeaseSlot}
use Rattle.model.specs.declared.Presence.TheVariants.{Absent}
use Rattle.model.specs.Records.{no_lease}
use Rattle.state.specs.State.{lease_in}
use Rattle.runtime.proofs.Cells.{read_any}
use lib.ListN.{length, get_or, set, take}
use lib.Seq.{take-set-le, take-set-lt}

map-set : {A B : Type 0} (f : A → B) (l : List A) (i : ℕ) (x : A) → map f (set l i x) ≡ set (map f l) i (f x)
map-set f [] i x = refl
map-set f (a ∷ l) zero x = refl
map-set f (a ∷ l) (suc i) x = ap (λ m. f a ∷ m) (map-set f l i x)

module _ {A B : Type 0} (f : A → Option B) (n : ℕ) (l : List A) where
  -- an element that is shown
  pub shown-set : (i : ℕ) (x : A) → i < n → map f (take n (set l i x)) ≡ set (map f (take n l)) i (f x)
  shown-set i x h = ap (map f) (take-set-lt n l i x h) ∙ map-set f (take n l) i x

  -- one that is not
  pub spare-set : (i : ℕ) (x : A) → n ≤ i → map f (take n (set l i x)) ≡ map f (take n l)
  spare-set i x h = ap (map f) (take-set-le n l i x h)

-- what is looked up is what is shown
pub shown-at : {A B : Type 0} (f : A → Option B) (d : A) (n : ℕ) (l : List A) (i : ℕ) → i < n → i < length l
    → get_or (map f (take n l)) i None ≡ f (get_or l i d)
shown-at f d zero l i h k = absurd (omega arith)
shown-at f d (suc n) [] i h k = absurd (omega arith)
shown-at f d (suc n) (a ∷ l) zero h k = refl
shown-at f d (suc n) (a ∷ l) (suc i) h k = shown-at f d n l i (omega arith) (omega arith)

-- past its end a table of leases shows none, whatever is said to stand there
pub none_past : (l : Lease) (xs : List LeaseSlot) (i : ℕ) → lease_in (get_or xs i (record { presence = Absent; lease = l })) ≡ lease_in (get_or xs i no_lease)
none_past l xs i = read_any lease_in (record { presence = Absent; lease = l }) no_lease xs i refl
