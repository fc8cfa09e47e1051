-- The axis on which a lease is held, and the lease in its slot. Assumes nothing.
use Prim.Native.Nat.{ℕ, ◌<◌, ◌≤◌}
use mathlib.Core.Bool.{Bool, true, false, cond, false≢true}
use mathlib.Core.List.{List, [], ◌∷◌}
use Rattle.std.specs.Prelude.{Option, Some, None}
use mathlib.Core.Path.{◌≡◌, refl, sym, ap, ◌∙◌}
use native.Mathlib.Omega.{arith}
use lib.ListN.{get_or}
use Rattle.model.specs.declared.Lease.{Lease}
use Rattle.model.specs.declared.LeaseSlot.{LeaseSlot}
use Rattle.model.specs.declared.Presence.{Presence}
use Rattle.model.specs.declared.Presence.TheVariants.{Absent, Present}
use Rattle.rules.specs.Admission.{holds_of, is_held_by, axis_held, held_axis, lease_on, held_lease}
use Rattle.rules.specs.Book.{Book, lease_at}
use Rattle.rules.specs.Rules.{select}
use Rattle.state.specs.Axes.{up_from, axes_from, first_held}
use Rattle.state.specs.State.{lease_if, Tables, book_of}
use Rattle.state.specs.declared.Fixed.{Fixed}
use Rattle.state.specs.declared.Numbers.{Numbers}
use Rattle.state.proofs.Axes.{first-hit, first-miss}
use Rattle.decide_lease.specs.Leases.{ShowsHeld}

abbrev head_of : List ℕ → Option ℕ
head_of [] = None
head_of (i ∷ is) = Some i

-- the first of those selected passes the test
selected : (p : ℕ → Bool) (is : List ℕ) (r : ℕ) (rest : List ℕ) → select p is ≡ r ∷ rest → p r ≡ true
unfolding select
selected p [] r rest e = let z : ◌≡◌ {A = ℕ} 0 1 = cc in absurd (omega arith)
selected p (i ∷ is) r rest e = go (p i) refl (selected p is r rest) e
  where
    go : (t : Bool) → p i ≡ t → (select p is ≡ r ∷ rest → p r ≡ true) → cond t (i ∷ select p is) (select p is) ≡ r ∷ rest → p r ≡ true
    go true h later e = let s : i ≡ r = cc in rw (← s) h
    go false h later e = later e

module _ (owner id : ℕ) (b : Book) where
  abbrev holds : ℕ → Bool
  holds axis = holds_of (lease_at b axis) (is_held_by owner id)

  held-head : (is : List ℕ) → axis_held owner id b is ≡ head_of (select holds is)
  unfolding axis_held select
  held-head [] = refl
  held-head (i ∷ is) = go (holds i) (held-head is)
    where
      go : (t : Bool) → axis_held owner id b is ≡ head_of (select holds is)
          → cond t (Some i) (axis_held owner id b is) ≡ head_of (cond t (i ∷ select holds is) (select holds is))
      go true e = refl
      go false e = e

  module _ (axis : ℕ) (e : axis ≡ first_held owner id b.leases) where
    pub held-at : axis < 8 → held_axis owner id b ≡ Some axis
    unfolding held_axis axes_from up_from
    held-at h = held-head (axes_from 0) ∙ ap head_of (first-hit holds 0 axis e h)

    pub held-nowhere : 8 ≤ axis → held_axis owner id b ≡ None
    unfolding held_axis axes_from up_from
    held-nowhere h = held-head (axes_from 0) ∙ ap head_of (first-miss holds 0 axis e h)

    held-there : axis < 8 → holds axis ≡ true
    held-there h = selected holds (axes_from 0) axis _ (first-hit holds 0 axis e h)

    pub none-held : 8 ≤ axis → held_lease owner id b ≡ None
    unfolding held_lease lease_on
    none-held h = rw (held-nowhere h)

held_in : (p : Presence) (l : Lease) (test : Lease → Bool) → holds_of (lease_if p l) test ≡ true → lease_if p l ≡ Some l
unfolding holds_of
held_in Absent l test e = absurd (false≢true e)
held_in Present l test e = refl

-- the slot that was shown holds the lease
module _ (f : Fixed) (n : Numbers) {t : Tables} {owner id axis : ℕ} {slot : LeaseSlot} (s : ShowsHeld owner id axis slot t) (h : axis < 8) where
  pub lease-there : get_or t.leases axis None ≡ Some slot.lease
  unfolding book_of
  lease-there =
      sym s.shown ∙ held_in slot.presence slot.lease (is_held_by owner id) (rw s.shown (held-there owner id (book_of f n t) axis s.first h))

  pub lease-held : held_lease owner id (book_of f n t) ≡ Some slot.lease
  unfolding held_lease lease_on book_of
  lease-held = rw (held-at owner id (book_of f n t) axis s.first h) lease-there
