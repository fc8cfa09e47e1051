use Prim.Native.Nat.{ℕ}
use borrow.Author.Tests.{eq-eqb, ne_eqb}
use mathlib.Core.Bool.{Bool, true, not}
use Rattle.std.specs.Prelude.{Option, Some, None}
use mathlib.Core.Path.{◌≡◌, sym, ap, ◌∙◌}
use lib.ListN.{get_or}
use lib.Bits.{bit_and}
use Rattle.model.specs.declared.Lease.{Lease}
use Rattle.model.specs.declared.LeaseSlot.{LeaseSlot}
use Rattle.model.specs.Words.{inside}
use Rattle.rules.specs.Admission.{first_failing, ready, allowed, is_free, is_some, acquire_checks}
use Rattle.state.specs.State.{Tables, book_of, lease_in}
use Rattle.decide_lease.specs.Leases.{ShowsAxis}
use Rattle.decide_lease.proofs.grant_check.Goals as goal

-- what the mask says of the capabilities
permitted : {axis mask : ℕ} {slot : LeaseSlot} {t : Tables} (bits : ℕ) → ShowsAxis axis mask slot t → bit_and mask bits ≡ bits
    → inside bits (allowed t.capabilities axis) ≡ true
unfolding inside
permitted bits shown e = rw (← shown.allowed) (eq-eqb _ _ e)

-- what the slot says of the axis
free-if : (o : Option Lease) (l : Bool) → l ≡ is_some o → is_free o ≡ not l
unfolding is_free is_some
free-if None l e = rw e
free-if (Some x) l e = rw e

slot-free : {axis mask : ℕ} {slot : LeaseSlot} {t : Tables} (l : Bool) → ShowsAxis axis mask slot t → l ≡ is_some (lease_in slot)
    → is_free (get_or t.leases axis None) ≡ not l
slot-free l shown e = free-if _ l (e ∙ ap is_some shown.shown)

pub returns-then-allowed-request : goal.returns-then-allowed-request
unfolding acquire_checks ready first_failing inside book_of
returns-then-allowed-request c = λ f n t shown. simp (← shown.allowed, ne_eqb _ _ c.if-allowed-request.true)

pub returns-then-is_leased : goal.returns-then-is_leased
unfolding acquire_checks ready first_failing book_of
returns-then-is_leased c =
    λ f n t shown.
    simp (
      permitted c.args.request.capabilities shown c.if-allowed-request.false,
      slot-free _ shown c.is_leased.ensures ∙ ap not c.if-is_leased.true,
    )

pub returns-then-not-end_fits : goal.returns-then-not-end_fits
unfolding acquire_checks ready first_failing book_of
returns-then-not-end_fits c =
    λ f n t shown.
    simp (
      permitted c.args.request.capabilities shown c.if-allowed-request.false,
      slot-free _ shown c.is_leased.ensures ∙ ap not c.if-is_leased.false,
      sym c.end_fits.ensures ∙ c.if-not-end_fits.true,
    )

pub returns : goal.returns
unfolding acquire_checks ready first_failing book_of
returns c =
    λ f n t shown.
    simp (
      permitted c.args.request.capabilities shown c.if-allowed-request.false,
      slot-free _ shown c.is_leased.ensures ∙ ap not c.if-is_leased.false,
      sym c.end_fits.ensures ∙ c.if-not-end_fits.false,
    )
