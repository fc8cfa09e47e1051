-- The checks of `acquire` all hold exactly when the lease may be granted, stated plainly; those of `renew` only when it may be renewed.
-- Assumes nothing.
use Prim.Native.Nat.{ℕ}
use mathlib.Core.Bool.{true, not, false≢true}
use Rattle.std.specs.Prelude.{Option, Some, None}
use Rattle.model.proofs.Options.{some-injective}
use mathlib.Core.Path.{◌≡◌, refl, sym, ap, ◌∙◌}
use borrow.Author.Tests.{ltb-true, leb-true, leb-false, le-leb, lt-leb, not-true}
use lib.Dec.{eqb}
use lib.Signed.{◌≤ℤ◌}
use Rattle.model.specs.declared.Lease.{Lease}
use Rattle.model.specs.declared.LeaseRequest.{LeaseRequest}
use Rattle.model.specs.declared.Renewal.{Renewal}
use Rattle.model.specs.Bounds.{ordered}
use Rattle.model.specs.Soundness.{axis_used}
use Rattle.model.proofs.Tests.{and-when, and_both}
use Rattle.rules.specs.Book.{Book, lease_at}
use Rattle.rules.specs.Admission.{first_failing, is_stale, ready, bad_duration, valid_request, is_free, acquire_checks, held_axis, lease_on, held_lease, axes, renew_checks}
use Rattle.rules.specs.Grantable.{Ready, Grantable, Renewable}
use Rattle.rules.proofs.Admission.{AllHold, none-fails, fails-none, held-at, not-estopped, estopped-not, not-faulted, faulted-not, nonzero, zero-not, duration-fits, fits-duration}
use Rattle.rules.proofs.Axes.{namer, named-used}
use Rattle.rules.proofs.Checks.{held}
use Rattle.rules.proofs.Masks.{mask-means, means-mask}
use Rattle.rules.proofs.Records.{all-each, each_all, ordered-means, means-ordered}

-- ---- readiness

module _ (now : ℕ) (b : Book) where
  is-ready : AllHold (ready now b) → Ready now b
  unfolding ready is_stale
  is-ready h =
      record {
        not-estopped = not-estopped _ h.0;
        not-faulted = not-faulted _ h.1.0;
        clock = leb-true _ _ h.1.1.0;
        fresh = leb-false _ _ (not-true _ h.1.1.1.0);
      }

-- ---- acquire

free_of : (o : Option Lease) → is_free o ≡ true → o ≡ None
unfolding is_free
free_of None e = refl
free_of (Some l) e = absurd (false≢true e)

pub grantable : (r : LeaseRequest) (now : ℕ) (b : Book) → first_failing (acquire_checks r now b) ≡ None → Grantable r now b
unfolding acquire_checks ready is_stale valid_request
grantable r now b e =
    let h = none-fails (acquire_checks r now b) e in
    let k₀ = and_both (axis_used b.capabilities r.resource) _ h.1.1.1.1.0 in
    let k₁ = and_both (not (eqb r.owner 0)) _ k₀.1 in
    let k₂ = and_both (not (eqb r.capabilities 0)) _ k₁.1 in
    let k₃ = and_both (not (bad_duration r.duration_ms b.config.max_lease_ms)) _ k₂.1 in
    record {
      ready = is-ready now b (h.0, (h.1.0, (h.1.1.0, (h.1.1.1.0, tt))));
      used = namer b.capabilities r.resource k₀.0;
      owner = nonzero _ k₁.0;
      mask = nonzero _ k₂.0;
      duration = duration-fits _ _ k₃.0;
      limits = all-each ordered (λ x. x.min ≤ℤ x.max) ordered-means r.limits k₃.1;
      bits = mask-means r.capabilities r.resource b.capabilities h.1.1.1.1.1.0;
      free = free_of _ h.1.1.1.1.1.1.0;
      fits = leb-true _ _ h.1.1.1.1.1.1.1.0;
    }

pub grantable-checked : (r : LeaseRequest) (now : ℕ) (b : Book) → Grantable r now b → first_failing (acquire_checks r now b) ≡ None
unfolding acquire_checks ready is_stale valid_request is_free
grantable-checked r now b g =
    let used : axis_used b.capabilities r.resource ≡ true = rw (← g.used.2) (named-used g.used.0 b.capabilities g.used.1) in
    let valid : valid_request r b ≡ true = sym
    (and-when used
    (and-when (zero-not _ g.owner)
    (and-when (zero-not _ g.mask)
    (and-when (fits-duration _ _ g.duration.0 g.duration.1)
    (sym (each_all ordered (λ x. x.min ≤ℤ x.max) means-ordered r.limits g.limits)))))) in
    fails-none (acquire_checks r now b) (
      estopped-not _ g.ready.not-estopped,
      (
        faulted-not _ g.ready.not-faulted,
        (
          le-leb _ _ g.ready.clock,
          (
            ap not (lt-leb _ _ g.ready.fresh),
            (valid, (means-mask r.capabilities r.resource b.capabilities g.bits, (rw g.free, (le-leb _ _ g.fits, tt)))),
          ),
        ),
      ),
    )

-- ---- renew

pub renewable : (r : Renewal) (b : Book) (axis : ℕ) (l : Lease) → first_failing (renew_checks r b) ≡ None
    → held_axis r.owner r.lease_id b ≡ Some axis → lease_at b axis ≡ Some l → Renewable r b axis l
unfolding renew_checks ready is_stale held_lease lease_on held_axis
renewable r b axis l e q stands =
    let h = none-fails (renew_checks r b) e in
    let k = held r.owner r.lease_id b axes axis q in
    let same : k.lease ≡ l = some-injective _ _ (sym k.stands ∙ stands) in
    let found : held_lease r.owner r.lease_id b ≡ Some l = rw q stands in
    record {
      ready = is-ready r.now b (h.0, (h.1.0, (h.1.1.0, (h.1.1.1.0, tt))));
      duration = duration-fits _ _ h.1.1.1.1.0;
      stands = stands;
      held = (rw same at k.number, rw same at k.own);
      newer = ltb-true _ _ (held-at _ found h.1.1.1.1.1.1.0);
      fits = leb-true _ _ h.1.1.1.1.1.1.1.0;
    }
