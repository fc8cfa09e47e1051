-- What a ruling says of the checks that it answers for, and of the rule that follows. Assumes nothing.
use Prim.Native.Nat.{ℕ}
use mathlib.Core.Bool.{Bool, cond}
use Rattle.std.specs.Prelude.{Option, Some, None}
use mathlib.Core.Path.{◌≡◌, refl, sym, ap, ◌∙◌, subst}
use lib.Dec.{ltb}
use lib.ListN.{get_or}
use Rattle.model.specs.declared.Reason.{Reason}
use Rattle.model.specs.Records.{no_lease, no_capability}
use Rattle.rules.specs.Admission.{first_failing, allowed, is_some, replayed, admission, order_capability, verdict, validate}
use Rattle.rules.specs.Interaction.{Done, Refused}
use Rattle.rules.specs.Protocol.{proceed}
use Rattle.rules.specs.Receipts.{axis_or255}
use Rattle.rules.specs.Rules.{grant, renewed, original, reject, admit}
use Rattle.state.specs.State.{Tables, book_of}
use Rattle.state.specs.declared.Answer.{Answer}
use Rattle.state.specs.declared.Fixed.{Fixed}
use Rattle.decide_ready.specs.Checks.{check_of, passes, failure_by, failure_of}
use Rattle.decide_ready.specs.declared.Check.{Check}
use Rattle.decide_ready.specs.declared.Check.TheVariants.{Passed}
use Rattle.decide_ready.specs.declared.Ruling.{Ruling}
use Rattle.decide_ready.specs.declared.Verdict.{Verdict}
use Rattle.decide_lease.specs.Leases.{ShowsAxis}
use Rattle.decide_order.specs.Checks.{early_checks}
use Rattle.decide_order.specs.Orders.{ShowsOrder}
use Rattle.decide_order.proofs.Originals.{original-so}
use Rattle.runtime.specs.declared.Hit.{Hit}
use Rattle.runtime.specs.declared.Runtime.{Runtime}
use Rattle.runtime.specs.Promises.{Good, MovesIn, spare_or, FoundIn, HitIn}
use Rattle.runtime.specs.Runtimes.{tables_in, book_on}
use Rattle.runtime.proofs.Leases.{spare-shown}
use Rattle.runtime.proofs.Orders.{order-shown}

module _ (r : Ruling) {o : Option Reason} (e : failure_of r ≡ o) where
  pub passed-so : r.verdict ≡ Verdict.Passed → o ≡ None
  passed-so p = sym e ∙ ap (λ (v : Verdict). failure_by v r.reason) p

  pub failed-so : r.verdict ≡ Verdict.Failed → o ≡ Some r.reason
  failed-so p = sym e ∙ ap (λ (v : Verdict). failure_by v r.reason) p

-- leases ----------------------------------------------------------------------------------------------------------------------

pub request-shown : (h : Runtime) → Good h
    → ShowsAxis h.request.resource (allowed (tables_in h).capabilities h.request.resource) (get_or h.leases (spare_or h.request.resource) no_lease)
    (tables_in h)
request-shown h g = record { allowed = refl; shown = spare-shown h g h.request.resource }

module _ (h z : Runtime) (a : Answer) {o : Option Reason} where
  pub acquires : (time : ℕ) → o ≡ None → MovesIn z a (proceed (grant None h.request time (book_on h)))
      → MovesIn z a (proceed (grant o h.request time (book_on h)))
  acquires time e v = subst (λ (x : Option Reason). MovesIn z a (proceed (grant x h.request time (book_on h)))) (sym e) v

  pub refuses-acquire : (time : ℕ) {reason : Reason} → o ≡ Some reason → MovesIn z a (proceed (Done (book_on h) (Refused reason)))
      → MovesIn z a (proceed (grant o h.request time (book_on h)))
  unfolding grant
  refuses-acquire time e v = subst (λ (x : Option Reason). MovesIn z a (proceed (grant x h.request time (book_on h)))) (sym e) v

  pub renews : o ≡ None → MovesIn z a (proceed (renewed None h.renewal (book_on h))) → MovesIn z a (proceed (renewed o h.renewal (book_on h)))
  renews e v = subst (λ (x : Option Reason). MovesIn z a (proceed (renewed x h.renewal (book_on h)))) (sym e) v

  pub refuses-renew : {reason : Reason} → o ≡ Some reason → MovesIn z a (proceed (Done (book_on h) (Refused reason)))
      → MovesIn z a (proceed (renewed o h.renewal (book_on h)))
  unfolding renewed
  refuses-renew e v = subst (λ (x : Option Reason). MovesIn z a (proceed (renewed x h.renewal (book_on h)))) (sym e) v

-- orders ----------------------------------------------------------------------------------------------------------------------

pub rejects-so : (h z : Runtime) (a : Answer) {reason : Reason} → first_failing (admission h.submission (book_on h)) ≡ Some reason
    → MovesIn z a (proceed (reject reason h.submission (book_on h)))
    → MovesIn z a (proceed (admit (validate h.submission (book_on h)) h.submission (book_on h)))
unfolding admit validate verdict
rejects-so h z a e v = rw e v

module _ (h : Runtime) (g : Good h) (at : ℕ) (f : FoundIn h.submission.action.capability at h) where
  pub resource-so : axis_or255 (order_capability h.submission (book_on h)) ≡ axis_or255 (cond (ltb at 16) (Some (get_or h.capabilities at no_capability)) None)
  unfolding order_capability book_of
  resource-so = ap axis_or255 f.found

  module _ (early : Check) (first : early ≡ check_of (first_failing (early_checks h.submission (book_on h)))) (x : Hit)
      (hit : HitIn (passes early) h.submission.principal h.submission.action.action_id x h) where
    -- the ruling of an order, by what `order_check` says of any tables
    pub order-ruled : (r : Ruling)
        → ((k : Fixed) (t : Tables) (known : Bool)
        → ShowsOrder h.submission.action.capability known (get_or h.capabilities at no_capability)
        (get_or h.leases (spare_or (get_or h.capabilities at no_capability).resource) no_lease) t
        → early ≡ check_of (first_failing (early_checks h.submission (book_of k h.numbers t)))
        → (early ≡ Passed → x.found ≡ is_some (replayed h.submission (book_of k h.numbers t)))
        → failure_of r ≡ first_failing (admission h.submission (book_of k h.numbers t)))
        → failure_of r ≡ first_failing (admission h.submission (book_on h))
    unfolding replayed book_of
    order-ruled r says = says h.fixed (tables_in h) (ltb at 16) (order-shown h g at f) first (λ e. hit.found (ap passes e))

    pub receipt-so : {reason : Reason} → first_failing (admission h.submission (book_on h)) ≡ Some reason
        → original reason h.submission (book_on h) ≡ x.receipt
    unfolding replayed book_of
    receipt-so {reason} e =
        original-so h.submission (book_on h) reason x.receipt e (λ none-fails. hit.receipt (ap passes first ∙ ap (λ (o : Option Reason). passes (check_of o)) none-fails))
        (λ other fails. hit.unwanted (ap passes first ∙ ap (λ (o : Option Reason). passes (check_of o)) fails))
