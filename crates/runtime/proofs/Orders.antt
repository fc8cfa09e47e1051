-- What a rejection and an admission leave in a runtime, and what the checks of an order leave where they pass. Assumes nothing.
use Prim.Native.Nat.{ℕ, ◌+◌, ◌%◌, ◌<◌, ◌≤◌}
use mathlib.Core.Bool.{true}
use mathlib.Core.List.{List, map}
use Rattle.std.specs.Prelude.{Option, None}
use mathlib.Core.Path.{◌≡◌, refl, sym, ap, ◌∙◌, subst}
use borrow.Author.Tests.{leb-true, lt-ltb}
use native.Mathlib.Omega.{arith}
use lib.Dec.{ltb}
use lib.ListN.{length, get_or, set, take, length-set}
use lib.Seq.{take-set-lt, length-take-le}
use Rattle.model.specs.declared.Capability.{Capability}
use Rattle.model.specs.declared.Lease.{Lease}
use Rattle.model.specs.declared.LeaseSlot.{LeaseSlot}
use Rattle.model.specs.declared.Presence.{Presence}
use Rattle.model.specs.declared.Presence.TheVariants.{Absent, Present}
use Rattle.model.specs.declared.Reason.{Reason}
use Rattle.model.specs.Records.{no_lease, no_capability}
use Rattle.replay.specs.declared.ReplayRing.{ReplayRing}
use Rattle.replay.specs.Ring.{held}
use Rattle.replay.specs.Promises.{Pushed}
use Rattle.replay.proofs.Kept.{pushed}
use Rattle.rules.specs.Admission.{first_failing, ready, valid_until, admission, validate}
use Rattle.rules.specs.Protocol.{proceed}
use Rattle.rules.specs.Receipts.{top, order_receipt, numbered, rejected, is_rejected}
use Rattle.rules.specs.Rules.{record_receipt, reject, admit, with_sequence}
use Rattle.rules.proofs.Admission.{none-fails}
use Rattle.state.specs.State.{lease_if, lease_in, reaction_of, Sound, Moves}
use Rattle.state.specs.Stores.{awaiting}
use Rattle.state.specs.declared.AfterRecord.TheVariants as AfterRecord
use Rattle.state.specs.declared.Answer.TheVariants as Answer
use Rattle.state.specs.declared.Awaited.TheVariants as Awaited
use Rattle.decide_order.specs.Orders.{ShowsOrder, counting_to, sequenced, rejected as rejected_in, admitted}
use Rattle.decide_order.specs.declared.Admitting.{Admitting}
use Rattle.decide_order.specs.declared.Rejecting.{Rejecting}
use Rattle.decide_order.proofs.Shown.{found-sound, admitted-stand}
use Rattle.runtime.specs.declared.Runtime.{Runtime}
use Rattle.runtime.specs.Kept.{filled_in}
use Rattle.runtime.specs.Promises.{Kept, Good, MovesIn, PlacesIn, spare_or, FoundIn}
use Rattle.runtime.specs.Runtimes.{ring_in, tables_in, state_in, book_on}
use Rattle.runtime.proofs.Leases.{spare-shown}
use Rattle.runtime.proofs.Onto.{kind_in, kind_at, recorded-in, altered, kept-numbers, set_other}
use Rattle.runtime.proofs.Slots.{shown-set, shown-at}

-- a rejection -----------------------------------------------------------------------------------------------------------------

abbrev rejecting : Rejecting → Runtime → Runtime
rejecting r h = altered (counting_to r.invalid_count h.numbers) h.axis h.revoked h.leases h.active h

pub rejecting-kept : (h : Runtime) (r : Rejecting) → Kept h → Kept (rejecting r h)
rejecting-kept h r k = kept-numbers h k (counting_to r.invalid_count h.numbers) h.axis h.revoked

pub rejects : (h : Runtime) (reason : Reason) (r : Rejecting) (z : Runtime) (slot : ℕ) → Good h → PlacesIn true AfterRecord.Rejected (rejecting r h) z slot
    → Moves (rejected_in r (state_in h)) Answer.Item (proceed (reject reason h.submission (book_on h)))
    → MovesIn (filled_in slot r.receipt z) Answer.Item (proceed (reject reason h.submission (book_on h)))
unfolding rejected_in reject proceed record_receipt order_receipt numbered rejected is_rejected kind_in kind_at
rejects h reason r z slot k p v = recorded-in (rejecting r h) (rejecting-kept h r k.kept) k.started r.receipt true AfterRecord.Rejected z slot p _ refl v

-- an admission ----------------------------------------------------------------------------------------------------------------

abbrev pub sequenced_as : ℕ → LeaseSlot → LeaseSlot
sequenced_as sequence s =
    record {
      presence = s.presence;
      lease =
          record {
            id = s.lease.id;
            owner = s.lease.owner;
            resource = s.lease.resource;
            capabilities = s.lease.capabilities;
            expires_at = s.lease.expires_at;
            limits = s.lease.limits;
            last_sequence = sequence;
            last_renewal = s.lease.last_renewal;
          };
    }

-- with the axis of the lease that it is under
abbrev admitted_at : ℕ → Admitting → ℕ → Runtime → Runtime
admitted_at i a at h =
    record {
      starting = h.starting;
      waiting = awaiting Awaited.ObserveBefore;
      numbers = h.numbers;
      cursor = (h.cursor + 1) % 32;
      slot = h.slot;
      axis = h.axis;
      why = h.why;
      falling = h.falling;
      revoked = h.revoked;
      carrying = record { end = a.end; at = at; pre_state = h.carrying.pre_state };
      pending = h.pending;
      fixed = h.fixed;
      places = h.places;
      leases = set h.leases i (sequenced_as h.submission.action.sequence (get_or h.leases i no_lease));
      active = h.active;
      capabilities = h.capabilities;
      replay = set h.replay h.cursor (held a.entry);
      submission = h.submission;
      request = h.request;
      renewal = h.renewal;
      submitted = h.submitted;
      slots = h.slots;
    }

module _ (sequence i : ℕ) (ls : List LeaseSlot) (sized : length ls ≡ 9) (b : i < 8) where
  by-presence : (p : Presence) (l : Lease) → lease_in (sequenced_as sequence (record { presence = p; lease = l })) ≡ sequenced sequence (lease_if p l)
  unfolding sequenced with_sequence
  by-presence Absent l = refl
  by-presence Present l = refl

  sequenced-shown : map lease_in (take 8 (set ls i (sequenced_as sequence (get_or ls i no_lease))))
      ≡ set (map lease_in (take 8 ls)) i (sequenced sequence (get_or (map lease_in (take 8 ls)) i None))
  sequenced-shown =
      shown-set lease_in 8 ls i (sequenced_as sequence (get_or ls i no_lease)) b
      ∙ ap (λ (o : Option Lease). set (map lease_in (take 8 ls)) i o)
      (by-presence (get_or ls i no_lease).presence (get_or ls i no_lease).lease
      ∙ ap (sequenced sequence) (sym (shown-at lease_in no_lease 8 ls i b (rw sized (omega (arith, b))))))

module _ (h : Runtime) (k : Kept h) (a : Admitting) (at : ℕ) where
  abbrev made : ReplayRing
  made = record { entries = take 32 (set h.replay h.cursor (held a.entry)); cursor = (h.cursor + 1) % 32 }

  entered : Pushed (ring_in h) a.entry made
  entered =
      pushed (ring_in h) made a.entry k.placed.replay (length-take-le 32 h.replay (omega (arith, k.sized.replay)))
      (take-set-lt 32 h.replay h.cursor (held a.entry) k.placed.replay.within) refl

  module _ (b : (get_or h.capabilities at no_capability).resource < 8) where
    abbrev i : ℕ
    i = (get_or h.capabilities at no_capability).resource

    admits-state : state_in (admitted_at i a at h) ≡ admitted a (get_or h.capabilities at no_capability) h.submission.action.sequence (state_in h)
    unfolding admitted
    admits-state = rw (sequenced-shown h.submission.action.sequence i h.leases k.sized.leases b, entered.list)

    admits-kept : at < 17 → Kept (admitted_at i a at h)
    admits-kept inside =
        record {
          sized =
              record {
                leases = length-set h.leases i (sequenced_as h.submission.action.sequence (get_or h.leases i no_lease)) ∙ k.sized.leases;
                active = k.sized.active;
                capabilities = k.sized.capabilities;
                replay = length-set h.replay h.cursor (held a.entry) ∙ k.sized.replay;
                rejected = k.sized.rejected;
                others = k.sized.others;
                slots = k.sized.slots;
                lease =
                    ap lease_in
                    (set_other h.leases i 8 (sequenced_as h.submission.action.sequence (get_or h.leases i no_lease)) no_lease b)
                    ∙ k.sized.lease;
                order = k.sized.order;
              };
          placed =
              record {
                count = k.placed.count;
                slot = k.placed.slot;
                capability = inside;
                replay = entered.sound;
                receipts = k.placed.receipts;
              };
        }

-- the record of an order and the lease of its axis
module _ (h : Runtime) (g : Good h) (at : ℕ) (f : FoundIn h.submission.action.capability at h) where
  abbrev capability : Capability
  capability = get_or h.capabilities at no_capability

  abbrev slot : LeaseSlot
  slot = get_or h.leases (spare_or capability.resource) no_lease

  pub order-shown : ShowsOrder h.submission.action.capability (ltb at 16) capability slot (tables_in h)
  order-shown = record { found = f.found; shown = λ e. spare-shown h g capability.resource }

  module _ (e : first_failing (admission h.submission (book_on h)) ≡ None) where
    pub order-fits : valid_until h.submission ≤ top
    unfolding admission ready
    order-fits = leb-true _ _ (none-fails (admission h.submission (book_on h)) e).1.1.1.1.1.1.1.1.1.1.1.0

    pub order-stands : ShowsOrder h.submission.action.capability true capability slot (tables_in h)
    order-stands = (admitted-stand h.submission h.fixed h.numbers (tables_in h) order-shown e).0

    order-axis : capability.resource < 8
    order-axis =
        omega (arith, (found-sound (tables_in h).capabilities h.submission.action.capability capability g.sound.checked.each order-stands.found).0)

    pub admits-in : (a : Admitting)
        → Moves (admitted a capability h.submission.action.sequence (state_in h)) Answer.Item
        (proceed (admit (validate h.submission (book_on h)) h.submission (book_on h)))
        → MovesIn (admitted_at (spare_or capability.resource) a at h) Answer.Item
        (proceed (admit (validate h.submission (book_on h)) h.submission (book_on h)))
    admits-in a v =
        let b = order-axis in
        let s = admits-state h g.kept a at b in
        rw (lt-ltb capability.resource 8 b)
        (record {
          reaction = ap (reaction_of Answer.Item) s ∙ v.reaction;
          good = record { kept = admits-kept h g.kept a at b f.inside; sound = subst Sound (sym s) v.sound; started = g.started };
        })
