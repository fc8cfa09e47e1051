-- A runtime with other numbers, or another place of the call in hand, and its tables as they were. Assumes nothing.
use Prim.Native.Nat.{ℕ}
use mathlib.Core.Bool.{Bool, true, not, false≢true}
use mathlib.Core.Path.{◌≡◌, refl, sym, ap}
use lib.Dec.{T}
use lib.ListN.{get_or}
use Rattle.model.specs.Records.{no_receipt}
use Rattle.model.specs.declared.Reason.{Reason}
use Rattle.model.specs.declared.Receipt.{Receipt}
use Rattle.rules.specs.Interaction.{Done, Returned, Refused, Submitted}
use Rattle.rules.specs.Protocol.{proceed}
use Rattle.rules.specs.Rules.{trip, sense}
use Rattle.state.specs.State.{Tables, Carried, Counted, book_of, after_trip, phase_at, phase_of, output_of, reaction_of}
use Rattle.state.specs.Stores.{awaiting, Leads, Takes}
use Rattle.state.specs.declared.AfterTrip.TheVariants as AfterTrip
use Rattle.state.specs.declared.Answer.TheVariants as Answer
use Rattle.state.specs.declared.Awaited.TheVariants as Awaited
use Rattle.state.specs.declared.Course.{Course}
use Rattle.state.specs.declared.Fixed.{Fixed}
use Rattle.state.specs.declared.Mode.{Mode}
use Rattle.state.specs.declared.Numbers.{Numbers}
use Rattle.state.specs.declared.Pending.{Pending}
use Rattle.state.specs.declared.Waiting.{Waiting}
use Rattle.state.specs.declared.Why.{Why}
use Rattle.decide_flags.specs.Flags.{stamped}
use Rattle.decide_tick.specs.declared.Begun.{Begun}
use Rattle.decide_tick.specs.declared.Begun.TheVariants.{Quiet, Busy}
use Rattle.decide_tick.specs.Ticks.{ticked, OpensAs}
use Rattle.runtime.specs.declared.Runtime.{Runtime}
use Rattle.runtime.specs.Promises.{Kept, Good, MovesIn, is_quiet, BegunAs, Begins, Tightens, SoonestIn}
use Rattle.runtime.specs.Runtimes.{tables_in, hand_in, asked_in, asked_at, state_in, book_on, order_in}
use Rattle.runtime.proofs.Courses.{is-yes, leads}

abbrev altered : Waiting → Numbers → Why → Pending → Receipt → Runtime → Runtime
altered w n y p m rt =
    record {
      starting = rt.starting;
      waiting = w;
      numbers = n;
      cursor = rt.cursor;
      slot = rt.slot;
      axis = rt.axis;
      why = y;
      falling = rt.falling;
      revoked = rt.revoked;
      carrying = rt.carrying;
      pending = p;
      fixed = rt.fixed;
      places = rt.places;
      leases = rt.leases;
      active = rt.active;
      capabilities = rt.capabilities;
      replay = rt.replay;
      submission = rt.submission;
      request = rt.request;
      renewal = rt.renewal;
      submitted = m;
      slots = rt.slots;
    }

module _ (h : Runtime) (k : Good h) (w : Waiting) (n : Numbers) (y : Why) (p : Pending) (m : Receipt) where
  altered-kept : Kept (altered w n y p m h)
  altered-kept =
      let z = k.kept.sized in
      let q = k.kept.placed in
      record {
        sized =
            record {
              leases = z.leases;
              active = z.active;
              capabilities = z.capabilities;
              replay = z.replay;
              rejected = z.rejected;
              others = z.others;
              slots = z.slots;
              lease = z.lease;
              order = z.order;
            };
        placed = record { count = q.count; slot = q.slot; capability = q.capability; replay = q.replay; receipts = q.receipts };
      }

  altered-good : Counted n.held n.soonest (tables_in h).leases (tables_in h).active → Carried w.awaited (order_in h) (tables_in h).leases
      → Good (altered w n y p m h)
  altered-good c o =
      record {
        kept = altered-kept;
        sound = record { checked = k.sound.checked; sized = k.sound.sized; counted = c; falling = k.sound.falling; order = o };
        started = k.started;
      }

-- other numbers, which count the leases as before ---------------------------------------------------------------------------

abbrev numbered : Numbers → Runtime → Runtime
numbered n h = altered h.waiting n h.why h.pending h.submitted h

-- a tick that is quiet
pub begins-quiet : (h : Runtime) (time : ℕ) (g : Begun) (mode : Mode) → Good h → T (is_quiet g) → OpensAs g h.fixed h.numbers time mode
    → Begins time h (numbered (ticked time mode h.numbers) h) g
unfolding OpensAs BegunAs
begins-quiet h time Quiet mode k t o =
    record {
      begun = o (tables_in h) (asked_in h) (hand_in h) k.sound;
      asked = refl;
      waiting = refl;
      good = altered-good h k h.waiting (ticked time mode h.numbers) h.why h.pending h.submitted k.sound.counted k.sound.order;
    }
begins-quiet h time Busy mode k t o = absurd t

-- .. and one that is not
pub begins-busy : (h : Runtime) (time : ℕ) (g : Begun) → Good h → T (not (is_quiet g)) → Begins time h h g
unfolding BegunAs
begins-busy h time Quiet k t = absurd t
begins-busy h time Busy k t = record { begun = refl; asked = refl; waiting = refl; good = k }

abbrev sooner : ℕ → Numbers → Numbers
sooner soonest n =
    record {
      next_receipt = n.next_receipt;
      next_lease = n.next_lease;
      epoch = n.epoch;
      state_at = n.state_at;
      last_tick = n.last_tick;
      flags = n.flags;
      estop_seen = n.estop_seen;
      invalid_count = n.invalid_count;
      mode = n.mode;
      held = n.held;
      soonest = soonest;
    }

pub tightens : (h : Runtime) (soonest : ℕ) → Good h → SoonestIn soonest h → Tightens h (numbered (sooner soonest h.numbers) h)
unfolding book_of
tightens h soonest k s =
    record {
      book = refl;
      asked = refl;
      good =
          altered-good h k h.waiting (sooner soonest h.numbers) h.why h.pending h.submitted
          (record { held = k.sound.counted.held; leases = s.leases; active = s.active }) k.sound.order;
    }

-- an answer, and no reply awaited -------------------------------------------------------------------------------------------

abbrev rested : Numbers → Why → Runtime → Runtime
rested n y h = altered (awaiting Awaited.Nothing) n y h.pending h.submitted h

rested-good : (h : Runtime) (n : Numbers) (y : Why) → Good h → Counted n.held n.soonest (tables_in h).leases (tables_in h).active → Good (rested n y h)
rested-good h n y k c =
    altered-good h k (awaiting Awaited.Nothing) n y h.pending h.submitted c
    (record { axis = k.sound.order.axis; leased = λ e. absurd (false≢true e) })

pub refuses : (h : Runtime) (reason : Reason) → Good h
    → MovesIn (rested h.numbers (record { reason = reason }) h) Answer.Refused (proceed (Done (book_on h) (Refused reason)))
unfolding reaction_of output_of phase_of phase_at proceed
refuses h reason k = record { reaction = refl; good = rested-good h h.numbers (record { reason = reason }) k k.sound.counted }

pub returned : (h : Runtime) → Good h → MovesIn (rested h.numbers h.why h) Answer.Returned (proceed (Done (book_on h) Returned))
unfolding reaction_of output_of phase_of phase_at proceed
returned h k = record { reaction = refl; good = rested-good h h.numbers h.why k k.sound.counted }

-- flags as they were
pub senses-same : (h : Runtime) (flags time : ℕ) (same : Bool) → Good h → T same
    → (same ≡ true → (f : Fixed) (t : Tables) → sense flags time (book_of f h.numbers t) ≡ Done (book_of f (stamped time h.numbers) t) Returned)
    → MovesIn (rested (stamped time h.numbers) h.why h) Answer.Returned (proceed (sense flags time (book_on h)))
unfolding reaction_of output_of phase_of phase_at proceed
senses-same h flags time same k t e =
    record {
      reaction = ap proceed (sym (e (is-yes same t) h.fixed (tables_in h)));
      good = rested-good h (stamped time h.numbers) h.why k k.sound.counted;
    }

-- the receipt in hand, kept to be answered after a trip ---------------------------------------------------------------------

abbrev pub submitting : Runtime → Runtime
submitting h = altered h.waiting h.numbers h.why h.pending (get_or h.slots h.slot no_receipt) h

pub submitting-good : (h : Runtime) → Good h → Good (submitting h)
submitting-good h k =
    altered-good h k h.waiting h.numbers h.why h.pending (get_or h.slots h.slot no_receipt) k.sound.counted k.sound.order

pub trips-order : (h : Runtime) (reason : Reason) (c : Course) → Good h
    → Takes h.fixed h.numbers c (λ b q. trip reason h.submission.now b (after_trip AfterTrip.Submit 0 h.submission.now q))
    → Leads c (state_in (submitting h)) (trip reason h.submission.now (book_on h) (λ b. Done b (Submitted (hand_in h).receipt)))
unfolding after_trip
trips-order h reason c k p =
    leads (submitting h) c (λ b q. trip reason h.submission.now b (after_trip AfterTrip.Submit 0 h.submission.now q)) (submitting-good h k) p

-- the time of the call in hand ------------------------------------------------------------------------------------------------

abbrev pub timed : ℕ → Runtime → Runtime
timed time h = altered h.waiting h.numbers h.why (asked_at time h).pending h.submitted h

pub timed-good : (h : Runtime) (time : ℕ) → Good h → Good (timed time h)
timed-good h time k =
    altered-good h k h.waiting h.numbers h.why (asked_at time h).pending h.submitted k.sound.counted k.sound.order
