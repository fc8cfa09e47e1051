-- What the awaited reply goes on with, by where the state stands. Assumes nothing.
use mathlib.Core.Bool.{Bool, true, false, cond, ◌&&◌, false≢true}
use mathlib.Core.Path.{◌≡◌, refl, ap, ◌∙◌}
use lib.Dec.{leb}
use Rattle.model.specs.declared.Presence.TheVariants.{Absent, Present}
use Rattle.rules.specs.Admission.{is_armed}
use Rattle.rules.specs.Protocol.{Replies, Reaction, proceed, replied, resume, resumed, react}
use Rattle.rules.specs.Protocol as Protocol
use Rattle.rules.specs.Rules.{fail, dispatch, verify, verified, storm}
use Rattle.state.specs.declared.AfterRecord.{AfterRecord}
use Rattle.state.specs.declared.Awaited.{Awaited}
use Rattle.state.specs.State.{Hand, State, state, book_of, book_in, after_executed, after_record_of, answered_at, carries, item_at, phase_at, phase_of, output_of, reaction_of, InBounds, Carried, Sound}
use Rattle.decide_reply.specs.declared.Observed.{Observed}
use Rattle.decide_reply.specs.declared.OnExecuted.TheVariants as OnExecuted
use Rattle.decide_reply.specs.declared.OnFellBack.TheVariants as OnFellBack
use Rattle.decide_reply.specs.declared.OnObserved.TheVariants as OnObserved
use Rattle.decide_reply.specs.declared.OnRecorded.TheVariants as OnRecorded
use Rattle.decide_reply.specs.Replies.{over, seen_by, failed_by, reason_by, observation_in, ObservesAs, ExecutesAs, FallsBackAs, RecordsAs}
use Rattle.decide_reply.proofs.Turns.{reply-goes}

-- the hand altered, and nothing else
pub hand-sound : {s : State} (h : Hand) → Sound s → InBounds h.falling → Carried h.waiting.awaited h.order s.tables.leases
    → Sound (state s.fixed s.numbers s.tables s.asked h)
hand-sound h k g o = record { checked = k.checked; sized = k.sized; counted = k.counted; falling = g; order = o }

-- an observation -----------------------------------------------------------------------------------------------------------

module _ (s : State) (o : Observed) where
  -- an order that fails while this reply is awaited
  abbrev failing : Awaited → Reaction
  failing w =
      proceed
      (fail s.hand.order.capability (reason_by (observation_in o)) (failed_by w s.hand.order.pre_state s.asked.submission.now (observation_in o))
      s.asked.submission (book_in s))

  fails-at : {w : Awaited} → s.hand.waiting.awaited ≡ w → failing w ≡ react (phase_of s) (Replies (Protocol.Observed (observation_in o)))
      → ObservesAs OnObserved.Fails s o
  unfolding ObservesAs
  fails-at e k = ap failing e ∙ k

  pub before-fails : s.hand.waiting.awaited ≡ Awaited.ObserveBefore → o.presence ≡ Absent → ObservesAs OnObserved.Fails s o
  unfolding phase_at replied resumed resume dispatch reason_by failed_by
  before-fails e p = fails-at e (rw p (reply-goes s _ e refl))

  pub before-executes : Sound s → s.hand.waiting.awaited ≡ Awaited.ObserveBefore → o.presence ≡ Present → ObservesAs OnObserved.Executes s o
  unfolding ObservesAs reaction_of output_of item_at phase_of phase_at after_executed replied resumed resume dispatch proceed
  before-executes k e p =
      record {
        reaction = rw p (reply-goes s _ e refl);
        sound = hand-sound _ k k.falling (record { axis = k.order.axis; leased = λ c. k.order.leased (ap carries e) });
      }

  pub after-fails : s.hand.waiting.awaited ≡ Awaited.ObserveAfter → o.presence ≡ Absent → ObservesAs OnObserved.Fails s o
  unfolding phase_at replied resumed resume verify reason_by failed_by seen_by
  after-fails e p = fails-at e (rw p (reply-goes s _ e refl))

  pub after-verifies : (t : Bool) → s.hand.waiting.awaited ≡ Awaited.ObserveAfter → o.presence ≡ Present
      → verified s.hand.order.capability.verification s.asked.submission.action.parameters o.observation ≡ t
      → ObservesAs (cond t OnObserved.Completes OnObserved.Fails) s o
  unfolding ObservesAs phase_at replied resumed resume verify reason_by failed_by seen_by
  after-verifies true e p v = (e, rw p (reply-goes s _ e (rw v)))
  after-verifies false e p v = fails-at e (rw p (reply-goes s _ e (rw v)))

-- an execution and a fallback ------------------------------------------------------------------------------------------------

pub executed : (s : State) (ok : Bool) → Sound s → s.hand.waiting.awaited ≡ Awaited.Execute
    → ExecutesAs (cond ok OnExecuted.Observes OnExecuted.Fails) s ok
unfolding ExecutesAs reaction_of output_of item_at phase_of phase_at after_executed replied resumed resume proceed
executed s true k e =
    record {
      reaction = reply-goes s _ e refl;
      sound = hand-sound _ k k.falling (record { axis = k.order.axis; leased = λ c. k.order.leased (ap carries e) });
    }
executed s false k e = reply-goes s _ e refl

pub fell-back : (s : State) (ok : Bool) → s.hand.waiting.awaited ≡ Awaited.Fallback → FallsBackAs OnFellBack.Tells s ok
unfolding FallsBackAs phase_at replied resumed resume
fell-back s ok e = reply-goes s _ e refl

-- a receipt ------------------------------------------------------------------------------------------------------------------

over-sound : (s : State) (after : AfterRecord) → Sound s → Sound (over (record { awaited = Awaited.Nothing; after_record = after }) s)
over-sound s after k = hand-sound _ k k.falling (record { axis = k.order.axis; leased = λ c. absurd (false≢true c) })

module _ (s : State) (e : s.hand.waiting.awaited ≡ Awaited.Record) where
  pub resumes : s.hand.waiting.after_record ≡ AfterRecord.Fallback → RecordsAs OnRecorded.Resumes s
  unfolding RecordsAs book_of phase_at after_record_of replied resumed resume
  resumes a = reply-goes s _ e (rw a)

  pub leases : Sound s → s.hand.waiting.after_record ≡ AfterRecord.Lease → RecordsAs OnRecorded.Leased s
  unfolding RecordsAs reaction_of output_of phase_of phase_at after_record_of replied resumed resume proceed
  leases k a = record { reaction = reply-goes s _ e (rw a); sound = over-sound s _ k }

  pub submits : Sound s → s.hand.waiting.after_record ≡ AfterRecord.Executed → RecordsAs OnRecorded.Submitted s
  unfolding RecordsAs reaction_of output_of answered_at phase_of phase_at after_record_of replied resumed resume proceed
  submits k a = record { reaction = reply-goes s _ e (rw a); sound = over-sound s _ k }

  pub fails : s.hand.waiting.after_record ≡ AfterRecord.Failed → RecordsAs OnRecorded.Fails s
  unfolding RecordsAs phase_at after_record_of replied resumed resume
  fails a = reply-goes s _ e (rw a)

  -- rejections at or above the limit while Armed
  pub storms : (t : Bool) → Sound s → s.hand.waiting.after_record ≡ AfterRecord.Rejected
      → (leb s.fixed.config.invalid_limit s.numbers.invalid_count && is_armed s.numbers.mode.state) ≡ t
      → RecordsAs (cond t OnRecorded.Storms OnRecorded.Submitted) s
  unfolding RecordsAs reaction_of output_of answered_at book_of phase_of phase_at after_record_of storm replied resumed resume proceed
  storms true k a v = reply-goes s _ e (rw (a, v))
  storms false k a v = record { reaction = reply-goes s _ e (rw (a, v)); sound = over-sound s _ k }
