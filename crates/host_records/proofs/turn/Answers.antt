use Prim.Native.Nat.{ℕ}
use mathlib.Core.Bool.{Bool}
use Rattle.std.specs.Prelude.{Option}
use mathlib.Core.Path.{sym}
use Rattle.model.specs.declared.LeaseRequest.{LeaseRequest}
use Rattle.model.specs.declared.Observation.{Observation}
use Rattle.model.specs.declared.Renewal.{Renewal}
use Rattle.model.specs.declared.Submission.{Submission}
use Rattle.rules.specs.Protocol.{Calls, Replies, UpdateState, PollEstop, Acquire, Renew, Submit, Observed, Executed, FellBack}
use Rattle.format.specs.declared.TurnKind.{TurnKind}
use Rattle.format.specs.Decode.{word, turn_of}
use Rattle.host_records.proofs.Answers.{steps-at}
use Rattle.host_records.proofs.turn.Goals as goal

pub returns-in-Tick : goal.returns-in-Tick
unfolding turn_of
returns-in-Tick c = steps-at (λ (k : TurnKind). turn_of k c.args.words) (sym c.in-Tick.is) c.tick.ensures

pub returns-in-UpdateState : goal.returns-in-UpdateState
unfolding turn_of
returns-in-UpdateState c = steps-at (λ (k : TurnKind). turn_of k c.args.words) (sym c.in-UpdateState.is) (steps-at (λ (n : ℕ). Calls (UpdateState n (word c.args.words 1))) c.as_u32.ensures c.update_state.ensures)

pub returns-in-EmergencyStop : goal.returns-in-EmergencyStop
unfolding turn_of
returns-in-EmergencyStop c = steps-at (λ (k : TurnKind). turn_of k c.args.words) (sym c.in-EmergencyStop.is) c.emergency_stop.ensures

pub returns-in-PollEstop : goal.returns-in-PollEstop
unfolding turn_of
returns-in-PollEstop c = steps-at (λ (k : TurnKind). turn_of k c.args.words) (sym c.in-PollEstop.is) (steps-at (λ (n : ℕ). Calls (PollEstop n (word c.args.words 1))) c.as_u32-in-PollEstop.ensures c.poll_estop.ensures)

pub returns-in-RecoverLocal : goal.returns-in-RecoverLocal
unfolding turn_of
returns-in-RecoverLocal c = steps-at (λ (k : TurnKind). turn_of k c.args.words) (sym c.in-RecoverLocal.is) c.recover_local.ensures

pub returns-in-Acquire : goal.returns-in-Acquire
unfolding turn_of
returns-in-Acquire c = steps-at (λ (k : TurnKind). turn_of k c.args.words) (sym c.in-Acquire.is) (steps-at (λ (q : LeaseRequest). Calls (Acquire q (word c.args.words 1))) c.request_of.ensures c.acquire.ensures)

pub returns-in-Renew : goal.returns-in-Renew
unfolding turn_of
returns-in-Renew c = steps-at (λ (k : TurnKind). turn_of k c.args.words) (sym c.in-Renew.is) (steps-at (λ (q : Renewal). Calls (Renew q)) c.renewal_of.ensures c.renew.ensures)

pub returns-in-Cancel : goal.returns-in-Cancel
unfolding turn_of
returns-in-Cancel c = steps-at (λ (k : TurnKind). turn_of k c.args.words) (sym c.in-Cancel.is) c.cancel.ensures

pub returns-in-Submit : goal.returns-in-Submit
unfolding turn_of
returns-in-Submit c = steps-at (λ (k : TurnKind). turn_of k c.args.words) (sym c.in-Submit.is) (steps-at (λ (q : Submission). Calls (Submit q)) c.submission_of.ensures c.submit.ensures)

pub returns-in-Observed : goal.returns-in-Observed
unfolding turn_of
returns-in-Observed c = steps-at (λ (k : TurnKind). turn_of k c.args.words) (sym c.in-Observed.is) (steps-at (λ (o : Option Observation). Replies (Observed o)) c.observed_in.ensures c.observed.ensures)

pub returns-in-Executed : goal.returns-in-Executed
unfolding turn_of
returns-in-Executed c = steps-at (λ (k : TurnKind). turn_of k c.args.words) (sym c.in-Executed.is) (steps-at (λ (ok : Bool). Replies (Executed ok)) c.as_bool.ensures c.executed.ensures)

pub returns-in-FellBack : goal.returns-in-FellBack
unfolding turn_of
returns-in-FellBack c = steps-at (λ (k : TurnKind). turn_of k c.args.words) (sym c.in-FellBack.is) (steps-at (λ (ok : Bool). Replies (FellBack ok)) c.as_bool-in-FellBack.ensures c.fell_back.ensures)

pub returns-in-Recorded : goal.returns-in-Recorded
unfolding turn_of
returns-in-Recorded c = steps-at (λ (k : TurnKind). turn_of k c.args.words) (sym c.in-Recorded.is) c.recorded.ensures
