-- The promises that specs/Lent and specs/Told take are those of the functions themselves: what each public function of `runtime` asks and ensures, by
-- `refl`. A weaker contract there is refused here. Assumes nothing.
use Prim.Native.Nat.{ℕ}
use mathlib.Core.Bool.{Bool}
use mathlib.Core.List.{List}
use mathlib.Core.Path.{◌≡◌, refl}
use seplogic.Ra.Ura.{Ura}
use prog.Memory.{Memory}
use prog.Routine.{Routine}
use base.Logic.{SProp, emp}
use base.Fml.{Lft}
use types.Logic.{Logic}
use contract.Monad.{Fun, fact}
use denote.Ref.{Bor, MutBor}
use Rattle.model.specs.declared.Capability.{Capability}
use Rattle.model.specs.declared.Config.{Config}
use Rattle.model.specs.declared.Lease.{Lease}
use Rattle.model.specs.declared.LeaseRequest.{LeaseRequest}
use Rattle.model.specs.declared.Reason.{Reason}
use Rattle.model.specs.declared.Receipt.{Receipt}
use Rattle.model.specs.declared.Renewal.{Renewal}
use Rattle.model.specs.declared.Submission.{Submission}
use Rattle.rules.specs.Protocol.{Calls, Tick, UpdateState, EmergencyStop, PollEstop, RecoverLocal, Acquire, Renew, Cancel, Submit, Replies, Observed as ObservedReply, Executed as ExecutedReply, FellBack as FellBackReply, Recorded as RecordedReply, ReadEpoch, ReadBootId, ReadFlags, ReadReceiptCount, start as start_rule, react}
use Rattle.state.specs.declared.Answer.{Answer}
use Rattle.decide_read.specs.declared.CapabilityShown.{CapabilityShown}
use Rattle.decide_read.specs.declared.ConfigShown.{ConfigShown}
use Rattle.decide_read.specs.declared.ItemShown.{ItemShown}
use Rattle.decide_read.specs.declared.LeaseShown.{LeaseShown}
use Rattle.decide_read.specs.declared.NumberShown.{NumberShown}
use Rattle.decide_read.specs.declared.ReceiptShown.{ReceiptShown}
use Rattle.decide_read.specs.declared.SnapshotShown.{SnapshotShown}
use Rattle.decide_read.specs.declared.StateShown.{StateShown}
use Rattle.decide_reply.specs.Replies.{observation_in}
use Rattle.decide_reply.specs.declared.Observed.{Observed}
use Rattle.decide_start.specs.Starts.{start_on}
use Rattle.runtime.specs.declared.Created.{Created}
use Rattle.runtime.specs.declared.Runtime.{Runtime}
use Rattle.runtime.specs.Stages.{phase_in, RuntimeSound, Moves, Turns, StateReads, NumberReads, ConfigReads, SnapshotReads, LeaseReads, CapabilityReads, ReceiptReads}
use Rattle.runtime.specs.contracts.new as f-new
use Rattle.runtime.specs.contracts.tick as f-tick
use Rattle.runtime.specs.contracts.update_state as f-update-state
use Rattle.runtime.specs.contracts.emergency_stop as f-emergency-stop
use Rattle.runtime.specs.contracts.poll_estop as f-poll-estop
use Rattle.runtime.specs.contracts.recover_local as f-recover-local
use Rattle.runtime.specs.contracts.acquire as f-acquire
use Rattle.runtime.specs.contracts.renew as f-renew
use Rattle.runtime.specs.contracts.cancel as f-cancel
use Rattle.runtime.specs.contracts.submit as f-submit
use Rattle.runtime.specs.contracts.observed as f-observed
use Rattle.runtime.specs.contracts.executed as f-executed
use Rattle.runtime.specs.contracts.fell_back as f-fell-back
use Rattle.runtime.specs.contracts.recorded as f-recorded
use Rattle.runtime.specs.contracts.item as f-item
use Rattle.runtime.specs.contracts.answered_lease as f-answered-lease
use Rattle.runtime.specs.contracts.answered_receipt as f-answered-receipt
use Rattle.runtime.specs.contracts.refusal as f-refusal
use Rattle.runtime.specs.contracts.state as f-state
use Rattle.runtime.specs.contracts.epoch as f-epoch
use Rattle.runtime.specs.contracts.boot_id as f-boot-id
use Rattle.runtime.specs.contracts.flags as f-flags
use Rattle.runtime.specs.contracts.lease as f-lease
use Rattle.runtime.specs.contracts.capability as f-capability
use Rattle.runtime.specs.contracts.receipt_count as f-receipt-count
use Rattle.runtime.specs.contracts.config as f-config
use Rattle.runtime.specs.contracts.snapshot as f-snapshot
use Rattle.runtime.specs.contracts.receipt as f-receipt
use Rattle.lives.specs.Told.{ItemTold, LeaseTold, ReceiptTold, RefusalTold}

module _ {M : Type 1} {𝓤 : Ura M} (𝓛 : Logic 𝓤) (m : Memory → SProp 𝓤) (run : Routine → Fun 𝓤) (κ : Lft) where
  -- a start ------------------------------------------------------------------------------------------------------------

  pub new-says : (config : Config) (list : Bor (List Capability)) (boot time flags : ℕ) (r : Created) → (f-new.clauses 𝓛 m run (κ, tt) (config, (list, (boot, (time, (flags, tt)))))).ensures tt r (config, (list, (boot, (time, (flags, tt))))) ≡ fact 𝓤 (Moves r.runtime r.answer (start_rule (start_on config list.now boot time flags)))
  new-says config list boot time flags r = refl

  pub new-asks : (config : Config) (list : Bor (List Capability)) (boot time flags : ℕ) → (f-new.clauses 𝓛 m run (κ, tt) (config, (list, (boot, (time, (flags, tt)))))).requires tt ≡ emp 𝓤
  new-asks config list boot time flags = refl

  -- calls ---------------------------------------------------------------------------------------------------------------

  pub tick-says : (p after : MutBor Runtime) (time : ℕ) (r : Answer) → (f-tick.clauses 𝓛 m run (κ, tt) (p, (time, tt))).ensures tt r (after, (time, tt)) ≡ fact 𝓤 (Turns p.now after.now r (react (phase_in p.now) (Calls (Tick time))))
  tick-says p after time r = refl

  pub tick-asks : (p : MutBor Runtime) (time : ℕ) → (f-tick.clauses 𝓛 m run (κ, tt) (p, (time, tt))).requires tt ≡ fact 𝓤 (RuntimeSound p.now)
  tick-asks p time = refl

  pub update-state-says : (p after : MutBor Runtime) (flags time : ℕ) (r : Answer) → (f-update-state.clauses 𝓛 m run (κ, tt) (p, (flags, (time, tt)))).ensures tt r (after, (flags, (time, tt))) ≡ fact 𝓤 (Turns p.now after.now r (react (phase_in p.now) (Calls (UpdateState flags time))))
  update-state-says p after flags time r = refl

  pub update-state-asks : (p : MutBor Runtime) (flags time : ℕ) → (f-update-state.clauses 𝓛 m run (κ, tt) (p, (flags, (time, tt)))).requires tt ≡ fact 𝓤 (RuntimeSound p.now)
  update-state-asks p flags time = refl

  pub emergency-stop-says : (p after : MutBor Runtime) (time : ℕ) (r : Answer) → (f-emergency-stop.clauses 𝓛 m run (κ, tt) (p, (time, tt))).ensures tt r (after, (time, tt)) ≡ fact 𝓤 (Turns p.now after.now r (react (phase_in p.now) (Calls (EmergencyStop time))))
  emergency-stop-says p after time r = refl

  pub emergency-stop-asks : (p : MutBor Runtime) (time : ℕ) → (f-emergency-stop.clauses 𝓛 m run (κ, tt) (p, (time, tt))).requires tt ≡ fact 𝓤 (RuntimeSound p.now)
  emergency-stop-asks p time = refl

  pub poll-estop-says : (p after : MutBor Runtime) (raised time : ℕ) (r : Answer) → (f-poll-estop.clauses 𝓛 m run (κ, tt) (p, (raised, (time, tt)))).ensures tt r (after, (raised, (time, tt))) ≡ fact 𝓤 (Turns p.now after.now r (react (phase_in p.now) (Calls (PollEstop raised time))))
  poll-estop-says p after raised time r = refl

  pub poll-estop-asks : (p : MutBor Runtime) (raised time : ℕ) → (f-poll-estop.clauses 𝓛 m run (κ, tt) (p, (raised, (time, tt)))).requires tt ≡ fact 𝓤 (RuntimeSound p.now)
  poll-estop-asks p raised time = refl

  pub recover-local-says : (p after : MutBor Runtime) (time : ℕ) (r : Answer) → (f-recover-local.clauses 𝓛 m run (κ, tt) (p, (time, tt))).ensures tt r (after, (time, tt)) ≡ fact 𝓤 (Turns p.now after.now r (react (phase_in p.now) (Calls (RecoverLocal time))))
  recover-local-says p after time r = refl

  pub recover-local-asks : (p : MutBor Runtime) (time : ℕ) → (f-recover-local.clauses 𝓛 m run (κ, tt) (p, (time, tt))).requires tt ≡ fact 𝓤 (RuntimeSound p.now)
  recover-local-asks p time = refl

  pub acquire-says : (p after : MutBor Runtime) (request : LeaseRequest) (time : ℕ) (r : Answer) → (f-acquire.clauses 𝓛 m run (κ, tt) (p, (request, (time, tt)))).ensures tt r (after, (request, (time, tt))) ≡ fact 𝓤 (Turns p.now after.now r (react (phase_in p.now) (Calls (Acquire request time))))
  acquire-says p after request time r = refl

  pub acquire-asks : (p : MutBor Runtime) (request : LeaseRequest) (time : ℕ) → (f-acquire.clauses 𝓛 m run (κ, tt) (p, (request, (time, tt)))).requires tt ≡ fact 𝓤 (RuntimeSound p.now)
  acquire-asks p request time = refl

  pub renew-says : (p after : MutBor Runtime) (renewal : Renewal) (r : Answer) → (f-renew.clauses 𝓛 m run (κ, tt) (p, (renewal, tt))).ensures tt r (after, (renewal, tt)) ≡ fact 𝓤 (Turns p.now after.now r (react (phase_in p.now) (Calls (Renew renewal))))
  renew-says p after renewal r = refl

  pub renew-asks : (p : MutBor Runtime) (renewal : Renewal) → (f-renew.clauses 𝓛 m run (κ, tt) (p, (renewal, tt))).requires tt ≡ fact 𝓤 (RuntimeSound p.now)
  renew-asks p renewal = refl

  pub cancel-says : (p after : MutBor Runtime) (owner lease time : ℕ) (r : Answer) → (f-cancel.clauses 𝓛 m run (κ, tt) (p, (owner, (lease, (time, tt))))).ensures tt r (after, (owner, (lease, (time, tt)))) ≡ fact 𝓤 (Turns p.now after.now r (react (phase_in p.now) (Calls (Cancel owner lease time))))
  cancel-says p after owner lease time r = refl

  pub cancel-asks : (p : MutBor Runtime) (owner lease time : ℕ) → (f-cancel.clauses 𝓛 m run (κ, tt) (p, (owner, (lease, (time, tt))))).requires tt ≡ fact 𝓤 (RuntimeSound p.now)
  cancel-asks p owner lease time = refl

  pub submit-says : (p after : MutBor Runtime) (submission : Submission) (r : Answer) → (f-submit.clauses 𝓛 m run (κ, tt) (p, (submission, tt))).ensures tt r (after, (submission, tt)) ≡ fact 𝓤 (Turns p.now after.now r (react (phase_in p.now) (Calls (Submit submission))))
  submit-says p after submission r = refl

  pub submit-asks : (p : MutBor Runtime) (submission : Submission) → (f-submit.clauses 𝓛 m run (κ, tt) (p, (submission, tt))).requires tt ≡ fact 𝓤 (RuntimeSound p.now)
  submit-asks p submission = refl

  -- replies -------------------------------------------------------------------------------------------------------------

  pub observed-says : (p after : MutBor Runtime) (reply : Observed) (r : Answer) → (f-observed.clauses 𝓛 m run (κ, tt) (p, (reply, tt))).ensures tt r (after, (reply, tt)) ≡ fact 𝓤 (Turns p.now after.now r (react (phase_in p.now) (Replies (ObservedReply (observation_in reply)))))
  observed-says p after reply r = refl

  pub observed-asks : (p : MutBor Runtime) (reply : Observed) → (f-observed.clauses 𝓛 m run (κ, tt) (p, (reply, tt))).requires tt ≡ fact 𝓤 (RuntimeSound p.now)
  observed-asks p reply = refl

  pub executed-says : (p after : MutBor Runtime) (ok : Bool) (r : Answer) → (f-executed.clauses 𝓛 m run (κ, tt) (p, (ok, tt))).ensures tt r (after, (ok, tt)) ≡ fact 𝓤 (Turns p.now after.now r (react (phase_in p.now) (Replies (ExecutedReply ok))))
  executed-says p after ok r = refl

  pub executed-asks : (p : MutBor Runtime) (ok : Bool) → (f-executed.clauses 𝓛 m run (κ, tt) (p, (ok, tt))).requires tt ≡ fact 𝓤 (RuntimeSound p.now)
  executed-asks p ok = refl

  pub fell-back-says : (p after : MutBor Runtime) (ok : Bool) (r : Answer) → (f-fell-back.clauses 𝓛 m run (κ, tt) (p, (ok, tt))).ensures tt r (after, (ok, tt)) ≡ fact 𝓤 (Turns p.now after.now r (react (phase_in p.now) (Replies (FellBackReply ok))))
  fell-back-says p after ok r = refl

  pub fell-back-asks : (p : MutBor Runtime) (ok : Bool) → (f-fell-back.clauses 𝓛 m run (κ, tt) (p, (ok, tt))).requires tt ≡ fact 𝓤 (RuntimeSound p.now)
  fell-back-asks p ok = refl

  pub recorded-says : (p after : MutBor Runtime) (r : Answer) → (f-recorded.clauses 𝓛 m run (κ, tt) (p, tt)).ensures tt r (after, tt) ≡ fact 𝓤 (Turns p.now after.now r (react (phase_in p.now) (Replies RecordedReply)))
  recorded-says p after r = refl

  pub recorded-asks : (p : MutBor Runtime) → (f-recorded.clauses 𝓛 m run (κ, tt) (p, tt)).requires tt ≡ fact 𝓤 (RuntimeSound p.now)
  recorded-asks p = refl

  -- what a host sees ----------------------------------------------------------------------------------------------------

  pub item-says : (p : Bor Runtime) (r : ItemShown) → (f-item.clauses 𝓛 m run (κ, tt) (p, tt)).ensures tt r (p, tt) ≡ fact 𝓤 (ItemTold p.now r)
  item-says p r = refl

  pub item-asks : (p : Bor Runtime) → (f-item.clauses 𝓛 m run (κ, tt) (p, tt)).requires tt ≡ fact 𝓤 (RuntimeSound p.now)
  item-asks p = refl

  pub answered-lease-says : (p : Bor Runtime) (r : Lease) → (f-answered-lease.clauses 𝓛 m run (κ, tt) (p, tt)).ensures tt r (p, tt) ≡ fact 𝓤 (LeaseTold p.now r)
  answered-lease-says p r = refl

  pub answered-lease-asks : (p : Bor Runtime) → (f-answered-lease.clauses 𝓛 m run (κ, tt) (p, tt)).requires tt ≡ fact 𝓤 (RuntimeSound p.now)
  answered-lease-asks p = refl

  pub answered-receipt-says : (p : Bor Runtime) (r : Receipt) → (f-answered-receipt.clauses 𝓛 m run (κ, tt) (p, tt)).ensures tt r (p, tt) ≡ fact 𝓤 (ReceiptTold p.now r)
  answered-receipt-says p r = refl

  pub answered-receipt-asks : (p : Bor Runtime) → (f-answered-receipt.clauses 𝓛 m run (κ, tt) (p, tt)).requires tt ≡ fact 𝓤 (RuntimeSound p.now)
  answered-receipt-asks p = refl

  pub refusal-says : (p : Bor Runtime) (r : Reason) → (f-refusal.clauses 𝓛 m run (κ, tt) (p, tt)).ensures tt r (p, tt) ≡ fact 𝓤 (RefusalTold p.now r)
  refusal-says p r = refl

  pub refusal-asks : (p : Bor Runtime) → (f-refusal.clauses 𝓛 m run (κ, tt) (p, tt)).requires tt ≡ emp 𝓤
  refusal-asks p = refl

  -- readings ------------------------------------------------------------------------------------------------------------

  pub state-says : (p : Bor Runtime) (r : StateShown) → (f-state.clauses 𝓛 m run (κ, tt) (p, tt)).ensures tt r (p, tt) ≡ fact 𝓤 (StateReads p.now r)
  state-says p r = refl

  pub state-asks : (p : Bor Runtime) → (f-state.clauses 𝓛 m run (κ, tt) (p, tt)).requires tt ≡ emp 𝓤
  state-asks p = refl

  pub epoch-says : (p : Bor Runtime) (r : NumberShown) → (f-epoch.clauses 𝓛 m run (κ, tt) (p, tt)).ensures tt r (p, tt) ≡ fact 𝓤 (NumberReads ReadEpoch p.now r)
  epoch-says p r = refl

  pub epoch-asks : (p : Bor Runtime) → (f-epoch.clauses 𝓛 m run (κ, tt) (p, tt)).requires tt ≡ emp 𝓤
  epoch-asks p = refl

  pub boot-id-says : (p : Bor Runtime) (r : NumberShown) → (f-boot-id.clauses 𝓛 m run (κ, tt) (p, tt)).ensures tt r (p, tt) ≡ fact 𝓤 (NumberReads ReadBootId p.now r)
  boot-id-says p r = refl

  pub boot-id-asks : (p : Bor Runtime) → (f-boot-id.clauses 𝓛 m run (κ, tt) (p, tt)).requires tt ≡ emp 𝓤
  boot-id-asks p = refl

  pub flags-says : (p : Bor Runtime) (r : NumberShown) → (f-flags.clauses 𝓛 m run (κ, tt) (p, tt)).ensures tt r (p, tt) ≡ fact 𝓤 (NumberReads ReadFlags p.now r)
  flags-says p r = refl

  pub flags-asks : (p : Bor Runtime) → (f-flags.clauses 𝓛 m run (κ, tt) (p, tt)).requires tt ≡ emp 𝓤
  flags-asks p = refl

  pub lease-says : (p : Bor Runtime) (axis : ℕ) (r : LeaseShown) → (f-lease.clauses 𝓛 m run (κ, tt) (p, (axis, tt))).ensures tt r (p, (axis, tt)) ≡ fact 𝓤 (LeaseReads axis p.now r)
  lease-says p axis r = refl

  pub lease-asks : (p : Bor Runtime) (axis : ℕ) → (f-lease.clauses 𝓛 m run (κ, tt) (p, (axis, tt))).requires tt ≡ fact 𝓤 (RuntimeSound p.now)
  lease-asks p axis = refl

  pub capability-says : (p : Bor Runtime) (index : ℕ) (r : CapabilityShown) → (f-capability.clauses 𝓛 m run (κ, tt) (p, (index, tt))).ensures tt r (p, (index, tt)) ≡ fact 𝓤 (CapabilityReads index p.now r)
  capability-says p index r = refl

  pub capability-asks : (p : Bor Runtime) (index : ℕ) → (f-capability.clauses 𝓛 m run (κ, tt) (p, (index, tt))).requires tt ≡ fact 𝓤 (RuntimeSound p.now)
  capability-asks p index = refl

  pub receipt-count-says : (p : Bor Runtime) (r : NumberShown) → (f-receipt-count.clauses 𝓛 m run (κ, tt) (p, tt)).ensures tt r (p, tt) ≡ fact 𝓤 (NumberReads ReadReceiptCount p.now r)
  receipt-count-says p r = refl

  pub receipt-count-asks : (p : Bor Runtime) → (f-receipt-count.clauses 𝓛 m run (κ, tt) (p, tt)).requires tt ≡ fact 𝓤 (RuntimeSound p.now)
  receipt-count-asks p = refl

  pub config-says : (p : Bor Runtime) (r : ConfigShown) → (f-config.clauses 𝓛 m run (κ, tt) (p, tt)).ensures tt r (p, tt) ≡ fact 𝓤 (ConfigReads p.now r)
  config-says p r = refl

  pub config-asks : (p : Bor Runtime) → (f-config.clauses 𝓛 m run (κ, tt) (p, tt)).requires tt ≡ emp 𝓤
  config-asks p = refl

  pub snapshot-says : (p : Bor Runtime) (r : SnapshotShown) → (f-snapshot.clauses 𝓛 m run (κ, tt) (p, tt)).ensures tt r (p, tt) ≡ fact 𝓤 (SnapshotReads p.now r)
  snapshot-says p r = refl

  pub snapshot-asks : (p : Bor Runtime) → (f-snapshot.clauses 𝓛 m run (κ, tt) (p, tt)).requires tt ≡ fact 𝓤 (RuntimeSound p.now)
  snapshot-asks p = refl

  pub receipt-says : (p : Bor Runtime) (index : ℕ) (r : ReceiptShown) → (f-receipt.clauses 𝓛 m run (κ, tt) (p, (index, tt))).ensures tt r (p, (index, tt)) ≡ fact 𝓤 (ReceiptReads index p.now r)
  receipt-says p index r = refl

  pub receipt-asks : (p : Bor Runtime) (index : ℕ) → (f-receipt.clauses 𝓛 m run (κ, tt) (p, (index, tt))).requires tt ≡ fact 𝓤 (RuntimeSound p.now)
  receipt-asks p index = refl
