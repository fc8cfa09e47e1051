-- What each function for hosts ensures, by `refl`, with the rules' records by their fields, and that it asks nothing. `host_c` exports them under the same clauses.
-- Assumes nothing.
use Prim.Native.Nat.{ℕ}
use mathlib.Core.Bool.{Bool, cond}
use mathlib.Core.List.{List, [], ◌∷◌}
use Rattle.std.specs.Prelude.{Some, None}
use mathlib.Core.Path.{◌≡◌, refl}
use lib.IntN.{ℤ}
use seplogic.Ra.Ura.{Ura}
use prog.Memory.{Memory}
use prog.Routine.{Routine}
use base.Logic.{SProp, emp}
use base.Fml.{Lft}
use types.Logic.{Logic}
use contract.Monad.{Fun, fact}
use denote.Ref.{Bor, MutBor}
use Rattle.rules.specs.Protocol.{Calls, Tick, UpdateState, EmergencyStop, PollEstop, RecoverLocal, Renew, Cancel, Replies, Observed, Executed, FellBack, Recorded, awaited_in, ReadState, ReadEpoch, ReadBootId, ReadFlags, ReadReceiptCount, ReadConfig, ReadSnapshot, ReadLease, ReadCapability, ReadReceipt}
use Rattle.state.specs.declared.Answer.TheVariants as Answer
use Rattle.format.specs.Decode.{Feeds}
use Rattle.runtime.specs.Stages.{phase_in}
use Rattle.layout.specs.Layout.{runtime_in}
use Rattle.host.specs.Host.{asked, Asks, Begins, Wipes, Tells, ShowsOf, SpeaksOf, item_output, Refusal, Records}
use Rattle.host.specs.contracts.rolthai_size as f-size
use Rattle.host.specs.contracts.rolthai_clear as f-clear
use Rattle.host.specs.contracts.rolthai_new as f-new
use Rattle.host.specs.contracts.rolthai_tick as f-tick
use Rattle.host.specs.contracts.rolthai_update_state as f-update-state
use Rattle.host.specs.contracts.rolthai_emergency_stop as f-emergency-stop
use Rattle.host.specs.contracts.rolthai_poll_estop as f-poll-estop
use Rattle.host.specs.contracts.rolthai_recover_local as f-recover-local
use Rattle.host.specs.contracts.rolthai_acquire as f-acquire
use Rattle.host.specs.contracts.rolthai_renew as f-renew
use Rattle.host.specs.contracts.rolthai_cancel as f-cancel
use Rattle.host.specs.contracts.rolthai_submit as f-submit
use Rattle.host.specs.contracts.rolthai_observed as f-observed
use Rattle.host.specs.contracts.rolthai_executed as f-executed
use Rattle.host.specs.contracts.rolthai_fell_back as f-fell-back
use Rattle.host.specs.contracts.rolthai_recorded as f-recorded
use Rattle.host.specs.contracts.rolthai_item as f-item
use Rattle.host.specs.contracts.rolthai_answered_lease as f-answered-lease
use Rattle.host.specs.contracts.rolthai_answered_receipt as f-answered-receipt
use Rattle.host.specs.contracts.rolthai_refusal as f-refusal
use Rattle.host.specs.contracts.rolthai_state as f-state
use Rattle.host.specs.contracts.rolthai_epoch as f-epoch
use Rattle.host.specs.contracts.rolthai_boot_id as f-boot-id
use Rattle.host.specs.contracts.rolthai_flags as f-flags
use Rattle.host.specs.contracts.rolthai_receipt_count as f-receipt-count
use Rattle.host.specs.contracts.rolthai_config as f-config
use Rattle.host.specs.contracts.rolthai_snapshot as f-snapshot
use Rattle.host.specs.contracts.rolthai_lease as f-lease
use Rattle.host.specs.contracts.rolthai_capability as f-capability
use Rattle.host.specs.contracts.rolthai_receipt as f-receipt
use Rattle.host.specs.contracts.rolthai_step as f-step

module _ {M : Type 1} {𝓤 : Ura M} (𝓛 : Logic 𝓤) (m : Memory → SProp 𝓤) (run : Routine → Fun 𝓤) (κ κ₁ κ₂ : Lft) where
  -- the words -----------------------------------------------------------------------------------------------------------

  pub size-says : (r : ℕ) → (f-size.clauses 𝓛 m run tt tt).ensures tt r tt ≡ fact 𝓤 (r ≡ 2464)
  size-says r = refl

  pub size-asks : (f-size.clauses 𝓛 m run tt tt).requires tt ≡ emp 𝓤
  size-asks = refl

  -- a start -------------------------------------------------------------------------------------------------------------

  pub clear-says : (state after : MutBor (List ℕ)) (r : ℕ) → (f-clear.clauses 𝓛 m run (κ, tt) (state, tt)).ensures tt r (after, tt) ≡ fact 𝓤 (Wipes state.now after.now r)
  clear-says state after r = refl

  pub clear-asks : (state : MutBor (List ℕ)) → (f-clear.clauses 𝓛 m run (κ, tt) (state, tt)).requires tt ≡ emp 𝓤
  clear-asks state = refl

  pub new-says : (state after : MutBor (List ℕ)) (start capabilities : Bor (List ℕ)) (r : ℕ) → (f-new.clauses 𝓛 m run (κ, (κ₁, (κ₂, tt))) (state, (start, (capabilities, tt)))).ensures tt r (after, (start, (capabilities, tt))) ≡ fact 𝓤 (Begins state.now after.now r start.now capabilities.now)
  new-says state after start capabilities r = refl

  pub new-asks : (state : MutBor (List ℕ)) (start capabilities : Bor (List ℕ)) → (f-new.clauses 𝓛 m run (κ, (κ₁, (κ₂, tt))) (state, (start, (capabilities, tt)))).requires tt ≡ emp 𝓤
  new-asks state start capabilities = refl

  -- calls ---------------------------------------------------------------------------------------------------------------

  pub tick-says : (state after : MutBor (List ℕ)) (time r : ℕ) → (f-tick.clauses 𝓛 m run (κ, tt) (state, (time, tt))).ensures tt r (after, (time, tt)) ≡ fact 𝓤 (Asks state.now after.now r (Feeds (Calls (Tick time))))
  tick-says state after time r = refl

  pub tick-asks : (state : MutBor (List ℕ)) (time : ℕ) → (f-tick.clauses 𝓛 m run (κ, tt) (state, (time, tt))).requires tt ≡ emp 𝓤
  tick-asks state time = refl

  pub update-state-says : (state after : MutBor (List ℕ)) (flags time r : ℕ) → (f-update-state.clauses 𝓛 m run (κ, tt) (state, (flags, (time, tt)))).ensures tt r (after, (flags, (time, tt))) ≡ fact 𝓤 (Asks state.now after.now r (Feeds (Calls (UpdateState flags time))))
  update-state-says state after flags time r = refl

  pub update-state-asks : (state : MutBor (List ℕ)) (flags time : ℕ) → (f-update-state.clauses 𝓛 m run (κ, tt) (state, (flags, (time, tt)))).requires tt ≡ emp 𝓤
  update-state-asks state flags time = refl

  pub emergency-stop-says : (state after : MutBor (List ℕ)) (time r : ℕ) → (f-emergency-stop.clauses 𝓛 m run (κ, tt) (state, (time, tt))).ensures tt r (after, (time, tt)) ≡ fact 𝓤 (Asks state.now after.now r (Feeds (Calls (EmergencyStop time))))
  emergency-stop-says state after time r = refl

  pub emergency-stop-asks : (state : MutBor (List ℕ)) (time : ℕ) → (f-emergency-stop.clauses 𝓛 m run (κ, tt) (state, (time, tt))).requires tt ≡ emp 𝓤
  emergency-stop-asks state time = refl

  pub poll-estop-says : (state after : MutBor (List ℕ)) (raised time r : ℕ) → (f-poll-estop.clauses 𝓛 m run (κ, tt) (state, (raised, (time, tt)))).ensures tt r (after, (raised, (time, tt))) ≡ fact 𝓤 (Asks state.now after.now r (Feeds (Calls (PollEstop raised time))))
  poll-estop-says state after raised time r = refl

  pub poll-estop-asks : (state : MutBor (List ℕ)) (raised time : ℕ) → (f-poll-estop.clauses 𝓛 m run (κ, tt) (state, (raised, (time, tt)))).requires tt ≡ emp 𝓤
  poll-estop-asks state raised time = refl

  pub recover-local-says : (state after : MutBor (List ℕ)) (time r : ℕ) → (f-recover-local.clauses 𝓛 m run (κ, tt) (state, (time, tt))).ensures tt r (after, (time, tt)) ≡ fact 𝓤 (Asks state.now after.now r (Feeds (Calls (RecoverLocal time))))
  recover-local-says state after time r = refl

  pub recover-local-asks : (state : MutBor (List ℕ)) (time : ℕ) → (f-recover-local.clauses 𝓛 m run (κ, tt) (state, (time, tt))).requires tt ≡ emp 𝓤
  recover-local-asks state time = refl

  pub acquire-says : (state after : MutBor (List ℕ)) (request : Bor (List ℕ)) (r : ℕ) → (f-acquire.clauses 𝓛 m run (κ, (κ₁, tt)) (state, (request, tt))).ensures tt r (after, (request, tt)) ≡ fact 𝓤 (Asks state.now after.now r (asked 21 9 request.now))
  acquire-says state after request r = refl

  pub acquire-asks : (state : MutBor (List ℕ)) (request : Bor (List ℕ)) → (f-acquire.clauses 𝓛 m run (κ, (κ₁, tt)) (state, (request, tt))).requires tt ≡ emp 𝓤
  acquire-asks state request = refl

  pub renew-says : (state after : MutBor (List ℕ)) (owner lease renewal duration time r : ℕ) → (f-renew.clauses 𝓛 m run (κ, tt) (state, (owner, (lease, (renewal, (duration, (time, tt))))))).ensures tt r (after, (owner, (lease, (renewal, (duration, (time, tt)))))) ≡ fact 𝓤 (Asks state.now after.now r (Feeds (Calls (Renew (record { now = time; owner = owner; lease_id = lease; renewal = renewal; duration_ms = duration })))))
  renew-says state after owner lease renewal duration time r = refl

  pub renew-asks : (state : MutBor (List ℕ)) (owner lease renewal duration time : ℕ) → (f-renew.clauses 𝓛 m run (κ, tt) (state, (owner, (lease, (renewal, (duration, (time, tt))))))).requires tt ≡ emp 𝓤
  renew-asks state owner lease renewal duration time = refl

  pub cancel-says : (state after : MutBor (List ℕ)) (owner lease time r : ℕ) → (f-cancel.clauses 𝓛 m run (κ, tt) (state, (owner, (lease, (time, tt))))).ensures tt r (after, (owner, (lease, (time, tt)))) ≡ fact 𝓤 (Asks state.now after.now r (Feeds (Calls (Cancel owner lease time))))
  cancel-says state after owner lease time r = refl

  pub cancel-asks : (state : MutBor (List ℕ)) (owner lease time : ℕ) → (f-cancel.clauses 𝓛 m run (κ, tt) (state, (owner, (lease, (time, tt))))).requires tt ≡ emp 𝓤
  cancel-asks state owner lease time = refl

  pub submit-says : (state after : MutBor (List ℕ)) (order : Bor (List ℕ)) (r : ℕ) → (f-submit.clauses 𝓛 m run (κ, (κ₁, tt)) (state, (order, tt))).ensures tt r (after, (order, tt)) ≡ fact 𝓤 (Asks state.now after.now r (asked 24 15 order.now))
  submit-says state after order r = refl

  pub submit-asks : (state : MutBor (List ℕ)) (order : Bor (List ℕ)) → (f-submit.clauses 𝓛 m run (κ, (κ₁, tt)) (state, (order, tt))).requires tt ≡ emp 𝓤
  submit-asks state order = refl

  -- replies -------------------------------------------------------------------------------------------------------------

  pub observed-says : (state after : MutBor (List ℕ)) (ok : Bool) (v u : ℤ) (sensed r : ℕ) → (f-observed.clauses 𝓛 m run (κ, tt) (state, (ok, (v, (u, (sensed, tt)))))).ensures tt r (after, (ok, (v, (u, (sensed, tt))))) ≡ fact 𝓤 (Asks state.now after.now r (Feeds (Replies (Observed (cond ok (Some (record { parameters = v ∷ u ∷ []; state = sensed })) None)))))
  observed-says state after ok v u sensed r = refl

  pub observed-asks : (state : MutBor (List ℕ)) (ok : Bool) (v u : ℤ) (sensed : ℕ) → (f-observed.clauses 𝓛 m run (κ, tt) (state, (ok, (v, (u, (sensed, tt)))))).requires tt ≡ emp 𝓤
  observed-asks state ok v u sensed = refl

  pub executed-says : (state after : MutBor (List ℕ)) (ok : Bool) (r : ℕ) → (f-executed.clauses 𝓛 m run (κ, tt) (state, (ok, tt))).ensures tt r (after, (ok, tt)) ≡ fact 𝓤 (Asks state.now after.now r (Feeds (Replies (Executed ok))))
  executed-says state after ok r = refl

  pub executed-asks : (state : MutBor (List ℕ)) (ok : Bool) → (f-executed.clauses 𝓛 m run (κ, tt) (state, (ok, tt))).requires tt ≡ emp 𝓤
  executed-asks state ok = refl

  pub fell-back-says : (state after : MutBor (List ℕ)) (ok : Bool) (r : ℕ) → (f-fell-back.clauses 𝓛 m run (κ, tt) (state, (ok, tt))).ensures tt r (after, (ok, tt)) ≡ fact 𝓤 (Asks state.now after.now r (Feeds (Replies (FellBack ok))))
  fell-back-says state after ok r = refl

  pub fell-back-asks : (state : MutBor (List ℕ)) (ok : Bool) → (f-fell-back.clauses 𝓛 m run (κ, tt) (state, (ok, tt))).requires tt ≡ emp 𝓤
  fell-back-asks state ok = refl

  pub recorded-says : (state after : MutBor (List ℕ)) (r : ℕ) → (f-recorded.clauses 𝓛 m run (κ, tt) (state, tt)).ensures tt r (after, tt) ≡ fact 𝓤 (Asks state.now after.now r (Feeds (Replies Recorded)))
  recorded-says state after r = refl

  pub recorded-asks : (state : MutBor (List ℕ)) → (f-recorded.clauses 𝓛 m run (κ, tt) (state, tt)).requires tt ≡ emp 𝓤
  recorded-asks state = refl

  -- what a host is told -------------------------------------------------------------------------------------------------

  pub item-says : (state : Bor (List ℕ)) (out told : MutBor (List ℕ)) (r : ℕ) → (f-item.clauses 𝓛 m run (κ, (κ₁, tt)) (state, (out, tt))).ensures tt r (state, (told, tt)) ≡ fact 𝓤 (Tells state.now out.now told.now r (item_output (awaited_in (phase_in (runtime_in state.now)))))
  item-says state out told r = refl

  pub item-asks : (state : Bor (List ℕ)) (out : MutBor (List ℕ)) → (f-item.clauses 𝓛 m run (κ, (κ₁, tt)) (state, (out, tt))).requires tt ≡ emp 𝓤
  item-asks state out = refl

  pub answered-lease-says : (state : Bor (List ℕ)) (out told : MutBor (List ℕ)) (r : ℕ) → (f-answered-lease.clauses 𝓛 m run (κ, (κ₁, tt)) (state, (out, tt))).ensures tt r (state, (told, tt)) ≡ fact 𝓤 (SpeaksOf state.now out.now told.now r Answer.Leased)
  answered-lease-says state out told r = refl

  pub answered-lease-asks : (state : Bor (List ℕ)) (out : MutBor (List ℕ)) → (f-answered-lease.clauses 𝓛 m run (κ, (κ₁, tt)) (state, (out, tt))).requires tt ≡ emp 𝓤
  answered-lease-asks state out = refl

  pub answered-receipt-says : (state : Bor (List ℕ)) (out told : MutBor (List ℕ)) (r : ℕ) → (f-answered-receipt.clauses 𝓛 m run (κ, (κ₁, tt)) (state, (out, tt))).ensures tt r (state, (told, tt)) ≡ fact 𝓤 (SpeaksOf state.now out.now told.now r Answer.Submitted)
  answered-receipt-says state out told r = refl

  pub answered-receipt-asks : (state : Bor (List ℕ)) (out : MutBor (List ℕ)) → (f-answered-receipt.clauses 𝓛 m run (κ, (κ₁, tt)) (state, (out, tt))).requires tt ≡ emp 𝓤
  answered-receipt-asks state out = refl

  pub refusal-says : (state : Bor (List ℕ)) (r : ℕ) → (f-refusal.clauses 𝓛 m run (κ, tt) (state, tt)).ensures tt r (state, tt) ≡ fact 𝓤 (Refusal state.now r)
  refusal-says state r = refl

  pub refusal-asks : (state : Bor (List ℕ)) → (f-refusal.clauses 𝓛 m run (κ, tt) (state, tt)).requires tt ≡ emp 𝓤
  refusal-asks state = refl

  -- readings ------------------------------------------------------------------------------------------------------------

  pub state-says : (state : Bor (List ℕ)) (out told : MutBor (List ℕ)) (r : ℕ) → (f-state.clauses 𝓛 m run (κ, (κ₁, tt)) (state, (out, tt))).ensures tt r (state, (told, tt)) ≡ fact 𝓤 (ShowsOf state.now out.now told.now r ReadState)
  state-says state out told r = refl

  pub state-asks : (state : Bor (List ℕ)) (out : MutBor (List ℕ)) → (f-state.clauses 𝓛 m run (κ, (κ₁, tt)) (state, (out, tt))).requires tt ≡ emp 𝓤
  state-asks state out = refl

  pub epoch-says : (state : Bor (List ℕ)) (out told : MutBor (List ℕ)) (r : ℕ) → (f-epoch.clauses 𝓛 m run (κ, (κ₁, tt)) (state, (out, tt))).ensures tt r (state, (told, tt)) ≡ fact 𝓤 (ShowsOf state.now out.now told.now r ReadEpoch)
  epoch-says state out told r = refl

  pub epoch-asks : (state : Bor (List ℕ)) (out : MutBor (List ℕ)) → (f-epoch.clauses 𝓛 m run (κ, (κ₁, tt)) (state, (out, tt))).requires tt ≡ emp 𝓤
  epoch-asks state out = refl

  pub boot-id-says : (state : Bor (List ℕ)) (out told : MutBor (List ℕ)) (r : ℕ) → (f-boot-id.clauses 𝓛 m run (κ, (κ₁, tt)) (state, (out, tt))).ensures tt r (state, (told, tt)) ≡ fact 𝓤 (ShowsOf state.now out.now told.now r ReadBootId)
  boot-id-says state out told r = refl

  pub boot-id-asks : (state : Bor (List ℕ)) (out : MutBor (List ℕ)) → (f-boot-id.clauses 𝓛 m run (κ, (κ₁, tt)) (state, (out, tt))).requires tt ≡ emp 𝓤
  boot-id-asks state out = refl

  pub flags-says : (state : Bor (List ℕ)) (out told : MutBor (List ℕ)) (r : ℕ) → (f-flags.clauses 𝓛 m run (κ, (κ₁, tt)) (state, (out, tt))).ensures tt r (state, (told, tt)) ≡ fact 𝓤 (ShowsOf state.now out.now told.now r ReadFlags)
  flags-says state out told r = refl

  pub flags-asks : (state : Bor (List ℕ)) (out : MutBor (List ℕ)) → (f-flags.clauses 𝓛 m run (κ, (κ₁, tt)) (state, (out, tt))).requires tt ≡ emp 𝓤
  flags-asks state out = refl

  pub receipt-count-says : (state : Bor (List ℕ)) (out told : MutBor (List ℕ)) (r : ℕ) → (f-receipt-count.clauses 𝓛 m run (κ, (κ₁, tt)) (state, (out, tt))).ensures tt r (state, (told, tt)) ≡ fact 𝓤 (ShowsOf state.now out.now told.now r ReadReceiptCount)
  receipt-count-says state out told r = refl

  pub receipt-count-asks : (state : Bor (List ℕ)) (out : MutBor (List ℕ)) → (f-receipt-count.clauses 𝓛 m run (κ, (κ₁, tt)) (state, (out, tt))).requires tt ≡ emp 𝓤
  receipt-count-asks state out = refl

  pub config-says : (state : Bor (List ℕ)) (out told : MutBor (List ℕ)) (r : ℕ) → (f-config.clauses 𝓛 m run (κ, (κ₁, tt)) (state, (out, tt))).ensures tt r (state, (told, tt)) ≡ fact 𝓤 (ShowsOf state.now out.now told.now r ReadConfig)
  config-says state out told r = refl

  pub config-asks : (state : Bor (List ℕ)) (out : MutBor (List ℕ)) → (f-config.clauses 𝓛 m run (κ, (κ₁, tt)) (state, (out, tt))).requires tt ≡ emp 𝓤
  config-asks state out = refl

  pub snapshot-says : (state : Bor (List ℕ)) (out told : MutBor (List ℕ)) (r : ℕ) → (f-snapshot.clauses 𝓛 m run (κ, (κ₁, tt)) (state, (out, tt))).ensures tt r (state, (told, tt)) ≡ fact 𝓤 (ShowsOf state.now out.now told.now r ReadSnapshot)
  snapshot-says state out told r = refl

  pub snapshot-asks : (state : Bor (List ℕ)) (out : MutBor (List ℕ)) → (f-snapshot.clauses 𝓛 m run (κ, (κ₁, tt)) (state, (out, tt))).requires tt ≡ emp 𝓤
  snapshot-asks state out = refl

  pub lease-says : (state : Bor (List ℕ)) (axis : ℕ) (out told : MutBor (List ℕ)) (r : ℕ) → (f-lease.clauses 𝓛 m run (κ, (κ₁, tt)) (state, (axis, (out, tt)))).ensures tt r (state, (axis, (told, tt))) ≡ fact 𝓤 (ShowsOf state.now out.now told.now r (ReadLease axis))
  lease-says state axis out told r = refl

  pub lease-asks : (state : Bor (List ℕ)) (axis : ℕ) (out : MutBor (List ℕ)) → (f-lease.clauses 𝓛 m run (κ, (κ₁, tt)) (state, (axis, (out, tt)))).requires tt ≡ emp 𝓤
  lease-asks state axis out = refl

  pub capability-says : (state : Bor (List ℕ)) (index : ℕ) (out told : MutBor (List ℕ)) (r : ℕ) → (f-capability.clauses 𝓛 m run (κ, (κ₁, tt)) (state, (index, (out, tt)))).ensures tt r (state, (index, (told, tt))) ≡ fact 𝓤 (ShowsOf state.now out.now told.now r (ReadCapability index))
  capability-says state index out told r = refl

  pub capability-asks : (state : Bor (List ℕ)) (index : ℕ) (out : MutBor (List ℕ)) → (f-capability.clauses 𝓛 m run (κ, (κ₁, tt)) (state, (index, (out, tt)))).requires tt ≡ emp 𝓤
  capability-asks state index out = refl

  pub receipt-says : (state : Bor (List ℕ)) (index : ℕ) (out told : MutBor (List ℕ)) (r : ℕ) → (f-receipt.clauses 𝓛 m run (κ, (κ₁, tt)) (state, (index, (out, tt)))).ensures tt r (state, (index, (told, tt))) ≡ fact 𝓤 (ShowsOf state.now out.now told.now r (ReadReceipt index))
  receipt-says state index out told r = refl

  pub receipt-asks : (state : Bor (List ℕ)) (index : ℕ) (out : MutBor (List ℕ)) → (f-receipt.clauses 𝓛 m run (κ, (κ₁, tt)) (state, (index, (out, tt)))).requires tt ≡ emp 𝓤
  receipt-asks state index out = refl

  -- records -------------------------------------------------------------------------------------------------------------

  pub step-says : (state after : MutBor (List ℕ)) (words : Bor (List ℕ)) (out told : MutBor (List ℕ)) (r : ℕ) → (f-step.clauses 𝓛 m run (κ, (κ₁, (κ₂, tt))) (state, (words, (out, tt)))).ensures tt r (after, (words, (told, tt))) ≡ fact 𝓤 (Records state.now after.now words.now out.now told.now r)
  step-says state after words out told r = refl

  pub step-asks : (state : MutBor (List ℕ)) (words : Bor (List ℕ)) (out : MutBor (List ℕ)) → (f-step.clauses 𝓛 m run (κ, (κ₁, (κ₂, tt))) (state, (words, (out, tt)))).requires tt ≡ emp 𝓤
  step-asks state words out = refl
