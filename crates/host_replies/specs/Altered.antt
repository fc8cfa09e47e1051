-- What the replies leave in their own fields, and the ways on from a fallback.
use Rattle.std.specs.Prelude.{ℕ, Bool, true, not, ◌≡◌, eqb}
use Rattle.rules.specs.Rules.{refreshed}
use Rattle.runtime.specs.declared.Runtime.{Runtime}
use Rattle.state.specs.Stores.{awaiting}
use Rattle.state.specs.declared.Awaited.TheVariants as Awaited
use Rattle.state.specs.declared.AfterFallback.{AfterFallback}
use Rattle.state.specs.declared.Numbers.{Numbers}
use Rattle.state.specs.declared.Waiting.{Waiting}
use Rattle.layout.specs.Fields.{with_waiting, with_numbers, with_carrying}
use Rattle.host_replies.specs.declared.Resuming.{Resuming}

-- an order in the driver's hands, with the state observed before
abbrev pub executing : ℕ → Runtime → Runtime
executing pre_state h =
    with_carrying (record { end = h.carrying.end; at = h.carrying.at; pre_state = pre_state }) (with_waiting (awaiting Awaited.Execute) h)

-- nothing is awaited; what followed the receipt stays
abbrev pub rested_by : Waiting → Waiting
rested_by w = record { awaited = Awaited.Nothing; after_record = w.after_record }

-- the state refreshed, by the number of leases
abbrev pub fresh_numbers : Numbers → Numbers
fresh_numbers n =
    record {
      next_receipt = n.next_receipt;
      next_lease = n.next_lease;
      epoch = n.epoch;
      state_at = n.state_at;
      last_tick = n.last_tick;
      flags = n.flags;
      estop_seen = n.estop_seen;
      invalid_count = n.invalid_count;
      mode = record { state = refreshed (not (eqb n.held 0)) n.mode.state };
      held = n.held;
      soonest = n.soonest;
    }

-- .. and nothing awaited
abbrev pub refreshed_in : Runtime → Runtime
refreshed_in h = with_waiting (awaiting Awaited.Nothing) (with_numbers (fresh_numbers h.numbers) h)

-- the ways that a fallback which succeeded leaves by themselves
unfoldable pub ResumesAs : Resuming → AfterFallback → Bool → Type 0
ResumesAs Resuming.Cancel after ok = (after ≡ AfterFallback.Cancel) × (ok ≡ true)
ResumesAs Resuming.Expiry after ok = (after ≡ AfterFallback.Expiry) × (ok ≡ true)
ResumesAs Resuming.Other after ok = Unit {0}
