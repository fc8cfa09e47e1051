-- The default configuration (model.rs, `Config::default`), what an absent slot holds, and what stands where there is no receipt.
use Rattle.std.specs.Prelude.{false, [], ◌∷◌, pos}
use Rattle.model.specs.declared.Config.{Config}
use Rattle.model.specs.declared.Bounds.{Bounds}
use Rattle.model.specs.declared.Capability.{Capability}
use Rattle.model.specs.declared.ExecutionClass.TheVariants.{Stream}
use Rattle.model.specs.declared.Verification.TheVariants.{Parameters}
use Rattle.model.specs.declared.Presence.TheVariants.{Absent}
use Rattle.model.specs.declared.Decision.TheVariants.{Executed}
use Rattle.model.specs.declared.Reason.TheVariants.{Ok}
use Rattle.model.specs.declared.Receipt.{Receipt}
use Rattle.model.specs.declared.LeaseSlot.{LeaseSlot}
use Rattle.model.specs.declared.ActiveSlot.{ActiveSlot}
use Rattle.model.specs.declared.ReplaySlot.{ReplaySlot}

abbrev pub default_config : Config
default_config =
    record {
      watchdog_ms = 50;
      state_ttl_ms = 250;
      max_lease_ms = 2000;
      max_valid_for_ms = 1000;
      invalid_limit = 32;
      estop_mask = 1;
    }

-- (0, 0)
abbrev pub zero_bounds : Bounds
zero_bounds = record { min = pos 0; max = pos 0 }

abbrev pub no_lease : LeaseSlot
no_lease =
    record {
      presence = Absent;
      lease =
          record {
            id = 0;
            owner = 0;
            resource = 0;
            capabilities = 0;
            expires_at = 0;
            limits = zero_bounds ∷ zero_bounds ∷ [];
            last_sequence = 0;
            last_renewal = 0;
          };
    }

abbrev pub no_capability : Capability
no_capability =
    record {
      id = 0;
      resource = 0;
      class = Stream;
      parameter_count = 0;
      bounds = zero_bounds ∷ zero_bounds ∷ [];
      require_set = 0;
      require_clear = 0;
      verification = Parameters;
    }

abbrev pub no_active : ActiveSlot
no_active = record { presence = Absent; active = record { capability = no_capability; expires_at = 0 } }

abbrev pub no_replay : ReplaySlot
no_replay = record { presence = Absent; replay = record { owner = 0; action_id = 0; receipt = 0 } }

unfoldable pub no_receipt : Receipt
no_receipt =
    record {
      boot_id = 0;
      principal = 0;
      safety_flags = 0;
      receipt_id = 0;
      action_id = 0;
      sequence = 0;
      capability = 0;
      resource = 0;
      lease_id = 0;
      decision = Executed;
      reason = Ok;
      epoch = 0;
      received_at = 0;
      admitted_at = 0;
      executed_at = 0;
      requested = pos 0 ∷ pos 0 ∷ [];
      observed = pos 0 ∷ pos 0 ∷ [];
      pre_state = 0;
      post_state = 0;
      original_receipt = 0;
      dispatched = false;
      observed_valid = false;
    }
