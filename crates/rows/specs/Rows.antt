-- The rows of words that the parts of the state are stored as. A request, a renewal, an order and a capability are the words of their records, a lease and
-- a receipt those of theirs (docs/WIRE.md), but that a receipt has its pairs of 32 bits in one word each. Every row means something.
use Rattle.std.specs.Prelude.{ℕ, ◌%◌, ◌<◌, false, List, [], ◌∷◌, ◌++◌, ◌≡◌, pos, get_or}
use Rattle.model.specs.declared.ActiveSlot.{ActiveSlot}
use Rattle.model.specs.declared.Capability.{Capability}
use Rattle.model.specs.declared.LeaseRequest.{LeaseRequest}
use Rattle.model.specs.declared.LeaseSlot.{LeaseSlot}
use Rattle.model.specs.declared.Receipt.{Receipt}
use Rattle.model.specs.declared.Renewal.{Renewal}
use Rattle.model.specs.declared.ReplaySlot.{ReplaySlot}
use Rattle.model.specs.declared.Submission.{Submission}
use Rattle.model.specs.Decisions.{decision_number}
use Rattle.model.specs.Reasons.{number}
use Rattle.format.specs.Decode.{word, u32_at, u16_at, u8_at, bool_at, bounds_at, capability_of}
use Rattle.format.specs.Encode.{bit, state_number, min_at, max_at, part_at, capability_words, lease_words}
use Rattle.receipts.specs.declared.Index.{Index}
use Rattle.state.specs.declared.Carrying.{Carrying}
use Rattle.state.specs.declared.Falling.{Falling}
use Rattle.state.specs.declared.Fixed.{Fixed}
use Rattle.state.specs.declared.Numbers.{Numbers}
use Rattle.state.specs.declared.Pending.{Pending}
use Rattle.state.specs.declared.Revoked.{Revoked}
use Rattle.state.specs.declared.Waiting.{Waiting}
use Rattle.decide_start.specs.declared.Starting.{Starting}
use Rattle.rows.specs.Codes.{below, signs_of, signs_word, paired, low_of, high_of, presence_of, presence_word, decision_of, reason_of, mode_of, awaited_of, awaited_word, after_record_of, after_record_word, after_fallback_of, after_fallback_word, after_trip_of, after_trip_word, call_kind_of, call_kind_word, stage_of, stage_word}

-- where the call in hand stands ------------------------------------------------------------------------------------------

unfoldable pub waiting_of : List ℕ → Waiting
waiting_of l = record { awaited = awaited_of (word l 0); after_record = after_record_of (word l 1) }

unfoldable pub waiting_words : Waiting → List ℕ
waiting_words x = awaited_word x.awaited ∷ after_record_word x.after_record ∷ []

unfoldable pub falling_of : List ℕ → Falling
falling_of l =
    record {
      time = word l 0;
      axis = below 8 (word l 1);
      at = below 8 (word l 2);
      reason = reason_of (word l 3);
      after = after_fallback_of (word l 4);
      good = bool_at l 5;
      after_trip = after_trip_of (word l 6);
    }

unfoldable pub falling_words : Falling → List ℕ
falling_words x =
    x.time
    ∷ x.axis
    ∷ x.at
    ∷ number x.reason
    ∷ after_fallback_word x.after
    ∷ bit x.good
    ∷ after_trip_word x.after_trip
    ∷ []

unfoldable pub revoked_of : List ℕ → Revoked
revoked_of l = record { lease_id = word l 0; owner = word l 1; ok = bool_at l 2 }

unfoldable pub revoked_words : Revoked → List ℕ
revoked_words x = x.lease_id ∷ x.owner ∷ bit x.ok ∷ []

unfoldable pub carrying_of : List ℕ → Carrying
carrying_of l = record { end = word l 0; at = below 17 (word l 1); pre_state = u32_at l 2 }

unfoldable pub carrying_words : Carrying → List ℕ
carrying_words x = x.end ∷ x.at ∷ x.pre_state ∷ []

unfoldable pub pending_of : List ℕ → Pending
pending_of l =
    record { kind = call_kind_of (word l 0); flags = u32_at l 1; now = word l 2; owner = word l 3; lease_id = word l 4 }

unfoldable pub pending_words : Pending → List ℕ
pending_words x = call_kind_word x.kind ∷ x.flags ∷ x.now ∷ x.owner ∷ x.lease_id ∷ []

unfoldable pub starting_of : List ℕ → Starting
starting_of l = record { stage = stage_of (word l 0); good = bool_at l 1 }

unfoldable pub starting_words : Starting → List ℕ
starting_words x = stage_word x.stage ∷ bit x.good ∷ []

-- the numbers ------------------------------------------------------------------------------------------------------------

unfoldable pub numbers_of : List ℕ → Numbers
numbers_of l =
    record {
      next_receipt = word l 0;
      next_lease = word l 1;
      epoch = word l 2;
      state_at = word l 3;
      last_tick = word l 4;
      flags = u32_at l 5;
      estop_seen = u32_at l 6;
      invalid_count = u16_at l 7;
      mode = record { state = mode_of (word l 8) };
      held = u8_at l 9;
      soonest = word l 10;
    }

unfoldable pub numbers_words : Numbers → List ℕ
numbers_words x =
    x.next_receipt
    ∷ x.next_lease
    ∷ x.epoch
    ∷ x.state_at
    ∷ x.last_tick
    ∷ x.flags
    ∷ x.estop_seen
    ∷ x.invalid_count
    ∷ state_number x.mode.state
    ∷ x.held
    ∷ x.soonest
    ∷ []

unfoldable pub fixed_of : List ℕ → Fixed
fixed_of l =
    record {
      config =
          record {
            watchdog_ms = u32_at l 0;
            state_ttl_ms = u32_at l 1;
            max_lease_ms = u32_at l 2;
            max_valid_for_ms = u32_at l 3;
            invalid_limit = u16_at l 4;
            estop_mask = u32_at l 5;
          };
      boot_id = word l 6;
      count = below 17 (word l 7);
      used =
          bool_at l 8 ∷ bool_at l 9 ∷ bool_at l 10 ∷ bool_at l 11 ∷ bool_at l 12 ∷ bool_at l 13 ∷ bool_at l 14 ∷ bool_at l 15 ∷ [];
    }

unfoldable pub fixed_words : Fixed → List ℕ
fixed_words x =
    x.config.watchdog_ms
    ∷ x.config.state_ttl_ms
    ∷ x.config.max_lease_ms
    ∷ x.config.max_valid_for_ms
    ∷ x.config.invalid_limit
    ∷ x.config.estop_mask
    ∷ x.boot_id
    ∷ x.count
    ∷ bit (get_or x.used 0 false)
    ∷ bit (get_or x.used 1 false)
    ∷ bit (get_or x.used 2 false)
    ∷ bit (get_or x.used 3 false)
    ∷ bit (get_or x.used 4 false)
    ∷ bit (get_or x.used 5 false)
    ∷ bit (get_or x.used 6 false)
    ∷ bit (get_or x.used 7 false)
    ∷ []

-- the tables -------------------------------------------------------------------------------------------------------------

unfoldable pub lease_slot_of : List ℕ → LeaseSlot
lease_slot_of l =
    record {
      presence = presence_of (word l 0);
      lease =
          record {
            id = word l 1;
            owner = word l 2;
            resource = u8_at l 3;
            capabilities = word l 4;
            expires_at = word l 5;
            limits = bounds_at l 6 7 ∷ bounds_at l 8 9 ∷ [];
            last_sequence = word l 10;
            last_renewal = word l 11;
          };
    }

unfoldable pub lease_slot_words : LeaseSlot → List ℕ
lease_slot_words x = presence_word x.presence ∷ lease_words x.lease

-- a capability's record, with a word before it that its place leaves free
abbrev pub capability_row : ℕ → Capability → List ℕ
capability_row first c = first ∷ capability_words c

unfoldable pub active_slot_of : List ℕ → ActiveSlot
active_slot_of l = record { presence = presence_of (word l 0); active = record { capability = capability_of l; expires_at = word l 14 } }

unfoldable pub active_slot_words : ActiveSlot → List ℕ
active_slot_words x = capability_row (presence_word x.presence) x.active.capability ++ (x.active.expires_at ∷ [])

unfoldable pub replay_slot_of : List ℕ → ReplaySlot
replay_slot_of l = record { presence = presence_of (word l 0); replay = record { owner = word l 1; action_id = word l 2; receipt = word l 3 } }

unfoldable pub replay_slot_words : ReplaySlot → List ℕ
replay_slot_words x = presence_word x.presence ∷ x.replay.owner ∷ x.replay.action_id ∷ x.replay.receipt ∷ []

unfoldable pub receipt_of : List ℕ → Receipt
receipt_of l =
    record {
      boot_id = word l 0;
      principal = word l 1;
      safety_flags = u32_at l 2;
      receipt_id = word l 3;
      action_id = word l 4;
      sequence = word l 5;
      capability = u16_at l 6;
      resource = u8_at l 7;
      lease_id = word l 8;
      decision = decision_of (word l 9);
      reason = reason_of (word l 10);
      epoch = word l 11;
      received_at = word l 12;
      admitted_at = word l 13;
      executed_at = word l 14;
      requested = signs_of (word l 15);
      observed = signs_of (word l 16);
      pre_state = low_of (word l 17);
      post_state = high_of (word l 17);
      original_receipt = word l 18;
      dispatched = bool_at l 19;
      observed_valid = bool_at l 20;
    }

unfoldable pub receipt_row : Receipt → List ℕ
receipt_row x =
    x.boot_id
    ∷ x.principal
    ∷ x.safety_flags
    ∷ x.receipt_id
    ∷ x.action_id
    ∷ x.sequence
    ∷ x.capability
    ∷ x.resource
    ∷ x.lease_id
    ∷ decision_number x.decision
    ∷ number x.reason
    ∷ x.epoch
    ∷ x.received_at
    ∷ x.admitted_at
    ∷ x.executed_at
    ∷ signs_word (get_or x.requested 0 (pos 0)) (get_or x.requested 1 (pos 0))
    ∷ signs_word (get_or x.observed 0 (pos 0)) (get_or x.observed 1 (pos 0))
    ∷ paired x.pre_state x.post_state
    ∷ x.original_receipt
    ∷ bit x.dispatched
    ∷ bit x.observed_valid
    ∷ []

-- the calls in hand, by the words of their records (kind and time of a request, and the kind of the others, are not read) ---------------------------

unfoldable pub request_row : LeaseRequest → List ℕ
request_row x =
    0
    ∷ 0
    ∷ x.owner
    ∷ x.resource
    ∷ x.capabilities
    ∷ x.duration_ms
    ∷ min_at x.limits 0
    ∷ max_at x.limits 0
    ∷ min_at x.limits 1
    ∷ max_at x.limits 1
    ∷ []

unfoldable pub renewal_row : Renewal → List ℕ
renewal_row x = 0 ∷ x.now ∷ x.owner ∷ x.lease_id ∷ x.renewal ∷ x.duration_ms ∷ []

unfoldable pub submission_row : Submission → List ℕ
submission_row x =
    0
    ∷ x.now
    ∷ x.principal
    ∷ x.received_at
    ∷ x.action.boot_id
    ∷ x.action.requester
    ∷ x.action.lease_id
    ∷ x.action.action_id
    ∷ x.action.sequence
    ∷ x.action.capability
    ∷ x.action.based_on_epoch
    ∷ x.action.execute_after
    ∷ x.action.deadline
    ∷ x.action.valid_for_ms
    ∷ part_at x.action.parameters 0
    ∷ part_at x.action.parameters 1
    ∷ []

-- the index of the receipts -------------------------------------------------------------------------------------------------

-- the heads of its circles are places of theirs
abbrev pub Headed : Index → Type 0
Headed i = (i.rejected.head < 64) × (i.others.head < 64)

unfoldable pub index_of : List ℕ → Index
index_of l =
    record {
      rejected = record { head = word l 0 % 64; count = word l 1 };
      others = record { head = word l 2 % 64; count = word l 3 };
      kinds = word l 4;
    }

unfoldable pub index_words : Index → List ℕ
index_words x = x.rejected.head ∷ x.rejected.count ∷ x.others.head ∷ x.others.count ∷ x.kinds ∷ []

-- a row that loses nothing -----------------------------------------------------------------------------------------------

-- the words of a part, from which it is read again
pub record Rowed {A : Type 0} (of : List ℕ → A) (words : List ℕ) (x : A) (r : List ℕ) : Type 0 where
  pub row : r ≡ words
  pub back : of words ≡ x
