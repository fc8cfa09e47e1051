-- The starred cases of 01: one table of histories with what 01 says of each, and one fact about the whole table, which antt computes.
-- Default configuration, the reference profile, boot 42, start at 0, flags 0.
use Rattle.std.specs.Prelude.{ℕ, true, List, [], ◌∷◌, ◌++◌, map, ◌≡◌, refl, ℤ, pos, negsuc}
use Rattle.std.specs.Prelude.{Option, Some, None}
use Rattle.model.specs.declared.Bounds.{Bounds}
use Rattle.model.specs.declared.Decision.{Decision}
use Rattle.model.specs.declared.RuntimeState.{RuntimeState}
use Rattle.model.specs.declared.RuntimeState.TheVariants as State
use Rattle.model.specs.Bounds.{contains, is_zero}
use Rattle.model.specs.Lists.{every}
use Rattle.model.specs.Profile.{profile}
use Rattle.model.specs.Reasons.{number}
use Rattle.model.specs.Records.{default_config}
use Rattle.model.specs.Soundness.{verifiable, conditions, sound}
use Rattle.model.specs.Words.{share_no_bit, inside, permits}
use Rattle.rules.specs.Book.{Book}
use Rattle.rules.specs.With.{with_leases, with_active, with_replay, with_receipts, with_next_receipt, with_next_lease, with_epoch, with_flags, with_state_at, with_last_tick, with_state, with_invalid_count, with_estop_seen}
use Rattle.rules.specs.Receipts.{bump_to, is_rejected, rejected, drop_first_rejected, evict, keep, kept, numbered, is_fallback, event, axis_or255, order_receipt}
use Rattle.rules.specs.Interaction.{Answer, Returned, Polled, Succeeded, Leased, Refused, Submitted}
use Rattle.rules.specs.Admission.{first_failing, holds_of, is_estopped, is_faulted, is_armed, is_stale, ready, allowed, bad_duration, valid_request, is_free, acquire_checks, is_some, with_id, order_capability, lease_for, order_lease, has_bit, authorizes, well_formed, is_entry, find_entry, replayed, valid_until, all_contain, admission, verdict, validate}
use Rattle.rules.specs.Rules.{select, used_axes, bump_epoch, record_receipt, refreshed, refresh_state, cleared, lease_id, lease_owner, fallback, tripped, fallbacks, trip, fallback_or_trip, exhausted, watchdog, staleness, due, fallback_if, expiries, supervise, tick, preconditions, meets_estop, flagged, new_flags, sense, update_state, stop_time, masked, emergency_stop, recovered, recoveries, recover, recover_local, new_lease, granted, leased, grant, acquire, receipt_number, original, storm, reject, with_sequence, consumed, fail, stream_end, active_until, complete, same_parameters, verified, verify, dispatch, admit, submit}
use Rattle.rules.specs.Protocol.{Tick, UpdateState, EmergencyStop, RecoverLocal, Acquire, Submit, Observed, Executed, FellBack, Recorded, Input, Calls, Replies, Output, Started, StartRefused, Hands, Answers, Reminds, Refuses, Shows, NoRuntime, Start, opening, bad_config, refused_record, refused_start, item_of, wait_book, book_in, resume, begin, proceed, start_from, start_unless, start, called, resumed, start_replied, replied, effect, apply, react}
use Rattle.rules.specs.Lives.{outputs_from, phase_from}

-- what 01 says ---------------------------------------------------------------------------------------------------------

-- a call's answer, as far as 01 gives it
pub data Said : Type 0 where
  Nothing : Said
  Success : Said
  ALease : ℕ → ℕ → Said  -- id, expiry
  ANumber : ℕ → Said  -- the reason of a refusal
  AReceipt : ℕ → Decision → ℕ → ℕ → Said  -- number, decision, reason, original
  Other : Said

unfoldable pub answer_said : Answer → Said
answer_said Returned = Nothing
answer_said (Polled raised) = Other
answer_said Succeeded = Success
answer_said (Leased l) = ALease l.id l.expires_at
answer_said (Refused reason) = ANumber (number reason)
answer_said (Submitted r) = AReceipt r.receipt_id r.decision (number r.reason) r.original_receipt

unfoldable pub said : Output → Said
said Started = Other
said (StartRefused n) = Other
said (Hands item) = Other
said (Answers a) = answer_said a
said (Reminds n item) = Other
said (Refuses n) = Other
said (Shows v) = Other
said NoRuntime = Other

unfoldable pub last_said : List Output → Said
last_said [] = Other
last_said (o ∷ []) = said o
last_said (o ∷ p ∷ rest) = last_said (p ∷ rest)

-- a kept receipt: number, reason and axis
pub record Line : Type 0 where
  pub receipt : ℕ
  pub reason : ℕ
  pub axis : ℕ

abbrev pub line : ℕ → ℕ → ℕ → Line
line n reason axis = record { receipt = n; reason = reason; axis = axis }

-- what a history comes to: the last answer, the receipts kept, epoch and state
pub record Outcome : Type 0 where
  pub answer : Said
  pub receipts : List Line
  pub epoch : ℕ
  pub state : RuntimeState

unfoldable pub book_outcome : Said → Option Book → Option Outcome
book_outcome answer None = None
book_outcome answer (Some b) =
    Some
    (record {
      answer = answer;
      receipts = map (λ r. line r.receipt_id (number r.reason) r.resource) b.receipts;
      epoch = b.epoch;
      state = b.state;
    })

-- the histories ------------------------------------------------------------------------------------------------------

unfoldable pub the_start : Start
the_start = record { config = default_config; capabilities = profile; boot_id = 42; now = 0; flags = 0 }

-- the two used axes of the profile fall back, and succeed
abbrev pub good_start : List Input
good_start = Replies (FellBack true) ∷ Replies (FellBack true) ∷ []

-- a fallback that succeeds, and its receipt
abbrev pub fell_back : List Input
fell_back = Replies (FellBack true) ∷ Replies Recorded ∷ []

abbrev pub widest : Bounds
widest = record { min = negsuc 2147483647; max = pos 2147483647 }

-- `acquire` owner 7, axis 0, widest limits
abbrev pub acquire7 : ℕ → ℕ → ℕ → Input
acquire7 mask duration now =
    Calls (Acquire (record { owner = 7; resource = 0; capabilities = mask; duration_ms = duration; limits = widest ∷ widest ∷ [] }) now)

-- DRIVE, sequence 1, action 1, validity and deadline 100, execute_after 0, received 0, now 10
abbrev pub drive : ℤ → ℕ → Input
drive first epoch =
    Calls
    (Submit
    (record {
      action =
          record {
            boot_id = 42;
            requester = 7;
            lease_id = 1;
            action_id = 1;
            sequence = 1;
            capability = 1;
            based_on_epoch = epoch;
            execute_after = 0;
            deadline = 100;
            valid_for_ms = 100;
            parameters = first ∷ negsuc 49 ∷ [];
          };
      principal = 7;
      received_at = 0;
      now = 10;
    }))

-- all replies good and equal
abbrev pub carried_out : ℤ → List Input
carried_out first =
    Replies (Observed (Some (record { parameters = first ∷ negsuc 49 ∷ []; state = 0 })))
    ∷ Replies (Executed true)
    ∷ Replies (Observed (Some (record { parameters = first ∷ negsuc 49 ∷ []; state = 0 })))
    ∷ Replies Recorded
    ∷ []

abbrev pub case_a : List Input
case_a = good_start ++ (acquire7 6 2000 0 ∷ Replies Recorded ∷ [])

abbrev pub case_c : List Input
case_c = case_a ++ (drive (pos 300) 2 ∷ carried_out (pos 300))

abbrev pub stopped : List Input
stopped = case_a ++ (Calls (EmergencyStop 5) ∷ fell_back ++ fell_back)

pub record Case : Type 0 where
  pub inputs : List Input
  pub expected : Outcome

unfoldable pub outcome_of : Case → Option Outcome
outcome_of c =
    book_outcome (last_said (outputs_from (start the_start).phase c.inputs)) (book_in (phase_from (start the_start).phase c.inputs))

abbrev pub row : List Input → Said → List Line → ℕ → RuntimeState → Case
row inputs answer receipts epoch state = record { inputs = inputs; expected = record { answer = answer; receipts = receipts; epoch = epoch; state = state } }

unfoldable pub cases : List Case
cases =
    -- A: lease 1, expiry 2000, epoch 2, receipt 1; A2: 2001 ms: 10; A3: mask 14: 3
    row case_a (ALease 1 2000) (line 1 24 0 ∷ []) 2 State.Armed
    ∷ row (good_start ++ (acquire7 6 2001 0 ∷ [])) (ANumber 10) [] 1 State.SafeIdle
    ∷ row (good_start ++ (acquire7 14 2000 0 ∷ [])) (ANumber 3) [] 1 State.SafeIdle
    -- B: after A, tick 50: nothing; B2: tick 51: receipts 2, 3 reason 13, epoch 4, Faulted
    ∷ row (case_a ++ (Calls (Tick 50) ∷ [])) Nothing (line 1 24 0 ∷ []) 2 State.Armed
    ∷ row (case_a ++ (Calls (Tick 51) ∷ fell_back ++ fell_back)) Nothing (line 1 24 0 ∷ line 2 13 0 ∷ line 3 13 1 ∷ []) 4 State.Faulted
    -- C: Executed, receipt 2; C2: repeated: 4, original 2; C3: first parameter 1001: 1; 1000 passes
    ∷ row case_c (AReceipt 2 Decision.Executed 0 0) (line 1 24 0 ∷ line 2 0 0 ∷ []) 2 State.Armed
    ∷ row (case_c ++ (drive (pos 300) 2 ∷ Replies Recorded ∷ [])) (AReceipt 3 Decision.Rejected 4 2) (line 1 24 0 ∷ line 2 0 0 ∷ line 3 4 0 ∷ []) 2 State.Armed
    ∷ row (case_a ++ (drive (pos 1001) 2 ∷ Replies Recorded ∷ [])) (AReceipt 2 Decision.Rejected 1 0) (line 1 24 0 ∷ line 2 1 0 ∷ []) 2 State.Armed
    ∷ row (case_a ++ (drive (pos 1000) 2 ∷ carried_out (pos 1000))) (AReceipt 2 Decision.Executed 0 0) (line 1 24 0 ∷ line 2 0 0 ∷ []) 2 State.Armed
    -- D: flags 2 at 10: epoch 3; the order of C with epoch 3: 5; D2: after C, flags 2 at 20: axis 0 falls back, epoch 4, SafeIdle
    ∷ row (case_a ++ (Calls (UpdateState 2 10) ∷ [])) Nothing (line 1 24 0 ∷ []) 3 State.Armed
    ∷ row (case_a ++ (Calls (UpdateState 2 10) ∷ drive (pos 300) 3 ∷ Replies Recorded ∷ [])) (AReceipt 2 Decision.Rejected 5 0) (line 1 24 0 ∷ line 2 5 0 ∷ []) 3 State.Armed
    ∷ row (case_c ++ (Calls (UpdateState 2 20) ∷ fell_back)) Nothing (line 1 24 0 ∷ line 2 0 0 ∷ line 3 5 0 ∷ []) 4 State.SafeIdle
    -- E: after A, stop at 5: epoch 4; `acquire` at 3: receipts 4, 5 reason 18, answer 11; E2: flags 0 at 6, recover at 6: epoch 7, SafeIdle
    ∷ row stopped Nothing (line 1 24 0 ∷ line 2 11 0 ∷ line 3 11 1 ∷ []) 4 State.Estopped
    ∷ row (stopped ++ (acquire7 6 2000 3 ∷ fell_back ++ fell_back)) (ANumber 11) (line 1 24 0 ∷ line 2 11 0 ∷ line 3 11 1 ∷ line 4 18 0 ∷ line 5 18 1 ∷ []) 6 State.Estopped
    ∷ row (stopped ++ (Calls (UpdateState 0 6) ∷ Calls (RecoverLocal 6) ∷ fell_back ++ fell_back)) Success (line 1 24 0 ∷ line 2 11 0 ∷ line 3 11 1 ∷ line 4 26 0 ∷ line 5 26 1 ∷ []) 7 State.SafeIdle
    ∷ []

-- every case of the table comes out as 01 says
pub cases-hold : map outcome_of cases ≡ map (λ c. Some c.expected) cases
unfolding cases outcome_of the_start book_outcome last_said said answer_said outputs_from phase_from react apply effect replied start_replied resumed called start start_unless start_from proceed begin resume book_in wait_book item_of refused_start refused_record bad_config opening submit admit dispatch verify verified same_parameters complete active_until stream_end fail consumed with_sequence reject storm original receipt_number acquire grant leased granted new_lease recover_local recover recoveries recovered stop_time masked emergency_stop update_state sense flagged new_flags meets_estop preconditions tick supervise expiries fallback_if due staleness watchdog exhausted fallback_or_trip trip fallbacks tripped fallback lease_owner lease_id cleared refresh_state refreshed record_receipt bump_epoch used_axes select validate verdict admission all_contain valid_until replayed find_entry is_entry well_formed authorizes has_bit order_lease lease_for order_capability with_id is_some acquire_checks is_free valid_request bad_duration allowed ready is_stale is_armed is_faulted is_estopped holds_of first_failing order_receipt axis_or255 event is_fallback numbered kept keep evict drop_first_rejected rejected is_rejected bump_to with_leases with_active with_replay with_receipts with_next_receipt with_next_lease with_epoch with_flags with_state_at with_last_tick with_state with_invalid_count with_estop_seen permits inside share_no_bit sound conditions verifiable every is_zero contains
cases-hold = refl
