-- What a start's parts stand for, and what it goes on with.
use Rattle.std.specs.Prelude.{ℕ, min, ◌<◌, Bool, true, false, cond, List, ◌≡◌, ltb, length, take, get_or}
use Rattle.std.specs.Prelude.{Option, Some, None}
use Rattle.model.specs.declared.Capability.{Capability}
use Rattle.model.specs.declared.Config.{Config}
use Rattle.model.specs.declared.RuntimeState.TheVariants.{SafeIdle, Estopped}
use Rattle.model.specs.Reasons.{invalid_boot_id, invalid_config, invalid_capability, duplicate_capability, startup_failed}
use Rattle.model.specs.Soundness.{axis_used}
use Rattle.rules.specs.Admission.{is_some}
use Rattle.rules.specs.Protocol.{Start}
use Rattle.rules.specs.Receipts.{top}
use Rattle.rules.specs.Rules.{meets_estop}
use Rattle.state.specs.Axes.{first_used}
use Rattle.state.specs.Stores.{awaiting}
use Rattle.state.specs.declared.Answer.{Answer}
use Rattle.state.specs.declared.Awaited.TheVariants as Awaited
use Rattle.state.specs.declared.Fixed.{Fixed}
use Rattle.state.specs.declared.Numbers.{Numbers}
use Rattle.decide_start.specs.declared.Listed.{Listed}
use Rattle.decide_start.specs.declared.Stage.{Stage}
use Rattle.decide_start.specs.declared.Trial.{Trial}

-- the arguments ----------------------------------------------------------------------------------------------------------

abbrev pub start_on : Config → List Capability → ℕ → ℕ → ℕ → Start
start_on config l boot_id now flags = record { config = config; capabilities = l; boot_id = boot_id; now = now; flags = flags }

-- the list that an array and a count hold: its first 17 records, and 17 where there are more
pub record Listing (s : Listed) (l : List Capability) : Type 0 where
  pub room : length s.records ≡ 17
  pub counted : s.count ≡ min 17 (length l)
  pub same : take s.count s.records ≡ take 17 l

-- the number of a refused start, 101 to 105
abbrev pub refusal_of : Answer → Option ℕ
refusal_of Answer.Returned = None
refusal_of Answer.Unraised = None
refusal_of Answer.Raised = None
refusal_of Answer.Succeeded = None
refusal_of Answer.Leased = None
refusal_of Answer.Refused = None
refusal_of Answer.Submitted = None
refusal_of Answer.Item = None
refusal_of Answer.ReplyAwaited = None
refusal_of Answer.OtherAwaited = None
refusal_of Answer.NoReplyAwaited = None
refusal_of Answer.NoRuntime = None
refusal_of Answer.Started = None
refusal_of Answer.InvalidBootId = Some invalid_boot_id
refusal_of Answer.InvalidConfig = Some invalid_config
refusal_of Answer.InvalidCapability = Some invalid_capability
refusal_of Answer.DuplicateCapability = Some duplicate_capability
refusal_of Answer.StartupFailed = Some startup_failed

abbrev pub is_refusal : Answer → Bool
is_refusal a = is_some (refusal_of a)

-- the parts of the state -------------------------------------------------------------------------------------------------

-- the axes are marked that the records name
pub record Fixes (c : Config) (l : Listed) (boot : ℕ) (f : Fixed) : Type 0 where
  pub config : f.config ≡ c
  pub boot_id : f.boot_id ≡ boot
  pub count : f.count ≡ min 16 l.count
  pub used : (axis : ℕ) → axis < 8 → get_or f.used axis false ≡ axis_used (take f.count l.records) axis

-- 01: "It leaves epoch 1, next receipt 1, next lease 1, raise number seen 0, last tick and state stamp at its time"; nothing ends, for no lease stands
abbrev pub numbers_at : Config → ℕ → ℕ → Numbers
numbers_at config time flags =
    record {
      next_receipt = 1;
      next_lease = 1;
      epoch = 1;
      state_at = time;
      last_tick = time;
      flags = flags;
      estop_seen = 0;
      invalid_count = 0;
      mode = record { state = cond (meets_estop flags config) Estopped SafeIdle };
      held = 0;
      soonest = top;
    }

-- the startup fallbacks --------------------------------------------------------------------------------------------------

abbrev pub ended_by : Stage → Bool → Answer → Trial
ended_by stage good answer =
    record { starting = record { stage = stage; good = good }; waiting = awaiting Awaited.Nothing; axis = 0; answer = answer }

abbrev pub tried_at : ℕ → Bool → Trial
tried_at axis good =
    record { starting = record { stage = Stage.Trying; good = good }; waiting = awaiting Awaited.Fallback; axis = axis; answer = Answer.Item }

-- past the last axis the start is over
abbrev pub over_by : Bool → Trial
over_by true = ended_by Stage.Started true Answer.Started
over_by false = ended_by Stage.Gone false Answer.StartupFailed

abbrev pub trial_of : ℕ → Bool → Trial
trial_of axis good = cond (ltb axis 8) (tried_at axis good) (over_by good)

-- nothing is called before every check has passed
abbrev pub first_trial : Answer → List Bool → Trial
first_trial checked used = cond (is_refusal checked) (ended_by Stage.Gone false checked) (trial_of (first_used used 0) true)

abbrev pub is_started : Stage → Bool
is_started Stage.Trying = false
is_started Stage.Gone = false
is_started Stage.Started = true

-- who is heard -----------------------------------------------------------------------------------------------------------

-- what a call meets where it may not begin, and a reply where none is awaited of its kind
abbrev pub away_by : Stage → Answer
away_by Stage.Trying = Answer.ReplyAwaited
away_by Stage.Gone = Answer.NoRuntime
away_by Stage.Started = Answer.ReplyAwaited

abbrev pub unheard_by : Stage → Answer
unheard_by Stage.Trying = Answer.OtherAwaited
unheard_by Stage.Gone = Answer.NoReplyAwaited
unheard_by Stage.Started = Answer.NoReplyAwaited
