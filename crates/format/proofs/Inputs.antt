-- Every input within its fields' ranges has a record: its words, decoded. Assumes nothing.
use Prim.Native.Nat.{ℕ, ◌≤◌}
use native.Mathlib.Omega.{arith}
use mathlib.Core.Bool.{true}
use mathlib.Core.List.{List, [], ◌∷◌, ◌++◌}
use Rattle.std.specs.Prelude.{Some, None}
use mathlib.Core.Path.{◌≡◌, refl, ap}
use borrow.Author.Tests.{le-leb}
use Rattle.model.specs.declared.Capability.{Capability}
use Rattle.rules.specs.Protocol.{Call, Reply, Reading, Calls, Replies, Reads, Tick, UpdateState, EmergencyStop, PollEstop, RecoverLocal, Acquire, Renew, Cancel, Submit, Observed, Executed, FellBack, Recorded, ReadState, ReadEpoch, ReadBootId, ReadFlags, ReadReceiptCount, ReadConfig, ReadSnapshot, ReadLease, ReadCapability, ReadReceipt}
use Rattle.format.specs.declared.RecordKind.{RecordKind}
use Rattle.format.specs.declared.RecordKind.TheVariants as Kind
use Rattle.format.specs.declared.TurnKind.TheVariants as Turn
use Rattle.format.specs.declared.ReadingKind.TheVariants as Ask
use Rattle.format.specs.Kinds.{kinds, lookup, kind_at, turn_limits, reading_limits, limits_of, within}
use Rattle.std.specs.Prelude.{Some}
use Rattle.format.specs.Decode.{checked, word, capability_of, config_of, request_of, renewal_of, action_of, submission_of, observation_of, observed_of, Record, Lists, Starts, Feeds, Malformed, turn_of, reading_of, record_of, checked_kind, decode}
use Rattle.format.specs.Encode.{capability_words, config_words}
use Rattle.format.specs.Inputs.{padded_to16, request_words, renewal_words, action_words, call_words, reply_words, reading_words, input_words, RangedCapability, RangedCall, RangedReply, RangedReading, Ranged}
use Rattle.format.proofs.FieldLaws.{kept, bit_in, bit-back, parts_in, parts-back, bounds-in, bounds-back, class-in, class_back, verification-in, verification-back}

-- words within their limits are decoded as what their kind says ----------------------------------------------------------

abbrev Each : List ℕ → List ℕ → Type 0
Each [] ls = Unit
Each (w ∷ ws) [] = Unit
Each (w ∷ ws) (l ∷ ls) = (w ≤ l) × Each ws ls

each_within : (ws ls : List ℕ) → Each ws ls → within ws ls ≡ true
unfolding within
each_within [] ls h = refl
each_within (w ∷ ws) [] h = refl
each_within (w ∷ ws) (l ∷ ls) h = rw (le-leb w l h.0) (each_within ws ls h.1)

decoded : (k : RecordKind) (ws : List ℕ) {r : Record} → kind_at (word ws 0) ≡ Some k → Each ws (limits_of k) → record_of (Some k) ws ≡ r → decode ws ≡ r
unfolding decode checked_kind checked
decoded k ws e h t = rw (e, each_within ws (limits_of k) h) t

-- records ----------------------------------------------------------------------------------------------------------------

-- a capability's words between others: the first word, and those after the last, are not read
pub capability-words-back : (first : ℕ) (rest : List ℕ) (c : Capability) → RangedCapability c → capability_of (first ∷ (capability_words c ++ rest)) ≡ c
unfolding capability_of capability_words
capability-words-back first rest c p =
    rw (kept p.id, kept p.resource, class_back c.class, kept p.parameter_count, bounds-back p.bounds, kept p.require_set, kept p.require_clear, verification-back c.verification p.verification)

call-has : (c : Call) → RangedCall c → decode (call_words c) ≡ Feeds (Calls c)
unfolding call_words padded_to16 request_words renewal_words action_words kind_at lookup kinds limits_of turn_limits record_of turn_of request_of renewal_of submission_of action_of
call-has (Tick now) p = decoded (Kind.Turn Turn.Tick) _ refl (omega arith) refl
call-has (UpdateState flags now) p = decoded (Kind.Turn Turn.UpdateState) _ refl (omega arith) (rw (kept p.0))
call-has (EmergencyStop now) p = decoded (Kind.Turn Turn.EmergencyStop) _ refl (omega arith) refl
call-has (PollEstop raised now) p = decoded (Kind.Turn Turn.PollEstop) _ refl (omega arith) (rw (kept p.0))
call-has (RecoverLocal now) p = decoded (Kind.Turn Turn.RecoverLocal) _ refl (omega arith) refl
call-has (Acquire r now) p =
    decoded (Kind.Turn Turn.Acquire) _ refl (omega (arith, bounds-in p.0.limits))
    (rw (kept p.0.resource, kept p.0.duration_ms, bounds-back p.0.limits))
call-has (Renew r) p = decoded (Kind.Turn Turn.Renew) _ refl (omega arith) (rw (kept p.duration_ms))
call-has (Cancel owner lease now) p = decoded (Kind.Turn Turn.Cancel) _ refl (omega arith) refl
call-has (Submit s) p =
    decoded (Kind.Turn Turn.Submit) _ refl (omega (arith, parts_in p.action.parameters))
    (rw (kept p.action.capability, kept p.action.valid_for_ms, parts-back p.action.parameters))

reply-has : (r : Reply) → RangedReply r → decode (reply_words r) ≡ Feeds (Replies r)
unfolding reply_words padded_to16 kind_at lookup kinds limits_of turn_limits record_of turn_of observed_of observation_of
reply-has (Observed None) p = decoded (Kind.Turn Turn.Observed) _ refl (omega arith) refl
reply-has (Observed (Some o)) p =
    decoded (Kind.Turn Turn.Observed) _ refl (omega (arith, parts_in p.parameters)) (rw (parts-back p.parameters, kept p.state))
reply-has (Executed ok) p = decoded (Kind.Turn Turn.Executed) _ refl (omega (arith, bit_in ok)) (rw (bit-back ok))
reply-has (FellBack ok) p = decoded (Kind.Turn Turn.FellBack) _ refl (omega (arith, bit_in ok)) (rw (bit-back ok))
reply-has Recorded p = decoded (Kind.Turn Turn.Recorded) _ refl (omega arith) refl

reading-has : (q : Reading) → RangedReading q → decode (reading_words q) ≡ Feeds (Reads q)
unfolding reading_words padded_to16 kind_at lookup kinds limits_of reading_limits record_of reading_of
reading-has ReadState p = decoded (Kind.Reading Ask.State) _ refl (omega arith) refl
reading-has ReadEpoch p = decoded (Kind.Reading Ask.Epoch) _ refl (omega arith) refl
reading-has ReadBootId p = decoded (Kind.Reading Ask.BootId) _ refl (omega arith) refl
reading-has ReadFlags p = decoded (Kind.Reading Ask.Flags) _ refl (omega arith) refl
reading-has ReadReceiptCount p = decoded (Kind.Reading Ask.ReceiptCount) _ refl (omega arith) refl
reading-has ReadConfig p = decoded (Kind.Reading Ask.Config) _ refl (omega arith) refl
reading-has ReadSnapshot p = decoded (Kind.Reading Ask.Snapshot) _ refl (omega arith) refl
reading-has (ReadLease axis) p = decoded (Kind.Reading Ask.Lease) _ refl (omega arith) (rw (kept p))
reading-has (ReadCapability index) p = decoded (Kind.Reading Ask.CapabilityAt) _ refl (omega arith) refl
reading-has (ReadReceipt index) p = decoded (Kind.Reading Ask.ReceiptAt) _ refl (omega arith) refl

malformed : decode (padded_to16 0 []) ≡ Malformed
unfolding decode checked_kind kind_at lookup kinds record_of padded_to16
malformed = refl

pub has-a-record : (r : Record) → Ranged r → decode (input_words r) ≡ r
unfolding input_words padded_to16 capability_words config_words kind_at lookup kinds limits_of record_of config_of
has-a-record (Lists c) p =
    decoded Kind.Capability _ refl (omega (arith, class-in c.class, bounds-in p.bounds, verification-in c.verification p.verification))
    (ap Lists (capability-words-back 1 (0 ∷ 0 ∷ []) c p))
has-a-record (Starts config boot_id now flags) p =
    decoded Kind.Start _ refl (omega arith)
    (rw (kept p.0.watchdog_ms, kept p.0.state_ttl_ms, kept p.0.max_lease_ms, kept p.0.max_valid_for_ms, kept p.0.invalid_limit, kept p.0.estop_mask, kept p.3))
has-a-record (Feeds (Calls c)) p = call-has c p
has-a-record (Feeds (Replies r)) p = reply-has r p
has-a-record (Feeds (Reads q)) p = reading-has q p
has-a-record Malformed p = malformed
