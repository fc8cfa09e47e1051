-- Decode after encode: signed numbers of 32 bits, two of them in one word, lists of two, the cases, and the rows of the tables. Assumes nothing.
use Prim.Native.Nat.{ℕ, ◌%◌, ◌<◌}
use native.Mathlib.Nat.{mod-eq_of_lt}
use native.Mathlib.Omega.{arith}
use mathlib.Core.Bool.{Bool}
use mathlib.Core.List.{List, [], ◌∷◌, map}
use mathlib.Core.Path.{◌≡◌, refl, sym, ap, ◌∙◌}
use borrow.Author.Rules.{rules}
use denote.Laws.{Is}
use lib.Dec.{eqb}
use lib.IntN.{ℤ, pos}
use lib.ListN.{length, get_or, length-map}
use mir.Syntax.{w32}
use mir.Val.{SFits, Val}
use Rattle.words.specs.Signs.{signed, unsigned}
use Rattle.model.specs.contracts.Capability.{the_row as capability-row}
use Rattle.model.specs.contracts.Receipt.{the_row as receipt-type}
use Rattle.model.specs.contracts.Verification.{the_row as verification-row}
use Rattle.model.specs.Records.{zero_bounds}
use Rattle.model.specs.declared.ActiveSlot.{ActiveSlot}
use Rattle.model.specs.declared.Bounds.{Bounds}
use Rattle.model.specs.declared.Capability.{Capability}
use Rattle.model.specs.declared.Decision.{Decision}
use Rattle.model.specs.declared.ExecutionClass.{ExecutionClass}
use Rattle.model.specs.declared.ExecutionClass.TheVariants as Class
use Rattle.model.specs.declared.LeaseRequest.{LeaseRequest}
use Rattle.model.specs.declared.LeaseSlot.{LeaseSlot}
use Rattle.model.specs.declared.Reason.{Reason}
use Rattle.model.specs.declared.Receipt.{Receipt}
use Rattle.model.specs.declared.Renewal.{Renewal}
use Rattle.model.specs.declared.ReplaySlot.{ReplaySlot}
use Rattle.model.specs.declared.Submission.{Submission}
use Rattle.model.specs.declared.Verification.{Verification}
use Rattle.format.specs.Decode.{bounds_of, class_of, verification_of, capability_of, request_of, renewal_of, action_of, submission_of}
use Rattle.format.specs.Encode.{part_at, min_at, max_at, class_number, verification_word, mask_word, value_word, capability_words, lease_words}
use Rattle.format.proofs.FieldLaws.{bit-back, decision-back, reason-back}
use Rattle.rows.proofs.Codes.{presence-back}
use Rattle.rows.specs.Codes.{paired, low_of, high_of, signs_of, signs_word, presence_word, decision_of, reason_of}
use Rattle.rows.specs.Rows.{lease_slot_of, lease_slot_words, capability_row, active_slot_of, active_slot_words, replay_slot_of, replay_slot_words, receipt_of, receipt_row, request_row, renewal_row, submission_row}
use Rattle.words.proofs.Signs.{unsigned-below, signed-unsigned}

-- signed numbers ---------------------------------------------------------------------------------------------------------

pub unsigned-low : (z : ℤ) → SFits w32 z → unsigned z % 4294967296 ≡ unsigned z
unsigned-low z f = mod-eq_of_lt (unsigned-below z f)

pub sign-back : (z : ℤ) → SFits w32 z → signed (unsigned z % 4294967296) ≡ z
sign-back z f = ap signed (unsigned-low z f) ∙ signed-unsigned z f

-- two numbers in one word ------------------------------------------------------------------------------------------------

pub low-back : (a b : ℕ) → a < 4294967296 → low_of (paired a b) ≡ a
unfolding low_of paired
low-back a b h = omega arith

pub high-back : (a b : ℕ) → a < 4294967296 → b < 4294967296 → high_of (paired a b) ≡ b
unfolding high_of paired
high-back a b h k = omega arith

-- lists of two -----------------------------------------------------------------------------------------------------------

two : {A : Type 0} (l : List A) (d : A) → length l ≡ 2 → (get_or l 0 d ∷ get_or l 1 d ∷ []) ≡ l
two [] d n = absurd (omega arith)
two (a ∷ []) d n = absurd (omega arith)
two (a ∷ b ∷ []) d n = refl
two (a ∷ b ∷ x ∷ l) d n = absurd (omega arith)

-- what owning an array of structs tells of its list: for `search`
pub length-mapped : (X Y : Type 0) (f : X → Y) (l : List X) (n : ℕ) → length (map f l) ≡ n → length l ≡ n
length-mapped X Y f l n e = sym (length-map l f) ∙ e

-- two signed numbers that fit
pub record Parts (l : List ℤ) : Type 0 where
  pub long : length l ≡ 2
  pub first : SFits w32 (get_or l 0 (pos 0))
  pub second : SFits w32 (get_or l 1 (pos 0))

pub parts-back : (l : List ℤ) → Parts l → (signed (part_at l 0 % 4294967296) ∷ signed (part_at l 1 % 4294967296) ∷ []) ≡ l
parts-back l p = rw (sign-back (get_or l 0 (pos 0)) p.first, sign-back (get_or l 1 (pos 0)) p.second) (two l (pos 0) p.long)

pub signs-back : (l : List ℤ) → Parts l → signs_of (signs_word (get_or l 0 (pos 0)) (get_or l 1 (pos 0))) ≡ l
signs-back l p =
    let a = unsigned-below (get_or l 0 (pos 0)) p.first in
    let b = unsigned-below (get_or l 1 (pos 0)) p.second in
    rw (low-back (part_at l 0) (part_at l 1) a, high-back (part_at l 0) (part_at l 1) a b, signed-unsigned (get_or l 0 (pos 0)) p.first, signed-unsigned (get_or l 1 (pos 0)) p.second)
    (two l (pos 0) p.long)

-- two bounds that fit
pub record Limits (l : List Bounds) : Type 0 where
  pub long : length l ≡ 2
  pub min0 : SFits w32 (get_or l 0 zero_bounds).min
  pub max0 : SFits w32 (get_or l 0 zero_bounds).max
  pub min1 : SFits w32 (get_or l 1 zero_bounds).min
  pub max1 : SFits w32 (get_or l 1 zero_bounds).max

bounds-back : (b : Bounds) → SFits w32 b.min → SFits w32 b.max → bounds_of (unsigned b.min) (unsigned b.max) ≡ b
unfolding bounds_of
bounds-back b f g = rw (sign-back b.min f, sign-back b.max g)

pub limits-back : (l : List Bounds) → Limits l → (bounds_of (min_at l 0) (max_at l 0) ∷ bounds_of (min_at l 1) (max_at l 1) ∷ []) ≡ l
limits-back l p =
    rw (bounds-back (get_or l 0 zero_bounds) p.min0 p.max0, bounds-back (get_or l 1 zero_bounds) p.min1 p.max1) (two l zero_bounds p.long)

-- cases ------------------------------------------------------------------------------------------------------------------

pub class_back : (c : ExecutionClass) → class_of (class_number c) ≡ c
unfolding class_of class_number
class_back Class.Stream = refl
class_back Class.Discrete = refl
class_back Class.Control = refl

pub verification-back : (v : Verification) → mask_word v < 4294967296 → value_word v < 4294967296
    → verification_of (eqb (verification_word v) 1) (mask_word v % 4294967296) (value_word v % 4294967296) ≡ v
unfolding verification_of verification_word mask_word value_word
verification-back Verification.Parameters h k = refl
verification-back (Verification.State mask value) h k = rw (mod-eq_of_lt h, mod-eq_of_lt k)

-- rows of the tables -----------------------------------------------------------------------------------------------------

pub lease-slot-back : (x : LeaseSlot) → x.lease.resource < 256 → Limits x.lease.limits → lease_slot_of (lease_slot_words x) ≡ x
unfolding lease_slot_of lease_slot_words lease_words
lease-slot-back x h p = rw (presence-back x.presence, mod-eq_of_lt h, limits-back x.lease.limits p)

pub record Capable (c : Capability) : Type 0 where
  pub id : c.id < 65536
  pub resource : c.resource < 256
  pub parameter_count : c.parameter_count < 256
  pub bounds : Limits c.bounds
  pub require_set : c.require_set < 4294967296
  pub require_clear : c.require_clear < 4294967296
  pub mask : mask_word c.verification < 4294967296
  pub value : value_word c.verification < 4294967296

pub capability-back : (first : ℕ) (c : Capability) → Capable c → capability_of (capability_row first c) ≡ c
unfolding capability_of capability_words
capability-back first c p =
    rw (mod-eq_of_lt p.id, mod-eq_of_lt p.resource, class_back c.class, mod-eq_of_lt p.parameter_count, limits-back c.bounds p.bounds, mod-eq_of_lt p.require_set, mod-eq_of_lt p.require_clear, verification-back c.verification p.mask p.value)

verification-told : (v : Verification) (vs : List Val) → Is verification-row v vs → (mask_word v < 4294967296) × (value_word v < 4294967296)
unfolding mask_word value_word
verification-told Verification.Parameters vs p = (omega arith, omega arith)
verification-told (Verification.State mask value) vs p = (search rules, search rules)

-- what owning a capability tells of its last field
pub capability-told : (c : Capability) (vs : List Val) → Is capability-row c vs → (mask_word c.verification < 4294967296) × (value_word c.verification < 4294967296)
capability-told c vs p = verification-told c.verification _ p.1.1.1.1.1.1.1.1.1.0

pub active-slot-back : (x : ActiveSlot) → capability_of (capability_row (presence_word x.presence) x.active.capability) ≡ x.active.capability
    → active_slot_of (active_slot_words x) ≡ x
unfolding active_slot_of active_slot_words capability_of capability_words
active-slot-back x e =
    rw (presence-back x.presence) (ap (λ (c : Capability). record { presence = x.presence; active = record { capability = c; expires_at = x.active.expires_at } }) e)

pub replay-slot-back : (x : ReplaySlot) → replay_slot_of (replay_slot_words x) ≡ x
unfolding replay_slot_of replay_slot_words
replay-slot-back x = rw (presence-back x.presence)

pub record Fitting (r : Receipt) : Type 0 where
  pub safety_flags : r.safety_flags < 4294967296
  pub capability : r.capability < 65536
  pub resource : r.resource < 256
  pub requested : signs_of (signs_word (get_or r.requested 0 (pos 0)) (get_or r.requested 1 (pos 0))) ≡ r.requested
  pub observed : signs_of (signs_word (get_or r.observed 0 (pos 0)) (get_or r.observed 1 (pos 0))) ≡ r.observed
  pub pre_state : r.pre_state < 4294967296
  pub post_state : r.post_state < 4294967296

pub receipt-back : (r : Receipt) → Fitting r → receipt_of (receipt_row r) ≡ r
unfolding receipt_of receipt_row
receipt-back r f =
    rw (mod-eq_of_lt f.safety_flags, mod-eq_of_lt f.capability, mod-eq_of_lt f.resource, decision-back r.decision, reason-back r.reason, f.requested, f.observed, low-back r.pre_state r.post_state f.pre_state, high-back r.pre_state r.post_state f.pre_state f.post_state, bit-back r.dispatched, bit-back r.observed_valid)

-- what owning a receipt tells of its two states
pub receipt-told : (r : Receipt) (vs : List Val) → Is receipt-type r vs → (r.pre_state < 4294967296) × (r.post_state < 4294967296)
receipt-told r vs p = (search rules, search rules)

-- a receipt made of its words, field by field
pub receipt-made : (l : List ℕ) {d : Decision} {e : Reason} {x₂ x₆ x₇ p q : ℕ} {r o : List ℤ} {s t : Bool} → x₂ ≡ get_or l 2 0 % 4294967296
    → x₆ ≡ get_or l 6 0 % 65536 → x₇ ≡ get_or l 7 0 % 256 → d ≡ decision_of (get_or l 9 0) → e ≡ reason_of (get_or l 10 0) → r ≡ signs_of (get_or l 15 0)
    → o ≡ signs_of (get_or l 16 0) → p ≡ low_of (get_or l 17 0) → q ≡ high_of (get_or l 17 0) → s ≡ eqb (get_or l 19 0) 1 → t ≡ eqb (get_or l 20 0) 1
    → ◌≡◌ {A = Receipt}
    (record { boot_id = get_or l 0 0; principal = get_or l 1 0; safety_flags = x₂; receipt_id = get_or l 3 0; action_id = get_or l 4 0; sequence = get_or l 5 0; capability = x₆; resource = x₇; lease_id = get_or l 8 0; decision = d; reason = e; epoch = get_or l 11 0; received_at = get_or l 12 0; admitted_at = get_or l 13 0; executed_at = get_or l 14 0; requested = r; observed = o; pre_state = p; post_state = q; original_receipt = get_or l 18 0; dispatched = s; observed_valid = t })
    (receipt_of l)
unfolding receipt_of
receipt-made l a b c d e f g h i j k = rw (a, b, c, d, e, f, g, h, i, j, k)

-- rows of the calls in hand ----------------------------------------------------------------------------------------------

pub request-back : (x : LeaseRequest) → x.resource < 256 → x.duration_ms < 4294967296 → Limits x.limits → request_of (request_row x) ≡ x
unfolding request_of request_row
request-back x h k p = rw (mod-eq_of_lt h, mod-eq_of_lt k, limits-back x.limits p)

pub renewal-back : (x : Renewal) → x.duration_ms < 4294967296 → renewal_of (renewal_row x) ≡ x
unfolding renewal_of renewal_row
renewal-back x h = rw (mod-eq_of_lt h)

pub submission-back : (x : Submission) → x.action.capability < 65536 → x.action.valid_for_ms < 4294967296 → Parts x.action.parameters
    → submission_of (submission_row x) ≡ x
unfolding submission_of submission_row action_of
submission-back x h k p = rw (mod-eq_of_lt h, mod-eq_of_lt k, parts-back x.action.parameters p)
