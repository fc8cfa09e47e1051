-- A field is read again from its word, and its word is within what it may be. Assumes nothing.
use Prim.Native.Nat.{ℕ, suc, ◌%◌, ◌<◌, ◌≤◌}
use native.Mathlib.Nat.{mod-eq_of_lt}
use native.Mathlib.Omega.{arith}
use mathlib.Core.Bool.{Bool, true, false}
use mathlib.Core.List.{List, [], ◌∷◌}
use mathlib.Core.Path.{◌≡◌, refl, ap, ◌∙◌}
use lib.Dec.{eqb}
use lib.IntN.{ℤ, pos, negsuc}
use Rattle.words.specs.Signs.{signed, unsigned}
use Rattle.model.specs.Decisions.{decision_number}
use Rattle.model.specs.Reasons.{number}
use Rattle.model.specs.declared.Bounds.{Bounds}
use Rattle.model.specs.declared.Decision.{Decision}
use Rattle.model.specs.declared.ExecutionClass.{ExecutionClass}
use Rattle.model.specs.declared.ExecutionClass.TheVariants as Class
use Rattle.model.specs.declared.Reason.{Reason}
use Rattle.model.specs.declared.RuntimeState.{RuntimeState}
use Rattle.model.specs.declared.RuntimeState.TheVariants as State
use Rattle.model.specs.declared.Verification.{Verification}
use Rattle.format.specs.Kinds.{u32}
use Rattle.format.specs.Decode.{bounds_of, class_of, verification_of}
use Rattle.format.specs.Encode.{bit, part_at, min_at, max_at, class_number, state_number, verification_word, mask_word, value_word}
use Rattle.format.specs.Inputs.{I32, Two, two, RangedBounds, RangedVerification}
use Rattle.format.specs.Back.{decision_of, reason_of, state_of}
use Rattle.words.proofs.Signs.{signed-unsigned}

-- numbers ----------------------------------------------------------------------------------------------------------------

-- the low bits of a word are the word, whatever the width
pub kept : {n most : ℕ} → n ≤ most → n % suc most ≡ n
kept h = mod-eq_of_lt (omega arith)

pub unsigned-in : (z : ℤ) → I32 z → unsigned z ≤ u32
unfolding unsigned
unsigned-in (pos n) f = let k : n < 2147483648 = f.sfits in omega arith
unsigned-in (negsuc n) f = omega arith

pub sign-back : (z : ℤ) → I32 z → signed (unsigned z % 4294967296) ≡ z
sign-back z f = ap signed (kept (unsigned-in z f)) ∙ signed-unsigned z f

pub bit_in : (b : Bool) → bit b ≤ 1
unfolding bit
bit_in false = omega arith
bit_in true = omega arith

pub bit-back : (b : Bool) → eqb (bit b) 1 ≡ b
unfolding bit
bit-back false = refl
bit-back true = refl

-- lists of two -----------------------------------------------------------------------------------------------------------

pub parts_in : {l : List ℤ} → Two I32 l → (part_at l 0 ≤ u32) × (part_at l 1 ≤ u32)
parts_in (two {a = a} {b = b} f g) = (unsigned-in a f, unsigned-in b g)

pub parts-back : {l : List ℤ} → Two I32 l → (signed (part_at l 0 % 4294967296) ∷ signed (part_at l 1 % 4294967296) ∷ []) ≡ l
parts-back (two {a = a} {b = b} f g) = rw (sign-back a f, sign-back b g)

pub bounds-in : {l : List Bounds} → Two RangedBounds l → (min_at l 0 ≤ u32) × (max_at l 0 ≤ u32) × (min_at l 1 ≤ u32) × (max_at l 1 ≤ u32)
bounds-in (two {a = a} {b = b} f g) = (unsigned-in a.min f.0, unsigned-in a.max f.1, unsigned-in b.min g.0, unsigned-in b.max g.1)

pub bounds-back : {l : List Bounds} → Two RangedBounds l → (bounds_of (min_at l 0) (max_at l 0) ∷ bounds_of (min_at l 1) (max_at l 1) ∷ []) ≡ l
unfolding bounds_of
bounds-back (two {a = a} {b = b} f g) = rw (sign-back a.min f.0, sign-back a.max f.1, sign-back b.min g.0, sign-back b.max g.1)

-- cases ------------------------------------------------------------------------------------------------------------------

pub class-in : (c : ExecutionClass) → class_number c ≤ 2
unfolding class_number
class-in Class.Stream = omega arith
class-in Class.Discrete = omega arith
class-in Class.Control = omega arith

pub class_back : (c : ExecutionClass) → class_of (class_number c) ≡ c
unfolding class_of class_number
class_back Class.Stream = refl
class_back Class.Discrete = refl
class_back Class.Control = refl

pub verification-in : (v : Verification) → RangedVerification v → (verification_word v ≤ 1) × (mask_word v ≤ u32) × (value_word v ≤ u32)
unfolding verification_word mask_word value_word
verification-in Verification.Parameters p = omega arith
verification-in (Verification.State mask value) p = omega arith

pub verification-back : (v : Verification) → RangedVerification v
    → verification_of (eqb (verification_word v) 1) (mask_word v % 4294967296) (value_word v % 4294967296) ≡ v
unfolding verification_of verification_word mask_word value_word
verification-back Verification.Parameters p = refl
verification-back (Verification.State mask value) p = rw (kept p.0, kept p.1)

pub decision-back : (d : Decision) → decision_of (decision_number d) ≡ d
unfolding decision_number
decision-back Decision.Executed = refl
decision-back Decision.Rejected = refl
decision-back Decision.Fallback = refl
decision-back Decision.Control = refl
decision-back Decision.Failed = refl

pub state-back : (s : RuntimeState) → state_of (state_number s) ≡ s
unfolding state_number
state-back State.SafeIdle = refl
state-back State.Armed = refl
state-back State.Faulted = refl
state-back State.Estopped = refl

pub reason-back : (x : Reason) → reason_of (number x) ≡ x
reason-back Reason.Ok = refl
reason-back Reason.Bound = refl
reason-back Reason.Stale = refl
reason-back Reason.Authority = refl
reason-back Reason.Duplicate = refl
reason-back Reason.Precondition = refl
reason-back Reason.OldSequence = refl
reason-back Reason.Epoch = refl
reason-back Reason.UnknownCapability = refl
reason-back Reason.TooEarly = refl
reason-back Reason.Invalid = refl
reason-back Reason.Estop = refl
reason-back Reason.Faulted = refl
reason-back Reason.Watchdog = refl
reason-back Reason.LeaseExpired = refl
reason-back Reason.StreamExpired = refl
reason-back Reason.Driver = refl
reason-back Reason.Verification = refl
reason-back Reason.Clock = refl
reason-back Reason.Busy = refl
reason-back Reason.Canceled = refl
reason-back Reason.InvalidStorm = refl
reason-back Reason.StateStale = refl
reason-back Reason.BootMismatch = refl
reason-back Reason.LeaseGranted = refl
reason-back Reason.LeaseRenewed = refl
reason-back Reason.Recovered = refl
reason-back Reason.Startup = refl
