-- A case is read again from its word, and a number that fits from the word that has it; a word past the last case is the first case. Assumes
-- nothing.
use Prim.Native.Nat.{ℕ, zero, suc, ◌+◌, ◌<◌, ◌≤◌}
use mathlib.Core.Bool.{Bool, true, false, cond}
use mathlib.Core.List.{List, [], ◌∷◌}
use mathlib.Core.Path.{◌≡◌, refl, sym, ap}
use borrow.Author.Tests.{lt-ltb, le-ltb, ltb-true}
use native.Mathlib.Omega.{arith}
use lib.Dec.{ltb}
use lib.ListN.{get_or, length}
use Rattle.model.specs.declared.Presence.{Presence}
use Rattle.model.specs.declared.Presence.TheVariants.{Absent, Present}
use Rattle.model.specs.declared.RuntimeState.{RuntimeState}
use Rattle.format.specs.Encode.{state_number}
use Rattle.format.proofs.FieldLaws.{state-back}
use Rattle.state.specs.declared.AfterFallback.{AfterFallback}
use Rattle.state.specs.declared.AfterRecord.{AfterRecord}
use Rattle.state.specs.declared.AfterTrip.{AfterTrip}
use Rattle.state.specs.declared.Awaited.{Awaited}
use Rattle.state.specs.declared.CallKind.{CallKind}
use Rattle.decide_start.specs.declared.Stage.{Stage}
use Rattle.rows.specs.Codes.{below, presence_of, presence_word, mode_of, awaited_of, awaited_word, after_record_of, after_record_word, after_fallback_of, after_fallback_word, after_trip_of, after_trip_word, call_kind_of, call_kind_word, stage_of, stage_word}

-- a word past the last case ----------------------------------------------------------------------------------------------

-- what the last arm of a `match` on a number is told: that it is none of the numbers of the arms before, one for each case of the list
abbrev NoneFrom : {A : Type 0} → Type 0 → ℕ → List A → ℕ → Type 0
NoneFrom P k [] n = P
NoneFrom P k (x ∷ xs) n = NoneFrom (P × (n ≡ k → ⊥)) (suc k) xs n

known : {A : Type 0} (P : Type 0) (k : ℕ) (xs : List A) (n : ℕ) → NoneFrom P k xs n → P
known P k [] n t = t
known P k (x ∷ xs) n t = (known (P × (n ≡ k → ⊥)) (suc k) xs n t).0

none_from : {A : Type 0} (P : Type 0) (k : ℕ) (xs : List A) (n m : ℕ) (d : A) → n ≡ k + m → NoneFrom P k xs n → get_or xs m d ≡ d
none_from P k [] n m d e t = refl
none_from P k (x ∷ xs) n zero d e t = absurd ((known (P × (n ≡ k → ⊥)) (suc k) xs n t).1 (omega arith))
none_from P k (x ∷ xs) n (suc m) d e t = none_from (P × (n ≡ k → ⊥)) (suc k) xs n m d (omega arith) t

pub first-case : {A : Type 0} (x : A) (xs : List A) (n : ℕ) → NoneFrom Unit 1 xs n → x ≡ get_or (x ∷ xs) n x
first-case x xs zero t = refl
first-case x xs (suc n) t = sym (none_from Unit 1 xs (suc n) n x (omega arith) t)

-- lists of a known length ------------------------------------------------------------------------------------------------

abbrev tab : {A : Type 0} → (ℕ → A) → ℕ → List A
tab f zero = []
tab f (suc n) = f 0 ∷ tab (λ (i : ℕ). f (suc i)) n

tab-back : {A : Type 0} (d : A) (l : List A) → tab (λ (i : ℕ). get_or l i d) (length l) ≡ l
tab-back d [] = refl
tab-back d (x ∷ l) = ap (λ t. x ∷ t) (tab-back d l)

-- a list is its n entries
pub entries-back : {A : Type 0} (n : ℕ) (d : A) (l : List A) → length l ≡ n → tab (λ (i : ℕ). get_or l i d) n ≡ l
entries-back n d l e = rw e at (tab-back d l)

-- numbers ----------------------------------------------------------------------------------------------------------------

pub below-back : (n x : ℕ) → x < n → below n x ≡ x
unfolding below
below-back n x h = rw (lt-ltb x n h)

kept_less : (n x : ℕ) (b : Bool) → ltb x n ≡ b → 0 < n → cond b x 0 < n
kept_less n x true e h = ltb-true x n e
kept_less n x false e h = h

pub below_less : (n x : ℕ) → 0 < n → below n x < n
unfolding below
below_less n x h = kept_less n x (ltb x n) refl h

pub below-past : (n x : ℕ) → n ≤ x → below n x ≡ 0
unfolding below
below-past n x h = rw (le-ltb x n h)

-- cases ------------------------------------------------------------------------------------------------------------------

pub presence-back : (x : Presence) → presence_of (presence_word x) ≡ x
presence-back Absent = refl
presence-back Present = refl

pub mode-back : (x : RuntimeState) → mode_of (state_number x) ≡ x
mode-back x = state-back x

pub awaited-back : (x : Awaited) → awaited_of (awaited_word x) ≡ x
awaited-back Awaited.Nothing = refl
awaited-back Awaited.ObserveBefore = refl
awaited-back Awaited.Execute = refl
awaited-back Awaited.ObserveAfter = refl
awaited-back Awaited.Fallback = refl
awaited-back Awaited.Record = refl

pub after-record-back : (x : AfterRecord) → after_record_of (after_record_word x) ≡ x
after-record-back AfterRecord.Fallback = refl
after-record-back AfterRecord.Lease = refl
after-record-back AfterRecord.Executed = refl
after-record-back AfterRecord.Failed = refl
after-record-back AfterRecord.Rejected = refl

pub after-fallback-back : (x : AfterFallback) → after_fallback_of (after_fallback_word x) ≡ x
after-fallback-back AfterFallback.Trip = refl
after-fallback-back AfterFallback.Expiry = refl
after-fallback-back AfterFallback.Precondition = refl
after-fallback-back AfterFallback.Recovery = refl
after-fallback-back AfterFallback.Cancel = refl

pub after-trip-back : (x : AfterTrip) → after_trip_of (after_trip_word x) ≡ x
after-trip-back AfterTrip.Tick = refl
after-trip-back AfterTrip.Watchdog = refl
after-trip-back AfterTrip.Stale = refl
after-trip-back AfterTrip.Expiry = refl
after-trip-back AfterTrip.Precondition = refl
after-trip-back AfterTrip.Return = refl
after-trip-back AfterTrip.Poll = refl
after-trip-back AfterTrip.Cancel = refl
after-trip-back AfterTrip.Submit = refl

pub call-kind-back : (x : CallKind) → call_kind_of (call_kind_word x) ≡ x
call-kind-back CallKind.Tick = refl
call-kind-back CallKind.UpdateState = refl
call-kind-back CallKind.RecoverLocal = refl
call-kind-back CallKind.Acquire = refl
call-kind-back CallKind.Renew = refl
call-kind-back CallKind.Cancel = refl
call-kind-back CallKind.Submit = refl

pub stage-back : (x : Stage) → stage_of (stage_word x) ≡ x
stage-back Stage.Gone = refl
stage-back Stage.Trying = refl
stage-back Stage.Started = refl
