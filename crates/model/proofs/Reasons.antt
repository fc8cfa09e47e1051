-- A reason and its number determine each other. Assumes nothing.
use Prim.Native.Nat.{ℕ, zero, suc, ◌+◌, ◌≤◌}
use mathlib.Core.Path.{◌≡◌, refl, sym, ap, ◌∙◌}
use mathlib.Core.Bool.{Bool, true, ◌&&◌}
use mathlib.Core.List.{List, [], ◌∷◌}
use native.Mathlib.Nat.{zero-add, add-zero}
use native.Mathlib.Omega.{arith}
use borrow.Author.Tests.{eqb-true}
use lib.Dec.{eqb}
use lib.ListN.{length}
use Rattle.model.specs.declared.Reason.{Reason}
use Rattle.model.specs.declared.Reason.TheVariants.{Ok, Bound, Stale, Authority, Duplicate, Precondition, OldSequence, Epoch, UnknownCapability, TooEarly, Invalid, Estop, Faulted, Watchdog, LeaseExpired, StreamExpired, Driver, Verification, Clock, Busy, Canceled, InvalidStorm, StateStale, BootMismatch, LeaseGranted, LeaseRenewed, Recovered, Startup}
use Rattle.std.specs.Prelude.{Some, None, slice_get}
use Rattle.std.proofs.lemmas.Option.{none-some}
use Rattle.model.proofs.Options.{some-injective}
use Rattle.model.specs.Reasons.{number, reasons, reason_at}
use Rattle.model.proofs.Tests.{and_both}

past_end : (l : List Reason) (n : ℕ) → length l ≤ n → slice_get l n ≡ None
past_end [] n h = refl
past_end (r ∷ l) zero h = absurd (omega arith)
past_end (r ∷ l) (suc n) h = past_end l n (omega arith)

pub reason-unknown : (n : ℕ) → 28 ≤ n → reason_at n ≡ None
reason-unknown n h = past_end reasons n h

-- from a reason to its number and back
pub reason-number : (r : Reason) → reason_at (number r) ≡ Some r
reason-number Ok = refl
reason-number Bound = refl
reason-number Stale = refl
reason-number Authority = refl
reason-number Duplicate = refl
reason-number Precondition = refl
reason-number OldSequence = refl
reason-number Epoch = refl
reason-number UnknownCapability = refl
reason-number TooEarly = refl
reason-number Invalid = refl
reason-number Estop = refl
reason-number Faulted = refl
reason-number Watchdog = refl
reason-number LeaseExpired = refl
reason-number StreamExpired = refl
reason-number Driver = refl
reason-number Verification = refl
reason-number Clock = refl
reason-number Busy = refl
reason-number Canceled = refl
reason-number InvalidStorm = refl
reason-number StateStale = refl
reason-number BootMismatch = refl
reason-number LeaseGranted = refl
reason-number LeaseRenewed = refl
reason-number Recovered = refl
reason-number Startup = refl

-- the reasons of a list have the numbers from k on: the test is computed over the whole list
unfoldable numbered_from : ℕ → List Reason → Bool
numbered_from k [] = true
numbered_from k (r ∷ l) = eqb (number r) k && numbered_from (suc k) l

shift : (k n : ℕ) → suc k + n ≡ k + suc n
shift k n = omega arith

numbered-at : (k n : ℕ) (l : List Reason) (r : Reason) → numbered_from k l ≡ true → slice_get l n ≡ Some r → number r ≡ k + n
unfolding numbered_from
numbered-at k n [] r t e = absurd (none-some _ e)
numbered-at k zero (x ∷ l) r t e =
    let head = (and_both (eqb (number x) k) (numbered_from (suc k) l) t).0 in
    sym (ap number (some-injective _ _ e)) ∙ eqb-true (number x) k head ∙ sym (add-zero k)
numbered-at k (suc n) (x ∷ l) r t e =
    let rest = (and_both (eqb (number x) k) (numbered_from (suc k) l) t).1 in
    numbered-at (suc k) n l r rest e ∙ shift k n

-- from a number to its reason and back
pub number-reason : (n : ℕ) (r : Reason) → reason_at n ≡ Some r → number r ≡ n
unfolding numbered_from
number-reason n r e = numbered-at 0 n reasons r refl e ∙ zero-add n
