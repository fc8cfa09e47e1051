-- 01's table of refusals, of every start and history. Assumes nothing.
use Prim.Native.Nat.{ℕ, zero, suc, ◌≤◌}
use mathlib.Core.List.{List, [], ◌∷◌}
use Rattle.std.specs.Prelude.{Some, None}
use mathlib.Core.Path.{◌≡◌, refl, ap, ◌∙◌}
use native.Mathlib.Omega.{arith}
use lib.ListN.{length, get_or-eq_default}
use Rattle.std.specs.Prelude.{slice_get}
use Rattle.rules.specs.Book.{Book, lease_at}
use Rattle.rules.specs.Protocol.{ReadLease, ReadReceipt, OfLease, OfReceipt, Shows, Start, book_in, read}
use Rattle.rules.specs.Log.{History, phase_after, took_effect}
use Rattle.rules.specs.Refusals.{Refusals}
use Rattle.rules.proofs.Turns.{turns}
use Rattle.rules.proofs.StartRefusals.{unaltered, start-refusals}
use Rattle.rules.proofs.Once.{holds}
use Rattle.rules.proofs.Refused.{refused-call, refused-driver}
use Rattle.rules.proofs.Succeeded.{succeeded}
use Rattle.rules.proofs.Rejected.{rejecting, rejected}

-- ---- readings past the ends

no-lease : (s : Start) (h : History) (b : Book) → book_in (phase_after s h) ≡ Some b → (axis : ℕ) → 8 ≤ axis → lease_at b axis ≡ None
no-lease s h b e axis past = get_or-eq_default b.leases None (omega (arith, (holds s h b e).0.leasing.eight))

past-last : {A : Type 0} (l : List A) (i : ℕ) → length l ≤ i → slice_get l i ≡ None
past-last [] i h = refl
past-last (a ∷ l) zero h = absurd (omega arith)
past-last (a ∷ l) (suc i) h = past-last l i (omega arith)

-- ---- the table

pub refusals : (s : Start) (h : History) → Refusals s h
unfolding took_effect read
refusals s h =
    record {
      start = start-refusals s;
      reminded = λ i n item e. unaltered s i h (ap took_effect e);
      refused = λ i n e. unaltered s i h (ap took_effect e);
      unmet = λ i e. unaltered s i h (ap took_effect e);
      shown = λ i v e. unaltered s i h (ap took_effect e);
      call = refused-call s h;
      driver = refused-driver s h;
      success = succeeded s h;
      rejecting = rejecting s h;
      rejected = rejected s h;
      no-lease = λ b e axis past. (turns s h).reading b e (ReadLease axis) ∙ ap (λ x. Shows (OfLease x)) (no-lease s h b e axis past);
      no-receipt = λ b e i past. (turns s h).reading b e (ReadReceipt i) ∙ ap (λ x. Shows (OfReceipt x)) (past-last b.receipts i past);
    }
