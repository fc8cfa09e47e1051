-- The checks of an order in two parts, before and after the search in the replay ring (01, "An order"; runtime.rs, `validate`), and the
-- groups that the code makes. A law (proofs/Groups) says that the parts are readiness and the groups.
use Rattle.std.specs.Prelude.{ℕ, Bool, not, ◌&&◌, List, [], ◌∷◌, ltb, leb, eqb, take, drop}
use Rattle.std.specs.Prelude.{Option}
use Rattle.model.specs.declared.Capability.{Capability}
use Rattle.model.specs.declared.Lease.{Lease}
use Rattle.model.specs.declared.Reason.TheVariants.{Bound, Stale, Authority, Precondition, OldSequence, Epoch, UnknownCapability, TooEarly, Invalid, BootMismatch}
use Rattle.model.specs.declared.Submission.{Submission}
use Rattle.model.specs.Words.{permits}
use Rattle.rules.specs.Admission.{Check, check, holds_of, authorizes, well_formed, valid_until, all_contain, admission}
use Rattle.rules.specs.Book.{Book}
use Rattle.rules.specs.Receipts.{top}

-- readiness, boot number, principal, capability, lease, form
abbrev pub early_checks : Submission → Book → List Check
early_checks s b = take 9 (admission s b)

-- sequence, times, epoch, bounds, flags
abbrev pub late_checks : Submission → Book → List Check
late_checks s b = drop 10 (admission s b)

-- 01: "23 boot; 3 principal 0 or not the requester"
unfoldable pub identity_checks : Submission → ℕ → List Check
identity_checks s boot =
    check (eqb s.action.boot_id boot) BootMismatch
    ∷ check (not (eqb s.principal 0) && eqb s.principal s.action.requester) Authority
    ∷ []

-- 01: "8 no such capability; 3 no lease, other id, other owner, capability bit clear"
unfoldable pub authority_checks : Submission → Bool → Option Lease → List Check
authority_checks s known l = check known UnknownCapability ∷ check (holds_of l (authorizes s)) Authority ∷ []

-- 01: "10 (action id or sequence 0, received after now, validity 0 or over limit, execute_after ≥ deadline)"
unfoldable pub form_checks : Submission → Book → List Check
form_checks s b = check (well_formed s b) Invalid ∷ []

-- 01: "6 sequence not above the lease's last"
unfoldable pub sequence_checks : Submission → Lease → List Check
sequence_checks s l = check (ltb l.last_sequence s.action.sequence) OldSequence ∷ []

-- 01: "10 received plus validity past u64; 2 now ≥ deadline or ≥ that sum; 9 now before execute_after"
unfoldable pub time_checks : Submission → List Check
time_checks s =
    check (leb (valid_until s) top) Invalid
    ∷ check (ltb s.now s.action.deadline && ltb s.now (valid_until s)) Stale
    ∷ check (leb s.action.execute_after s.now) TooEarly
    ∷ []

-- 01: "7 epoch; 1 a parameter outside capability or lease bounds; 5 flags"
unfoldable pub state_checks : Submission → ℕ → ℕ → Capability → Lease → List Check
state_checks s epoch flags c l =
    check (eqb s.action.based_on_epoch epoch) Epoch
    ∷ check (all_contain c.bounds s.action.parameters && all_contain l.limits s.action.parameters) Bound
    ∷ check (permits c flags) Precondition
    ∷ []
