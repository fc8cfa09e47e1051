-- What is asked of an axis of a runtime.
use Rattle.std.specs.Prelude.{ℕ, Bool, not, get_or}
use Rattle.std.specs.Prelude.{None}
use Rattle.model.specs.Words.{permits}
use Rattle.rules.specs.Admission.{holds_of, is_held_by, is_some}
use Rattle.rules.specs.Rules.{due}
use Rattle.runtime.specs.declared.Runtime.{Runtime}
use Rattle.runtime.specs.Runtimes.{tables_in}

-- its lease or order is over
abbrev pub due_at : Runtime → ℕ → ℕ → Bool
due_at h time axis = is_some (due time (get_or (tables_in h).leases axis None) (get_or (tables_in h).active axis None))

-- the flags forbid its order
abbrev pub forbidden_at : Runtime → ℕ → ℕ → Bool
forbidden_at h flags axis = holds_of (get_or (tables_in h).active axis None) (λ a. not (permits a.capability flags))

-- this owner has the lease with this id on it
abbrev pub held_at : Runtime → ℕ → ℕ → ℕ → Bool
held_at h owner id axis = holds_of (get_or (tables_in h).leases axis None) (is_held_by owner id)
