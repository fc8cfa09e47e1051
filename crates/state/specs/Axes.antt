-- The axes from one on, for loops that are left and taken up again, and the first of them that a test finds.
use Rattle.std.specs.Prelude.{ℕ, zero, suc, ◌+◌, ◌-◌, Bool, false, not, List, [], ◌∷◌, get_or}
use Rattle.std.specs.Prelude.{Option, None}
use Rattle.model.specs.declared.Active.{Active}
use Rattle.model.specs.declared.Capability.{Capability}
use Rattle.model.specs.declared.Lease.{Lease}
use Rattle.model.specs.Soundness.{axis_used}
use Rattle.model.specs.Words.{permits}
use Rattle.rules.specs.Admission.{holds_of, is_held_by, is_some}
use Rattle.rules.specs.Rules.{select, due}

unfoldable pub up_from : ℕ → ℕ → List ℕ
up_from i zero = []
up_from i (suc n) = i ∷ up_from (i + 1) n

-- the axes from i on, rising
unfoldable pub axes_from : ℕ → List ℕ
axes_from i = up_from i (8 - i)

-- the used ones of these
unfoldable pub used_from : List Capability → ℕ → List ℕ
used_from cs i = select (axis_used cs) (axes_from i)

-- the first axis of a list, or 8 where it is empty
unfoldable pub first_or8 : List ℕ → ℕ
first_or8 [] = 8
first_or8 (i ∷ is) = i

-- the first axis from i on that passes the test, or 8
unfoldable pub first_from : (ℕ → Bool) → ℕ → ℕ
first_from p i = first_or8 (select p (axes_from i))

-- .. that has its mark
abbrev pub first_used : List Bool → ℕ → ℕ
first_used marks i = first_from (λ axis. get_or marks axis false) i

-- .. whose lease or order is over
abbrev pub first_due : ℕ → List (Option Lease) → List (Option Active) → ℕ → ℕ
first_due now leases active i = first_from (λ axis. is_some (due now (get_or leases axis None) (get_or active axis None))) i

-- .. whose order the flags forbid
abbrev pub first_forbidden : ℕ → List (Option Active) → ℕ → ℕ
first_forbidden flags active i = first_from (λ axis. holds_of (get_or active axis None) (λ a. not (permits a.capability flags))) i

-- .. on which this owner has the lease with this id
abbrev pub first_held : ℕ → ℕ → List (Option Lease) → ℕ
first_held owner id leases = first_from (λ axis. holds_of (get_or leases axis None) (is_held_by owner id)) 0
