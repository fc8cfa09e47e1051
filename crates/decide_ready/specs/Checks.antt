-- What the checks answer, over the rules' lists of checks.
use Rattle.std.specs.Prelude.{Bool, true, false, List, drop}
use Rattle.std.specs.Prelude.{Option, Some, None}
use Rattle.model.specs.declared.Reason.{Reason}
use Rattle.rules.specs.Admission as Admission
use Rattle.decide_ready.specs.declared.Check.{Check}
use Rattle.decide_ready.specs.declared.Ruling.{Ruling}
use Rattle.decide_ready.specs.declared.Verdict.{Verdict}

-- the answer for the reason of the first check that fails
abbrev pub check_of : Option Reason → Check
check_of None = Check.Passed
check_of (Some reason) = Check.Failed reason

abbrev pub passes : Check → Bool
passes Check.Passed = true
passes (Check.Failed reason) = false

-- the reason of a ruling, where it is a failure
abbrev pub failure_by : Verdict → Reason → Option Reason
failure_by Verdict.Passed reason = None
failure_by Verdict.Failed reason = Some reason

abbrev pub failure_of : Ruling → Option Reason
failure_of r = failure_by r.verdict r.reason

-- the checks that follow the four of readiness
abbrev pub after_ready : List Admission.Check → List Admission.Check
after_ready checks = drop 4 checks
