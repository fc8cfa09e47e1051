use mathlib.Core.Bool.{not}
use mathlib.Core.Path.{ap, ◌∙◌}
use Rattle.model.proofs.Meaning.{permits-formula}
use Rattle.rules.specs.Admission.{holds_of}
use Rattle.decide_flags.proofs.is_forbidden.Goals as goal

pub returns-in-Absent : goal.returns-in-Absent
unfolding holds_of
returns-in-Absent c = simp c.in-Absent.is

pub returns-in-Present : goal.returns-in-Present
unfolding holds_of
returns-in-Present c = simp c.in-Present.is (ap not (c.permits.ensures ∙ permits-formula _ _))
