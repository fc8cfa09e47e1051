use Rattle.rules.specs.Rules.{lease_owner}
use Rattle.state.proofs.owner_of.Goals as goal

pub returns-in-Absent : goal.returns-in-Absent
unfolding lease_owner
returns-in-Absent c = simp c.in-Absent.is

pub returns-in-Present : goal.returns-in-Present
unfolding lease_owner
returns-in-Present c = simp c.in-Present.is
