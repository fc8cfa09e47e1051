use Rattle.rules.specs.Rules.{lease_id}
use Rattle.state.proofs.id_of.Goals as goal

pub returns-in-Absent : goal.returns-in-Absent
unfolding lease_id
returns-in-Absent c = simp c.in-Absent.is

pub returns-in-Present : goal.returns-in-Present
unfolding lease_id
returns-in-Present c = simp c.in-Present.is
