use Rattle.rows.specs.Rows.{revoked_of}
use Rattle.rows.proofs.revoked_of.Goals as goal

pub returns : goal.returns
unfolding revoked_of
returns c = rw c.as_bool.ensures
