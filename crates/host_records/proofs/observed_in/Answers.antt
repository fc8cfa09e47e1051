use Rattle.format.specs.Decode.{observed_of}
use Rattle.host_records.proofs.Answers.{seen_as}
use Rattle.host_records.proofs.observed_in.Goals as goal

pub returns : goal.returns
unfolding observed_of
returns c = seen_as c.presence_if.ensures c.as_bool.ensures c.observation_of.ensures
