use Rattle.host_records.proofs.Answers.{takes-begun}
use Rattle.host_records.proofs.begun.Goals as goal

pub returns : goal.returns
returns c = takes-begun _ _ c.new.ensures c.config_of.ensures c.as_u32.ensures
