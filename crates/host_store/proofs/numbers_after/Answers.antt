use Rattle.host_store.proofs.numbers_after.Goals as goal

pub returns : goal.returns
returns c = rw c.soonest_with.ensures
