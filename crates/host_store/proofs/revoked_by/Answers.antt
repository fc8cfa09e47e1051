use Rattle.host_store.proofs.revoked_by.Goals as goal

pub returns : goal.returns
returns c = rw (c.id_of.ensures, c.owner_of.ensures)
