use Rattle.format.specs.Encode.{value_words}
use Rattle.host_records.proofs.lease_slot_words.Goals as goal

pub returns-in-Absent : goal.returns-in-Absent
unfolding value_words
returns-in-Absent c = rw c.in-Absent.is c.plain_words.ensures

pub returns-in-Present : goal.returns-in-Present
unfolding value_words
returns-in-Present c = rw c.in-Present.is c.lease_words.ensures
