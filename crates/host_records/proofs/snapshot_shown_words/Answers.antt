use Rattle.format.specs.Encode.{value_words, encode}
use Rattle.host_records.proofs.snapshot_shown_words.Goals as goal

pub returns-in-Absent : goal.returns-in-Absent
unfolding encode value_words
returns-in-Absent c = rw c.in-Absent.is c.plain_words.ensures

pub returns-in-Present : goal.returns-in-Present
unfolding encode value_words
returns-in-Present c = rw c.in-Present.is c.snapshot_words.ensures
