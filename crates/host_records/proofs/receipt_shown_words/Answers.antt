use Rattle.format.specs.Encode.{encode}
use Rattle.host_records.proofs.receipt_shown_words.Goals as goal

pub returns-in-Absent : goal.returns-in-Absent
unfolding encode
returns-in-Absent c = rw c.in-Absent.is c.plain_words.ensures

pub returns-in-Present : goal.returns-in-Present
unfolding encode
returns-in-Present c = rw c.in-Present.is c.receipt_value_words.ensures
