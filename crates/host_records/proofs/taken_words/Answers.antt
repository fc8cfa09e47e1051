use Rattle.host_records.specs.Records.{answer_words}
use Rattle.host_records.specs.Standings.{Says}
use Rattle.host_records.proofs.taken_words.Goals as goal

pub returns-in-Listed : goal.returns-in-Listed
unfolding Says answer_words
returns-in-Listed c = rw c.in-Listed.is c.plain_words.ensures

pub returns-in-Answered : goal.returns-in-Answered
unfolding Says
returns-in-Answered c = rw c.in-Answered.is c.answer_words.ensures

pub returns-in-Read : goal.returns-in-Read
unfolding Says
returns-in-Read c = rw c.in-Read.is c.reading_words.ensures

pub returns-in-Unread : goal.returns-in-Unread
unfolding Says answer_words
returns-in-Unread c = rw c.in-Unread.is c.plain_words-in-Unread.ensures
