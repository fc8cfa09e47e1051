use Rattle.rows.specs.Rows.{waiting_of, waiting_words}
use Rattle.rows.proofs.Codes.{awaited-back, after-record-back}
use Rattle.rows.proofs.waiting_words.Goals as goal

pub returns : goal.returns
unfolding waiting_of waiting_words
returns c =
    record {
      row = rw (c.after_record_word.ensures, c.awaited_word.ensures);
      back = rw (awaited-back _, after-record-back _);
    }
