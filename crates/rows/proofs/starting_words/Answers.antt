use Rattle.rows.specs.Rows.{starting_of, starting_words}
use Rattle.format.proofs.FieldLaws.{bit-back}
use Rattle.rows.proofs.Codes.{stage-back}
use Rattle.rows.proofs.starting_words.Goals as goal

pub returns : goal.returns
unfolding starting_of starting_words
returns c =
    record {
      row = rw (c.bit.ensures, c.stage_word.ensures);
      back = rw (stage-back _, bit-back _);
    }
