use Rattle.rows.specs.Rows.{revoked_of, revoked_words}
use Rattle.format.proofs.FieldLaws.{bit-back}
use Rattle.rows.proofs.revoked_words.Goals as goal

pub returns : goal.returns
unfolding revoked_of revoked_words
returns c =
    record {
      row = rw c.bit.ensures;
      back = rw (bit-back _);
    }
