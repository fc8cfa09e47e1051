use lib.IntN.{pos}
use lib.ListN.{get_or}
use Rattle.rows.specs.Rows.{submission_row}
use Rattle.format.proofs.WordLaws.{as_read}
use Rattle.rows.proofs.Signs.{submission-back}
use borrow.Author.Rules.{rules}
use Rattle.rows.proofs.submission_row.Goals as goal

pub returns : goal.returns
unfolding submission_row
returns c =
    let x = c.args.submission in
    record {
      row = rw (as_read {z = get_or x.action.parameters 0 (pos 0)} (search rules) c.unsigned.ensures, as_read {z = get_or x.action.parameters 1 (pos 0)} (search rules) c.unsigned-2.ensures);
      back = submission-back x (search rules) (search rules) (record { long = search rules; first = search rules; second = search rules });
    }
