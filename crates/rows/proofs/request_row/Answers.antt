use lib.ListN.{get_or}
use Rattle.model.specs.Records.{zero_bounds}
use Rattle.format.proofs.WordLaws.{as_read}
use Rattle.rows.specs.Rows.{request_row}
use Rattle.rows.proofs.Signs.{length-mapped, request-back}
use borrow.Author.Rules.{rules}
use Rattle.rows.proofs.request_row.Goals as goal

pub returns : goal.returns
unfolding request_row
returns c =
    let x = c.args.request in
    record {
      row = rw (as_read {z = (get_or x.limits 0 zero_bounds).min} (search rules) c.unsigned.ensures, as_read {z = (get_or x.limits 0 zero_bounds).max} (search rules) c.unsigned-2.ensures, as_read {z = (get_or x.limits 1 zero_bounds).min} (search rules) c.unsigned-3.ensures, as_read {z = (get_or x.limits 1 zero_bounds).max} (search rules) c.unsigned-4.ensures);
      back = request-back x (search rules) (search rules) (record { long = search (rules, length-mapped); min0 = search rules; max0 = search rules; min1 = search rules; max1 = search rules });
    }
