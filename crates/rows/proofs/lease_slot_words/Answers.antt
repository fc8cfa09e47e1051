use lib.ListN.{get_or}
use Rattle.model.specs.Records.{zero_bounds}
use Rattle.format.proofs.WordLaws.{as_read}
use Rattle.format.specs.Encode.{lease_words}
use Rattle.rows.specs.Rows.{lease_slot_words}
use Rattle.rows.proofs.Signs.{length-mapped, lease-slot-back}
use borrow.Author.Rules.{rules}
use Rattle.rows.proofs.lease_slot_words.Goals as goal

pub returns : goal.returns
unfolding lease_slot_words lease_words
returns c =
    let x = c.args.slot in
    record {
      row = rw (c.presence_word.ensures, as_read {z = (get_or x.lease.limits 0 zero_bounds).min} (search rules) c.unsigned.ensures, as_read {z = (get_or x.lease.limits 0 zero_bounds).max} (search rules) c.unsigned-2.ensures, as_read {z = (get_or x.lease.limits 1 zero_bounds).min} (search rules) c.unsigned-3.ensures, as_read {z = (get_or x.lease.limits 1 zero_bounds).max} (search rules) c.unsigned-4.ensures);
      back = lease-slot-back x (search rules) (record { long = search (rules, length-mapped); min0 = search rules; max0 = search rules; min1 = search rules; max1 = search rules });
    }
