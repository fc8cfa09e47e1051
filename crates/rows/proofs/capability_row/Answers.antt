use lib.ListN.{get_or}
use Rattle.model.specs.Records.{zero_bounds}
use Rattle.format.proofs.WordLaws.{as_read}
use Rattle.format.specs.Encode.{capability_words}
use Rattle.rows.proofs.Signs.{capability-told, length-mapped, capability-back}
use borrow.Author.Rules.{rules}
use Rattle.rows.proofs.capability_row.Goals as goal

pub returns : goal.returns
unfolding capability_words
returns c =
    let a = c.args in
    let x = a.capability in
    let v = capability-told x _ c.well_formed.1.0 in
    record {
      row = rw (c.class_number.ensures, as_read {z = (get_or x.bounds 0 zero_bounds).min} (search rules) c.unsigned.ensures, as_read {z = (get_or x.bounds 0 zero_bounds).max} (search rules) c.unsigned-2.ensures, as_read {z = (get_or x.bounds 1 zero_bounds).min} (search rules) c.unsigned-3.ensures, as_read {z = (get_or x.bounds 1 zero_bounds).max} (search rules) c.unsigned-4.ensures, c.verification_words.ensures);
      back = capability-back a.first x (record { id = search rules; resource = search rules; parameter_count = search rules; bounds = record { long = search (rules, length-mapped, c.well_formed.1.0); min0 = search rules; max0 = search rules; min1 = search rules; max1 = search rules }; require_set = search rules; require_clear = search rules; mask = v.0; value = v.1 });
    }
