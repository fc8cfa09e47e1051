use Prim.Native.Nat.{ℕ}
use mathlib.Core.Path.{◌≡◌, subst}
use Rattle.rows.specs.Codes.{signs_of}
use Rattle.rows.specs.Rows.{receipt_row}
use Rattle.rows.proofs.Signs.{receipt-told, receipt-back}
use borrow.Author.Rules.{rules}
use Rattle.rows.proofs.receipt_row.Goals as goal

pub returns : goal.returns
unfolding receipt_row
returns c =
    let r = c.args.receipt in
    let s = receipt-told r _ c.well_formed.0 in
    let q = c.signs_word.ensures in
    let o = c.signs_word-2.ensures in
    record {
      row = rw (c.decision_number.ensures, c.reason_number.ensures, q.value, o.value, c.pair.ensures, c.bit.ensures, c.bit-2.ensures);
      back =
          receipt-back r
          (record {
            safety_flags = search rules;
            capability = search rules;
            resource = search rules;
            requested = subst (λ (n : ℕ). signs_of n ≡ r.requested) q.value q.result_value;
            observed = subst (λ (n : ℕ). signs_of n ≡ r.observed) o.value o.result_value;
            pre_state = s.0;
            post_state = s.1;
          });
    }
