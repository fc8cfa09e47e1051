use Prim.Native.Nat.{ℕ}
use mathlib.Core.Path.{◌≡◌, subst}
use Rattle.format.specs.Decode.{capability_of}
use Rattle.format.specs.Encode.{capability_words}
use Rattle.rows.specs.Rows.{capability_row, active_slot_words}
use Rattle.rows.proofs.Signs.{active-slot-back}
use Rattle.rows.proofs.active_slot_words.Goals as goal

pub returns : goal.returns
unfolding active_slot_words capability_words
returns c =
    let x = c.args.slot in
    record {
      row = rw (c.capability_row-row.ensures.row, c.presence_word.ensures);
      back = active-slot-back x (subst (λ (n : ℕ). capability_of (capability_row n x.active.capability) ≡ x.active.capability) c.presence_word.ensures c.capability_row-row.ensures.back);
    }
