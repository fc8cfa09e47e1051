use mathlib.Core.Path.{refl, sym, ap, ◌∙◌}
use Rattle.std.specs.Prelude.{ℕ, Option, unwrap_or}
use Rattle.card.specs.Wire.{wire_count, wire_written}
use Rattle.card.proofs.Writing.{counted-or}
use Rattle.card.proofs.rolthai_card_write.Goals as goal

pub returns-in_default : goal.returns-in_default
unfolding wire_count wire_written
returns-in_default c = rw (sym c.receipt_at.ensures ∙ c.in_default.is) (record { answer = refl; bytes = refl })

pub returns : goal.returns
unfolding wire_count wire_written
returns c =
    let n = c.unwrap_or.ensures ∙ ap (λ (o : Option ℕ). unwrap_or o 0) c.put_record.ensures.answer ∙ counted-or _ _ _ in
    rw (sym c.receipt_at.ensures ∙ c.in-Some.is) (record { answer = n; bytes = c.put_record.ensures.bytes })
