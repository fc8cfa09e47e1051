use mathlib.Core.Path.{◌∙◌}
use Rattle.card.proofs.Wire.{answer_by, read_by, at_head, too_short, at-record}
use Rattle.card.proofs.rolthai_card_read.Goals as goal

pub returns-then-at-lt4 : goal.returns-then-at-lt4
returns-then-at-lt4 c = let w = at_head c.args.card.now c.args.at c.args.receipt.now c.if-at-lt4.true in record { answer = c.head_answer.ensures ∙ w.0; bytes = w.1 }

pub returns-then-receipt-lt192 : goal.returns-then-receipt-lt192
returns-then-receipt-lt192 c =
    let w = too_short c.args.card.now c.args.at c.args.receipt.now c.if-at-lt4.false c.if-receipt-lt192.true in
    record { answer = w.0; bytes = w.1 }

pub returns-in-Ok-Some : goal.returns-in-Ok-Some
unfolding answer_by read_by
returns-in-Ok-Some c =
    let w = at-record c.args.card.now c.args.at c.args.receipt.now c.if-at-lt4.false c.if-receipt-lt192.false c.read_at.ensures in
    let v = rw (c.in-Ok-Some.is, c.in-Ok-Some.field-0-is) at w in record { answer = v.0; bytes = c.put_words.ensures ∙ rw c.words_of.ensures v.1 }

pub returns-in-Ok-None : goal.returns-in-Ok-None
unfolding answer_by read_by
returns-in-Ok-None c =
    let w = at-record c.args.card.now c.args.at c.args.receipt.now c.if-at-lt4.false c.if-receipt-lt192.false c.read_at.ensures in
    let v = rw (c.in-Ok-None.is, c.in-Ok-None.field-0-is) at w in record { answer = v.0; bytes = v.1 }

pub returns-in-Err : goal.returns-in-Err
unfolding answer_by read_by
returns-in-Err c =
    let w = at-record c.args.card.now c.args.at c.args.receipt.now c.if-at-lt4.false c.if-receipt-lt192.false c.read_at.ensures in
    let v = rw c.in-Err.is at w in record { answer = c.number.ensures ∙ v.0; bytes = v.1 }
