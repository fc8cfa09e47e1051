use borrow.Author.Rules.{rules}
use mathlib.Core.Path.{refl, sym, ap, ◌∙◌}
use Rattle.format.specs.Encode.{encode, answer_words}
use Rattle.host.proofs.Lent.{lent-enough, lent-room, tells-lack, tells}
use Rattle.host.proofs.rolthai_answered_receipt.Goals as goal

pub returns-then-lack-ne0 : goal.returns-then-lack-ne0
returns-then-lack-ne0 c = tells-lack c.lack-lack.ensures c.if-lack-ne0.true refl refl

pub answered_receipt-requires : goal.answered_receipt-requires
answered_receipt-requires c = lent-enough _ _ c.lack-lack.ensures c.if-lack-ne0.false

pub give-requires : goal.give-requires
give-requires c = lent-room _ _ c.lack-lack.ensures c.if-lack-ne0.false

pub returns : goal.returns
unfolding encode answer_words
returns c = tells c.lack-lack.ensures _ c.if-lack-ne0.false c.give.ensures (λ s. c.receipt_words.ensures ∙ sym (ap encode c.answered_receipt.ensures))
