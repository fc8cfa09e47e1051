use borrow.Author.Rules.{rules}
use mathlib.Core.Path.{refl, ap, ◌∙◌}
use Rattle.format.specs.Encode.{encode}
use Rattle.host.specs.Host.{shown_output}
use Rattle.host.proofs.Lent.{lent-enough, lent-room, tells-lack, tells, item-said}
use Rattle.host.proofs.rolthai_item.Goals as goal

pub returns-then-lack-ne0 : goal.returns-then-lack-ne0
returns-then-lack-ne0 c = tells-lack c.lack-lack.ensures c.if-lack-ne0.true refl refl

pub item-requires : goal.item-requires
item-requires c = lent-enough _ _ c.lack-lack.ensures c.if-lack-ne0.false

pub give-requires : goal.give-requires
give-requires c = lent-room _ _ c.lack-lack.ensures c.if-lack-ne0.false

pub returns : goal.returns
returns c = tells c.lack-lack.ensures _ c.if-lack-ne0.false c.give.ensures (λ s. c.item_shown_words.ensures ∙ (ap (λ x. encode (shown_output x)) (c.item.ensures s) ∙ ap encode (item-said _)))
