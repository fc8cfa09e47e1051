use mathlib.Core.Path.{refl, ap, ◌∙◌}
use Rattle.std.specs.Prelude.{Some}
use Rattle.card.specs.Card.{widths}
use Rattle.card.proofs.FieldLaws.{fit-nth}
use Rattle.card.proofs.Narrow.{no-decision, no-reason, whole}
use Rattle.card.proofs.receipt_of.Goals as goal

pub overflow_cast-numbers : goal.overflow_cast-numbers
unfolding widths
overflow_cast-numbers c = record { fits = fit-nth c.args.numbers c.requires 9 refl }

pub overflow_cast-numbers-2 : goal.overflow_cast-numbers-2
unfolding widths
overflow_cast-numbers-2 c = record { fits = fit-nth c.args.numbers c.requires 10 refl }

pub returns-in_default : goal.returns-in_default
returns-in_default c = no-decision c.args.numbers (rw c.in_default.is at c.try_from.ensures)

pub returns-in_default-try_from : goal.returns-in_default-try_from
returns-in_default-try_from c =
    no-reason c.args.numbers (rw c.in-Ok.is at c.try_from.ensures) (rw c.in_default-try_from.is at c.try_from-2.ensures)

pub returns : goal.returns
returns c =
    ap Some c.receipt_with.ensures
    ∙ whole c.args.numbers (rw c.in-Ok.is at c.try_from.ensures) (rw c.in-Ok-try_from.is at c.try_from-2.ensures)
