use mathlib.Core.Path.{refl}
use Rattle.card.specs.Card.{widths, receipt_with}
use Rattle.card.proofs.FieldLaws.{fit-nth}
use Rattle.card.proofs.receipt_with.Goals as goal

pub overflow_cast-result : goal.overflow_cast-result
unfolding widths
overflow_cast-result c = record { fits = fit-nth c.args.numbers c.requires 2 refl }

pub overflow_cast-result-2 : goal.overflow_cast-result-2
unfolding widths
overflow_cast-result-2 c = record { fits = fit-nth c.args.numbers c.requires 6 refl }

pub overflow_cast-result-3 : goal.overflow_cast-result-3
unfolding widths
overflow_cast-result-3 c = record { fits = fit-nth c.args.numbers c.requires 7 refl }

pub overflow_cast-result-4 : goal.overflow_cast-result-4
unfolding widths
overflow_cast-result-4 c = record { fits = fit-nth c.args.numbers c.requires 17 refl }

pub overflow_cast-result-5 : goal.overflow_cast-result-5
unfolding widths
overflow_cast-result-5 c = record { fits = fit-nth c.args.numbers c.requires 18 refl }

pub returns : goal.returns
unfolding receipt_with
returns c = rw (c.pair_of.ensures, c.pair_of-2.ensures)
