use mathlib.Core.Path.{◌∙◌}
use Rattle.card.specs.Card.{numbers_of}
use Rattle.card.proofs.Narrow.{bit_from}
use Rattle.card.proofs.numbers_of.Goals as goal

pub returns : goal.returns
unfolding numbers_of
returns c =
    rw (
      c.from-11.ensures ∙ bit_from c.args.r.observed_valid,
      c.from-10.ensures ∙ bit_from c.args.r.dispatched,
      c.from-9.ensures,
      c.from-8.ensures,
      c.pair_number-2.ensures,
      c.pair_number.ensures,
      c.from-7.ensures ∙ c.from-6.ensures,
      c.from-5.ensures ∙ c.from-4.ensures,
      c.from-3.ensures,
      c.from-2.ensures,
      c.from.ensures,
    )
