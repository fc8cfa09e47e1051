use mathlib.Core.Path.{ap}
use Rattle.card.specs.Wire.{wire_words_from, wire_words}
use Rattle.card.proofs.words_of.Goals as goal

pub returns : goal.returns
unfolding wire_words_from wire_words
returns c = ap wire_words_from c.numbers_of-numbers.ensures
