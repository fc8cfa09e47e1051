use Rattle.card.specs.Functions.{error_number}
use Rattle.card.proofs.CardError.number.Goals as goal

pub returns-in-PastEnd : goal.returns-in-PastEnd
unfolding error_number
returns-in-PastEnd c = rw c.in-PastEnd.is

pub returns-in-Unsound : goal.returns-in-Unsound
unfolding error_number
returns-in-Unsound c = rw c.in-Unsound.is
