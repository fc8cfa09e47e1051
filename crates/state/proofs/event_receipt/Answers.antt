use Rattle.rules.specs.Receipts.{event, numbered}
use Rattle.state.specs.State.{book_of}
use Rattle.state.proofs.event_receipt.Goals as goal

pub returns : goal.returns
unfolding event numbered book_of
returns c = λ t. simp c.is_fallback.ensures
