use Rattle.rules.specs.Receipts.{numbered, order_receipt}
use Rattle.state.specs.State.{book_of}
use Rattle.state.proofs.order_receipt.Goals as goal

pub returns : goal.returns
unfolding order_receipt numbered book_of
returns c = λ t k e. rw e
