use borrow.Author.Rules.{rules}
use Rattle.words.specs.Words.{over}
use Rattle.card.specs.Card.{head}
use Rattle.card.proofs.Writing.{with-room, without-room}
use Rattle.card.proofs.put_head.Goals as goal

pub returns-then-card-lt4 : goal.returns-then-card-lt4
unfolding head
returns-then-card-lt4 c = let w = without-room c.args.card.now 0 head (search rules) in record { answer = w.0; bytes = w.1 }

pub returns : goal.returns
unfolding head over
returns c =
    let w = with-room c.args.card.now 0 head (search rules) in record { answer = w.0; bytes = rw c.copy_from_slice.ensures.after w.1 }
