use borrow.Author.Rules.{rules}
use Rattle.format.specs.Encode.{encode, item_words}
use Rattle.host.proofs.item_shown_words.Goals as goal

pub returns-in-Nothing : goal.returns-in-Nothing
unfolding encode item_words
returns-in-Nothing c = rw c.in-Nothing.is c.plain_words.ensures

pub returns-in-Observe : goal.returns-in-Observe
unfolding encode item_words
returns-in-Observe c = rw c.in-Observe.is c.observe_words.ensures

pub returns-in-Execute : goal.returns-in-Execute
unfolding encode item_words
returns-in-Execute c = rw c.in-Execute.is c.execute_words.ensures

pub returns-in-Fallback : goal.returns-in-Fallback
unfolding encode item_words
returns-in-Fallback c = rw c.in-Fallback.is c.fallback_words.ensures

pub returns-in-Record : goal.returns-in-Record
unfolding encode item_words
returns-in-Record c = rw c.in-Record.is c.receipt_words.ensures
