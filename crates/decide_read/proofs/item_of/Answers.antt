use Rattle.decide_read.specs.Shown.{shown_item, item_from}
use Rattle.decide_read.proofs.item_of.Goals as goal

pub returns-in-Nothing : goal.returns-in-Nothing
unfolding item_from shown_item
returns-in-Nothing c = simp (c.in-Nothing.is, c.item_with.ensures, c.blank-blank.ensures)

pub returns-in-ObserveBefore : goal.returns-in-ObserveBefore
unfolding item_from shown_item
returns-in-ObserveBefore c = simp (c.in-ObserveBefore.is, c.item_with-in-ObserveBefore.ensures, c.blank-blank.ensures)

pub returns-in-Execute : goal.returns-in-Execute
unfolding item_from shown_item
returns-in-Execute c = simp (c.in-Execute.is, c.item_with-in-Execute.ensures, c.blank-blank.ensures)

pub returns-in-ObserveAfter : goal.returns-in-ObserveAfter
unfolding item_from shown_item
returns-in-ObserveAfter c = simp (c.in-ObserveAfter.is, c.item_with-in-ObserveAfter.ensures, c.blank-blank.ensures)

pub returns-in-Fallback : goal.returns-in-Fallback
unfolding item_from shown_item
returns-in-Fallback c = simp (c.in-Fallback.is, c.item_with-in-Fallback.ensures, c.blank-blank.ensures)

pub returns-in-Record : goal.returns-in-Record
unfolding item_from shown_item
returns-in-Record c = simp (c.in-Record.is, c.item_with-in-Record.ensures)
