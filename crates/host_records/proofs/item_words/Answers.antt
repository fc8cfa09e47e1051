use Rattle.layout.specs.Layout.{runtime_in}
use Rattle.host_readings.proofs.Showing.{carrying-low}
use Rattle.format.specs.Encode.{item_words}
use Rattle.host_records.proofs.Answers.{item_by, item-put}
use borrow.Author.Rules.{rules}
use Rattle.host_records.proofs.item_words.Goals as goal

pub capability_at-capability-requires : goal.capability_at-capability-requires
capability_at-capability-requires c = (search rules, carrying-low _ _ c.carrying_in-carrying.ensures)

pub returns-in-Nothing : goal.returns-in-Nothing
unfolding item_by item_words
returns-in-Nothing c = item-put (runtime_in c.args.state.now) c.args.number c.waiting_in-waiting.ensures c.carrying_in-carrying.ensures c.capability_at-capability.ensures c.submission_in-submission.ensures c.falling_in-falling.ensures c.slot_in.ensures.0 c.receipt_at-receipt.ensures c.in-Nothing.is c.receipt_words.ensures

pub returns-in-ObserveBefore : goal.returns-in-ObserveBefore
unfolding item_by item_words
returns-in-ObserveBefore c = item-put (runtime_in c.args.state.now) c.args.number c.waiting_in-waiting.ensures c.carrying_in-carrying.ensures c.capability_at-capability.ensures c.submission_in-submission.ensures c.falling_in-falling.ensures c.slot_in.ensures.0 c.receipt_at-receipt.ensures c.in-ObserveBefore.is c.observe_words.ensures

pub returns-in-Execute : goal.returns-in-Execute
unfolding item_by item_words
returns-in-Execute c = item-put (runtime_in c.args.state.now) c.args.number c.waiting_in-waiting.ensures c.carrying_in-carrying.ensures c.capability_at-capability.ensures c.submission_in-submission.ensures c.falling_in-falling.ensures c.slot_in.ensures.0 c.receipt_at-receipt.ensures c.in-Execute.is c.execute_words.ensures

pub returns-in-ObserveAfter : goal.returns-in-ObserveAfter
unfolding item_by item_words
returns-in-ObserveAfter c = item-put (runtime_in c.args.state.now) c.args.number c.waiting_in-waiting.ensures c.carrying_in-carrying.ensures c.capability_at-capability.ensures c.submission_in-submission.ensures c.falling_in-falling.ensures c.slot_in.ensures.0 c.receipt_at-receipt.ensures c.in-ObserveAfter.is c.observe_words-in-ObserveAfter.ensures

pub returns-in-Fallback : goal.returns-in-Fallback
unfolding item_by item_words
returns-in-Fallback c = item-put (runtime_in c.args.state.now) c.args.number c.waiting_in-waiting.ensures c.carrying_in-carrying.ensures c.capability_at-capability.ensures c.submission_in-submission.ensures c.falling_in-falling.ensures c.slot_in.ensures.0 c.receipt_at-receipt.ensures c.in-Fallback.is c.fallback_words.ensures

pub returns-in-Record : goal.returns-in-Record
unfolding item_by item_words
returns-in-Record c = item-put (runtime_in c.args.state.now) c.args.number c.waiting_in-waiting.ensures c.carrying_in-carrying.ensures c.capability_at-capability.ensures c.submission_in-submission.ensures c.falling_in-falling.ensures c.slot_in.ensures.0 c.receipt_at-receipt.ensures c.in-Record.is c.receipt_words-in-Record.ensures
