use borrow.Author.Rules.{rules}
use borrow.Author.Tests.{not-true, not-false}
use native.Mathlib.Omega.{arith}
use Rattle.host.proofs.Lent.{is-size, other-size, word-there}
use mathlib.Core.Path.{refl, sym, ◌∙◌}
use Rattle.host.proofs.Starting.{enough-set, enough-then, as_many, begins-short, begins-unread, begins-with, nine_words}
use Rattle.host.proofs.rolthai_new.Goals as goal

pub returns-then-not-is_whole : goal.returns-then-not-is_whole
returns-then-not-is_whole c = begins-short (other-size _ c.is_whole.ensures c.if-not-is_whole.true-raw) refl refl

pub returns-then-not-are_asked : goal.returns-then-not-are_asked
returns-then-not-are_asked c = begins-unread (is-size c.is_whole.ensures c.if-not-is_whole.false-raw) (sym c.are_asked.ensures ∙ not-true _ c.if-not-are_asked.true-raw) refl refl

pub start_record-words-requires : goal.start_record-words-requires
start_record-words-requires c = nine_words _ _ (sym c.are_asked.ensures ∙ not-false _ c.if-not-are_asked.false-raw)

pub bounds-state-0 : goal.bounds-state-0
bounds-state-0 c = word-there (omega arith) c.is_whole.ensures c.if-not-is_whole.false-raw

pub unlist-requires : goal.unlist-requires
unlist-requires c = enough-set c.before.before.before.before.before.before.before.before.before.before.args.state.now (is-size c.is_whole.ensures c.if-not-is_whole.false-raw)

pub list_all-requires : goal.list_all-requires
list_all-requires c = (enough-then c.before.before.before.before.before.before.before.before.before.before.before.before.before.before.args.state.now (is-size c.is_whole.ensures c.if-not-is_whole.false-raw) c.unlist.ensures.long, search rules)

pub new-answer-requires : goal.new-answer-requires
new-answer-requires c = enough-then c.before.before.before.before.before.before.before.before.before.before.before.before.before.before.before.before.before.before.before.before.args.state.now (is-size c.is_whole.ensures c.if-not-is_whole.false-raw) (c.list_all.ensures.long ∙ c.unlist.ensures.long)

pub shape_of-state : goal.shape_of-state
shape_of-state c = as_many c.before.before.before.before.before.before.before.before.before.before.before.before.before.before.before.before.before.before.before.before.before.before.before.before.args.state.now (is-size c.is_whole.ensures c.if-not-is_whole.false-raw) ((c.new-answer.ensures _ (c.list_all.ensures.listed c.unlist.ensures.listed)).long ∙ (c.list_all.ensures.long ∙ c.unlist.ensures.long))

pub returns : goal.returns
returns c = begins-with _ _ (is-size c.is_whole.ensures c.if-not-is_whole.false-raw) (sym c.are_asked.ensures ∙ not-false _ c.if-not-are_asked.false-raw) c.start_record-words.ensures c.unlist.ensures c.list_all.ensures c.config_of.ensures c.as_u32.ensures c.new-answer.ensures c.number_of.ensures
