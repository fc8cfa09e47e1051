use borrow.Author.Rules.{rules}
use native.Mathlib.Omega.{arith}
use mathlib.Core.Path.{refl, ◌∙◌}
use Rattle.host.proofs.Lent.{is-size, other-size, word-there}
use Rattle.host.proofs.Starting.{enough-set, enough-then, is-wiped, wipes-short, wipes, as_many}
use Rattle.host.proofs.rolthai_clear.Goals as goal

pub returns-then-not-is_whole : goal.returns-then-not-is_whole
returns-then-not-is_whole c = wipes-short (other-size _ c.is_whole.ensures c.if-not-is_whole.true-raw) refl refl

pub bounds-state-0 : goal.bounds-state-0
bounds-state-0 c = word-there (omega arith) c.is_whole.ensures c.if-not-is_whole.false-raw

pub clear-requires : goal.clear-requires
clear-requires c = enough-set c.args.state.now (is-size c.is_whole.ensures c.if-not-is_whole.false-raw)

pub unlist-requires : goal.unlist-requires
unlist-requires c = enough-then c.args.state.now (is-size c.is_whole.ensures c.if-not-is_whole.false-raw) c.clear.ensures.long

pub shape_of-state : goal.shape_of-state
shape_of-state c = as_many c.args.state.now (is-size c.is_whole.ensures c.if-not-is_whole.false-raw) (c.unlist.ensures.long ∙ c.clear.ensures.long)

pub returns : goal.returns
returns c = wipes (is-size c.is_whole.ensures c.if-not-is_whole.false-raw) refl (is-wiped c.args.state.now (is-size c.is_whole.ensures c.if-not-is_whole.false-raw) c.clear.ensures c.unlist.ensures)
