use mathlib.Core.Bool.{◌&&◌}
use mathlib.Core.Path.{◌≡◌, sym, ◌∙◌}
use lib.Dec.{leb}
use borrow.Author.Rules.{rules}
use borrow.Author.Tests.{tests}
use Rattle.card.proofs.Reading.{frame-in, frame-out}
use Rattle.card.proofs.is_framed.Goals as goal

pub returns-then-contains-clause-value : goal.returns-then-contains-clause-value
returns-then-contains-clause-value c =
    let k : c.contains.result ≡ (leb 4 c.args.size && leb c.args.size 126) = search (rules, tests) in
    rw (c.number.ensures, c.sum_of.ensures.value) (frame-in _ _ _ (sym k ∙ c.if-contains.true))

pub returns-else-contains-clause-value : goal.returns-else-contains-clause-value
returns-else-contains-clause-value c =
    let k : c.contains.result ≡ (leb 4 c.args.size && leb c.args.size 126) = search (rules, tests) in
    rw c.if-contains.false (frame-out _ _ _ (sym k ∙ c.if-contains.false))
