use Prim.Native.Nat.{ℕ}
use mathlib.Core.List.{List}
use mathlib.Core.Path.{sym, ap, ◌∙◌}
use native.Mathlib.Omega.{arith}
use borrow.Author.Tests.{lt-leb}
use lib.ListN.{take}
use lib.Seq.{take_all, length-take-le}
use Rattle.card.specs.Card.{head, same, has_head}
use Rattle.card.proofs.Steps.{same-by}
use Rattle.card.proofs.Writing.{no-head}
use Rattle.card.proofs.has_head.Goals as goal

pub returns-then-card-ge4 : goal.returns-then-card-ge4
unfolding has_head head
returns-then-card-ge4 c =
    let four = take 4 c.args.card.now in
    let whole = take_all 4 four (omega (arith, length-take-le 4 c.args.card.now c.if-card-ge4.true)) in
    c.starts_with.ensures.value ∙ same-by (take 4 four) head ∙ ap (λ (l : List ℕ). same l head) whole

pub returns-else-card-ge4 : goal.returns-else-card-ge4
returns-else-card-ge4 c = lt-leb 4 _ c.if-card-ge4.false ∙ sym (no-head _ c.if-card-ge4.false)
