use mathlib.Core.Path.{◌≡◌, refl, ◌∙◌}
use native.Mathlib.Omega.{arith}
use Rattle.std.proofs.lemmas.Grind.{common_steps}
use Rattle.std.proofs.lemmas.List.Recursion.{is_sum_by}
use Rattle.card.specs.Card.{sum}
use Rattle.card.proofs.sum_of.Goals as goal

pub returns-clause-value : goal.returns-clause-value
unfolding sum
returns-clause-value c =
    let e = is_sum_by sum (λ x. x) refl (λ _ _. refl) c.args.bytes.now in
    let v : c.sum-sum.result ≡ sum c.args.bytes.now = grind (arith, common_steps, e) in
    c.from.ensures ∙ v
