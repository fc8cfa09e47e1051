use mathlib.Core.Path.{◌≡◌, sym, ◌∙◌}
use borrow.Author.Tests.{eq-eqb, ne_eqb}
use lib.IntN.{pos}
use lib.ListN.{length, get_or}
use mir.Syntax.{w32}
use Rattle.model.proofs.Tests.{and-when, and-unless}
use Rattle.decide_reply.proofs.Parameters.{signed_equal, same-two}
use borrow.Author.Rules.{rules}
use Rattle.decide_reply.proofs.same_parameters.Goals as goal

pub returns-then-a-b : goal.returns-then-a-b
returns-then-a-b c =
    let a = c.args in
    let n : length a.a ≡ 2 = search rules in
    let m : length a.b ≡ 2 = search rules in
    let second = signed_equal w32 (get_or a.a 1 (pos 0)) (get_or a.b 1 (pos 0)) (search rules) (search rules) in
    and-when (eq-eqb _ _ c.if-a-b.true) second
    ∙ sym (same-two w32 a.a a.b (pos 0) n m (search rules) (search rules))

pub returns-else-a-b : goal.returns-else-a-b
returns-else-a-b c =
    let a = c.args in
    let n : length a.a ≡ 2 = search rules in
    let m : length a.b ≡ 2 = search rules in
    and-unless _ (ne_eqb _ _ c.if-a-b.false) (ne_eqb _ _ c.if-a-b.false)
    ∙ sym (same-two w32 a.a a.b (pos 0) n m (search rules) (search rules))
