use mathlib.Core.Path.{◌≡◌, sym, ◌∙◌}
use borrow.Author.Rules.{rules}
use lib.IntN.{pos}
use lib.ListN.{length, get_or}
use Rattle.model.specs.Records.{zero_bounds}
use Rattle.model.proofs.Tests.{and-when, and-unless}
use Rattle.decide_order.proofs.Parameters.{contains-read, contain-two}
use Rattle.decide_order.proofs.all_contain.Goals as goal

pub returns-then-contains : goal.returns-then-contains
returns-then-contains c =
    let a = c.args in
    let n : length a.bounds ≡ 2 = search rules in
    let m : length a.parameters ≡ 2 = search rules in
    let first = contains-read (get_or a.bounds 0 zero_bounds) (get_or a.parameters 0 (pos 0)) (search rules) in
    let second = contains-read (get_or a.bounds 1 zero_bounds) (get_or a.parameters 1 (pos 0)) (search rules) in
    and-when (sym first ∙ sym c.contains.ensures ∙ c.if-contains.true) (c.contains-then-contains.ensures ∙ second)
    ∙ sym (contain-two a.bounds zero_bounds a.parameters (pos 0) n m)

pub returns-else-contains : goal.returns-else-contains
returns-else-contains c =
    let a = c.args in
    let n : length a.bounds ≡ 2 = search rules in
    let m : length a.parameters ≡ 2 = search rules in
    let first = contains-read (get_or a.bounds 0 zero_bounds) (get_or a.parameters 0 (pos 0)) (search rules) in
    and-unless _ (sym first ∙ sym c.contains.ensures ∙ c.if-contains.false) c.if-contains.false
    ∙ sym (contain-two a.bounds zero_bounds a.parameters (pos 0) n m)
