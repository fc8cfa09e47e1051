use mathlib.Core.Path.{ap, ◌∙◌}
use borrow.Author.Rules.{rules}
use borrow.Author.Tests.{tests}
use lib.Dec.{leb}
use Prim.Native.Nat.{ℕ}
use Rattle.std.proofs.Common.{Iter}
use Rattle.std.proofs.lemmas.Iterator.{YieldsList-from_slice, YieldsList-from_zip}
use Rattle.std.proofs.lemmas.Iterator.Search.{all_from_yields_List}
use Rattle.card.specs.Wire.{wire_limits}
use Rattle.card.proofs.Wire.{within-all}
use Rattle.card.proofs.are_within.Goals as goal

pub returns : goal.returns
unfolding wire_limits
returns c =
    let f = ap (λ (it : Iter ℕ). it.rest.now) c.zip.ensures.first ∙ c.iter.ensures.rest in
    let s = ap (λ (it : Iter ℕ). it.rest.now) c.zip.ensures.second ∙ c.iter-2.ensures.rest in
    all_from_yields_List (λ (p : ℕ × ℕ). leb p.0 p.1) c.all.new.self _ _ c.all.ensures.ran
    (YieldsList-from_zip (YieldsList-from_slice c.args.words f) (YieldsList-from_slice wire_limits s)) (λ x b q k. search (rules, tests))
    ∙ within-all c.args.words wire_limits
