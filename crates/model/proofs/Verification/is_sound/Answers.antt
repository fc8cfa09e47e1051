use borrow.Author.Tests.{ne_eqb, eq-eqb}
use mathlib.Core.Bool.{not}
use mathlib.Core.Path.{refl, sym, ap, ◌∙◌}
use Rattle.model.specs.Words.{inside}
use Rattle.model.specs.Soundness.{verifiable}
use Rattle.model.proofs.Tests.{and-when, and-unless}
use Rattle.model.proofs.Verification.is_sound.Goals as goal

pub returns-in-Parameters : goal.returns-in-Parameters
unfolding verifiable
returns-in-Parameters c = sym (ap verifiable c.in-Parameters.is)

pub returns-then-mask-ne0 : goal.returns-then-mask-ne0
unfolding verifiable inside
returns-then-mask-ne0 c = and-when (ap not (ne_eqb _ _ c.if-mask-ne0.true)) refl ∙ sym (ap verifiable c.in-State.is)

pub returns-else-mask-ne0 : goal.returns-else-mask-ne0
unfolding verifiable inside
returns-else-mask-ne0 c =
    let h = ap not (eq-eqb _ _ c.if-mask-ne0.false) in
    and-unless _ h h ∙ sym (ap verifiable c.in-State.is)
