use mathlib.Core.Path.{refl}
use native.Mathlib.Omega.{arith}
use Rattle.decide_start.proofs.fixed_of.Goals.{then-listed-lt17, else-listed-lt17}
use Rattle.decide_start.proofs.fixed_of.Goals as goal

pub returns : goal.returns
returns c =
    record {
      config = refl;
      boot_id = refl;
      count = elim c.if-listed-lt17.branch [
        | then-listed-lt17 w ↦ omega (arith, w.count-is, w.if-listed-lt17.true)
        | else-listed-lt17 w ↦ omega (arith, w.count-is, w.if-listed-lt17.false)
      ];
      used = c.mark_resources-used.ensures;
    }
