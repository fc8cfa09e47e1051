use mathlib.Core.Path.{refl}
use native.Mathlib.Omega.{arith}
use Rattle.host_start.proofs.fixed_of.Goals.{then-listed-lt17, else-listed-lt17}
use Rattle.host_start.proofs.fixed_of.Goals as goal

pub mark_resources-used-requires : goal.mark_resources-used-requires
mark_resources-used-requires c =
    (c.requires, elim c.if-listed-lt17.branch [ then-listed-lt17 w ↦ omega arith | else-listed-lt17 w ↦ omega arith ])

pub returns : goal.returns
returns c =
    let n = c.listed_count-listed.ensures.0 in (
      record {
        config = refl;
        boot_id = refl;
        count = elim c.if-listed-lt17.branch [
          | then-listed-lt17 w ↦ omega (arith, n)
          | else-listed-lt17 w ↦ omega (arith, n)
        ];
        used = c.mark_resources-used.ensures;
      },
      elim c.if-listed-lt17.branch [ then-listed-lt17 w ↦ omega arith | else-listed-lt17 w ↦ omega arith ],
    )
