use Prim.Native.Nat.{◌-◌}
use mathlib.Core.List.{[]}
use mathlib.Core.Path.{◌≡◌}
use lib.ListN.{take, drop}
use Rattle.rules.specs.Protocol.{refused_record}
use Rattle.layout.specs.Layout.{listing_in}
use Rattle.host_start.proofs.refused_record.Given as goal

abbrev pub invariant-loop-i : goal.invariant-loop-i
invariant-loop-i l = refused_record [] (take l.count (listing_in l.state).records) ≡ refused_record (take l.i (listing_in l.state).records) (drop l.i (take l.count (listing_in l.state).records))

abbrev pub decreases-loop-i : goal.decreases-loop-i
decreases-loop-i l = l.count - l.i
