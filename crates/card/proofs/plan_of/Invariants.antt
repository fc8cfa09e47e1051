use Prim.Native.Nat.{◌+◌, ◌*◌, ◌^◌}
use mathlib.Core.Path.{◌≡◌}
use lib.ListN.{length, drop}
use Rattle.card.specs.Card.{widths, map_of, fields_of}
use Rattle.card.proofs.plan_of.Given as goal

-- the map and the size of the body of the fields passed, with those of the fields to come, are the whole
abbrev pub invariant-loop-i : goal.invariant-loop-i
invariant-loop-i l =
    record {
      map : l.map + 2 ^ l.i * map_of (drop l.i l.numbers) ≡ map_of l.numbers;
      length : l.length + length (fields_of (drop l.i widths) (drop l.i l.numbers)) ≡ 4 + length (fields_of widths l.numbers);
    }
