-- Words that are zeros: no runtime, and nothing listed. Assumes nothing.
use Prim.Native.Nat.{ℕ, zero, suc}
use mathlib.Core.List.{List, []}
use mathlib.Core.Path.{◌≡◌, refl, ap}
use lib.ListN.{get_or, take, replicate}
use Rattle.cells.specs.Cells.{table}
use Rattle.cells.proofs.Regions.{length-table}
use Rattle.format.specs.Decode.{capability_of}
use Rattle.rows.specs.Codes.{below}
use Rattle.decide_start.specs.declared.Stage.{Stage}
use Rattle.decide_start.specs.Starts.{Listing}
use Rattle.runtime.specs.Stages.{phase_at_stage, RuntimeSound}
use Rattle.layout.specs.Layout.{runtime_in, listing_in}
use Rattle.host_records.specs.Standings.{Stands}
use Rattle.host_records.specs.Records.{opening}
use Rattle.host_start.proofs.Zeros.{Blank, blank, sound-blank}

module _ (w : List ℕ) (z : (j : ℕ) → get_or w j 0 ≡ 0) where
  all_zero : Blank (runtime_in w)
  all_zero = blank w (λ j h k. z j)

  pub zeros-sound : RuntimeSound (runtime_in w)
  zeros-sound = sound-blank all_zero

  none-listed : Listing (listing_in w) []
  unfolding listing_in below
  none-listed =
      record {
        room = length-table capability_of w 2221 14 17;
        counted = ap (below 18) (z 2220);
        same = ap (λ (n : ℕ). take n (table capability_of w 2221 14 17)) (ap (below 18) (z 2220));
      }

  pub zeros-stand : Stands w opening
  unfolding phase_at_stage opening
  zeros-stand = record { listing = none-listed; phase = ap (λ (s : Stage). phase_at_stage s (runtime_in w)) all_zero.stage }

-- as many zeros as there are
pub zero-at : (n j : ℕ) → get_or {A = ℕ} (replicate n 0) j 0 ≡ 0
zero-at zero j = refl
zero-at (suc n) zero = refl
zero-at (suc n) (suc j) = zero-at n j
