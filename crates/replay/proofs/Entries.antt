-- Slots and the entries that they hold. Assumes nothing.
use Prim.Native.Nat.{ℕ, zero, suc}
use mathlib.Core.Path.{◌≡◌, refl, sym, ap, ◌∙◌}
use mathlib.Core.List.{List, [], ◌∷◌, map}
use lib.ListN.{length, take, replicate, length-map}
use lib.Seq.{take-nil}
use Rattle.model.specs.declared.Replay.{Replay}
use Rattle.model.specs.declared.ReplaySlot.{ReplaySlot}
use Rattle.model.specs.Records.{no_replay}
use Rattle.replay.specs.Ring.{put, entries_of, held, filled}

pub entries-filled : (n : ℕ) (es : List Replay) → entries_of (filled n es) ≡ take n es
unfolding entries_of filled put
entries-filled zero es = refl
entries-filled (suc n) [] = entries-filled n [] ∙ take-nil n
entries-filled (suc n) (e ∷ es) = ap (λ (l : List Replay). e ∷ l) (entries-filled n es)

pub blanks : (n : ℕ) → replicate n no_replay ≡ filled n []
unfolding filled
blanks zero = refl
blanks (suc n) = ap (λ (l : List ReplaySlot). no_replay ∷ l) (blanks n)

-- the last slot left out
pub take-filled : (m : ℕ) (es : List Replay) → take m (filled (suc m) es) ≡ filled m es
unfolding filled
take-filled zero es = refl
take-filled (suc m) [] = ap (λ (l : List ReplaySlot). no_replay ∷ l) (take-filled m [])
take-filled (suc m) (e ∷ es) = ap (λ (l : List ReplaySlot). held e ∷ l) (take-filled m es)

-- entries past the slots have no place
pub filled-take : (n : ℕ) (es : List Replay) → filled n (take n es) ≡ filled n es
unfolding filled
filled-take zero es = refl
filled-take (suc n) [] = refl
filled-take (suc n) (e ∷ es) = ap (λ (l : List ReplaySlot). held e ∷ l) (filled-take n es)

-- how the length of an array is known where the array is a field
pub length-mapped : (X Y : Type 0) (f : X → Y) (l : List X) (n : ℕ) → length (map f l) ≡ n → length l ≡ n
length-mapped X Y f l n e = sym (length-map l f) ∙ e
