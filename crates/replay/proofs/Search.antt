-- A search that walks the slots of a circle backwards, one at a time, for any number of them. Assumes nothing.
use Prim.Native.Nat.{ℕ, suc, ◌+◌, ◌-◌, ◌%◌, ◌<◌, ◌≤◌}
use mathlib.Core.Path.{◌≡◌, refl}
use mathlib.Core.Bool.{true, false, cond}
use mathlib.Core.List.{List}
use Rattle.std.specs.Prelude.{Some, None}
use lib.ListN.{length, get_or, drop, drop_of_length-le}
use Rattle.model.specs.declared.Presence.{Presence}
use Rattle.model.specs.declared.Presence.TheVariants.{Absent, Present}
use Rattle.model.specs.declared.Replay.{Replay}
use Rattle.model.specs.declared.ReplaySlot.{ReplaySlot}
use Rattle.model.specs.Records.{no_replay}
use Rattle.rules.specs.Admission.{find_entry}
use Rattle.replay.specs.Ring.{backwards, put, entries_of, hit_in, is_hit}
use Rattle.replay.proofs.Circle.{length-backwards, backwards-from}

module _ (owner action : ℕ) where
  find-put : (p : Presence) (e : Replay) (es : List Replay)
      → find_entry owner action (put p e es) ≡ cond (hit_in owner action p e) (Some e) (find_entry owner action es)
  unfolding find_entry put hit_in
  find-put Absent e es = refl
  find-put Present e es = refl

  module _ (m : ℕ) (l : List ReplaySlot) (n : length l ≡ suc m) (c : ℕ) (h : c < suc m) (i : ℕ) where
    -- the slot that the walk has reached
    abbrev pub reached : ReplaySlot
    reached = get_or l ((c + m - i) % suc m) no_replay

    -- the entries that it has not passed
    abbrev pub left : List Replay
    left = entries_of (drop i (backwards l c))

    pub hit : i < suc m → is_hit owner action reached ≡ true → find_entry owner action left ≡ Some reached.replay
    unfolding entries_of
    hit k e = rw (backwards-from m l n c h i no_replay k, find-put, e)

    pub miss : i < suc m
        → is_hit owner action reached ≡ false
        → find_entry owner action left ≡ find_entry owner action (entries_of (drop (i + 1) (backwards l c)))
    unfolding entries_of
    miss k e = rw (backwards-from m l n c h i no_replay k, find-put, e)

    pub over : suc m ≤ i → find_entry owner action left ≡ None
    unfolding entries_of find_entry
    over k = rw (drop_of_length-le (backwards l c) {i = i} (rw (length-backwards, n) k))
