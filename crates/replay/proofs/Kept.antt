-- A ring is sound when it is made, and after each push. Assumes nothing.
use Prim.Native.Nat.{ℕ, suc, ◌+◌, ◌%◌, ◌<◌}
use mathlib.Core.Path.{◌≡◌, sym, ap, ◌∙◌}
use mathlib.Core.List.{List, [], ◌∷◌}
use native.Mathlib.Omega.{arith}
use lib.ListN.{length, take, set, replicate}
use Rattle.model.specs.declared.Replay.{Replay}
use Rattle.model.specs.declared.ReplaySlot.{ReplaySlot}
use Rattle.model.specs.Records.{no_replay}
use Rattle.replay.specs.declared.ReplayRing.{ReplayRing}
use Rattle.replay.specs.Ring.{backwards, entries_of, slots_of, list_of, held, filled}
use Rattle.replay.specs.Promises.{Sound, Emptied, Pushed}
use Rattle.replay.proofs.Circle.{backwards-alike, backwards-set}
use Rattle.replay.proofs.Entries.{entries-filled, blanks, take-filled, filled-take}

-- slots that are filled from a list: what they hold, and that they are filled from that
module _ (n : ℕ) (l : List ReplaySlot) (es : List Replay) (e : l ≡ filled n es) where
  pub holds : entries_of l ≡ take n es
  holds = ap entries_of e ∙ entries-filled n es

  pub again : l ≡ filled n (entries_of l)
  again = e ∙ sym (ap (filled n) holds ∙ filled-take n es)

-- blank slots
pub none_filled : (n : ℕ) → backwards (replicate n no_replay) 0 ≡ filled n []
none_filled n = backwards-alike n no_replay ∙ blanks n

-- an entry stored at the cursor, and the cursor moved on
pub one-filled : (m : ℕ) (l : List ReplaySlot) (c : ℕ) (es : List Replay) (e : Replay)
    → length l ≡ suc m
    → c < suc m
    → backwards l c ≡ filled (suc m) es
    → backwards (set l c (held e)) ((c + 1) % suc m) ≡ filled (suc m) (e ∷ es)
unfolding filled
one-filled m l c es e n h f =
    backwards-set m l n c h (held e) ∙ ap (λ (r : List ReplaySlot). held e ∷ r) (ap (take m) f ∙ take-filled m es)

pub emptied : Emptied (record { entries = replicate 32 no_replay; cursor = 0 })
emptied =
    record {
      list = holds 32 _ [] (none_filled 32);
      sound = record { within = omega arith; slots = again 32 _ [] (none_filled 32) };
    }

pub pushed : (ring made : ReplayRing) (e : Replay)
    → Sound ring
    → length ring.entries ≡ 32
    → made.entries ≡ set ring.entries ring.cursor (held e)
    → made.cursor ≡ (ring.cursor + 1) % 32
    → Pushed ring e made
pushed ring made e s n stored moved =
    record {
      list = holds 32 _ (e ∷ list_of ring) slots;
      sound = record { within = omega arith; slots = again 32 _ (e ∷ list_of ring) slots };
    }
  where
    slots : slots_of made ≡ filled 32 (e ∷ list_of ring)
    slots = rw (stored, moved) (one-filled 31 ring.entries ring.cursor (list_of ring) e n s.within s.slots)
