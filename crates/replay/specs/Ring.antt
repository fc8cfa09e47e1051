-- The ring as a list: the slots from the cursor backwards, around, and the entries that they hold.
use Rattle.std.specs.Prelude.{ℕ, zero, suc, Bool, false, List, [], ◌∷◌, ◌++◌, reverse, take, drop, Option, Some, None}
use Rattle.model.specs.declared.Presence.TheVariants.{Absent, Present}
use Rattle.model.specs.declared.Presence.{Presence}
use Rattle.model.specs.declared.Replay.{Replay}
use Rattle.model.specs.declared.ReplaySlot.{ReplaySlot}
use Rattle.model.specs.Records.{no_replay}
use Rattle.replay.specs.declared.ReplayRing.{ReplayRing}
-- what a search is held to, passed on to those who search
unfoldable pub use Rattle.rules.specs.Admission.{is_entry, find_entry}

-- the places of a circle backwards: from the one before `cursor` to the first, then from the last to `cursor`
unfoldable pub backwards : {A : Type 0} → List A → ℕ → List A
backwards l cursor = reverse (take cursor l) ++ reverse (drop cursor l)

-- the entry of a slot, in front of others
unfoldable pub put : Presence → Replay → List Replay → List Replay
put Absent e es = es
put Present e es = e ∷ es

-- the entries that slots hold
unfoldable pub entries_of : List ReplaySlot → List Replay
entries_of [] = []
entries_of (s ∷ ss) = put s.presence s.replay (entries_of ss)

abbrev pub slots_of : ReplayRing → List ReplaySlot
slots_of ring = backwards ring.entries ring.cursor

-- the entries of a ring, the newest first
abbrev pub list_of : ReplayRing → List Replay
list_of ring = entries_of (slots_of ring)

abbrev pub held : Replay → ReplaySlot
held e = record { presence = Present; replay = e }

-- so many slots: one for each entry, and blanks after these
unfoldable pub filled : ℕ → List Replay → List ReplaySlot
filled zero es = []
filled (suc n) [] = no_replay ∷ filled n []
filled (suc n) (e ∷ es) = held e ∷ filled n es

unfoldable pub hit_in : ℕ → ℕ → Presence → Replay → Bool
hit_in owner action Absent e = false
hit_in owner action Present e = is_entry owner action e

-- a slot that holds the entry of this owner and action id
abbrev pub is_hit : ℕ → ℕ → ReplaySlot → Bool
is_hit owner action s = hit_in owner action s.presence s.replay

-- what a search answers: the receipt number of the entry found
abbrev pub receipt_of : Option Replay → Option ℕ
receipt_of None = None
receipt_of (Some e) = Some e.receipt
