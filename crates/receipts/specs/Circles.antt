-- A circle of 64 places, and the list of slot numbers that it denotes over what stands at its places.
use Rattle.std.specs.Prelude.{ℕ, ◌+◌, ◌-◌, List}
use Rattle.receipts.specs.declared.Circle.{Circle}
use Rattle.receipts.specs.Orders.{wrapped, around}

-- the slot numbers, oldest first
unfoldable pub slots_of : Circle → List ℕ → List ℕ
slots_of c store = around store 64 c.head c.count

-- what `Circle::empty` answers
abbrev pub no_slots : Circle
no_slots = record { head = 0; count = 0 }

-- what `Circle::at` answers: the place of the one with this many older
abbrev pub place_at : Circle → ℕ → ℕ
place_at c older = wrapped 64 (c.head + older)

-- what `Circle::longer` answers
abbrev pub longer_by : Circle → Circle
longer_by c = record { head = c.head; count = c.count + 1 }

-- what `Circle::shorter` answers
abbrev pub shorter_by : Circle → Circle
shorter_by c = record { head = wrapped 64 (c.head + 1); count = c.count - 1 }
