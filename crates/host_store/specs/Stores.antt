-- What the stores that calls and replies share leave in the words.
use Rattle.std.specs.Prelude.{ℕ, ◌<◌, Bool, List, ◌≡◌, set}
use Rattle.model.specs.declared.Receipt.{Receipt}
use Rattle.rules.specs.Receipts.{bump}
use Rattle.runtime.specs.declared.Placement.{Placement}
use Rattle.runtime.specs.declared.Runtime.{Runtime}
use Rattle.runtime.specs.Kept.{followed_in, filled_in, PlacesAs, oldest_rejected, oldest_other}
use Rattle.runtime.specs.Promises.{Kept, PlacesIn, Leaves}
use Rattle.state.specs.State.{InBounds}
use Rattle.state.specs.declared.AfterRecord.{AfterRecord}
use Rattle.state.specs.declared.Answer.{Answer}
use Rattle.state.specs.declared.Awaited.TheVariants as Awaited
use Rattle.state.specs.declared.Course.{Course}
use Rattle.layout.specs.Fields.{with_places, with_numbers, with_waiting, with_slot, receipts_to}
use Rattle.layout.specs.Layout.{runtime_in, Same}

-- a slot noted in its circle
abbrev pub noted_in : Placement → Runtime → Runtime
noted_in p h =
    with_places
    (record {
      index = p.index;
      rejected = set h.places.rejected p.rejected_at p.slot;
      others = set h.places.others p.others_at p.slot;
    })
    h

-- a slot taken for a receipt of a kind
pub record Places (rejection : Bool) (w w' : List ℕ) (slot : ℕ) : Type 0 where
  pub same : Same w w'
  pub inside : slot < 65
  pub placement : Placement
  pub taken : slot ≡ placement.slot
  pub noted : runtime_in w' ≡ noted_in placement (runtime_in w)
  pub places : Kept (runtime_in w) → PlacesAs (runtime_in w).places.index rejection (oldest_rejected (runtime_in w)) (oldest_other (runtime_in w)) placement

-- a receipt of the next number in a slot, which is to be recorded
abbrev pub announced_in : AfterRecord → ℕ → Runtime → Runtime
announced_in after slot h =
    with_slot slot
    (with_waiting (record { awaited = Awaited.Record; after_record = after })
    (with_numbers (receipts_to (bump h.numbers.next_receipt) h.numbers) h))

-- a receipt put into its slot
pub record RecordsIn (rejection : Bool) (after : AfterRecord) (r : Receipt) (w w' : List ℕ) : Type 0 where
  pub same : Same w w'
  pub between : Runtime  -- the slot is taken, and the receipt is not in it yet
  pub slot : ℕ
  pub places : Kept (runtime_in w) → PlacesIn rejection after (runtime_in w) between slot
  pub filled : runtime_in w' ≡ filled_in slot r between

-- a course followed
pub record Follows (c : Course) (w w' : List ℕ) (answer : Answer) : Type 0 where
  pub same : Same w w'
  pub leaves : InBounds c.falling → Leaves (followed_in c (runtime_in w)) c.answer (runtime_in w') answer
