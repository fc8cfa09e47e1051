-- A push of any five numbers: inside the tables whatever they are, and where they are an index's, the push that `receipts` promises.
use Rattle.std.specs.Prelude.{ℕ, ◌<◌, Bool, true, ◌≡◌}
use Rattle.receipts.specs.declared.Index.{Index}
use Rattle.receipts.specs.declared.Pushed.{Pushed}
use Rattle.receipts.specs.Indexes.{Numbered, Pushes}
use Rattle.rows.specs.Rows.{Headed}
use Rattle.runtime.specs.declared.Placement.{Placement}
use Rattle.runtime.specs.Kept.{PlacesAs}

-- a test that decides
pub record Tells (b : Bool) (P : Type 0) : Type 0 where
  pub yes : b ≡ true → P
  pub no : P → b ≡ true

-- 64 is spare, of the slots and of the places
pub record AnyPush (i : Index) (is_rejection : Bool) (oldest_rejected oldest_other : ℕ) (p : Pushed) : Type 0 where
  pub inside : p.place < 65
  pub below : p.slot < 65
  pub heads : Headed p.index
  pub pushes : Numbered i → Pushes i is_rejection oldest_rejected oldest_other p

pub record PlacesAny (i : Index) (is_rejection : Bool) (oldest_rejected oldest_other : ℕ) (p : Placement) : Type 0 where
  pub slot : p.slot < 65
  pub rejected : p.rejected_at < 65
  pub others : p.others_at < 65
  pub heads : Headed p.index
  pub places : Numbered i → PlacesAs i is_rejection oldest_rejected oldest_other p
