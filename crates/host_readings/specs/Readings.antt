-- What is read of an index that may be none.
use Rattle.std.specs.Prelude.{ℕ, ◌+◌, ◌<◌, ◌≡◌}
use Rattle.receipts.specs.declared.Index.{Index}
use Rattle.receipts.specs.Indexes.{Numbered}
use Rattle.decide_read.specs.declared.Noted.{Noted}
use Rattle.decide_read.specs.Shown.{NotedAs}

abbrev pub RetainedAny : Index → ℕ → Type 0
RetainedAny i r = Numbered i → r ≡ i.rejected.count + i.others.count

pub record NotedAny (i : Index) (at : ℕ) (n : Noted) : Type 0 where
  pub rejected : n.rejected < 65
  pub others : n.others < 65
  pub noted : Numbered i → NotedAs i at n
