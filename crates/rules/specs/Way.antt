-- The way of an interaction: which replies, to which items, lead from where to where; and the opening tick of a call in hand.
use Rattle.std.specs.Prelude.{ℕ, Bool, List, [], ◌∷◌, ◌++◌, ◌≡◌, ℤ}
use Rattle.std.specs.Prelude.{Option}
use Rattle.model.specs.declared.Observation.{Observation}
use Rattle.model.specs.declared.Reason.{Reason}
use Rattle.model.specs.declared.Receipt.{Receipt}
use Rattle.rules.specs.Book.{Book}
use Rattle.rules.specs.Interaction.{Returned, Interaction, Done, Observe, Execute, Fallback, Record}
use Rattle.rules.specs.Rules.{tick}
use Rattle.rules.specs.Protocol.{Reply, Observed, Executed, FellBack, Recorded, Item, ItemObserve, ItemExecute, ItemFallback, ItemRecord}
use Rattle.rules.specs.Log.{Exchange}

-- an interaction takes the reply to its item, and goes on
pub data Takes : Interaction → Reply → Item → Interaction → Type 0 where
  observed : {axis : ℕ} {b : Book} {k : Option Observation → Interaction} {o : Option Observation}
      → Takes (Observe axis b k) (Observed o) (ItemObserve axis) (k o)
  executed : {c : ℕ} {p : List ℤ} {b : Book} {k : Bool → Interaction} {ok : Bool}
      → Takes (Execute c p b k) (Executed ok) (ItemExecute c p) (k ok)
  fell_back : {axis : ℕ} {r : Reason} {b : Book} {k : Bool → Interaction} {ok : Bool}
      → Takes (Fallback axis r b k) (FellBack ok) (ItemFallback axis r) (k ok)
  recorded : {r : Receipt} {b : Book} {k : Interaction} → Takes (Record r b k) Recorded (ItemRecord r) k

-- given these replies, to these items, in order, an interaction comes to stand at another
pub data Runs : Interaction → List Reply → List Item → Interaction → Type 0 where
  here : {t : Interaction} → Runs t [] [] t
  then : {t t' u : Interaction} {r : Reply} {i : Item} {rs : List Reply} {is : List Item}
      → Takes t r i t' → Runs t' rs is u → Runs t (r ∷ rs) (i ∷ is) u

-- the opening tick of the call in hand, on the book before it, has ended with this book; these replies and items came after it
pub record Ticked (now : ℕ) (before : Book) (x : Exchange) (book : Book) : Type 0 where
  pub ticking : List Reply
  pub tick_items : List Item
  pub run : Runs (tick now before (λ b. Done b Returned)) ticking tick_items (Done book Returned)
  pub later : List Reply
  pub later_items : List Item
  pub replies : x.replies ≡ ticking ++ later
  pub items : x.items ≡ tick_items ++ later_items
