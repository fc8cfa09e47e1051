-- Who is heard (00, demand 1; 01, "A driver call" and "What the customer meets as a refusal"): after every history, which calls and replies
-- take effect, and with which number the others are turned away. What is awaited is read off the log.
use Rattle.std.specs.Prelude.{Bool, true, false, [], ◌∷◌, ◌⊎◌, ◌≡◌}
use Rattle.std.specs.Prelude.{Option, Some, None}
use Rattle.rules.specs.Book.{Book}
use Rattle.rules.specs.Interaction.{Answer}
use Rattle.rules.specs.Protocol.{Call, Reply, Observed, Executed, FellBack, Recorded, Reading, Calls, Replies, Reads, Item, ItemObserve, ItemExecute, ItemFallback, ItemRecord, Output, Hands, Answers, Reminds, Refuses, Shows, NoRuntime, Start, book_in, read}
use Rattle.rules.specs.Log.{History, phase_after, output_after, Took, Replied, Handed, Ended, Log, log_of, took_effect, call_of}

-- the item whose reply is awaited: the newest event, where that is an item
unfoldable pub awaited : Log → Option Item
awaited [] = None
awaited (Took c ∷ l) = None
awaited (Replied r ∷ l) = None
awaited (Handed i ∷ l) = Some i
awaited (Ended a ∷ l) = None

-- 01: "Each of the four has its own kind of reply"
unfoldable pub fits : Item → Reply → Bool
fits (ItemObserve axis) (Observed o) = true
fits (ItemObserve axis) (Executed ok) = false
fits (ItemObserve axis) (FellBack ok) = false
fits (ItemObserve axis) Recorded = false
fits (ItemExecute c p) (Observed o) = false
fits (ItemExecute c p) (Executed ok) = true
fits (ItemExecute c p) (FellBack ok) = false
fits (ItemExecute c p) Recorded = false
fits (ItemFallback axis r) (Observed o) = false
fits (ItemFallback axis r) (Executed ok) = false
fits (ItemFallback axis r) (FellBack ok) = true
fits (ItemFallback axis r) Recorded = false
fits (ItemRecord r) (Observed o) = false
fits (ItemRecord r) (Executed ok) = false
fits (ItemRecord r) (FellBack ok) = false
fits (ItemRecord r) Recorded = true

-- an item or an answer comes of it
abbrev pub Proceeds : Output → Type 0
Proceeds out = ((i : Item) × (out ≡ Hands i)) ⊎ ((a : Answer) × (out ≡ Answers a))

-- after every history of every start
pub record Turns (s : Start) (h : History) : Type 0 where
  -- nothing is awaited: every call takes effect, with whichever arguments, where there is a runtime; where there is none it meets none
  pub call-taken : (b : Book) → book_in (phase_after s h) ≡ Some b → awaited (log_of s h) ≡ None → (c : Call)
      → Proceeds (output_after s (Calls c ∷ h))
  pub call-unmet : book_in (phase_after s h) ≡ None → awaited (log_of s h) ≡ None → (c : Call) → output_after s (Calls c ∷ h) ≡ NoRuntime
  -- 01: "a call begun while a reply is awaited: 111, the awaited item again"
  pub call-waits : (i : Item) → awaited (log_of s h) ≡ Some i → (c : Call) → output_after s (Calls c ∷ h) ≡ Reminds 111 i
  -- a reply of the awaited kind takes effect, whatever it says
  pub reply-taken : (i : Item) → awaited (log_of s h) ≡ Some i → (r : Reply) → fits i r ≡ true → took_effect (output_after s (Replies r ∷ h)) ≡ true
  pub reply-proceeds : (i : Item) → awaited (log_of s h) ≡ Some i → (c : Call) → call_of (log_of s h) ≡ Some c → (r : Reply) → fits i r ≡ true
      → Proceeds (output_after s (Replies r ∷ h))
  -- 01: "a reply of another kind than awaited: 113, the awaited item again"
  pub reply-other : (i : Item) → awaited (log_of s h) ≡ Some i → (r : Reply) → fits i r ≡ false → output_after s (Replies r ∷ h) ≡ Reminds 113 i
  -- 01: "a reply while none is awaited: 112, number only"
  pub reply-none : awaited (log_of s h) ≡ None → (r : Reply) → output_after s (Replies r ∷ h) ≡ Refuses 112
  -- 01: "Reading calls .. work during a wait and show the state as it then is"; "until it ends there is no runtime to read"
  pub reading : (b : Book) → book_in (phase_after s h) ≡ Some b → (q : Reading) → output_after s (Reads q ∷ h) ≡ Shows (read q b)
  pub no-reading : book_in (phase_after s h) ≡ None → (q : Reading) → output_after s (Reads q ∷ h) ≡ NoRuntime
