-- What an input does to a phase, by cases: the one place that goes through every pair of a phase and an input. Assumes nothing.
use Prim.Native.Nat.{ℕ}
use mathlib.Core.Bool.{Bool, true, false}
use mathlib.Core.List.{List, [], ◌∷◌, ◌++◌}
use Rattle.std.specs.Prelude.{Option, Some, None}
use mathlib.Core.Path.{◌≡◌, refl}
use lib.IntN.{ℤ}
use Rattle.model.specs.declared.Observation.{Observation}
use Rattle.model.specs.declared.Reason.{Reason}
use Rattle.model.specs.declared.Receipt.{Receipt}
use Rattle.rules.specs.Book.{Book}
use Rattle.rules.specs.Interaction.{Interaction, Done, Observe, Execute, Fallback, Record}
use Rattle.rules.specs.Protocol.{Call, Reply, Observed, Executed, FellBack, Recorded, Reading, Input, Calls, Replies, Reads, Item, ItemObserve, ItemExecute, ItemFallback, ItemRecord, Start, Wait, OnObserve, OnExecute, OnFallback, OnRecord, Phase, Starting, Gone, Idle, Waiting, item_of, book_in, resume, proceed, start_from, called, resumed, start_replied, replied, shown, effect, apply, react}
use Rattle.rules.specs.Log.{Replied, Handed, Ended, Log, handed, took_effect, arrived, logged, opened}
use Rattle.rules.specs.Way.{Takes, observed, executed, fell_back, recorded}

-- the phase in which an interaction waits
pub data Stands : Interaction → Phase → Type 0 where
  at_observe : {axis : ℕ} {b : Book} {k : Option Observation → Interaction} → Stands (Observe axis b k) (Waiting (OnObserve axis b k))
  at_execute : {c : ℕ} {p : List ℤ} {b : Book} {k : Bool → Interaction} → Stands (Execute c p b k) (Waiting (OnExecute c p b k))
  at_fallback : {axis : ℕ} {r : Reason} {b : Book} {k : Bool → Interaction} → Stands (Fallback axis r b k) (Waiting (OnFallback axis r b k))
  at_record : {r : Receipt} {b : Book} {k : Interaction} → Stands (Record r b k) (Waiting (OnRecord r b k))

-- the event at which an interaction stands: its item, or its end
unfoldable pub event_at : Interaction → Log
event_at (Done b a) = Ended a ∷ []
event_at (Observe axis b k) = Handed (ItemObserve axis) ∷ []
event_at (Execute c p b k) = Handed (ItemExecute c p) ∷ []
event_at (Fallback axis r b k) = Handed (ItemFallback axis r) ∷ []
event_at (Record r b k) = Handed (ItemRecord r) ∷ []

pub handed-event : (t : Interaction) → handed (proceed t).output ≡ event_at t
unfolding proceed handed event_at
handed-event (Done b a) = refl
handed-event (Observe axis b k) = refl
handed-event (Execute c p b k) = refl
handed-event (Fallback axis r b k) = refl
handed-event (Record r b k) = refl

pub effective : (t : Interaction) → took_effect (proceed t).output ≡ true
unfolding proceed took_effect
effective (Done b a) = refl
effective (Observe axis b k) = refl
effective (Execute c p b k) = refl
effective (Fallback axis r b k) = refl
effective (Record r b k) = refl

pub start-effective : (s : Start) (axes : List ℕ) (good : Bool) → took_effect (start_from s axes good).output ≡ true
unfolding start_from took_effect
start-effective s (axis ∷ rest) good = refl
start-effective s [] true = refl
start-effective s [] false = refl

-- what holds once a startup fallback's reply and what follows it are in the log
pub after_try : (P : Log → Phase → Type 0) (s : Start) (axes : List ℕ) (good ok : Bool) (l : Log)
    → P (handed (start_from s axes good).output ++ (Replied (FellBack ok) ∷ l)) (start_from s axes good).phase
    → P (logged (Replies (FellBack ok)) (start_from s axes good).output l) (start_from s axes good).phase
unfolding logged arrived
after_try P s axes good ok l h = rw (start-effective s axes good) h

-- the input leaves phase and log as they were
pub record Stays (p : Phase) (i : Input) : Type 0 where
  pub phase : (react p i).phase ≡ p
  pub log : (l : Log) → logged i (react p i).output l ≡ l
  pub book : (b old : Option Book) → opened i (react p i).output b old ≡ old

-- the reply that is awaited
pub record Answered (p : Phase) (r : Reply) (t u : Interaction) : Type 0 where
  pub stands : Stands t p
  pub item : Item
  pub takes : Takes t r item u
  pub reaction : react p (Replies r) ≡ proceed u
  pub log : (l : Log) → logged (Replies r) (react p (Replies r)).output l ≡ event_at u ++ (Replied r ∷ l)

pub data Step : Phase → Input → Type 0 where
  stays : {p : Phase} {i : Input} → Stays p i → Step p i
  tries : (s : Start) (axis : ℕ) (rest : List ℕ) (good ok : Bool) → Step (Starting s axis rest good) (Replies (FellBack ok))
  begins : (b : Book) (c : Call) → Step (Idle b) (Calls c)
  answers : {p : Phase} {r : Reply} (t u : Interaction) → Answered p r t u → Step p (Replies r)

reply-step : (w : Wait) (r : Reply) → Step (Waiting w) (Replies r)
unfolding react apply effect replied resumed resume item_of handed took_effect arrived logged opened
reply-step (OnObserve axis b k) (Observed o) = answers (Observe axis b k) (k o) record { stands = at_observe; item = ItemObserve axis; takes = observed; reaction = refl; log = λ l. simp (handed-event, effective) }
reply-step (OnExecute c p b k) (Executed ok) = answers (Execute c p b k) (k ok) record { stands = at_execute; item = ItemExecute c p; takes = executed; reaction = refl; log = λ l. simp (handed-event, effective) }
reply-step (OnFallback axis r b k) (FellBack ok) = answers (Fallback axis r b k) (k ok) record { stands = at_fallback; item = ItemFallback axis r; takes = fell_back; reaction = refl; log = λ l. simp (handed-event, effective) }
reply-step (OnRecord r b k) Recorded = answers (Record r b k) k record { stands = at_record; item = ItemRecord r; takes = recorded; reaction = refl; log = λ l. simp (handed-event, effective) }
reply-step (OnObserve axis b k) (Executed ok) = stays record { phase = refl; log = λ l. refl; book = λ b old. refl }
reply-step (OnObserve axis b k) (FellBack ok) = stays record { phase = refl; log = λ l. refl; book = λ b old. refl }
reply-step (OnObserve axis b k) Recorded = stays record { phase = refl; log = λ l. refl; book = λ b old. refl }
reply-step (OnExecute c p b k) (Observed o) = stays record { phase = refl; log = λ l. refl; book = λ b old. refl }
reply-step (OnExecute c p b k) (FellBack ok) = stays record { phase = refl; log = λ l. refl; book = λ b old. refl }
reply-step (OnExecute c p b k) Recorded = stays record { phase = refl; log = λ l. refl; book = λ b old. refl }
reply-step (OnFallback axis r b k) (Observed o) = stays record { phase = refl; log = λ l. refl; book = λ b old. refl }
reply-step (OnFallback axis r b k) (Executed ok) = stays record { phase = refl; log = λ l. refl; book = λ b old. refl }
reply-step (OnFallback axis r b k) Recorded = stays record { phase = refl; log = λ l. refl; book = λ b old. refl }
reply-step (OnRecord r b k) (Observed o) = stays record { phase = refl; log = λ l. refl; book = λ b old. refl }
reply-step (OnRecord r b k) (Executed ok) = stays record { phase = refl; log = λ l. refl; book = λ b old. refl }
reply-step (OnRecord r b k) (FellBack ok) = stays record { phase = refl; log = λ l. refl; book = λ b old. refl }

start-step : (s : Start) (axis : ℕ) (rest : List ℕ) (good : Bool) (r : Reply) → Step (Starting s axis rest good) (Replies r)
unfolding react apply effect replied start_replied handed took_effect arrived logged opened
start-step s axis rest good (FellBack ok) = tries s axis rest good ok
start-step s axis rest good (Observed o) = stays record { phase = refl; log = λ l. refl; book = λ b old. refl }
start-step s axis rest good (Executed ok) = stays record { phase = refl; log = λ l. refl; book = λ b old. refl }
start-step s axis rest good Recorded = stays record { phase = refl; log = λ l. refl; book = λ b old. refl }

-- a reading
read_step : (p : Phase) (q : Reading) (o : Option Book) → book_in p ≡ o → Stays p (Reads q)
unfolding react apply effect shown handed took_effect arrived logged opened
read_step p q None e = record { phase = refl; log = λ l. rw e; book = λ b old. refl }
read_step p q (Some b) e = record { phase = refl; log = λ l. rw e; book = λ b old. refl }

pub step : (p : Phase) (i : Input) → Step p i
unfolding react apply effect called replied handed took_effect arrived logged opened
step p (Reads q) = stays (read_step p q (book_in p) refl)
step (Starting s axis rest good) (Calls c) = stays record { phase = refl; log = λ l. refl; book = λ b old. refl }
step (Starting s axis rest good) (Replies r) = start-step s axis rest good r
step Gone (Calls c) = stays record { phase = refl; log = λ l. refl; book = λ b old. refl }
step Gone (Replies r) = stays record { phase = refl; log = λ l. refl; book = λ b old. refl }
step (Idle b) (Calls c) = begins b c
step (Idle b) (Replies r) = stays record { phase = refl; log = λ l. refl; book = λ b old. refl }
step (Waiting w) (Calls c) = stays record { phase = refl; log = λ l. refl; book = λ b old. refl }
step (Waiting w) (Replies r) = reply-step w r
