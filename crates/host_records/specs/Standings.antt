-- Where lent words stand between two records, and what a record leaves and is answered.
use Rattle.std.specs.Prelude.{ℕ, false, List, ◌≡◌, length, get_or}
use Rattle.model.specs.declared.Capability.{Capability}
use Rattle.model.specs.declared.Presence.{Presence}
use Rattle.model.specs.declared.Presence.TheVariants.{Present}
use Rattle.model.specs.declared.Receipt.{Receipt}
use Rattle.rules.specs.Log.{took_effect}
use Rattle.rules.specs.Protocol.{Input, Reading, Reads, Output, react, book_in, shown}
use Rattle.decide_read.specs.Shown.{capability_says, receipt_says}
use Rattle.format.specs.Decode.{Record, Feeds, Malformed, reading_of}
use Rattle.format.specs.Encode.{encode}
use Rattle.decide_start.specs.Starts.{Listing}
use Rattle.runtime.specs.Runtimes.{state_in}
use Rattle.runtime.specs.Stages.{phase_in, RuntimeSound}
use Rattle.state.specs.State.{output_of}
use Rattle.layout.specs.Layout.{runtime_in, listing_in}
use Rattle.host_records.specs.declared.Taken.{Taken}
use Rattle.host_records.specs.Records.{Standing, RecordStep, Listed, Unread, step, answer_words}

-- what is listed for the next start, and the phase of the life in hand
pub record Stands (w : List ℕ) (x : Standing) : Type 0 where
  pub listing : Listing (listing_in w) x.listed
  pub phase : phase_in (runtime_in w) ≡ x.phase

-- a reading in words
abbrev pub ReadsAs : List ℕ → List ℕ → Reading → Type 0
ReadsAs w r q = r ≡ encode (shown q (book_in (phase_in (runtime_in w))))

-- the words of what a record did: off the words that it left, and of a reading by the record's own
unfoldable pub Says : List ℕ → Taken → List ℕ → List ℕ → Type 0
Says w Taken.Listed ws r = r ≡ answer_words Listed
Says w (Taken.Answered a) ws r = RuntimeSound (runtime_in w) → r ≡ encode (output_of a (state_in (runtime_in w)))
Says w (Taken.Read kind) ws r = RuntimeSound (runtime_in w) → ReadsAs w r (reading_of kind ws)
Says w Taken.Unread ws r = r ≡ answer_words Unread

-- what a runtime shows of a capability and of a receipt
abbrev pub capability_said : Presence → Capability → Output
capability_said presence c = capability_says (record { runtime = Present; presence = presence; capability = c })

abbrev pub receipt_said : Presence → Receipt → Output
receipt_said presence r = receipt_says (record { runtime = Present; presence = presence; receipt = r })

-- the answer to a record, and what is left
pub record Answered (w' r : List ℕ) (s : RecordStep) : Type 0 where
  pub words : r ≡ answer_words s.answer
  pub stands : Stands w' s.standing
  pub sound : RuntimeSound (runtime_in w')

pub record Goes (w w' r : List ℕ) (i : Record) : Type 0 where
  pub first : get_or w' 0 0 ≡ get_or w 0 0
  pub long : length w' ≡ length w
  pub answers : RuntimeSound (runtime_in w) → (x : Standing) → Stands w x → Answered w' r (step x i)
  -- what is malformed is answered so and leaves every word, whatever the words are; a reading leaves them too, and what is turned away those of a sound runtime
  pub unread : i ≡ Malformed → (r ≡ answer_words Unread) × (w' ≡ w)
  pub read : (q : Reading) → i ≡ Feeds (Reads q) → w' ≡ w
  pub left : RuntimeSound (runtime_in w) → (x : Input) → i ≡ Feeds x → took_effect (react (phase_in (runtime_in w)) x).output ≡ false → w' ≡ w

-- a record that was taken goes there, whatever words say what it did
pub record Takes (w w' : List ℕ) (d : Taken) (ws : List ℕ) (i : Record) : Type 0 where
  pub long : length w' ≡ length w
  pub goes : (r : List ℕ) → Says w' d ws r → Goes w w' r i
