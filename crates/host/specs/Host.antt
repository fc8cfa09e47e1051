-- What a host that lends words is promised by each function (docs/HOST.md), in three parts: words that are not lent as they have to be are turned away and left;
-- whatever lent words hold, there is an answer, and as many words; where they are a sound runtime's, they stand where the rules say.
use Rattle.std.specs.Prelude.{ℕ, zero, suc, ◌-◌, ◌*◌, ◌/◌, ◌%◌, ◌≤◌, ◌<◌, Bool, true, false, cond, ◌&&◌, List, [], ◌∷◌, ◌++◌, ◌≡◌, eqb, ltb, ℤ, length, get_or, replicate, is_some, Option, Some, None}
use Rattle.model.specs.Reasons.{number}
use Rattle.model.specs.declared.Capability.{Capability}
use Rattle.model.specs.declared.Observation.{Observation}
use Rattle.model.specs.declared.Reason.{Reason}
use Rattle.model.specs.declared.Renewal.{Renewal}
use Rattle.rules.specs.Interaction.{Refused}
use Rattle.rules.specs.Protocol.{Input, Reading, Item, ItemObserve, ItemExecute, ItemFallback, ItemRecord, Start, Output, Hands, Refuses, Answers, Gone, Reaction, start as start_rule, book_in, shown}
use Rattle.state.specs.State.{output_of}
use Rattle.state.specs.declared.Answer.{Answer}
use Rattle.state.specs.declared.Answer.TheVariants as Answer
use Rattle.cells.specs.Cells.{part, put}
use Rattle.format.specs.Decode.{Record, Feeds, Malformed, word, u32_at, config_of, capability_of, checked_kind, decode}
use Rattle.format.specs.Encode.{encode}
use Rattle.decide_read.specs.declared.ItemKind.{ItemKind}
use Rattle.decide_read.specs.declared.ItemKind.TheVariants as ItemKind
use Rattle.decide_read.specs.declared.ItemShown.{ItemShown}
use Rattle.decide_start.specs.Starts.{Listing, start_on}
use Rattle.runtime.specs.Runtimes.{state_in}
use Rattle.runtime.specs.Stages.{phase_in, RuntimeSound, Moves}
use Rattle.layout.specs.Layout.{size, runtime_in, listing_in}
use Rattle.host_calls.specs.Calls.{Steps}
use Rattle.host_records.specs.declared.Taken.{Taken}
use Rattle.host_records.specs.Standings.{Says, Goes}

-- the words --------------------------------------------------------------------------------------------------------------

-- what the first word is: the letters ROLTHAI, then the version, 1
abbrev pub version : ℕ
version = 5931043159143434497

-- the numbers of what is wrong with slices, beside those of docs/WIRE.md
abbrev pub malformed : ℕ
malformed = 64

abbrev pub short : ℕ
short = 65

abbrev pub other : ℕ
other = 66

-- not as many words as there are to be, or another first one; 0: neither
unfoldable pub fault_of : List ℕ → ℕ
fault_of w = cond (eqb (length w) size) (cond (eqb (get_or w 0 0) version) 0 other) short

-- .. or too little room for an output record
unfoldable pub lack_of : List ℕ → List ℕ → ℕ
lack_of w out = cond (eqb (fault_of w) 0) (cond (ltb (length out) 26) short 0) (fault_of w)

-- a number, and every word as it was
abbrev pub Left : List ℕ → List ℕ → ℕ → ℕ → Type 0
Left w w' r n = (r ≡ n) × (w' ≡ w)

-- answers ----------------------------------------------------------------------------------------------------------------

-- The kind of record that says the same (docs/WIRE.md), or 01's number of the refusal. An item, whose kind of record says which, and a poll that saw a raise
-- have numbers of their own.
unfoldable pub number_of : Answer → ℕ
number_of Answer.Started = 2
number_of Answer.NoRuntime = 4
number_of Answer.Item = 20
number_of Answer.Returned = 32
number_of Answer.Unraised = 33
number_of Answer.Succeeded = 34
number_of Answer.Leased = 35
number_of Answer.Refused = 36
number_of Answer.Submitted = 37
number_of Answer.Raised = 38
number_of Answer.InvalidBootId = 101
number_of Answer.InvalidConfig = 102
number_of Answer.InvalidCapability = 103
number_of Answer.DuplicateCapability = 104
number_of Answer.StartupFailed = 105
number_of Answer.ReplyAwaited = 111
number_of Answer.NoReplyAwaited = 112
number_of Answer.OtherAwaited = 113

-- calls and replies ------------------------------------------------------------------------------------------------------

-- the record of a kind whose words 1.. are k words from `at` on
abbrev pub record_with : ℕ → List ℕ → ℕ → ℕ → List ℕ
record_with kind f at k = kind ∷ (part f at k ++ replicate (15 - k) 0)

-- a slice of k words is the fields of a record of this kind; of another length, or with a word above what its field can hold, it is none
unfoldable pub asked : ℕ → ℕ → List ℕ → Record
asked kind k f = cond (eqb (length f) k) (decode (record_with kind f 0 k)) Malformed

-- where a call or a reply leaves the words, and the number of its answer
pub record Served (w w' : List ℕ) (r : ℕ) (i : Input) : Type 0 where
  pub answer : Answer
  pub number : r ≡ number_of answer
  pub steps : Steps w w' answer i

-- .. of a slice that may be no record
pub record Asks (w w' : List ℕ) (r : ℕ) (i : Record) : Type 0 where
  pub refused : (fault_of w ≡ 0 → ⊥) → Left w w' r (fault_of w)
  pub unread : fault_of w ≡ 0 → i ≡ Malformed → Left w w' r malformed
  pub served : fault_of w ≡ 0 → (x : Input) → i ≡ Feeds x → Served w w' r x

abbrev pub renewal_with : ℕ → ℕ → ℕ → ℕ → ℕ → Renewal
renewal_with owner lease renewal duration time =
    record { now = time; owner = owner; lease_id = lease; renewal = renewal; duration_ms = duration }

-- what the driver observed; with `ok` false the values are not read
abbrev pub observed_with : Bool → ℤ → ℤ → ℕ → Option Observation
observed_with ok v u sensed = cond ok (Some (record { parameters = v ∷ u ∷ []; state = sensed })) None

-- a start ----------------------------------------------------------------------------------------------------------------

-- the capabilities that words are, 13 words each
abbrev pub capability_with : List ℕ → ℕ → List ℕ
capability_with f i = record_with 1 f (13 * i) 13

unfoldable pub capabilities_in : List ℕ → ℕ → List Capability
capabilities_in f zero = []
capabilities_in f (suc n) = capabilities_in f n ++ (capability_of (capability_with f n) ∷ [])

-- each is a record of a known kind with no word above what its field can hold
unfoldable pub are_read : List ℕ → ℕ → Bool
are_read f zero = true
are_read f (suc n) = are_read f n && is_some (checked_kind (capability_with f n))

-- what is listed once nothing was
pub record ListsAll (w w' f : List ℕ) (n : ℕ) : Type 0 where
  pub first : get_or w' 0 0 ≡ get_or w 0 0
  pub long : length w' ≡ length w
  pub listed : Listing (listing_in w) [] → Listing (listing_in w') (capabilities_in f n)

-- the words of a start, and capabilities for it
unfoldable pub are_asked : List ℕ → List ℕ → Bool
are_asked s f =
    eqb (length s) 9 && is_some (checked_kind (record_with 2 s 0 9)) && eqb (length f % 13) 0 && are_read f (length f / 13)

unfoldable pub start_in : List ℕ → List ℕ → Start
start_in s f =
    let ws = record_with 2 s 0 9 in start_on (config_of ws) (capabilities_in f (length f / 13)) (word ws 1) (word ws 2) (u32_at ws 3)

-- words that are a runtime's: as the rules start it, and nothing is listed
pub record Made (w w' : List ℕ) (r : ℕ) (x : Reaction) : Type 0 where
  pub answer : Answer
  pub number : r ≡ number_of answer
  pub first : get_or w' 0 0 ≡ version
  pub long : length w' ≡ length w
  pub moves : Moves (runtime_in w') answer x
  pub listed : Listing (listing_in w') []

-- whatever the words were
pub record Begins (w w' : List ℕ) (r : ℕ) (s f : List ℕ) : Type 0 where
  pub refused : (length w ≡ size → ⊥) → Left w w' r short
  pub unread : length w ≡ size → are_asked s f ≡ false → Left w w' r malformed
  pub made : length w ≡ size → are_asked s f ≡ true → Made w w' r (start_rule (start_in s f))

-- no runtime, and nothing listed
pub record Wiped (w w' : List ℕ) : Type 0 where
  pub first : get_or w' 0 0 ≡ version
  pub long : length w' ≡ length w
  pub sound : RuntimeSound (runtime_in w')
  pub phase : phase_in (runtime_in w') ≡ Gone
  pub listed : Listing (listing_in w') []

pub record Wipes (w w' : List ℕ) (r : ℕ) : Type 0 where
  pub refused : (length w ≡ size → ⊥) → Left w w' r short
  pub wiped : length w ≡ size → (r ≡ 0) × Wiped w w'

-- what a host is told ----------------------------------------------------------------------------------------------------

-- the first 26 words, and no other; the number is the kind of the record
pub record Writes (out out' : List ℕ) (r : ℕ) (ws : List ℕ) : Type 0 where
  pub words : out' ≡ put out 0 ws
  pub room : length ws ≡ 26
  pub kind : r ≡ word ws 0 % 4294967296

-- .. the words of what a record did
pub record TellsOf (w : List ℕ) (d : Taken) (ws out out' : List ℕ) (r : ℕ) : Type 0 where
  pub words : List ℕ
  pub writes : Writes out out' r words
  pub says : Says w d ws words

pub record Told (w out out' : List ℕ) (r : ℕ) (x : Output) : Type 0 where
  pub words : List ℕ
  pub writes : Writes out out' r words
  pub says : RuntimeSound (runtime_in w) → words ≡ encode x

pub record Tells (w out out' : List ℕ) (r : ℕ) (x : Output) : Type 0 where
  pub refused : (lack_of w out ≡ 0 → ⊥) → Left out out' r (lack_of w out)
  pub told : lack_of w out ≡ 0 → Told w out out' r x

-- what a reading shows
abbrev pub ShowsOf : List ℕ → List ℕ → List ℕ → ℕ → Reading → Type 0
ShowsOf w out out' r q = Tells w out out' r (shown q (book_in (phase_in (runtime_in w))))

-- the words of a reading's record; word 0 is not read
abbrev pub reading_with : ℕ → List ℕ
reading_with argument = 0 ∷ argument ∷ replicate 14 0

-- what an answer speaks of
abbrev pub SpeaksOf : List ℕ → List ℕ → List ℕ → ℕ → Answer → Type 0
SpeaksOf w out out' r a = Tells w out out' r (output_of a (state_in (runtime_in w)))

-- the item whose reply is awaited, or that none is
abbrev pub item_output : Option Item → Output
item_output None = Refuses 112
item_output (Some x) = Hands x

abbrev output_as : ItemKind → ItemShown → Output
output_as ItemKind.Nothing s = Refuses 112
output_as ItemKind.Observe s = Hands (ItemObserve s.axis)
output_as ItemKind.Execute s = Hands (ItemExecute s.capability s.parameters)
output_as ItemKind.Fallback s = Hands (ItemFallback s.axis s.reason)
output_as ItemKind.Record s = Hands (ItemRecord s.receipt)

-- .. by what is shown of it
abbrev pub shown_output : ItemShown → Output
shown_output s = output_as s.kind s

-- the number of the reason
pub record Reasoned (w : List ℕ) (r : ℕ) : Type 0 where
  pub reason : Reason
  pub is : r ≡ number reason
  pub says : output_of Answer.Refused (state_in (runtime_in w)) ≡ Answers (Refused reason)

pub record Refusal (w : List ℕ) (r : ℕ) : Type 0 where
  pub refused : (fault_of w ≡ 0 → ⊥) → r ≡ fault_of w
  pub told : fault_of w ≡ 0 → Reasoned w r

-- records ----------------------------------------------------------------------------------------------------------------

-- .. or a slice that is not 16 words
unfoldable pub fault_at : List ℕ → List ℕ → List ℕ → ℕ
fault_at w f out = cond (eqb (lack_of w out) 0) (cond (eqb (length f) 16) 0 malformed) (lack_of w out)

pub record Stepped (w w' out out' : List ℕ) (r : ℕ) (i : Record) : Type 0 where
  pub words : List ℕ
  pub writes : Writes out out' r words
  pub goes : Goes w w' words i

pub record Records (w w' f out out' : List ℕ) (r : ℕ) : Type 0 where
  pub refused : (fault_at w f out ≡ 0 → ⊥) → Left w w' r (fault_at w f out) × (out' ≡ out)
  pub stepped : fault_at w f out ≡ 0 → Stepped w w' out out' r (decode (part f 0 16))
