-- Words of items and of what is seen, and where a record leaves lent words. Assumes nothing.
use Prim.Native.Nat.{ℕ, ◌<◌}
use mathlib.Core.Bool.{Bool, true, false, false≢true, cond}
use mathlib.Core.List.{List, []}
use Rattle.std.specs.Prelude.{Some, None}
use mathlib.Core.Path.{◌≡◌, refl, sym, ap, ◌∙◌, subst}
use native.Mathlib.Omega.{arith}
use lib.IntN.{ℤ}
use lib.ListN.{length, get_or, take}
use lib.Seq.{take_all, length-take-le}
use Rattle.model.specs.Records.{no_capability, no_receipt}
use Rattle.model.specs.declared.Capability.{Capability}
use Rattle.model.specs.declared.Config.{Config}
use Rattle.model.specs.declared.Observation.{Observation}
use Rattle.model.specs.declared.Presence.{Presence}
use Rattle.model.specs.declared.Presence.TheVariants.{Absent, Present}
use Rattle.model.specs.declared.Receipt.{Receipt}
use Rattle.model.specs.declared.Submission.{Submission}
use Rattle.cells.proofs.Regions.{length-table}
use Rattle.rules.specs.Log.{took_effect}
use Rattle.rules.specs.Protocol.{Item, ItemObserve, ItemExecute, ItemFallback, ItemRecord, Input, Calls, Replies, Reads, Reading, Phase, Reaction, effect, apply, react}
use Rattle.rules.specs.Protocol as Protocol
use Rattle.state.specs.State.{Hand, Asked, item_at, item_of, output_of}
use Rattle.state.specs.declared.Answer.{Answer}
use Rattle.state.specs.declared.Awaited.{Awaited}
use Rattle.state.specs.declared.Carrying.{Carrying}
use Rattle.state.specs.declared.Falling.{Falling}
use Rattle.state.specs.declared.Waiting.{Waiting}
use Rattle.decide_reply.specs.Replies.{observation_if}
use Rattle.decide_start.specs.Starts.{Listing, start_on}
use Rattle.decide_start.specs.declared.Listed.{Listed}
use Rattle.std.specs.Prelude.{Option}
use Rattle.format.specs.Decode.{Record, Lists, Starts, Feeds, Malformed, capability_of, turn_of, reading_of, checked_kind, record_of}
use Rattle.format.specs.declared.ReadingKind.{ReadingKind}
use Rattle.format.specs.declared.RecordKind.{RecordKind}
use Rattle.format.specs.declared.TurnKind.{TurnKind}
use Rattle.format.specs.declared.TurnKind.TheVariants as Turn
use Rattle.format.specs.Encode.{padded, item_words, encode}
use Rattle.rows.proofs.Codes.{below_less}
use Rattle.runtime.specs.declared.Runtime.{Runtime}
use Rattle.runtime.specs.Runtimes.{state_in, hand_in, asked_in}
use Rattle.runtime.specs.Stages.{phase_in, RuntimeSound, Moves}
use Rattle.layout.specs.Layout.{runtime_in, listing_in}
use Rattle.lives.proofs.Lent.{away}
use Rattle.host_calls.specs.Calls.{Steps}
use Rattle.host_start.specs.Starts.{ListsOne, Makes}
use Rattle.host_records.specs.Records.{step, told, answer_words}
use Rattle.host_records.specs.Standings.{ReadsAs, Says, Answered, Goes, Takes}
use Rattle.host_records.specs.declared.Taken.{Taken}

-- items --------------------------------------------------------------------------------------------------------------------

-- the item by what is looked up for it
unfoldable pub item_by : Awaited → Falling → Capability → List ℤ → Receipt → Item
item_by Awaited.Nothing f c ps r = ItemRecord r
item_by Awaited.ObserveBefore f c ps r = ItemObserve c.resource
item_by Awaited.Execute f c ps r = ItemExecute c.id ps
item_by Awaited.ObserveAfter f c ps r = ItemObserve c.resource
item_by Awaited.Fallback f c ps r = ItemFallback f.axis f.reason
item_by Awaited.Record f c ps r = ItemRecord r

item-by : (a : Awaited) (h : Hand) (q : Asked) → item_by a h.falling h.order.capability q.submission.action.parameters h.receipt ≡ item_at a h q
unfolding item_by item_at
item-by Awaited.Nothing h q = refl
item-by Awaited.ObserveBefore h q = refl
item-by Awaited.Execute h q = refl
item-by Awaited.ObserveAfter h q = refl
item-by Awaited.Fallback h q = refl
item-by Awaited.Record h q = refl

pub item-put : (h : Runtime) (n : ℕ) {waiting : Waiting} {carrying : Carrying} {capability : Capability} {submission : Submission} {falling : Falling} {slot : ℕ}
    {receipt : Receipt} {a : Awaited} {r : List ℕ} → waiting ≡ h.waiting → carrying ≡ h.carrying
    → capability ≡ get_or h.capabilities carrying.at no_capability → submission ≡ h.submission → falling ≡ h.falling → slot ≡ h.slot
    → receipt ≡ get_or h.slots slot no_receipt → waiting.awaited ≡ a
    → r ≡ item_words n (item_by a falling capability submission.action.parameters receipt) → r ≡ item_words n (item_of (state_in h))
item-put h n w c k m f p x t e =
    rw (e, sym t, w, f, k, c, m, x, p) (ap (item_words n) (item-by h.waiting.awaited (hand_in h) (asked_in h)))

-- what is seen -------------------------------------------------------------------------------------------------------------

seen_if : (b : Bool) (o : Observation) → observation_if (cond b Present Absent) o ≡ cond b (Some o) None
seen_if true o = refl
seen_if false o = refl

pub seen_as : {p : Presence} {b b' : Bool} {o o' : Observation} → p ≡ cond b Present Absent → b ≡ b' → o ≡ o' → observation_if p o ≡ cond b' (Some o') None
seen_as {b' = b'} {o' = o'} e f g = rw (e, f, g) (seen_if b' o')

-- a step by another input that is the same
pub steps-at : {A : Type 0} (f : A → Input) {a b : A} {w w' : List ℕ} {r : Answer} → a ≡ b → Steps w w' r (f a) → Steps w w' r (f b)
steps-at f {w = w} {w' = w'} {r = r} e s = subst (λ x. Steps w w' r (f x)) e s

-- records ------------------------------------------------------------------------------------------------------------------

-- what is fed, and whether anything is
abbrev pub fed_or : Input → Record → Input
fed_or x (Lists c) = x
fed_or x (Starts c b n f) = x
fed_or x (Feeds y) = y
fed_or x Malformed = x

abbrev pub is_fed : Record → Bool
is_fed (Lists c) = false
is_fed (Starts c b n f) = false
is_fed (Feeds y) = true
is_fed Malformed = false

abbrev is_reading : Input → Bool
is_reading (Calls c) = false
is_reading (Replies r) = false
is_reading (Reads q) = true

-- a call or a reply is no reading
pub no-reading : (k : TurnKind) (ws : List ℕ) → is_reading (turn_of k ws) ≡ false
unfolding turn_of
no-reading Turn.Tick ws = refl
no-reading Turn.UpdateState ws = refl
no-reading Turn.EmergencyStop ws = refl
no-reading Turn.PollEstop ws = refl
no-reading Turn.RecoverLocal ws = refl
no-reading Turn.Acquire ws = refl
no-reading Turn.Renew ws = refl
no-reading Turn.Cancel ws = refl
no-reading Turn.Submit ws = refl
no-reading Turn.Observed ws = refl
no-reading Turn.Executed ws = refl
no-reading Turn.FellBack ws = refl
no-reading Turn.Recorded ws = refl

abbrev is_read : Record → Bool
is_read (Lists c) = true
is_read (Starts c b n f) = true
is_read (Feeds y) = true
is_read Malformed = false

-- where a reaction leaves the words, and its answer
answered : {w' r : List ℕ} {answer : Answer} {l : List Capability} {x y : Reaction} → (RuntimeSound (runtime_in w') → r ≡ encode (output_of answer (state_in (runtime_in w'))))
    → Listing (listing_in w') l → Moves (runtime_in w') answer x → x ≡ y → Answered w' r (told l y)
unfolding told answer_words
answered e n m p =
    record {
      words = e m.sound ∙ ap encode m.output ∙ ap (λ (z : Reaction). encode z.output) p;
      stands = record { listing = n; phase = m.phase ∙ ap (λ (z : Reaction). z.phase) p };
      sound = m.sound;
    }

goes-fed : {w w' r : List ℕ} {answer : Answer} {i : Input} → Steps w w' answer i → is_reading i ≡ false
    → (RuntimeSound (runtime_in w') → r ≡ encode (output_of answer (state_in (runtime_in w')))) → Goes w w' r (Feeds i)
unfolding step
goes-fed {w} {w'} {answer = answer} {i = i} s turns e =
    record {
      first = s.same.first;
      long = s.same.long;
      unread = λ q. absurd (false≢true (sym (ap is_read q)));
      read = λ x q. absurd (false≢true (sym turns ∙ ap (λ (y : Record). is_reading (fed_or i y)) q));
      left =
          λ k y q z.
          s.unaltered k (away answer (state_in (runtime_in w')) (ap took_effect (s.moves k).output ∙ (ap (λ (j : Input). took_effect (react (phase_in (runtime_in w)) j).output) (ap (fed_or i) q) ∙ z)));
      answers =
          λ k x h. answered e (subst (λ (y : Listed). Listing y x.listed) (sym s.same.listed) h.listing) (s.moves k)
          (ap (λ (p : Phase). react p i) h.phase);
    }

-- whatever the words hold, something is listed in them
some-listing : (s : Listed) → length s.records ≡ 17 → s.count < 18 → Listing s (take s.count s.records)
some-listing s n h =
    let k = length-take-le s.count s.records (omega (arith, n, h)) in
    record {
      room = n;
      counted = omega (arith, k, h);
      same = sym (take_all 17 (take s.count s.records) (omega (arith, k, h)));
    }

pub listing-there : (w : List ℕ) → Listing (listing_in w) (take (listing_in w).count (listing_in w).records)
unfolding listing_in
listing-there w = some-listing (listing_in w) (length-table capability_of w 2221 14 17) (below_less 18 _ (omega arith))

goes-begun : {w w' r : List ℕ} {answer : Answer} {config config' : Config} (boot time : ℕ) {flags flags' : ℕ}
    → ((l : List Capability) → Listing (listing_in w) l → Makes w w' answer (Protocol.start (start_on config l boot time flags)))
    → (RuntimeSound (runtime_in w') → r ≡ encode (output_of answer (state_in (runtime_in w')))) → config ≡ config' → flags ≡ flags'
    → Goes w w' r (Starts config' boot time flags')
unfolding step
goes-begun {w} boot time m e f g =
    let any = m _ (listing-there w) in
    record {
      first = any.first;
      long = any.long;
      unread = λ q. absurd (false≢true (sym (ap is_read q)));
      read = λ y q. absurd (false≢true (ap is_fed q));
      left = λ k y q. absurd (false≢true (ap is_fed q));
      answers = λ k x h. let made = m x.listed h.listing in answered e made.listed made.moves (rw (f, g));
    }

goes-listed : {w w' r : List ℕ} {c : Capability} → ListsOne c w w' → r ≡ padded 1 0 [] → Goes w w' r (Lists c)
unfolding step answer_words
goes-listed m e =
    record {
      first = m.first;
      long = m.long;
      unread = λ q. absurd (false≢true (sym (ap is_read q)));
      read = λ y q. absurd (false≢true (ap is_fed q));
      left = λ k y q. absurd (false≢true (ap is_fed q));
      answers =
          λ k x h.
          record {
            words = e;
            stands = record { listing = m.listed x.listed h.listing; phase = ap phase_in m.runtime ∙ h.phase };
            sound = subst RuntimeSound (sym m.runtime) k;
          };
    }

goes-shown : {w r : List ℕ} {q : Reading} → (RuntimeSound (runtime_in w) → ReadsAs w r q) → Goes w w r (Feeds (Reads q))
unfolding step told answer_words react apply effect
goes-shown {w} {r} {q} e =
    record {
      first = refl;
      long = refl;
      unread = λ x. absurd (false≢true (sym (ap is_read x)));
      read = λ _ _. refl;
      left = λ _ _ _ _. refl;
      answers =
          λ k x h.
          record {
            words = e k ∙ ap (λ (p : Phase). encode (Protocol.shown q (Protocol.book_in p))) h.phase;
            stands = record { listing = h.listing; phase = h.phase };
            sound = k;
          };
    }

goes-unread : {w r : List ℕ} → r ≡ padded 64 0 [] → Goes w w r Malformed
unfolding step answer_words
goes-unread e =
    record {
      first = refl;
      long = refl;
      unread = λ _. (e, refl);
      read = λ _ _. refl;
      left = λ _ _ _ _. refl;
      answers = λ k x h. record { words = e; stands = h; sound = k };
    }

-- a record taken ------------------------------------------------------------------------------------------------------------

pub takes-fed : {w w' ws : List ℕ} {answer : Answer} {i : Input} → Steps w w' answer i → is_reading i ≡ false → Takes w w' (Taken.Answered answer) ws (Feeds i)
unfolding Says
takes-fed s turns = record { long = s.same.long; goes = λ r e. goes-fed s turns e }

pub takes-begun : {w w' ws : List ℕ} {answer : Answer} {config config' : Config} (boot time : ℕ) {flags flags' : ℕ}
    → ((l : List Capability) → Listing (listing_in w) l → Makes w w' answer (Protocol.start (start_on config l boot time flags))) → config ≡ config' → flags ≡ flags'
    → Takes w w' (Taken.Answered answer) ws (Starts config' boot time flags')
unfolding Says
takes-begun {w} boot time m f g = record { long = (m _ (listing-there w)).long; goes = λ r e. goes-begun boot time m e f g }

pub takes-listed : {w w' ws : List ℕ} {c : Capability} → ListsOne c w w' → Takes w w' Taken.Listed ws (Lists c)
unfolding Says answer_words
takes-listed m = record { long = m.long; goes = λ r e. goes-listed m e }

pub takes-shown : {w : List ℕ} (ws : List ℕ) (kind : ReadingKind) → Takes w w (Taken.Read kind) ws (Feeds (Reads (reading_of kind ws)))
unfolding Says
takes-shown ws kind = record { long = refl; goes = λ r e. goes-shown e }

pub takes-unread : {w ws : List ℕ} → Takes w w Taken.Unread ws Malformed
unfolding Says answer_words
takes-unread = record { long = refl; goes = λ r e. goes-unread e }

-- .. by its kind
pub takes_of : {w w' : List ℕ} {d : Taken} (ws : List ℕ) {k j : Option RecordKind} {y : Record} → k ≡ checked_kind ws → k ≡ j → y ≡ record_of j ws → Takes w w' d ws y
    → Takes w w' d ws (record_of (checked_kind ws) ws)
takes_of {w} {w'} {d} ws e f g h = subst (Takes w w' d ws) (g ∙ ap (λ (i : Option RecordKind). record_of i ws) (sym f ∙ e)) h
