-- What a host reads off the words that it is given is the rules' output: of an item, of an answered lease or receipt, of a refusal, and of a reading. Assumes nothing.
use Prim.Native.Nat.{ℕ}
use mathlib.Core.Bool.{Bool, true, false}
use mathlib.Core.List.{List, [], ◌∷◌}
use Rattle.std.specs.Prelude.{Option, Some, None}
use Rattle.std.proofs.lemmas.Option.{none-some}
use mathlib.Core.Path.{◌≡◌, refl, sym, ap, ◌∙◌, subst}
use Rattle.model.specs.Reasons.{number}
use Rattle.model.specs.declared.Reason.{Reason}
use Rattle.rules.specs.Book.{Book}
use Rattle.rules.specs.Interaction.{Interaction, Done, Observe, Execute, Fallback, Record, Refused}
use Rattle.rules.specs.Protocol.{Call, Reply, Observed, Executed, FellBack, Recorded, Input, Calls, Replies, Reads, Reading, Item, ItemObserve, ItemExecute, ItemFallback, ItemRecord, Output, Started, StartRefused, Hands, Answers, Reminds, Refuses, Shows, NoRuntime, Start, Reaction, Wait, Phase, Starting, Gone, Idle, Waiting, begin, proceed, start_from, item_of as item_on, book_in, awaited_in, shown, called, resume, resumed, replied, start_replied, effect, apply, react}
use Rattle.state.specs.State.{output_of, item_of}
use Rattle.state.specs.declared.Answer.{Answer}
use Rattle.state.specs.declared.Answer.TheVariants as Answer
use Rattle.cells.specs.Cells.{part}
use Rattle.cells.proofs.Regions.{part-here}
use Rattle.format.specs.Decode.{Feeds}
use Rattle.format.specs.Back.{output_in, Fits}
use Rattle.format.proofs.Back.{told_back}
use Rattle.runtime.specs.Runtimes.{state_in}
use Rattle.runtime.specs.Stages.{phase_in, RuntimeSound, Moves}
use Rattle.layout.specs.Layout.{runtime_in}
use Rattle.lives.proofs.Lent.{reads}
use Rattle.host.specs.Host.{lack_of, number_of, item_output, Asks, Tells, ShowsOf, SpeaksOf, Refusal}
use Rattle.host.proofs.Fits.{fits-answered, fits-shown, fits-item}
use Rattle.host.proofs.Lent.{fault-none, whole_of, first_of, lent-room}
use Rattle.host.proofs.Theorem.{Fit, same_answer}

-- words read back --------------------------------------------------------------------------------------------------------

-- of any output that its record holds: whoever is told it reads it
pub told-back-of : {w out out' : List ℕ} {r : ℕ} {x : Output} → Tells w out out' r x → lack_of w out ≡ 0 → RuntimeSound (runtime_in w) → Fits x
    → output_in (part out' 0 26) ≡ Some x
told-back-of {w} {out} {x = x} p z h f =
    let t = p.told z in
    let k = t.writes in
    ap (λ (o : List ℕ). output_in (part o 0 26)) k.words
    ∙ (ap output_in (part-here out 0 t.words 26 k.room (lent-room w out (sym z) refl) ∙ t.says h) ∙ told_back x f)

-- an item that comes out is awaited from then on -------------------------------------------------------------------------

-- handed out, or again
abbrev item_in : Output → Option Item
item_in Started = None
item_in (StartRefused n) = None
item_in (Hands x) = Some x
item_in (Answers a) = None
item_in (Reminds n x) = Some x
item_in (Refuses n) = None
item_in (Shows v) = None
item_in NoRuntime = None

-- what comes out with a phase names the item that this phase awaits, or none
abbrev Names : Reaction → Type 0
Names x = awaited_in x.phase ≡ item_in x.output

proceeds : (t : Interaction) → Names (proceed t)
unfolding proceed item_on
proceeds (Done b a) = refl
proceeds (Observe axis b k) = refl
proceeds (Execute c p b k) = refl
proceeds (Fallback axis r b k) = refl
proceeds (Record r b k) = refl

starts : (s : Start) (axes : List ℕ) (good : Bool) → Names (start_from s axes good)
unfolding start_from
starts s (axis ∷ rest) good = refl
starts s [] true = refl
starts s [] false = refl

calls : (p : Phase) (c : Call) → Names (react p (Calls c))
unfolding react apply effect called
calls (Starting s axis rest good) c = refl
calls Gone c = refl
calls (Idle b) c = proceeds (begin c b)
calls (Waiting w) c = refl

replies : (p : Phase) (r : Reply) → Names (react p (Replies r))
unfolding react apply effect replied start_replied resumed
replies (Starting s axis rest good) (FellBack ok) = starts s rest _
replies (Starting s axis rest good) (Observed seen) = refl
replies (Starting s axis rest good) (Executed ok) = refl
replies (Starting s axis rest good) Recorded = refl
replies Gone r = refl
replies (Idle b) r = refl
replies (Waiting w) r = go (resume w r)
  where
    go : (o : Option Interaction) → Names (apply (Waiting w) (resumed o (item_on w)))
    go (Some t) = proceeds t
    go None = refl

nothing-shown : (q : Reading) (o : Option Book) → item_in (shown q o) ≡ None
unfolding shown
nothing-shown q None = refl
nothing-shown q (Some b) = refl

awaited-after : (p : Phase) (i : Input) (x : Item) → item_in (react p i).output ≡ Some x → awaited_in (react p i).phase ≡ Some x
unfolding react apply effect
awaited-after p (Calls c) x e = calls p c ∙ e
awaited-after p (Replies r) x e = replies p r ∙ e
awaited-after p (Reads q) x e = absurd (none-some x (sym (nothing-shown q (book_in p)) ∙ e))

-- whichever the item is, it is told as itself
as-itself : (x : Item) → item_output (Some x) ≡ Hands x
as-itself (ItemObserve axis) = refl
as-itself (ItemExecute capability parameters) = refl
as-itself (ItemFallback axis reason) = refl
as-itself (ItemRecord r) = refl

-- a call or a reply, and what is told of its answer ------------------------------------------------------------------------

-- what the rules say to an input on lent words
abbrev pub said : List ℕ → Input → Output
said w i = (react (phase_in (runtime_in w)) i).output

module _ {w w' : List ℕ} {i : Input} (h : Fit w) where
  -- by the number of the answer
  moved : {r : ℕ} (answer : Answer) → r ≡ number_of answer → Asks w w' r (Feeds i) → Moves (runtime_in w') answer (react (phase_in (runtime_in w)) i)
  moved answer n p =
      let s = p.served h.lent i refl in
      subst (λ (a : Answer). Moves (runtime_in w') a (react (phase_in (runtime_in w)) i)) (same_answer s.answer answer (sym s.number ∙ n)) (s.steps.moves h.sound)

  -- an answer that comes with the item of the state: this item is told
  item-of : {out out' : List ℕ} {r k : ℕ} (answer : Answer) → r ≡ number_of answer → Asks w w' r (Feeds i)
      → item_in (output_of answer (state_in (runtime_in w'))) ≡ Some (item_of (state_in (runtime_in w')))
      → Tells w' out out' k (item_output (awaited_in (phase_in (runtime_in w')))) → lack_of w' out ≡ 0
      → output_in (part out' 0 26) ≡ Some (Hands (item_of (state_in (runtime_in w'))))
  item-of answer n p own t z =
      let m = moved answer n p in
      let e = ap awaited_in m.phase ∙ awaited-after (phase_in (runtime_in w)) i _ (ap item_in (sym m.output) ∙ own) in
      told-back-of t z m.sound (fits-item w') ∙ ap Some (ap item_output e ∙ as-itself _)

  -- 20: the item that this step hands out, and no other
  pub item-told : {out out' : List ℕ} {k : ℕ} → Asks w w' 20 (Feeds i) → Tells w' out out' k (item_output (awaited_in (phase_in (runtime_in w')))) → lack_of w' out ≡ 0
      → output_in (part out' 0 26) ≡ Some (said w i)
  unfolding number_of output_of
  item-told p t z = item-of Answer.Item refl p refl t z ∙ ap Some (moved Answer.Item refl p).output

  -- 111 and 113: the item whose reply is awaited still
  pub reminder-told : {out out' : List ℕ} {k : ℕ} → Asks w w' 111 (Feeds i) → Tells w' out out' k (item_output (awaited_in (phase_in (runtime_in w')))) → lack_of w' out ≡ 0
      → (x : Item) × ((output_in (part out' 0 26) ≡ Some (Hands x)) × (said w i ≡ Reminds 111 x))
  unfolding number_of output_of
  reminder-told p t z = (_, (item-of Answer.ReplyAwaited refl p refl t z, sym (moved Answer.ReplyAwaited refl p).output))

  pub other-told : {out out' : List ℕ} {k : ℕ} → Asks w w' 113 (Feeds i) → Tells w' out out' k (item_output (awaited_in (phase_in (runtime_in w')))) → lack_of w' out ≡ 0
      → (x : Item) × ((output_in (part out' 0 26) ≡ Some (Hands x)) × (said w i ≡ Reminds 113 x))
  unfolding number_of output_of
  other-told p t z = (_, (item-of Answer.OtherAwaited refl p refl t z, sym (moved Answer.OtherAwaited refl p).output))

  -- an answer that is told with what it speaks of
  spoken-told : {out out' : List ℕ} {r k : ℕ} (answer : Answer) → r ≡ number_of answer → Asks w w' r (Feeds i) → SpeaksOf w' out out' k answer → lack_of w' out ≡ 0
      → output_in (part out' 0 26) ≡ Some (said w i)
  spoken-told answer n p t z =
      let m = moved answer n p in
      told-back-of t z m.sound (fits-answered answer w') ∙ ap Some m.output

  -- 35: the lease
  pub lease-told : {out out' : List ℕ} {k : ℕ} → Asks w w' 35 (Feeds i) → SpeaksOf w' out out' k Answer.Leased → lack_of w' out ≡ 0
      → output_in (part out' 0 26) ≡ Some (said w i)
  unfolding number_of
  lease-told = spoken-told Answer.Leased refl

  -- 37: the receipt
  pub receipt-told : {out out' : List ℕ} {k : ℕ} → Asks w w' 37 (Feeds i) → SpeaksOf w' out out' k Answer.Submitted → lack_of w' out ≡ 0
      → output_in (part out' 0 26) ≡ Some (said w i)
  unfolding number_of
  receipt-told = spoken-told Answer.Submitted refl

  -- 36: the reason, by its number
  pub refusal-told : {k : ℕ} → Asks w w' 36 (Feeds i) → Refusal w' k → (reason : Reason) × ((k ≡ number reason) × (said w i ≡ Answers (Refused reason)))
  unfolding number_of
  refusal-told p t =
      let s = (p.served h.lent i refl).steps.same in
      let q = t.told (sym (fault-none w' (s.long ∙ whole_of w h.lent) (s.first ∙ first_of w h.lent))) in
      (q.reason, (q.is, sym (moved Answer.Refused refl p).output ∙ q.says))

-- a reading --------------------------------------------------------------------------------------------------------------

pub reading-told : {w out out' : List ℕ} {k : ℕ} (q : Reading) → Fit w → ShowsOf w out out' k q → lack_of w out ≡ 0
    → output_in (part out' 0 26) ≡ Some (said w (Reads q))
reading-told {w} q h t z =
    told-back-of t z h.sound (fits-shown q w) ∙ ap (λ (r : Reaction). Some r.output) (sym (reads (phase_in (runtime_in w)) q))
