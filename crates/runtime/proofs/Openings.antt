-- The runtime that a start makes: its list, its empty tables, and what the checks and the first trial leave. Assumes nothing.
use Prim.Native.Nat.{ℕ, zero, suc, ◌+◌, ◌<◌, min}
use mathlib.Core.Bool.{Bool, true, false, false≢true}
use mathlib.Core.List.{List, [], ◌∷◌, map}
use mathlib.Core.Logic.{◌≢◌, inl}
use Rattle.std.specs.Prelude.{Option, Some, None}
use Rattle.std.proofs.lemmas.Option.{none-some}
use mathlib.Core.Path.{◌≡◌, refl, sym, ap, ◌∙◌, subst}
use native.Mathlib.Omega.{arith}
use borrow.Author.Tests.{lt-ltb, ltb-true, ltb-false}
use lib.Dec.{ltb}
use lib.ListN.{length, get_or, take, replicate, length-take}
use lib.Seq.{take_all, take-take, length-take-le, get_or-take}
use Rattle.model.specs.declared.ActiveSlot.{ActiveSlot}
use Rattle.model.specs.declared.Capability.{Capability}
use Rattle.model.specs.declared.Config.{Config}
use Rattle.model.specs.declared.LeaseSlot.{LeaseSlot}
use Rattle.model.specs.declared.Reason.TheVariants.{Startup}
use Rattle.model.specs.Records.{no_lease, no_active, no_capability, no_replay}
use Rattle.model.specs.Soundness.{sound, axis_used}
use Rattle.model.proofs.Meaning.{sound-axis}
use Rattle.receipts.specs.Indexes.{Opens}
use Rattle.replay.specs.Ring as Ring
use Rattle.replay.specs.Promises as Replay
use Rattle.replay.proofs.Kept.{emptied}
use Rattle.rules.specs.Admission.{is_some}
use Rattle.rules.specs.Lists.{Mem}
use Rattle.rules.specs.Protocol.{Start, Reaction, Hands, ItemFallback, StartRefused, Starting as StartingPhase, Gone as GonePhase, opening, refused_start, start_from, start_unless, start}
use Rattle.rules.specs.Rules.{used_axes}
use Rattle.rules.specs.SoundStart.{SoundStart}
use Rattle.rules.proofs.Records.{means-sound}
use Rattle.rules.proofs.Soundness.{sound-start}
use Rattle.state.specs.Axes.{up_from, axes_from, used_from, first_used}
use Rattle.state.specs.State.{lease_in, active_in, Tables, Asked, Hand, State, book_of, item_at, output_of, Checked, count_of, carries, Sound}
use Rattle.state.specs.declared.Answer.{Answer}
use Rattle.state.specs.declared.Awaited.TheVariants.{Nothing, Fallback}
use Rattle.state.specs.declared.Falling.{Falling}
use Rattle.state.specs.declared.Fixed.{Fixed}
use Rattle.state.specs.declared.Numbers.{Numbers}
use Rattle.state.specs.declared.Waiting.{Waiting}
use Rattle.state.proofs.Axes.{used-first, used-some}
use Rattle.decide_start.specs.declared.Listed.{Listed}
use Rattle.decide_start.specs.declared.Stage.{Stage}
use Rattle.decide_start.specs.declared.Starting.{Starting}
use Rattle.decide_start.specs.declared.Trial.{Trial}
use Rattle.decide_start.specs.Starts.{Listing, start_on, refusal_of, Fixes, numbers_at, ended_by, tried_at, first_trial}
use Rattle.runtime.specs.declared.Places.{Places}
use Rattle.runtime.specs.declared.Runtime.{Runtime}
use Rattle.runtime.specs.Promises.{Kept}
use Rattle.runtime.specs.Runtimes.{stores_of, ring_in, tables_in, asked_in, hand_in, state_in, book_on}
use Rattle.runtime.specs.Stages.{start_in, trying_in, phase_at_stage, SoundAt, starting_on, Empties, Moves}

-- the list ---------------------------------------------------------------------------------------------------------------

-- the first 17 of a list say as much as all of it
first-17 : (l : List Capability) → take 17 (take (min 17 (length l)) l) ≡ take 17 l
first-17 l = by (ltb 17 (length l)) refl
  where
    by : (t : Bool) → ltb 17 (length l) ≡ t → take 17 (take (min 17 (length l)) l) ≡ take 17 l
    by true h =
        let m : min 17 (length l) ≡ 17 = omega (arith, ltb-true 17 (length l) h) in
        rw m (take-take 17 17 l (omega arith))
    by false h = ap (take 17) (take_all (min 17 (length l)) l (omega (arith, ltb-false 17 (length l) h)))

pub listing-enough : (s : Listed) (l : List Capability) → Listing s (take (min 17 (length l)) l) → Listing s l
listing-enough s l k =
    let e = length-take (min 17 (length l)) l in
    let d = k.counted in
    record { room = k.room; counted = d ∙ ap (min 17) e ∙ omega arith; same = k.same ∙ first-17 l }

-- empty tables -----------------------------------------------------------------------------------------------------------

pub empties : (p : Places) → Opens p.index → length p.rejected ≡ 65 → length p.others ≡ 65 → Empties p
empties p o l m =
    record {
      rejected = l;
      others = m;
      sound =
          λ slots room. o.sound (stores_of p slots)
          (record {
            rejections = length-take-le 64 p.rejected (omega (arith, l));
            others = length-take-le 64 p.others (omega (arith, m));
            receipts = length-take-le 64 slots (omega (arith, room));
          });
      nothing = λ slots. o.nothing (stores_of p slots);
    }

none-at : {A : Type 0} (n i : ℕ) → get_or {A = Option A} (replicate n None) i None ≡ None
none-at zero i = refl
none-at (suc n) zero = refl
none-at (suc n) (suc i) = none-at n i

none-there : {A : Type 0} (l : List (Option A)) → l ≡ replicate 8 None → (i : ℕ) (a : A) → get_or l i None ≡ Some a → ⊥
none-there {A} l n i a e = none-some _ (sym (ap (λ (m : List (Option A)). get_or m i None) n ∙ none-at 8 i) ∙ e)

-- the book that nothing has happened in
opens-with : (f : Fixed) (n : Numbers) (t : Tables) (c : Config) (time flags : ℕ) → n ≡ numbers_at c time flags → f.config ≡ c → t.leases ≡ replicate 8 None
    → t.active ≡ replicate 8 None → t.replay ≡ [] → t.receipts ≡ []
    → book_of f n t ≡ opening (record { config = f.config; capabilities = t.capabilities; boot_id = f.boot_id; now = n.last_tick; flags = n.flags })
unfolding book_of opening
opens-with f n t c time flags en ec el ea ep er = rw (en, ec, el, ea, ep, er)

-- what the checks and the trial say --------------------------------------------------------------------------------------

refusal-says : (a : Answer) (s : State) (n : ℕ) → refusal_of a ≡ Some n → output_of a s ≡ StartRefused n
unfolding output_of
refusal-says Answer.Returned s n e = cc
refusal-says Answer.Unraised s n e = cc
refusal-says Answer.Raised s n e = cc
refusal-says Answer.Succeeded s n e = cc
refusal-says Answer.Leased s n e = cc
refusal-says Answer.Refused s n e = cc
refusal-says Answer.Submitted s n e = cc
refusal-says Answer.Item s n e = cc
refusal-says Answer.ReplyAwaited s n e = cc
refusal-says Answer.OtherAwaited s n e = cc
refusal-says Answer.NoReplyAwaited s n e = cc
refusal-says Answer.NoRuntime s n e = cc
refusal-says Answer.Started s n e = cc
refusal-says Answer.InvalidBootId s n e = cc
refusal-says Answer.InvalidConfig s n e = cc
refusal-says Answer.InvalidCapability s n e = cc
refusal-says Answer.DuplicateCapability s n e = cc
refusal-says Answer.StartupFailed s n e = cc

trial-refused : (a : Answer) (used : List Bool) (n : ℕ) → refusal_of a ≡ Some n → first_trial a used ≡ ended_by Stage.Gone false a
unfolding is_some
trial-refused a used n e = rw e

trial-tried : (a : Answer) (used : List Bool) → refusal_of a ≡ None → first_used used 0 < 8 → first_trial a used ≡ tried_at (first_used used 0) true
unfolding is_some
trial-tried a used e h = rw (e, lt-ltb (first_used used 0) 8 h)

start-refused : (s : Start) (n : ℕ) → refused_start s ≡ Some n → start s ≡ record { output = StartRefused n; phase = GonePhase }
unfolding start start_unless
start-refused s n e = rw e

start-passed : (s : Start) → refused_start s ≡ None → start s ≡ start_from s (used_from s.capabilities 0) true
unfolding start start_unless used_axes used_from axes_from up_from
start-passed s e = rw e

starts-on : (s : Start) (axes : List ℕ) (axis : ℕ) (rest : List ℕ) (good : Bool) → axes ≡ axis ∷ rest
    → start_from s axes good ≡ record { output = Hands (ItemFallback axis Startup); phase = StartingPhase s axis rest good }
unfolding start_from
starts-on s axes axis rest good e = rw e

item-tried : (h : Hand) (q : Asked) (axis : ℕ) → h.waiting.awaited ≡ Fallback → h.falling ≡ starting_on axis
    → item_at h.waiting.awaited h q ≡ ItemFallback axis Startup
unfolding item_at
item-tried h q axis ew ef = rw (ew, ef)

first-axis : (l : List Capability) → l ≢ [] → ((c : Capability) → Mem c l → sound c ≡ true) → (get_or l 0 no_capability).resource < 8
first-axis [] h e = absurd (h refl)
first-axis (c ∷ l) h e = omega (arith, sound-axis c (e c (inl refl)))

-- a runtime as it is made ------------------------------------------------------------------------------------------------

pub record Fresh (c : Config) (s : Listed) (boot time word : ℕ) (trial : Trial) (rt : Runtime) : Type 0 where
  pub starting : rt.starting ≡ trial.starting
  pub waiting : rt.waiting ≡ trial.waiting
  pub numbers : rt.numbers ≡ numbers_at c time word
  pub cursor : rt.cursor ≡ 0
  pub slot : rt.slot ≡ 64
  pub falling : rt.falling ≡ starting_on trial.axis
  pub at : rt.carrying.at ≡ 0
  pub fixed : Fixes c s boot rt.fixed
  pub places : Empties rt.places
  pub leases : rt.leases ≡ replicate 9 no_lease
  pub active : rt.active ≡ replicate 9 no_active
  pub capabilities : rt.capabilities ≡ s.records
  pub replay : rt.replay ≡ replicate 33 no_replay
  pub slots : length rt.slots ≡ 65

module _ {c : Config} {s : Listed} {boot time word : ℕ} {trial : Trial} (rt : Runtime) (f : Fresh c s boot time word trial rt) where
  ring-is : ring_in rt ≡ record { entries = replicate 32 no_replay; cursor = 0 }
  ring-is = rw (f.replay, f.cursor)

  kept_fresh : length s.records ≡ 17 → Kept rt
  kept_fresh room =
      let n = f.fixed.count in
      let p = f.slot in
      let q = f.at in
      record {
        sized =
            record {
              leases = ap length f.leases;
              active = ap length f.active;
              capabilities = ap length f.capabilities ∙ room;
              replay = ap length f.replay;
              rejected = f.places.rejected;
              others = f.places.others;
              slots = f.slots;
              lease = ap (λ (l : List LeaseSlot). lease_in (get_or l 8 no_lease)) f.leases;
              order = ap (λ (l : List ActiveSlot). active_in (get_or l 8 no_active)) f.active;
            };
        placed =
            record {
              count = omega (arith, n);
              slot = omega (arith, p);
              capability = omega (arith, q);
              replay = subst Replay.Sound (sym ring-is) emptied.sound;
              receipts = f.places.sound rt.slots f.slots;
            };
      }

  no-leases : (tables_in rt).leases ≡ replicate 8 None
  no-leases = ap (λ (l : List LeaseSlot). map lease_in (take 8 l)) f.leases

  no-orders : (tables_in rt).active ≡ replicate 8 None
  no-orders = ap (λ (l : List ActiveSlot). map active_in (take 8 l)) f.active

  no-entries : (tables_in rt).replay ≡ []
  no-entries = ap Ring.list_of ring-is ∙ emptied.list

  book-fresh : book_on rt ≡ opening (start_in rt)
  book-fresh =
      opens-with rt.fixed rt.numbers (tables_in rt) c time word f.numbers f.fixed.config no-leases no-orders no-entries
      (f.places.nothing rt.slots)

  -- a list that is refused
  module _ (l : List Capability) (k : Listing s l) (a : Answer) (n : ℕ) (t : trial ≡ ended_by Stage.Gone false a) (e : refusal_of a ≡ Some n) where
    stage-gone : rt.starting.stage ≡ Stage.Gone
    stage-gone = ap (λ (x : Starting). x.stage) f.starting ∙ ap (λ (x : Trial). x.starting.stage) t

    awaits-nothing : rt.waiting.awaited ≡ Nothing
    awaits-nothing = ap (λ (x : Waiting). x.awaited) f.waiting ∙ ap (λ (x : Trial). x.waiting.awaited) t

    moves-gone : (x : Reaction) → x ≡ record { output = StartRefused n; phase = GonePhase } → Moves rt trial.answer x
    unfolding phase_at_stage SoundAt
    moves-gone x g =
        record {
          output = rw (t, g) (refusal-says a (state_in rt) n e);
          phase = ap (λ (z : Stage). phase_at_stage z rt) stage-gone ∙ sym (ap (λ (y : Reaction). y.phase) g);
          sound = record { kept = kept_fresh k.room; staged = subst (λ (z : Stage). SoundAt z rt) (sym stage-gone) awaits-nothing };
        }

  -- a list that passes
  module _ (l : List Capability) (k : Listing s l) (sane : SoundStart (start_on c l boot time word)) where
    count-is : rt.fixed.count ≡ s.count
    count-is =
        let n = f.fixed.count in
        let d = k.counted in
        let few = sane.few in
        omega (arith, n, d, few)

    list-is : (tables_in rt).capabilities ≡ l
    list-is = let few = sane.few in rw (count-is, f.capabilities, k.same) (take_all 17 l (omega (arith, few)))

    each-sound : (d : Capability) → Mem d l → sound d ≡ true
    each-sound d m = means-sound d (sane.records.each d m)

    checked-fresh : Checked (tables_in rt).capabilities rt.fixed.used
    checked-fresh =
        record {
          some = subst (λ (z : List Capability). z ≢ []) (sym list-is) sane.some;
          each = subst (λ (z : List Capability). (d : Capability) → Mem d z → sound d ≡ true) (sym list-is) each-sound;
          used = λ axis h. f.fixed.used axis h ∙ ap (λ (z : List Capability). axis_used (take rt.fixed.count z) axis) (sym f.capabilities);
        }

    some-listed : 0 < rt.fixed.count
    some-listed = by rt.fixed.count refl
      where
        by : (n : ℕ) → rt.fixed.count ≡ n → 0 < n
        by zero e = absurd (sane.some (sym list-is ∙ ap (λ (z : ℕ). take z rt.capabilities) e))
        by (suc n) e = omega arith

    on-axis : (hand_in rt).order.capability.resource < 8
    on-axis =
        rw f.at
        (rw (sym (get_or-take rt.fixed.count rt.capabilities 0 no_capability some-listed), list-is) (first-axis l sane.some each-sound))

    sound-fresh : rt.waiting.awaited ≡ Fallback → trial.axis < 8 → Sound (state_in rt)
    unfolding count_of
    sound-fresh w low =
        record {
          checked = checked-fresh;
          sized =
              record {
                leases = ap length no-leases;
                active = ap length no-orders;
                under = λ axis a e. absurd (none-there (tables_in rt).active no-orders axis a e);
              };
          counted =
              record {
                held = rw (f.numbers, no-leases);
                leases = λ axis a e. absurd (none-there (tables_in rt).leases no-leases axis a e);
                active = λ axis a e. absurd (none-there (tables_in rt).active no-orders axis a e);
              };
          falling = record { axis = rw f.falling low; at = rw f.falling (omega arith) };
          order = record { axis = on-axis; leased = λ e. absurd (false≢true (sym (ap carries w) ∙ e)) };
        }

    start_is : start_in rt ≡ start_on c l boot time word
    start_is = rw (f.fixed.config, f.fixed.boot_id, f.numbers, list-is)

    -- the first used axis is tried
    module _ (axis : ℕ) (first : axis ≡ first_used rt.fixed.used 0) (t : trial ≡ tried_at axis true) where
      low : axis < 8
      low = rw first (used-some checked-fresh)

      starting-is : rt.starting ≡ record { stage = Stage.Trying; good = true }
      starting-is = f.starting ∙ ap (λ (x : Trial). x.starting) t

      waits-fallback : rt.waiting.awaited ≡ Fallback
      waits-fallback = ap (λ (x : Waiting). x.awaited) f.waiting ∙ ap (λ (x : Trial). x.waiting.awaited) t

      falling-is : rt.falling ≡ starting_on axis
      falling-is = f.falling ∙ ap (λ (x : Trial). starting_on x.axis) t

      used-is : used_from l 0 ≡ axis ∷ used_from l (axis + 1)
      used-is = subst (λ (z : List Capability). used_from z 0 ≡ axis ∷ used_from z (axis + 1)) list-is (used-first checked-fresh 0 axis first low)

      trying-is : trying_in rt ≡ StartingPhase (start_on c l boot time word) axis (used_from l (axis + 1)) true
      trying-is = rw (start_is, falling-is, starting-is, list-is)

      moves-trying : (x : Reaction)
          → x ≡ record { output = Hands (ItemFallback axis Startup); phase = StartingPhase (start_on c l boot time word) axis (used_from l (axis + 1)) true }
          → Moves rt trial.answer x
      unfolding phase_at_stage SoundAt output_of
      moves-trying x g =
          let stage : rt.starting.stage ≡ Stage.Trying = ap (λ (z : Starting). z.stage) starting-is in
          record {
            output = rw (t, g) (ap Hands (item-tried (hand_in rt) (asked_in rt) axis waits-fallback falling-is));
            phase = ap (λ (z : Stage). phase_at_stage z rt) stage ∙ trying-is ∙ sym (ap (λ (y : Reaction). y.phase) g);
            sound =
                record {
                  kept = kept_fresh k.room;
                  staged =
                      subst (λ (z : Stage). SoundAt z rt) (sym stage)
                      (record {
                        opened =
                            record {
                              kept = kept_fresh k.room;
                              sound = sound-fresh waits-fallback (rw t low);
                              book = book-fresh;
                              reason = ap (λ (z : Falling). z.reason) falling-is;
                            };
                        awaited = waits-fallback;
                      });
                };
          }

  -- where a start leaves it
  pub moves-fresh : (a : Answer) → trial ≡ first_trial a rt.fixed.used → (l : List Capability) → Listing s l
      → refusal_of a ≡ refused_start (start_on c l boot time word) → Moves rt trial.answer (start (start_on c l boot time word))
  moves-fresh a t l k r = by (refused_start (start_on c l boot time word)) refl
    where
      by : (o : Option ℕ) → refused_start (start_on c l boot time word) ≡ o → Moves rt trial.answer (start (start_on c l boot time word))
      by (Some n) e =
          moves-gone l k a n (t ∙ trial-refused a rt.fixed.used n (r ∙ e)) (r ∙ e) (start (start_on c l boot time word))
          (start-refused (start_on c l boot time word) n e)
      by None e =
          let sane = sound-start (start_on c l boot time word) e in
          let axis = first_used rt.fixed.used 0 in
          let tried = t ∙ trial-tried a rt.fixed.used (r ∙ e) (used-some (checked-fresh l k sane)) in
          moves-trying l k sane axis refl tried (start (start_on c l boot time word))
          (start-passed (start_on c l boot time word) e
          ∙ starts-on (start_on c l boot time word) (used_from l 0) axis (used_from l (axis + 1)) true (used-is l k sane axis refl tried))
