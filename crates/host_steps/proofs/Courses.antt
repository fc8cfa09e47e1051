-- Courses over words: a decision made of what was looked up, and followed, goes where the rule says. Assumes nothing.
use Prim.Native.Nat.{ℕ}
use mathlib.Core.Bool.{Bool, true, false, not}
use mathlib.Core.List.{List}
use mathlib.Core.Path.{◌≡◌, sym, subst, ◌∙◌}
use lib.Dec.{T}
use lib.ListN.{get_or}
use Rattle.model.specs.declared.LeaseSlot.{LeaseSlot}
use Rattle.model.specs.Records.{no_lease}
use Rattle.rules.specs.Admission.{held_axis, first_failing, acquire_checks, renew_checks, validate}
use Rattle.rules.specs.Interaction.{Interaction, Done, Returned, Polled}
use Rattle.rules.specs.Protocol.{Reaction, proceed}
use Rattle.rules.specs.Rules.{emergency_stop, stop_time, recover, sense, canceled, tick, grant, renewed, admit}
use Rattle.rules.specs.With.{with_estop_seen}
use Rattle.state.specs.Axes.{first_forbidden, first_held, first_due}
use Rattle.state.specs.State.{Tables, book_of, InBounds, after_trip, after_tick}
use Rattle.state.specs.Stores.{awaiting, goes_on, Settles, Leads, Takes, TakesWhere}
use Rattle.state.specs.declared.AfterTrip.TheVariants as AfterTrip
use Rattle.state.specs.declared.Answer.{Answer}
use Rattle.state.specs.declared.Awaited.TheVariants as Awaited
use Rattle.state.specs.declared.CallKind.TheVariants as CallKind
use Rattle.state.specs.declared.Course.{Course}
use Rattle.state.specs.declared.Falling.{Falling}
use Rattle.state.specs.declared.Fixed.{Fixed}
use Rattle.state.specs.declared.Numbers.{Numbers}
use Rattle.state.specs.declared.Pending.{Pending}
use Rattle.state.specs.declared.Waiting.{Waiting}
use Rattle.decide_flags.specs.Flags.{stamped, ShowsForbidden}
use Rattle.decide_tick.specs.Ticks.{ticked, Opens, ShowsDue}
use Rattle.decide_tick.specs.declared.Begun.{Begun}
use Rattle.decide_tick.specs.declared.Begun.TheVariants.{Quiet, Busy}
use Rattle.decide_tick.specs.declared.Opening.{Opening}
use Rattle.runtime.specs.declared.Runtime.{Runtime}
use Rattle.runtime.specs.Promises.{Good, MovesIn, SoonestIn, is_quiet, Begins, Tightens}
use Rattle.runtime.specs.Runtimes.{tables_in, asked_in, asked_at, hand_in, state_in, book_on}
use Rattle.runtime.proofs.Courses.{followed-moves, stops}
use Rattle.runtime.proofs.Alters.{returned, senses-same, begins-quiet, begins-busy, tightens, timed, timed-good}
use Rattle.runtime.proofs.Onward.{gone-tick, gone-sense, gone-recover, gone-acquire, gone-renew, gone-cancel, gone-submit, goes-as, due-shown, left-good, followed-after, ends_so, runs-quiet, runs-busy}
use Rattle.layout.specs.Fields.{with_numbers, with_waiting, with_pending}
use Rattle.layout.specs.Layout.{runtime_in, Becomes}
use Rattle.layout.specs.Promises.{Goes}
use Rattle.host_store.specs.Stores.{Follows}
use Rattle.host_steps.specs.declared.Onward.{Onward}
use Rattle.host_steps.specs.Altered.{sooner_at, pending_at, BeginsIn, TightensIn}
use Rattle.host_steps.specs.Onward.{Comes, ComesTo, Concludes}
use Rattle.layout.proofs.Chains.{same-words, same_then, becomes-then, goes_by}

-- a test that was made
pub is-so : {b : Bool} → b ≡ true → T b
is-so e = subst T (sym e) tt

pub is-not : {b : Bool} → b ≡ false → T (not b)
is-not e = subst (λ (x : Bool). T (not x)) (sym e) tt

module _ {w w' : List ℕ} {r : Answer} where
  -- a course that settles
  course-goes : (c : Course) (i : Interaction) → Settles c → (Good (runtime_in w) → Leads c (state_in (runtime_in w)) i) → Follows c w w' r
      → Goes w w' r (Good (runtime_in w)) (proceed i)
  course-goes c i s l f =
      record { same = f.same; moves = λ g. followed-moves (runtime_in w) c i g (l g) (runtime_in w') r s (f.leaves (l g).falling) }

  module _ {fixed : Fixed} {numbers : Numbers} (c : Course) (f : fixed ≡ (runtime_in w).fixed) (n : numbers ≡ (runtime_in w).numbers) where
    pub stop_goes : (time : ℕ) → Settles c × Takes fixed numbers c (λ b q. emergency_stop time b (after_trip AfterTrip.Return 0 (stop_time time b) q))
        → Follows c w w' r → Goes w w' r (Good (runtime_in w)) (proceed (emergency_stop time (book_on (runtime_in w)) (λ b. Done b Returned)))
    stop_goes time p l = course-goes c _ p.0 (λ g. stops (runtime_in w) time c g (rw (f, n) at p.1)) l

    pub poll-goes : (raised time : ℕ) → Settles c × Takes fixed numbers c (λ b q. emergency_stop time (with_estop_seen raised b) (λ b'. Done b' (Polled true)))
        → Follows c w w' r → Goes w w' r (Good (runtime_in w)) (proceed (emergency_stop time (with_estop_seen raised (book_on (runtime_in w))) (λ b. Done b (Polled true))))
    poll-goes raised time p l =
        course-goes c _ p.0 (λ g. (rw (f, n) at p.1) (tables_in (runtime_in w)) (asked_in (runtime_in w)) (hand_in (runtime_in w)) g.sound) l

  module _ {fixed : Fixed} {numbers : Numbers} {falling : Falling} (c : Course) (f : fixed ≡ (runtime_in w).fixed) (n : numbers ≡ (runtime_in w).numbers)
      (b : falling ≡ (runtime_in w).falling) where
    pub recover-goes : (time : ℕ) → Settles c × (InBounds falling → Takes fixed numbers c (λ b q. recover time b)) → Follows c w w' r
        → Goes w w' r (Good (runtime_in w)) (proceed (recover time (book_on (runtime_in w))))
    recover-goes time p l =
        course-goes c _ p.0
        (λ g. (rw (f, n, b) at p.1) g.sound.falling (tables_in (runtime_in w)) (asked_in (runtime_in w)) (hand_in (runtime_in w)) g.sound) l

    pub sense-goes : (flags time axis : ℕ) → (Good (runtime_in w) → axis ≡ first_forbidden flags (tables_in (runtime_in w)).active 0)
        → Settles c × (InBounds falling → TakesWhere fixed numbers c (ShowsForbidden flags 0 axis) (λ b q. sense flags time b)) → Follows c w w' r
        → Goes w w' r (Good (runtime_in w)) (proceed (sense flags time (book_on (runtime_in w))))
    sense-goes flags time axis a p l =
        course-goes c _ p.0
        (λ g. (rw (f, n, b) at p.1) g.sound.falling (tables_in (runtime_in w)) (asked_in (runtime_in w)) (hand_in (runtime_in w)) g.sound (a g)) l

  pub cancel-goes : {numbers : Numbers} {falling : Falling} (c : Course) → numbers ≡ (runtime_in w).numbers → falling ≡ (runtime_in w).falling
      → (owner id time axis : ℕ) → (Good (runtime_in w) → axis ≡ first_held owner id (tables_in (runtime_in w)).leases)
      → Settles c
      × ((f : Fixed) (owner id : ℕ) → InBounds falling → TakesWhere f numbers c (λ t. axis ≡ first_held owner id t.leases) (λ b q. canceled (held_axis owner id b) time b))
      → Follows c w w' r → Goes w w' r (Good (runtime_in w)) (proceed (canceled (held_axis owner id (book_on (runtime_in w))) time (book_on (runtime_in w))))
  cancel-goes c n b owner id time axis a p l =
      course-goes c _ p.0
      (λ g. (rw (n, b) at p.1) (runtime_in w).fixed owner id g.sound.falling (tables_in (runtime_in w)) (asked_in (runtime_in w)) (hand_in (runtime_in w)) g.sound (a g)) l

-- flags as they were
pub same-goes : {w u w' : List ℕ} {numbers : Numbers} {same : Bool} (flags time : ℕ) → numbers ≡ (runtime_in w).numbers
    → (same ≡ true → (f : Fixed) (t : Tables) → sense flags time (book_of f numbers t) ≡ Done (book_of f (stamped time numbers) t) Returned) → same ≡ true
    → (x : Numbers) → x ≡ stamped time numbers → Becomes w u (with_numbers x (runtime_in w))
    → (y : Waiting) → y ≡ awaiting Awaited.Nothing → Becomes u w' (with_waiting y (runtime_in u))
    → Goes w w' Answer.Returned (Good (runtime_in w)) (proceed (sense flags time (book_on (runtime_in w))))
same-goes {w} {same = same} flags time n says e x ex p y ey q =
    goes_by _ (becomes-then (with_waiting (awaiting Awaited.Nothing)) (rw (ex, n) at p) (rw ey at q))
    (λ g. senses-same (runtime_in w) flags time same g (is-so e) (rw n at says))

-- the opening tick ------------------------------------------------------------------------------------------------------------

module _ {w : List ℕ} (fixed : Fixed) (numbers : Numbers) {b : Bool} (time : ℕ) (o : Opening) (f : fixed ≡ (runtime_in w).fixed) (n : numbers ≡ (runtime_in w).numbers)
    (says : Opens fixed numbers time o) (test : b ≡ is_quiet o.begun) where
  pub quiet-begins : {w' : List ℕ} → b ≡ true → (x : Numbers) → x ≡ ticked time o.mode numbers → Becomes w w' (with_numbers x (runtime_in w)) → BeginsIn time w w' o.begun
  quiet-begins t x ex p =
      record {
        same = p.same;
        begins =
            λ g.
            subst (λ (h : Runtime). Begins time (runtime_in w) h o.begun) (sym (rw (ex, n) at p).stored)
            (begins-quiet (runtime_in w) time o.begun o.mode g (is-so (sym test ∙ t)) (rw (f, n) at says));
      }

  pub busy-begins : b ≡ false → BeginsIn time w w o.begun
  busy-begins t = record { same = same-words; begins = λ g. begins-busy (runtime_in w) time o.begun g (is-not (sym test ∙ t)) }

pub tightens-in : {w w' : List ℕ} {numbers : Numbers} (soonest : ℕ) → (Good (runtime_in w) → SoonestIn soonest (runtime_in w)) → numbers ≡ (runtime_in w).numbers
    → (x : Numbers) → x ≡ sooner_at soonest numbers → Becomes w w' (with_numbers x (runtime_in w)) → TightensIn w w'
tightens-in {w} soonest s n x ex p =
    record {
      same = p.same;
      tightens = λ g. subst (Tightens (runtime_in w)) (sym (rw (ex, n) at p).stored) (tightens (runtime_in w) soonest g (s g));
    }

-- the tick that is not quiet
module _ (w : List ℕ) {u : List ℕ} {a : Answer} (fixed : Fixed) (numbers : Numbers) (falling : Falling) (axis : ℕ) (lease : LeaseSlot) (time : ℕ) (c : Course) {b : Bool}
    (f : fixed ≡ (runtime_in w).fixed) (n : numbers ≡ (runtime_in w).numbers) (l : falling ≡ (runtime_in w).falling)
    (d : Good (runtime_in w) → axis ≡ first_due time (tables_in (runtime_in w)).leases (tables_in (runtime_in w)).active 0)
    (s : lease ≡ get_or (runtime_in w).leases axis no_lease)
    (says : InBounds falling → TakesWhere fixed numbers c (ShowsDue time 0 axis lease) (λ b q. tick time b (after_tick q))) (left : Follows c w u a)
    (test : b ≡ goes_on c.way) where
  abbrev ticking : Interaction
  ticking = tick time (book_on (runtime_in w)) (after_tick (asked_in (runtime_in w)))

  tick-leads : Good (runtime_in w) → Leads c (state_in (runtime_in w)) ticking
  tick-leads g =
      (rw (f, n, l, s) at says) g.sound.falling (tables_in (runtime_in w)) (asked_in (runtime_in w)) (hand_in (runtime_in w)) g.sound
      (due-shown (runtime_in w) time 0 axis g (d g))

  pub tick-ends : b ≡ false → ComesTo w u (Onward.Answers a) (Good (runtime_in w)) (proceed ticking)
  unfolding Comes
  tick-ends t =
      record {
        same = left.same;
        comes = λ g. ends_so (runtime_in w) c ticking g (tick-leads g) (runtime_in u) a (left.leaves (tick-leads g).falling) (is-not (sym test ∙ t));
      }

  pub tick-goes-on : {v : List ℕ} → b ≡ true → TightensIn u v → ComesTo w v Onward.GoesOn (Good (runtime_in w)) (proceed ticking)
  unfolding Comes
  tick-goes-on {v} t y =
      record {
        same = same_then left.same y.same;
        comes =
            λ g.
            let there = left.leaves (tick-leads g).falling in
            let exact = y.tightens (left-good (runtime_in w) c ticking g (tick-leads g) (runtime_in u) a there) in
            (exact.good, goes-as (runtime_in u) (runtime_in v) exact.asked exact.book ∙ followed-after (runtime_in w) c ticking g (tick-leads g) (runtime_in u) a there (sym test ∙ t));
      }

-- the call in hand ------------------------------------------------------------------------------------------------------------

abbrev after : List ℕ → Reaction
after w = proceed (after_tick (asked_in (runtime_in w)) (book_on (runtime_in w)))

pub on-tick : {w w' : List ℕ} {pending : Pending} → pending ≡ (runtime_in w).pending → pending.kind ≡ CallKind.Tick
    → (y : Waiting) → y ≡ awaiting Awaited.Nothing → Becomes w w' (with_waiting y (runtime_in w)) → Goes w w' Answer.Returned (Good (runtime_in w)) (after w)
on-tick {w} e k y ey p = goes_by _ (rw ey at p) (λ g. gone-tick (runtime_in w) _ _ (rw e at k) (returned (runtime_in w) g))

module _ {w w' : List ℕ} {r : Answer} {pending : Pending} (e : pending ≡ (runtime_in w).pending) where
  pub on-sense : pending.kind ≡ CallKind.UpdateState → Goes w w' r (Good (runtime_in w)) (proceed (sense pending.flags pending.now (book_on (runtime_in w))))
      → Goes w w' r (Good (runtime_in w)) (after w)
  on-sense k l = record { same = l.same; moves = λ g. gone-sense (runtime_in w) (runtime_in w') r (rw e at k) ((rw e at l).moves g) }

  pub on-recover : pending.kind ≡ CallKind.RecoverLocal → Goes w w' r (Good (runtime_in w)) (proceed (recover pending.now (book_on (runtime_in w))))
      → Goes w w' r (Good (runtime_in w)) (after w)
  on-recover k l = record { same = l.same; moves = λ g. gone-recover (runtime_in w) (runtime_in w') r (rw e at k) ((rw e at l).moves g) }

  pub on-acquire : pending.kind ≡ CallKind.Acquire
      → Goes w w' r (Good (runtime_in w))
      (proceed (grant (first_failing (acquire_checks (runtime_in w).request pending.now (book_on (runtime_in w)))) (runtime_in w).request pending.now (book_on (runtime_in w))))
      → Goes w w' r (Good (runtime_in w)) (after w)
  on-acquire k l = record { same = l.same; moves = λ g. gone-acquire (runtime_in w) (runtime_in w') r (rw e at k) ((rw e at l).moves g) }

  pub on-renew : pending.kind ≡ CallKind.Renew
      → Goes w w' r (Good (runtime_in w))
      (proceed (renewed (first_failing (renew_checks (runtime_in w).renewal (book_on (runtime_in w)))) (runtime_in w).renewal (book_on (runtime_in w))))
      → Goes w w' r (Good (runtime_in w)) (after w)
  on-renew k l = record { same = l.same; moves = λ g. gone-renew (runtime_in w) (runtime_in w') r (rw e at k) (l.moves g) }

  pub on-cancel : pending.kind ≡ CallKind.Cancel
      → Goes w w' r (Good (runtime_in w))
      (proceed (canceled (held_axis pending.owner pending.lease_id (book_on (runtime_in w))) pending.now (book_on (runtime_in w))))
      → Goes w w' r (Good (runtime_in w)) (after w)
  on-cancel k l = record { same = l.same; moves = λ g. gone-cancel (runtime_in w) (runtime_in w') r (rw e at k) ((rw e at l).moves g) }

  pub on-submit : pending.kind ≡ CallKind.Submit
      → Goes w w' r (Good (runtime_in w))
      (proceed (admit (validate (runtime_in w).submission (book_on (runtime_in w))) (runtime_in w).submission (book_on (runtime_in w))))
      → Goes w w' r (Good (runtime_in w)) (after w)
  on-submit k l = record { same = l.same; moves = λ g. gone-submit (runtime_in w) (runtime_in w') r (rw e at k) (l.moves g) }

-- what is to come ---------------------------------------------------------------------------------------------------------------

pub answers : {w : List ℕ} (n : Onward) (a : Answer) → n ≡ Onward.Answers a → Concludes w w n a
unfolding Comes
answers {w} n a e = record { same = same-words; moves = λ x m. rw e at m }

pub goes : {w w' : List ℕ} {r : Answer} (n : Onward) → n ≡ Onward.GoesOn → Goes w w' r (Good (runtime_in w)) (after w) → Concludes w w' n r
unfolding Comes
goes {w} {w'} {r} n e l =
    record {
      same = l.same;
      moves = λ x m. let k : Good (runtime_in w) × (after w ≡ x) = rw e at m in subst (MovesIn (runtime_in w') r) k.1 (l.moves k.0);
    }

-- .. and done
pub concluded : {w v w' : List ℕ} {n : Onward} {r : Answer} {given : Type 0} {x : Reaction} → ComesTo w v n given x → Concludes v w' n r → Goes w w' r given x
concluded {x = x} c d = record { same = same_then c.same d.same; moves = λ g. d.moves x (c.comes g) }

-- .. with its opening tick
module _ {w u v : List ℕ} {pending : Pending} {g : Begun} (time : ℕ) (e : pending ≡ (runtime_in w).pending) (y : Pending) (ey : y ≡ pending_at time pending)
    (put : Becomes w u (with_pending y (runtime_in w))) (begun : BeginsIn time u v g) where
  timed-so : runtime_in u ≡ timed time (runtime_in w)
  timed-so = (rw (ey, e) at put).stored

  begins-so : Good (runtime_in w) → Begins time (timed time (runtime_in w)) (runtime_in v) g
  begins-so k =
      subst (λ (h : Runtime). Begins time h (runtime_in v) g) timed-so
      (begun.begins (subst Good (sym timed-so) (timed-good (runtime_in w) time k)))

  abbrev running : Reaction
  running = proceed (tick time (book_on (runtime_in w)) (after_tick (asked_at time (runtime_in w))))

  pub run-quiet : {w' : List ℕ} {r : Answer} → g ≡ Quiet → Goes v w' r (Good (runtime_in v)) (after v) → Goes w w' r (Good (runtime_in w)) running
  run-quiet {w'} {r} q l =
      record {
        same = same_then put.same (same_then begun.same l.same);
        moves = λ k. runs-quiet (runtime_in w) (runtime_in v) (runtime_in w') time r g q (begins-so k) (l.moves (begins-so k).good);
      }

  pub run-busy : {w' : List ℕ} {r : Answer} → g ≡ Busy
      → Goes v w' r (Good (runtime_in v)) (proceed (tick time (book_on (runtime_in v)) (after_tick (asked_in (runtime_in v))))) → Goes w w' r (Good (runtime_in w)) running
  run-busy {w'} {r} q l =
      record {
        same = same_then put.same (same_then begun.same l.same);
        moves = λ k. runs-busy (runtime_in w) (runtime_in v) (runtime_in w') time r g q (begins-so k) (l.moves (begins-so k).good);
      }
