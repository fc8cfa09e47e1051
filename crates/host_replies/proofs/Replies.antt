-- What the receipts of replies, and the replies, leave in the words. Assumes nothing.
use Prim.Native.Nat.{ℕ, ◌<◌}
use mathlib.Core.Bool.{Bool, true, false, false≢true}
use mathlib.Core.List.{List}
use Rattle.std.specs.Prelude.{Some}
use mathlib.Core.Path.{◌≡◌, refl, sym, ap, ◌∙◌, subst}
use borrow.Author.Tests.{lt-ltb}
use native.Mathlib.Omega.{arith}
use lib.ListN.{get_or, set}
use Rattle.model.specs.declared.Capability.{Capability}
use Rattle.model.specs.declared.LeaseSlot.{LeaseSlot}
use Rattle.model.specs.declared.Observation.{Observation}
use Rattle.model.specs.declared.Reason.{Reason}
use Rattle.model.specs.declared.Reason.TheVariants.{Driver}
use Rattle.model.specs.declared.Receipt.{Receipt}
use Rattle.model.specs.declared.Submission.{Submission}
use Rattle.model.specs.Records.{no_lease, no_capability, no_receipt}
use Rattle.rules.specs.Interaction.{Interaction, Submitted, Done, Observe, Execute, Fallback, Record}
use Rattle.rules.specs.Protocol as Protocol
use Rattle.rules.specs.Protocol.{Reaction, Replies, proceed, react}
use Rattle.rules.specs.Rules.{fail, complete, trip}
use Rattle.state.specs.State.{State, Tables, Asked, Hand, state, book_of, progress_of, carries, after_fell_back, after_fallback, after_trip, phase_of, reaction_of, InBounds, Sound, Moves}
use Rattle.state.specs.Stores.{awaiting, recorded, goes_on, Settles, Leads, Takes, TakesWhere}
use Rattle.state.specs.declared.AfterRecord.TheVariants as AfterRecord
use Rattle.state.specs.declared.AfterTrip.TheVariants as AfterTrip
use Rattle.state.specs.declared.Answer.{Answer}
use Rattle.state.specs.declared.Awaited.TheVariants as Awaited
use Rattle.state.specs.declared.Awaited.TheVariants.{ObserveAfter}
use Rattle.state.specs.declared.Carrying.{Carrying}
use Rattle.state.specs.declared.Course.{Course}
use Rattle.state.specs.declared.Falling.{Falling}
use Rattle.state.specs.declared.Fixed.{Fixed}
use Rattle.state.specs.declared.Numbers.{Numbers}
use Rattle.state.specs.declared.Progress.{Progress}
use Rattle.state.specs.declared.Revoked.{Revoked}
use Rattle.state.specs.declared.Waiting.{Waiting}
use Rattle.decide_reply.specs.Replies.{told, completing, completed, observation_in, seen_by, failed_by, reason_by, unexecuted_by, ObservesAs, ExecutesAs, RecordsAs}
use Rattle.decide_reply.specs.declared.Observed.{Observed}
use Rattle.decide_reply.specs.declared.OnExecuted.{OnExecuted}
use Rattle.decide_reply.specs.declared.OnObserved.{OnObserved}
use Rattle.decide_reply.specs.declared.OnRecorded.{OnRecorded}
use Rattle.decide_reply.specs.declared.Completing.{Completing}
use Rattle.decide_resume.specs.declared.Search.{Search}
use Rattle.decide_resume.specs.Searches.{ShowsSought, Seeks, ShowsNext}
use Rattle.runtime.specs.declared.Runtime.{Runtime}
use Rattle.runtime.specs.Kept.{followed_in}
use Rattle.runtime.specs.Promises.{Kept, Good, MovesIn, TurnsIn, Leaves, PlacesIn, spare_or, turns_away}
use Rattle.runtime.specs.Runtimes.{tables_in, asked_in, order_in, hand_in, state_in, book_on}
use Rattle.runtime.proofs.Alters.{submitting-good, trips-order}
use Rattle.runtime.proofs.Courses.{followed-moves}
use Rattle.runtime.proofs.Onward.{left-good, followed-after, resumed-leads}
use Rattle.host_steps.specs.declared.Onward.TheVariants as Onward
use Rattle.host_steps.specs.Onward.{Comes, ComesTo}
use Rattle.runtime.proofs.Replies.{telling-kept, tells, fails, finishing-kept, finishes}
use Rattle.runtime.proofs.Turned.{is_away, away, observed-last, observed-completes, observed-fails, executed-observes, executed-fails, recorded-leased, recorded-submitted}
use Rattle.rows.specs.Rows.{carrying_of, falling_of}
use Rattle.rows.proofs.Codes.{below_less}
use Rattle.layout.specs.Fields.{with_numbers, with_revoked, with_active, with_submitted, with_waiting, with_carrying}
use Rattle.layout.specs.Layout.{runtime_in, Becomes}
use Rattle.layout.specs.Promises.{Goes, Turns}
use Rattle.host_store.specs.Stores.{RecordsIn, Follows}
use Rattle.host_replies.specs.Altered.{executing, rested_by}
use Rattle.layout.proofs.Chains.{same-words, same_then, becomes-then}
use Rattle.host_steps.proofs.Orders.{records-by}

-- what is read is inside its table, whatever the words
pub carried-low : (w : List ℕ) {c : Carrying} → c ≡ (runtime_in w).carrying → c.at < 17
unfolding runtime_in carrying_of
carried-low w e = rw e (below_less 17 _ (omega arith))

pub falls-low : (w : List ℕ) {f : Falling} → f ≡ (runtime_in w).falling → InBounds f
unfolding runtime_in falling_of
falls-low w e = rw e (record { axis = below_less 8 _ (omega arith); at = below_less 8 _ (omega arith) })

-- the record of the order in hand
pub order-as : (w : List ℕ) {carrying : Carrying} {capability : Capability} → carrying ≡ (runtime_in w).carrying
    → capability ≡ get_or (runtime_in w).capabilities carrying.at no_capability → (order_in (runtime_in w)).capability ≡ capability
order-as w ca cp = sym (rw ca at cp)

-- an order that failed --------------------------------------------------------------------------------------------------------

abbrev Fails : Fixed → Numbers → Capability → Submission → Reason → Progress → Receipt → Type 0
Fails fixed numbers capability submission reason progress r =
    (t : Tables) (q : Asked) (h : Hand) → Sound (state fixed numbers t q h) → q.submission ≡ submission
    → Moves (recorded r AfterRecord.Failed (state fixed numbers t q h)) Answer.Item
    (proceed (fail capability reason (progress_of progress) submission (book_of fixed numbers t)))

pub fails-on : {w w' : List ℕ} {fixed : Fixed} {numbers : Numbers} {carrying : Carrying} {capability : Capability} {submission : Submission} (reason : Reason)
    (progress : Progress) (r : Receipt) → fixed ≡ (runtime_in w).fixed → numbers ≡ (runtime_in w).numbers → carrying ≡ (runtime_in w).carrying
    → capability ≡ get_or (runtime_in w).capabilities carrying.at no_capability → submission ≡ (runtime_in w).submission
    → Fails fixed numbers capability submission reason progress r → RecordsIn false AfterRecord.Failed r w w'
    → Goes w w' Answer.Item (Good (runtime_in w))
    (proceed (fail (order_in (runtime_in w)).capability reason (progress_of progress) (runtime_in w).submission (book_on (runtime_in w))))
fails-on {w} reason progress r f n ca cp s says q =
    let h = runtime_in w in
    records-by _ (record { same = same-words; stored = refl }) q (λ g. g.kept)
    (λ g z slot places.
    fails h reason (progress_of progress) r z slot g places ((rw (f, n, cp, ca, s) at says) (tables_in h) (asked_in h) (hand_in h) g.sound refl))

-- an order that was executed --------------------------------------------------------------------------------------------------

abbrev Completes : Fixed → Numbers → Carrying → Capability → Submission → Observation → Completing → Type 0
Completes fixed numbers carrying capability submission seen r =
    (t : Tables) (q : Asked) (h : Hand) → Sound (state fixed numbers t q h) → q.submission ≡ submission → h.order.capability ≡ capability
    → carries h.waiting.awaited ≡ true
    → Moves (completed r capability.resource (state fixed numbers t q h)) Answer.Item
    (proceed (complete capability carrying.end (seen_by carrying.pre_state submission.now (Some seen)) submission (book_of fixed numbers t)))

abbrev finishing : Completing → ℕ → Runtime → Runtime
finishing c i h = with_active (set h.active i c.active) (with_numbers (completing c.soonest h.numbers) h)

pub completes-on : {w w₁ w₂ w₃ : List ℕ} {fixed : Fixed} {numbers next : Numbers} {carrying : Carrying} {capability : Capability} {axis : ℕ} {submission : Submission}
    (seen : Observation) (c : Completing) → fixed ≡ (runtime_in w).fixed → numbers ≡ (runtime_in w).numbers → carrying ≡ (runtime_in w).carrying
    → capability ≡ get_or (runtime_in w).capabilities carrying.at no_capability → submission ≡ (runtime_in w).submission
    → Completes fixed numbers carrying capability submission seen c → next ≡ completing c.soonest numbers → axis ≡ spare_or capability.resource
    → Becomes w w₁ (with_numbers next (runtime_in w)) → Becomes w₁ w₂ (with_active (set (runtime_in w₁).active axis c.active) (runtime_in w₁))
    → RecordsIn false AfterRecord.Executed c.receipt w₂ w₃
    → Goes w w₃ Answer.Item (Good (runtime_in w) × ((runtime_in w).waiting.awaited ≡ ObserveAfter))
    (proceed
    (complete (order_in (runtime_in w)).capability (runtime_in w).carrying.end
    (seen_by (runtime_in w).carrying.pre_state (runtime_in w).submission.now (Some seen)) (runtime_in w).submission (book_on (runtime_in w))))
completes-on {w} {axis = axis} seen c f n ca cp s says ne ax p₁ p₂ q =
    let h = runtime_in w in
    let i = (order_in h).capability.resource in
    let low : Good h → axis ≡ i = λ g. (rw (cp, ca) at ax) ∙ rw (lt-ltb i 8 g.sound.order.axis) in
    records-by _ (becomes-then (λ (z : Runtime). with_active (set z.active axis c.active) z) (rw (ne, n) at p₁) p₂) q
    (λ g. subst (λ (k : ℕ). Kept (finishing c k h)) (sym (low g.0)) (finishing-kept h c i g.0.kept g.0.sound.order.axis))
    (λ g z slot places.
    finishes h _ _ c z slot g.0 (subst (λ (k : ℕ). PlacesIn false AfterRecord.Executed (finishing c k h) z slot) (low g.0) places)
    ((rw (f, n, cp, ca, s) at says) (tables_in h) (asked_in h) (hand_in h) g.0.sound refl refl (ap carries g.1)))

-- a fallback ------------------------------------------------------------------------------------------------------------------

abbrev Tells : Fixed → Numbers → Falling → Revoked → Bool → Receipt → Type 0
Tells fixed numbers falling revoked ok r =
    (t : Tables) (q : Asked) (h : Hand) → Sound (state fixed numbers t q h) → h.falling ≡ falling → h.revoked ≡ revoked
    → Moves (told r ok (state fixed numbers t q h)) Answer.Item (proceed (after_fell_back falling revoked q ok (book_of fixed numbers t)))

pub tells-on : {w w₁ w₂ : List ℕ} {fixed : Fixed} {numbers : Numbers} {falling : Falling} {revoked : Revoked} (ok : Bool) (r : Receipt) → fixed ≡ (runtime_in w).fixed
    → numbers ≡ (runtime_in w).numbers → falling ≡ (runtime_in w).falling → revoked ≡ (runtime_in w).revoked → Tells fixed numbers falling revoked ok r
    → Becomes w w₁ (with_revoked (record { lease_id = revoked.lease_id; owner = revoked.owner; ok = ok }) (runtime_in w))
    → RecordsIn false AfterRecord.Fallback r w₁ w₂
    → Goes w w₂ Answer.Item (Good (runtime_in w))
    (proceed (after_fell_back (runtime_in w).falling (runtime_in w).revoked (asked_in (runtime_in w)) ok (book_on (runtime_in w))))
tells-on {w} ok r f n fa re says p q =
    let h = runtime_in w in
    records-by _ (rw re at p) q (λ g. telling-kept h ok g.kept)
    (λ g z slot places. tells h ok r z slot g places ((rw (f, n, fa, re) at says) (tables_in h) (asked_in h) (hand_in h) g.sound refl refl))

-- a course --------------------------------------------------------------------------------------------------------------------

-- one that settles, followed after other stores
pub follows_by : {w w₁ w₂ : List ℕ} {rt : Runtime} {c : Course} {r : Answer} (given : Type 0) (i : Interaction) → Becomes w w₁ rt → Follows c w₁ w₂ r → Settles c
    → (given → Good rt) → (given → Leads c (state_in rt) i) → Goes w w₂ r given (proceed i)
follows_by {w₂ = w₂} {rt = rt} {c = c} {r = r} given i p q e good leads =
    record {
      same = same_then p.same q.same;
      moves =
          λ g.
          followed-moves rt c i (good g) (leads g) (runtime_in w₂) r e
          (subst (λ (h : Runtime). Leaves (followed_in c h) c.answer (runtime_in w₂) r) p.stored (q.leaves (leads g).falling));
    }

-- the trip after an order's receipt
pub trips-on : {w w₁ w₂ : List ℕ} {fixed : Fixed} {numbers : Numbers} {submission : Submission} {slot : ℕ} {r : Answer} (reason : Reason) (c : Course)
    → fixed ≡ (runtime_in w).fixed → numbers ≡ (runtime_in w).numbers → submission ≡ (runtime_in w).submission → slot ≡ (runtime_in w).slot
    → Becomes w w₁ (with_submitted (get_or (runtime_in w).slots slot no_receipt) (runtime_in w)) → Settles c
    → Takes fixed numbers c (λ b q. trip reason submission.now b (after_trip AfterTrip.Submit 0 submission.now q)) → Follows c w₁ w₂ r
    → Goes w w₂ r (Good (runtime_in w))
    (proceed (trip reason (runtime_in w).submission.now (book_on (runtime_in w)) (λ b. Done b (Submitted (hand_in (runtime_in w)).receipt))))
trips-on {w} reason c f n s sl p e says q =
    let h = runtime_in w in
    follows_by _ _ (rw sl at p) q e (submitting-good h) (λ g. trips-order h reason c g (rw (f, n, s) at says))

-- what follows the receipt of a fallback
module _ (w : List ℕ) {fixed : Fixed} {numbers : Numbers} {falling : Falling} {revoked : Revoked} {lease : LeaseSlot} (s : Search) (axis : ℕ) (c : Course)
    (f : fixed ≡ (runtime_in w).fixed) (n : numbers ≡ (runtime_in w).numbers) (fa : falling ≡ (runtime_in w).falling) (re : revoked ≡ (runtime_in w).revoked)
    (seeks : Seeks falling s)
    (look : Good (runtime_in w)
    → ShowsSought s.sought s.from falling.time numbers.flags axis (get_or (runtime_in w).leases axis no_lease) (tables_in (runtime_in w)))
    (le : lease ≡ get_or (runtime_in w).leases axis no_lease)
    (says : TakesWhere fixed numbers c (ShowsNext falling numbers.flags axis lease) (λ b q. after_fallback falling b.capabilities q revoked.ok b))
  where
    abbrev Next : Interaction
    Next = after_fallback (runtime_in w).falling (tables_in (runtime_in w)).capabilities (asked_in (runtime_in w)) (runtime_in w).revoked.ok (book_on (runtime_in w))

    next-leads : Good (runtime_in w) → Leads c (state_in (runtime_in w)) Next
    next-leads g = resumed-leads (runtime_in w) s axis c g (rw fa at seeks) (rw (fa, n) at (look g)) (rw (f, n, fa, le, re) at says)

    module _ {w₁ : List ℕ} {r : Answer} (q : Follows c w w₁ r) (b : Bool) (e : b ≡ goes_on c.way) where
      pub resumes-on : b ≡ true → ComesTo w w₁ Onward.GoesOn (Good (runtime_in w)) (proceed Next)
      unfolding Comes
      resumes-on t =
          record {
            same = q.same;
            comes =
                λ g.
                let l = next-leads g in
                let left = q.leaves l.falling in
                (left-good (runtime_in w) c Next g l (runtime_in w₁) r left, followed-after (runtime_in w) c Next g l (runtime_in w₁) r left (sym e ∙ t));
          }

      pub ends_on : b ≡ false → ComesTo w w₁ (Onward.Answers r) (Good (runtime_in w)) (proceed Next)
      unfolding Comes
      ends_on t =
          record {
            same = q.same;
            comes = λ g. let l = next-leads g in followed-moves (runtime_in w) c Next g l (runtime_in w₁) r (sym e ∙ t) (q.leaves l.falling);
          }

-- a reply ---------------------------------------------------------------------------------------------------------------------

goes : (i : Interaction) → is_away (proceed i).output ≡ false
unfolding is_away proceed
goes (Done b a) = refl
goes (Observe axis b k) = refl
goes (Execute c p b k) = refl
goes (Fallback axis reason b k) = refl
goes (Record r b k) = refl

-- what goes on is not turned away
proceeds : {h : Runtime} {r : Answer} (i : Interaction) → MovesIn h r (proceed i) → turns_away r ≡ true → ⊥
unfolding reaction_of
proceeds {h} {r} i m t = false≢true (sym (goes i) ∙ sym (ap (λ (y : Reaction). is_away y.output) m.reaction) ∙ away r (state_in h) t)

-- one that is turned away
pub turned : {w : List ℕ} {r : Answer} {given : Type 0} {x : Reaction} → (given → TurnsIn (runtime_in w) (runtime_in w) r x) → Turns w w r given x
turned m = record { goes = record { same = same-words; moves = λ g. (m g).moves }; unaltered = λ g t. refl }

-- one that goes on
pub turns-by : {w w' : List ℕ} {r : Answer} {given more : Type 0} {x : Reaction} (i : Interaction) → Goes w w' r more (proceed i) → (given → more)
    → (given → MovesIn (runtime_in w') r (proceed i) → TurnsIn (runtime_in w) (runtime_in w') r x) → Turns w w' r given x
turns-by i p f m =
    record {
      goes = record { same = p.same; moves = λ g. (m g (p.moves (f g))).moves };
      unaltered = λ g t. absurd (proceeds i (p.moves (f g)) t);
    }

-- .. and one that stores no more than a place
pub turns-stored : {w w' : List ℕ} {rt : Runtime} {r : Answer} {given : Type 0} {x : Reaction} → Becomes w w' rt → turns_away r ≡ false
    → (given → TurnsIn (runtime_in w) rt r x) → Turns w w' r given x
turns-stored {r = r} {x = x} p e m =
    record {
      goes = record { same = p.same; moves = λ g. subst (λ (h : Runtime). MovesIn h r x) (sym p.stored) (m g).moves };
      unaltered = λ g t. absurd (false≢true (sym e ∙ t));
    }

pub turns_as : {w w' : List ℕ} {r a : Answer} {given : Type 0} {x : Reaction} → r ≡ a → Turns w w' a given x → Turns w w' r given x
turns_as {w} {w'} {given = given} {x = x} e p = subst (λ (b : Answer). Turns w w' b given x) (sym e) p

-- an order goes to the driver
pub executes-on : {w w₁ w₂ : List ℕ} {carrying : Carrying} {waits : Waiting} (pre_state : ℕ) → carrying ≡ (runtime_in w).carrying → waits ≡ awaiting Awaited.Execute
    → Becomes w w₁ (with_waiting waits (runtime_in w))
    → Becomes w₁ w₂ (with_carrying (record { end = carrying.end; at = carrying.at; pre_state = pre_state }) (runtime_in w₁))
    → Becomes w w₂ (executing pre_state (runtime_in w))
executes-on pre_state ca we p q = becomes-then (with_carrying _) (rw we at p) (rw ca at q)

-- an observation, as it is judged
pub observed-as : (w : List ℕ) {waiting : Waiting} {carrying : Carrying} {capability : Capability} {submission : Submission} (o : Observed) (k : OnObserved)
    → waiting ≡ (runtime_in w).waiting → carrying ≡ (runtime_in w).carrying → capability ≡ get_or (runtime_in w).capabilities carrying.at no_capability
    → submission ≡ (runtime_in w).submission
    → ((s : State) → Sound s → s.hand.waiting ≡ waiting → s.hand.order.capability.verification ≡ capability.verification
    → s.asked.submission.action.parameters ≡ submission.action.parameters → ObservesAs k s o)
    → Good (runtime_in w) → ObservesAs k (state_in (runtime_in w)) o
observed-as w o k wt ca cp s says g =
    says (state_in (runtime_in w)) g.sound (sym wt) (ap (λ (x : Capability). x.verification) (order-as w ca cp))
    (ap (λ (x : Submission). x.action.parameters) (sym s))

pub fails-seen : {w w' : List ℕ} {r : Answer} {waiting : Waiting} {carrying : Carrying} {submission : Submission} {reason : Reason} (progress : Progress) (o : Observed)
    (k : OnObserved) → waiting ≡ (runtime_in w).waiting → carrying ≡ (runtime_in w).carrying → submission ≡ (runtime_in w).submission
    → (Good (runtime_in w) → ObservesAs k (state_in (runtime_in w)) o) → k ≡ OnObserved.Fails → reason ≡ reason_by (observation_in o)
    → progress_of progress ≡ failed_by waiting.awaited carrying.pre_state submission.now (observation_in o)
    → Goes w w' r (Good (runtime_in w))
    (proceed (fail (order_in (runtime_in w)).capability reason (progress_of progress) (runtime_in w).submission (book_on (runtime_in w))))
    → Turns w w' r (Good (runtime_in w)) (react (phase_of (state_in (runtime_in w))) (Replies (Protocol.Observed (observation_in o))))
fails-seen {w} progress o k wt ca s e f re pe p =
    turns-by _ (rw re at p) (λ g. g) (λ g m. observed-fails (runtime_in w) g o k (e g) progress f (rw (wt, ca, s) at pe) m)

pub completes-seen : {w w' : List ℕ} {r : Answer} (o : Observed) (k : OnObserved) → (Good (runtime_in w) → ObservesAs k (state_in (runtime_in w)) o)
    → k ≡ OnObserved.Completes
    → Goes w w' r (Good (runtime_in w) × ((runtime_in w).waiting.awaited ≡ ObserveAfter))
    (proceed
    (complete (order_in (runtime_in w)).capability (runtime_in w).carrying.end
    (seen_by (runtime_in w).carrying.pre_state (runtime_in w).submission.now (Some o.observation)) (runtime_in w).submission (book_on (runtime_in w))))
    → Turns w w' r (Good (runtime_in w)) (react (phase_of (state_in (runtime_in w))) (Replies (Protocol.Observed (observation_in o))))
completes-seen {w} o k e f p =
    let h = runtime_in w in
    turns-by _ p (λ g. (g, observed-last h g o k (e g) f)) (λ g m. observed-completes h g o k (e g) f m)

-- an execution
pub observes-executed : {w w' : List ℕ} {waits : Waiting} (ok : Bool) (k : OnExecuted) → (Good (runtime_in w) → ExecutesAs k (state_in (runtime_in w)) ok)
    → k ≡ OnExecuted.Observes → waits ≡ awaiting Awaited.ObserveAfter → Becomes w w' (with_waiting waits (runtime_in w))
    → Turns w w' Answer.Item (Good (runtime_in w)) (react (phase_of (state_in (runtime_in w))) (Replies (Protocol.Executed ok)))
observes-executed {w} ok k e f we p =
    let h = runtime_in w in
    turns-stored (rw we at p) refl (λ g. executed-observes h g ok k (e g) _ f (refl, refl, refl, refl, refl, refl, refl, refl, refl, refl, refl) refl)

pub fails-executed : {w w' : List ℕ} {r : Answer} {carrying : Carrying} (progress : Progress) (ok : Bool) (k : OnExecuted) → carrying ≡ (runtime_in w).carrying
    → (Good (runtime_in w) → ExecutesAs k (state_in (runtime_in w)) ok) → k ≡ OnExecuted.Fails → progress_of progress ≡ unexecuted_by carrying.pre_state
    → Goes w w' r (Good (runtime_in w))
    (proceed (fail (order_in (runtime_in w)).capability Driver (progress_of progress) (runtime_in w).submission (book_on (runtime_in w))))
    → Turns w w' r (Good (runtime_in w)) (react (phase_of (state_in (runtime_in w))) (Replies (Protocol.Executed ok)))
fails-executed {w} progress ok k ca e f pe p =
    turns-by _ p (λ g. g) (λ g m. executed-fails (runtime_in w) g ok k (e g) progress f (rw ca at pe) m)

-- a receipt recorded
pub leases-recorded : {w w' : List ℕ} {waits : Waiting} (k : OnRecorded) → (Good (runtime_in w) → RecordsAs k (state_in (runtime_in w))) → k ≡ OnRecorded.Leased
    → waits ≡ awaiting Awaited.Nothing → Becomes w w' (with_waiting waits (runtime_in w))
    → Turns w w' Answer.Leased (Good (runtime_in w)) (react (phase_of (state_in (runtime_in w))) (Replies Protocol.Recorded))
leases-recorded {w} k e f we p =
    let h = runtime_in w in
    turns-stored (rw we at p) refl (λ g. recorded-leased h g k (e g) _ f (refl, refl, refl, refl, refl, refl, refl, refl, refl, refl, refl) refl)

pub submits-recorded : {w w' : List ℕ} {waiting waits : Waiting} (k : OnRecorded) → waiting ≡ (runtime_in w).waiting
    → (Good (runtime_in w) → RecordsAs k (state_in (runtime_in w))) → k ≡ OnRecorded.Submitted → waits ≡ rested_by waiting
    → Becomes w w' (with_waiting waits (runtime_in w))
    → Turns w w' Answer.Submitted (Good (runtime_in w)) (react (phase_of (state_in (runtime_in w))) (Replies Protocol.Recorded))
submits-recorded {w} k wt e f we p =
    let h = runtime_in w in
    turns-stored (rw (we, wt) at p) refl (λ g. recorded-submitted h g k (e g) _ f (refl, refl, refl, refl, refl, refl, refl, refl, refl, refl, refl) refl)

-- the receipt of an order that failed, whose reason the trip has
pub trips-by : {w w' : List ℕ} {r : Answer} {receipt : Receipt} {slot : ℕ} → slot ≡ (runtime_in w).slot → receipt ≡ get_or (runtime_in w).slots slot no_receipt
    → Goes w w' r (Good (runtime_in w))
    (proceed (trip receipt.reason (runtime_in w).submission.now (book_on (runtime_in w)) (λ b. Done b (Submitted (hand_in (runtime_in w)).receipt))))
    → Goes w w' r (Good (runtime_in w))
    (proceed
    (trip (hand_in (runtime_in w)).receipt.reason (runtime_in w).submission.now (book_on (runtime_in w)) (λ b. Done b (Submitted (hand_in (runtime_in w)).receipt))))
trips-by se re p = rw (re, se) at p
