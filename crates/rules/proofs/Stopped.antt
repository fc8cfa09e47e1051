-- A stopped runtime stays stopped until a recovery succeeds, and hands out no execute item meanwhile, whatever the inputs. Assumes nothing.
use Prim.Native.Nat.{ℕ}
use mathlib.Core.Bool.{Bool, true, false, cond, ◌||◌}
use mathlib.Core.List.{List, [], ◌∷◌, ◌++◌}
use mathlib.Core.Logic.{◌⊎◌, inl, inr, ⊎_elim, ◌≢◌}
use Rattle.std.specs.Prelude.{Option, Some, None}
use mathlib.Core.Path.{◌≡◌, refl, sym, ap, ◌∙◌, subst}
use native.Mathlib.Omega.{arith}
use lib.Dec.{eqb}
use lib.IntN.{ℤ}
use Rattle.model.specs.declared.Reason.{Reason}
use Rattle.model.specs.declared.RuntimeState.{RuntimeState}
use Rattle.model.specs.declared.RuntimeState.TheVariants as State
use Rattle.model.specs.Reasons.{number}
use Rattle.rules.specs.Book.{Book}
use Rattle.rules.specs.With.{with_leases, with_active, with_receipts, with_next_receipt, with_epoch, with_flags, with_state_at, with_last_tick, with_state, with_invalid_count, with_estop_seen}
use Rattle.rules.specs.Receipts.{kept}
use Rattle.rules.specs.Interaction.{Answer, Returned, Succeeded, Refused, Interaction, Done, Observe, Execute, Fallback, Record}
use Rattle.rules.specs.Admission.{Check, first_failing, holds_of, is_estopped, is_faulted, ready, axes, acquire_checks, renew_checks, axis_held, held_axis, order_capability, order_lease, admission, verdict, validate}
use Rattle.rules.specs.Rules.{bump_epoch, refreshed, refresh_state, cleared, tripped, update_state, recovered, recover_local, grant, acquire, renewed, renew, canceled, cancel, admit, submit}
use Rattle.rules.specs.Protocol.{Call, Tick, UpdateState, EmergencyStop, PollEstop, RecoverLocal, Acquire, Renew, Cancel, Submit, Reply, Input, Calls, Replies, Reads, Item, ItemObserve, ItemExecute, ItemFallback, ItemRecord, Hands, Answers, OnObserve, OnExecute, OnFallback, OnRecord, Phase, Starting, Gone, Idle, Waiting, wait_book, book_in, Reaction, called, shown, effect, apply, begin, proceed, react}
use Rattle.rules.specs.Lives.{outputs_from, phase_from}
use Rattle.rules.specs.Log.{Took, Replied, Handed, Ended, Log, handed, took_effect, arrived, logged}
use Rattle.rules.specs.Way.{Takes, observed, executed, fell_back, recorded}
use Rattle.rules.specs.StateFacts.{NoLease}
use Rattle.rules.specs.StopFacts.{Unready, InEstop, Halted, Throughout, Rests, Lifted, Unlifted, Stopped, Blocked, NoneUntilSuccess, Unrecovered, StillBlocked, BlocksDispatch}
use Rattle.rules.proofs.Steps.{Stands, at_observe, at_execute, at_fallback, at_record, Stays, Step, stays, tries, begins, answers, step}
use Rattle.rules.proofs.Safe.{Safe}
use Rattle.rules.proofs.StateBook.{not-both, only-cleared, only_none}
use Rattle.rules.proofs.Walks.{Other, Kept, walk-tick, walk-sense, walk-stop, walk-poll, walk-recover, walk-reject}

-- ---- states that only a recovery leaves

pub record Lasting (N : RuntimeState → Type 0) : Type 0 where
  pub unready : (x : RuntimeState) → N x → Unready x
  pub trips : (reason : Reason) (x : RuntimeState) → N x → N (tripped reason x)
  pub refreshes : (leased : Bool) (x : RuntimeState) → N x → N (refreshed leased x)

trips-unready : (reason : Reason) (x : RuntimeState) → Unready (tripped reason x)
unfolding tripped
trips-unready reason x = go (eqb (number reason) (number Reason.Estop) || is_estopped x)
  where
    go : (t : Bool) → Unready (cond t State.Estopped State.Faulted)
    go true = tt
    go false = tt

stays-unready : (leased : Bool) (x : RuntimeState) → Unready x → Unready (refreshed leased x)
unfolding refreshed
stays-unready leased State.SafeIdle h = absurd h
stays-unready leased State.Armed h = absurd h
stays-unready leased State.Faulted h = tt
stays-unready leased State.Estopped h = tt

unready-lasts : Lasting Unready
unready-lasts = record { unready = λ x h. h; trips = λ reason x h. trips-unready reason x; refreshes = stays-unready }

pub estop-lasts : Lasting InEstop
unfolding tripped is_estopped refreshed
estop-lasts =
    record {
      unready = λ x e. subst Unready (sym e) tt;
      trips = λ reason x e. rw e (go (eqb (number reason) (number Reason.Estop)));
      refreshes = λ leased x e. rw e;
    }
  where
    go : (t : Bool) → cond (t || true) State.Estopped State.Faulted ≡ State.Estopped
    go true = refl
    go false = refl

-- ---- what the calls find in a halted book

pub fails-unready : (now : ℕ) (b : Book) (cs : List Check) → Unready b.state
    → (reason : Reason) × (first_failing (ready now b ++ cs) ≡ Some reason)
unfolding first_failing ready is_estopped is_faulted
fails-unready now b cs = go b.state refl
  where
    go : (x : RuntimeState) → b.state ≡ x → Unready x → (reason : Reason) × (first_failing (ready now b ++ cs) ≡ Some reason)
    go State.SafeIdle e h = absurd h
    go State.Armed e h = absurd h
    go State.Faulted e h = (Reason.Faulted, rw e)
    go State.Estopped e h = (Reason.Estop, rw e)

none-held : (owner id : ℕ) (b : Book) (is : List ℕ) → NoLease b → axis_held owner id b is ≡ None
unfolding axis_held holds_of
none-held owner id b [] h = refl
none-held owner id b (axis ∷ is) h = rw (h axis) (none-held owner id b is h)

none-cleared : (axis : ℕ) (b : Book) → NoLease b → NoLease (cleared axis b)
none-cleared axis b h = only_none (cleared axis b) (only-cleared axis [] b (λ i x e. not-both (h i) e))

-- ---- the calls, on a halted book

-- the newest event is neither an observe nor an execute item
abbrev pub Quiet : Log → Type 0
Quiet [] = Unit
Quiet (Took c ∷ l) = Unit
Quiet (Replied r ∷ l) = Unit
Quiet (Handed (ItemObserve axis) ∷ l) = ⊥
Quiet (Handed (ItemExecute c ps) ∷ l) = ⊥
Quiet (Handed (ItemFallback axis r) ∷ l) = Unit
Quiet (Handed (ItemRecord r) ∷ l) = Unit
Quiet (Ended a ∷ l) = Unit

abbrev pub Waits : (RuntimeState → Type 0) → Log → Book → Type 0
Waits N l b = Quiet l × N b.state

pub throughout : (N : RuntimeState → Type 0) (E : Book → Answer → Type 0) (l : Log) (t : Interaction)
    → Safe (Waits N) (λ l b a. E b a) l t → Throughout N E t
throughout N E l (Done b a) h = h
throughout N E l (Observe axis b k) h = h.0.0
throughout N E l (Execute c ps b k) h = h.0.0
throughout N E l (Fallback axis r b k) h = (h.0.1, λ ok. throughout N E _ (k ok) (h.1 ok))
throughout N E l (Record r b k) h = (h.0.1, throughout N E _ k h.1)

module _ (N : RuntimeState → Type 0) (n : Lasting N) (E : Book → Answer → Type 0)
    (ends : (b : Book) (a : Answer) → Other a → Halted N b → E b a) where
  abbrev Still : Log → Book → Type 0
  Still l b = Quiet l × Halted N b

  abbrev End : Log → Book → Answer → Type 0
  End l b a = E b a

  still : Kept (Waits N) End Still
  unfolding cleared bump_epoch with_epoch with_leases with_active kept with_next_receipt with_receipts refresh_state with_state with_last_tick with_state_at with_invalid_count with_flags with_estop_seen
  still =
      record {
        waits = λ l b h. (h.0, h.1.0);
        ends = λ l b a o h. ends b a o h.1;
        replied = λ r l b h. (tt, h.1);
        falls = λ axis reason l b h. (tt, (h.1.0, none-cleared axis b h.1.1));
        records = λ r l b h. (tt, h.1);
        trips = λ reason l b h. (h.0, (n.trips reason b.state h.1.0, h.1.1));
        refreshes = λ l b h. (h.0, (n.refreshes _ b.state h.1.0, h.1.1));
        ticks = λ now l b h. h;
        stamps = λ now l b h. h;
        flags = λ x l b h. h;
        bumps = λ l b h. h;
        sees = λ raised l b h. h;
        counts = λ x l b h. h;
      }

  refused : (now : ℕ) (b : Book) (cs : List Check) (next : Option Reason → Interaction) (l : Log) → Still l b
      → ((reason : Reason) → Safe (Waits N) End l (next (Some reason))) → Safe (Waits N) End l (next (first_failing (ready now b ++ cs)))
  refused now b cs next l h f = let k = fails-unready now b cs (n.unready b.state h.1.0) in rw k.1 (f k.0)

  halts-cancel : (owner id now : ℕ) (l : Log) (b : Book) → Still l b → Safe (Waits N) End l (canceled (held_axis owner id b) now b)
  unfolding held_axis canceled
  halts-cancel owner id now l b h = rw (none-held owner id b axes h.1.1) (ends b (Refused Reason.Authority) tt h.1)

  -- every call, if the ends of a recovery are known
  halts-call : (c : Call) (b : Book)
      → ((now : ℕ) → c ≡ RecoverLocal now → (good : Bool) (l : Log) (b : Book) → Still l b → Safe (Waits N) End l (recovered good b))
      → Halted N b → Safe (Waits N) End (Took c ∷ []) (begin c b)
  unfolding begin update_state recover_local acquire acquire_checks grant renew renew_checks renewed cancel submit validate admission verdict admit
  halts-call (Tick now) b f h = walk-tick _ _ _ still now _ b _ (tt, h) (λ l' b' h'. ends b' Returned tt h'.1)
  halts-call (UpdateState x now) b f h = walk-tick _ _ _ still now _ b _ (tt, h) (walk-sense _ _ _ still x now)
  halts-call (EmergencyStop now) b f h = walk-stop _ _ _ still now _ b _ (tt, h) (λ l' b' h'. ends b' Returned tt h'.1)
  halts-call (PollEstop raised now) b f h = walk-poll _ _ _ still raised now _ b (tt, h)
  halts-call (RecoverLocal now) b f h = walk-tick _ _ _ still now _ b _ (tt, h) (walk-recover _ _ _ still (f now refl) now)
  halts-call (Acquire r now) b f h =
      walk-tick _ _ _ still now _ b _ (tt, h)
      (λ l' b' h'. refused now b' _ (λ o. grant o r now b') l' h' (λ reason. ends b' (Refused reason) tt h'.1))
  halts-call (Renew r) b f h =
      walk-tick _ _ _ still r.now _ b _ (tt, h)
      (λ l' b' h'. refused r.now b' _ (λ o. renewed o r b') l' h' (λ reason. ends b' (Refused reason) tt h'.1))
  halts-call (Cancel owner id now) b f h = walk-tick _ _ _ still now _ b _ (tt, h) (halts-cancel owner id now)
  halts-call (Submit o) b f h =
      walk-tick _ _ _ still o.now _ b _ (tt, h)
      (λ l' b' h'.
      refused o.now b' _ (λ x. admit (verdict x (order_capability o b') (order_lease o b')) o b') l' h'
      (λ reason. walk-reject _ _ _ still reason o l' b' h'))

unlifted : (N : RuntimeState → Type 0) (b : Book) (a : Answer) → Other a → Halted N b → Unlifted N b a
unlifted N b a o h = (h, λ e. subst Other e o)

-- a recovery ends in a success or halted
recovered-ends : (good : Bool) (l : Log) (b : Book) → Quiet l × Halted Unready b
    → Safe (Waits Unready) (λ l b a. Lifted b a) l (recovered good b)
unfolding recovered with_state with_invalid_count
recovered-ends true l b h = inl (refl, refl)
recovered-ends false l b h = inr (unlifted Unready (with_state State.Faulted b) (Refused Reason.Driver) tt (tt, h.1.1))

-- so does every call
lifted-call : (c : Call) (b : Book) → Halted Unready b → Throughout Unready Lifted (begin c b)
lifted-call c b h =
    throughout Unready Lifted (Took c ∷ []) (begin c b)
    (halts-call Unready unready-lasts Lifted (λ b a o k. inr (unlifted Unready b a o k)) c b (λ now e. recovered-ends) h)

-- and no other ends in a success
unlifted-call : (N : RuntimeState → Type 0) → Lasting N → (c : Call) (b : Book) → ((now : ℕ) → c ≢ RecoverLocal now) → Halted N b
    → Throughout N (Unlifted N) (begin c b)
unlifted-call N n c b other h =
    throughout N (Unlifted N) (Took c ∷ []) (begin c b) (halts-call N n (Unlifted N) (unlifted N) c b (λ now e. absurd (other now e)) h)

pub only-recovery : (b : Book) → Halted Unready b → (c : Call) → ((now : ℕ) → c ≢ RecoverLocal now)
    → Throughout Unready (Unlifted Unready) (begin c b)
only-recovery b h c other = unlifted-call Unready unready-lasts c b other h

-- ---- where an interaction comes to stand

clash : {A : Type 0} → ◌≡◌ {A = ℕ} 0 1 → A
clash z = absurd (zero_one z)
  where
    zero_one : ◌≡◌ {A = ℕ} 0 1 → ⊥
    zero_one z = omega arith

same_answer : {a b : Answer} → Answers a ≡ Answers b → a ≡ b
same_answer e = cc

-- an input that leaves the phase as it was hands out nothing, and answers nothing
hands_none : (p : Phase) (i : Input) → Stays p i → (item : Item) → (react p i).output ≢ Hands item
unfolding logged handed
hands_none p i st item e = let l = subst (λ out. logged i out [] ≡ []) e (st.log []) in clash (cc)

answers-none : (p : Phase) (i : Input) → Stays p i → (a : Answer) → (react p i).output ≢ Answers a
unfolding logged handed arrived took_effect react apply effect shown
answers-none p (Calls c) st a e = let l = subst (λ out. logged (Calls c) out [] ≡ []) e (st.log []) in clash (cc)
answers-none p (Replies r) st a e = let l = subst (λ out. logged (Replies r) out [] ≡ []) e (st.log []) in clash (cc)
answers-none p (Reads q) st a e = go (book_in p) e
  where
    go : (o : Option Book) → shown q o ≢ Answers a
    go None f = clash (cc)
    go (Some b) f = clash (cc)

module _ (N : RuntimeState → Type 0) (E : Book → Answer → Type 0) where
  -- no execute item comes out; and the call has ended as it should, or it has not and rests
  record Lands (r : Reaction) : Type 0 where
    quiet : (c : ℕ) (ps : List ℤ) → r.output ≢ Hands (ItemExecute c ps)
    stands :
        ((b : Book) × (a : Answer) × (r.output ≡ Answers a) × (r.phase ≡ Idle b) × E b a)
        ⊎ (((a : Answer) → r.output ≢ Answers a) × Rests N E r.phase)

  lands : (t : Interaction) → Throughout N E t → Lands (proceed t)
  unfolding proceed
  lands (Done b a) h = record { quiet = λ c ps e. clash (cc); stands = inl (b, a, refl, refl, h) }
  lands (Observe axis b k) h = absurd h
  lands (Execute c ps b k) h = absurd h
  lands (Fallback axis r b k) h = record { quiet = λ c ps e. clash (cc); stands = inr (λ a e. clash (cc), h) }
  lands (Record r b k) h = record { quiet = λ c ps e. clash (cc); stands = inr (λ a e. clash (cc), h) }

  resumes : (p : Phase) (r : Reply) (x : Item) (t u : Interaction) → Stands t p → Takes t r x u → Rests N E p → Throughout N E u
  resumes p r x t u at_observe observed h = absurd h
  resumes p r x t u at_execute executed h = absurd h
  resumes p r x t u at_fallback (fell_back {ok = ok}) h = h.1 ok
  resumes p r x t u at_record recorded h = h.1

  step-lands : (p : Phase) (i : Input) → Step p i → ((b : Book) (c : Call) → i ≡ Calls c → Halted N b → Throughout N E (begin c b))
      → Rests N E p → Lands (react p i)
  unfolding react apply effect called
  step-lands p i (stays st) calls h =
      record { quiet = λ c ps. hands_none p i st (ItemExecute c ps); stands = inr (answers-none p i st, subst (Rests N E) (sym st.phase) h) }
  step-lands p i (tries s axis rest good ok) calls h = absurd h
  step-lands p i (begins b c) calls h = lands (begin c b) (calls b c refl h)
  step-lands p i (answers {r = r} t u a) calls h = rw a.reaction (lands u (resumes p r a.item t u a.stands a.takes h))

-- ---- until a success

landed : (p : Phase) → Stopped p → (i : Input) → Lands Unready Lifted (react p i)
landed p h i = step-lands Unready Lifted p i (step p i) (λ b c e. lifted-call c b) h

pub stopped-stays : (p : Phase) → Stopped p → (i : Input) → ((react p i).output ≡ Answers Succeeded) ⊎ Stopped (react p i).phase
stopped-stays p h i =
    ⊎_elim (λ k. ⊎_elim (λ e. inl (k.2 ∙ ap Answers e.0)) (λ x. inr (subst Stopped (sym k.3) x.0)) k.4) (λ k. inr k.1)
    (landed p h i).stands

pub no-execute : (p : Phase) → Stopped p → (i : Input) (c : ℕ) (ps : List ℤ) → (react p i).output ≢ Hands (ItemExecute c ps)
no-execute p h i c ps = (landed p h i).quiet c ps

pub until-success : (p : Phase) → Stopped p → NoneUntilSuccess p
unfolding outputs_from
until-success p h [] [] after c ps e = clash (cc)
until-success p h [] (out ∷ before) after c ps e = clash (cc)
until-success p h (i ∷ is) [] after c ps e = absurd (no-execute p h i c ps (cc))
until-success p h (i ∷ is) (out ∷ before) after c ps e =
    ⊎_elim (λ f. inl (cc)) (λ k. inr (until-success (react p i).phase k is before after c ps (cc))) (stopped-stays p h i)

-- ---- until a recovery

module _ (N : RuntimeState → Type 0) where
  blocked-at : (r : Reaction) → Lands N (Unlifted N) r → Blocked N r.phase
  blocked-at r k = ⊎_elim (λ h. subst (Blocked N) (sym h.3) h.4.0) (λ h. h.1) k.stands

  no-success : (r : Reaction) → Lands N (Unlifted N) r → r.output ≢ Answers Succeeded
  no-success r k e = ⊎_elim (λ h. h.4.1 (same_answer (sym h.2 ∙ e))) (λ h. h.0 Succeeded e) k.stands

  -- a call that blocks the runtime
  pub blocks : (b : Book) (c : Call) → Throughout N (Unlifted N) (begin c b) → Blocked N (react (Idle b) (Calls c)).phase
  unfolding react apply effect called
  blocks b c h = blocked-at (proceed (begin c b)) (lands N (Unlifted N) (begin c b) h)

  still-blocked : Lasting N → (p : Phase) → Blocked N p → (is : List Input) → Unrecovered is → StillBlocked N p is
  unfolding phase_from outputs_from
  still-blocked n p h [] others = record { blocked = h; no-execute = λ c ps m. m; no-success = λ m. m }
  still-blocked n p h (i ∷ is) others =
      let k = step-lands N (Unlifted N) p i (step p i) (λ b c e. unlifted-call N n c b (λ now f. others now (inl (sym (e ∙ ap Calls f))))) h in
      let rest = still-blocked n (react p i).phase (blocked-at (react p i) k) is (λ now m. others now (inr m)) in
      record {
        blocked = rest.blocked;
        no-execute = λ c ps. ⊎_elim (λ e. k.quiet c ps (sym e)) (rest.no-execute c ps);
        no-success = ⊎_elim (λ e. no-success (react p i) k (sym e)) rest.no-success;
      }

pub until-recovery : (p : Phase) → Blocked Unready p → (is : List Input) → Unrecovered is → StillBlocked Unready p is
until-recovery p h is others = still-blocked Unready unready-lasts p h is others

-- ---- blocked in Estopped

-- weaker states and ends
module _ (N N' : RuntimeState → Type 0) (E E' : Book → Answer → Type 0) (states : (x : RuntimeState) → N x → N' x)
    (ends : (b : Book) (a : Answer) → E b a → E' b a) where
  pub less : (t : Interaction) → Throughout N E t → Throughout N' E' t
  less (Done b a) h = ends b a h
  less (Observe axis b k) h = h
  less (Execute c ps b k) h = h
  less (Fallback axis r b k) h = (states b.state h.0, λ ok. less (k ok) (h.1 ok))
  less (Record r b k) h = (states b.state h.0, less k h.1)

  rests-less : (p : Phase) → Rests N E p → Rests N' E' p
  rests-less (Starting s axis rest good) h = h
  rests-less Gone h = h
  rests-less (Idle b) h = (states b.state h.0, h.1)
  rests-less (Waiting (OnObserve axis b k)) h = h
  rests-less (Waiting (OnExecute c ps b k)) h = h
  rests-less (Waiting (OnFallback axis r b k)) h = less (Fallback axis r b k) h
  rests-less (Waiting (OnRecord r b k)) h = less (Record r b k) h

blocked-stopped : (p : Phase) → Blocked InEstop p → Stopped p
blocked-stopped p h =
    rests-less InEstop Unready (Unlifted InEstop) Lifted estop-lasts.unready
    (λ b a k. inr ((estop-lasts.unready b.state k.0.0, k.0.1), k.1)) p h

same-book : {a b : Book} → Some a ≡ Some b → a ≡ b
same-book e = cc

-- where it is blocked in Estopped, readings see Estopped
shows-estopped : (p : Phase) → Blocked InEstop p → (b : Book) → book_in p ≡ Some b → b.state ≡ State.Estopped
unfolding book_in wait_book
shows-estopped (Starting s axis rest good) h b e = absurd h
shows-estopped Gone h b e = absurd h
shows-estopped (Idle a) h b e = subst (λ x. x.state ≡ State.Estopped) (same-book e) h.0
shows-estopped (Waiting (OnObserve axis a k)) h b e = absurd h
shows-estopped (Waiting (OnExecute c ps a k)) h b e = absurd h
shows-estopped (Waiting (OnFallback axis r a k)) h b e = subst (λ x. x.state ≡ State.Estopped) (same-book e) h.0
shows-estopped (Waiting (OnRecord r a k)) h b e = subst (λ x. x.state ≡ State.Estopped) (same-book e) h.0

pub blocks-dispatch : (p : Phase) → Blocked InEstop p → BlocksDispatch p
blocks-dispatch p h =
    let still = still-blocked InEstop estop-lasts p h in
    record {
      estopped = λ is others b e. shows-estopped (phase_from p is) (still is others).blocked b e;
      unrecovered = still;
      until-success = until-success p (blocked-stopped p h);
    }
