-- The facts about the state, after every history: read off what every call keeps. Assumes nothing.
use Prim.Native.Nat.{ℕ, ◌≤◌}
use mathlib.Core.Bool.{true, false}
use mathlib.Core.List.{◌∷◌}
use mathlib.Core.Logic.{inl, inr, ◌≢◌}
use Rattle.std.specs.Prelude.{Option, Some, None}
use Rattle.std.proofs.lemmas.Option.{none-some}
use Rattle.model.proofs.Options.{some-injective}
use mathlib.Core.Path.{◌≡◌, refl, subst}
use native.Mathlib.Omega.{arith}
use Rattle.model.specs.declared.Lease.{Lease}
use Rattle.model.specs.declared.Reason.TheVariants.{Startup}
use Rattle.model.specs.declared.Receipt.{Receipt}
use Rattle.model.specs.Soundness.{axis_used}
use Rattle.rules.specs.Book.{Book, lease_at}
use Rattle.rules.specs.Interaction.{Answer, Returned, Done}
use Rattle.rules.specs.Rules.{exhausted, tick}
use Rattle.rules.specs.Protocol.{Tick, Input, ItemFallback, ItemRecord, Hands, Start, Phase, Starting, Gone, Idle, Waiting, book_in, begin, react}
use Rattle.rules.specs.Log.{History, phase_after, output_after, Log, log_of, Exchange}
use Rattle.rules.specs.Way.{Runs}
use Rattle.rules.specs.StateFacts.{KeepsOne, StateFacts}
use Rattle.rules.proofs.Basics.{neither}
use Rattle.rules.proofs.Receipts.{one_more}
use Rattle.rules.proofs.Trees.{OfFallback, ends, follows-tick, answers-as}
use Rattle.rules.proofs.Ends.{ended, before-idle}
use Rattle.rules.proofs.Safe.{SafePhase, at-wait, always}
use Rattle.rules.proofs.Once.{book-facts}
use Rattle.rules.proofs.Outcomes.{Brought, brings}
use Rattle.rules.proofs.StateBook.{Good, Tidy, tidy-opening, armed-by, unarmed}
use Rattle.rules.proofs.StateRules.{NoClock, Seen}
use Rattle.rules.proofs.StateCalls.{End, end-call}
use Rattle.rules.proofs.TickRevokes.{revokes}

module _ (s : Start) where
  -- the invariant between calls
  abbrev AtRest : Log → Book → Type 0
  AtRest l b = Tidy s b

  kept-always : (h : History) → SafePhase s AtRest (Seen s) (End s) (log_of s h) (phase_after s h)
  kept-always h = always s AtRest (Seen s) (End s) (λ l b a k. k.0) (λ l plain sound. tidy-opening s) (end-call s) h

  brought : (h : History) → Brought (Seen s) (End s) (output_after s h)
  brought h = brings s AtRest (Seen s) (End s) (λ l b a k. k.0) (λ l plain sound. tidy-opening s) (end-call s) h

  tidy-at : (h : History) (b : Book) → phase_after s h ≡ Idle b → Tidy s b
  tidy-at h b e = subst (λ p. SafePhase s AtRest (Seen s) (End s) (log_of s h) p) e (kept-always h)

  good-in : (l : Log) (p : Phase) (b : Book) → SafePhase s AtRest (Seen s) (End s) l p → book_in p ≡ Some b → Good s b
  unfolding book_in
  good-in l (Starting own axis rest good) b h e = absurd (none-some b e)
  good-in l Gone b h e = absurd (none-some b e)
  good-in l (Idle a) b h e = subst (λ x. Good s x) (some-injective _ _ e) h.0.0
  good-in l (Waiting w) b h e = subst (λ x. Good s x) (some-injective _ _ e) (at-wait (Seen s) (End s) l w h).0

  good-at : (h : History) (b : Book) → book_in (phase_after s h) ≡ Some b → Good s b
  good-at h b e = good-in (log_of s h) (phase_after s h) b (kept-always h) e

  used-at : (b : Book) → Good s b → (axis : ℕ) → lease_at b axis ≢ None → axis_used b.capabilities axis ≡ true
  used-at b h axis n = rw h.0.capabilities (go (lease_at b axis) refl)
    where
      go : (o : Option Lease) → lease_at b axis ≡ o → axis_used s.capabilities axis ≡ true
      go None e = absurd (n e)
      go (Some x) e = h.0.used axis x e

  stamp-at : (b : Book) → Good s b → exhausted b ≡ false → b.state_at ≤ b.last_tick
  unfolding exhausted
  stamp-at b h e =
      let p = neither _ _ e in
      let q = neither _ _ p.1 in
      h.0.stamp p.0 q.0 q.1

  -- a record item is no startup fallback
  no_record : (r : Receipt) → Brought (Seen s) (End s) (Hands (ItemRecord r)) → NoClock r.decision r.reason
  no_record r (inl h) = absurd (apart h.1)
    where
      apart : {axis : ℕ} → ItemRecord r ≡ ItemFallback axis Startup → ⊥
      apart e = let z : ◌≡◌ {A = ℕ} 0 1 = cc in omega arith
  no_record r (inr h) = h.2.1

  one-receipt : (h : History) (b : Book) → book_in (phase_after s h) ≡ Some b → (i : Input) (b' : Book) → book_in (phase_after s (i ∷ h)) ≡ Some b'
      → KeepsOne (output_after s (i ∷ h)) b.receipts b'.receipts
  unfolding output_after log_of
  one-receipt h b e i b' e' =
      rw ((book-facts s h b e).receipts, (book-facts s (i ∷ h) b' e').receipts) (one_more i (react (phase_after s h) i).output (log_of s h))

  -- the call is the rule, and returns
  as-tick : (now : ℕ) (b b' : Book) (x : Exchange) (a : Answer) → x.call ≡ Tick now → Runs (begin x.call b) x.replies x.items (Done b' a)
      → Runs (tick now b (λ b''. Done b'' Returned)) x.replies x.items (Done b' Returned)
  unfolding begin
  as-tick now b b' x a call w =
      let w' : Runs (tick now b (λ b''. Done b'' Returned)) x.replies x.items (Done b' a) = rw call at w in
      let same : a ≡ Returned = answers-as {Q = OfFallback} {P = λ a. a ≡ Returned} (follows-tick (λ r q. q) now (λ b. ends (refl, refl)) b) w' in
      subst (λ (a : Answer). Runs (tick now b (λ b''. Done b'' Returned)) x.replies x.items (Done b' a)) same w'

  pub state-facts : (h : History) → StateFacts s h
  state-facts h =
      record {
        armed-exactly = λ b e. let k = tidy-at h b e in (k.1, armed-by s b k.0);
        stopped-no-lease = λ b e. unarmed s b (tidy-at h b e).0;
        idle-no-lease = λ b e. (good-at h b e).1;
        on-used-axis = λ b e. used-at b (good-at h b e);
        mask-only-estopped = λ b e. (good-at h b e).0.mask;
        stamp-before-tick = λ b e. stamp-at b (good-at h b e);
        never-clock = λ e. (subst (Brought (Seen s) (End s)) e (brought h)).2.1 refl;
        never-clock-record = λ r e. no_record r (subst (Brought (Seen s) (End s)) e (brought h));
        never-clock-receipt = λ r e. (subst (Brought (Seen s) (End s)) e (brought h)).2.1;
        tick-revokes = λ b e now replies items b' w. revokes s now b b' (tidy-at h b e) w;
        tick-call = λ x b now a out e f call.
            let k = ended s h x b e f a out in
            let idle = before-idle s h b f in
            (k.book, k.idle, revokes s now b k.book (tidy-at idle.0 b idle.1) (as-tick now b k.book x a call k.run));
        one-receipt = one-receipt h;
      }
