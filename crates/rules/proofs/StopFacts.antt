-- An emergency stop, and a poll that sees a new raise, block dispatch until a recovery succeeds; and all the facts on stops in one record.
-- Assumes nothing.
use Prim.Native.Nat.{ℕ}
use mathlib.Core.Bool.{Bool, true, false}
use mathlib.Core.List.{List, [], ◌∷◌}
use mathlib.Core.Logic.{inr, ◌≢◌}
use mathlib.Core.Path.{◌≡◌, refl, sym, ◌∙◌, subst}
use borrow.Author.Tests.{eq-eqb, ne_eqb}
use Rattle.model.specs.declared.Reason.TheVariants as Reason
use Rattle.model.specs.declared.RuntimeState.{RuntimeState}
use Rattle.model.specs.declared.RuntimeState.TheVariants as State
use Rattle.rules.specs.Book.{Book}
use Rattle.rules.specs.With.{with_leases, with_active, with_receipts, with_next_receipt, with_epoch, with_flags, with_last_tick, with_state, with_estop_seen}
use Rattle.rules.specs.Receipts.{kept}
use Rattle.rules.specs.Interaction.{Answer, Returned, Polled, Interaction, Done}
use Rattle.rules.specs.Rules.{used_axes, bump_epoch, cleared, fallback, tripped, fallbacks, trip, masked, emergency_stop, poll_estop}
use Rattle.rules.specs.Protocol.{Call, EmergencyStop, PollEstop, Calls, Answers, Start, Idle, begin, proceed, called, effect, apply, react}
use Rattle.rules.specs.Log.{History, phase_after, Log, log_of}
use Rattle.rules.specs.StopFacts.{Unready, InEstop, Halted, Throughout, Unlifted, Stopped, BlocksDispatch, StopFacts}
use Rattle.rules.proofs.Safe.{Safe, SafePhase, always}
use Rattle.rules.proofs.Once.{receipt-reports}
use Rattle.rules.proofs.Keeps.{Shared, AnyReason, keeps-fallen}
use Rattle.rules.proofs.StateBook.{Tidy, tidy-opening, OnlyOn, only-used, only-cleared, only_none}
use Rattle.rules.proofs.StateRules.{Seen}
use Rattle.rules.proofs.StateCalls.{End, end-call}
use Rattle.rules.proofs.StateFacts.{state-facts}
use Rattle.rules.proofs.Walks.{Other}
use Rattle.rules.proofs.Stopped.{estop-lasts, Quiet, Waits, throughout, less, blocks, stopped-stays, no-execute, until-success, only-recovery, until-recovery, blocks-dispatch}
use Rattle.rules.proofs.Dispatched.{dispatch-admissible}

-- ---- an idle book

tidy-at : (s : Start) (h : History) (b : Book) → phase_after s h ≡ Idle b → Tidy s b
tidy-at s h b e =
    subst (λ p. SafePhase s (λ l b. Tidy s b) (Seen s) (End s) (log_of s h) p) e
    (always s (λ l b. Tidy s b) (Seen s) (End s) (λ l b a k. k.0) (λ l plain sound. tidy-opening s) (end-call s) h)

idle-stopped : (s : Start) (h : History) (b : Book) → phase_after s h ≡ Idle b → Unready b.state → Stopped (phase_after s h)
idle-stopped s h b e u = subst Stopped (sym e) (u, (state-facts s h).stopped-no-lease b e (λ armed. subst Unready armed u))

-- ---- emergency_stop and poll_estop

estop-trips : (x : RuntimeState) → tripped Reason.Estop x ≡ State.Estopped
unfolding tripped
estop-trips x = refl

-- within a stop, whose fallbacks are still to come on these axes
abbrev Stopping : List ℕ → Log → Book → Type 0
Stopping is l b = Waits InEstop l b × OnlyOn is b

stopping : (is : List ℕ) → Shared AnyReason (Waits InEstop) (Stopping is)
unfolding cleared bump_epoch with_epoch with_leases with_active kept with_next_receipt with_receipts with_state
stopping is =
    record {
      waits = λ l b h. h.0;
      replied = λ r l b h. ((tt, h.0.1), h.1);
      falls = λ axis reason l b any h. ((tt, h.0.1), only-cleared axis is b (λ i x e. inr (h.1 i x e)));
      records = λ r l b quiet h. ((tt, h.0.1), h.1);
      trips = λ reason l b h. ((h.0.0, estop-lasts.trips reason b.state h.0.1), h.1);
    }

module _ (D : Log → Book → Answer → Type 0) where
  stops-axis : (axis : ℕ) (is : List ℕ) (now : ℕ) (l : Log) (b : Book) (next : Bool → Book → Interaction) → Stopping (axis ∷ is) l b
      → ((ok : Bool) (l' : Log) (b' : Book) → Stopping is l' b' → Safe (Waits InEstop) D l' (next ok b'))
      → Safe (Waits InEstop) D l (fallback axis Reason.Estop now b next)
  unfolding cleared bump_epoch with_epoch with_leases with_active
  stops-axis axis is now l b next h f =
      keeps-fallen D (stopping is) axis Reason.Estop now l b next ((tt, h.0.1), only-cleared axis is b h.1) f

  stops-axes : (is : List ℕ) (now : ℕ) (l : Log) (b : Book) (next : Book → Interaction) → Stopping is l b
      → ((l' : Log) (b' : Book) → Halted InEstop b' → Safe (Waits InEstop) D l' (next b'))
      → Safe (Waits InEstop) D l (fallbacks is Reason.Estop now b next)
  unfolding fallbacks
  stops-axes [] now l b next h f = f l b (h.0.1, only_none b h.1)
  stops-axes (axis ∷ is) now l b next h f =
      stops-axis axis is now l b _ h (λ ok l' b' h'. stops-axes is now l' b' next h' f)

  -- a stop is Estopped throughout, and leaves no lease, if leases stand on used axes only
  stops : (now : ℕ) (l : Log) (b : Book) (next : Book → Interaction) → Quiet l → OnlyOn (used_axes b.capabilities) b
      → ((l' : Log) (b' : Book) → Halted InEstop b' → Safe (Waits InEstop) D l' (next b'))
      → Safe (Waits InEstop) D l (emergency_stop now b next)
  unfolding emergency_stop masked trip with_flags with_last_tick with_state
  stops now l b next quiet on f = stops-axes (used_axes b.capabilities) _ l _ next ((quiet, estop-trips b.state), on) f

-- the call answers so, in Estopped and with no lease
abbrev StoppedWith : Answer → Book → Answer → Type 0
StoppedWith x b a = Halted InEstop b × (a ≡ x)

-- which is no success, and so the phase after it blocks dispatch
stopped-after : (s : Start) (h : History) (b : Book) (c : Call) (x : Answer) → phase_after s h ≡ Idle b → Other x
    → Throughout InEstop (StoppedWith x) (begin c b) → BlocksDispatch (phase_after s (Calls c ∷ h))
unfolding phase_after
stopped-after s h b c x idle o t =
    let t' =
    less InEstop InEstop (StoppedWith x) (Unlifted InEstop) (λ y e. e) (λ b a k. (k.0, λ e. subst Other (sym k.1 ∙ e) o)) (begin c b) t in
    subst (λ p. BlocksDispatch (react p (Calls c)).phase) (sym idle) (blocks-dispatch _ (blocks InEstop b c t'))

module _ (s : Start) (h : History) (b : Book) (idle : phase_after s h ≡ Idle b) where
  on-used : OnlyOn (used_axes b.capabilities) b
  on-used = only-used s b (tidy-at s h b idle).0.0.0

  pub stop-throughout : (now : ℕ) → Throughout InEstop (StoppedWith Returned) (begin (EmergencyStop now) b)
  unfolding begin
  stop-throughout now =
      throughout InEstop (StoppedWith Returned) [] (begin (EmergencyStop now) b)
      (stops (λ l b a. StoppedWith Returned b a) now [] b (λ b'. Done b' Returned) tt on-used (λ l' b' k. (k, refl)))

  pub stop-blocks : (now : ℕ) → BlocksDispatch (phase_after s (Calls (EmergencyStop now) ∷ h))
  stop-blocks now = stopped-after s h b (EmergencyStop now) Returned idle tt (stop-throughout now)

  pub raise-throughout : (raised now : ℕ) → raised ≢ b.estop_seen
      → Throughout InEstop (StoppedWith (Polled true)) (begin (PollEstop raised now) b)
  unfolding begin poll_estop with_estop_seen
  raise-throughout raised now new =
      throughout InEstop (StoppedWith (Polled true)) [] (begin (PollEstop raised now) b)
      (rw (ne_eqb raised b.estop_seen new)
      (stops (λ l b a. StoppedWith (Polled true) b a) now [] (with_estop_seen raised b) (λ b'. Done b' (Polled true)) tt on-used
      (λ l' b' k. (k, refl))))

  pub raise-blocks : (raised now : ℕ) → raised ≢ b.estop_seen → BlocksDispatch (phase_after s (Calls (PollEstop raised now) ∷ h))
  raise-blocks raised now new = stopped-after s h b (PollEstop raised now) (Polled true) idle tt (raise-throughout raised now new)

pub seen-raise : (b : Book) (now : ℕ)
    → react (Idle b) (Calls (PollEstop b.estop_seen now)) ≡ record { output = Answers (Polled false); phase = Idle b }
unfolding react apply effect called begin poll_estop proceed
seen-raise b now = rw (eq-eqb b.estop_seen b.estop_seen refl)

-- ---- all of them

pub stop-facts : StopFacts
stop-facts =
    record {
      stays = stopped-stays;
      no-execute = no-execute;
      until-success = until-success;
      only-recovery = only-recovery;
      until-recovery = until-recovery;
      idle-stopped = idle-stopped;
      stop-throughout = stop-throughout;
      stop-blocks = stop-blocks;
      raise-throughout = raise-throughout;
      raise-blocks = raise-blocks;
      seen-raise = seen-raise;
      dispatch-admissible = dispatch-admissible;
      receipt-reports = receipt-reports;
    }
