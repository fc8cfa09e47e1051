-- How a call goes on after its opening tick, and after a fallback. Assumes nothing.
use Prim.Native.Nat.{ℕ}
use mathlib.Core.Bool.{true, not, false≢true}
use mathlib.Core.Logic.{◌≢◌}
use mathlib.Core.Path.{◌≡◌, sym, ap, subst, ◌∙◌}
use native.Mathlib.Omega.{arith}
use lib.Dec.{T}
use lib.ListN.{get_or}
use Rattle.model.specs.Records.{no_lease}
use Rattle.rules.specs.Admission.{first_failing, acquire_checks, renew_checks, held_axis, validate}
use Rattle.rules.specs.Book.{Book}
use Rattle.rules.specs.Interaction.{Interaction, Done, Returned}
use Rattle.rules.specs.Protocol.{proceed}
use Rattle.rules.specs.Rules.{tick, sense, recover, grant, renewed, canceled, admit}
use Rattle.state.specs.Axes.{first_due}
use Rattle.state.specs.State.{Asked, lease_in, book_of, after_tick_of, after_tick, after_fallback}
use Rattle.state.specs.Stores.{goes_on, Leads, TakesWhere}
use Rattle.state.specs.declared.Answer.{Answer}
use Rattle.state.specs.declared.CallKind.{CallKind}
use Rattle.state.specs.declared.Course.{Course}
use Rattle.decide_resume.specs.declared.Search.{Search}
use Rattle.decide_resume.specs.Searches.{ShowsSought, Seeks, ShowsNext}
use Rattle.decide_tick.specs.declared.Begun.{Begun}
use Rattle.decide_tick.specs.declared.Begun.TheVariants.{Quiet, Busy}
use Rattle.decide_tick.specs.Ticks.{ShowsDue}
use Rattle.runtime.specs.declared.Runtime.{Runtime}
use Rattle.runtime.specs.Kept.{followed_in}
use Rattle.runtime.specs.Promises.{Good, MovesIn, Leaves, is_quiet, BegunAs, Begins, Tightens}
use Rattle.runtime.specs.Runtimes.{tables_in, asked_in, asked_at, hand_in, state_in, book_on}
use Rattle.runtime.proofs.Alters.{timed}
use Rattle.runtime.proofs.Courses.{is-yes, is-no, followed-good, followed-moves, followed-on}
use Rattle.runtime.proofs.Slots.{shown-at}

-- what follows the opening tick, by the kind of the call ---------------------------------------------------------------------

module _ (h z : Runtime) (r : Answer) where
  gone : (c : CallKind) → h.pending.kind ≡ c → MovesIn z r (proceed (after_tick_of c (asked_in h) (book_on h)))
      → MovesIn z r (proceed (after_tick (asked_in h) (book_on h)))
  gone c e m = subst (λ (x : CallKind). MovesIn z r (proceed (after_tick_of x (asked_in h) (book_on h)))) (sym e) m

  pub gone-tick : h.pending.kind ≡ CallKind.Tick → MovesIn z r (proceed (Done (book_on h) Returned)) → MovesIn z r (proceed (after_tick (asked_in h) (book_on h)))
  unfolding after_tick_of
  gone-tick e m = gone CallKind.Tick e m

  pub gone-sense : h.pending.kind ≡ CallKind.UpdateState → MovesIn z r (proceed (sense h.pending.flags h.pending.now (book_on h)))
      → MovesIn z r (proceed (after_tick (asked_in h) (book_on h)))
  unfolding after_tick_of
  gone-sense e m = gone CallKind.UpdateState e m

  pub gone-recover : h.pending.kind ≡ CallKind.RecoverLocal → MovesIn z r (proceed (recover h.pending.now (book_on h)))
      → MovesIn z r (proceed (after_tick (asked_in h) (book_on h)))
  unfolding after_tick_of
  gone-recover e m = gone CallKind.RecoverLocal e m

  pub gone-acquire : h.pending.kind ≡ CallKind.Acquire
      → MovesIn z r (proceed (grant (first_failing (acquire_checks h.request h.pending.now (book_on h))) h.request h.pending.now (book_on h)))
      → MovesIn z r (proceed (after_tick (asked_in h) (book_on h)))
  unfolding after_tick_of
  gone-acquire e m = gone CallKind.Acquire e m

  pub gone-renew : h.pending.kind ≡ CallKind.Renew → MovesIn z r (proceed (renewed (first_failing (renew_checks h.renewal (book_on h))) h.renewal (book_on h)))
      → MovesIn z r (proceed (after_tick (asked_in h) (book_on h)))
  unfolding after_tick_of
  gone-renew e m = gone CallKind.Renew e m

  pub gone-cancel : h.pending.kind ≡ CallKind.Cancel
      → MovesIn z r (proceed (canceled (held_axis h.pending.owner h.pending.lease_id (book_on h)) h.pending.now (book_on h)))
      → MovesIn z r (proceed (after_tick (asked_in h) (book_on h)))
  unfolding after_tick_of
  gone-cancel e m = gone CallKind.Cancel e m

  pub gone-submit : h.pending.kind ≡ CallKind.Submit → MovesIn z r (proceed (admit (validate h.submission (book_on h)) h.submission (book_on h)))
      → MovesIn z r (proceed (after_tick (asked_in h) (book_on h)))
  unfolding after_tick_of
  gone-submit e m = gone CallKind.Submit e m

-- a tick ---------------------------------------------------------------------------------------------------------------------

-- a call goes on in a runtime with the same book and the same call in hand
pub goes-as : (h h' : Runtime) → asked_in h' ≡ asked_in h → book_on h' ≡ book_on h → proceed (after_tick (asked_in h') (book_on h')) ≡ proceed (after_tick (asked_in h) (book_on h))
goes-as h h' e f = ap (λ (q : Asked). proceed (after_tick q (book_on h'))) e ∙ ap (λ (b : Book). proceed (after_tick (asked_in h) b)) f

-- the axis that is due, if any, as a look shows it
pub due-shown : (h : Runtime) (time from axis : ℕ) → Good h → axis ≡ first_due time (tables_in h).leases (tables_in h).active from
    → ShowsDue time from axis (get_or h.leases axis no_lease) (tables_in h)
due-shown h time from axis k e =
    record {
      first = e;
      shown = λ less. sym (shown-at lease_in no_lease 8 h.leases axis less (rw k.kept.sized.leases (omega (arith, less))));
    }

module _ (h : Runtime) (c : Course) (i : Interaction) (k : Good h) (l : Leads c (state_in h) i) (z : Runtime) (r : Answer) (left : Leaves (followed_in c h) c.answer z r) where
  pub left-good : Good z
  left-good = subst Good (sym left.stored) (followed-good h c i k l)

  -- where its course goes on with the call in hand, that is what the rules say
  pub followed-after : goes_on c.way ≡ true → proceed (after_tick (asked_in z) (book_on z)) ≡ proceed i
  followed-after e = ap (λ (x : Runtime). proceed (after_tick (asked_in x) (book_on x))) left.stored ∙ followed-on h c i k l e

  -- it goes on after its course, at once
  pub resumes : T (goes_on c.way) → (z' : Runtime) (r' : Answer) → MovesIn z' r' (proceed (after_tick (asked_in z) (book_on z))) → MovesIn z' r' (proceed i)
  resumes t z' r' m = subst (MovesIn z' r') (followed-after (is-yes (goes_on c.way) t)) m

  -- .. with `soonest` made exact first
  pub supervises : T (goes_on c.way) → (y z' : Runtime) (r' : Answer) → Tightens z y → MovesIn z' r' (proceed (after_tick (asked_in y) (book_on y)))
      → MovesIn z' r' (proceed i)
  supervises t y z' r' s m = resumes t z' r' (subst (MovesIn z' r') (goes-as z y s.asked s.book) m)

  -- or it ends
  pub ends_so : T (not (goes_on c.way)) → MovesIn z r (proceed i)
  ends_so t = followed-moves h c i k l z r (is-no (goes_on c.way) t) left

pub busy-loud : Busy ≢ Quiet
busy-loud e = false≢true (ap is_quiet e)

-- the call in hand with its opening tick, which is quiet
pub runs-quiet : (h h' z : Runtime) (time : ℕ) (r : Answer) (g : Begun) → g ≡ Quiet → Begins time (timed time h) h' g
    → MovesIn z r (proceed (after_tick (asked_in h') (book_on h'))) → MovesIn z r (proceed (tick time (book_on h) (after_tick (asked_at time h))))
unfolding BegunAs
runs-quiet h h' z time r Quiet e s m =
    subst (λ (x : Interaction). MovesIn z r (proceed x)) (sym (s.begun (after_tick (asked_at time h))))
    (subst (λ (q : Asked). MovesIn z r (proceed (after_tick q (book_on h')))) s.asked m)
runs-quiet h h' z time r Busy e s m = absurd (busy-loud e)

-- .. or not
pub runs-busy : (h h' z : Runtime) (time : ℕ) (r : Answer) (g : Begun) → g ≡ Busy → Begins time (timed time h) h' g
    → MovesIn z r (proceed (tick time (book_on h') (after_tick (asked_in h')))) → MovesIn z r (proceed (tick time (book_on h) (after_tick (asked_at time h))))
unfolding BegunAs
runs-busy h h' z time r Quiet e s m = absurd (busy-loud (sym e))
runs-busy h h' z time r Busy e s m = subst (λ (x : Runtime). MovesIn z r (proceed (tick time (book_on x) (after_tick (asked_in x))))) s.begun m

-- after a fallback -------------------------------------------------------------------------------------------------------------

pub resumed-leads : (h : Runtime) (s : Search) (axis : ℕ) (c : Course) → Good h → Seeks h.falling s
    → ShowsSought s.sought s.from h.falling.time h.numbers.flags axis (get_or h.leases axis no_lease) (tables_in h)
    → TakesWhere h.fixed h.numbers c (ShowsNext h.falling h.numbers.flags axis (get_or h.leases axis no_lease))
    (λ b q. after_fallback h.falling b.capabilities q h.revoked.ok b)
    → Leads c (state_in h) (after_fallback h.falling (tables_in h).capabilities (asked_in h) h.revoked.ok (book_on h))
unfolding book_of
resumed-leads h s axis c k e shown p =
    p (tables_in h) (asked_in h) (hand_in h) k.sound
    (record { search = s; seeks = e; shown = shown })
