-- What follows a fallback that succeeded, where no axis falls back next: the state is refreshed. Assumes nothing.
use Prim.Native.Nat.{ℕ, ◌+◌, ◌≤◌}
use mathlib.Core.Bool.{true, false≢true}
use mathlib.Core.List.{List}
use mathlib.Core.Path.{◌≡◌, refl, sym, ap, ◌∙◌, subst}
use Rattle.rules.specs.Book.{Book}
use Rattle.rules.specs.Interaction.{Interaction, Done, Succeeded}
use Rattle.rules.specs.Protocol.{proceed}
use Rattle.rules.specs.Rules.{refresh_state}
use Rattle.rules.specs.With.{with_state}
use Rattle.state.specs.Axes.{axes_from, first_due}
use Rattle.state.specs.State.{book_of, after_tick, tick_end, after_fallback_of, after_fallback, phase_at, phase_of, output_of, reaction_of}
use Rattle.state.specs.Stores.{awaiting}
use Rattle.state.specs.declared.AfterFallback.TheVariants as AfterFallback
use Rattle.state.specs.declared.Answer.{Answer}
use Rattle.state.specs.declared.Awaited.TheVariants as Awaited
use Rattle.state.specs.declared.Falling.{Falling}
use Rattle.state.specs.declared.Numbers.{Numbers}
use Rattle.state.specs.declared.Revoked.{Revoked}
use Rattle.state.specs.declared.Waiting.{Waiting}
use Rattle.state.proofs.Axes.{first-miss}
use Rattle.decide_tick.proofs.Due.{is_over, none-due, refreshes}
use Rattle.runtime.specs.declared.Runtime.{Runtime}
use Rattle.runtime.specs.Promises.{Good, MovesIn}
use Rattle.runtime.specs.Runtimes.{tables_in, asked_in, book_on}
use Rattle.host_steps.specs.declared.Onward.TheVariants as Onward
use Rattle.host_steps.specs.Onward.{Comes, ComesTo}
use Rattle.layout.specs.Fields.{with_numbers, with_waiting}
use Rattle.layout.specs.Layout.{runtime_in, Becomes}
use Rattle.layout.specs.Promises.{Goes}
use Rattle.layout.proofs.Chains.{becomes-then, goes_by}
use Rattle.host_replies.specs.declared.Resuming.{Resuming}
use Rattle.host_replies.specs.Altered.{fresh_numbers, refreshed_in, ResumesAs}

-- the state refreshed ---------------------------------------------------------------------------------------------------------

pub refresh-becomes : {w w₁ w' : List ℕ} {numbers next : Numbers} {waits : Waiting} → numbers ≡ (runtime_in w).numbers → next ≡ fresh_numbers numbers
    → waits ≡ awaiting Awaited.Nothing → Becomes w w₁ (with_numbers next (runtime_in w)) → Becomes w₁ w' (with_waiting waits (runtime_in w₁))
    → Becomes w w' (refreshed_in (runtime_in w))
refresh-becomes n x v p q = becomes-then (with_waiting (awaiting Awaited.Nothing)) (rw (x, n) at p) (rw v at q)

refreshed-good : (h : Runtime) → Good h → Good (refreshed_in h)
refreshed-good h k =
    let z = k.kept.sized in
    let q = k.kept.placed in
    let s = k.sound in
    record {
      kept =
          record {
            sized =
                record {
                  leases = z.leases;
                  active = z.active;
                  capabilities = z.capabilities;
                  replay = z.replay;
                  rejected = z.rejected;
                  others = z.others;
                  slots = z.slots;
                  lease = z.lease;
                  order = z.order;
                };
            placed = record { count = q.count; slot = q.slot; capability = q.capability; replay = q.replay; receipts = q.receipts };
          };
      sound =
          record {
            checked = s.checked;
            sized = s.sized;
            counted = s.counted;
            falling = s.falling;
            order = record { axis = s.order.axis; leased = λ e. absurd (false≢true e) };
          };
      started = k.started;
    }

book-refreshed : (h : Runtime) → Good h → refresh_state (book_on h) ≡ book_on (refreshed_in h)
unfolding book_of with_state
book-refreshed h k = refreshes h.numbers.held (book_on h) _ refl k.sound.counted.held

pub cancel-ends : {w w' : List ℕ} → Becomes w w' (refreshed_in (runtime_in w))
    → Goes w w' Answer.Succeeded (Good (runtime_in w)) (proceed (Done (refresh_state (book_on (runtime_in w))) Succeeded))
unfolding reaction_of output_of phase_of phase_at proceed
cancel-ends {w} p =
    goes_by _ p
    (λ g.
    record {
      reaction = ap (λ (b : Book). proceed (Done b Succeeded)) (sym (book-refreshed (runtime_in w) g));
      good = refreshed-good (runtime_in w) g;
    })

expiries-end : (h : Runtime) → Good h → proceed (after_tick (asked_in (refreshed_in h)) (book_on (refreshed_in h))) ≡ proceed (tick_end (asked_in h) (book_on h))
expiries-end h k = ap (λ (b : Book). proceed (after_tick (asked_in h) b)) (sym (book-refreshed h k))

-- the way -----------------------------------------------------------------------------------------------------------------------

abbrev next_in : Runtime → Interaction
next_in h = after_fallback h.falling (tables_in h).capabilities (asked_in h) h.revoked.ok (book_on h)

next-cancel : (h : Runtime) → h.falling.after ≡ AfterFallback.Cancel → h.revoked.ok ≡ true → next_in h ≡ Done (refresh_state (book_on h)) Succeeded
unfolding after_fallback_of
next-cancel h e o = rw (e, o)

next-expiry : (h : Runtime) (next : ℕ) → h.falling.after ≡ AfterFallback.Expiry → h.revoked.ok ≡ true
    → next ≡ first_due h.falling.time (tables_in h).leases (tables_in h).active (h.falling.axis + 1) → 8 ≤ next
    → next_in h ≡ tick_end (asked_in h) (book_on h)
unfolding after_fallback_of book_of
next-expiry h next e o f high =
    let b = book_on h in
    rw (e, o)
    (none-due h.falling.time b (tick_end (asked_in h)) (axes_from (h.falling.axis + 1)) (first-miss (is_over h.falling.time b) (h.falling.axis + 1) next f high))

module _ (w : List ℕ) {falling : Falling} {revoked : Revoked} (way : Resuming) (fa : falling ≡ (runtime_in w).falling) (re : revoked ≡ (runtime_in w).revoked)
    (m : ResumesAs way falling.after revoked.ok) where
  as-in : ResumesAs way (runtime_in w).falling.after (runtime_in w).revoked.ok
  as-in = rw (fa, re) at m

  pub cancel-resumed : {w' : List ℕ} {r : Answer} → way ≡ Resuming.Cancel → Goes w w' r (Good (runtime_in w)) (proceed (Done (refresh_state (book_on (runtime_in w))) Succeeded))
      → ComesTo w w' (Onward.Answers r) (Good (runtime_in w)) (proceed (next_in (runtime_in w)))
  unfolding ResumesAs Comes
  cancel-resumed {w'} {r} v l =
      let h = runtime_in w in
      let k : (h.falling.after ≡ AfterFallback.Cancel) × (h.revoked.ok ≡ true) = subst (λ (x : Resuming). ResumesAs x h.falling.after h.revoked.ok) v as-in in
      record {
        same = l.same;
        comes = λ g. subst (λ (i : Interaction). MovesIn (runtime_in w') r (proceed i)) (sym (next-cancel h k.0 k.1)) (l.moves g);
      }

  pub expiry-resumed : {w' : List ℕ} → way ≡ Resuming.Expiry → (next : ℕ)
      → (Good (runtime_in w) → next ≡ first_due falling.time (tables_in (runtime_in w)).leases (tables_in (runtime_in w)).active (falling.axis + 1)) → 8 ≤ next
      → Becomes w w' (refreshed_in (runtime_in w)) → ComesTo w w' Onward.GoesOn (Good (runtime_in w)) (proceed (next_in (runtime_in w)))
  unfolding ResumesAs Comes
  expiry-resumed {w'} v next look high p =
      let h = runtime_in w in
      let k : (h.falling.after ≡ AfterFallback.Expiry) × (h.revoked.ok ≡ true) = subst (λ (x : Resuming). ResumesAs x h.falling.after h.revoked.ok) v as-in in
      record {
        same = p.same;
        comes =
            λ g. (
              subst Good (sym p.stored) (refreshed-good h g),
              ap (λ (z : Runtime). proceed (after_tick (asked_in z) (book_on z))) p.stored
                  ∙ expiries-end h g
                  ∙ ap proceed (sym (next-expiry h next k.0 k.1 ((rw fa at look) g) high)),
            );
      }
