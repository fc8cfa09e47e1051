-- The first failing check of `submit` is none exactly when the order is admissible: each of 01's 17 conditions holds, stated plainly.
-- Assumes nothing.
use Prim.Native.Nat.{ℕ, ◌^◌, ◌≤◌, ◌<◌}
use mathlib.Core.Bool.{Bool, true, false, cond, not, ◌&&◌, false≢true}
use mathlib.Core.List.{List, [], ◌∷◌}
use mathlib.Core.Logic.{inl, inr, ◌≢◌, ◌↔◌}
use Rattle.std.specs.Prelude.{Option, Some, None}
use Rattle.model.proofs.Options.{some-ne-none}
use mathlib.Core.Path.{◌≡◌, refl, sym, ap, ◌∙◌}
use borrow.Author.Tests.{ltb-true, leb-true, leb-false, ltb-false, eqb-true, eqb-false, lt-ltb, le-leb, lt-leb, le-ltb, eq-eqb, ne_eqb, not-true}
use lib.Bits.{bit_and}
use lib.Dec.{leb, ltb, eqb}
use lib.IntN.{ℤ}
use Rattle.model.specs.declared.Bounds.{Bounds}
use Rattle.model.specs.declared.Capability.{Capability}
use Rattle.model.specs.declared.Lease.{Lease}
use Rattle.model.specs.declared.Replay.{Replay}
use Rattle.model.specs.declared.RuntimeState.{RuntimeState}
use Rattle.model.specs.declared.RuntimeState.TheVariants as State
use Rattle.model.specs.declared.Submission.{Submission}
use Rattle.model.specs.Bounds.{contains}
use Rattle.model.specs.Words.{share_no_bit}
use Rattle.model.proofs.Tests.{and-when, and_both}
use Rattle.model.proofs.Meaning.{contains-means, means-contains, permits-means, means-permits}
use Rattle.rules.proofs.Basics.{neither}
use Rattle.rules.specs.Book.{Book, lease_at}
use Rattle.rules.specs.Admission.{Check, first_failing, holds_of, is_some, is_estopped, is_faulted, is_stale, ready, bad_duration, order_capability, lease_for, order_lease, has_bit, authorizes, well_formed, is_entry, find_entry, replayed, valid_until, all_contain, admission}
use Rattle.rules.specs.Lists.{Mem}
use Rattle.rules.proofs.Records.{named-with, with-named}
use Rattle.rules.specs.Admissible.{Inside, Admissible}

-- ---- a list of checks

abbrev pub AllHold : List Check → Type 0
AllHold [] = Unit
AllHold (c ∷ cs) = (c.holds ≡ true) × AllHold cs

pub none-fails : (cs : List Check) → first_failing cs ≡ None → AllHold cs
unfolding first_failing
none-fails [] e = tt
none-fails (c ∷ cs) e = go c.holds refl e (none-fails cs)
  where
    go : (t : Bool) → c.holds ≡ t → cond t (first_failing cs) (Some c.reason) ≡ None
        → (first_failing cs ≡ None → AllHold cs) → (c.holds ≡ true) × AllHold cs
    go true h f rest = (h, rest f)
    go false h f rest = absurd (some-ne-none _ f)

pub fails-none : (cs : List Check) → AllHold cs → first_failing cs ≡ None
unfolding first_failing
fails-none [] h = refl
fails-none (c ∷ cs) h = rw h.0 (fails-none cs h.1)

-- ---- the tests and what they mean

some_of : {A : Type 0} (o : Option A) → is_some o ≡ true → (a : A) × (o ≡ Some a)
unfolding is_some
some_of None e = absurd (false≢true e)
some_of (Some a) e = (a, refl)

is-some : {A : Type 0} {o : Option A} {a : A} → o ≡ Some a → is_some o ≡ true
unfolding is_some
is-some e = rw e

held_of : {A : Type 0} (o : Option A) (test : A → Bool) → holds_of o test ≡ true → (a : A) × (o ≡ Some a)
unfolding holds_of
held_of None test e = absurd (false≢true e)
held_of (Some a) test e = (a, refl)

pub held-at : {A : Type 0} {o : Option A} {a : A} (test : A → Bool) → o ≡ Some a → holds_of o test ≡ true → test a ≡ true
unfolding holds_of
held-at test e h = rw e at h

at_held : {A : Type 0} {o : Option A} {a : A} (test : A → Bool) → o ≡ Some a → test a ≡ true → holds_of o test ≡ true
unfolding holds_of
at_held test e h = rw e h

pub not-estopped : (x : RuntimeState) → not (is_estopped x) ≡ true → x ≢ State.Estopped
unfolding is_estopped
not-estopped x h e = absurd (false≢true (rw e at h))

pub estopped-not : (x : RuntimeState) → x ≢ State.Estopped → not (is_estopped x) ≡ true
unfolding is_estopped
estopped-not State.SafeIdle h = refl
estopped-not State.Armed h = refl
estopped-not State.Faulted h = refl
estopped-not State.Estopped h = absurd (h refl)

pub not-faulted : (x : RuntimeState) → not (is_faulted x) ≡ true → x ≢ State.Faulted
unfolding is_faulted
not-faulted x h e = absurd (false≢true (rw e at h))

pub faulted-not : (x : RuntimeState) → x ≢ State.Faulted → not (is_faulted x) ≡ true
unfolding is_faulted
faulted-not State.SafeIdle h = refl
faulted-not State.Armed h = refl
faulted-not State.Faulted h = absurd (h refl)
faulted-not State.Estopped h = refl

pub nonzero : (n : ℕ) → not (eqb n 0) ≡ true → n ≢ 0
nonzero n h = eqb-false n 0 (not-true _ h)

pub zero-not : (n : ℕ) → n ≢ 0 → not (eqb n 0) ≡ true
zero-not n h = ap not (ne_eqb n 0 h)

pub duration-fits : (d limit : ℕ) → not (bad_duration d limit) ≡ true → (d ≢ 0) × (d ≤ limit)
unfolding bad_duration
duration-fits d limit h =
    let k = neither (eqb d 0) (ltb limit d) (not-true _ h) in
    (eqb-false d 0 k.0, ltb-false limit d k.1)

pub fits-duration : (d limit : ℕ) → d ≢ 0 → d ≤ limit → not (bad_duration d limit) ≡ true
unfolding bad_duration
fits-duration d limit h k = rw (ne_eqb d 0 h, le-ltb limit d k)

contained : (bs : List Bounds) (ps : List ℤ) → all_contain bs ps ≡ true → Inside bs ps
unfolding all_contain
contained [] ps h = tt
contained (b ∷ bs) [] h = tt
contained (b ∷ bs) (p ∷ ps) h =
    let k = and_both (contains b p) (all_contain bs ps) h in
    (contains-means b p k.0, contained bs ps k.1)

inside-contained : (bs : List Bounds) (ps : List ℤ) → Inside bs ps → all_contain bs ps ≡ true
unfolding all_contain
inside-contained [] ps h = refl
inside-contained (b ∷ bs) [] h = refl
inside-contained (b ∷ bs) (p ∷ ps) h =
    sym (and-when (means-contains b p h.0.0 h.0.1) (sym (inside-contained bs ps h.1)))

-- no entry of the ring has this owner and action id
abbrev Unused : ℕ → ℕ → List Replay → Type 0
Unused owner action es = (e : Replay) → Mem e es → e.owner ≡ owner → e.action_id ≢ action

missed : (x : Replay) (t : Bool) (o : Option Replay) → is_some (cond t (Some x) o) ≡ false → (t ≡ false) × (is_some o ≡ false)
unfolding is_some
missed x true o h = absurd (false≢true (sym h))
missed x false o h = (refl, h)

is-entry : (owner action : ℕ) (x : Replay) → x.owner ≡ owner → x.action_id ≡ action → is_entry owner action x ≡ true
unfolding is_entry
is-entry owner action x p q = sym (and-when (eq-eqb _ _ p) (sym (eq-eqb _ _ q)))

entry-is : (owner action : ℕ) (x : Replay) → is_entry owner action x ≡ true → (x.owner ≡ owner) × (x.action_id ≡ action)
unfolding is_entry
entry-is owner action x h =
    let k = and_both (eqb x.owner owner) (eqb x.action_id action) h in
    (eqb-true _ _ k.0, eqb-true _ _ k.1)

unused : (owner action : ℕ) (es : List Replay) → is_some (find_entry owner action es) ≡ false → Unused owner action es
unfolding find_entry
unused owner action [] h e m p q = absurd m
unused owner action (x ∷ es) h e (inl same) p q =
    absurd
    (false≢true
    (sym (missed x (is_entry owner action x) (find_entry owner action es) h).0 ∙ is-entry owner action x (rw same at p) (rw same at q)))
unused owner action (x ∷ es) h e (inr m) p q = unused owner action es (missed x (is_entry owner action x) (find_entry owner action es) h).1 e m p q

not_entry : (owner action : ℕ) (x : Replay) (es : List Replay) (t : Bool) → is_entry owner action x ≡ t
    → Unused owner action (x ∷ es) → is_some (find_entry owner action es) ≡ false
    → is_some (cond t (Some x) (find_entry owner action es)) ≡ false
not_entry owner action x es false h u f = f
not_entry owner action x es true h u f = let k = entry-is owner action x h in absurd (u x (inl refl) k.0 k.1)

used-none : (owner action : ℕ) (es : List Replay) → Unused owner action es → is_some (find_entry owner action es) ≡ false
unfolding find_entry is_some
used-none owner action [] u = refl
used-none owner action (x ∷ es) u =
    not_entry owner action x es (is_entry owner action x) refl u (used-none owner action es (λ e m. u e (inr m)))

-- ---- the 17 checks

pub lease-on : (s : Submission) (b : Book) (c : Capability) → order_capability s b ≡ Some c → order_lease s b ≡ lease_at b c.resource
unfolding order_lease lease_for
lease-on s b c e = rw e

authorized : (s : Submission) (l : Lease) → authorizes s l ≡ true
    → (l.id ≡ s.action.lease_id)
    × ((l.owner ≡ s.principal) × (bit_and l.capabilities (2 ^ s.action.capability) ≢ 0))
unfolding authorizes has_bit share_no_bit
authorized s l h =
    let bit = not (share_no_bit l.capabilities (2 ^ s.action.capability)) in
    let k = and_both (eqb l.id s.action.lease_id) (eqb l.owner s.principal && bit) h in
    let j = and_both (eqb l.owner s.principal) bit k.1 in
    (eqb-true _ _ k.0, (eqb-true _ _ j.0, nonzero _ j.1))

authorizing : (s : Submission) (l : Lease) → l.id ≡ s.action.lease_id → l.owner ≡ s.principal
    → bit_and l.capabilities (2 ^ s.action.capability) ≢ 0 → authorizes s l ≡ true
unfolding authorizes has_bit share_no_bit
authorizing s l i o m = sym (and-when (eq-eqb _ _ i) (and-when (eq-eqb _ _ o) (sym (zero-not _ m))))

-- the parts of the check that answers 10
pub record Formed (s : Submission) (b : Book) : Type 0 where
  pub numbered : (s.action.action_id ≢ 0) × (s.action.sequence ≢ 0)
  pub received : s.received_at ≤ s.now
  pub validity : (s.action.valid_for_ms ≢ 0) × (s.action.valid_for_ms ≤ b.config.max_valid_for_ms)
  pub window : s.action.execute_after < s.action.deadline

formed : (s : Submission) (b : Book) → well_formed s b ≡ true → Formed s b
unfolding well_formed
formed s b h =
    let k₁ = and_both (not (eqb s.action.action_id 0)) _ h in
    let k₂ = and_both (not (eqb s.action.sequence 0)) _ k₁.1 in
    let k₃ = and_both (leb s.received_at s.now) _ k₂.1 in
    let k₄ = and_both (not (bad_duration s.action.valid_for_ms b.config.max_valid_for_ms)) _ k₃.1 in
    record {
      numbered = (nonzero _ k₁.0, nonzero _ k₂.0);
      received = leb-true _ _ k₃.0;
      validity = duration-fits _ _ k₄.0;
      window = ltb-true _ _ k₄.1;
    }

forming : (s : Submission) (b : Book) → Formed s b → well_formed s b ≡ true
unfolding well_formed
forming s b f =
    sym
    (and-when (zero-not _ f.numbered.0)
    (and-when (zero-not _ f.numbered.1)
    (and-when (le-leb _ _ f.received)
    (and-when (fits-duration _ _ f.validity.0 f.validity.1) (sym (lt-ltb _ _ f.window))))))

pub holds-admissible : (s : Submission) (b : Book) → AllHold (admission s b) → Admissible s b
unfolding admission ready is_stale valid_until replayed order_capability
holds-admissible s b h =
    let known = some_of (order_capability s b) h.1.1.1.1.1.1.0 in
    let held = held_of (order_lease s b) (authorizes s) h.1.1.1.1.1.1.1.0 in
    let form = formed s b h.1.1.1.1.1.1.1.1.0 in
    let fit = and_both (holds_of (order_capability s b) (λ c. all_contain c.bounds s.action.parameters)) _ h.1.1.1.1.1.1.1.1.1.1.1.1.1.1.1.0 in
    let who = and_both (not (eqb s.principal 0)) _ h.1.1.1.1.1.0 in
    let time = and_both (ltb s.now s.action.deadline) _ h.1.1.1.1.1.1.1.1.1.1.1.1.0 in
    record {
      capability = known.0;
      lease = held.0;
      not-estopped = not-estopped _ h.0;
      not-faulted = not-faulted _ h.1.0;
      clock = leb-true _ _ h.1.1.0;
      fresh = leb-false _ _ (not-true _ h.1.1.1.0);
      boot = eqb-true _ _ h.1.1.1.1.0;
      principal = (nonzero _ who.0, eqb-true _ _ who.1);
      known = named-with _ b.capabilities _ known.1;
      leased = sym (lease-on s b known.0 known.1) ∙ held.1;
      authority = authorized s held.0 (held-at (authorizes s) held.1 h.1.1.1.1.1.1.1.0);
      numbered = form.numbered;
      received = form.received;
      validity = form.validity;
      window = form.window;
      unused = unused _ _ b.replay (not-true _ h.1.1.1.1.1.1.1.1.1.0);
      sequence = ltb-true _ _ (held-at _ held.1 h.1.1.1.1.1.1.1.1.1.1.0);
      fits = leb-true _ _ h.1.1.1.1.1.1.1.1.1.1.1.0;
      in-time = (ltb-true _ _ time.0, ltb-true _ _ time.1);
      not-early = leb-true _ _ h.1.1.1.1.1.1.1.1.1.1.1.1.1.0;
      epoch = eqb-true _ _ h.1.1.1.1.1.1.1.1.1.1.1.1.1.1.0;
      bounds = (contained _ _ (held-at _ known.1 fit.0), contained _ _ (held-at _ held.1 fit.1));
      flags = permits-means _ _ (held-at _ known.1 h.1.1.1.1.1.1.1.1.1.1.1.1.1.1.1.1.0);
    }

pub admissible-holds : (s : Submission) (b : Book) → Admissible s b → AllHold (admission s b)
unfolding admission ready is_stale valid_until replayed order_capability
admissible-holds s b a =
    let known = with-named a.known in
    let held = lease-on s b a.capability known ∙ a.leased in
    let form : Formed s b = record { numbered = a.numbered; received = a.received; validity = a.validity; window = a.window } in (
      estopped-not _ a.not-estopped,
      (
        faulted-not _ a.not-faulted,
        (
          le-leb _ _ a.clock,
          (
            ap not (lt-leb _ _ a.fresh),
            (
              eq-eqb _ _ a.boot,
              (
                sym (and-when (zero-not _ a.principal.0) (sym (eq-eqb _ _ a.principal.1))),
                (
                  is-some known,
                  (
                    at_held (authorizes s) held (authorizing s a.lease a.authority.0 a.authority.1.0 a.authority.1.1),
                    (
                      forming s b form,
                      (
                        ap not (used-none _ _ b.replay a.unused),
                        (
                          at_held _ held (lt-ltb _ _ a.sequence),
                          (
                            le-leb _ _ a.fits,
                            (
                              sym (and-when (lt-ltb _ _ a.in-time.0) (sym (lt-ltb _ _ a.in-time.1))),
                              (
                                le-leb _ _ a.not-early,
                                (
                                  eq-eqb _ _ a.epoch,
                                  (
                                    sym (and-when (at_held _ known (inside-contained _ _ a.bounds.0)) (sym (at_held _ held (inside-contained _ _ a.bounds.1)))),
                                    (at_held _ known (means-permits _ _ a.flags.0 a.flags.1), tt),
                                  ),
                                ),
                              ),
                            ),
                          ),
                        ),
                      ),
                    ),
                  ),
                ),
              ),
            ),
          ),
        ),
      ),
    )

-- the first failing check of submit is none exactly when each of the 17 conditions holds
pub admitted-exactly : (s : Submission) (b : Book) → (first_failing (admission s b) ≡ None) ↔ Admissible s b
admitted-exactly s b =
    (λ e. holds-admissible s b (none-fails (admission s b) e), λ a. fails-none (admission s b) (admissible-holds s b a))
