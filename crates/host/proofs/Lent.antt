-- Lent words that are as they have to be, or not, and what is promised then. Assumes nothing.
use Prim.Native.Nat.{ℕ, ◌%◌, ◌≤◌, ◌<◌}
use mathlib.Core.Bool.{Bool, true, false, false≢true, cond, not, ◌&&◌, and-true}
use mathlib.Core.List.{List, [], ◌∷◌}
use Rattle.std.specs.Prelude.{Option, Some, None}
use mathlib.Core.Path.{◌≡◌, refl, sym, ap, ap₂, ◌∙◌, subst}
use native.Mathlib.Nat.{mod-eq_of_lt}
use native.Mathlib.Omega.{arith}
use borrow.Author.Tests.{lt-ltb, le-ltb, le-leb, eq-eqb, ne_eqb, ltb-false, eqb-true, eqb-false, not-true, not-false}
use lib.Dec.{eqb, ltb, leb}
use lib.IntN.{ℤ}
use lib.ListN.{length, get_or}
use mir.Syntax.{w64}
use mir.Val.{Fits}
use Rattle.std.specs.Prelude.{Option, Some, None, is_some, option_and_then}
use Rattle.model.specs.Reasons.{number}
use Rattle.model.specs.declared.LeaseRequest.{LeaseRequest}
use Rattle.model.specs.declared.Observation.{Observation}
use Rattle.model.specs.declared.Presence.{Presence}
use Rattle.model.specs.declared.Presence.TheVariants.{Absent, Present}
use Rattle.model.specs.declared.Reason.{Reason}
use Rattle.model.specs.declared.Submission.{Submission}
use Rattle.rules.specs.Protocol.{Input, Calls, Acquire, Submit, Replies, Observed, Item, ItemObserve, ItemExecute, ItemFallback, ItemRecord, Output, Answers, ReadLease}
use Rattle.rules.specs.Interaction.{Refused}
use Rattle.state.specs.State.{output_of}
use Rattle.state.specs.declared.Answer.{Answer}
use Rattle.format.specs.Decode.{Record, Feeds, Malformed, word, request_of, submission_of, turn_of, reading_of, record_of, checked, checked_kind, decode}
use Rattle.format.specs.Kinds.{kind_at, lookup, kinds, turn_limits, limits_of, within}
use Rattle.format.specs.declared.ReadingKind.{ReadingKind}
use Rattle.format.specs.declared.RecordKind.{RecordKind}
use Rattle.format.specs.declared.RecordKind.TheVariants as Kind
use Rattle.format.specs.declared.TurnKind.{TurnKind}
use Rattle.format.specs.declared.TurnKind.TheVariants as Turn
use Rattle.cells.specs.Cells.{part}
use Rattle.format.specs.Encode.{encode}
use Rattle.decide_read.specs.Shown.{shown_item}
use Rattle.decide_reply.specs.Replies.{observation_in}
use Rattle.runtime.specs.Runtimes.{state_in}
use Rattle.runtime.specs.Stages.{RuntimeSound}
use Rattle.layout.specs.Layout.{runtime_in}
use Rattle.host_calls.specs.Calls.{Steps}
use Rattle.host_records.specs.declared.Taken.{Taken}
use Rattle.host_records.specs.Standings.{Says, Takes}
use Rattle.host_records.proofs.Answers.{seen_as, fed_or, is_fed}
use Rattle.host.specs.Host.{version, fault_of, lack_of, fault_at, number_of, record_with, observed_with, asked, item_output, shown_output, Served, Asks, Writes, TellsOf, Tells, ShowsOf, Refusal, Records}

-- what the tests decide ---------------------------------------------------------------------------------------------------

pub is-size : {n : ℕ} {b : Bool} → b ≡ eqb n 2464 → not b ≡ false → n ≡ 2464
is-size {n} {b} e h = eqb-true n 2464 (sym e ∙ not-false b h)

pub other-size : (n : ℕ) {b : Bool} → b ≡ eqb n 2464 → not b ≡ true → n ≡ 2464 → ⊥
other-size n {b} e h = eqb-false n 2464 (sym e ∙ not-true b h)

pub word-there : {k n : ℕ} {b : Bool} → k < 2464 → b ≡ eqb n 2464 → not b ≡ false → k < n
word-there {n = n} l e h = let s = is-size {n = n} e h in omega (arith, l, s)

pub fault-short : (w : List ℕ) → (length w ≡ 2464 → ⊥) → 65 ≡ fault_of w
unfolding fault_of
fault-short w h = rw (ne_eqb (length w) 2464 h)

pub fault-other : (w : List ℕ) → length w ≡ 2464 → (get_or w 0 0 ≡ version → ⊥) → 66 ≡ fault_of w
unfolding fault_of
fault-other w h n = rw (eq-eqb (length w) 2464 h, ne_eqb (get_or w 0 0) version n)

pub fault-none : (w : List ℕ) → length w ≡ 2464 → get_or w 0 0 ≡ version → 0 ≡ fault_of w
unfolding fault_of
fault-none w h e = rw (eq-eqb (length w) 2464 h, eq-eqb (get_or w 0 0) version e)

not_short : (b c : Bool) → ◌≡◌ {A = ℕ} (cond b (cond c 0 66) 65) 0 → b ≡ true
not_short true c e = refl
not_short false c e = absurd (omega (arith, e))

not-other : (b c : Bool) → ◌≡◌ {A = ℕ} (cond b (cond c 0 66) 65) 0 → c ≡ true
not-other true true e = refl
not-other true false e = absurd (omega (arith, e))
not-other false c e = absurd (omega (arith, e))

-- words without a fault are as many as there are to be, and have the first word
pub whole_of : (w : List ℕ) → fault_of w ≡ 0 → length w ≡ 2464
unfolding fault_of
whole_of w e = eqb-true (length w) 2464 (not_short (eqb (length w) 2464) (eqb (get_or w 0 0) version) e)

pub first_of : (w : List ℕ) → fault_of w ≡ 0 → get_or w 0 0 ≡ version
unfolding fault_of
first_of w e = eqb-true (get_or w 0 0) version (not-other (eqb (length w) 2464) (eqb (get_or w 0 0) version) e)

pub enough : (w : List ℕ) {f : ℕ} → f ≡ fault_of w → f ≡ 0 → 2464 ≤ length w
enough w e z = let n = whole_of w (sym e ∙ z) in omega (arith, n)

pub lack-fault : (w out : List ℕ) {f : ℕ} → f ≡ fault_of w → (f ≡ 0 → ⊥) → f ≡ lack_of w out
unfolding lack_of
lack-fault w out e n = rw (ne_eqb (fault_of w) 0 (λ z. n (e ∙ z))) e

pub lack-short : (w out : List ℕ) {f : ℕ} → f ≡ fault_of w → f ≡ 0 → length out < 26 → 65 ≡ lack_of w out
unfolding lack_of
lack-short w out e z h = rw (eq-eqb (fault_of w) 0 (sym e ∙ z), lt-ltb (length out) 26 h)

pub lack-none : (w out : List ℕ) {f : ℕ} → f ≡ fault_of w → f ≡ 0 → 26 ≤ length out → 0 ≡ lack_of w out
unfolding lack_of
lack-none w out e z h = rw (eq-eqb (fault_of w) 0 (sym e ∙ z), le-ltb (length out) 26 h)

-- .. and where there is room
lack-fit : (b : Bool) (n f : ℕ) → ◌≡◌ {A = ℕ} (cond b n f) 0 → (b ≡ false → f ≡ 0 → ⊥) → b ≡ true
lack-fit true n f e ne = refl
lack-fit false n f e ne = absurd (ne refl e)

no-fault : (w out : List ℕ) → lack_of w out ≡ 0 → fault_of w ≡ 0
unfolding lack_of
no-fault w out e = eqb-true (fault_of w) 0 (lack-fit (eqb (fault_of w) 0) _ _ e (λ b z. false≢true (sym b ∙ eq-eqb (fault_of w) 0 z)))

pub lent-enough : (w out : List ℕ) {f : ℕ} → f ≡ lack_of w out → f ≡ 0 → 2464 ≤ length w
lent-enough w out e z = enough w (sym (no-fault w out (sym e ∙ z))) refl

has_room : (b : Bool) → ◌≡◌ {A = ℕ} (cond b 65 0) 0 → b ≡ false
has_room true e = absurd (omega (arith, e))
has_room false e = refl

pub lent-room : (w out : List ℕ) {f : ℕ} → f ≡ lack_of w out → f ≡ 0 → 26 ≤ length out
unfolding lack_of
lent-room w out e z =
    let q = sym e ∙ z in
    ltb-false (length out) 26 (has_room (ltb (length out) 26) (subst (λ (b : Bool). ◌≡◌ {A = ℕ} (cond b (cond (ltb (length out) 26) 65 0) (fault_of w)) 0) (eq-eqb (fault_of w) 0 (no-fault w out q)) q))

pub at-lack : (w f out : List ℕ) {n : ℕ} → n ≡ lack_of w out → (n ≡ 0 → ⊥) → n ≡ fault_at w f out
unfolding fault_at
at-lack w f out e n = rw (ne_eqb (lack_of w out) 0 (λ z. n (e ∙ z))) e

pub at-short : (w f out : List ℕ) {n : ℕ} → n ≡ lack_of w out → n ≡ 0 → (length f ≡ 16 → ⊥) → 64 ≡ fault_at w f out
unfolding fault_at
at-short w f out e z h = rw (eq-eqb (lack_of w out) 0 (sym e ∙ z), ne_eqb (length f) 16 h)

pub at_none : (w f out : List ℕ) {n : ℕ} → n ≡ lack_of w out → n ≡ 0 → length f ≡ 16 → 0 ≡ fault_at w f out
unfolding fault_at
at_none w f out e z h = rw (eq-eqb (lack_of w out) 0 (sym e ∙ z), eq-eqb (length f) 16 h)

no-lack : (w f out : List ℕ) → fault_at w f out ≡ 0 → lack_of w out ≡ 0
unfolding fault_at
no-lack w f out e =
    eqb-true (lack_of w out) 0 (lack-fit (eqb (lack_of w out) 0) _ _ e (λ b z. false≢true (sym b ∙ eq-eqb (lack_of w out) 0 z)))

pub at-enough : (w f out : List ℕ) {n : ℕ} → n ≡ fault_at w f out → n ≡ 0 → 2464 ≤ length w
at-enough w f out e z = lent-enough w out (sym (no-lack w f out (sym e ∙ z))) refl

pub at_room : (w f out : List ℕ) {n : ℕ} → n ≡ fault_at w f out → n ≡ 0 → 26 ≤ length out
at_room w f out e z = lent-room w out (sym (no-lack w f out (sym e ∙ z))) refl

whole : (b : Bool) → ◌≡◌ {A = ℕ} (cond b 0 64) 0 → b ≡ true
whole true e = refl
whole false e = absurd (omega (arith, e))

pub at-whole : (w f out : List ℕ) {n : ℕ} → n ≡ fault_at w f out → n ≡ 0 → length f ≡ 16
unfolding fault_at
at-whole w f out e z =
    let q = sym e ∙ z in
    eqb-true (length f) 16 (whole (eqb (length f) 16) (subst (λ (b : Bool). ◌≡◌ {A = ℕ} (cond b (cond (eqb (length f) 16) 0 64) (lack_of w out)) 0) (eq-eqb (lack_of w out) 0 (no-lack w f out q)) q))

-- a slice of words -------------------------------------------------------------------------------------------------------

unknown : (k : Option RecordKind) (ws : List ℕ) → is_some k ≡ false → record_of k ws ≡ Malformed
unfolding record_of
unknown (Some k) ws e = absurd (false≢true (sym e))
unknown None ws e = refl

pub known : (ws : List ℕ) → is_some (checked_kind ws) ≡ true → checked_kind ws ≡ kind_at (word ws 0)
unfolding checked_kind checked
known ws e = found (kind_at (word ws 0)) e
  where
    passed : (b : Bool) (k : RecordKind) → is_some (cond b (Some k) None) ≡ true → cond b (Some k) None ≡ Some k
    passed true k e = refl
    passed false k e = absurd (false≢true e)

    found : (k : Option RecordKind) → is_some (option_and_then (checked ws) k) ≡ true → option_and_then (checked ws) k ≡ k
    found None e = refl
    found (Some k) e = passed (within ws (limits_of k)) k e

pub asked-short : (kind k : ℕ) (f : List ℕ) → (length f ≡ k → ⊥) → asked kind k f ≡ Malformed
unfolding asked
asked-short kind k f n = rw (ne_eqb (length f) k n)

pub asked-unread : (kind k : ℕ) (f : List ℕ) → length f ≡ k → is_some (checked_kind (record_with kind f 0 k)) ≡ false → asked kind k f ≡ Malformed
unfolding asked decode
asked-unread kind k f e u = rw (eq-eqb (length f) k e) (unknown (checked_kind (record_with kind f 0 k)) (record_with kind f 0 k) u)

asked-known : (kind k : ℕ) (f : List ℕ) → length f ≡ k → is_some (checked_kind (record_with kind f 0 k)) ≡ true
    → asked kind k f ≡ record_of (kind_at kind) (record_with kind f 0 k)
unfolding asked decode
asked-known kind k f e u =
    rw (eq-eqb (length f) k e) (ap (λ (x : Option RecordKind). record_of x (record_with kind f 0 k)) (known (record_with kind f 0 k) u))

pub asked-acquire : (f : List ℕ) → length f ≡ 9 → is_some (checked_kind (record_with 21 f 0 9)) ≡ true
    → asked 21 9 f ≡ Feeds (Calls (Acquire (request_of (record_with 21 f 0 9)) (word (record_with 21 f 0 9) 1)))
unfolding record_of turn_of kind_at lookup kinds
asked-acquire f e u = asked-known 21 9 f e u

pub asked-submit : (f : List ℕ) → length f ≡ 15 → is_some (checked_kind (record_with 24 f 0 15)) ≡ true
    → asked 24 15 f ≡ Feeds (Calls (Submit (submission_of (record_with 24 f 0 15))))
unfolding record_of turn_of kind_at lookup kinds
asked-submit f e u = asked-known 24 15 f e u

-- a test of a word by itself -----------------------------------------------------------------------------------------------

-- a word is never above what 64 bits hold
wide : {x : ℕ} → Fits w64 x → leb x 18446744073709551615 ≡ true
wide {x} h = let l : x < 18446744073709551616 = h.fits in le-leb x 18446744073709551615 (omega (arith, l))

known-turn : (b : Bool) (t : TurnKind) → is_some (cond b (Some (Kind.Turn t)) None) ≡ b
known-turn true t = refl
known-turn false t = refl

-- the words of a request and of an order that can be above what their fields hold
abbrev pub request_fits : List ℕ → Bool
request_fits f =
    leb (get_or f 2 0) 255 && (leb (get_or f 4 0) 4294967295 && (leb (get_or f 5 0) 4294967295 && (leb (get_or f 6 0) 4294967295 && (leb (get_or f 7 0) 4294967295 && (leb (get_or f 8 0) 4294967295)))))

abbrev pub order_fits : List ℕ → Bool
order_fits f =
    leb (get_or f 8 0) 65535 && (leb (get_or f 12 0) 4294967295 && (leb (get_or f 13 0) 4294967295 && (leb (get_or f 14 0) 4294967295)))

request-within : (f : List ℕ) → ((i : ℕ) → Fits w64 (get_or f i 0)) → within (record_with 21 f 0 9) (turn_limits Turn.Acquire) ≡ request_fits f
unfolding within turn_limits part
request-within f k = rw (wide (k 0), wide (k 1), wide (k 3), and-true (leb (get_or f 8 0) 4294967295))

order-within : (f : List ℕ) → ((i : ℕ) → Fits w64 (get_or f i 0)) → within (record_with 24 f 0 15) (turn_limits Turn.Submit) ≡ order_fits f
unfolding within turn_limits part
order-within f k =
    rw (wide (k 0), wide (k 1), wide (k 2), wide (k 3), wide (k 4), wide (k 5), wide (k 6), wide (k 7), wide (k 9), wide (k 10), wide (k 11), and-true (leb (get_or f 14 0) 4294967295))

pub request-known : (f : List ℕ) → ((i : ℕ) → Fits w64 (get_or f i 0)) → is_some (checked_kind (record_with 21 f 0 9)) ≡ request_fits f
unfolding checked_kind checked kind_at lookup kinds limits_of
request-known f k = known-turn (within (record_with 21 f 0 9) (turn_limits Turn.Acquire)) Turn.Acquire ∙ request-within f k

pub order-known : (f : List ℕ) → ((i : ℕ) → Fits w64 (get_or f i 0)) → is_some (checked_kind (record_with 24 f 0 15)) ≡ order_fits f
unfolding checked_kind checked kind_at lookup kinds limits_of
order-known f k = known-turn (within (record_with 24 f 0 15) (turn_limits Turn.Submit)) Turn.Submit ∙ order-within f k

-- what is promised -------------------------------------------------------------------------------------------------------

module _ {w w' : List ℕ} {f r : ℕ} {i : Record} (e : f ≡ fault_of w) where
  pub turned-away : (f ≡ 0 → ⊥) → r ≡ f → w' ≡ w → Asks w w' r i
  turned-away n q s =
      record { refused = λ _. (q ∙ e, s); unread = λ z. absurd (n (e ∙ z)); served = λ z. absurd (n (e ∙ z)) }

  pub not-read : f ≡ 0 → i ≡ Malformed → r ≡ 64 → w' ≡ w → Asks w w' r i
  not-read z m q s =
      record {
        refused = λ n. absurd (n (sym e ∙ z));
        unread = λ _ _. (q, s);
        served = λ _ x k. absurd (false≢true (ap is_fed (sym m ∙ k)));
      }

  pub is-served : {a : Answer} {x : Input} → f ≡ 0 → i ≡ Feeds x → Steps w w' a x → r ≡ number_of a → Asks w w' r i
  is-served {a} {x} z k s q =
      record {
        refused = λ n. absurd (n (sym e ∙ z));
        unread = λ _ m. absurd (false≢true (ap is_fed (sym m ∙ k)));
        served = λ _ y l. subst (Served w w' r) (ap (fed_or x) (sym k ∙ l)) (record { answer = a; number = q; steps = s });
      }

-- .. of what the driver observed
pub observes : {w w' : List ℕ} {n r : ℕ} {a : Answer} {p : Presence} {v u v' u' : ℤ} (ok : Bool) (sensed : ℕ) → n ≡ fault_of w → n ≡ 0 → p ≡ cond ok Present Absent
    → v' ≡ v → u' ≡ u
    → Steps w w' a (Replies (Observed (observation_in (record { presence = p; observation = record { parameters = v' ∷ u' ∷ []; state = sensed } })))) → r ≡ number_of a
    → Asks w w' r (Feeds (Replies (Observed (observed_with ok v u sensed))))
observes {w} {w'} {a = a} {p = p} {v = v} {u = u} {v' = v'} {u' = u'} ok sensed e z q f g s m =
    is-served e z refl (subst (λ (o : Option Observation). Steps w w' a (Replies (Observed o))) (seen_as {b = ok} {o = seen v' u'} {o' = seen v u} q refl (ap₂ seen f g)) s) m
  where
    seen : ℤ → ℤ → Observation
    seen x y = record { parameters = x ∷ y ∷ []; state = sensed }

-- .. of a slice whose words were read
pub acquires : {w w' words : List ℕ} (f : List ℕ) {n r : ℕ} {q : LeaseRequest} {b : Bool} {a : Answer} → n ≡ fault_of w → n ≡ 0 → length f ≡ 9
    → b ≡ is_some (checked_kind (record_with 21 f 0 9)) → b ≡ true → words ≡ record_with 21 f 0 9 → q ≡ request_of words
    → Steps w w' a (Calls (Acquire q (word words 1))) → r ≡ number_of a → Asks w w' r (asked 21 9 f)
acquires {w} {w'} {words} f {a = a} e z l k y is q s m =
    is-served e z (asked-acquire f l (sym k ∙ y))
    (subst (λ (ws : List ℕ). Steps w w' a (Calls (Acquire (request_of ws) (word ws 1)))) is (subst (λ (x : LeaseRequest). Steps w w' a (Calls (Acquire x (word words 1)))) q s)) m

pub submits : {w w' words : List ℕ} (f : List ℕ) {n r : ℕ} {q : Submission} {b : Bool} {a : Answer} → n ≡ fault_of w → n ≡ 0 → length f ≡ 15
    → b ≡ is_some (checked_kind (record_with 24 f 0 15)) → b ≡ true → words ≡ record_with 24 f 0 15 → q ≡ submission_of words
    → Steps w w' a (Calls (Submit q)) → r ≡ number_of a → Asks w w' r (asked 24 15 f)
submits {w} {w'} f {a = a} e z l k y is q s m =
    is-served e z (asked-submit f l (sym k ∙ y)) (subst (λ (x : Submission). Steps w w' a (Calls (Submit x))) (q ∙ ap submission_of is) s) m

pub unread-of : {w w' : List ℕ} (kind k : ℕ) (f : List ℕ) {n r : ℕ} {b : Bool} → n ≡ fault_of w → n ≡ 0 → length f ≡ k
    → b ≡ is_some (checked_kind (record_with kind f 0 k)) → b ≡ false → r ≡ 64 → w' ≡ w → Asks w w' r (asked kind k f)
unread-of kind k f e z l q ne = not-read e z (asked-unread kind k f l (sym q ∙ ne))

-- what a host is told ----------------------------------------------------------------------------------------------------

module _ {w out out' : List ℕ} {n r : ℕ} {x : Output} (e : n ≡ lack_of w out) where
  pub tells-lack : (n ≡ 0 → ⊥) → r ≡ n → out' ≡ out → Tells w out out' r x
  tells-lack ne q s = record { refused = λ _. (q ∙ e, s); told = λ z. absurd (ne (e ∙ z)) }

  pub tells : (ws : List ℕ) → n ≡ 0 → Writes out out' r ws → (RuntimeSound (runtime_in w) → ws ≡ encode x) → Tells w out out' r x
  tells ws z s q = record { refused = λ ne. absurd (ne (sym e ∙ z)); told = λ _. record { words = ws; writes = s; says = q } }

-- .. what a record did
pub told_of : {w ws v u out out' : List ℕ} {d : Taken} {r : ℕ} → v ≡ ws → Writes out out' r u → Says w d v u → TellsOf w d ws out out' r
told_of {w} {u = u} {d = d} e s q = record { words = u; writes = s; says = subst (λ (x : List ℕ). Says w d x u) e q }

pub taken-so : {w w' ws v : List ℕ} {d : Taken} → v ≡ ws → Takes w w' d v (decode v) → Takes w w' d ws (decode ws)
taken-so {w} {w'} {d = d} e k = subst (λ (x : List ℕ). Takes w w' d x (decode x)) e k

-- .. a reading
pub tells-read : {w out out' : List ℕ} {n r : ℕ} {kind : ReadingKind} (ws : List ℕ) → n ≡ lack_of w out → n ≡ 0 → TellsOf w (Taken.Read kind) ws out out' r
    → ShowsOf w out out' r (reading_of kind ws)
unfolding Says
tells-read ws e z t = tells e t.words z t.writes t.says

pub item-said : (x : Option Item) → shown_output (shown_item x) ≡ item_output x
unfolding shown_item
item-said None = refl
item-said (Some (ItemObserve axis)) = refl
item-said (Some (ItemExecute c ps)) = refl
item-said (Some (ItemFallback axis reason)) = refl
item-said (Some (ItemRecord r)) = refl

-- records ----------------------------------------------------------------------------------------------------------------

module _ {w w' f out out' : List ℕ} {n r : ℕ} (e : n ≡ fault_at w f out) where
  pub records-fault : (n ≡ 0 → ⊥) → r ≡ n → w' ≡ w → out' ≡ out → Records w w' f out out' r
  records-fault ne q s t = record { refused = λ _. ((q ∙ e, s), t); stepped = λ z. absurd (ne (e ∙ z)) }

  pub records : {d : Taken} → n ≡ 0 → Takes w w' d (part f 0 16) (decode (part f 0 16)) → TellsOf w' d (part f 0 16) out out' r → Records w w' f out out' r
  records z k t =
      record {
        refused = λ ne. absurd (ne (sym e ∙ z));
        stepped = λ _. record { words = t.words; writes = t.writes; goes = k.goes t.words t.says };
      }

-- the reason of a refusal ------------------------------------------------------------------------------------------------

module _ {w : List ℕ} {n r : ℕ} (e : n ≡ fault_of w) where
  pub refuses-fault : (n ≡ 0 → ⊥) → r ≡ n → Refusal w r
  refuses-fault ne q = record { refused = λ _. q ∙ e; told = λ z. absurd (ne (e ∙ z)) }

  pub refuses : {x : Reason} → n ≡ 0 → output_of Answer.Refused (state_in (runtime_in w)) ≡ Answers (Refused x) → r ≡ number x → Refusal w r
  refuses {x} z q k = record { refused = λ ne. absurd (ne (sym e ∙ z)); told = λ _. record { reason = x; is = k; says = q } }

-- the axis of a reading fits its field
pub of-axis : {w out out' : List ℕ} {r axis : ℕ} → axis < 256 → ShowsOf w out out' r (ReadLease (axis % 256)) → ShowsOf w out out' r (ReadLease axis)
of-axis {w} {out} {out'} {r} h t = subst (λ (x : ℕ). ShowsOf w out out' r (ReadLease x)) (mod-eq_of_lt h) t
