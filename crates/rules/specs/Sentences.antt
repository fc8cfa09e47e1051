-- The customer's sentences (00, demand 3), and 01's that belong to them, each from the claim alone: nothing is used here but the claim and the
-- definitions that it names, so that no part of it can be weakened unnoticed.
use Rattle.std.specs.Prelude.{ℕ, ◌+◌, ◌-◌, ◌<◌, ◌≤◌, ◌^◌, min, true, false, List, [], ◌∷◌, ◌++◌, map, ◌⊎◌, ◌≢◌, ◌↔◌, ◌≡◌, refl, ℤ, ◌≤ℤ◌, take, set}
use Rattle.std.proofs.lemmas.Bool.{false≢true}
use Rattle.std.proofs.Common.{inl, inr, ◌∙◌, subst, arith}
use Rattle.std.specs.Prelude.{Option, Some, None}
use Rattle.std.proofs.Math.Path.{sym, ap}
use Rattle.std.specs.Int.Bits.{bit_and}
use Rattle.std.specs.Prelude.{slice_get}
use Rattle.model.specs.declared.Action.{Action}
use Rattle.model.specs.declared.Active.{Active}
use Rattle.model.specs.declared.Bounds.{Bounds}
use Rattle.model.specs.declared.Capability.{Capability}
use Rattle.model.specs.declared.Decision.TheVariants as Decision
use Rattle.model.specs.declared.ExecutionClass.{ExecutionClass}
use Rattle.model.specs.declared.ExecutionClass.TheVariants as Class
use Rattle.model.specs.declared.Lease.{Lease}
use Rattle.model.specs.declared.LeaseRequest.{LeaseRequest}
use Rattle.model.specs.declared.Observation.{Observation}
use Rattle.model.specs.declared.Reason.{Reason}
use Rattle.model.specs.declared.Receipt.{Receipt}
use Rattle.model.specs.declared.Renewal.{Renewal}
use Rattle.model.specs.declared.Replay.{Replay}
use Rattle.model.specs.declared.RuntimeState.TheVariants as State
use Rattle.model.specs.declared.Submission.{Submission}
use Rattle.model.specs.declared.Verification.{Verification}
use Rattle.rules.specs.Lists.{Mem, Distinct}
use Rattle.rules.specs.Book.{Book, lease_at}
use Rattle.rules.specs.Receipts.{top, bump}
use Rattle.rules.specs.Interaction.{Answer, Leased, Submitted, Done}
use Rattle.rules.specs.Admissible.{Admissible}
use Rattle.rules.specs.Rules.{used_axes, replay_capacity, trip}
use Rattle.rules.specs.Protocol.{Call, Acquire, Renew, Submit, Reply, Observed, Executed, Recorded, FellBack, Reading, Calls, Replies, Reads, Item, ItemObserve, ItemExecute, ItemFallback, ItemRecord, Output, Started, StartRefused, Hands, Answers, Reminds, Refuses, Shows, NoRuntime, Start, Idle, book_in, read}
use Rattle.rules.specs.Lives.{Life}
use Rattle.rules.specs.Log.{History, phase_after, output_after, Took, Replied, Handed, Ended, Log, handed, took_effect, arrived, logged, log_of, opened, book_before, call_of, Exchange, with_reply, with_item, current, start_items, start_replies, executed_in, next_number, receipts_kept, observing, Admitted, admissions, entry_of, highest, is_grant, Tenancy, live}
use Rattle.rules.specs.Epoch.{seen_raise, flags_of, bumps}
use Rattle.rules.specs.SoundStart.{Named, SoundStart}
use Rattle.rules.specs.Turns.{awaited, fits, Proceeds}
use Rattle.rules.specs.AnswerFacts.{answered_receipts, Falling, AnswersTo, OfOrder, Verified, AllFour, ActiveSo, stream, discrete, control, FailedBy, unobserved, unexecuted, unobserved-after, unverified, Asked}
use Rattle.rules.specs.Grantable.{Grantable, Renewable}
use Rattle.rules.specs.Way.{Runs, Ticked}
use Rattle.rules.specs.Claim.{Between, name_of, OpensSo, AreUsed, Claim}
use Rattle.rules.specs.Claim as Claimed
use Rattle.rules.specs.LiveLease.{GrantedTo, live-means}

-- lists ----------------------------------------------------------------------------------------------------------------

distinct-after : {A : Type 0} (xs ys : List A) → Distinct (xs ++ ys) → Distinct ys
distinct-after [] ys d = d
distinct-after (x ∷ xs) ys d = distinct-after xs ys d.1

mem-at : {A : Type 0} (a : A) (xs ys : List A) → Mem a (xs ++ (a ∷ ys))
mem-at a [] ys = inl refl
mem-at a (x ∷ xs) ys = inr (mem-at a xs ys)

-- a name that no entry after it has
apart_from : (before : List Replay) (e : Replay) (between : List Replay) (f : Replay) (after : List Replay)
    → Distinct (map name_of (before ++ (e ∷ (between ++ (f ∷ after))))) → name_of e ≢ name_of f
apart_from (x ∷ before) e between f after d q = apart_from before e between f after d.1 q
apart_from [] e between f after d q = d.0 (subst (λ n. Mem n (map name_of (between ++ (f ∷ after)))) (sym q) (among between))
  where
    among : (between : List Replay) → Mem (name_of f) (map name_of (between ++ (f ∷ after)))
    among [] = inl refl
    among (x ∷ between) = inr (among between)

-- receipts whose numbers rise, or fall
above : (m n : ℕ) (between : List Receipt) (q : Receipt) (after : List Receipt) → Between m n (between ++ (q ∷ after)) → m ≤ q.receipt_id
above m n [] q after b = b.0.0
above m n (r ∷ between) q after b = omega (arith, b.0.0, above (r.receipt_id + 1) n between q after b.1)

rises : (m n : ℕ) (before : List Receipt) (r : Receipt) (between : List Receipt) (q : Receipt) (after : List Receipt)
    → Between m n (before ++ (r ∷ (between ++ (q ∷ after)))) → r.receipt_id < q.receipt_id
rises m n [] r between q after b = omega (arith, above (r.receipt_id + 1) n between q after b.1)
rises m n (x ∷ before) r between q after b = rises (x.receipt_id + 1) n before r between q after b.1

below : (n : ℕ) (between : List Receipt) (q : Receipt) (after : List Receipt) → Falling n (between ++ (q ∷ after)) → q.receipt_id < n
below n [] q after f = f.0
below n (r ∷ between) q after f = omega (arith, f.0, below r.receipt_id between q after f.1)

falls : (n : ℕ) (before : List Receipt) (r : Receipt) (between : List Receipt) (q : Receipt) (after : List Receipt)
    → Falling n (before ++ (r ∷ (between ++ (q ∷ after)))) → q.receipt_id < r.receipt_id
falls n [] r between q after f = below r.receipt_id between q after f.1
falls n (x ∷ before) r between q after f = falls x.receipt_id before r between q after f.1

-- what is heard ------------------------------------------------------------------------------------------------------------

-- a call in hand with these replies, whatever it has handed out
pub record InHand (c : Call) (rs : List Reply) (l : Log) : Type 0 where
  pub exchange : Exchange
  pub stands : current l ≡ Some exchange
  pub call : exchange.call ≡ c
  pub replies : exchange.replies ≡ rs

-- an item or an answer leaves it so
still-in-hand : (c : Call) (rs : List Reply) (out : Output) (l : Log) → took_effect out ≡ true → InHand c rs l → InHand c rs (handed out ++ l)
unfolding handed took_effect current with_item
still-in-hand c rs Started l t k = k
still-in-hand c rs (StartRefused n) l t k = k
still-in-hand c rs (Hands item) l t k = record { exchange = _; stands = ap (with_item item) k.stands; call = k.call; replies = k.replies }
still-in-hand c rs (Answers a) l t k = record { exchange = k.exchange; stands = k.stands; call = k.call; replies = k.replies }
still-in-hand c rs (Reminds n item) l t k = absurd (false≢true t)
still-in-hand c rs (Refuses n) l t k = absurd (false≢true t)
still-in-hand c rs (Shows v) l t k = absurd (false≢true t)
still-in-hand c rs NoRuntime l t k = absurd (false≢true t)

call-in-hand : (c : Call) (out : Output) (l : Log) → took_effect out ≡ true → InHand c [] (logged (Calls c) out l)
unfolding logged arrived current
call-in-hand c out l t =
    rw t (still-in-hand c [] out (Took c ∷ l) t (record { exchange = record { call = c; replies = []; items = [] }; stands = refl; call = refl; replies = refl }))

reply-in-hand : (c : Call) (rs : List Reply) (r : Reply) (out : Output) (l : Log) → took_effect out ≡ true → InHand c rs l
    → InHand c (rs ++ (r ∷ [])) (logged (Replies r) out l)
unfolding logged arrived current with_reply
reply-in-hand c rs r out l t k =
    rw t
    (still-in-hand c (rs ++ (r ∷ [])) out (Replied r ∷ l) t
    (record { exchange = _; stands = ap (with_reply r) k.stands; call = k.call; replies = ap (λ (q : List Reply). q ++ (r ∷ [])) k.replies }))

opened-on : (c : Call) (out : Output) (b : Book) (old : Option Book) → took_effect out ≡ true → opened (Calls c) out (Some b) old ≡ Some b
unfolding opened
opened-on c out b old t = rw t

-- two orders with all eleven fields alike
pub record Alike (o p : Action) : Type 0 where
  pub boot : o.boot_id ≡ p.boot_id
  pub requester : o.requester ≡ p.requester
  pub lease : o.lease_id ≡ p.lease_id
  pub action : o.action_id ≡ p.action_id
  pub sequence : o.sequence ≡ p.sequence
  pub capability : o.capability ≡ p.capability
  pub epoch : o.based_on_epoch ≡ p.based_on_epoch
  pub execute-after : o.execute_after ≡ p.execute_after
  pub deadline : o.deadline ≡ p.deadline
  pub validity : o.valid_for_ms ≡ p.valid_for_ms
  pub parameters : o.parameters ≡ p.parameters

alike_same : (o p : Action) → Alike o p → o ≡ p
alike_same o p a =
    λ i. record {
      boot_id = a.boot i;
      requester = a.requester i;
      lease_id = a.lease i;
      action_id = a.action i;
      sequence = a.sequence i;
      capability = a.capability i;
      based_on_epoch = a.epoch i;
      execute_after = a.execute-after i;
      deadline = a.deadline i;
      valid_for_ms = a.validity i;
      parameters = a.parameters i;
    }

-- an item or an answer is an effect
took : (out : Output) → Proceeds out → took_effect out ≡ true
unfolding took_effect
took out (inl k) = ap took_effect k.1
took out (inr k) = ap took_effect k.1

-- the call in hand, by the log
call_in : Option Exchange → Option Call
call_in None = None
call_in (Some x) = Some x.call

calls : (l : Log) → call_in (current l) ≡ call_of l
unfolding current call_of call_in with_reply with_item
calls [] = refl
calls (Took c ∷ l) = refl
calls (Replied r ∷ l) = same (current l) ∙ calls l
  where
    same : (x : Option Exchange) → call_in (with_reply r x) ≡ call_in x
    same None = refl
    same (Some x) = refl
calls (Handed i ∷ l) = same (current l) ∙ calls l
  where
    same : (x : Option Exchange) → call_in (with_item i x) ≡ call_in x
    same None = refl
    same (Some x) = refl
calls (Ended a ∷ l) = calls l

-- a record with an id is one of the records
among : {id : ℕ} {cs : List Capability} {k : Capability} → Named id cs k → Mem k cs
among {cs = cs} {k = k} n = subst (Mem k) (sym n.place) (mem-at k n.earlier n.later)

-- the statements' own records ----------------------------------------------------------------------------------------------

-- the opening tick of a submission in hand ended with a book in which every check holds; these replies came after it
pub record AdmittedIn (before : Book) (o : Submission) (x : Exchange) (later : List Reply) : Type 0 where
  pub book : Book
  pub ticked : Ticked o.now before x book
  pub replies : ticked.later ≡ later
  pub checks : Admissible o book

-- the principal holds the axis: by a grant of this life, to it, on the capability's axis, with the capability's bit, unexpired, with no
-- fallback on the axis since
pub record Holds (s : Start) (l : Log) (o : Submission) : Type 0 where
  pub capability : Capability
  pub known : Mem capability s.capabilities
  pub id : capability.id ≡ o.action.capability
  pub tenancy : Tenancy
  pub stands : live capability.resource l ≡ Some tenancy
  pub granted : GrantedTo capability.resource tenancy l
  pub lease : tenancy.lease ≡ o.action.lease_id
  pub owner : tenancy.owner ≡ o.principal
  pub bit : bit_and tenancy.capabilities (2 ^ o.action.capability) ≢ 0
  pub unexpired : o.now < tenancy.expires

holds : {s : Start} {l : Log} {o : Submission} → Claimed.Leased s l o → Holds s l o
holds {l = l} k =
    record {
      capability = k.capability;
      known = among k.known;
      id = k.known.own;
      tenancy = k.tenancy;
      stands = k.stands;
      granted = live-means k.capability.resource l k.tenancy k.stands;
      lease = k.lease;
      owner = k.owner;
      bit = k.bit;
      unexpired = k.unexpired;
    }

-- demand 3 -----------------------------------------------------------------------------------------------------------------

-- why an order failed ------------------------------------------------------------------------------------------------

-- 16 where the driver failed, 17 where what was observed is not what was ordered
pub failed-by : {v : Verification} {ps : List ℤ} {steps : List Reply} {reason : Reason} → FailedBy v ps steps reason
    → ((reason ≡ Reason.Driver) × (Mem (Observed None) steps ⊎ Mem (Executed false) steps))
    ⊎ ((reason ≡ Reason.Verification) × (first : Observation) × (second : Observation)
    × (steps ≡ Observed (Some first) ∷ Executed true ∷ Observed (Some second) ∷ []) × (Verified v ps second → ⊥))
failed-by unobserved = inl (refl, inl (inl refl))
failed-by unexecuted = inl (refl, inr (inr (inl refl)))
failed-by unobserved-after = inl (refl, inl (inr (inr (inl refl))))
failed-by (unverified n) = inr (refl, _, _, refl, n)

-- how long an order is active ----------------------------------------------------------------------------------------

pub active-until : {c : Capability} {o : Submission} {l : Lease} {class : ExecutionClass} {a : Option Active} → ActiveSo c o l class a
    → ((class ≡ Class.Stream) × (x : Active) × (a ≡ Some x) × (x.capability ≡ c)
    × (x.expires_at ≡ min (o.received_at + o.action.valid_for_ms) l.expires_at))
    ⊎ (((class ≡ Class.Discrete) × (x : Active) × (a ≡ Some x) × (x.capability ≡ c) × (x.expires_at ≡ top))
    ⊎ ((class ≡ Class.Control) × (a ≡ None)))
active-until (stream c e) = inl (refl, _, refl, c, e)
active-until (discrete c e) = inr (inl (refl, _, refl, c, e))
active-until control = inr (inr (refl, refl))

-- what was asked for, of a call that is known --------------------------------------------------------------------------

acquire-same : {p q : LeaseRequest} {m n : ℕ} → Acquire p m ≡ Acquire q n → (p ≡ q) × (m ≡ n)
acquire-same e = (cc, cc)

renew-same : {p q : Renewal} → Renew p ≡ Renew q → p ≡ q
renew-same e = cc

renew≢acquire : {p : Renewal} {q : LeaseRequest} {n : ℕ} → Renew p ≡ Acquire q n → ⊥
renew≢acquire e = false≢true cc

granted-asked : {c : Call} {now n : ℕ} {b : Book} {r : Receipt} {l : Lease} {q : LeaseRequest} → c ≡ Acquire q n → Asked c now b r l
    → (now ≡ n) × Grantable q n b
granted-asked {q = q} e (Asked.granted {q = p} {now = now} {b = b} g d₁ d₂ d₃ d₄ d₅ d₆ d₇ d₈ d₉ d₁₀) =
    let n = acquire-same e in (n.1, subst (λ m. Grantable q m b) n.1 (subst (λ p. Grantable p now b) n.0 g))
granted-asked e (Asked.renewed k d₁ d₂ d₃ d₄ d₅ d₆ d₇ d₈ d₉ d₁₀) = absurd (renew≢acquire e)

renewed-asked : {c : Call} {now : ℕ} {b : Book} {r : Receipt} {l : Lease} {q : Renewal} → c ≡ Renew q → Asked c now b r l
    → (now ≡ q.now) × (old : Lease) × Renewable q b r.resource old
renewed-asked e (Asked.granted g d₁ d₂ d₃ d₄ d₅ d₆ d₇ d₈ d₉ d₁₀) = absurd (renew≢acquire (sym e))
renewed-asked e (Asked.renewed {b = b} {r = r} {old = old} k d₁ d₂ d₃ d₄ d₅ d₆ d₇ d₈ d₉ d₁₀) =
    let n = renew-same e in (ap (λ (p : Renewal). p.now) n, old, subst (λ p. Renewable p b r.resource old) n k)

module _ (lives : List Life) (claim : Claim lives) where
  -- "one order, all eleven fields alike, reaches `execute` at most once in all of them"
  pub at-most-once : (before between after : List Action) (o p : Action)
      → executed_in lives ≡ before ++ (o ∷ (between ++ (p ∷ after))) → ¬ Alike o p
  at-most-once before between after o p e a =
      (distinct-after before (o ∷ (between ++ (p ∷ after))) (subst Distinct e claim.once)).0
      (subst (λ x. Mem x (between ++ (p ∷ after))) (sym (alike_same o p a)) (mem-at p between after))

  -- "nothing but a submission reaches it"
  pub nothing-else : (s : Start) (h : History) (c : ℕ) (p : List ℤ) → output_after s h ≡ Hands (ItemExecute c p)
      → (o : Submission) × (call_of (log_of s h) ≡ Some (Submit o)) × (c ≡ o.action.capability) × (p ≡ o.action.parameters)
  nothing-else s h c p e = let k = claim.only-submissions s h c p e in (k.submission, k.call, k.capability, k.parameters)

  -- "and a submission does so exactly when ..": it is heard like every call, and so is each reply to an item of its, unless a cut comes first
  pub call-heard : (s : Start) (h : History) (b : Book) → book_in (phase_after s h) ≡ Some b → awaited (log_of s h) ≡ None → (c : Call)
      → Proceeds (output_after s (Calls c ∷ h)) × InHand c [] (log_of s (Calls c ∷ h)) × (book_before s (Calls c ∷ h) ≡ Some b)
  unfolding log_of book_before output_after
  call-heard s h b e n c =
      let k = (claim.turns s h).call-taken b e n c in
      let t = took _ k in
      (k, call-in-hand c _ (log_of s h) t, rw e (opened-on c _ b _ t))

  pub reply-heard : (s : Start) (h : History) (i : Item) → awaited (log_of s h) ≡ Some i → (c : Call) (rs : List Reply) → InHand c rs (log_of s h)
      → (r : Reply) → fits i r ≡ true → Proceeds (output_after s (Replies r ∷ h)) × InHand c (rs ++ (r ∷ [])) (log_of s (Replies r ∷ h))
  unfolding log_of output_after call_in
  reply-heard s h i e c rs k r f =
      let call : call_of (log_of s h) ≡ Some c = sym (calls (log_of s h)) ∙ ap call_in k.stands ∙ ap Some k.call in
      let p = (claim.turns s h).reply-proceeds i e c call r f in
      (p, reply-in-hand c rs r _ (log_of s h) (took _ p) k)

  -- a start hears the replies to its fallbacks
  pub startup-heard : (s : Start) (h : History) (i : Item) → awaited (log_of s h) ≡ Some i → (r : Reply) → fits i r ≡ true
      → took_effect (output_after s (Replies r ∷ h)) ≡ true
  startup-heard s h i e r f = (claim.turns s h).reply-taken i e r f

  -- ".. its first observation succeeds, no cut comes first, and every admission check holds by 01's book of that life's history alone"
  pub exactly-when : (s : Start) (h : History) (x : Exchange) (o : Submission) → current (log_of s h) ≡ Some x → x.call ≡ Submit o
      → (b : Book) × (book_before s h ≡ Some b)
      × (Mem (ItemExecute o.action.capability o.action.parameters) x.items
      ↔ ((seen : Observation) × (after : List Reply) × AdmittedIn b o x (Observed (Some seen) ∷ after)))
  exactly-when s h x o e call =
      let b = claim.begun s h x e in
      let k = claim.exactly s h x b.0 e b.1 o call in (
        b.0,
        b.1,
        (
          λ m. let c = k.0 m in
              let p = c.passes in
              (c.seen, c.after, record { book = p.book; ticked = p.ticked; replies = c.good; checks = p.admissible }),
          λ a. let p = a.2 in
              k.1
              (record {
                passes = record { book = p.book; ticked = p.ticked; admissible = p.checks };
                seen = a.0;
                after = a.1;
                good = p.replies;
              }),
        ),
      )

  -- 01: "An order is admitted exactly if, after its tick, every check of `submit` holds in the book."
  pub admitted-exactly-if : (s : Start) (h : History) (x : Exchange) (o : Submission) → current (log_of s h) ≡ Some x → x.call ≡ Submit o
      → (b : Book) × (book_before s h ≡ Some b)
      × (((axis : ℕ) × Mem (ItemObserve axis) x.items) ↔ ((later : List Reply) × AdmittedIn b o x later))
  admitted-exactly-if s h x o e call =
      let b = claim.begun s h x e in
      let k = claim.admitted s h x b.0 e b.1 o call in (
        b.0,
        b.1,
        (
          λ m. let p = k.0 m in
              (p.ticked.later, record { book = p.book; ticked = p.ticked; replies = refl; checks = p.admissible }),
          λ a. let p = a.1 in
              k.1 (record { book = p.book; ticked = p.ticked; admissible = p.checks }),
        ),
      )

  -- "Nobody who lacks a live lease .. can have an order carried out"
  pub no-lease-no-move : (s : Start) (h : History) (c : ℕ) (p : List ℤ) → output_after s h ≡ Hands (ItemExecute c p)
      → (o : Submission) × (call_of (log_of s h) ≡ Some (Submit o)) × Holds s (log_of s h) o
  no-lease-no-move s h c p e =
      let k = claim.only-submissions s h c p e in
      (k.submission, k.call, holds (claim.live-lease s h c p e k))

  -- "Before that, its life's startup fallback succeeded on every used axis."
  pub startup-before : (s : Start) (h : History) (c : ℕ) (p : List ℤ) → output_after s h ≡ Hands (ItemExecute c p)
      → (k : Capability) → Mem k s.capabilities
      → (n : ℕ) × (slice_get (start_items (log_of s h)) n ≡ Some (ItemFallback k.resource Reason.Startup))
      × (slice_get (start_replies (log_of s h)) n ≡ Some (FellBack true))
  startup-before s h c p e k m = let u = claim.startup-first s h c p e k m in (u.place, u.item, u.reply)

  -- and so of every runtime: 01's checks of its start passed, each used axis was tried once, rising, and every reply was good
  pub runtime-started : (s : Start) (h : History) (b : Book) → book_in (phase_after s h) ≡ Some b
      → SoundStart s × (axes : List ℕ) × AreUsed s.capabilities axes
      × (start_items (log_of s h) ≡ map (λ axis. ItemFallback axis Reason.Startup) axes) × (start_replies (log_of s h) ≡ map (λ axis. FellBack true) axes)
  runtime-started s h b e =
      let u = claim.started-up s h b e in
      (u.sound, used_axes s.capabilities, claim.used-axes s u.sound, u.items, u.replies)

  -- "Where 01's checks of a start pass, these fallbacks succeed and no cut comes first, there is a runtime."
  pub a-runtime : (s : Start) (h : History) → SoundStart s
      → start_replies (log_of s h) ≡ map (λ axis. FellBack true) (used_axes s.capabilities) → (b : Book) × (book_in (phase_after s h) ≡ Some b)
  a-runtime s h sound good = (claim.there-is-a-runtime s h sound good).0

  -- 01: "It opens with the start's arguments and the values that a start sets, with no lease, order or receipt"
  pub opens-so : (s : Start) (h : History) → SoundStart s
      → start_replies (log_of s h) ≡ map (λ axis. FellBack true) (used_axes s.capabilities) → call_of (log_of s h) ≡ None → (b : Book) × (phase_after s h ≡ Idle b) × OpensSo s b
  opens-so s h sound good no_call = (claim.there-is-a-runtime s h sound good).1 no_call

  -- 01: "A driver call": who is turned away, and what a reading shows ------------------------------------------------------

  pub turned-away : (s : Start) (h : History) (i : Item) → awaited (log_of s h) ≡ Some i
      → ((c : Call) → output_after s (Calls c ∷ h) ≡ Reminds 111 i) × ((r : Reply) → fits i r ≡ false → output_after s (Replies r ∷ h) ≡ Reminds 113 i)
  turned-away s h i e = let t = claim.turns s h in (t.call-waits i e, t.reply-other i e)

  pub nothing-awaited : (s : Start) (h : History) → awaited (log_of s h) ≡ None
      → ((r : Reply) → output_after s (Replies r ∷ h) ≡ Refuses 112)
      × (book_in (phase_after s h) ≡ None → (c : Call) → output_after s (Calls c ∷ h) ≡ NoRuntime)
  nothing-awaited s h e = let t = claim.turns s h in (t.reply-none e, λ None c. t.call-unmet None e c)

  pub shows-the-book : (s : Start) (h : History) (q : Reading)
      → ((b : Book) → book_in (phase_after s h) ≡ Some b → output_after s (Reads q ∷ h) ≡ Shows (read q b))
      × (book_in (phase_after s h) ≡ None → output_after s (Reads q ∷ h) ≡ NoRuntime)
  shows-the-book s h q = let t = claim.turns s h in (λ b e. t.reading b e q, λ e. t.no-reading e q)

  -- 01: "Agreement": the book by the history alone ---------------------------------------------------------------------------

  -- the check of the lease's last sequence and of the replay ring, over what was admitted before
  pub admitted-afresh : (s : Start) (h : History) (axis : ℕ) → output_after s h ≡ Hands (ItemObserve axis)
      → (l : Log) × (log_of s h ≡ Handed (ItemObserve axis) ∷ l) × (o : Submission) × (call_of l ≡ Some (Submit o))
      × ((k : Capability) × (Mem k s.capabilities) × (k.id ≡ o.action.capability) × (axis ≡ k.resource))
      × (observing l ≡ false → Holds s l o × (highest o.action.lease_id (admissions l) < o.action.sequence)
      × ((a : Admitted) → Mem a (take replay_capacity (admissions l)) → a.submission.principal ≡ o.principal
      → a.submission.action.action_id ≢ o.action.action_id))
  admitted-afresh s h axis e =
      let k = claim.observes s h axis e in
      let g = k.2 in (
        k.0,
        k.1,
        g.submission,
        g.call,
        (g.capability, among g.known, g.known.own, g.own),
        λ first. let a = g.first first in (holds a.leased, a.sequence, a.unused),
      )

  -- 01: "Numbers rise by 1 and stay at the top of u64"; a lease is granted on a free axis, with a number below the top
  pub next-number : (s : Start) (h : History) (r : Receipt) → output_after s h ≡ Hands (ItemRecord r)
      → (l : Log) × (log_of s h ≡ Handed (ItemRecord r) ∷ l) × (r.receipt_id ≡ next_number l)
      × (is_grant r ≡ true → (live r.resource l ≡ None) × (r.lease_id < top))
  next-number s h r e = let k = claim.records s h r e in (k.0, k.1, k.2.numbered, λ g. (k.2.free g, k.2.below g))

  -- "A lease is live from its grant to the next fallback on its axis; its last sequence is the highest admitted under it, or 0"
  pub lease-by-history : (s : Start) (h : History) (b : Book) → book_in (phase_after s h) ≡ Some b → (axis : ℕ) (x : Lease) → lease_at b axis ≡ Some x
      → (t : Tenancy) × (live axis (log_of s h) ≡ Some t) × (t.lease ≡ x.id) × (t.owner ≡ x.owner) × (t.capabilities ≡ x.capabilities)
      × (t.limits ≡ x.limits) × (t.expires ≡ x.expires_at) × (x.last_sequence ≡ highest x.id (admissions (log_of s h)))
      × (x.resource ≡ axis)
  lease-by-history s h b e axis x q =
      let f = claim.book-facts s h b e in
      (_, f.standing axis x q, refl, refl, refl, refl, refl, f.last axis x q, f.home axis x q)

  pub no-lease-by-history : (s : Start) (h : History) (b : Book) → book_in (phase_after s h) ≡ Some b → (axis : ℕ) → lease_at b axis ≡ None
      → live axis (log_of s h) ≡ None
  no-lease-by-history s h b e axis q = (claim.book-facts s h b e).ended axis q

  -- "the replay ring is the last 32 admitted", and holds no owner and action id twice
  pub ring-by-history : (s : Start) (h : History) (b : Book) → book_in (phase_after s h) ≡ Some b
      → b.replay ≡ take 32 (map entry_of (admissions (log_of s h)))
  ring-by-history s h b e = (claim.book-facts s h b e).replay

  pub ring-apart : (s : Start) (h : History) (b : Book) → book_in (phase_after s h) ≡ Some b
      → (before : List Replay) (e : Replay) (between : List Replay) (f : Replay) (after : List Replay)
      → b.replay ≡ before ++ (e ∷ (between ++ (f ∷ after))) → e.owner ≡ f.owner → e.action_id ≢ f.action_id
  ring-apart s h b shows before e between f after q owner action =
      apart_from before e between f after (subst (λ (l : List Replay). Distinct (map name_of l)) q (claim.book-facts s h b shows).apart)
      (λ i. record { owner = owner i; action = action i })

  -- 01: "Admission order is kept.", below the top of u64: of two receipts kept the older has the smaller number, and the last has the last given
  pub kept-in-order : (s : Start) (h : History) (b : Book) → book_in (phase_after s h) ≡ Some b → b.next_receipt < top
      → (before : List Receipt) (r : Receipt) (between : List Receipt) (q : Receipt) (after : List Receipt)
      → b.receipts ≡ before ++ (r ∷ (between ++ (q ∷ after))) → r.receipt_id < q.receipt_id
  kept-in-order s h b e room before r between q after same =
      rises 0 b.next_receipt before r between q after (subst (Between 0 b.next_receipt) same ((claim.book-facts s h b e).rising room).order)

  pub last-kept : (s : Start) (h : History) (b : Book) → book_in (phase_after s h) ≡ Some b → b.next_receipt < top
      → (b.receipts ≡ []) ⊎ ((older : List Receipt) × (r : Receipt) × (b.receipts ≡ older ++ (r ∷ [])) × (r.receipt_id + 1 ≡ b.next_receipt))
  last-kept s h b e room = ((claim.book-facts s h b e).rising room).latest

  -- the receipts, their numbers, the flags, the raise number seen and the epoch; what the start said stays
  pub rest-by-history : (s : Start) (h : History) (b : Book) → book_in (phase_after s h) ≡ Some b
      → (b.receipts ≡ receipts_kept (log_of s h)) × (b.next_receipt ≡ next_number (log_of s h)) × (b.flags ≡ flags_of s (log_of s h))
      × (b.estop_seen ≡ seen_raise (log_of s h)) × (b.epoch ≡ min top (1 + bumps s (log_of s h)))
      × (b.config ≡ s.config) × (b.boot_id ≡ s.boot_id) × (b.capabilities ≡ s.capabilities)
  rest-by-history s h b e =
      let f = claim.book-facts s h b e in
      (f.receipts, f.next, f.flags, f.seen, f.epoch, f.config, f.boot, f.capabilities)

  -- what an answer says ----------------------------------------------------------------------------------------------------

  -- each call has its own kind of answer
  pub answered-in-kind : (s : Start) (h : History) (x : Exchange) (a : Answer) → output_after s h ≡ Answers a → current (log_of s h) ≡ Some x
      → AnswersTo x.call a
  answered-in-kind s h x a e q = (claim.answers s h).kind x a e q

  -- an order is answered with its own receipt, handed out in its own call; it is a rejection unless the order was admitted
  pub order-told : (s : Start) (h : History) (x : Exchange) (r : Receipt) → output_after s h ≡ Answers (Submitted r) → current (log_of s h) ≡ Some x
      → (o : Submission) × (x.call ≡ Submit o) × OfOrder o r × Mem (ItemRecord r) x.items
      × ((((axis : ℕ) × Mem (ItemObserve axis) x.items) × (r.decision ≢ Decision.Rejected))
      ⊎ (((axis : ℕ) → Mem (ItemObserve axis) x.items → ⊥) × (r.decision ≡ Decision.Rejected)))
  order-told s h x r e q = let k = (claim.answers s h).order x r e q in (k.order, k.call, k.own, k.handed, k.admitted)

  -- 01: "observe, execute, observe, verify. Executed needs all four."
  pub executed-needs-all-four : (s : Start) (h : History) (x : Exchange) (b : Book) (r : Receipt) → output_after s h ≡ Answers (Submitted r)
      → current (log_of s h) ≡ Some x → book_before s h ≡ Some b → r.decision ≡ Decision.Executed
      → (o : Submission) × (x.call ≡ Submit o) × (ticked : Book) × (t : Ticked o.now b x ticked)
      × (c : Capability) × Named o.action.capability ticked.capabilities c × (first : Observation) × (second : Observation)
      × (t.later ≡ Observed (Some first) ∷ Executed true ∷ Observed (Some second) ∷ Recorded ∷ [])
      × Verified c.verification o.action.parameters second
  executed-needs-all-four s h x b r e q f d =
      let k = ((claim.answers s h).executed x b r e q f).0 d in
      (k.order, k.call, k.book, k.ticked, k.capability, k.known, k.first, k.second, k.replies, k.verified)

  -- 01: "Otherwise Failed (16 or 17), receipt, trip."
  pub otherwise-failed : (s : Start) (h : History) (x : Exchange) (b : Book) (r : Receipt) → output_after s h ≡ Answers (Submitted r)
      → current (log_of s h) ≡ Some x → book_before s h ≡ Some b → (axis : ℕ) → Mem (ItemObserve axis) x.items → (AllFour x b → ⊥)
      → (r.decision ≡ Decision.Failed)
      × (o : Submission) × (x.call ≡ Submit o) × (ticked : Book) × (t : Ticked o.now b x ticked)
      × (c : Capability) × Named o.action.capability ticked.capabilities c
      × (steps : List Reply) × FailedBy c.verification o.action.parameters steps r.reason
      × (tripping : List Reply) × (t.later ≡ steps ++ (Recorded ∷ tripping))
      × (first : List Item) × (items : List Item) × (t.later_items ≡ first ++ (ItemRecord r ∷ items))
      × (recorded : Book) × (after : Book)
      × Runs (trip r.reason o.now recorded (λ b. Done b (Submitted r))) tripping items (Done after (Submitted r))
      × ((axis : ℕ) → Mem axis (used_axes s.capabilities) → Mem (ItemFallback axis r.reason) items)
      × (phase_after s h ≡ Idle after) × (after.state ≡ State.Faulted)
  otherwise-failed s h x b r e q f axis m not-all =
      let a = claim.answers s h in
      let told = a.order x r e q in
      let failed : r.decision ≡ Decision.Failed = elim told.own.decision [
        | inl d ↦ absurd (not-all ((a.executed x b r e q f).0 d))
        | inr (inl d) ↦ elim told.admitted [ inl k ↦ absurd (k.1 d) | inr k ↦ absurd (k.0 axis m) ]
        | inr (inr d) ↦ d
      ] in
      let k = a.failed x b r e q f failed in (
        failed,
        k.order,
        k.call,
        k.ticked-book,
        k.ticked,
        k.capability,
        k.known,
        k.steps,
        k.cause,
        k.tripping,
        k.replies,
        k.first,
        k.trip_items,
        k.items,
        k.recorded,
        k.book,
        k.trip,
        k.fell-back,
        k.left,
        k.state,
      )

  -- and where all four succeed it is Executed
  pub all-four-executed : (s : Start) (h : History) (x : Exchange) (b : Book) (r : Receipt) → output_after s h ≡ Answers (Submitted r)
      → current (log_of s h) ≡ Some x → book_before s h ≡ Some b → AllFour x b → r.decision ≡ Decision.Executed
  all-four-executed s h x b r e q f four = ((claim.answers s h).executed x b r e q f).1 four

  -- what it then reports (01: "filled as in `event` and `submit`")
  pub executed-reports : (s : Start) (h : History) (x : Exchange) (b : Book) (r : Receipt) → output_after s h ≡ Answers (Submitted r)
      → current (log_of s h) ≡ Some x → book_before s h ≡ Some b → (p : AllFour x b)
      → (r.reason ≡ Reason.Ok) × (r.resource ≡ p.capability.resource) × (r.dispatched ≡ true) × (r.executed_at ≡ p.order.now)
      × (r.pre_state ≡ p.first.state) × (r.observed_valid ≡ true) × (r.observed ≡ p.second.parameters)
      × (r.post_state ≡ p.second.state)
  executed-reports s h x b r e q f p =
      let k = ((claim.answers s h).completed x b r e q f p).2 in
      (k.reason, k.resource, k.dispatched, k.executed-at, k.pre, k.seen, k.observed, k.post)

  -- and leaves: the last sequence of its lease, the active order of its axis, the count at 0, and no other of these
  pub executed-leaves : (s : Start) (h : History) (x : Exchange) (b : Book) (r : Receipt) → output_after s h ≡ Answers (Submitted r)
      → current (log_of s h) ≡ Some x → book_before s h ≡ Some b → (p : AllFour x b)
      → (after : Book) × (phase_after s h ≡ Idle after)
      × (old : Lease) × (lease_at p.book p.capability.resource ≡ Some old)
      × (new : Lease) × (after.leases ≡ set p.book.leases p.capability.resource (Some new))
      × (new.last_sequence ≡ p.order.action.sequence) × (new.id ≡ old.id) × (new.owner ≡ old.owner) × (new.resource ≡ old.resource)
      × (new.capabilities ≡ old.capabilities) × (new.limits ≡ old.limits) × (new.expires_at ≡ old.expires_at)
      × (new.last_renewal ≡ old.last_renewal)
      × (order : Option Active) × ActiveSo p.capability p.order old p.capability.class order
      × (after.active ≡ set p.book.active p.capability.resource order)
      × (after.invalid_count ≡ 0) × (after.state_at ≡ p.book.state_at) × (after.last_tick ≡ p.book.last_tick)
      × (after.next_lease ≡ p.book.next_lease)
  executed-leaves s h x b r e q f p =
      let end = (claim.answers s h).completed x b r e q f p in
      let k = end.2 in
      let n = k.sequenced in (
        end.0,
        end.1,
        k.old,
        k.held,
        k.new,
        k.leases,
        n.last,
        n.id,
        n.owner,
        n.resource,
        n.capabilities,
        n.limits,
        n.expires,
        n.renewal,
        k.order,
        k.active_so,
        k.active,
        k.count,
        k.stamp,
        k.last_tick,
        k.next_lease,
      )

  -- proofs.rs, `receipts_never_wrap_or_lose_order`: of two answers to orders the later has the greater number, below the top of u64
  pub answers-rise : (s : Start) (h : History) → next_number (log_of s h) < top
      → (newer : List Receipt) (r : Receipt) (between : List Receipt) (q : Receipt) (older : List Receipt)
      → answered_receipts (log_of s h) ≡ newer ++ (r ∷ (between ++ (q ∷ older))) → q.receipt_id < r.receipt_id
  answers-rise s h room newer r between q older same =
      falls (next_number (log_of s h)) newer r between q older
      (subst (Falling (next_number (log_of s h))) same ((claim.answers s h).rising room))

  -- a lease's answer is what was asked for, its receipt is all that was handed out after the tick, and it stands
  pub lease-told : (s : Start) (h : History) (x : Exchange) (b : Book) (l : Lease) → output_after s h ≡ Answers (Leased l)
      → current (log_of s h) ≡ Some x → book_before s h ≡ Some b
      → (now : ℕ) × (ticked : Book) × (t : Ticked now b x ticked) × (r : Receipt) × Asked x.call now ticked r l
      × (t.later_items ≡ ItemRecord r ∷ []) × (r.decision ≡ Decision.Control) × (r.lease_id ≡ l.id) × (r.principal ≡ l.owner)
      × (after : Book) × (phase_after s h ≡ Idle after) × (lease_at after r.resource ≡ Some l)
  lease-told s h x b l e q f =
      let k = (claim.answers s h).lease x b l e q f in
      (k.now, k.ticked-book, k.ticked, k.receipt, k.asked, k.handed, k.control, k.lease, k.owner, k.book, k.idle, k.stands)

  -- it leaves the leases of other axes, active orders, the count, the stamp and the clock; a grant takes one lease number, a renewal none
  pub lease-leaves : (s : Start) (h : History) (x : Exchange) (b : Book) (l : Lease) → output_after s h ≡ Answers (Leased l)
      → current (log_of s h) ≡ Some x → book_before s h ≡ Some b
      → (now : ℕ) × (ticked : Book) × Ticked now b x ticked × (r : Receipt) × (after : Book) × (phase_after s h ≡ Idle after)
      × (after.leases ≡ set ticked.leases r.resource (Some l)) × (after.active ≡ ticked.active)
      × (after.invalid_count ≡ ticked.invalid_count) × (after.state_at ≡ ticked.state_at) × (after.last_tick ≡ ticked.last_tick)
      × (((r.reason ≡ Reason.LeaseGranted) × (after.next_lease ≡ bump ticked.next_lease))
      ⊎ ((r.reason ≡ Reason.LeaseRenewed) × (after.next_lease ≡ ticked.next_lease)))
  lease-leaves s h x b l e q f =
      let k = (claim.answers s h).lease x b l e q f in
      let n = k.rest in (
        k.now,
        k.ticked-book,
        k.ticked,
        k.receipt,
        k.book,
        k.idle,
        n.leases,
        n.active,
        n.count,
        n.stamp,
        n.last_tick,
        n.next_lease,
      )

  -- 01: "`acquire`, after tick: readiness; 10; 3; 19 taken; 10 expiry past u64", each as a fact about the book that the tick left
  pub granted-means : (s : Start) (h : History) (x : Exchange) (b : Book) (l : Lease) → output_after s h ≡ Answers (Leased l)
      → current (log_of s h) ≡ Some x → book_before s h ≡ Some b → (q : LeaseRequest) (now : ℕ) → x.call ≡ Acquire q now
      → (ticked : Book) × Ticked now b x ticked
      × (ticked.state ≢ State.Estopped) × (ticked.state ≢ State.Faulted) × (ticked.last_tick ≤ now)
      × (now - ticked.state_at < ticked.config.state_ttl_ms)
      × ((c : Capability) × Mem c ticked.capabilities × (c.resource ≡ q.resource)) × (q.owner ≢ 0) × (q.capabilities ≢ 0)
      × (q.duration_ms ≢ 0) × (q.duration_ms ≤ ticked.config.max_lease_ms)
      × ((y : Bounds) → Mem y q.limits → y.min ≤ℤ y.max)
      × ((n : ℕ) → bit_and q.capabilities (2 ^ n) ≢ 0
      → (c : Capability) × Mem c ticked.capabilities × (c.resource ≡ q.resource) × (c.id ≡ n))
      × (lease_at ticked q.resource ≡ None) × (now + q.duration_ms ≤ top)
  granted-means s h x b l e u f q now c =
      let k = (claim.answers s h).lease x b l e u f in
      let g = granted-asked c k.asked in
      let r = g.1.ready in (
        k.ticked-book,
        subst (λ n. Ticked n b x k.ticked-book) g.0 k.ticked,
        r.not-estopped,
        r.not-faulted,
        r.clock,
        r.fresh,
        g.1.used,
        g.1.owner,
        g.1.mask,
        g.1.duration.0,
        g.1.duration.1,
        g.1.limits,
        g.1.bits,
        g.1.free,
        g.1.fits,
      )

  -- and where they all hold it is granted
  pub granted-where : (s : Start) (h : History) (x : Exchange) (b : Book) (a : Answer) → output_after s h ≡ Answers a
      → current (log_of s h) ≡ Some x → book_before s h ≡ Some b → (q : LeaseRequest) (now : ℕ) → x.call ≡ Acquire q now
      → (ticked : Book) → Ticked now b x ticked → Grantable q now ticked → (l : Lease) × (a ≡ Leased l)
  granted-where s h x b a e u f q now c ticked t g = (claim.answers s h).grants x b a e u f q now c ticked t g

  -- 01: "`renew`: tick, readiness, 10 duration, 3 no lease with this id and owner, 6 renewal not above the last one, 10 overflow"
  pub renewed-means : (s : Start) (h : History) (x : Exchange) (b : Book) (l : Lease) → output_after s h ≡ Answers (Leased l)
      → current (log_of s h) ≡ Some x → book_before s h ≡ Some b → (q : Renewal) → x.call ≡ Renew q
      → (ticked : Book) × Ticked q.now b x ticked
      × (ticked.state ≢ State.Estopped) × (ticked.state ≢ State.Faulted) × (ticked.last_tick ≤ q.now)
      × (q.now - ticked.state_at < ticked.config.state_ttl_ms)
      × (q.duration_ms ≢ 0) × (q.duration_ms ≤ ticked.config.max_lease_ms)
      × (axis : ℕ) × (old : Lease) × (lease_at ticked axis ≡ Some old) × (old.id ≡ q.lease_id) × (old.owner ≡ q.owner)
      × (old.last_renewal < q.renewal) × (q.now + q.duration_ms ≤ top)
  renewed-means s h x b l e u f q c =
      let k = (claim.answers s h).lease x b l e u f in
      let g = renewed-asked c k.asked in
      let w = g.2 in
      let r = w.ready in (
        k.ticked-book,
        subst (λ n. Ticked n b x k.ticked-book) g.0 k.ticked,
        r.not-estopped,
        r.not-faulted,
        r.clock,
        r.fresh,
        w.duration.0,
        w.duration.1,
        k.receipt.resource,
        g.1,
        w.stands,
        w.held.0,
        w.held.1,
        w.newer,
        w.fits,
      )
