-- Demand 3: what holds of every list of lives whose boot numbers differ. Each part quotes the customer's sentence (00, demand 3).
-- A cut needs no case of its own: a life that is cut is one whose inputs end while a reply is awaited, and every part speaks of every
-- history. The parts that quantify over every start and history say more than one about the lives in hand would.
use Rattle.std.specs.Prelude.{ℕ, ◌+◌, ◌<◌, ◌≤◌, ◌^◌, min, true, false, List, [], ◌∷◌, ◌++◌, map, ◌⊎◌, ◌≢◌, ◌↔◌, ◌≡◌, ℤ, take}
use Rattle.std.specs.Prelude.{Some, None}
use Rattle.std.specs.Int.Bits.{bit_and}
use Rattle.std.specs.Prelude.{slice_get}
use Rattle.model.specs.declared.Capability.{Capability}
use Rattle.model.specs.declared.Lease.{Lease}
use Rattle.model.specs.declared.Observation.{Observation}
use Rattle.model.specs.declared.Reason.TheVariants.{Startup}
use Rattle.model.specs.declared.Receipt.{Receipt}
use Rattle.model.specs.declared.Replay.{Replay}
use Rattle.model.specs.declared.RuntimeState.TheVariants as State
use Rattle.model.specs.declared.Submission.{Submission}
use Rattle.rules.specs.Book.{Book, lease_at, active_at}
use Rattle.rules.specs.Receipts.{top}
use Rattle.rules.specs.Lists.{Mem, Distinct}
use Rattle.rules.specs.Admissible.{Admissible}
use Rattle.rules.specs.Rules.{used_axes, replay_capacity}
use Rattle.rules.specs.Protocol.{Submit, Reply, Observed, FellBack, ItemObserve, ItemExecute, ItemFallback, ItemRecord, Hands, Start, Idle, book_in}
use Rattle.rules.specs.Lives.{Life}
use Rattle.rules.specs.Log.{History, phase_after, output_after, Log, Handed, log_of, book_before, call_of, Exchange, current, start_items, start_replies, executed_in, next_number, receipts_kept, observing, Admitted, admissions, entry_of, highest, is_grant, Tenancy, live}
use Rattle.rules.specs.Epoch.{seen_raise, flags_of, bumps}
use Rattle.rules.specs.Way.{Ticked}
use Rattle.rules.specs.SoundStart.{SoundStart, Named}
use Rattle.rules.specs.Turns.{Turns}
use Rattle.rules.specs.AnswerFacts.{AnswerFacts}

-- an admission -----------------------------------------------------------------------------------------------------------

-- a submission's opening tick, on the book before, has ended with this book, and every one of 01's checks holds in it
pub record Passes (before : Book) (s : Submission) (x : Exchange) : Type 0 where
  pub book : Book
  pub ticked : Ticked s.now before x book
  pub admissible : Admissible s book

-- and the next reply is a good observation
pub record Clears (before : Book) (s : Submission) (x : Exchange) : Type 0 where
  pub passes : Passes before s x
  pub seen : Observation
  pub after : List Reply
  pub good : passes.ticked.later ≡ Observed (Some seen) ∷ after

-- the call in hand submits an order with this capability and these parameters
pub record Carried (l : Log) (c : ℕ) (p : List ℤ) : Type 0 where
  pub submission : Submission
  pub call : call_of l ≡ Some (Submit submission)
  pub capability : c ≡ submission.action.capability
  pub parameters : p ≡ submission.action.parameters

-- its principal holds the live lease that the order names, on the axis of its capability, with the capability's bit, unexpired
pub record Leased (s : Start) (l : Log) (o : Submission) : Type 0 where
  pub capability : Capability
  pub known : Named o.action.capability s.capabilities capability
  pub tenancy : Tenancy
  pub stands : live capability.resource l ≡ Some tenancy
  pub lease : tenancy.lease ≡ o.action.lease_id
  pub owner : tenancy.owner ≡ o.principal
  pub bit : bit_and tenancy.capabilities (2 ^ o.action.capability) ≢ 0
  pub unexpired : o.now < tenancy.expires

-- the lease and replay checks of an admission, over the log alone
pub record AdmittedBy (s : Start) (l : Log) (o : Submission) : Type 0 where
  pub leased : Leased s l o
  -- the sequence is above the highest admitted under the lease
  pub sequence : highest o.action.lease_id (admissions l) < o.action.sequence
  -- none of the last 32 admitted has the principal and the action id
  pub unused : (a : Admitted) → Mem a (take replay_capacity (admissions l)) → a.submission.principal ≡ o.principal
      → a.submission.action.action_id ≢ o.action.action_id

-- an observe item: the call in hand is a submission, the axis is that of its capability, and the first one admits the order
pub record Observing (s : Start) (l : Log) (axis : ℕ) : Type 0 where
  pub submission : Submission
  pub call : call_of l ≡ Some (Submit submission)
  pub capability : Capability
  pub known : Named submission.action.capability s.capabilities capability
  pub own : axis ≡ capability.resource
  pub first : observing l ≡ false → AdmittedBy s l submission

-- a receipt as it is handed out: its number counts the receipts before it; a grant's lease number is below the top, and its axis free
pub record Recording (l : Log) (r : Receipt) : Type 0 where
  pub numbered : r.receipt_id ≡ next_number l
  pub free : is_grant r ≡ true → live r.resource l ≡ None
  pub below : is_grant r ≡ true → r.lease_id < top

-- the book and the log -------------------------------------------------------------------------------------------------

-- a lease as the log knows it
abbrev pub tenancy_in : Lease → Tenancy
tenancy_in l = record { lease = l.id; owner = l.owner; capabilities = l.capabilities; limits = l.limits; expires = l.expires_at }

-- the numbers of these receipts rise, from m on, and stay below n
abbrev pub Between : ℕ → ℕ → List Receipt → Type 0
Between m n [] = Unit
Between m n (r ∷ rs) = ((m ≤ r.receipt_id) × (r.receipt_id < n)) × Between (r.receipt_id + 1) n rs

-- the numbers rise, and the last receipt is the one before number n
pub record Rising (n : ℕ) (rs : List Receipt) : Type 0 where
  pub order : Between 0 n rs
  pub latest : (rs ≡ []) ⊎ ((older : List Receipt) × (r : Receipt) × (rs ≡ older ++ (r ∷ [])) × (r.receipt_id + 1 ≡ n))

-- owner and action id of a replay entry
pub record Name : Type 0 where
  pub owner : ℕ
  pub action : ℕ

abbrev pub name_of : Replay → Name
name_of e = record { owner = e.owner; action = e.action_id }

pub record BookFacts (s : Start) (l : Log) (b : Book) : Type 0 where
  -- configuration, boot number and capabilities are the start's
  pub config : b.config ≡ s.config
  pub boot : b.boot_id ≡ s.boot_id
  pub capabilities : b.capabilities ≡ s.capabilities
  -- a lease stands exactly while it is live
  pub standing : (axis : ℕ) (x : Lease) → lease_at b axis ≡ Some x → live axis l ≡ Some (tenancy_in x)
  pub ended : (axis : ℕ) → lease_at b axis ≡ None → live axis l ≡ None
  pub home : (axis : ℕ) (x : Lease) → lease_at b axis ≡ Some x → x.resource ≡ axis
  -- 01: "its last sequence is the highest admitted under it, or 0"
  pub last : (axis : ℕ) (x : Lease) → lease_at b axis ≡ Some x → x.last_sequence ≡ highest x.id (admissions l)
  -- 01: "the replay ring is the last 32 admitted"
  pub replay : b.replay ≡ take replay_capacity (map entry_of (admissions l))
  -- the receipts kept are those handed out, and the next one's number counts them
  pub receipts : b.receipts ≡ receipts_kept l
  pub next : b.next_receipt ≡ next_number l
  -- below the top of 64 bits their numbers rise, up to the last one given
  pub rising : b.next_receipt < top → Rising b.next_receipt b.receipts
  -- no two replay entries have the same owner and action id
  pub apart : Distinct (map name_of b.replay)
  -- the flags, and the raise number that a poll is compared with
  pub flags : b.flags ≡ flags_of s l
  pub seen : b.estop_seen ≡ seen_raise l
  -- the epoch counts the fallbacks of calls, the grants and the new flags, held at the top
  pub epoch : b.epoch ≡ min top (1 + bumps s l)

-- a start ----------------------------------------------------------------------------------------------------------------

-- each is above the one before
abbrev pub Increasing : List ℕ → Type 0
Increasing [] = Unit
Increasing (i ∷ []) = Unit
Increasing (i ∷ j ∷ is) = (i < j) × Increasing (j ∷ is)

-- the start handed out a startup fallback on each used axis, rising, and each reply was good
pub record StartedUp (s : Start) (l : Log) : Type 0 where
  pub sound : SoundStart s
  pub items : start_items l ≡ map (λ axis. ItemFallback axis Startup) (used_axes s.capabilities)
  pub replies : start_replies l ≡ map (λ axis. FellBack true) (used_axes s.capabilities)

-- the startup fallback on an axis is among the items of the start, and the reply at its place was good
pub record StartedOn (axis : ℕ) (l : Log) : Type 0 where
  pub place : ℕ
  pub item : slice_get (start_items l) place ≡ Some (ItemFallback axis Startup)
  pub reply : slice_get (start_replies l) place ≡ Some (FellBack true)

-- 01: "It leaves epoch 1, next receipt 1, next lease 1, raise number seen 0, last tick and state stamp at its time .., and state Estopped if
-- the first flags meet `estop_mask`, else SafeIdle"; "with no lease, order or receipt"
pub record OpensSo (s : Start) (b : Book) : Type 0 where
  pub configured : b.config ≡ s.config
  pub booted : b.boot_id ≡ s.boot_id
  pub listed : b.capabilities ≡ s.capabilities
  pub leases : (axis : ℕ) → lease_at b axis ≡ None
  pub active : (axis : ℕ) → active_at b axis ≡ None
  pub replay : b.replay ≡ []
  pub receipts : b.receipts ≡ []
  pub next_receipt : b.next_receipt ≡ 1
  pub next_lease : b.next_lease ≡ 1
  pub epoch : b.epoch ≡ 1
  pub flags : b.flags ≡ s.flags
  pub stamp : b.state_at ≡ s.now
  pub last_tick : b.last_tick ≡ s.now
  pub estopped : bit_and s.flags s.config.estop_mask ≢ 0 → b.state ≡ State.Estopped
  pub idle : bit_and s.flags s.config.estop_mask ≡ 0 → b.state ≡ State.SafeIdle
  pub count : b.invalid_count ≡ 0
  pub seen : b.estop_seen ≡ 0

-- 01: "An axis is used if a capability names it"; "rising"
pub record AreUsed (cs : List Capability) (axes : List ℕ) : Type 0 where
  pub named : (axis : ℕ) → Mem axis axes → (c : Capability) × Mem c cs × (c.resource ≡ axis)
  pub all : (c : Capability) → Mem c cs → Mem c.resource axes
  pub rising : Increasing axes

-- the claim --------------------------------------------------------------------------------------------------------------

pub record Claim (lives : List Life) : Type 0 where
  -- who is heard: so that nothing below depends on what the runtime chooses to hear
  pub turns : (s : Start) (h : History) → Turns s h
  -- "one order, all eleven fields alike, reaches `execute` at most once in all of them"
  pub once : Distinct (executed_in lives)
  -- "nothing but a submission reaches it"
  pub only-submissions : (s : Start) (h : History) (c : ℕ) (p : List ℤ) → output_after s h ≡ Hands (ItemExecute c p) → Carried (log_of s h) c p
  -- "Nobody who lacks a live lease .. can have an order carried out"
  pub live-lease : (s : Start) (h : History) (c : ℕ) (p : List ℤ) → output_after s h ≡ Hands (ItemExecute c p)
      → (k : Carried (log_of s h) c p) → Leased s (log_of s h) k.submission
  -- a call in hand began on a book
  pub begun : (s : Start) (h : History) (x : Exchange) → current (log_of s h) ≡ Some x → (b : Book) × (book_before s h ≡ Some b)
  -- 01: "An order is admitted exactly if, after its tick, every check of `submit` holds in the book."
  pub admitted : (s : Start) (h : History) (x : Exchange) (b : Book) → current (log_of s h) ≡ Some x → book_before s h ≡ Some b
      → (o : Submission) → x.call ≡ Submit o → ((axis : ℕ) × Mem (ItemObserve axis) x.items) ↔ Passes b o x
  -- "and a submission does so exactly when its first observation succeeds, no cut comes first, and every admission check holds"
  pub exactly : (s : Start) (h : History) (x : Exchange) (b : Book) → current (log_of s h) ≡ Some x → book_before s h ≡ Some b
      → (o : Submission) → x.call ≡ Submit o
      → Mem (ItemExecute o.action.capability o.action.parameters) x.items ↔ Clears b o x
  -- "Before that, its life's startup fallback succeeded on every used axis."
  pub startup-first : (s : Start) (h : History) (c : ℕ) (p : List ℤ) → output_after s h ≡ Hands (ItemExecute c p)
      → (k : Capability) → Mem k s.capabilities → StartedOn k.resource (log_of s h)
  -- the same of every runtime, for all used axes at once
  pub started-up : (s : Start) (h : History) (b : Book) → book_in (phase_after s h) ≡ Some b → StartedUp s (log_of s h)
  -- "Where 01's checks of a start pass, these fallbacks succeed and no cut comes first, there is a runtime."
  pub there-is-a-runtime : (s : Start) (h : History) → SoundStart s
      → start_replies (log_of s h) ≡ map (λ axis. FellBack true) (used_axes s.capabilities)
      → ((b : Book) × (book_in (phase_after s h) ≡ Some b)) × (call_of (log_of s h) ≡ None → (b : Book) × (phase_after s h ≡ Idle b) × OpensSo s b)
  -- the used axes are those that capabilities name, rising
  pub used-axes : (s : Start) → SoundStart s → AreUsed s.capabilities (used_axes s.capabilities)
  -- an observation is a submission's, on the axis of its capability; the lease and replay checks hold by the log alone
  pub observes : (s : Start) (h : History) (axis : ℕ) → output_after s h ≡ Hands (ItemObserve axis)
      → (l : Log) × (log_of s h ≡ Handed (ItemObserve axis) ∷ l) × Observing s l axis
  -- a receipt has the next number; a grant comes only on a free axis
  pub records : (s : Start) (h : History) (r : Receipt) → output_after s h ≡ Hands (ItemRecord r)
      → (l : Log) × (log_of s h ≡ Handed (ItemRecord r) ∷ l) × Recording l r
  -- an answer says what was handed out
  pub answers : (s : Start) (h : History) → AnswerFacts s h
  -- the book keeps what the log says
  pub book-facts : (s : Start) (h : History) (b : Book) → book_in (phase_after s h) ≡ Some b → BookFacts s (log_of s h) b
