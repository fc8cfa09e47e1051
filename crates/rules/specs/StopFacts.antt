-- A runtime that is stopped, and an order that is carried out: three of the Rust's five harnesses (runtime-core/src/proofs.rs), which check
-- one start and a few calls, as statements on every reachable state. proofs/StopFacts proves them.
use Rattle.std.specs.Prelude.{ℕ, ◌+◌, ◌≤◌, ◌<◌, Bool, true, false, List, ◌∷◌, ◌++◌, ◌⊎◌, ◌≢◌, ◌≡◌, ℤ}
use Rattle.std.specs.Prelude.{Some}
use Rattle.std.specs.Int.Bits.{bit_and}
use Rattle.model.specs.declared.Capability.{Capability}
use Rattle.model.specs.declared.Decision.TheVariants as Decision
use Rattle.model.specs.declared.Lease.{Lease}
use Rattle.model.specs.declared.Receipt.{Receipt}
use Rattle.model.specs.declared.RuntimeState.{RuntimeState}
use Rattle.model.specs.declared.RuntimeState.TheVariants as State
use Rattle.rules.specs.Book.{Book, lease_at}
use Rattle.rules.specs.Interaction.{Answer, Returned, Polled, Succeeded, Submitted, Interaction, Done, Observe, Execute, Fallback, Record}
use Rattle.rules.specs.SoundStart.{Named}
use Rattle.rules.specs.Lists.{Mem}
use Rattle.rules.specs.Admissible.{Inside}
use Rattle.rules.specs.Protocol.{Call, EmergencyStop, PollEstop, RecoverLocal, Input, Calls, ItemExecute, Output, Hands, Answers, Start, OnObserve, OnExecute, OnFallback, OnRecord, Phase, Starting, Gone, Idle, Waiting, book_in, begin, react}
use Rattle.rules.specs.Lives.{outputs_from, phase_from}
use Rattle.rules.specs.Log.{History, phase_after, output_after, Log, log_of, dispatching}
use Rattle.rules.specs.Claim.{Carried}
use Rattle.rules.specs.StateFacts.{NoLease}

-- a stopped runtime ----------------------------------------------------------------------------------------------------

-- Faulted or Estopped
abbrev pub Unready : RuntimeState → Type 0
Unready State.SafeIdle = ⊥
Unready State.Armed = ⊥
Unready State.Faulted = Unit
Unready State.Estopped = Unit

abbrev pub InEstop : RuntimeState → Type 0
InEstop x = x ≡ State.Estopped

-- the state is one of these, and no lease stands
abbrev pub Halted : (RuntimeState → Type 0) → Book → Type 0
Halted N b = N b.state × NoLease b

-- whatever the replies: only fallbacks and receipts are handed out, the state is one of these at every wait, and the end is as it should be.
-- (Within a trip leases stand on the axes that it has not come to yet, so that nothing is said of them at a wait.)
abbrev pub Throughout : (RuntimeState → Type 0) → (Book → Answer → Type 0) → Interaction → Type 0
Throughout N E (Done b a) = E b a
Throughout N E (Observe axis b k) = ⊥
Throughout N E (Execute c ps b k) = ⊥
Throughout N E (Fallback axis r b k) = N b.state × ((ok : Bool) → Throughout N E (k ok))
Throughout N E (Record r b k) = N b.state × Throughout N E k

-- an idle book that is halted, or a wait whose rest is so throughout
abbrev pub Rests : (RuntimeState → Type 0) → (Book → Answer → Type 0) → Phase → Type 0
Rests N E (Starting s axis rest good) = ⊥
Rests N E Gone = ⊥
Rests N E (Idle b) = Halted N b
Rests N E (Waiting (OnObserve axis b k)) = ⊥
Rests N E (Waiting (OnExecute c ps b k)) = ⊥
Rests N E (Waiting (OnFallback axis r b k)) = N b.state × ((ok : Bool) → Throughout N E (k ok))
Rests N E (Waiting (OnRecord r b k)) = N b.state × Throughout N E k

-- a call ends halted in one of these states, and in no success
abbrev pub Unlifted : (RuntimeState → Type 0) → Book → Answer → Type 0
Unlifted N b a = Halted N b × (a ≢ Succeeded)

-- or it ends in a success, and in SafeIdle
abbrev pub Lifted : Book → Answer → Type 0
Lifted b a = ((a ≡ Succeeded) × (b.state ≡ State.SafeIdle)) ⊎ Unlifted Unready b a

-- Faulted or Estopped until a success is answered
abbrev pub Stopped : Phase → Type 0
Stopped p = Rests Unready Lifted p

-- stopped in one of these states, with no recovery in hand
abbrev pub Blocked : (RuntimeState → Type 0) → Phase → Type 0
Blocked N p = Rests N (Unlifted N) p

-- from here on no execute item comes out before a success is answered
abbrev pub NoneUntilSuccess : Phase → Type 0
NoneUntilSuccess p =
    (is : List Input) (before after : List Output) (c : ℕ) (ps : List ℤ) → outputs_from p is ≡ before ++ (Hands (ItemExecute c ps) ∷ after)
    → Mem (Answers Succeeded) before

-- no recovery is called
abbrev pub Unrecovered : List Input → Type 0
Unrecovered is = (now : ℕ) → ¬ Mem (Calls (RecoverLocal now)) is

-- after these inputs the runtime is blocked, and none of them brought an execute item or a success
pub record StillBlocked (N : RuntimeState → Type 0) (p : Phase) (is : List Input) : Type 0 where
  pub blocked : Blocked N (phase_from p is)
  pub no-execute : (c : ℕ) (ps : List ℤ) → ¬ Mem (Hands (ItemExecute c ps)) (outputs_from p is)
  pub no-success : ¬ Mem (Answers Succeeded) (outputs_from p is)

-- from here on: Estopped until a recovery is called, and no execute item until one succeeds
pub record BlocksDispatch (p : Phase) : Type 0 where
  pub estopped : (is : List Input) → Unrecovered is → (b : Book) → book_in (phase_from p is) ≡ Some b → b.state ≡ State.Estopped
  pub unrecovered : (is : List Input) → Unrecovered is → StillBlocked InEstop p is
  pub until-success : NoneUntilSuccess p

-- an order that is carried out -------------------------------------------------------------------------------------------

-- what holds as an execute item is handed out, of the submission in hand and of the book that readings see
pub record Dispatched (s : Start) (l : Log) (b : Book) (c : ℕ) (ps : List ℤ) : Type 0 where
  pub carried : Carried l c ps
  pub ready : ¬ Unready b.state
  -- the capability with this id, and the lease that stands on its axis
  pub capability : Capability
  pub known : Named c s.capabilities capability
  pub lease : Lease
  pub leased : lease_at b capability.resource ≡ Some lease
  -- who asks, and in which life
  pub principal : carried.submission.principal ≢ 0
  pub requester : carried.submission.principal ≡ carried.submission.action.requester
  pub owner : lease.owner ≡ carried.submission.principal
  pub named : lease.id ≡ carried.submission.action.lease_id
  pub boot : carried.submission.action.boot_id ≡ s.boot_id
  -- the flags
  pub permitted :
      (bit_and b.flags capability.require_set ≡ capability.require_set)
      × (bit_and b.flags capability.require_clear ≡ 0)
  pub unmasked : bit_and b.flags s.config.estop_mask ≡ 0
  -- the time
  pub received : carried.submission.received_at ≤ carried.submission.now
  pub valid : carried.submission.now < carried.submission.received_at + carried.submission.action.valid_for_ms
  pub begun : carried.submission.action.execute_after ≤ carried.submission.now
  pub in-time : carried.submission.now < carried.submission.action.deadline
  pub unexpired : carried.submission.now < lease.expires_at
  -- the parameters
  pub bounds : Inside capability.bounds ps
  pub limits : Inside lease.limits ps

-- the receipt of an order says `dispatched` exactly where an execute item was handed out, and Executed only there
pub record Reported (sent : Bool) (r : Receipt) : Type 0 where
  pub dispatched : r.dispatched ≡ sent
  pub executed : r.decision ≡ Decision.Executed → sent ≡ true

-- the statements -------------------------------------------------------------------------------------------------------

pub record StopFacts : Type 0 where
  -- a stopped runtime stays so until a success is answered, and hands out no execute item meanwhile
  pub stays : (p : Phase) → Stopped p → (i : Input) → ((react p i).output ≡ Answers Succeeded) ⊎ Stopped (react p i).phase
  pub no-execute : (p : Phase) → Stopped p → (i : Input) (c : ℕ) (ps : List ℤ) → (react p i).output ≢ Hands (ItemExecute c ps)
  pub until-success : (p : Phase) → Stopped p → NoneUntilSuccess p
  -- only a recovery answers a success: cancel, which could too, finds no lease
  pub only-recovery : (b : Book) → Halted Unready b → (c : Call) → ((now : ℕ) → c ≢ RecoverLocal now)
      → Throughout Unready (Unlifted Unready) (begin c b)
  pub until-recovery : (p : Phase) → Blocked Unready p → (is : List Input) → Unrecovered is → StillBlocked Unready p is
  -- whatever made it so, an idle runtime that is Faulted or Estopped is stopped
  pub idle-stopped : (s : Start) (h : History) (b : Book) → phase_after s h ≡ Idle b → Unready b.state → Stopped (phase_after s h)
  -- `emergency_stop_blocks_dispatch_until_local_recovery`. The state is Estopped at every wait of the call and at its end, and from then on
  -- until a recovery is called. It is not Estopped until one succeeds: a recovery that fails leaves Faulted, and dispatch stays blocked.
  pub stop-throughout : (s : Start) (h : History) (b : Book) → phase_after s h ≡ Idle b → (now : ℕ)
      → Throughout InEstop (λ b' a. Halted InEstop b' × (a ≡ Returned)) (begin (EmergencyStop now) b)
  pub stop-blocks : (s : Start) (h : History) (b : Book) → phase_after s h ≡ Idle b → (now : ℕ)
      → BlocksDispatch (phase_after s (Calls (EmergencyStop now) ∷ h))
  -- `raised_estop_signal_blocks_the_next_dispatch`: the same of a poll whose raise number differs from the one last seen; any other poll
  -- does nothing
  pub raise-throughout : (s : Start) (h : History) (b : Book) → phase_after s h ≡ Idle b → (raised now : ℕ) → raised ≢ b.estop_seen
      → Throughout InEstop (λ b' a. Halted InEstop b' × (a ≡ Polled true)) (begin (PollEstop raised now) b)
  pub raise-blocks : (s : Start) (h : History) (b : Book) → phase_after s h ≡ Idle b → (raised now : ℕ) → raised ≢ b.estop_seen
      → BlocksDispatch (phase_after s (Calls (PollEstop raised now) ∷ h))
  pub seen-raise : (b : Book) (now : ℕ)
      → react (Idle b) (Calls (PollEstop b.estop_seen now)) ≡ record { output = Answers (Polled false); phase = Idle b }
  -- `submit_dispatches_only_admissible_actions`
  pub dispatch-admissible : (s : Start) (h : History) (c : ℕ) (ps : List ℤ) → output_after s h ≡ Hands (ItemExecute c ps)
      → (b : Book) × (book_in (phase_after s h) ≡ Some b) × Dispatched s (log_of s h) b c ps
  -- and what it says of the receipt with which a submission ends
  pub receipt-reports : (s : Start) (h : History) (r : Receipt) → output_after s h ≡ Answers (Submitted r) → Reported (dispatching (log_of s h)) r
