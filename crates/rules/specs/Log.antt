-- What the history of a life says about it, from its inputs and outputs alone. Histories and logs are newest first, so that each
-- definition goes by the past alone, and a life that is cut is a shorter history.
use Rattle.std.specs.Prelude.{ℕ, ◌+◌, max, Bool, true, false, cond, ◌&&◌, List, [], ◌∷◌, ◌++◌, map, reverse, eqb}
use Rattle.std.specs.Prelude.{Option, Some, None}
use Rattle.model.specs.declared.Action.{Action}
use Rattle.model.specs.declared.Bounds.{Bounds}
use Rattle.model.specs.declared.Decision.{Decision}
use Rattle.model.specs.declared.Receipt.{Receipt}
use Rattle.model.specs.declared.Replay.{Replay}
use Rattle.model.specs.declared.Reason.TheVariants as Reason
use Rattle.model.specs.declared.Submission.{Submission}
use Rattle.model.specs.Reasons.{number}
use Rattle.rules.specs.Book.{Book}
use Rattle.rules.specs.Receipts.{bump, receipt_capacity, keep}
use Rattle.rules.specs.Interaction.{Answer}
use Rattle.rules.specs.Protocol.{Call, Tick, UpdateState, EmergencyStop, PollEstop, RecoverLocal, Acquire, Renew, Cancel, Submit, Reply, Input, Calls, Replies, Reads, Item, ItemObserve, ItemExecute, ItemFallback, ItemRecord, Output, Started, StartRefused, Hands, Answers, Reminds, Refuses, Shows, NoRuntime, Start, Phase, book_in, start, react}
use Rattle.rules.specs.Lives.{Life}

-- the inputs of a life so far, newest first
abbrev pub History : Type 0
History = List Input

-- where the runtime stands after a history, and what its newest input brought
unfoldable pub phase_after : Start → History → Phase
phase_after s [] = (start s).phase
phase_after s (i ∷ past) = (react (phase_after s past) i).phase

unfoldable pub output_after : Start → History → Output
output_after s [] = (start s).output
output_after s (i ∷ past) = (react (phase_after s past) i).output

-- the log ------------------------------------------------------------------------------------------------------------

pub data Event : Type 0 where
  Took : Call → Event  -- a call was taken
  Replied : Reply → Event  -- a reply took effect
  Handed : Item → Event  -- an item was handed out
  Ended : Answer → Event  -- a call ended with its answer

abbrev pub Log : Type 0
Log = List Event

-- the item or the answer that an output hands out; a reminder hands out none
unfoldable pub handed : Output → Log
handed Started = []
handed (StartRefused n) = []
handed (Hands item) = Handed item ∷ []
handed (Answers a) = Ended a ∷ []
handed (Reminds n item) = []
handed (Refuses n) = []
handed (Shows v) = []
handed NoRuntime = []

-- an input took effect where an item, an answer or the end of the start came of it
unfoldable pub took_effect : Output → Bool
took_effect Started = true
took_effect (StartRefused n) = true
took_effect (Hands item) = true
took_effect (Answers a) = true
took_effect (Reminds n item) = false
took_effect (Refuses n) = false
took_effect (Shows v) = false
took_effect NoRuntime = false

unfoldable pub arrived : Input → Output → Log
arrived (Calls c) out = cond (took_effect out) (Took c ∷ []) []
arrived (Replies r) out = cond (took_effect out) (Replied r ∷ []) []
arrived (Reads q) out = []

unfoldable pub logged : Input → Output → Log → Log
logged i out l = handed out ++ (arrived i out ++ l)

unfoldable pub log_of : Start → History → Log
log_of s [] = handed (start s).output
log_of s (i ∷ past) = logged i (react (phase_after s past) i).output (log_of s past)

-- the book on which the call in hand began
unfoldable pub opened : Input → Output → Option Book → Option Book → Option Book
opened (Calls c) out b old = cond (took_effect out) b old
opened (Replies r) out b old = old
opened (Reads q) out b old = old

unfoldable pub book_before : Start → History → Option Book
book_before s [] = None
book_before s (i ∷ past) = opened i (react (phase_after s past) i).output (book_in (phase_after s past)) (book_before s past)

-- what a log says --------------------------------------------------------------------------------------------------

-- the call in hand: the last that was taken
unfoldable pub call_of : Log → Option Call
call_of [] = None
call_of (Took c ∷ l) = Some c
call_of (Replied r ∷ l) = call_of l
call_of (Handed i ∷ l) = call_of l
call_of (Ended a ∷ l) = call_of l

-- the call in hand, and since it was taken, oldest first: the replies that took effect, and the items handed out
pub record Exchange : Type 0 where
  pub call : Call
  pub replies : List Reply
  pub items : List Item

unfoldable pub with_reply : Reply → Option Exchange → Option Exchange
with_reply r None = None
with_reply r (Some x) = Some (record { call = x.call; replies = x.replies ++ (r ∷ []); items = x.items })

unfoldable pub with_item : Item → Option Exchange → Option Exchange
with_item i None = None
with_item i (Some x) = Some (record { call = x.call; replies = x.replies; items = x.items ++ (i ∷ []) })

unfoldable pub current : Log → Option Exchange
current [] = None
current (Took c ∷ l) = Some (record { call = c; replies = []; items = [] })
current (Replied r ∷ l) = with_reply r (current l)
current (Handed i ∷ l) = with_item i (current l)
current (Ended a ∷ l) = current l

-- before the first call: the items that the start handed out, and the replies to them, oldest first
unfoldable pub unless_called : {A : Type 0} → Option Call → List A → List A
unless_called None xs = xs
unless_called (Some c) xs = []

unfoldable pub start_items : Log → List Item
start_items [] = []
start_items (Took c ∷ l) = start_items l
start_items (Replied r ∷ l) = start_items l
start_items (Handed i ∷ l) = start_items l ++ unless_called (call_of l) (i ∷ [])
start_items (Ended a ∷ l) = start_items l

unfoldable pub start_replies : Log → List Reply
start_replies [] = []
start_replies (Took c ∷ l) = start_replies l
start_replies (Replied r ∷ l) = start_replies l ++ unless_called (call_of l) (r ∷ [])
start_replies (Handed i ∷ l) = start_replies l
start_replies (Ended a ∷ l) = start_replies l

-- orders ---------------------------------------------------------------------------------------------------------------

unfoldable pub submission_in : Option Call → List Submission
submission_in None = []
submission_in (Some (Tick now)) = []
submission_in (Some (UpdateState flags now)) = []
submission_in (Some (EmergencyStop now)) = []
submission_in (Some (PollEstop raised now)) = []
submission_in (Some (RecoverLocal now)) = []
submission_in (Some (Acquire r now)) = []
submission_in (Some (Renew r)) = []
submission_in (Some (Cancel owner id now)) = []
submission_in (Some (Submit s)) = s ∷ []

-- the submissions that reached execute: the call in hand, at each execute item
unfoldable pub reaching : Item → Option Call → List Submission
reaching (ItemObserve axis) c = []
reaching (ItemExecute capability parameters) c = submission_in c
reaching (ItemFallback axis reason) c = []
reaching (ItemRecord r) c = []

unfoldable pub executed : Log → List Submission
executed [] = []
executed (Took c ∷ l) = executed l
executed (Replied r ∷ l) = executed l
executed (Handed i ∷ l) = reaching i (call_of l) ++ executed l
executed (Ended a ∷ l) = executed l

-- the number that the next receipt has: one more for each record item, held at the top
unfoldable pub counted : Item → ℕ → ℕ
counted (ItemObserve axis) n = n
counted (ItemExecute capability parameters) n = n
counted (ItemFallback axis reason) n = n
counted (ItemRecord r) n = bump n

unfoldable pub next_number : Log → ℕ
next_number [] = 1
next_number (Took c ∷ l) = next_number l
next_number (Replied r ∷ l) = next_number l
next_number (Handed i ∷ l) = counted i (next_number l)
next_number (Ended a ∷ l) = next_number l

-- the receipts kept: those of the record items, at most 64, oldest first
unfoldable pub kept_with : Item → List Receipt → List Receipt
kept_with (ItemObserve axis) rs = rs
kept_with (ItemExecute capability parameters) rs = rs
kept_with (ItemFallback axis reason) rs = rs
kept_with (ItemRecord r) rs = keep receipt_capacity rs r

unfoldable pub receipts_kept : Log → List Receipt
receipts_kept [] = []
receipts_kept (Took c ∷ l) = receipts_kept l
receipts_kept (Replied r ∷ l) = receipts_kept l
receipts_kept (Handed i ∷ l) = kept_with i (receipts_kept l)
receipts_kept (Ended a ∷ l) = receipts_kept l

-- whether the call in hand has observed
unfoldable pub observing : Log → Bool
observing [] = false
observing (Took c ∷ l) = false
observing (Replied r ∷ l) = observing l
observing (Handed (ItemObserve axis) ∷ l) = true
observing (Handed (ItemExecute capability parameters) ∷ l) = observing l
observing (Handed (ItemFallback axis reason) ∷ l) = observing l
observing (Handed (ItemRecord r) ∷ l) = observing l
observing (Ended a ∷ l) = observing l

-- whether it has handed out an execute item
unfoldable pub dispatching : Log → Bool
dispatching [] = false
dispatching (Took c ∷ l) = false
dispatching (Replied r ∷ l) = dispatching l
dispatching (Handed (ItemObserve axis) ∷ l) = dispatching l
dispatching (Handed (ItemExecute capability parameters) ∷ l) = true
dispatching (Handed (ItemFallback axis reason) ∷ l) = dispatching l
dispatching (Handed (ItemRecord r) ∷ l) = dispatching l
dispatching (Ended a ∷ l) = dispatching l

-- an admitted order: the submission, and the number of the receipt that consumes its id
pub record Admitted : Type 0 where
  pub submission : Submission
  pub receipt : ℕ

abbrev pub admitted_as : ℕ → Submission → Admitted
admitted_as n s = record { submission = s; receipt = n }

-- the orders that were admitted, newest first: the call in hand, at its first observe item
unfoldable pub admitting : Item → Bool → Option Call → ℕ → List Admitted
admitting (ItemObserve axis) seen c n = cond seen [] (map (admitted_as n) (submission_in c))
admitting (ItemExecute capability parameters) seen c n = []
admitting (ItemFallback axis reason) seen c n = []
admitting (ItemRecord r) seen c n = []

unfoldable pub admissions : Log → List Admitted
admissions [] = []
admissions (Took c ∷ l) = admissions l
admissions (Replied r ∷ l) = admissions l
admissions (Handed i ∷ l) = admitting i (observing l) (call_of l) (next_number l) ++ admissions l
admissions (Ended a ∷ l) = admissions l

-- the entry of the replay ring that an admitted order has
abbrev pub entry_of : Admitted → Replay
entry_of a = record { owner = a.submission.principal; action_id = a.submission.action.action_id; receipt = a.receipt }

-- the highest sequence admitted under a lease, or 0
unfoldable pub highest : ℕ → List Admitted → ℕ
highest lease [] = 0
highest lease (a ∷ more) =
    cond (eqb a.submission.action.lease_id lease) (max a.submission.action.sequence (highest lease more)) (highest lease more)

-- leases ---------------------------------------------------------------------------------------------------------------

-- who holds an axis: under which lease, for which capabilities, within which limits, and until when
pub record Tenancy : Type 0 where
  pub lease : ℕ
  pub owner : ℕ
  pub capabilities : ℕ
  pub limits : List Bounds
  pub expires : ℕ

-- the lease of this number that the call in hand asked for
unfoldable pub tenancy_of : ℕ → Option Call → Option Tenancy
tenancy_of lease None = None
tenancy_of lease (Some (Tick now)) = None
tenancy_of lease (Some (UpdateState flags now)) = None
tenancy_of lease (Some (EmergencyStop now)) = None
tenancy_of lease (Some (PollEstop raised now)) = None
tenancy_of lease (Some (RecoverLocal now)) = None
tenancy_of lease (Some (Acquire r now)) =
    Some (record { lease = lease; owner = r.owner; capabilities = r.capabilities; limits = r.limits; expires = now + r.duration_ms })
tenancy_of lease (Some (Renew r)) = None
tenancy_of lease (Some (Cancel owner id now)) = None
tenancy_of lease (Some (Submit s)) = None

unfoldable pub until : ℕ → Option Tenancy → Option Tenancy
until time None = None
until time (Some t) =
    Some (record { lease = t.lease; owner = t.owner; capabilities = t.capabilities; limits = t.limits; expires = time })

-- the same lease, until the time that the call in hand asks for
unfoldable pub renewed_by : Option Call → Option Tenancy → Option Tenancy
renewed_by None t = t
renewed_by (Some (Tick now)) t = t
renewed_by (Some (UpdateState flags now)) t = t
renewed_by (Some (EmergencyStop now)) t = t
renewed_by (Some (PollEstop raised now)) t = t
renewed_by (Some (RecoverLocal now)) t = t
renewed_by (Some (Acquire r now)) t = t
renewed_by (Some (Renew r)) t = until (r.now + r.duration_ms) t
renewed_by (Some (Cancel owner id now)) t = t
renewed_by (Some (Submit s)) t = t

-- a receipt of the decision Control is a grant's or a renewal's
unfoldable pub is_control : Decision → Bool
is_control Decision.Executed = false
is_control Decision.Rejected = false
is_control Decision.Fallback = false
is_control Decision.Control = true
is_control Decision.Failed = false

unfoldable pub is_grant : Receipt → Bool
is_grant r = is_control r.decision && eqb (number r.reason) (number Reason.LeaseGranted)

unfoldable pub recorded_on : ℕ → Receipt → Option Call → Option Tenancy → Option Tenancy
recorded_on axis r c old =
    cond (is_control r.decision && eqb r.resource axis) (cond (is_grant r) (tenancy_of r.lease_id c) (renewed_by c old)) old

unfoldable pub holding : ℕ → Item → Option Call → Option Tenancy → Option Tenancy
holding axis (ItemObserve i) c old = old
holding axis (ItemExecute capability parameters) c old = old
holding axis (ItemFallback i reason) c old = cond (eqb i axis) None old
holding axis (ItemRecord r) c old = recorded_on axis r c old

-- 01: "A lease is live from its grant to the next fallback on its axis"; a renewal moves its end
unfoldable pub live : ℕ → Log → Option Tenancy
live axis [] = None
live axis (Took c ∷ l) = live axis l
live axis (Replied r ∷ l) = live axis l
live axis (Handed i ∷ l) = holding axis i (call_of l) (live axis l)
live axis (Ended a ∷ l) = live axis l

-- lives ----------------------------------------------------------------------------------------------------------------

-- the orders that reached execute in a life, and in a list of lives
abbrev pub executed_by : Life → List Action
executed_by l = map (λ s. s.action) (executed (log_of l.start (reverse l.inputs)))

unfoldable pub executed_in : List Life → List Action
executed_in [] = []
executed_in (l ∷ ls) = executed_by l ++ executed_in ls
