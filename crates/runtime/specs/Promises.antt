-- What the functions over a lent runtime ask and promise.
use Rattle.std.specs.Prelude.{ℕ, ◌<◌, ◌≤◌, Bool, true, false, cond, ◌≡◌, ltb, get_or}
use Rattle.std.specs.Prelude.{Some, None}
use Rattle.model.specs.declared.Active.{Active}
use Rattle.model.specs.declared.Lease.{Lease}
use Rattle.model.specs.Records.{no_capability, no_replay}
use Rattle.rules.specs.Admission.{find_entry, is_some, with_id}
use Rattle.rules.specs.Book.{Book}
use Rattle.rules.specs.Interaction.{Interaction}
use Rattle.rules.specs.Protocol.{Reaction}
use Rattle.rules.specs.Rules.{receipt_number, tick}
use Rattle.state.specs.State.{reaction_of, Sound}
use Rattle.state.specs.declared.AfterRecord.{AfterRecord}
use Rattle.state.specs.declared.Answer.{Answer}
use Rattle.state.specs.declared.Answer.TheVariants as Answer
use Rattle.decide_start.specs.declared.Stage.TheVariants.{Started}
use Rattle.decide_tick.specs.declared.Begun.{Begun}
use Rattle.decide_tick.specs.declared.Begun.TheVariants.{Quiet, Busy}
use Rattle.runtime.specs.declared.Hit.{Hit}
use Rattle.runtime.specs.declared.Placement.{Placement}
use Rattle.runtime.specs.declared.Runtime.{Runtime}
use Rattle.runtime.specs.Kept.{oldest_rejected, oldest_other, PlacesAs, placed_in}
use Rattle.runtime.specs.Runtimes.{asked_in, tables_in, state_in, book_on, Sized, Placed}

-- the tables are as they are to be
pub record Kept (rt : Runtime) : Type 0 where
  pub sized : Sized rt
  pub placed : Placed rt

-- .. and the state that the runtime is, after its start
pub record Good (rt : Runtime) : Type 0 where
  pub kept : Kept rt
  pub sound : Sound (state_in rt)
  pub started : rt.starting.stage ≡ Started

-- where a runtime is left, given what the rules say
pub record MovesIn (rt : Runtime) (answer : Answer) (x : Reaction) : Type 0 where
  pub reaction : reaction_of answer (state_in rt) ≡ x
  pub good : Good rt

-- the answers of a call or a reply that is turned away: 111, 113, 112, and that there is no runtime
abbrev pub turns_away : Answer → Bool
turns_away Answer.Returned = false
turns_away Answer.Unraised = false
turns_away Answer.Raised = false
turns_away Answer.Succeeded = false
turns_away Answer.Leased = false
turns_away Answer.Refused = false
turns_away Answer.Submitted = false
turns_away Answer.Item = false
turns_away Answer.ReplyAwaited = true
turns_away Answer.OtherAwaited = true
turns_away Answer.NoReplyAwaited = true
turns_away Answer.NoRuntime = true
turns_away Answer.Started = false
turns_away Answer.InvalidBootId = false
turns_away Answer.InvalidConfig = false
turns_away Answer.InvalidCapability = false
turns_away Answer.DuplicateCapability = false
turns_away Answer.StartupFailed = false

-- 01: what is turned away alters nothing
pub record TurnsIn (h h' : Runtime) (answer : Answer) (x : Reaction) : Type 0 where
  pub moves : MovesIn h' answer x
  pub unaltered : turns_away answer ≡ true → h' ≡ h

-- what is left and answered, as equations
pub record Leaves (h : Runtime) (a : Answer) (h' : Runtime) (r : Answer) : Type 0 where
  pub stored : h' ≡ h
  pub answered : r ≡ a

-- a slot taken for a receipt of a kind
pub record PlacesIn (rejection : Bool) (after : AfterRecord) (h h' : Runtime) (r : ℕ) : Type 0 where
  pub placement : Placement
  pub places : PlacesAs h.places.index rejection (oldest_rejected h) (oldest_other h) placement
  pub stored : h' ≡ placed_in placement after h
  pub slot : r ≡ placement.slot
  pub inside : r < 65

abbrev pub is_quiet : Begun → Bool
is_quiet Quiet = true
is_quiet Busy = false

-- how a call begins: its tick is quiet and what follows goes on at once, or nothing is stored yet
unfoldable pub BegunAs : Begun → ℕ → Runtime → Runtime → Type 0
BegunAs Quiet time h h' = (next : Book → Interaction) → tick time (book_on h) next ≡ next (book_on h')
BegunAs Busy time h h' = h' ≡ h

pub record Begins (time : ℕ) (h h' : Runtime) (g : Begun) : Type 0 where
  pub begun : BegunAs g time h h'
  pub asked : asked_in h' ≡ asked_in h
  pub waiting : h'.waiting ≡ h.waiting
  pub good : Good h'

-- nothing is altered that the rules know
pub record Tightens (h h' : Runtime) : Type 0 where
  pub book : book_on h' ≡ book_on h
  pub asked : asked_in h' ≡ asked_in h
  pub good : Good h'

-- an axis, or the spare one
abbrev pub spare_or : ℕ → ℕ
spare_or axis = cond (ltb axis 8) axis 8

-- what looks find ---------------------------------------------------------------------------------------------------------

-- no lease and no active order ends before it
pub record SoonestIn (soonest : ℕ) (h : Runtime) : Type 0 where
  pub leases : (axis : ℕ) (l : Lease) → get_or (tables_in h).leases axis None ≡ Some l → soonest ≤ l.expires_at
  pub active : (axis : ℕ) (a : Active) → get_or (tables_in h).active axis None ≡ Some a → soonest ≤ a.expires_at

-- the place of the first record with this id, or 16
pub record FoundIn (id r : ℕ) (h : Runtime) : Type 0 where
  pub inside : r < 17
  pub found : with_id id (tables_in h).capabilities ≡ cond (ltb r 16) (Some (get_or h.capabilities r no_capability)) None

-- the place of the newest entry of an order, or 32
pub record EntryIn (owner action r : ℕ) (h : Runtime) : Type 0 where
  pub inside : r < 33
  pub found : find_entry owner action (tables_in h).replay ≡ cond (ltb r 32) (Some (get_or h.replay r no_replay).replay) None

abbrev pub hit_of : ℕ → ℕ → Hit
hit_of at receipt = record { found = ltb at 32; receipt = cond (ltb at 32) receipt 0 }

-- .. where it is wanted
pub record HitIn (wanted : Bool) (owner action : ℕ) (r : Hit) (h : Runtime) : Type 0 where
  pub found : wanted ≡ true → r.found ≡ is_some (find_entry owner action (tables_in h).replay)
  pub receipt : wanted ≡ true → r.receipt ≡ receipt_number (find_entry owner action (tables_in h).replay)
  pub unwanted : wanted ≡ false → r.receipt ≡ 0
