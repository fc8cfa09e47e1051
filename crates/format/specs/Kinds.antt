-- The kinds of input records, their numbers, and the most that each word may be (docs/WIRE.md, "Input records").
use Rattle.std.specs.Prelude.{ℕ, Bool, true, cond, ◌&&◌, List, [], ◌∷◌, ◌++◌, eqb, leb, replicate, Option, Some, None}
use Rattle.format.specs.declared.RecordKind.{RecordKind}
use Rattle.format.specs.declared.RecordKind.TheVariants as Kind
use Rattle.format.specs.declared.TurnKind.{TurnKind}
use Rattle.format.specs.declared.TurnKind.TheVariants as Turn
use Rattle.format.specs.declared.ReadingKind.{ReadingKind}
use Rattle.format.specs.declared.ReadingKind.TheVariants as Reading

unfoldable pub kinds : List (ℕ × RecordKind)
kinds =
    (1, Kind.Capability)
    ∷ (2, Kind.Start)
    ∷ (16, Kind.Turn Turn.Tick)
    ∷ (17, Kind.Turn Turn.UpdateState)
    ∷ (18, Kind.Turn Turn.EmergencyStop)
    ∷ (19, Kind.Turn Turn.PollEstop)
    ∷ (20, Kind.Turn Turn.RecoverLocal)
    ∷ (21, Kind.Turn Turn.Acquire)
    ∷ (22, Kind.Turn Turn.Renew)
    ∷ (23, Kind.Turn Turn.Cancel)
    ∷ (24, Kind.Turn Turn.Submit)
    ∷ (32, Kind.Turn Turn.Observed)
    ∷ (33, Kind.Turn Turn.Executed)
    ∷ (34, Kind.Turn Turn.FellBack)
    ∷ (35, Kind.Turn Turn.Recorded)
    ∷ (48, Kind.Reading Reading.State)
    ∷ (49, Kind.Reading Reading.Epoch)
    ∷ (50, Kind.Reading Reading.BootId)
    ∷ (51, Kind.Reading Reading.Flags)
    ∷ (52, Kind.Reading Reading.ReceiptCount)
    ∷ (53, Kind.Reading Reading.Config)
    ∷ (54, Kind.Reading Reading.Snapshot)
    ∷ (55, Kind.Reading Reading.Lease)
    ∷ (56, Kind.Reading Reading.CapabilityAt)
    ∷ (57, Kind.Reading Reading.ReceiptAt)
    ∷ []

unfoldable pub lookup : List (ℕ × RecordKind) → ℕ → Option RecordKind
lookup [] n = None
lookup (k ∷ ks) n = cond (eqb n k.0) (Some k.1) (lookup ks n)

-- the kind of a record by its word 0
unfoldable pub kind_at : ℕ → Option RecordKind
kind_at n = lookup kinds n

-- the most that a word may be, by what it holds
abbrev pub u64 : ℕ
u64 = 18446744073709551615

abbrev pub u32 : ℕ
u32 = 4294967295

abbrev pub u16 : ℕ
u16 = 65535

abbrev pub u8 : ℕ
u8 = 255

abbrev pub bool : ℕ
bool = 1

-- word 0, what the fields may be, and nothing in the words after them
abbrev pub filled : List ℕ → ℕ → List ℕ
filled fields rest = u64 ∷ (fields ++ replicate rest 0)

-- the most that each of a record's 16 words may be; an `i32` is 32 bits
unfoldable pub turn_limits : TurnKind → List ℕ
turn_limits Turn.Tick = filled (u64 ∷ []) 14
turn_limits Turn.UpdateState = filled (u64 ∷ u32 ∷ []) 13
turn_limits Turn.EmergencyStop = filled (u64 ∷ []) 14
turn_limits Turn.PollEstop = filled (u64 ∷ u32 ∷ []) 13
turn_limits Turn.RecoverLocal = filled (u64 ∷ []) 14
turn_limits Turn.Acquire = filled (u64 ∷ u64 ∷ u8 ∷ u64 ∷ u32 ∷ u32 ∷ u32 ∷ u32 ∷ u32 ∷ []) 6
turn_limits Turn.Renew = filled (u64 ∷ u64 ∷ u64 ∷ u64 ∷ u32 ∷ []) 10
turn_limits Turn.Cancel = filled (u64 ∷ u64 ∷ u64 ∷ []) 12
turn_limits Turn.Submit = filled (u64 ∷ u64 ∷ u64 ∷ u64 ∷ u64 ∷ u64 ∷ u64 ∷ u64 ∷ u16 ∷ u64 ∷ u64 ∷ u64 ∷ u32 ∷ u32 ∷ u32 ∷ []) 0
turn_limits Turn.Observed = filled (bool ∷ u32 ∷ u32 ∷ u32 ∷ []) 11
turn_limits Turn.Executed = filled (bool ∷ []) 14
turn_limits Turn.FellBack = filled (bool ∷ []) 14
turn_limits Turn.Recorded = filled [] 15

unfoldable pub reading_limits : ReadingKind → List ℕ
reading_limits Reading.State = filled [] 15
reading_limits Reading.Epoch = filled [] 15
reading_limits Reading.BootId = filled [] 15
reading_limits Reading.Flags = filled [] 15
reading_limits Reading.ReceiptCount = filled [] 15
reading_limits Reading.Config = filled [] 15
reading_limits Reading.Snapshot = filled [] 15
reading_limits Reading.Lease = filled (u8 ∷ []) 14
reading_limits Reading.CapabilityAt = filled (u64 ∷ []) 14
reading_limits Reading.ReceiptAt = filled (u64 ∷ []) 14

unfoldable pub limits_of : RecordKind → List ℕ
limits_of Kind.Capability = filled (u16 ∷ u8 ∷ 2 ∷ u8 ∷ u32 ∷ u32 ∷ u32 ∷ u32 ∷ u32 ∷ u32 ∷ bool ∷ u32 ∷ u32 ∷ []) 2
limits_of Kind.Start = filled (u64 ∷ u64 ∷ u32 ∷ u32 ∷ u32 ∷ u32 ∷ u32 ∷ u16 ∷ u32 ∷ []) 6
limits_of (Kind.Turn t) = turn_limits t
limits_of (Kind.Reading q) = reading_limits q

-- no word is above what it may be
unfoldable pub within : List ℕ → List ℕ → Bool
within [] limits = true
within (w ∷ ws) [] = true
within (w ∷ ws) (l ∷ ls) = leb w l && within ws ls
