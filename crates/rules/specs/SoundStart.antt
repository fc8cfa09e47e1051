-- 01's checks of a start as plain facts ("A start"): when they pass, and which one fails first, with its number. A law (proofs/Soundness)
-- joins them to the checks that the rules run.
use Rattle.std.specs.Prelude.{ℕ, ◌≤◌, ◌<◌, List, [], ◌∷◌, ◌++◌, map, ◌≢◌, ◌≡◌, pos, length, drop, ◌≤ℤ◌}
use Rattle.std.specs.Int.Bits.{bit_and}
use Rattle.model.specs.declared.Bounds.{Bounds}
use Rattle.model.specs.declared.Capability.{Capability}
use Rattle.model.specs.declared.Config.{Config}
use Rattle.model.specs.declared.Verification.{Verification}
use Rattle.model.specs.declared.Verification.TheVariants.{Parameters, State}
use Rattle.rules.specs.Lists.{Mem, Distinct}
use Rattle.rules.specs.Protocol.{Start}

-- a record -------------------------------------------------------------------------------------------------------------

-- "a State verification has mask not 0 and value inside mask"
abbrev pub Verifiable : Verification → Type 0
Verifiable Parameters = Unit
Verifiable (State mask value) = (mask ≢ 0) × (bit_and mask value ≡ value)

-- 01: "A capability is sound if .." (seven conditions)
pub record SoundCapability (c : Capability) : Type 0 where
  pub id : (1 ≤ c.id) × (c.id ≤ 63)
  pub axis : c.resource ≤ 7
  pub count : c.parameter_count ≤ 2
  pub flags : bit_and c.require_set c.require_clear ≡ 0
  pub ordered : (b : Bounds) → Mem b c.bounds → b.min ≤ℤ b.max
  pub zero : (b : Bounds) → Mem b (drop c.parameter_count c.bounds) → (b.min ≡ pos 0) × (b.max ≡ pos 0)
  pub verification : Verifiable c.verification

-- the record with this id: the first of them, where there were several
pub record Named (id : ℕ) (cs : List Capability) (c : Capability) : Type 0 where
  pub earlier : List Capability
  pub later : List Capability
  pub place : cs ≡ earlier ++ (c ∷ later)
  pub own : c.id ≡ id
  pub first : (d : Capability) → Mem d earlier → d.id ≢ id

abbrev pub ids_of : List Capability → List ℕ
ids_of cs = map (λ c. c.id) cs

-- every record is sound, and no id stands twice
pub record SoundRecords (cs : List Capability) : Type 0 where
  pub each : (c : Capability) → Mem c cs → SoundCapability c
  pub ids : Distinct (ids_of cs)

-- the configuration ------------------------------------------------------------------------------------------------------

-- none of the six fields is 0
pub record SoundConfig (c : Config) : Type 0 where
  pub watchdog : c.watchdog_ms ≢ 0
  pub state_ttl : c.state_ttl_ms ≢ 0
  pub max_lease : c.max_lease_ms ≢ 0
  pub max_valid : c.max_valid_for_ms ≢ 0
  pub invalid_limit : c.invalid_limit ≢ 0
  pub estop_mask : c.estop_mask ≢ 0

-- 01: "list empty or above 16, or one of the six `Config` fields 0"
pub data Misconfigured (s : Start) : Type 0 where
  empty : s.capabilities ≡ [] → Misconfigured s
  long : 16 < length s.capabilities → Misconfigured s
  watchdog : s.config.watchdog_ms ≡ 0 → Misconfigured s
  state_ttl : s.config.state_ttl_ms ≡ 0 → Misconfigured s
  max_lease : s.config.max_lease_ms ≡ 0 → Misconfigured s
  max_valid : s.config.max_valid_for_ms ≡ 0 → Misconfigured s
  invalid_limit : s.config.invalid_limit ≡ 0 → Misconfigured s
  estop_mask : s.config.estop_mask ≡ 0 → Misconfigured s

-- a start ----------------------------------------------------------------------------------------------------------------

-- 01's checks of a start pass
pub record SoundStart (s : Start) : Type 0 where
  pub boot : s.boot_id ≢ 0
  pub some : s.capabilities ≢ []
  pub few : length s.capabilities ≤ 16
  pub config : SoundConfig s.config
  pub records : SoundRecords s.capabilities

-- boot number and configuration pass, and so do the records before this one
pub record FailsAt (s : Start) (earlier : List Capability) (c : Capability) : Type 0 where
  pub boot : s.boot_id ≢ 0
  pub configured : ¬ Misconfigured s
  pub later : List Capability
  pub place : s.capabilities ≡ earlier ++ (c ∷ later)
  pub before : SoundRecords earlier

-- 01: "Checks in order: boot number; configuration; then each record in list order, its own conditions before its id is compared with
-- earlier ones". The first that fails, and its number.
pub data StartFails (s : Start) : ℕ → Type 0 where
  boot : s.boot_id ≡ 0 → StartFails s 101
  configuration : s.boot_id ≢ 0 → Misconfigured s → StartFails s 102
  unsound : (earlier : List Capability) (c : Capability) → FailsAt s earlier c → ¬ SoundCapability c → StartFails s 103
  duplicate : (earlier : List Capability) (c : Capability) → FailsAt s earlier c → SoundCapability c → Mem c.id (ids_of earlier)
      → StartFails s 104
