-- When a capability is sound, and what a list of them holds (01, "A start").
use Rattle.std.specs.Prelude.{ℕ, Bool, true, not, ◌&&◌, List, [], ◌∷◌, eqb, leb, drop}
use Rattle.model.specs.declared.Capability.{Capability}
use Rattle.model.specs.declared.Verification.{Verification}
use Rattle.model.specs.declared.Verification.TheVariants.{Parameters, State}
use Rattle.model.specs.Lists.{all, any, every}
use Rattle.model.specs.Bounds.{ordered, is_zero}
use Rattle.model.specs.Words.{share_no_bit, inside}

-- a State verification has mask not 0 and value inside mask
unfoldable pub verifiable : Verification → Bool
verifiable Parameters = true
verifiable (State mask value) = not (eqb mask 0) && inside value mask

-- 01: "A capability is sound if its id is 1 to 63, axis 0 to 7, `parameter_count` 0 to 2, `require_set` and `require_clear` share no bit,
-- both bounds have min ≤ max, bounds past the count are (0, 0), and a State verification has mask not 0 and value inside mask."
unfoldable pub conditions : Capability → List Bool
conditions c =
    (leb 1 c.id && leb c.id 63)
    ∷ leb c.resource 7
    ∷ leb c.parameter_count 2
    ∷ share_no_bit c.require_set c.require_clear
    ∷ all ordered c.bounds
    ∷ all is_zero (drop c.parameter_count c.bounds)
    ∷ verifiable c.verification
    ∷ []

unfoldable pub sound : Capability → Bool
sound c = every (conditions c)

-- an id that a record of the list has
abbrev pub id_taken : List Capability → ℕ → Bool
id_taken l id = any (λ c. eqb c.id id) l

-- 01: "An axis is used if a capability names it."
abbrev pub axis_used : List Capability → ℕ → Bool
axis_used l axis = any (λ c. eqb c.resource axis) l
