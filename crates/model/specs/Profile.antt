-- The reference profile (profile.rs), and one fact about the whole table.
use Rattle.std.specs.Prelude.{ℕ, ◌≡◌, refl, Bool, true, false, not, ◌&&◌, List, [], ◌∷◌, map, pos, negsuc}
use Rattle.model.specs.declared.Capability.{Capability}
use Rattle.model.specs.declared.ExecutionClass.TheVariants.{Stream, Discrete, Control}
use Rattle.model.specs.declared.Verification.TheVariants.{Parameters, State}
use Rattle.model.specs.Records.{zero_bounds}
use Rattle.model.specs.Lists.{all, every}
use Rattle.model.specs.Bounds.{is_zero}
use Rattle.model.specs.Words.{share_no_bit, inside}
use Rattle.model.specs.Soundness.{verifiable, conditions, sound, id_taken, axis_used}

abbrev pub profile : List Capability
profile =
    record {
      id = 1;
      resource = 0;
      class = Stream;
      parameter_count = 2;
      bounds = record { min = negsuc 999; max = pos 1000 } ∷ record { min = negsuc 1999; max = pos 2000 } ∷ [];
      require_set = 0;
      require_clear = 15;
      verification = Parameters;
    }
    ∷ record {
      id = 2;
      resource = 0;
      class = Control;
      parameter_count = 0;
      bounds = zero_bounds ∷ zero_bounds ∷ [];
      require_set = 0;
      require_clear = 0;
      verification = Parameters;
    }
    ∷ record {
      id = 3;
      resource = 1;
      class = Discrete;
      parameter_count = 0;
      bounds = zero_bounds ∷ zero_bounds ∷ [];
      require_set = 0;
      require_clear = 17;
      verification = State 1 1;
    }
    ∷ record {
      id = 4;
      resource = 1;
      class = Discrete;
      parameter_count = 0;
      bounds = zero_bounds ∷ zero_bounds ∷ [];
      require_set = 0;
      require_clear = 17;
      verification = State 1 0;
    }
    ∷ []

-- no id stands twice in a list
unfoldable pub distinct_ids : List Capability → Bool
distinct_ids [] = true
distinct_ids (c ∷ l) = not (id_taken l c.id) && distinct_ids l

abbrev pub profile_axes : List ℕ
profile_axes = 0 ∷ 1 ∷ 2 ∷ 3 ∷ 4 ∷ 5 ∷ 6 ∷ 7 ∷ []

-- what the table is held to: every record is sound, no id stands twice, and which axes are used
pub record Held : Type 0 where
  pub sound : Bool
  pub distinct : Bool
  pub used : List Bool

unfoldable pub held_to : List Capability → Held
held_to l = record { sound = all sound l; distinct = distinct_ids l; used = map (axis_used l) profile_axes }

pub profile-holds : held_to profile
    ≡ record { sound = true; distinct = true; used = true ∷ true ∷ false ∷ false ∷ false ∷ false ∷ false ∷ false ∷ [] }
unfolding held_to sound conditions every share_no_bit inside is_zero verifiable distinct_ids
profile-holds = refl
