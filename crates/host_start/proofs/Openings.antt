-- The words that a start makes: what is stored over zeros is a fresh runtime. Assumes nothing.
use Prim.Native.Nat.{ℕ, ◌<◌, ◌≤◌}
use mathlib.Core.Bool.{Bool, true, false, cond}
use mathlib.Core.List.{List}
use mathlib.Core.Path.{◌≡◌, refl, sym, ap, ◌∙◌, subst}
use native.Mathlib.Omega.{arith}
use borrow.Author.Tests.{ltb-true}
use lib.Dec.{ltb}
use Rattle.model.specs.declared.Capability.{Capability}
use Rattle.model.specs.declared.Config.{Config}
use Rattle.rows.specs.Codes.{below}
use Rattle.rows.specs.Rows.{falling_of, falling_words}
use Rattle.rules.specs.Protocol.{refused_start, start}
use Rattle.state.specs.State.{InBounds}
use Rattle.state.specs.declared.Answer.{Answer}
use Rattle.state.specs.declared.Falling.{Falling}
use Rattle.state.specs.declared.Fixed.{Fixed}
use Rattle.state.specs.declared.Numbers.{Numbers}
use Rattle.decide_start.specs.declared.Listed.{Listed}
use Rattle.decide_start.specs.declared.Stage.TheVariants as Stage
use Rattle.decide_start.specs.declared.Trial.{Trial}
use Rattle.decide_start.specs.Starts.{Listing, start_on, refusal_of, is_refusal, Fixes, numbers_at, ended_by, tried_at, over_by, trial_of, first_trial}
use Rattle.state.specs.Axes.{first_used}
use Rattle.runtime.specs.declared.Runtime.{Runtime}
use Rattle.runtime.specs.Stages.{starting_on, Moves}
use Rattle.runtime.proofs.Openings.{Fresh, moves-fresh}
use Rattle.layout.specs.Fields.{with_starting, with_waiting, with_numbers, with_slot, with_falling, with_fixed, with_capabilities}
use Rattle.layout.specs.Layout.{size, Long, runtime_in, listing_in, Becomes}
use Rattle.host_start.proofs.Zeros.{Blank, blank}
use Rattle.host_start.specs.Starts.{Unlists, Clears, Makes}

pub long-cleared : {a b : List ℕ} → Long a → Clears a b → Long b
long-cleared l s = subst (λ (n : ℕ). size ≤ n) (sym s.long) l

-- the axis that is tried -------------------------------------------------------------------------------------------------

tried-low : (axis : ℕ) (t : Bool) → ltb axis 8 ≡ t → (cond t (tried_at axis true) (over_by true)).axis < 8
tried-low axis true h = ltb-true _ _ h
tried-low axis false h = omega arith

first-low : (a : Answer) (axis : ℕ) (t : Bool) → (cond t (ended_by Stage.Gone false a) (trial_of axis true)).axis < 8
first-low a axis true = omega arith
first-low a axis false = tried-low axis (ltb axis 8) refl

trial-low : (a : Answer) (used : List Bool) (trial : Trial) → trial ≡ first_trial a used → trial.axis < 8
trial-low a used trial e = subst (λ (t : Trial). t.axis < 8) (sym e) (first-low a (first_used used 0) (is_refusal a))

falling-is : (f : Falling) (axis : ℕ) → f ≡ starting_on axis → axis < 8 → (InBounds f → falling_of (falling_words f) ≡ f) → falling_of (falling_words f) ≡ starting_on axis
falling-is f axis e h back =
    back (subst InBounds (sym e) (record { axis = h; at = omega arith })) ∙ e

slot_is : below 65 64 ≡ 64
unfolding below
slot_is = refl

-- a runtime as it is made ------------------------------------------------------------------------------------------------

-- what a start stores over a runtime
abbrev pub opened_on : List Capability → Fixed → Numbers → Falling → Trial → Runtime → Runtime
opened_on records fixed numbers falling trial h =
    with_waiting trial.waiting
    (with_starting trial.starting (with_falling falling (with_slot (below 65 64) (with_numbers numbers (with_fixed fixed (with_capabilities records h))))))

module _ {c : Config} {boot time word : ℕ} {fixed : Fixed} {numbers : Numbers} {trial : Trial} where
  fresh_on : (s : Listed) (h : Runtime) (x : Falling) → Blank h → Fixes c s boot fixed → numbers ≡ numbers_at c time word → x ≡ starting_on trial.axis
      → Fresh c s boot time word trial (opened_on s.records fixed numbers x trial h)
  fresh_on s h x b f n g =
      record {
        starting = refl;
        waiting = refl;
        numbers = n;
        cursor = b.cursor;
        slot = slot_is;
        falling = g;
        at = b.at;
        fixed = f;
        places = b.places;
        leases = b.leases;
        active = b.active;
        capabilities = refl;
        replay = b.replay;
        slots = b.slots;
      }

  pub makes : (a : Answer) (falling : Falling) (w v u x : List ℕ) → Clears w v
      → Becomes v u (opened_on (listing_in v).records fixed numbers (falling_of (falling_words falling)) trial (runtime_in v)) → Unlists u x
      → Fixes c (listing_in w) boot fixed → trial ≡ first_trial a fixed.used → numbers ≡ numbers_at c time word → falling ≡ starting_on trial.axis
      → (InBounds falling → falling_of (falling_words falling) ≡ falling) → (l : List Capability) → Listing (listing_in w) l
      → refusal_of a ≡ refused_start (start_on c l boot time word) → Makes w x trial.answer (start (start_on c l boot time word))
  makes a falling w v u x clears becomes unlists f t n g back l k r =
      let made : Runtime = opened_on (listing_in w).records fixed numbers (falling_of (falling_words falling)) trial (runtime_in v) in
      let is : runtime_in x ≡ made =
      unlists.runtime
      ∙ becomes.stored
      ∙ ap (λ (s : Listed). opened_on s.records fixed numbers (falling_of (falling_words falling)) trial (runtime_in v)) clears.listed in
      let fresh : Fresh c (listing_in w) boot time word trial made =
      fresh_on (listing_in w) (runtime_in v) _ (blank v clears.zero) f n (falling-is falling trial.axis g (trial-low a fixed.used trial t) back) in
      record {
        first = unlists.first ∙ becomes.same.first ∙ clears.first;
        long = unlists.long ∙ becomes.same.long ∙ clears.long;
        moves =
            subst (λ (h : Runtime). Moves h trial.answer (start (start_on c l boot time word))) (sym is) (moves-fresh made fresh a t l k r);
        listed = unlists.listed;
      }
