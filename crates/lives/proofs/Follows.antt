-- A run whose steps are the rules' reactions, and leave what the next one asks for, is what the rules make of its inputs. Assumes nothing.
use mathlib.Core.List.{List, ◌∷◌}
use mathlib.Core.Path.{◌≡◌, refl, ap, ap₂, ◌∙◌}
use Rattle.rules.specs.Protocol.{Input, Output, Phase, Reaction, react}
use Rattle.rules.specs.Lives.{outputs_from, phase_from}
use Rattle.lives.specs.Runs.{Run, here, then}

module _ {S : Type 0} (phase_in : S → Phase) (Fit : S → Type 0) where
  -- an output and a standing are those of a reaction
  pub record Meets (r : Reaction) (out : Output) (t : S) : Type 0 where
    pub output : out ≡ r.output
    pub phase : phase_in t ≡ r.phase
    pub fit : Fit t

  pub record Follows (p : Phase) (is : List Input) (outs : List Output) (t : S) : Type 0 where
    pub outputs : outs ≡ outputs_from p is
    pub phase : phase_in t ≡ phase_from p is

  module _ {Takes : S → Input → Output → S → Type 0} (step : (s t : S) (i : Input) (out : Output) → Fit s → Takes s i out t → Meets (react (phase_in s) i) out t) where
    pub follows : {s t : S} {is : List Input} {outs : List Output} → Fit s → Run Takes s is outs t → Follows (phase_in s) is outs t
    unfolding outputs_from phase_from
    follows h here = record { outputs = refl; phase = refl }
    follows {s} h (then {t = next} {i = i} {out = out} {is = is} one more) =
        let m = step s next i out h one in
        let k = follows m.fit more in
        record {
          outputs = ap₂ (λ x y. x ∷ y) m.output (k.outputs ∙ ap (λ p. outputs_from p is) m.phase);
          phase = k.phase ∙ ap (λ p. phase_from p is) m.phase;
        }
