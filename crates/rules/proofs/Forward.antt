-- A life's inputs, oldest first, and its histories, newest first, say the same; and a life that is cut is a life. Assumes nothing.
use mathlib.Core.List.{List, [], ◌∷◌, ◌++◌, reverse, reverse_aux}
use mathlib.Core.Path.{◌≡◌, refl, ap}
use Rattle.rules.specs.Protocol.{Input, Start, Phase, start, react}
use Rattle.rules.specs.Lives.{outputs_from, phase_from}
use Rattle.rules.specs.Log.{History, phase_after, output_after}

phase-aux : (s : Start) (is : List Input) (h : History) → phase_after s (reverse_aux is h) ≡ phase_from (phase_after s h) is
unfolding phase_after phase_from
phase-aux s [] h = refl
phase-aux s (i ∷ is) h = phase-aux s is (i ∷ h)

-- where the runtime stands after a life's inputs
pub phase-forward : (s : Start) (is : List Input) → phase_after s (reverse is) ≡ phase_from (start s).phase is
unfolding phase_after
phase-forward s is = phase-aux s is []

-- the outputs up to a cut are those of the cut life, whatever comes later
pub cut-outputs : (p : Phase) (is later : List Input) → outputs_from p (is ++ later) ≡ outputs_from p is ++ outputs_from (phase_from p is) later
unfolding outputs_from phase_from
cut-outputs p [] later = refl
cut-outputs p (i ∷ is) later = ap (λ os. (react p i).output ∷ os) (cut-outputs (react p i).phase is later)

-- the last output of a life's inputs is that of its whole history
pub output-forward : (s : Start) (is : List Input) (i : Input)
    → outputs_from (start s).phase (is ++ (i ∷ [])) ≡ outputs_from (start s).phase is ++ (output_after s (i ∷ reverse is) ∷ [])
unfolding output_after outputs_from
output-forward s is i = rw (output_after, phase-forward s is) (cut-outputs (start s).phase is (i ∷ []))
