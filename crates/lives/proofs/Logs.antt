-- The log of a life's inputs and outputs, oldest first, is the one that the rules build newest first. Assumes nothing.
use mathlib.Core.List.{List, [], ◌∷◌, reverse, reverse_aux}
use mathlib.Core.Path.{◌≡◌, refl}
use Rattle.rules.specs.Protocol.{Input, Start}
use Rattle.rules.specs.Lives.{Life, outputs_from, outputs}
use Rattle.rules.specs.Log.{History, phase_after, log_of}
use Rattle.lives.specs.Runs.{log_after, log_from}

log-aux : (s : Start) (is : List Input) (h : History) → log_after (log_of s h) is (outputs_from (phase_after s h) is) ≡ log_of s (reverse_aux is h)
unfolding log_after log_of outputs_from phase_after
log-aux s [] h = refl
log-aux s (i ∷ is) h = log-aux s is (i ∷ h)

pub log-forward : (l : Life) → log_from l.inputs (outputs l) ≡ log_of l.start (reverse l.inputs)
unfolding log_from outputs log_of phase_after
log-forward l = log-aux l.start l.inputs []
