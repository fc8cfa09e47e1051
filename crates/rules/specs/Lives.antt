-- Lives (00, demand 3): what comes out of a life and of a list of lives, from their histories alone.
use Rattle.std.specs.Prelude.{List, [], ◌∷◌, map}
use Rattle.rules.specs.Protocol.{Input, Output, Start, Phase, start, react}

-- A life: the arguments of its start and its inputs, oldest first. A life that is cut between two driver calls is a list of inputs that
-- ends while a reply is awaited; nothing of it goes into the next life.
pub record Life : Type 0 where
  pub start : Start
  pub inputs : List Input

-- the outputs of a list of inputs, each on the phase that the one before left
unfoldable pub outputs_from : Phase → List Input → List Output
outputs_from p [] = []
outputs_from p (i ∷ is) = (react p i).output ∷ outputs_from (react p i).phase is

-- the phase that a list of inputs leaves
unfoldable pub phase_from : Phase → List Input → Phase
phase_from p [] = p
phase_from p (i ∷ is) = phase_from (react p i).phase is

unfoldable pub outputs : Life → List Output
outputs l = (start l.start).output ∷ outputs_from (start l.start).phase l.inputs

unfoldable pub end_of : Life → Phase
end_of l = phase_from (start l.start).phase l.inputs

unfoldable pub lives_outputs : List Life → List (List Output)
lives_outputs ls = map outputs ls
