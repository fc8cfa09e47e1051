-- Demand 3 of lives whose outputs and ends are those of the rules: of every list of them whose boot numbers differ. Assumes nothing.
use mathlib.Core.List.{List, [], ◌∷◌, ◌++◌, map, reverse}
use mathlib.Core.Path.{◌≡◌, refl, ap, ap₂, ◌∙◌}
use Rattle.rules.specs.Protocol.{Output, Phase}
use Rattle.rules.specs.Lives.{Life, outputs, end_of}
use Rattle.rules.specs.Log as Log
use Rattle.rules.specs.Log.{log_of, executed}
use Rattle.rules.specs.Lists.{Distinct}
use Rattle.rules.proofs.Theorem.{demands}
use Rattle.lives.specs.Runs.{log_from, log_in, executed_in, ClaimOf}
use Rattle.lives.proofs.Logs.{log-forward}

module _ {C : Type 0} (life_in : C → Life) (outputs_in : C → List Output) (end_in : C → Phase) (same : (c : C) → outputs_in c ≡ outputs (life_in c)) (stands : (c : C) → end_in c ≡ end_of (life_in c)) where
  pub same_log : (c : C) → log_in life_in outputs_in end_in c ≡ log_of (life_in c).start (reverse (life_in c).inputs)
  same_log c = ap (log_from (life_in c).inputs) (same c) ∙ log-forward (life_in c)

  same-orders : (cs : List C) → executed_in life_in outputs_in end_in cs ≡ Log.executed_in (map life_in cs)
  unfolding executed_in Log.executed_in
  same-orders [] = refl
  same-orders (c ∷ cs) = ap₂ (λ l os. map (λ s. s.action) (executed l) ++ os) (same_log c) (same-orders cs)

  same-boots : (cs : List C) → map (λ l. l.start.boot_id) (map life_in cs) ≡ map (λ c. (life_in c).start.boot_id) cs
  same-boots [] = refl
  same-boots (c ∷ cs) = ap (λ bs. (life_in c).start.boot_id ∷ bs) (same-boots cs)

  pub claim-of : (cs : List C) → Distinct (map (λ c. (life_in c).start.boot_id) cs) → ClaimOf life_in outputs_in end_in cs
  claim-of cs differ =
      let k = demands (map life_in cs) (rw (same-boots cs) differ) in
      record { same = same; stands = stands; log = same_log; once = rw (same-orders cs) k.claim.once; demands = k }
