use mathlib.Core.Path.{refl, ap}
use lib.ListN.{replicate, length-replicate}
use Rattle.model.specs.declared.ActiveSlot.{ActiveSlot}
use Rattle.model.specs.declared.LeaseSlot.{LeaseSlot}
use Rattle.model.specs.declared.ReplaySlot.{ReplaySlot}
use Rattle.runtime.proofs.Openings.{moves-fresh}
use Rattle.runtime.proofs.made.Goals as goal

pub returns : goal.returns
returns c = λ l k.
    let a = c.args in
    moves-fresh _
    (record {
      starting = refl;
      waiting = refl;
      numbers = c.numbers_of.ensures;
      cursor = refl;
      slot = refl;
      falling = c.starting_on.ensures;
      at = refl;
      fixed = c.fixed_of-fixed.ensures;
      places = c.no_places.ensures;
      leases = ap (λ (x : LeaseSlot). replicate 9 x) c.blank-lease.ensures;
      active = ap (λ (x : ActiveSlot). replicate 9 x) c.blank-active.ensures;
      capabilities = refl;
      replay = ap (λ (x : ReplaySlot). replicate 33 x) c.blank-entry.ensures;
      slots = length-replicate 65 c.blank-receipt.result;
    })
    c.refused_start-checked.result c.first_trial-trial.ensures l k (c.refused_start-checked.ensures l a.time a.flags k)
