use mathlib.Core.Path.{◌∙◌}
use Rattle.layout.specs.Fields.{with_starting, with_waiting, with_numbers, with_slot, with_falling, with_fixed}
use Rattle.host_start.proofs.Openings.{long-cleared, makes}
use Rattle.layout.proofs.Chains.{becomes-then, long_after}
use Rattle.host_start.proofs.new.Goals as goal

pub put_numbers-requires : goal.put_numbers-requires
put_numbers-requires c =
    let l1 = long-cleared c.requires c.clear.ensures in
    let l2 = long_after l1 c.copy_records.ensures.same in
    long_after l2 c.put_fixed.ensures.same

pub put_slot-requires : goal.put_slot-requires
put_slot-requires c =
    let l1 = long-cleared c.requires c.clear.ensures in
    let l2 = long_after l1 c.copy_records.ensures.same in
    let l3 = long_after l2 c.put_fixed.ensures.same in
    long_after l3 c.put_numbers.ensures.same

pub put_falling-requires : goal.put_falling-requires
put_falling-requires c =
    let l1 = long-cleared c.requires c.clear.ensures in
    let l2 = long_after l1 c.copy_records.ensures.same in
    let l3 = long_after l2 c.put_fixed.ensures.same in
    let l4 = long_after l3 c.put_numbers.ensures.same in
    long_after l4 c.put_slot.ensures.same

pub put_starting-requires : goal.put_starting-requires
put_starting-requires c =
    let l1 = long-cleared c.requires c.clear.ensures in
    let l2 = long_after l1 c.copy_records.ensures.same in
    let l3 = long_after l2 c.put_fixed.ensures.same in
    let l4 = long_after l3 c.put_numbers.ensures.same in
    let l5 = long_after l4 c.put_slot.ensures.same in
    long_after l5 c.put_falling.ensures.becomes.same

pub put_waiting-requires : goal.put_waiting-requires
put_waiting-requires c =
    let l1 = long-cleared c.requires c.clear.ensures in
    let l2 = long_after l1 c.copy_records.ensures.same in
    let l3 = long_after l2 c.put_fixed.ensures.same in
    let l4 = long_after l3 c.put_numbers.ensures.same in
    let l5 = long_after l4 c.put_slot.ensures.same in
    let l6 = long_after l5 c.put_falling.ensures.becomes.same in
    long_after l6 c.put_starting.ensures.same

pub unlist-requires : goal.unlist-requires
unlist-requires c =
    let l1 = long-cleared c.requires c.clear.ensures in
    let l2 = long_after l1 c.copy_records.ensures.same in
    let l3 = long_after l2 c.put_fixed.ensures.same in
    let l4 = long_after l3 c.put_numbers.ensures.same in
    let l5 = long_after l4 c.put_slot.ensures.same in
    let l6 = long_after l5 c.put_falling.ensures.becomes.same in
    let l7 = long_after l6 c.put_starting.ensures.same in
    long_after l7 c.put_waiting.ensures.same

pub shape_of-state : goal.shape_of-state
shape_of-state c =
    c.unlist.ensures.long
    ∙ c.put_waiting.ensures.same.long
    ∙ c.put_starting.ensures.same.long
    ∙ c.put_falling.ensures.becomes.same.long
    ∙ c.put_slot.ensures.same.long
    ∙ c.put_numbers.ensures.same.long
    ∙ c.put_fixed.ensures.same.long
    ∙ c.copy_records.ensures.same.long
    ∙ c.clear.ensures.long

pub returns : goal.returns
returns c =
    let b1 = becomes-then (with_fixed _) c.copy_records.ensures c.put_fixed.ensures in
    let b2 = becomes-then (with_numbers _) b1 c.put_numbers.ensures in
    let b3 = becomes-then (with_slot _) b2 c.put_slot.ensures in
    let b4 = becomes-then (with_falling _) b3 c.put_falling.ensures.becomes in
    let b5 = becomes-then (with_starting _) b4 c.put_starting.ensures in
    let b6 = becomes-then (with_waiting _) b5 c.put_waiting.ensures in
    λ l k.
    makes c.refused_start-checked.result _ _ _ _ _ c.clear.ensures b6 c.unlist.ensures c.fixed_of-fixed.ensures.0 c.first_trial-trial.ensures
    c.numbers_of.ensures c.starting_on.ensures c.put_falling.ensures.falling_value l k
    (c.refused_start-checked.ensures l c.args.time c.args.flags k)
