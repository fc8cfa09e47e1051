use mathlib.Core.Path.{sym, ap, subst, ◌∙◌}
use Rattle.state.specs.declared.Numbers.{Numbers}
use Rattle.decide_start.specs.Starts.{is_started}
use Rattle.decide_start.specs.declared.Starting.{Starting}
use Rattle.runtime.specs.Stages.{RuntimeSound}
use Rattle.wire_counters.proofs.Counters.{sound-with}
use Rattle.wire_counters.proofs.set.Goals as goal

pub returns-then-is_started : goal.returns-then-is_started
returns-then-is_started c =
    let p = c.put_numbers.ensures in
    let k = c.with_counter.ensures in
    let n = c.numbers_in-numbers.ensures in
    let b = sym (ap (λ (s : Starting). is_started s.stage) c.starting_in-starting.ensures) ∙ sym c.is_started.ensures ∙ c.if-is_started.true in
    (p.same.long, subst RuntimeSound (sym p.stored) (sound-with _ _ b (k.0 ∙ ap (λ (m : Numbers). m.held) n) (k.1 ∙ ap (λ (m : Numbers). m.soonest) n) c.requires.1))
