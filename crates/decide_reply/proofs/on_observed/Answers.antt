use mathlib.Core.Path.{refl, ap}
use Rattle.rules.specs.Protocol.{item_of, replied, resumed, resume}
use Rattle.state.specs.State.{waits, phase_at, item_at}
use Rattle.state.proofs.Turns.{reply-idle}
use Rattle.decide_reply.specs.Replies.{ObservesAs}
use Rattle.decide_reply.proofs.Turns.{awaits, reply-other}
use Rattle.decide_reply.proofs.on_observed.Goals as goal

pub returns-in-Nothing : goal.returns-in-Nothing
unfolding ObservesAs
returns-in-Nothing c = λ s k e v p. reply-idle s _ (ap waits (awaits e c.in-Nothing.is))

pub returns-in-ObserveBefore : goal.returns-in-ObserveBefore
returns-in-ObserveBefore c = λ s k e v p. c.seen_before.ensures s k (awaits e c.in-ObserveBefore.is)

pub returns-in-Execute : goal.returns-in-Execute
unfolding ObservesAs phase_at item_at item_of replied resumed resume
returns-in-Execute c = λ s k e v p. reply-other s _ (awaits e c.in-Execute.is) refl

pub returns-in-ObserveAfter : goal.returns-in-ObserveAfter
returns-in-ObserveAfter c = λ s k e v p. c.seen_after.ensures s (awaits e c.in-ObserveAfter.is) v p

pub returns-in-Fallback : goal.returns-in-Fallback
unfolding ObservesAs phase_at item_at item_of replied resumed resume
returns-in-Fallback c = λ s k e v p. reply-other s _ (awaits e c.in-Fallback.is) refl

pub returns-in-Record : goal.returns-in-Record
unfolding ObservesAs phase_at item_at item_of replied resumed resume
returns-in-Record c = λ s k e v p. reply-other s _ (awaits e c.in-Record.is) refl
