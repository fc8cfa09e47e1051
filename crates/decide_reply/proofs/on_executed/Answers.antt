use mathlib.Core.Path.{refl, ap}
use Rattle.rules.specs.Protocol.{item_of, replied, resumed, resume}
use Rattle.state.specs.State.{waits, phase_at, item_at}
use Rattle.state.proofs.Turns.{reply-idle}
use Rattle.decide_reply.specs.Replies.{ExecutesAs}
use Rattle.decide_reply.proofs.Turns.{awaits, reply-other}
use Rattle.decide_reply.proofs.on_executed.Goals as goal

pub returns-in-Nothing : goal.returns-in-Nothing
unfolding ExecutesAs
returns-in-Nothing c = λ s k e. reply-idle s _ (ap waits (awaits e c.in-Nothing.is))

pub returns-in-ObserveBefore : goal.returns-in-ObserveBefore
unfolding ExecutesAs phase_at item_at item_of replied resumed resume
returns-in-ObserveBefore c = λ s k e. reply-other s _ (awaits e c.in-ObserveBefore.is) refl

pub returns-in-Execute : goal.returns-in-Execute
returns-in-Execute c = λ s k e. c.observes_if.ensures s k (awaits e c.in-Execute.is)

pub returns-in-ObserveAfter : goal.returns-in-ObserveAfter
unfolding ExecutesAs phase_at item_at item_of replied resumed resume
returns-in-ObserveAfter c = λ s k e. reply-other s _ (awaits e c.in-ObserveAfter.is) refl

pub returns-in-Fallback : goal.returns-in-Fallback
unfolding ExecutesAs phase_at item_at item_of replied resumed resume
returns-in-Fallback c = λ s k e. reply-other s _ (awaits e c.in-Fallback.is) refl

pub returns-in-Record : goal.returns-in-Record
unfolding ExecutesAs phase_at item_at item_of replied resumed resume
returns-in-Record c = λ s k e. reply-other s _ (awaits e c.in-Record.is) refl
