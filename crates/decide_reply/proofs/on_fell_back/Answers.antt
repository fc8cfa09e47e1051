use mathlib.Core.Path.{refl, ap}
use Rattle.rules.specs.Protocol.{item_of, replied, resumed, resume}
use Rattle.state.specs.State.{waits, phase_at, item_at}
use Rattle.state.proofs.Turns.{reply-idle}
use Rattle.decide_reply.specs.Replies.{FallsBackAs}
use Rattle.decide_reply.proofs.Replies.{fell-back}
use Rattle.decide_reply.proofs.Turns.{awaits, reply-other}
use Rattle.decide_reply.proofs.on_fell_back.Goals as goal

pub returns-in-Nothing : goal.returns-in-Nothing
unfolding FallsBackAs
returns-in-Nothing c = λ s ok e. reply-idle s _ (ap waits (awaits e c.in-Nothing.is))

pub returns-in-ObserveBefore : goal.returns-in-ObserveBefore
unfolding FallsBackAs phase_at item_at item_of replied resumed resume
returns-in-ObserveBefore c = λ s ok e. reply-other s _ (awaits e c.in-ObserveBefore.is) refl

pub returns-in-Execute : goal.returns-in-Execute
unfolding FallsBackAs phase_at item_at item_of replied resumed resume
returns-in-Execute c = λ s ok e. reply-other s _ (awaits e c.in-Execute.is) refl

pub returns-in-ObserveAfter : goal.returns-in-ObserveAfter
unfolding FallsBackAs phase_at item_at item_of replied resumed resume
returns-in-ObserveAfter c = λ s ok e. reply-other s _ (awaits e c.in-ObserveAfter.is) refl

pub returns-in-Fallback : goal.returns-in-Fallback
returns-in-Fallback c = λ s ok e. fell-back s ok (awaits e c.in-Fallback.is)

pub returns-in-Record : goal.returns-in-Record
unfolding FallsBackAs phase_at item_at item_of replied resumed resume
returns-in-Record c = λ s ok e. reply-other s _ (awaits e c.in-Record.is) refl
