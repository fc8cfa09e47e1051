use mathlib.Core.Path.{refl, ap}
use Rattle.rules.specs.Protocol.{item_of, replied, resumed, resume}
use Rattle.state.specs.declared.Waiting.{Waiting}
use Rattle.state.specs.State.{waits, phase_at, item_at}
use Rattle.state.proofs.Turns.{reply-idle}
use Rattle.decide_reply.specs.Replies.{RecordsAs}
use Rattle.decide_reply.proofs.Turns.{awaits, reply-other}
use Rattle.decide_reply.proofs.on_recorded.Goals as goal

pub returns-in-Nothing : goal.returns-in-Nothing
unfolding RecordsAs
returns-in-Nothing c = λ s k f n e. reply-idle s _ (ap waits (awaits e c.in-Nothing.is))

pub returns-in-ObserveBefore : goal.returns-in-ObserveBefore
unfolding RecordsAs phase_at item_at item_of replied resumed resume
returns-in-ObserveBefore c = λ s k f n e. reply-other s _ (awaits e c.in-ObserveBefore.is) refl

pub returns-in-Execute : goal.returns-in-Execute
unfolding RecordsAs phase_at item_at item_of replied resumed resume
returns-in-Execute c = λ s k f n e. reply-other s _ (awaits e c.in-Execute.is) refl

pub returns-in-ObserveAfter : goal.returns-in-ObserveAfter
unfolding RecordsAs phase_at item_at item_of replied resumed resume
returns-in-ObserveAfter c = λ s k f n e. reply-other s _ (awaits e c.in-ObserveAfter.is) refl

pub returns-in-Fallback : goal.returns-in-Fallback
unfolding RecordsAs phase_at item_at item_of replied resumed resume
returns-in-Fallback c = λ s k f n e. reply-other s _ (awaits e c.in-Fallback.is) refl

pub returns-in-Record : goal.returns-in-Record
returns-in-Record c = λ s k f n e. c.after_record.ensures s k f n (awaits e c.in-Record.is) (ap (λ (w : Waiting). w.after_record) e)
