use mathlib.Core.Path.{refl, ap, ◌∙◌}
use Rattle.std.specs.Prelude.{Some}
use Rattle.format.specs.Decode.{Lists, decode, record_of}
use Rattle.host_records.proofs.Answers.{no-reading, takes-listed, takes-fed, takes-shown, takes-unread, takes_of}
use Rattle.host_records.proofs.take.Goals as goal

pub returns-in-Some-Capability : goal.returns-in-Some-Capability
unfolding decode record_of
returns-in-Some-Capability c = takes_of c.args.words c.kind_of.ensures (c.in-Some-Capability.is ∙ ap Some c.in-Some-Capability.field-0-is) (ap Lists c.capability_of.ensures) (takes-listed c.list.ensures)

pub returns-in-Some-Start : goal.returns-in-Some-Start
unfolding decode record_of
returns-in-Some-Start c = takes_of c.args.words c.kind_of.ensures (c.in-Some-Start.is ∙ ap Some c.in-Some-Start.field-0-is) refl c.begun.ensures

pub returns-in-Some-Turn : goal.returns-in-Some-Turn
unfolding decode record_of
returns-in-Some-Turn c = takes_of c.args.words c.kind_of.ensures (c.in-Some-Turn.is ∙ ap Some c.in-Some-Turn.field-0-is) refl (takes-fed c.turn.ensures (no-reading _ _))

pub returns-in-Some-Reading : goal.returns-in-Some-Reading
unfolding decode record_of
returns-in-Some-Reading c = takes_of c.args.words c.kind_of.ensures (c.in-Some-Reading.is ∙ ap Some c.in-Some-Reading.field-0-is) refl (takes-shown _ _)

pub returns-in-None : goal.returns-in-None
unfolding decode record_of
returns-in-None c = takes_of c.args.words c.kind_of.ensures c.in-None.is refl takes-unread
