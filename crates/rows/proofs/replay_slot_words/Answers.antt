use Rattle.rows.specs.Rows.{replay_slot_words}
use Rattle.rows.proofs.Signs.{replay-slot-back}
use Rattle.rows.proofs.replay_slot_words.Goals as goal

pub returns : goal.returns
unfolding replay_slot_words
returns c = record { row = rw c.presence_word.ensures; back = replay-slot-back _ }
