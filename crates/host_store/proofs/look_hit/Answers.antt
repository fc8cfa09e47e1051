use Rattle.host_store.proofs.Finds.{wanted-hit, unwanted-hit}
use Rattle.host_store.proofs.look_hit.Goals.{then-wanted, else-wanted}
use Rattle.host_store.proofs.look_hit.Goals as goal

pub returns : goal.returns
returns c =
    let there = c.entry_at-slot.ensures in
    let is = c.hit_at.ensures in
    elim c.if-wanted.branch [
      | then-wanted w ↦ wanted-hit _ _ _ _ _ there _ is _ w.if-wanted.true (rw w.at-is w.look_replay-at.ensures.0)
      | else-wanted w ↦ λ good. unwanted-hit _ _ _ _ _ there _ is _ w.if-wanted.false w.at-is
    ]
