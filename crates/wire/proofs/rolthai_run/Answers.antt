use Rattle.wire.proofs.Answered.{ends-whole, ends-short, reaches, no_room, none-short, one-short}
use borrow.Author.Rules.{rules}
use Rattle.wire.proofs.rolthai_run.Goals as goal

pub returns-then-records-room : goal.returns-then-records-room
returns-then-records-room c =
    let r = c.run_records in
    let n = c.min-count in
    let e = ends-whole _ _ _ _ n.ensures (r.ensures.output_after, r.ensures.count_len) (no_room _ _ c.if-records-room.true) in
    record { value = e.0; output_after = e.1; upper_bound = reaches _ _ _ _ e.0 e.1 }

pub returns-then-input-eq0 : goal.returns-then-input-eq0
returns-then-input-eq0 c =
    let r = c.run_records in
    let n = c.min-count in
    let e = ends-whole _ _ _ _ n.ensures (r.ensures.output_after, r.ensures.count_len) (none-short _ _ c.if-input-eq0.true) in
    record { value = e.0; output_after = e.1; upper_bound = reaches _ _ _ _ e.0 e.1 }

pub returns : goal.returns
returns c =
    let r = c.run_records in
    let n = c.min-count in
    let s = c.answer_short in
    let t = c.if-input-eq0 in
    let u = c.if-records-room in
    let e = ends-short _ _ _ _ n.ensures (r.ensures.output_after, r.ensures.count_len) _ (one-short _ _ u.false t.false) (search rules) s.ensures in
    record { value = e.0; output_after = e.1; upper_bound = reaches _ _ _ _ e.0 e.1 }
