use mathlib.Core.Path.{sym}
use Rattle.decide_reply.proofs.Replies.{after-fails, after-verifies}
use Rattle.decide_reply.proofs.seen_after.Goals as goal

pub returns-in-Absent : goal.returns-in-Absent
returns-in-Absent c = λ s e v p. after-fails s _ e c.in-Absent.is

pub returns-in-Present : goal.returns-in-Present
returns-in-Present c =
    λ s e v p.
    rw c.completes_if.ensures
    (after-verifies s _ c.verified.result e c.in-Present.is (rw (v, p) (sym c.verified.ensures)))
