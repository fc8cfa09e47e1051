use Rattle.decide_resume.proofs.Resumes.{cancels, cancel-trips}
use borrow.Author.Rules.{rules}
use Rattle.decide_resume.proofs.cancel_end.Goals as goal

pub returns-then-ok : goal.returns-then-ok
returns-then-ok c =
    let a = c.args in
    cancels a.fixed a.numbers a.falling _ a.ok _ c.if-ok.true c.refreshed.ensures (c.succeeded.ensures.1 a.fixed c.requires)

pub returns : goal.returns
returns c =
    let a = c.args in
    cancel-trips a.fixed a.numbers a.falling _ a.ok c.if-ok.false (c.trips.ensures.1 (search rules))
