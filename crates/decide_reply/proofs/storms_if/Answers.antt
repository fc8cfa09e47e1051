use mathlib.Core.Bool.{true, false}
use mathlib.Core.Path.{sym, ◌∙◌}
use borrow.Author.Tests.{le-leb, lt-leb}
use Rattle.decide_reply.proofs.Replies.{storms}
use Rattle.decide_reply.proofs.storms_if.Goals as goal

pub returns-then-is_armed : goal.returns-then-is_armed
returns-then-is_armed c =
    λ s k f n e a.
    let enough = le-leb _ _ c.if-numbers-config.true in
    storms s e true k a (rw (f, n, enough) (sym c.is_armed.ensures ∙ c.if-is_armed.true))

pub returns-else-is_armed : goal.returns-else-is_armed
returns-else-is_armed c =
    λ s k f n e a.
    let enough = le-leb _ _ c.if-numbers-config.true in
    storms s e false k a (rw (f, n, enough) (sym c.is_armed.ensures ∙ c.if-is_armed.false))

pub returns-else-numbers-config : goal.returns-else-numbers-config
returns-else-numbers-config c = λ s k f n e a. storms s e false k a (rw (f, n, lt-leb _ _ c.if-numbers-config.false))
