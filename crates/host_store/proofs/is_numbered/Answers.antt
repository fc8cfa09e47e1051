use native.Mathlib.Omega.{arith}
use Rattle.host_store.proofs.Counts.{numbered-not, numbered-by}
use Rattle.host_store.proofs.is_numbered.Goals as goal

pub returns-then-rejected-gt64 : goal.returns-then-rejected-gt64
returns-then-rejected-gt64 c = numbered-not c.args.index (λ n. omega (arith, n.within, c.if-rejected-gt64.true))

pub returns-then-others-rejected : goal.returns-then-others-rejected
returns-then-others-rejected c = numbered-not c.args.index (λ n. omega (arith, n.within, c.if-others-rejected.true))

pub returns : goal.returns
returns c = numbered-by c.args.index _ c.requires (omega (arith, c.if-rejected-gt64.false, c.if-others-rejected.false)) c.is_counted.ensures
