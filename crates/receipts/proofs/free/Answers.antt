use native.Mathlib.Omega.{arith}
use Rattle.receipts.proofs.Promises.{kinds-set, frees-count, frees-rejection, frees-other}
use Rattle.receipts.proofs.free.Goals as goal

pub returns-then-count-lt64 : goal.returns-then-count-lt64
returns-then-count-lt64 c = frees-count c.args.index c.requires c.args.oldest_rejected c.args.oldest_other c.if-count-lt64.true

pub top-requires : goal.top-requires
top-requires c = kinds-set c.args.index c.requires (omega arith)

pub returns-then-rejected-gt0 : goal.returns-then-rejected-gt0
returns-then-rejected-gt0 c =
    let t = c.top in
    rw c.shorter.ensures
    (frees-rejection c.args.index c.requires c.args.oldest_rejected c.args.oldest_other c.if-count-lt64.false (omega arith) t.result t.ensures)

pub returns-else-rejected-gt0 : goal.returns-else-rejected-gt0
returns-else-rejected-gt0 c =
    rw c.shorter-else-rejected-gt0.ensures
    (frees-other c.args.index c.requires c.args.oldest_rejected c.args.oldest_other c.if-count-lt64.false (omega arith))
