use Prim.Native.Nat.{◌<◌}
use native.Mathlib.Nat.{mod-eq_of_lt}
use Rattle.rows.specs.Rows.{pending_of, pending_words}
use Rattle.rows.proofs.Codes.{call-kind-back}
use borrow.Author.Rules.{rules}
use Rattle.rows.proofs.pending_words.Goals as goal

pub returns : goal.returns
unfolding pending_of pending_words
returns c =
    let x = c.args.pending in
    let flags : x.flags < 4294967296 = search rules in
    record { row = rw c.call_kind_word.ensures; back = rw (call-kind-back x.kind, mod-eq_of_lt flags) }
