use Prim.Native.Nat.{◌<◌}
use mathlib.Core.Path.{refl}
use native.Mathlib.Nat.{mod-eq_of_lt}
use Rattle.rows.specs.Rows.{index_of, index_words}
use borrow.Author.Rules.{rules}
use Rattle.rows.proofs.index_words.Goals as goal

pub returns : goal.returns
unfolding index_of index_words
returns c =
    let x = c.args.index in
    let h : x.rejected.head < 64 = search rules in
    let o : x.others.head < 64 = search rules in
    record { row = refl; back = rw (mod-eq_of_lt h, mod-eq_of_lt o) }
