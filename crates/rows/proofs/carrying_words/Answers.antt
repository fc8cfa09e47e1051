use Prim.Native.Nat.{◌<◌}
use mathlib.Core.Path.{refl}
use native.Mathlib.Nat.{mod-eq_of_lt}
use Rattle.rows.specs.Rows.{carrying_of, carrying_words}
use Rattle.rows.proofs.Codes.{below-back}
use borrow.Author.Rules.{rules}
use Rattle.rows.proofs.carrying_words.Goals as goal

pub returns : goal.returns
unfolding carrying_of carrying_words
returns c =
    let x = c.args.carrying in
    let p : x.pre_state < 4294967296 = search rules in
    record { row = refl; back = rw (below-back 17 x.at (search rules), mod-eq_of_lt p) }
