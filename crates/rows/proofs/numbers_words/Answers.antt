use Prim.Native.Nat.{◌<◌}
use native.Mathlib.Nat.{mod-eq_of_lt}
use Rattle.rows.specs.Rows.{numbers_of, numbers_words}
use Rattle.rows.proofs.Codes.{mode-back}
use borrow.Author.Rules.{rules}
use Rattle.rows.proofs.numbers_words.Goals as goal

pub returns : goal.returns
unfolding numbers_of numbers_words
returns c =
    let x = c.args.numbers in
    let flags : x.flags < 4294967296 = search rules in
    let seen : x.estop_seen < 4294967296 = search rules in
    let count : x.invalid_count < 65536 = search rules in
    let held : x.held < 256 = search rules in
    record {
      row = rw c.state_number.ensures;
      back = rw (mod-eq_of_lt flags, mod-eq_of_lt seen, mod-eq_of_lt count, mode-back x.mode.state, mod-eq_of_lt held);
    }
