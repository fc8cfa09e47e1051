use mathlib.Core.Path.{◌≡◌, ap, ◌∙◌}
use lib.IntN.{pos}
use lib.ListN.{get_or}
use Rattle.format.proofs.WordLaws.{as_read}
use Rattle.rows.specs.Codes.{signs_of, signs_word}
use Rattle.rows.proofs.Signs.{Parts, signs-back, unsigned-low}
use borrow.Author.Rules.{rules}
use Rattle.rows.proofs.signs_word.Goals as goal

pub returns : goal.returns
returns c =
    let l = c.args.signs in
    let p : Parts l = record { long = search rules; first = search rules; second = search rules } in
    let e : c.pair.result ≡ signs_word (get_or l 0 (pos 0)) (get_or l 1 (pos 0)) =
    rw (c.pair.ensures, c.as_u32-2.ensures, c.as_u32.ensures, as_read {z = get_or l 0 (pos 0)} p.first c.unsigned-a.ensures, as_read {z = get_or l 1 (pos 0)} p.second c.unsigned-b.ensures, unsigned-low (get_or l 0 (pos 0)) p.first, unsigned-low (get_or l 1 (pos 0)) p.second) in
    record { value = e; result_value = ap signs_of e ∙ signs-back l p }
