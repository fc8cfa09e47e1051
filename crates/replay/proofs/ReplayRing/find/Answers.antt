use mathlib.Core.Path.{◌≡◌, sym, ap, ◌∙◌}
use borrow.Author.Rules.{rules}
use lib.ListN.{length}
use Rattle.replay.specs.Ring.{receipt_of}
use Rattle.replay.proofs.Entries.{length-mapped}
use Rattle.replay.proofs.Search.{hit, miss, over}
use Rattle.replay.proofs.ReplayRing.find.Goals as goal

pub returns-then-is_hit : goal.returns-then-is_hit
returns-then-is_hit c =
    let s = c.args.self in
    let l = c.loop-i in
    let n : length s.entries ≡ 32 = search (rules, length-mapped) in
    let e = sym c.is_hit.ensures ∙ c.if-is_hit.true in
    sym (ap receipt_of (l.invariant ∙ hit _ _ 31 s.entries n s.cursor (search rules) l.i (search rules) e))

pub loop-i-preserved : goal.loop-i-preserved
loop-i-preserved c =
    let s = c.args.self in
    let l = c.loop-i in
    let n : length s.entries ≡ 32 = search (rules, length-mapped) in
    let e = sym c.is_hit.ensures ∙ c.if-is_hit.false in
    l.invariant ∙ miss _ _ 31 s.entries n s.cursor (search rules) l.i (search rules) e

pub returns : goal.returns
returns c =
    let s = c.args.self in
    let l = c.loop-i in
    let n : length s.entries ≡ 32 = search (rules, length-mapped) in
    sym (ap receipt_of (l.invariant ∙ over _ _ 31 s.entries n s.cursor (search rules) l.i (search rules)))
