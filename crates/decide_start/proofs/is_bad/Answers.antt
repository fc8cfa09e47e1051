use borrow.Author.Tests.{eq-eqb, ne_eqb, lt-ltb, le-ltb}
use native.Mathlib.Omega.{arith}
use Rattle.rules.specs.Protocol.{bad_config}
use Rattle.decide_start.proofs.is_bad.Goals as goal

pub returns-then-count-eq0 : goal.returns-then-count-eq0
unfolding bad_config
returns-then-count-eq0 c = rw (eq-eqb _ _ c.if-count-eq0.true)

pub returns-then-count-gt16 : goal.returns-then-count-gt16
unfolding bad_config
returns-then-count-gt16 c = rw (ne_eqb _ _ c.if-count-eq0.false, lt-ltb 16 c.args.count (omega arith))

pub returns-then-config-eq0 : goal.returns-then-config-eq0
unfolding bad_config
returns-then-config-eq0 c = rw (ne_eqb _ _ c.if-count-eq0.false, le-ltb 16 _ c.if-count-gt16.false, eq-eqb _ _ c.if-config-eq0.true)

pub returns-then-config-eq0-2 : goal.returns-then-config-eq0-2
unfolding bad_config
returns-then-config-eq0-2 c =
    rw (ne_eqb _ _ c.if-count-eq0.false, le-ltb 16 _ c.if-count-gt16.false, ne_eqb _ _ c.if-config-eq0.false, eq-eqb _ _ c.if-config-eq0-2.true)

pub returns-then-config-eq0-3 : goal.returns-then-config-eq0-3
unfolding bad_config
returns-then-config-eq0-3 c =
    rw (ne_eqb _ _ c.if-count-eq0.false, le-ltb 16 _ c.if-count-gt16.false, ne_eqb _ _ c.if-config-eq0.false, ne_eqb _ _ c.if-config-eq0-2.false, eq-eqb _ _ c.if-config-eq0-3.true)

pub returns-then-config-eq0-4 : goal.returns-then-config-eq0-4
unfolding bad_config
returns-then-config-eq0-4 c =
    rw (ne_eqb _ _ c.if-count-eq0.false, le-ltb 16 _ c.if-count-gt16.false, ne_eqb _ _ c.if-config-eq0.false, ne_eqb _ _ c.if-config-eq0-2.false, ne_eqb _ _ c.if-config-eq0-3.false, eq-eqb _ _ c.if-config-eq0-4.true)

pub returns-then-config-eq0-5 : goal.returns-then-config-eq0-5
unfolding bad_config
returns-then-config-eq0-5 c =
    rw (ne_eqb _ _ c.if-count-eq0.false, le-ltb 16 _ c.if-count-gt16.false, ne_eqb _ _ c.if-config-eq0.false, ne_eqb _ _ c.if-config-eq0-2.false, ne_eqb _ _ c.if-config-eq0-3.false, ne_eqb _ _ c.if-config-eq0-4.false, eq-eqb _ _ c.if-config-eq0-5.true)

pub returns : goal.returns
unfolding bad_config
returns c =
    rw (ne_eqb _ _ c.if-count-eq0.false, le-ltb 16 _ c.if-count-gt16.false, ne_eqb _ _ c.if-config-eq0.false, ne_eqb _ _ c.if-config-eq0-2.false, ne_eqb _ _ c.if-config-eq0-3.false, ne_eqb _ _ c.if-config-eq0-4.false, ne_eqb _ _ c.if-config-eq0-5.false)
