use Prim.Native.Nat.{◌≤◌}
use mathlib.Core.Bool.{true}
use mathlib.Core.Path.{◌≡◌}
use native.Mathlib.Omega.{arith}
use borrow.Author.Tests.{le-leb, lt-leb, lt-ltb, le-ltb}
use lib.Dec.{leb}
use Rattle.model.specs.declared.Submission.{Submission}
use Rattle.rules.specs.Admission.{first_failing, valid_until}
use Rattle.rules.specs.Receipts.{top}
use Rattle.decide_order.specs.Checks.{time_checks}
use Rattle.decide_order.proofs.time_check.Goals as goal

sum_fits : (s : Submission) → valid_until s ≤ top → leb (valid_until s) top ≡ true
sum_fits s e = le-leb (valid_until s) top e

pub returns-then-valid_for-submission : goal.returns-then-valid_for-submission
unfolding time_checks first_failing valid_until
returns-then-valid_for-submission c =
    let s = c.args.submission in
    rw (lt-leb (valid_until s) top (omega arith))

pub returns-then-submission-action : goal.returns-then-submission-action
unfolding time_checks first_failing valid_until
returns-then-submission-action c = rw (sum_fits c.args.submission (omega arith), le-ltb _ _ c.if-submission-action.true)

pub returns-then-submission-expires : goal.returns-then-submission-expires
unfolding time_checks first_failing valid_until
returns-then-submission-expires c =
    rw (sum_fits c.args.submission (omega arith), lt-ltb _ _ c.if-submission-action.false, le-ltb _ _ c.if-submission-expires.true)

pub returns-then-submission-action-2 : goal.returns-then-submission-action-2
unfolding time_checks first_failing valid_until
returns-then-submission-action-2 c =
    rw (
      sum_fits c.args.submission (omega arith),
      lt-ltb _ _ c.if-submission-action.false,
      lt-ltb _ _ c.if-submission-expires.false,
      lt-leb _ _ c.if-submission-action-2.true,
    )

pub returns : goal.returns
unfolding time_checks first_failing valid_until
returns c =
    rw (
      sum_fits c.args.submission (omega arith),
      lt-ltb _ _ c.if-submission-action.false,
      lt-ltb _ _ c.if-submission-expires.false,
      le-leb _ _ c.if-submission-action-2.false,
    )
