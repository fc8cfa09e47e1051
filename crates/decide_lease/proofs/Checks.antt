-- What an answer says of the check that failed. Assumes nothing.
use Rattle.std.specs.Prelude.{Option, Some, None}
use mathlib.Core.Path.{◌≡◌, refl}
use Rattle.model.specs.declared.Reason.{Reason}
use Rattle.decide_ready.specs.Checks.{check_of}

pub same-failure : (o p : Option Reason) → check_of o ≡ check_of p → o ≡ p
same-failure None None e = refl
same-failure None (Some r) e = cc
same-failure (Some r) None e = cc
same-failure (Some r) (Some s) e = cc
