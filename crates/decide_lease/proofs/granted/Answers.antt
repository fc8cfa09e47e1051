use Prim.Native.Nat.{min}
use Rattle.std.specs.Prelude.{Some}
use native.Mathlib.Omega.{arith}
use mathlib.Core.Path.{ap, ◌∙◌}
use Rattle.rules.specs.Receipts.{event}
use Rattle.rules.specs.Rules.{new_lease}
use Rattle.state.specs.State.{book_of}
use Rattle.decide_lease.proofs.Grants.{grants}
use borrow.Author.Rules.{rules}
use Rattle.decide_lease.proofs.granted.Goals.{then-held-lt255, else-held-lt255}
use Rattle.decide_lease.proofs.granted.Goals as goal

pub returns : goal.returns
unfolding new_lease event book_of
returns c =
    let a = c.args in
    grants a.fixed a.numbers a.request a.now _ (ap Some c.new_lease-lease.ensures) c.bump_counter.ensures
    c.bump_counter-2.ensures
    c.refreshed.ensures
    (λ few. elim c.if-held-lt255.branch [ then-held-lt255 w ↦ w.result-is | else-held-lt255 w ↦ absurd (omega arith) ])
    (c.sooner.ensures ∙ ap (λ x. min a.numbers.soonest x.expires_at) c.new_lease-lease.ensures)
    c.event_receipt-receipt.ensures
    (search rules)
