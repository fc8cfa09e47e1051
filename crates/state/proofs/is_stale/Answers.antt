use Prim.Native.Nat.{ℕ, zero, suc, ◌-◌, ◌<◌}
use mathlib.Core.Path.{◌≡◌, refl, sym, ◌∙◌}
use borrow.Author.Tests.{ne_eqb, lt-leb}
use native.Mathlib.Omega.{arith}
use lib.Dec.{eqb, leb}
use Rattle.rules.specs.Admission.{is_stale}
use Rattle.state.specs.State.{book_of}
use Rattle.state.proofs.is_stale.Goals as goal

none_left : (n : ℕ) → eqb n 0 ≡ leb n 0
none_left zero = refl
none_left (suc n) = ne_eqb (suc n) 0 (λ e. absurd (omega arith)) ∙ sym (lt-leb (suc n) 0 (omega arith))

before-stamp : (ttl now stamp : ℕ) → now < stamp → eqb ttl 0 ≡ leb ttl (now - stamp)
before-stamp ttl now stamp h = let z : now - stamp ≡ 0 = omega arith in rw z (none_left ttl)

pub returns-then-now-numbers : goal.returns-then-now-numbers
unfolding is_stale book_of
returns-then-now-numbers c = λ t. before-stamp _ _ _ c.if-now-numbers.true

pub returns : goal.returns
unfolding is_stale book_of
returns c = λ t. refl
