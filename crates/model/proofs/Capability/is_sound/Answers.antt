use borrow.Author.Tests.{le-leb, lt-leb, eq-eqb, ne_eqb, not-true, not-false}
use mathlib.Core.Bool.{true, false}
use mathlib.Core.Path.{◌≡◌, refl, sym, ◌∙◌}
use native.Mathlib.Omega.{arith}
use Prim.Native.Nat.{ℕ, ◌≤◌}
use lib.Bits.{bit_and}
use lib.Dec.{leb}
use lib.ListN.{drop}
use Rattle.model.specs.declared.Capability.{Capability}
use Rattle.model.specs.Bounds.{ordered, is_zero}
use Rattle.model.specs.Lists.{all, every}
use Rattle.model.specs.Words.{share_no_bit}
use Rattle.model.specs.Soundness.{conditions, sound}
use Rattle.model.proofs.Tests.{and-when, and-unless, positive}
use Rattle.model.proofs.Lists.{passed, stopped, last}
use Rattle.model.proofs.Capability.is_sound.Goals as goal

-- what is left to test past the first k conditions
abbrev From : ℕ → Capability → Type 0
From k r = sound r ≡ every (drop k (conditions r))

past-id : (r : Capability) → (r.id ≡ 0 → ⊥) → r.id ≤ 63 → From 1 r
unfolding sound conditions
past-id r i h = passed _ (sym (and-when (positive _ i) (sym (le-leb _ 63 h))))

past-axis : (r : Capability) → From 1 r → r.resource ≤ 7 → From 2 r
unfolding sound conditions
past-axis r f h = f ∙ passed _ (le-leb _ 7 h)

past-count : (r : Capability) → From 2 r → r.parameter_count ≤ 2 → From 3 r
unfolding sound conditions
past-count r f h = f ∙ passed _ (le-leb _ 2 h)

past-words : (r : Capability) → From 3 r → bit_and r.require_set r.require_clear ≡ 0 → From 4 r
unfolding sound conditions share_no_bit
past-words r f h = f ∙ passed _ (eq-eqb _ _ h)

past-order : (r : Capability) → From 4 r → all ordered r.bounds ≡ true → From 5 r
unfolding sound conditions
past-order r f h = f ∙ passed _ h

past-zeros : (r : Capability) → From 5 r → all is_zero (drop r.parameter_count r.bounds) ≡ true → From 6 r
unfolding sound conditions
past-zeros r f h = f ∙ passed _ h

zero-id : (n : ℕ) → n ≡ 0 → leb 1 n ≡ false
zero-id n e = lt-leb 1 n (omega arith)

pub returns-then-self-eq0 : goal.returns-then-self-eq0
unfolding sound conditions
returns-then-self-eq0 c = sym (stopped _ (sym (and-unless _ (zero-id _ c.if-self-eq0.true) refl)))

pub returns-then-self-gt63 : goal.returns-then-self-gt63
unfolding sound conditions
returns-then-self-gt63 c = sym (stopped _ (sym (and-when (positive _ c.if-self-eq0.false) (sym (lt-leb _ 63 c.if-self-gt63.true)))))

pub returns-then-self-gt7 : goal.returns-then-self-gt7
unfolding sound conditions
returns-then-self-gt7 c =
    let p = past-id c.args.self c.if-self-eq0.false c.if-self-gt63.false in sym (p ∙ stopped _ (lt-leb _ 7 c.if-self-gt7.true))

pub returns-then-count-gt2 : goal.returns-then-count-gt2
unfolding sound conditions
returns-then-count-gt2 c =
    let r = c.args.self in
    let p = past-axis r (past-id r c.if-self-eq0.false c.if-self-gt63.false) c.if-self-gt7.false in
    sym (p ∙ stopped _ (lt-leb _ 2 c.if-count-gt2.true))

pub returns-then-self-ne0 : goal.returns-then-self-ne0
unfolding sound conditions share_no_bit
returns-then-self-ne0 c =
    let r = c.args.self in
    let p = past-count r (past-axis r (past-id r c.if-self-eq0.false c.if-self-gt63.false) c.if-self-gt7.false) c.if-count-gt2.false in
    sym (p ∙ stopped _ (ne_eqb _ _ c.if-self-ne0.true))

pub returns-then-not-all_ordered : goal.returns-then-not-all_ordered
unfolding sound conditions
returns-then-not-all_ordered c =
    let r = c.args.self in
    let p = past-count r (past-axis r (past-id r c.if-self-eq0.false c.if-self-gt63.false) c.if-self-gt7.false) c.if-count-gt2.false in
    let q = past-words r p c.if-self-ne0.false in
    sym (q ∙ stopped _ (sym c.all_ordered.ensures ∙ not-true _ c.if-not-all_ordered.true-raw))

pub returns-then-not-zero_past : goal.returns-then-not-zero_past
unfolding sound conditions
returns-then-not-zero_past c =
    let r = c.args.self in
    let p = past-count r (past-axis r (past-id r c.if-self-eq0.false c.if-self-gt63.false) c.if-self-gt7.false) c.if-count-gt2.false in
    let q = past-order r (past-words r p c.if-self-ne0.false) (sym c.all_ordered.ensures ∙ not-false _ c.if-not-all_ordered.false-raw) in
    sym (q ∙ stopped _ (sym c.zero_past.ensures ∙ not-true _ c.if-not-zero_past.true-raw))

pub returns : goal.returns
unfolding sound conditions
returns c =
    let r = c.args.self in
    let p = past-count r (past-axis r (past-id r c.if-self-eq0.false c.if-self-gt63.false) c.if-self-gt7.false) c.if-count-gt2.false in
    let q = past-order r (past-words r p c.if-self-ne0.false) (sym c.all_ordered.ensures ∙ not-false _ c.if-not-all_ordered.false-raw) in
    let z = past-zeros r q (sym c.zero_past.ensures ∙ not-false _ c.if-not-zero_past.false-raw) in
    c.is_sound.ensures ∙ sym (z ∙ last _)
