use Rattle.std.proofs.Common.{◌≡◌, ◌<◌, ℕ, sym, subst, arith, length, take}
use Rattle.std.proofs.lemmas.List.{take_more}
use Prim.Native.Nat.{min}
use Rattle.decide_start.specs.Starts.{Listing}
use Rattle.runtime.proofs.Openings.{listing-enough}
use Rattle.runtime.proofs.new.Goals as goal

pub loop-i-init : goal.loop-i-init
loop-i-init c = record { within = omega arith; so_far = c.empty-listed.ensures }

pub loop-i-preserved : goal.loop-i-preserved
loop-i-preserved c =
    let h : c.loop-i.i < length c.args.list.now = omega (arith, c.enough-count.ensures, c.loop-i-test.true) in
    record {
      within = omega arith;
      so_far = subst (Listing c.with-listed.result) (sym (take_more c.args.list.now c.loop-i.i _ h)) (c.with-listed.ensures (take c.loop-i.i c.args.list.now) c.loop-i.invariant.so_far);
    }

pub returns : goal.returns
returns c =
    let e : c.loop-i.i ≡ min 17 (length c.args.list.now) = omega (arith, c.enough-count.ensures, c.loop-i-test.false, c.loop-i.invariant.within) in
    c.made.ensures c.args.list.now (listing-enough _ _ (subst (λ (k : ℕ). Listing c.loop-i.listed (take k c.args.list.now)) e c.loop-i.invariant.so_far))
