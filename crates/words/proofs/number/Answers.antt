use Prim.Native.Nat.{ℕ, ◌+◌, ◌-◌, ◌*◌, ◌^◌, ◌<◌, ◌≤◌}
use native.Mathlib.Nat.{pow-succ', pow-le-pow_right}
use native.Mathlib.Numerals.{add-one}
use native.Mathlib.Omega.{arith}
use mathlib.Core.List.{List, [], ◌∷◌, ◌++◌, map, reverse}
use mathlib.Core.Path.{◌≡◌, refl, ap, ◌∙◌}
use denote.Bor.{Bor}
use lib.ListN.{length, get_or, length-reverse}
use mir.Syntax.{w8}
use mir.Val.{Fits}
use Rattle.std.proofs.lemmas.Grind.{get_or_default_zero}
use Rattle.std.proofs.lemmas.Iterator.Adapters.{YieldsList-from_rev_slice}
use Rattle.std.proofs.lemmas.Iterator.Consumers.{YieldsList-turn, YieldsList-end}
use Rattle.std.proofs.lemmas.List.{get_or-reverse, length_push, map-append, reverse-append, reverse-reverse}
use Rattle.words.specs.Words.{little_number}
use Rattle.words.proofs.number.Goals as goal

-- a byte that is read from the end is one
byte : (bs : List ℕ) (k x : ℕ) → ((i : ℕ) → Fits w8 (get_or bs i 0)) → (k < length (reverse bs)) × (x ≡ get_or (reverse bs) k x) → x < 256
byte bs k x f t =
    let h : k < length bs = omega (arith, length-reverse bs, t.0) in
    let e = t.1 ∙ get_or-reverse bs k x h ∙ get_or_default_zero bs (length bs - 1 - k) x (omega arith) in omega (arith, e, f (length bs - 1 - k))

one_more : (xs : List (Bor ℕ)) (x : Bor ℕ) → 256 * little_number (reverse (map (λ b. b.now) xs)) + x.now ≡ little_number (reverse (map (λ b. b.now) (xs ++ (x ∷ []))))
unfolding little_number
one_more xs x = rw (map-append, reverse-append) (omega arith)

fewer : (k : ℕ) → k < 8 → 256 ^ k ≤ 72057594037927936
fewer k h = pow-le-pow_right {n = 256} (omega arith) {i = k} {j = 7} (omega arith)

pub loop-byte-init : goal.loop-byte-init
unfolding little_number
loop-byte-init c = (refl, omega arith)

pub overflow_mul-n : goal.overflow_mul-n
overflow_mul-n c =
    let l = c.loop-byte in
    let b = c.args.bytes.now in
    let t = YieldsList-turn (YieldsList-from_rev_slice b cc) l.yielded _ l.yielded_by _ _ c.in-Some.field-0 c.in-Some.is c.next.ensures.steps in
    omega (arith, fewer (length l.yielded) (omega (arith, length-reverse b, t.0, c.requires)), l.invariant.1)

pub overflow_add-n : goal.overflow_add-n
overflow_add-n c =
    let l = c.loop-byte in
    let b = c.args.bytes.now in
    let t = YieldsList-turn (YieldsList-from_rev_slice b cc) l.yielded _ l.yielded_by _ _ c.in-Some.field-0 c.in-Some.is c.next.ensures.steps in
    let s = byte b (length l.yielded) c.in-Some.field-0.now c.type_inv.bytes t in
    omega (arith, fewer (length l.yielded) (omega (arith, length-reverse b, t.0, c.requires)), l.invariant.1, c.from.ensures, s)

pub loop-byte-preserved : goal.loop-byte-preserved
loop-byte-preserved c =
    let l = c.loop-byte in
    let b = c.args.bytes.now in
    let t = YieldsList-turn (YieldsList-from_rev_slice b cc) l.yielded _ l.yielded_by _ _ c.in-Some.field-0 c.in-Some.is c.next.ensures.steps in
    let s = byte b (length l.yielded) c.in-Some.field-0.now c.type_inv.bytes t in
    let wider = ap (λ (k : ℕ). 256 ^ k) (length_push l.yielded c.in-Some.field-0) ∙ ap (λ (k : ℕ). 256 ^ k) (add-one (length l.yielded)) ∙ pow-succ' 256 (length l.yielded) in (
      omega (arith, l.invariant.0, c.from.ensures, one_more l.yielded c.in-Some.field-0),
      omega (arith, l.invariant.1, c.from.ensures, s, wider),
    )

pub returns : goal.returns
returns c =
    let l = c.loop-byte in
    let t = YieldsList-end (YieldsList-from_rev_slice c.args.bytes.now cc) l.yielded _ l.yielded_by _ _ c.in-None.is c.next.ensures.steps in
    l.invariant.0 ∙ ap (λ (bs : List ℕ). little_number (reverse bs)) t.0 ∙ ap little_number (reverse-reverse c.args.bytes.now)
