-- Writing over a list: one element, one piece after another, and the length that stays.
use Prim.Native.Nat.{ℕ, ◌+◌, ◌≤◌, ◌<◌}
use mathlib.Core.Path.{◌≡◌, refl, sym, ap, ◌∙◌, subst}
use mathlib.Core.List.{List, [], ◌∷◌, ◌++◌, append_assoc}
use native.Mathlib.Nat.{add_assoc, add-zero}
use native.Mathlib.Numerals.{add-one}
use native.Mathlib.Omega.{arith}
use lib.ListN.{length, take, drop, set, length-append, length-take, length-drop, take-append-drop}
use lib.Seq.{set_split, take-append_seam, drop-append-add, drop-drop, take_at, drop_at}
use Rattle.words.specs.Words.{over}

-- one element stored is that element written over the list
pub set-over : (l : List ℕ) (i x : ℕ) → i < length l → set l i x ≡ over l i (x ∷ [])
unfolding over
set-over l i x h = rw (add-one, set_split)

pub length_over : (out : List ℕ) (at : ℕ) (bs : List ℕ) → at + length bs ≤ length out → length (over out at bs) ≡ length out
unfolding over
length_over out at bs h = simp (length-append, length-take, length-drop) (omega arith)

-- what is written over a list at a seam
seam : (q r b : List ℕ) (n : ℕ) → length q ≡ n → over (q ++ r) n b ≡ q ++ (b ++ drop (length b) r)
unfolding over
seam q r b n h =
    subst (λ (n : ℕ). over (q ++ r) n b ≡ q ++ (b ++ drop (length b) r)) h (rw (take-append_seam q r, drop-append-add q r (length b)))

-- one piece written after another is both written as one
pub over-over : (out : List ℕ) (at : ℕ) (a b : List ℕ) (n : ℕ) → length a ≡ n → at + n ≤ length out → over (over out at a) (at + n) b ≡ over out at (a ++ b)
unfolding over
over-over out at a b n e h =
    let r = drop (at + length a) out in
    ap (λ (l : List ℕ). over l (at + n) b) (sym (append_assoc (take at out) a r))
    ∙ seam (take at out ++ a) r b (at + n) (simp (length-append, length-take) (omega arith))
    ∙ simp (append_assoc, drop-drop, length-append, add_assoc)

pub over-nil : (out : List ℕ) (at : ℕ) → over out at [] ≡ out
unfolding over
over-nil out at = rw (add-zero, take-append-drop)

-- an element stored, and the piece after it
pub over-cons : (out : List ℕ) (at x : ℕ) (b : List ℕ) → at < length out → over (set out at x) (at + 1) b ≡ over out at (x ∷ b)
over-cons out at x b h = ap (λ (l : List ℕ). over l (at + 1) b) (set-over out at x h) ∙ over-over out at (x ∷ []) b 1 refl (omega arith)

-- what stands where a piece was written is that piece
pub over-part : (out : List ℕ) (at : ℕ) (b : List ℕ) (n : ℕ) → length b ≡ n → at + n ≤ length out → take n (drop at (over out at b)) ≡ b
unfolding over
over-part out at b n e h =
    let k : length (take at out) ≡ at = simp length-take (omega arith) in
    rw (drop_at (take at out) (b ++ drop (at + length b) out) at k) (take_at b (drop (at + length b) out) n e)
