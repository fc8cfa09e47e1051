-- The bytes of words and the words of bytes, one more at the end.
use Prim.Native.Nat.{ℕ, zero, suc, ◌+◌, ◌*◌, ◌/◌, ◌<◌}
use mathlib.Core.Path.{◌≡◌, refl, ap, ◌∙◌}
use mathlib.Core.List.{List, [], ◌∷◌, ◌++◌, append_assoc, append-nil}
use native.Mathlib.Nat.{le_of_suc-le-suc, not-suc-le-zero}
use native.Mathlib.Omega.{arith}
use lib.ListN.{length, take, get_or, length-append}
use Rattle.words.specs.Words.{word_at, words_at, little_end, bytes_of}

pub length-little_end : (n w : ℕ) → length (little_end n w) ≡ n
unfolding little_end
length-little_end zero w = refl
length-little_end (suc n) w = ap suc (length-little_end n (w / 256))

pub length-bytes_of : (ws : List ℕ) → length (bytes_of ws) ≡ 8 * length ws
unfolding bytes_of
length-bytes_of [] = refl
length-bytes_of (w ∷ ws) = simp (length-append, length-little_end, length-bytes_of ws) (omega arith)

pub bytes_of_suc : (ws : List ℕ) (i : ℕ) → i < length ws → bytes_of (take (suc i) ws) ≡ bytes_of (take i ws) ++ little_end 8 (get_or ws i 0)
unfolding bytes_of
bytes_of_suc [] i h = absurd (not-suc-le-zero h)
bytes_of_suc (w ∷ ws) zero h = append-nil (little_end 8 w)
bytes_of_suc (w ∷ ws) (suc i) h = rw (bytes_of_suc ws i (le_of_suc-le-suc h), append_assoc)

pub words_at-suc : (n : ℕ) (bs : List ℕ) (i : ℕ) → words_at (suc n) bs i ≡ words_at n bs i ++ (word_at bs (i + 8 * n) ∷ [])
unfolding words_at
words_at-suc zero bs i = ap (λ (k : ℕ). word_at bs k ∷ []) (omega arith)
words_at-suc (suc n) bs i =
    ap (λ (l : List ℕ). word_at bs i ∷ l) (words_at-suc n bs (i + 8))
    ∙ ap (λ (k : ℕ). word_at bs i ∷ (words_at n bs (i + 8) ++ (word_at bs k ∷ []))) (omega arith)
