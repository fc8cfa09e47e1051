use Prim.Native.Nat.{ℕ, ◌+◌}
use native.Mathlib.Omega.{arith}
use mathlib.Core.List.{List}
use mathlib.Core.Path.{◌≡◌, ap}
use lib.ListN.{get_or}
use Rattle.words.specs.Words.{half_at, word_at}
use Rattle.words.proofs.word.Goals as goal

-- the definition counts from the middle of the word, and the code from its beginning
onward : (bs : List ℕ) (at i : ℕ) → get_or bs (at + 4 + i) 0 ≡ get_or bs (at + (4 + i)) 0
onward bs at i = ap (λ (k : ℕ). get_or bs k 0) (omega arith)

pub returns : goal.returns
unfolding half_at word_at
returns c =
    let bs = c.args.input.now in
    let at = c.args.at in omega (arith, c.from_le_bytes.ensures, onward bs at 1, onward bs at 2, onward bs at 3)
