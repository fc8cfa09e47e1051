use Prim.Native.Nat.{ℕ}
use mathlib.Core.List.{[]}
use mathlib.Core.Path.{ap, ◌∙◌}
use Rattle.format.specs.Encode.{padded, value_words, encode}
use Rattle.host_records.proofs.state_words.Goals as goal

pub returns-in-Absent : goal.returns-in-Absent
unfolding encode value_words
returns-in-Absent c = rw c.in-Absent.is c.plain_words.ensures

pub returns-in-Present : goal.returns-in-Present
unfolding encode value_words
returns-in-Present c = rw c.in-Present.is (c.plain_words-in-Present.ensures ∙ ap (λ (n : ℕ). padded 48 n []) c.state_number.ensures)
