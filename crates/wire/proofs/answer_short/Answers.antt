use Prim.Native.Nat.{ℕ}
use mathlib.Core.List.{List}
use mathlib.Core.Path.{ap, ◌∙◌}
use Rattle.words.specs.Words.{bytes_of, over}
use Rattle.wire.proofs.answer_short.Goals as goal

pub returns : goal.returns
returns c =
    let a = c.args in
    c.put_words.ensures ∙ ap (λ (ws : List ℕ). over a.output.now a.at (bytes_of ws)) c.plain_words.ensures
