use Rattle.std.proofs.Common.{◌-◌, ◌≡◌, length}
use Rattle.card_main.proofs.read_records.Given as goal

abbrev pub invariant-loop-answer : goal.invariant-loop-answer
invariant-loop-answer l = length l.receipt ≡ 192

abbrev pub decreases-loop-answer : goal.decreases-loop-answer
decreases-loop-answer l = length l.card - l.at
