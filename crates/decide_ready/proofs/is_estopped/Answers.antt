use Rattle.rules.specs.Admission.{is_estopped}
use borrow.Author.Rules.{rules}
use Rattle.decide_ready.proofs.is_estopped.Goals as goal

pub returns-in-SafeIdle : goal.returns-in-SafeIdle
unfolding is_estopped
returns-in-SafeIdle c = search rules

pub returns-in-Armed : goal.returns-in-Armed
unfolding is_estopped
returns-in-Armed c = search rules

pub returns-in-Faulted : goal.returns-in-Faulted
unfolding is_estopped
returns-in-Faulted c = search rules

pub returns-in-Estopped : goal.returns-in-Estopped
unfolding is_estopped
returns-in-Estopped c = search rules
