use mathlib.Core.Path.{refl}
use Rattle.model.specs.Records.{no_receipt}
use Rattle.model.proofs.Receipt.blank.Goals as goal

pub returns : goal.returns
unfolding no_receipt
returns c = refl
