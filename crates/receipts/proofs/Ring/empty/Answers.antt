use mathlib.Core.Path.{refl}
use lib.ListN.{replicate}
use Rattle.receipts.specs.Indexes.{Stores}
use Rattle.receipts.proofs.Ring.empty.Goals as goal

pub returns : goal.returns
returns c =
    let e = c.empty.ensures in
    let st : Stores = record { rejections = replicate 64 0; others = replicate 64 0; receipts = replicate 64 c.blank.result } in
    record { kept = e.sound st (record { rejections = refl; others = refl; receipts = refl }); nothing = e.nothing st }
