use mathlib.Core.Path.{refl}
use Rattle.decide_order.proofs.Orders.{admits}
use Rattle.decide_order.proofs.admitted.Goals as goal

pub returns : goal.returns
returns c =
    λ f t q h cap sound asked k passed.
    let a = c.args in
    admits f a.numbers t q h a.submission sound asked cap a.slot k _ passed c.stream_end.ensures refl
