-- A ring as the orders fill it. Assumes nothing.
use Prim.Native.Nat.{ℕ, suc}
use mathlib.Core.Path.{◌≡◌, ap, subst, ◌∙◌}
use mathlib.Core.List.{List, ◌∷◌}
use native.Mathlib.Omega.{arith}
use lib.ListN.{take}
use lib.Seq.{take-take}
use Rattle.std.specs.Prelude.{Option, unwrap_or}
use Rattle.model.specs.declared.Replay.{Replay}
use Rattle.replay.specs.declared.ReplayRing.{ReplayRing}
use Rattle.replay.specs.Ring.{list_of, receipt_of, find_entry}
use Rattle.replay.specs.Promises.{Emptied, Pushed}
use Rattle.replay_main.specs.Orders.{order, orders, Filled}

pub none_yet : {ring : ReplayRing} → Emptied ring → Filled 0 ring
unfolding orders
none_yet e = record { list = e.list; sound = e.sound }

pub one_more : {n m : ℕ} {ring made : ReplayRing} → m ≡ suc n → Filled n ring → Pushed ring (order m) made → Filled m made
unfolding orders
one_more {n} {m} e f p =
    record {
      list =
          p.list
          ∙ ap (λ (es : List Replay). take 32 (order m ∷ es)) f.list
          ∙ ap (λ (es : List Replay). order m ∷ es) (take-take 31 32 (orders n) (omega arith))
          ∙ rw e;
      sound = p.sound;
    }

pub at_count : {n m : ℕ} {ring : ReplayRing} → n ≡ m → Filled n ring → Filled m ring
at_count {ring = ring} e f = subst (λ (k : ℕ). Filled k ring) e f

-- a search's answer after 33 orders, as a number
abbrev pub found : ℕ → ℕ
found id = unwrap_or (receipt_of (find_entry 7 id (take 32 (orders 33)))) 0

pub answered : (id : ℕ) {n r : ℕ} {f : Option ℕ} {ring : ReplayRing}
    → Filled 33 ring
    → f ≡ receipt_of (find_entry 7 id (list_of ring))
    → r ≡ unwrap_or f 0
    → found id ≡ n
    → r ≡ n
answered id full f r n = r ∙ rw (f, full.list) n
