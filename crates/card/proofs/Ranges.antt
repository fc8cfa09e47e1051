-- A receipt of the code fits its types: whatever the code can hold has a record. Assumes nothing.
use native.Mathlib.Omega.{arith}
use mathlib.Core.List.{List, [], ◌∷◌}
use mathlib.Core.Path.{◌≡◌}
use borrow.Author.Rules.{rules}
use denote.Array.{Array, each}
use denote.Builtin.{i32}
use denote.Laws.{Is}
use denote.Shadow.{shadow}
use lib.IntN.{ℤ}
use lib.ListN.{length}
use mir.Val.{Val}
use Rattle.model.specs.contracts.Receipt.{the_row}
use Rattle.model.specs.declared.Receipt.{Receipt}
use Rattle.card.specs.Claim.{I32, Pair, pair, Fits}

i32-held : (z : ℤ) (vs : List Val) → Is i32 z vs → I32 z
i32-held z vs p = record { sfits = p.1 }

each-held : (l : List ℤ) (us : List Val) → length l ≡ 2
    → shadow (each i32.Denot i32.own_val l us) → Pair l
each-held [] us n p = absurd (omega arith)
each-held (a ∷ []) us n p = absurd (omega arith)
each-held (a ∷ b ∷ []) [] n p = absurd p
each-held (a ∷ b ∷ []) (u ∷ []) n p = absurd p.1
each-held (a ∷ b ∷ []) (u ∷ v ∷ us) n p = pair (i32-held a (u ∷ []) p.0) (i32-held b (v ∷ []) p.1.0)
each-held (a ∷ b ∷ x ∷ l) us n p = absurd (omega arith)

pair_held : (l : List ℤ) (vs : List Val) → Is (Array i32 2) l vs → Pair l
pair_held l vs p = each-held l p.0 p.1.0.1 p.1.1

pub receipt-held : (r : Receipt) (vs : List Val) → Is the_row r vs → Fits r
receipt-held r vs p =
    let q = p.1.1.1.1.1.1.1.1.1.1.1.1.1.1.1.1 in
    record {
      boot_id = search rules;
      principal = search rules;
      safety_flags = search rules;
      receipt_id = search rules;
      action_id = search rules;
      sequence = search rules;
      capability = search rules;
      resource = search rules;
      lease_id = search rules;
      epoch = search rules;
      received_at = search rules;
      admitted_at = search rules;
      executed_at = search rules;
      requested = pair_held r.requested _ q.0;
      observed = pair_held r.observed _ q.1.0;
      pre_state = search rules;
      post_state = search rules;
      original_receipt = search rules;
    }
