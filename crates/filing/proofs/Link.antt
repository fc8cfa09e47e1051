-- What each public function of `card` ensures, by `refl`, and that it asks nothing: so a contract that is weakened breaks this crate. Assumes nothing.
use Prim.Native.Nat.{ℕ}
use mathlib.Core.Bool.{Bool}
use mathlib.Core.List.{List}
use mathlib.Core.Path.{◌≡◌, refl}
use seplogic.Ra.Ura.{Ura}
use prog.Memory.{Memory}
use prog.Routine.{Routine}
use base.Logic.{SProp, emp, sep}
use base.Fml.{Lft}
use types.Logic.{Logic}
use contract.Monad.{Fun, fact}
use denote.Ref.{Bor, MutBor}
use Rattle.std.specs.Prelude.{Option, Result}
use Rattle.model.specs.declared.Receipt.{Receipt}
use Rattle.card.specs.Card.{record_of, head, has_head}
use Rattle.card.specs.Functions.{written, counted, count, error_number, read_at}
use Rattle.card.specs.Wire.{wire_receipt, wire_written, wire_count, wire_answer, wire_read}
use Rattle.card.specs.declared.CardError.{CardError}
use Rattle.card.specs.declared.Record.{Record}
use Rattle.card.specs.contracts.has_head as f-has-head
use Rattle.card.specs.contracts.put_head as f-put-head
use Rattle.card.specs.contracts.put_record as f-put-record
use Rattle.card.specs.contracts.read_at as f-read-at
use Rattle.card.specs.contracts.CardError.number as f-error-number
use Rattle.card.specs.contracts.rolthai_card_head as f-card-head
use Rattle.card.specs.contracts.rolthai_card_write as f-card-write
use Rattle.card.specs.contracts.rolthai_card_read as f-card-read

module _ {M : Type 1} {𝓤 : Ura M} (𝓛 : Logic 𝓤) (m : Memory → SProp 𝓤) (run : Routine → Fun 𝓤) (κ κ₁ : Lft) where
  -- an answer, and what stands in a lent slice afterwards
  abbrev says : {R : Type 0} → R → R → List ℕ → List ℕ → SProp 𝓤
  says r answer after bytes = sep 𝓤 (fact 𝓤 (r ≡ answer)) (fact 𝓤 (after ≡ bytes))

  -- for hosts in Rattle -------------------------------------------------------------------------------------------------

  pub has-head-says : (card : Bor (List ℕ)) (r : Bool) → (f-has-head.clauses 𝓛 m run (κ, tt) (card, tt)).ensures tt r (card, tt) ≡ fact 𝓤 (r ≡ has_head card.now)
  has-head-says card r = refl

  pub has-head-asks : (card : Bor (List ℕ)) → (f-has-head.clauses 𝓛 m run (κ, tt) (card, tt)).requires tt ≡ emp 𝓤
  has-head-asks card = refl

  pub put-head-says : (card after : MutBor (List ℕ)) (n : Option ℕ) → (f-put-head.clauses 𝓛 m run (κ, tt) (card, tt)).ensures tt n (after, tt) ≡ says n (counted card.now 0 head) after.now (written card.now 0 head)
  put-head-says card after n = refl

  pub put-head-asks : (card : MutBor (List ℕ)) → (f-put-head.clauses 𝓛 m run (κ, tt) (card, tt)).requires tt ≡ emp 𝓤
  put-head-asks card = refl

  pub put-record-says : (card after : MutBor (List ℕ)) (at : ℕ) (r : Receipt) (n : Option ℕ) → (f-put-record.clauses 𝓛 m run (κ, tt) (card, (at, (r, tt)))).ensures tt n (after, (at, (r, tt))) ≡ says n (counted card.now at (record_of r)) after.now (written card.now at (record_of r))
  put-record-says card after at r n = refl

  pub put-record-asks : (card : MutBor (List ℕ)) (at : ℕ) (r : Receipt) → (f-put-record.clauses 𝓛 m run (κ, tt) (card, (at, (r, tt)))).requires tt ≡ emp 𝓤
  put-record-asks card at r = refl

  pub read-at-says : (card : Bor (List ℕ)) (at : ℕ) (r : Result (Option Record) CardError) → (f-read-at.clauses 𝓛 m run (κ, tt) (card, (at, tt))).ensures tt r (card, (at, tt)) ≡ fact 𝓤 (r ≡ read_at card.now at)
  read-at-says card at r = refl

  pub read-at-asks : (card : Bor (List ℕ)) (at : ℕ) → (f-read-at.clauses 𝓛 m run (κ, tt) (card, (at, tt))).requires tt ≡ emp 𝓤
  read-at-asks card at = refl

  pub error-number-says : (e : CardError) (n : ℕ) → (f-error-number.clauses 𝓛 m run tt (e, tt)).ensures tt n (e, tt) ≡ fact 𝓤 (n ≡ error_number e)
  error-number-says e n = refl

  pub error-number-asks : (e : CardError) → (f-error-number.clauses 𝓛 m run tt (e, tt)).requires tt ≡ emp 𝓤
  error-number-asks e = refl

  -- for hosts in other languages ----------------------------------------------------------------------------------------

  pub card-head-says : (card after : MutBor (List ℕ)) (n : ℕ) → (f-card-head.clauses 𝓛 m run (κ, tt) (card, tt)).ensures tt n (after, tt) ≡ says n (count card.now 0 head) after.now (written card.now 0 head)
  card-head-says card after n = refl

  pub card-head-asks : (card : MutBor (List ℕ)) → (f-card-head.clauses 𝓛 m run (κ, tt) (card, tt)).requires tt ≡ emp 𝓤
  card-head-asks card = refl

  pub card-write-says : (receipt : Bor (List ℕ)) (card after : MutBor (List ℕ)) (n : ℕ) → (f-card-write.clauses 𝓛 m run (κ, (κ₁, tt)) (receipt, (card, tt))).ensures tt n (receipt, (after, tt)) ≡ says n (wire_count (wire_receipt receipt.now) card.now) after.now (wire_written (wire_receipt receipt.now) card.now)
  card-write-says receipt card after n = refl

  pub card-write-asks : (receipt : Bor (List ℕ)) (card : MutBor (List ℕ)) → (f-card-write.clauses 𝓛 m run (κ, (κ₁, tt)) (receipt, (card, tt))).requires tt ≡ emp 𝓤
  card-write-asks receipt card = refl

  pub card-read-says : (card : Bor (List ℕ)) (receipt after : MutBor (List ℕ)) (at n : ℕ) → (f-card-read.clauses 𝓛 m run (κ, (κ₁, tt)) (card, (at, (receipt, tt)))).ensures tt n (card, (at, (after, tt))) ≡ says n (wire_answer card.now at receipt.now) after.now (wire_read card.now at receipt.now)
  card-read-says card receipt after at n = refl

  pub card-read-asks : (card : Bor (List ℕ)) (receipt : MutBor (List ℕ)) (at : ℕ) → (f-card-read.clauses 𝓛 m run (κ, (κ₁, tt)) (card, (at, (receipt, tt)))).requires tt ≡ emp 𝓤
  card-read-asks card receipt at = refl
