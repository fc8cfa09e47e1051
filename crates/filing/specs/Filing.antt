-- What is promised between an item that hands out a receipt (docs/WIRE.md) and the card to which a host writes it (docs/CARD.md).
use Rattle.std.specs.Prelude.{ℕ, ◌≡◌, take, drop, Some}
use Rattle.model.specs.declared.Receipt.{Receipt}
use Rattle.rules.specs.Protocol.{ItemRecord}
use Rattle.words.specs.Words.{bytes_of}
use Rattle.format.specs.Encode.{receipt_words, item_words}
use Rattle.card.specs.Claim.{Fits}
use Rattle.card.specs.Wire.{wire_words, wire_receipt}

pub record Filing : Type 0 where
  -- A receipt is the same 24 words to a host and to the card.
  pub same-words : (r : Receipt) → Fits r → receipt_words r ≡ wire_words r
  -- So of a record item, whatever its number, the 24 words after its kind and number are what `rolthai_card_write` takes for its receipt.
  pub taken : (n : ℕ) (r : Receipt) → Fits r → wire_receipt (bytes_of (take 24 (drop 2 (item_words n (ItemRecord r))))) ≡ Some r
