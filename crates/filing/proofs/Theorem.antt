-- The words of a record item are those that the card's writer takes. Assumes nothing.
use Prim.Native.Nat.{ℕ, ◌/◌, ◌%◌}
use mathlib.Core.Bool.{Bool, true, false}
use mathlib.Core.List.{List}
use mathlib.Core.Path.{◌≡◌, refl, ap, ◌∙◌}
use native.Mathlib.Omega.{arith}
use lib.IntN.{ℤ}
use lib.ListN.{take, drop}
use Rattle.model.specs.declared.Receipt.{Receipt}
use Rattle.rules.specs.Protocol.{ItemRecord}
use Rattle.words.specs.Words.{bytes_of}
use Rattle.words.proofs.Signs.{unsigned-below}
use Rattle.format.specs.Encode.{bit as host_bit, part_at, receipt_words, padded, item_words}
use Rattle.card.specs.Card.{bit as card_bit, pair_number, numbers_of}
use Rattle.card.specs.Claim.{Pair, pair, Fits}
use Rattle.card.specs.Wire.{wire_words_from, wire_words, wire_receipt}
use Rattle.card.proofs.WireLaws.{words-read}
use Rattle.filing.specs.Filing.{Filing}

-- the halves of a pair's number are its two parts
first_part : {zs : List ℤ} → Pair zs → part_at zs 0 ≡ pair_number zs % 4294967296
unfolding pair_number
first_part (pair {x} {y} f g) = omega (arith, unsigned-below x f)

second-part : {zs : List ℤ} → Pair zs → part_at zs 1 ≡ pair_number zs / 4294967296
unfolding pair_number
second-part (pair {x} {y} f g) = omega (arith, unsigned-below x f)

same_bit : (t : Bool) → host_bit t ≡ card_bit t
unfolding host_bit card_bit
same_bit true = refl
same_bit false = refl

same-words : (r : Receipt) → Fits r → receipt_words r ≡ wire_words r
unfolding receipt_words wire_words wire_words_from numbers_of
same-words r f =
    rw (first_part f.requested, second-part f.requested, first_part f.observed, second-part f.observed)
    (rw (same_bit r.dispatched, same_bit r.observed_valid))

item-words : (n : ℕ) (r : Receipt) → take 24 (drop 2 (item_words n (ItemRecord r))) ≡ receipt_words r
unfolding item_words padded receipt_words
item-words n r = refl

pub filing : Filing
filing =
    record {
      same-words = same-words;
      taken = λ n r f. ap (λ (ws : List ℕ). wire_receipt (bytes_of ws)) (item-words n r ∙ same-words r f) ∙ words-read r f;
    }
