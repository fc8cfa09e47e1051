-- All that is claimed of card files. Assumes nothing.
use Prim.Native.Nat.{ℕ}
use native.Mathlib.Omega.{arith}
use mathlib.Core.List.{List}
use mathlib.Core.Logic.{◌↔◌}
use Rattle.model.specs.declared.Receipt.{Receipt}
use Rattle.words.specs.Words.{Bytes}
use Rattle.words.proofs.Numbers.{number-bytes}
use Rattle.card.specs.Card.{past_end, unsound}
use Rattle.card.specs.Claim.{Reads, GoesOn, EndsPast, Broken, CardClaim}
use Rattle.card.proofs.Files
use Rattle.card.proofs.Host
use Rattle.card.proofs.Loop
use Rattle.card.proofs.Ranges
use Rattle.card.proofs.ReadBack
use Rattle.card.proofs.Records
use Rattle.card.proofs.WireLaws

ends-past : (file : List ℕ) (rs : List Receipt) → Bytes file → Reads file rs past_end ↔ GoesOn file rs EndsPast
ends-past file rs b = Files.exactly file rs past_end EndsPast b (λ z. omega arith) (λ z. omega arith) (λ L after _. Records.past-exactly L after)

is-unsound : (file : List ℕ) (rs : List Receipt) → Bytes file → Reads file rs unsound ↔ GoesOn file rs Broken
is-unsound file rs b = Files.exactly file rs unsound Broken b (λ z. omega arith) (λ z. omega arith) Records.unsound-exactly

pub card-files : CardClaim
card-files =
    record {
      written_read = Records.written_read;
      read-written = Records.read-written;
      first-bytes = Records.first-bytes;
      card-read = Files.card-read;
      read-card = Files.read-card;
      before-stand = λ file rs n b h k e. let g = Files.before-stand file rs n b h k e in (Files.refused-number g.L g.after n g.so, g);
      has-head = Files.has-head;
      wrong-head = Files.wrong-head;
      no-receipts = Files.no-receipts;
      ends-past = ends-past;
      is-unsound = is-unsound;
      loop = Loop.the-loop;
      hosted = Host.hosted;
      hosted-only = Host.hosted-only;
      words-read = WireLaws.words-read;
      read-words = WireLaws.read-words;
      placed = ReadBack.placed;
      held = Ranges.receipt-held;
      appended = Files.appended;
      cut = Files.cut;
      sized = Records.sized;
      number = number-bytes;
    }
