-- A receipt recorded: its item is handed out, and what is sound stays so. Assumes nothing.
use mathlib.Core.Bool.{false≢true}
use mathlib.Core.Path.{◌≡◌, refl}
use Rattle.model.specs.declared.Receipt.{Receipt}
use Rattle.rules.specs.Protocol.{proceed}
use Rattle.rules.specs.Receipts.{kept, numbered}
use Rattle.rules.specs.Rules.{record_receipt}
use Rattle.rules.specs.With.{with_receipts, with_next_receipt}
use Rattle.state.specs.declared.AfterRecord.{AfterRecord}
use Rattle.state.specs.declared.Answer.TheVariants as Answer
use Rattle.state.specs.State.{State, book_of, book_in, after_record_of, item_at, phase_at, phase_of, output_of, reaction_of, Sound}
use Rattle.state.specs.Stores.{recorded}

pub records : (s : State) (r : Receipt) (after : AfterRecord)
    → reaction_of Answer.Item (recorded (numbered s.numbers.next_receipt r) after s)
    ≡ proceed (record_receipt r (book_in s) (λ r' b. after_record_of after s.hand.falling s.hand.revoked.ok s.hand.axis s.asked r' b))
unfolding recorded reaction_of output_of item_at phase_of phase_at book_of proceed record_receipt kept with_receipts with_next_receipt
records s r after = refl

pub records-sound : (s : State) (r : Receipt) (after : AfterRecord) → Sound s → Sound (recorded r after s)
unfolding recorded
records-sound s r after k =
    record {
      checked = k.checked;
      sized = k.sized;
      counted = k.counted;
      falling = k.falling;
      order = record { axis = k.order.axis; leased = λ e. absurd (false≢true e) };
    }
