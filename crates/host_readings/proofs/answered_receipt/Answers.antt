use mathlib.Core.Path.{refl}
use Rattle.state.specs.State.{answered_at}
use Rattle.layout.specs.Layout.{runtime_in}
use Rattle.host_readings.proofs.Showing.{receipt-seen}
use Rattle.host_readings.proofs.answered_receipt.Goals as goal

pub returns-in-Fallback : goal.returns-in-Fallback
unfolding answered_at
returns-in-Fallback c = receipt-seen (runtime_in _) c.waiting_in-waiting.ensures refl refl c.submitted_in.ensures (simp c.in-Fallback.is)

pub returns-in-Lease : goal.returns-in-Lease
unfolding answered_at
returns-in-Lease c = receipt-seen (runtime_in _) c.waiting_in-waiting.ensures refl refl c.submitted_in-in-Lease.ensures (simp c.in-Lease.is)

pub returns-in-Executed : goal.returns-in-Executed
unfolding answered_at
returns-in-Executed c = receipt-seen (runtime_in _) c.waiting_in-waiting.ensures c.slot_in.ensures.0 c.receipt_at.ensures refl (simp c.in-Executed.is)

pub returns-in-Failed : goal.returns-in-Failed
unfolding answered_at
returns-in-Failed c = receipt-seen (runtime_in _) c.waiting_in-waiting.ensures c.slot_in-in-Failed.ensures.0 c.receipt_at-in-Failed.ensures refl (simp c.in-Failed.is)

pub returns-in-Rejected : goal.returns-in-Rejected
unfolding answered_at
returns-in-Rejected c = receipt-seen (runtime_in _) c.waiting_in-waiting.ensures c.slot_in-in-Rejected.ensures.0 c.receipt_at-in-Rejected.ensures refl (simp c.in-Rejected.is)
