-- What a rejection and an admission leave stored is what the rules say. Assumes nothing.
use Prim.Native.Nat.{ℕ, ◌<◌}
use mathlib.Core.Bool.{true}
use Rattle.std.specs.Prelude.{Some, None}
use mathlib.Core.Path.{◌≡◌, refl, sym, ap, ◌∙◌}
use native.Mathlib.Omega.{arith}
use lib.ListN.{get_or}
use Rattle.model.specs.declared.Capability.{Capability}
use Rattle.model.specs.declared.Decision.TheVariants as Decision
use Rattle.model.specs.declared.LeaseSlot.{LeaseSlot}
use Rattle.model.specs.declared.Presence.TheVariants.{Present}
use Rattle.model.specs.declared.Reason.{Reason}
use Rattle.model.specs.declared.Submission.{Submission}
use Rattle.rules.specs.Admission.{first_failing, is_some, admission, order_capability, Admits, verdict, validate}
use Rattle.rules.specs.Protocol.{proceed}
use Rattle.rules.specs.Receipts.{bump_to, numbered, not_sent, order_receipt}
use Rattle.rules.specs.Rules.{original, reject, with_sequence, consumed, stream_end, admit}
use Rattle.rules.specs.With.{with_leases, with_replay, with_invalid_count}
use Rattle.state.specs.State.{lease_if, Tables, Asked, Hand, state, book_of, after_record_of, phase_at, phase_of, item_at, output_of, reaction_of, Sound, Moves}
use Rattle.state.specs.Stores.{recorded}
use Rattle.state.specs.declared.AfterRecord.TheVariants as AfterRecord
use Rattle.state.specs.declared.Answer.TheVariants.{Item}
use Rattle.state.specs.declared.Fixed.{Fixed}
use Rattle.state.specs.declared.Numbers.{Numbers}
use Rattle.state.proofs.Courses.{sound-from}
use Rattle.state.proofs.Records.{records, records-sound}
use Rattle.decide_order.specs.Orders.{ShowsOrder, counting_to, sequenced, rejected, admitted}
use Rattle.decide_order.specs.declared.Admitting.{Admitting}
use Rattle.decide_order.specs.declared.Rejecting.{Rejecting}
use Rattle.decide_order.proofs.Shown.{found-sound, record-shown, lease-present, admitted-stand}
use Rattle.decide_order.proofs.Stored.{stands-stored, stored-sized, stored-counted}

module _ (f : Fixed) (n : Numbers) (t : Tables) (q : Asked) (h : Hand) (s : Submission) (sound : Sound (state f n t q h)) (asked : q.submission ≡ s) where
  pub rejects : (reason : Reason) (first : ℕ) (r : Rejecting) → original reason s (book_of f n t) ≡ first
      → r.receipt
      ≡ numbered n.next_receipt
      (order_receipt s (order_capability s (book_of f n t)) Decision.Rejected reason first not_sent (book_of f n t))
      → r.invalid_count ≡ bump_to 65535 n.invalid_count
      → Moves (rejected r (state f n t q h)) Item (proceed (reject reason s (book_of f n t)))
  unfolding rejected reject book_of with_invalid_count after_record_of
  rejects reason first r o p m =
      let counted = state f (counting_to r.invalid_count n) t q h in
      record {
        reaction =
            ap (λ x. reaction_of Item (recorded x AfterRecord.Rejected counted)) p ∙ records counted _ AfterRecord.Rejected ∙ rw (asked, o, m);
        sound = records-sound counted r.receipt AfterRecord.Rejected (sound-from (refl, refl, refl, refl) sound);
      }

  module _ (c : Capability) (slot : LeaseSlot) (k : ShowsOrder s.action.capability true c slot t) where
    admits-so : slot.presence ≡ Present → first_failing (admission s (book_of f n t)) ≡ None → validate s (book_of f n t) ≡ Admits c slot.lease
    unfolding validate verdict
    admits-so p e = rw (e, record-shown s f n t k p, lease-present s f n t k p)

    pub admits : (a : Admitting) → first_failing (admission s (book_of f n t)) ≡ None → a.end ≡ stream_end slot.lease s
        → a.entry ≡ record { owner = s.principal; action_id = s.action.action_id; receipt = n.next_receipt }
        → Moves (admitted a c s.action.sequence (state f n t q h)) Item (proceed (admit (validate s (book_of f n t)) s (book_of f n t)))
    unfolding admitted sequenced reaction_of output_of item_at phase_of phase_at book_of proceed admit consumed with_replay with_leases is_some with_sequence
    admits a e p m =
        let present = (admitted-stand s f n t k e).1 in
        let there : get_or t.leases c.resource None ≡ Some slot.lease = sym (k.shown refl) ∙ ap (λ x. lease_if x slot.lease) present in
        let low : c.resource < 8 = omega (arith, (found-sound t.capabilities s.action.capability c sound.checked.each k.found).0) in
        let stored = with_sequence s.action.sequence slot.lease in
        record {
          reaction = rw (admits-so present e, there, asked, p, m);
          sound =
              record {
                checked = sound.checked;
                sized = rw there (stored-sized sound.sized c.resource low slot.lease stored there);
                counted = rw there (stored-counted sound.sized c.resource low slot.lease stored there refl sound.counted);
                falling = sound.falling;
                order = record { axis = low; leased = λ w. rw there (stands-stored t.leases c.resource c.resource stored (rw there)) };
              };
        }
