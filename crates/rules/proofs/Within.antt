-- The invariant within a call: how the rules that calls share keep it, how a call opens with its tick, and how it ends. Assumes nothing.
use Prim.Native.Nat.{ℕ}
use mathlib.Core.Bool.{Bool, false}
use mathlib.Core.List.{◌∷◌, reverse}
use Rattle.std.specs.Prelude.{Some}
use mathlib.Core.Path.{◌≡◌, refl, ◌∙◌}
use Rattle.rules.specs.Book.{Book}
use Rattle.rules.specs.With.{with_last_tick, with_state}
use Rattle.rules.specs.Receipts.{numbered}
use Rattle.rules.specs.Interaction.{Answer, Interaction}
use Rattle.rules.specs.Admission.{axes}
use Rattle.rules.specs.Rules.{tick}
use Rattle.rules.specs.Protocol.{Call, ItemFallback, Start}
use Rattle.rules.specs.Log.{Event, Took, Replied, Handed, Ended, Log, call_of, observing, dispatching}
use Rattle.rules.specs.Epoch.{seen_raise, stops, updated, flags_of}
use Rattle.rules.proofs.Safe.{Safe}
use Rattle.rules.proofs.Keeps.{Shared, beside, AnyReason, Guarded, Settled, keeps-tick}
use Rattle.rules.proofs.Epochs.{flags-same, epochs-same}
use Rattle.rules.proofs.Invariant.{Answering, I, inv-replied, inv-restated, inv-took, inv-ended, inv-recorded, inv-fallen}

module _ (s : Start) where
  -- a call ends in the invariant, whatever it answers
  abbrev pub End : Log → Book → Answer → Type 0
  End l b a = I s (Ended a ∷ l) b

  -- the call in hand; if it is an update, its flags are in force
  abbrev Hand : Call → Log → Type 0
  Hand c l = (call_of l ≡ Some c) × (updated (Some c) (flags_of s l) ≡ flags_of s l)

  module _ (c : Call) (l : Log) (b : Book) (h : Hand c l) where
    in-force : updated (call_of l) (flags_of s l) ≡ flags_of s l
    in-force = rw h.0 h.1

    -- any further event leaves it so
    hand-next : (e : Event) → stops e l ≡ false → call_of (e ∷ l) ≡ call_of l → Hand c (e ∷ l)
    hand-next e no_stop same = (same ∙ h.0, rw (flags-same s e l b no_stop in-force) h.1)

  abbrev pub InHand : Call → Log → Book → Type 0
  InHand c l b = I s l b × Hand c l

  pub in-hand : (c : Call) → Shared AnyReason (I s) (InHand c)
  unfolding call_of stops numbered
  in-hand c =
      record {
        waits = λ l b h. h.0;
        replied = λ r l b h. (inv-replied s l b h.0 r, hand-next c l b h.1 (Replied r) refl refl);
        falls = λ axis reason l b any h.
            let e = Handed (ItemFallback axis reason) in (
              inv-fallen s axis reason c l b h.1.0 h.0.0 (epochs-same s e l b refl (in-force c l b h.1) h.0.2),
              hand-next c l b h.1 e refl refl,
            );
        records = λ r l b quiet h. (inv-recorded s (numbered b.next_receipt r) l b quiet refl h.0, hand-next c l b h.1 _ refl refl);
        trips = λ reason l b h. (inv-restated s l b h.0 _, h.1);
      }

  pub inv-ends : (c : Call) (a : Answer) (l : Log) (b : Book) → Answering l a → InHand c l b → End l b a
  unfolding stops
  inv-ends c a l b carry h = inv-ended s a l b carry h.0.0 (epochs-same s (Ended a) l b refl (in-force c l b h.1) h.0.2)

  -- and it has handed out an execute item, or not
  abbrev pub Doing : Call → Bool → Log → Book → Type 0
  Doing c sent l b = InHand c l b × (dispatching l ≡ sent)

  pub doing : (c : Call) (sent : Bool) → Shared AnyReason (I s) (Doing c sent)
  unfolding dispatching
  doing c sent = beside (λ l. dispatching l ≡ sent) (λ r l h. h) (λ axis reason l h. h) (λ r l h. h) (in-hand c)

  -- and it has handed out neither an execute nor an observe item
  abbrev pub InCall : Call → Log → Book → Type 0
  InCall c l b = InHand c l b × ((dispatching l ≡ false) × (observing l ≡ false))

  in-call : (c : Call) → Shared AnyReason (I s) (InCall c)
  unfolding dispatching observing
  in-call c =
      beside (λ l. (dispatching l ≡ false) × (observing l ≡ false)) (λ r l h. h) (λ axis reason l h. h) (λ r l h. h) (in-hand c)

  -- a call that neither stops, nor polls, nor updates the flags, opens with its tick
  pub inv-tick : (c : Call) (now : ℕ) (l : Log) (b : Book) (next : Book → Interaction) → stops (Took c) l ≡ false
      → seen_raise (Took c ∷ l) ≡ seen_raise l → ((n : ℕ) → updated (Some c) n ≡ n) → I s l b
      → ((l' : Log) (b' : Book) → InCall c l' b' → Guarded (Settled now (reverse axes)) b' → Safe (I s) End l' (next b'))
      → Safe (I s) End (Took c ∷ l) (tick now b next)
  unfolding call_of observing dispatching with_state with_last_tick
  inv-tick c now l b next no_stop same other h f =
      keeps-tick End (in-call c) (λ reason q. tt) (λ x l' b' h'. h') (λ l' b' h'. h'.0.0.0.leasing.fits) now (λ l' b' h'. h') next f tt _ b
      ((inv-took s c l b no_stop same h, (refl, other _)), (refl, refl))
