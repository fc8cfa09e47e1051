-- Words that are zeros: a start that is over without a runtime, and empty tables. Assumes nothing.
use Prim.Native.Nat.{ℕ, ◌+◌, ◌*◌, ◌<◌, ◌≤◌}
use Rattle.words.specs.Signs.{signed}
use Rattle.cells.proofs.Regions.{part-zero, table-zero, length-table}
use Rattle.cells.specs.Cells.{tab, part, table}
use Rattle.decide_start.specs.declared.Stage.{Stage}
use Rattle.format.specs.Decode.{bounds_of, class_of, verification_of, capability_of}
use Rattle.layout.specs.Layout.{runtime_in, places_in, slot_number_of}
use Rattle.model.specs.Records.{no_lease, no_active, no_replay}
use Rattle.model.specs.declared.ActiveSlot.{ActiveSlot}
use Rattle.model.specs.declared.LeaseSlot.{LeaseSlot}
use Rattle.receipts.proofs.Promises.{opens}
use Rattle.receipts.specs.Indexes.{Opens}
use Rattle.replay.proofs.Kept.{emptied}
use Rattle.replay.specs.Promises as Replay
use Rattle.rows.specs.Codes.{below}
use Rattle.rows.specs.Rows.{carrying_of, lease_slot_of, active_slot_of, replay_slot_of, receipt_of, index_of, waiting_of, starting_of, fixed_of}
use Rattle.runtime.proofs.Openings.{empties}
use Rattle.runtime.specs.Promises.{Kept}
use Rattle.runtime.specs.Runtimes.{ring_in}
use Rattle.runtime.specs.Stages.{Empties, SoundAt, RuntimeSound}
use Rattle.runtime.specs.declared.Runtime.{Runtime}
use Rattle.state.specs.State.{lease_in, active_in}
use Rattle.state.specs.declared.Awaited.TheVariants.{Nothing}
use lib.ListN.{length, get_or, replicate}
use mathlib.Core.List.{List}
use mathlib.Core.Path.{◌≡◌, refl, sym, ap, ◌∙◌, subst}
use native.Mathlib.Omega.{arith}

-- a runtime whose start is over without one, and whose tables are empty
pub record Blank (rt : Runtime) : Type 0 where
  pub stage : rt.starting.stage ≡ Stage.Gone
  pub awaited : rt.waiting.awaited ≡ Nothing
  pub cursor : rt.cursor ≡ 0
  pub slot : rt.slot ≡ 0
  pub at : rt.carrying.at ≡ 0
  pub count : rt.fixed.count ≡ 0
  pub places : Empties rt.places
  pub leases : rt.leases ≡ replicate 9 no_lease
  pub active : rt.active ≡ replicate 9 no_active
  pub capabilities : length rt.capabilities ≡ 17
  pub replay : rt.replay ≡ replicate 33 no_replay
  pub slots : length rt.slots ≡ 65

module _ {rt : Runtime} (b : Blank rt) where
  ring-blank : ring_in rt ≡ record { entries = replicate 32 no_replay; cursor = 0 }
  ring-blank = rw (b.replay, b.cursor)

  kept-blank : Kept rt
  kept-blank =
      let n = b.count in
      let p = b.slot in
      let q = b.at in
      record {
        sized =
            record {
              leases = ap length b.leases;
              active = ap length b.active;
              capabilities = b.capabilities;
              replay = ap length b.replay;
              rejected = b.places.rejected;
              others = b.places.others;
              slots = b.slots;
              lease = ap (λ (l : List LeaseSlot). lease_in (get_or l 8 no_lease)) b.leases;
              order = ap (λ (l : List ActiveSlot). active_in (get_or l 8 no_active)) b.active;
            };
        placed =
            record {
              count = omega (arith, n);
              slot = omega (arith, p);
              capability = omega (arith, q);
              replay = subst Replay.Sound (sym ring-blank) emptied.sound;
              receipts = b.places.sound rt.slots b.slots;
            };
      }

  pub sound-blank : RuntimeSound rt
  unfolding SoundAt
  sound-blank = record { kept = kept-blank; staged = subst (λ (z : Stage). SoundAt z rt) (sym b.stage) b.awaited }

-- rows of zeros ----------------------------------------------------------------------------------------------------------

starting-zero : (starting_of (tab (λ (i : ℕ). 0) 2)).stage ≡ Stage.Gone
unfolding starting_of
starting-zero = refl

waiting-zero : (waiting_of (tab (λ (i : ℕ). 0) 2)).awaited ≡ Nothing
unfolding waiting_of
waiting-zero = refl

fixed_zero : (fixed_of (tab (λ (i : ℕ). 0) 16)).count ≡ 0
unfolding fixed_of below
fixed_zero = refl

carrying-zero : (carrying_of (tab (λ (i : ℕ). 0) 3)).at ≡ 0
unfolding carrying_of below
carrying-zero = refl

lease-zero : lease_slot_of (tab (λ (i : ℕ). 0) 12) ≡ no_lease
unfolding lease_slot_of bounds_of signed
lease-zero = refl

active-zero : active_slot_of (tab (λ (i : ℕ). 0) 15) ≡ no_active
unfolding active_slot_of capability_of class_of verification_of bounds_of signed
active-zero = refl

replay-zero : replay_slot_of (tab (λ (i : ℕ). 0) 4) ≡ no_replay
unfolding replay_slot_of
replay-zero = refl

index-zero : Opens (index_of (tab (λ (i : ℕ). 0) 5))
unfolding index_of
index-zero = opens _ _ refl refl

-- words of zeros ---------------------------------------------------------------------------------------------------------

module _ (w : List ℕ) (z : (j : ℕ) → 1 ≤ j → j < 2220 → get_or w j 0 ≡ 0) where
  part-blank : (b k : ℕ) → 1 ≤ b → b + k ≤ 2220 → part w b k ≡ tab (λ (i : ℕ). 0) k
  part-blank b k h r = part-zero w b k (λ j l. z (b + j) (omega (arith, h)) (omega (arith, l, r)))

  -- rows that read as one and the same
  rows-blank : {A : Type 0} (d : List ℕ → A) (a : A) (off k n : ℕ) → 1 ≤ off → off + n * k ≤ 2220 → d (tab (λ (i : ℕ). 0) k) ≡ a
      → table d w off k n ≡ tab (λ (i : ℕ). a) n
  rows-blank d a off k n h r e =
      table-zero d w off k n (λ j l m. z j (omega (arith, h, l)) (omega (arith, m, r))) ∙ ap (λ x. tab (λ (i : ℕ). x) n) e

  blank-places : Empties (places_in w)
  blank-places =
      empties (places_in w) (subst (λ (l : List ℕ). Opens (index_of l)) (sym (part-blank 54 5 (omega arith) (omega arith))) index-zero)
      (length-table slot_number_of w 59 1 65) (length-table slot_number_of w 124 1 65)

  pub blank : Blank (runtime_in w)
  unfolding runtime_in below
  blank =
      record {
        stage = ap (λ (l : List ℕ). (starting_of l).stage) (part-blank 36 2 (omega arith) (omega arith)) ∙ starting-zero;
        awaited = ap (λ (l : List ℕ). (waiting_of l).awaited) (part-blank 1 2 (omega arith) (omega arith)) ∙ waiting-zero;
        cursor = ap (below 32) (z 14 (omega arith) (omega arith));
        slot = ap (below 65) (z 15 (omega arith) (omega arith));
        at = ap (λ (l : List ℕ). (carrying_of l).at) (part-blank 28 3 (omega arith) (omega arith)) ∙ carrying-zero;
        count = ap (λ (l : List ℕ). (fixed_of l).count) (part-blank 38 16 (omega arith) (omega arith)) ∙ fixed_zero;
        places = blank-places;
        leases = rows-blank lease_slot_of no_lease 189 12 9 (omega arith) (omega arith) lease-zero;
        active = rows-blank active_slot_of no_active 297 15 9 (omega arith) (omega arith) active-zero;
        capabilities = length-table capability_of w 432 14 17;
        replay = rows-blank replay_slot_of no_replay 670 4 33 (omega arith) (omega arith) replay-zero;
        slots = length-table receipt_of w 855 21 65;
      }
