-- The flags, the raise number seen and the epoch are what the log says: how events and steps on the book keep that. Assumes nothing.
use Prim.Native.Nat.{ℕ, ◌+◌, min}
use mathlib.Core.Bool.{Bool, true, false, cond, ◌&&◌}
use mathlib.Core.List.{◌∷◌}
use Rattle.std.specs.Prelude.{Some, None}
use mathlib.Core.Path.{◌≡◌, refl}
use native.Mathlib.Omega.{arith}
use borrow.Author.Tests.{ltb-true, ltb-false, eq-eqb}
use lib.Bits.{bit_or}
use lib.Dec.{ltb, eqb}
use Rattle.model.specs.declared.Reason.{Reason}
use Rattle.model.specs.declared.Receipt.{Receipt}
use Rattle.rules.specs.Book.{Book}
use Rattle.rules.specs.With.{with_leases, with_active, with_epoch}
use Rattle.rules.specs.Receipts.{top, bump_to, bump}
use Rattle.rules.specs.Admission.{is_some}
use Rattle.rules.specs.Rules.{bump_epoch, cleared}
use Rattle.rules.specs.Protocol.{Call, UpdateState, ItemFallback, ItemRecord, Start}
use Rattle.rules.specs.Log.{Event, Took, Handed, Log, call_of, is_grant}
use Rattle.rules.specs.Epoch.{seen_raise, stops, falls_for, in_force, updated, flags_of, new_flags_at, bumps_at, one_more_if, bumps}

-- `F` are the flags, `S` is the raise number seen, and there were `B` bumps
pub record Epochs (F S B flags seen epoch : ℕ) : Type 0 where
  pub in-force : flags ≡ F
  pub last-raise : seen ≡ S
  pub count : epoch ≡ min top (1 + B)

abbrev pub EpochsAs : ℕ → ℕ → Log → Book → Type 0
EpochsAs F B l b = Epochs F (seen_raise l) B b.flags b.estop_seen b.epoch

abbrev pub EpochsOf : Start → Log → Book → Type 0
EpochsOf s l b = EpochsAs (flags_of s l) (bumps s l) l b

-- where the flags that an event brings into force are set
abbrev pub EpochsAt : Start → Event → Log → Book → Type 0
EpochsAt s e l b = EpochsAs (flags_of s (e ∷ l)) (one_more_if (new_flags_at s e l) (bumps s l)) l b

-- ---- one more

bump-count : (n m : ℕ) → m ≡ min top (1 + n) → bump m ≡ min top (1 + (n + 1))
unfolding bump_to
bump-count n m e = go (ltb m top) refl
  where
    go : (t : Bool) → ltb m top ≡ t → cond t (m + 1) m ≡ min top (1 + (n + 1))
    go true h = omega (arith, ltb-true m top h)
    go false h = omega (arith, ltb-false m top h)

pub bumped : {F S B flags seen epoch : ℕ} (flags' F' : ℕ) → flags' ≡ F' → Epochs F S B flags seen epoch → Epochs F' S (B + 1) flags' seen (bump epoch)
bumped flags' F' e h = record { in-force = e; last-raise = h.last-raise; count = bump-count _ _ h.count }

-- ---- what an event brings into force

module _ (s : Start) (e : Event) (l : Log) (b : Book) (no_stop : stops e l ≡ false) where
  -- nothing
  pub epochs-still : in_force e l ≡ false → EpochsOf s l b → EpochsAt s e l b
  unfolding flags_of
  epochs-still off h = rw (no_stop, off) h

  -- the flags that stand already
  pub flags-same : updated (call_of l) (flags_of s l) ≡ flags_of s l → flags_of s (e ∷ l) ≡ flags_of s l
  unfolding flags_of
  flags-same same = rw (no_stop, same) (go (in_force e l))
    where
      go : (t : Bool) → cond t (flags_of s l) (flags_of s l) ≡ flags_of s l
      go true = refl
      go false = refl

  pub epochs-same : updated (call_of l) (flags_of s l) ≡ flags_of s l → EpochsOf s l b → EpochsAt s e l b
  epochs-same same h = rw (flags-same same, same, eq-eqb (flags_of s l) (flags_of s l) refl) (go (in_force e l))
    where
      go : (t : Bool) → EpochsAs (flags_of s l) (one_more_if (t && false) (bumps s l)) l b
      go true = h
      go false = h

  -- other flags
  pub epochs-new : (flags now : ℕ) → in_force e l ≡ true → call_of l ≡ Some (UpdateState flags now) → eqb flags (flags_of s l) ≡ false
      → EpochsAs flags (bumps s l + 1) l b → EpochsAt s e l b
  unfolding flags_of updated
  epochs-new flags now on call new h = rw (no_stop, on, call, new) h

-- ---- calls

-- a call that neither stops nor polls
pub epochs-took : (s : Start) (c : Call) (l : Log) (b : Book) → stops (Took c) l ≡ false → seen_raise (Took c ∷ l) ≡ seen_raise l → EpochsOf s l b
    → EpochsOf s (Took c ∷ l) b
unfolding flags_of in_force bumps bumps_at
epochs-took s c l b no_stop same h = rw (no_stop, same) h

-- a stop, once the mask is set
pub epochs-stopped : (s : Start) (c : Call) (l : Log) (b : Book) (seen : ℕ) → stops (Took c) l ≡ true → b.config ≡ s.config
    → seen ≡ seen_raise (Took c ∷ l) → EpochsOf s l b
    → Epochs (flags_of s (Took c ∷ l)) (seen_raise (Took c ∷ l)) (bumps s (Took c ∷ l)) (bit_or b.flags b.config.estop_mask) seen b.epoch
unfolding flags_of in_force bumps bumps_at
epochs-stopped s c l b seen stop config same h =
    record { in-force = rw (stop, config, h.in-force); last-raise = same; count = h.count }

-- ---- items

is-called : (c : Call) (l : Log) → call_of l ≡ Some c → is_some (call_of l) ≡ true
unfolding is_some
is-called c l call = rw call

pub epochs-fallen : (s : Start) (axis : ℕ) (reason : Reason) (c : Call) (l : Log) (b : Book) → call_of l ≡ Some c
    → EpochsAt s (Handed (ItemFallback axis reason)) l b → EpochsOf s (Handed (ItemFallback axis reason) ∷ l) (cleared axis b)
unfolding bumps bumps_at seen_raise cleared bump_epoch with_epoch with_leases with_active
epochs-fallen s axis reason c l b call h = rw (is-called c l call) (bumped _ _ h.in-force h)

-- a startup fallback
pub epochs-startup : (s : Start) (axis : ℕ) (reason : Reason) (l : Log) (b : Book) → call_of l ≡ None → EpochsOf s l b
    → EpochsOf s (Handed (ItemFallback axis reason) ∷ l) b
unfolding bumps bumps_at seen_raise updated stops is_some
epochs-startup s axis reason l b call h =
    let h₁ = epochs-same s (Handed (ItemFallback axis reason)) l b refl (rw call) h in
    rw call (rw call at h₁)

-- a receipt
pub epochs-recorded : (s : Start) (r : Receipt) (l : Log) (b : Book) → is_grant r ≡ false → EpochsOf s l b
    → EpochsOf s (Handed (ItemRecord r) ∷ l) b
unfolding flags_of stops in_force falls_for bumps bumps_at seen_raise
epochs-recorded s r l b quiet h = rw quiet h

pub epochs-granted : (s : Start) (r : Receipt) (l : Log) (b : Book) → is_grant r ≡ true → EpochsOf s l b
    → EpochsOf s (Handed (ItemRecord r) ∷ l) (bump_epoch b)
unfolding flags_of stops in_force falls_for bumps bumps_at seen_raise bump_epoch with_epoch
epochs-granted s r l b grant h = rw grant (bumped _ _ h.in-force h)
