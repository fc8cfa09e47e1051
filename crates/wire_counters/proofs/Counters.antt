-- Soundness asks nothing of the counters of a runtime; a record leaves words that are sound, and one written leaves the length. Assumes nothing.
use Prim.Native.Nat.{ℕ, ◌*◌, ◌≤◌, ◌<◌}
use mathlib.Core.Bool.{true, false≢true}
use mathlib.Core.List.{List}
use mathlib.Core.Path.{◌≡◌, refl, ap, ◌∙◌}
use native.Mathlib.Omega.{arith}
use lib.ListN.{length}
use Rattle.words.specs.Words.{bytes_of, over}
use Rattle.words.proofs.Over.{length_over}
use Rattle.words.proofs.Ends.{length-bytes_of}
use Rattle.format.specs.Decode.{Record}
use Rattle.state.specs.State.{Sound}
use Rattle.state.specs.declared.Numbers.{Numbers}
use Rattle.decide_start.specs.Starts.{is_started}
use Rattle.decide_start.specs.declared.Stage.{Stage}
use Rattle.runtime.specs.declared.Runtime.{Runtime}
use Rattle.runtime.specs.Runtimes.{state_in}
use Rattle.runtime.specs.Stages.{phase_in, SoundAt, RuntimeSound}
use Rattle.runtime.proofs.Turned.{kept_same}
use Rattle.layout.specs.Fields.{with_numbers}
use Rattle.layout.specs.Layout.{runtime_in}
use Rattle.host_records.specs.Standings.{Goes}
use Rattle.host_records.proofs.Answers.{listing-there}

-- with other numbers that count the same leases, and have the same soonest end
counted : (rt : Runtime) (n : Numbers) → n.held ≡ rt.numbers.held → n.soonest ≡ rt.numbers.soonest → Sound (state_in rt)
    → Sound (state_in (with_numbers n rt))
counted rt n e f h =
    record { checked = h.checked; sized = h.sized; counted = rw (e, f) h.counted; falling = h.falling; order = h.order }

staged : (s : Stage) (rt : Runtime) (n : Numbers) → is_started s ≡ true → n.held ≡ rt.numbers.held → n.soonest ≡ rt.numbers.soonest
    → SoundAt s rt → SoundAt s (with_numbers n rt)
unfolding SoundAt
staged Stage.Trying rt n b e f h = absurd (false≢true b)
staged Stage.Gone rt n b e f h = absurd (false≢true b)
staged Stage.Started rt n b e f h = counted rt n e f h

pub sound-with : (rt : Runtime) (n : Numbers) → is_started rt.starting.stage ≡ true → n.held ≡ rt.numbers.held → n.soonest ≡ rt.numbers.soonest
    → RuntimeSound rt → RuntimeSound (with_numbers n rt)
sound-with rt n b e f h =
    record {
      kept = kept_same rt (with_numbers n rt) (refl, refl, refl, refl, refl, refl, refl, refl, refl, refl, refl) h.kept;
      staged = staged rt.starting.stage rt n b e f h.staged;
    }

-- a record of the product: whatever is listed
pub sound-after : {w w' r : List ℕ} {i : Record} → Goes w w' r i → RuntimeSound (runtime_in w) → RuntimeSound (runtime_in w')
sound-after {w} g h =
    (g.answers h (record { listed = _; phase = phase_in (runtime_in w) }) (record { listing = listing-there w; phase = refl })).sound

pub kept-length : (i : ℕ) {n : ℕ} (entry out out' ws : List ℕ) → i < n → 208 * n ≤ length entry → length out ≡ length entry → length ws ≡ 26
    → out' ≡ over out (208 * i) (bytes_of ws) → length out' ≡ length entry
kept-length i {n} entry out out' ws h l e w o =
    let f = length-bytes_of ws in
    ap length o ∙ length_over out (208 * i) (bytes_of ws) (omega (arith, f, w, e, h, l)) ∙ e
