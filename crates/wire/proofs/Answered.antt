-- One more record: what is answered, what is written, and where the words stand. Assumes nothing.
use Prim.Native.Nat.{ℕ, ◌+◌, ◌*◌, ◌/◌, ◌%◌, ◌≤◌, ◌<◌}
use mathlib.Core.Bool.{true, false, and-false}
use borrow.Author.Tests.{lt-ltb, le-ltb}
use lib.Dec.{ltb}
use mathlib.Core.List.{List, [], ◌∷◌, ◌++◌, append_assoc, append-nil}
use mathlib.Core.Path.{◌≡◌, refl, sym, ap, ◌∙◌, subst}
use native.Mathlib.Nat.{zero-add, le_antisymm}
use native.Mathlib.Numerals.{add-one}
use native.Mathlib.Omega.{arith}
use lib.ListN.{length, drop, replicate, length-append, length-replicate}
use Rattle.words.specs.Words.{record_at, little_end, bytes_of, over}
use Rattle.words.proofs.Over.{length_over, over-over, over-nil}
use Rattle.words.proofs.Ends.{length-bytes_of}
use Rattle.format.specs.Decode.{Record, decode}
use Rattle.format.specs.Encode.{padded}
use Rattle.host_records.specs.Records.{Standing, opening, Answer, answers_from, standing_after, step, answer_words}
use Rattle.runtime.specs.Stages.{RuntimeSound}
use Rattle.layout.specs.Layout.{runtime_in}
use Rattle.host_records.specs.Standings.{Stands, Answered, Goes}
use Rattle.wire.specs.Wire.{records_in, answer_bytes, runs, is_short, short_bytes, written}
use Rattle.wire.proofs.Zeros.{zero-at, zeros-sound, zeros-stand}

answers-more : (s : Standing) (rs : List Record) (r : Record)
    → answers_from s (rs ++ (r ∷ [])) ≡ answers_from s rs ++ ((step (standing_after s rs) r).answer ∷ [])
unfolding answers_from standing_after
answers-more s [] r = refl
answers-more s (q ∷ rs) r = ap (λ (l : List Answer). (step s q).answer ∷ l) (answers-more (step s q).standing rs r)

standing-more : (s : Standing) (rs : List Record) (r : Record) → standing_after s (rs ++ (r ∷ [])) ≡ (step (standing_after s rs) r).standing
unfolding standing_after
standing-more s [] r = refl
standing-more s (q ∷ rs) r = standing-more (step s q).standing rs r

bytes-more : (l : List Answer) (a : Answer) → answer_bytes (l ++ (a ∷ [])) ≡ answer_bytes l ++ bytes_of (answer_words a)
unfolding answer_bytes
bytes-more [] a = append-nil (bytes_of (answer_words a))
bytes-more (b ∷ l) a =
    ap (λ (m : List ℕ). bytes_of (answer_words b) ++ m) (bytes-more l a) ∙ sym (append_assoc (bytes_of (answer_words b)) (answer_bytes l) (bytes_of (answer_words a)))

-- the bytes of the answers to the first records, and where they leave a run
abbrev pub answered : List ℕ → ℕ → List ℕ
answered input i = answer_bytes (answers_from opening (records_in input i))

abbrev pub standing : List ℕ → ℕ → Standing
standing input i = standing_after opening (records_in input i)

-- what holds after the first records
pub record Ran (input entry out w : List ℕ) (i : ℕ) : Type 0 where
  pub long : length w ≡ 2464
  pub sound : RuntimeSound (runtime_in w)
  pub stands : Stands w (standing input i)
  pub size : length (answered input i) ≡ 208 * i
  pub output : out ≡ over entry 0 (answered input i)
  pub same : length out ≡ length entry

pub ran-none : (input entry : List ℕ) (n : ℕ) → n ≡ 2464 → Ran input entry entry (replicate n 0) 0
unfolding records_in answers_from standing_after answer_bytes
ran-none input entry n e =
    record {
      long = length-replicate n 0 ∙ e;
      sound = zeros-sound (replicate n 0) (zero-at n);
      stands = zeros-stand (replicate n 0) (zero-at n);
      size = refl;
      output = sym (over-nil entry 0);
      same = refl;
    }

module _ {input entry out w : List ℕ} {i : ℕ} (r : Ran input entry out w i) {ws : List ℕ} (u : ws ≡ record_at input (128 * i)) {w' : List ℕ} (t : List ℕ)
    (g : Goes w w' t (decode ws)) (n : length t ≡ 26) where
  told : Answered w' t (step (standing input i) (decode (record_at input (128 * i))))
  told =
      subst (λ (v : List ℕ). Answered w' t (step (standing input i) (decode v))) u (g.answers r.sound (standing input i) r.stands)

  one_more : records_in input (i + 1) ≡ records_in input i ++ (decode (record_at input (128 * i)) ∷ [])
  unfolding records_in
  one_more = rw (add-one i)

  written-more : answered input (i + 1) ≡ answered input i ++ bytes_of t
  written-more =
      rw (one_more, answers-more opening (records_in input i) (decode (record_at input (128 * i))))
      (bytes-more (answers_from opening (records_in input i)) _ ∙ ap (λ (v : List ℕ). answered input i ++ bytes_of v) (sym told.words))

  size-more : length (answered input (i + 1)) ≡ 208 * (i + 1)
  size-more =
      let e = r.size in
      let f = length-bytes_of t in
      rw (written-more, length-append (answered input i) (bytes_of t)) (omega (arith, e, f, n))

  pub ran-more : (out' : List ℕ) → 208 * (i + 1) ≤ length entry → out' ≡ over out (208 * i) (bytes_of t) → Ran input entry out' w' (i + 1)
  ran-more out' room e = record { long = g.long ∙ r.long; sound = told.sound; stands = placed; size = size-more; output = whole; same = kept }
    where
      placed : Stands w' (standing input (i + 1))
      placed =
          rw (one_more, standing-more opening (records_in input i) (decode (record_at input (128 * i)))) told.stands

      whole : out' ≡ over entry 0 (answered input (i + 1))
      whole =
          e ∙ ap (λ (l : List ℕ). over l (208 * i) (bytes_of t)) r.output
          ∙ ap (λ (k : ℕ). over (over entry 0 (answered input i)) k (bytes_of t)) (sym (zero-add (208 * i)))
          ∙ over-over entry 0 (answered input i) (bytes_of t) (208 * i) r.size (omega arith) ∙ ap (over entry 0) (sym written-more)

      kept : length out' ≡ length entry
      kept = ap length whole ∙ length_over entry 0 (answered input (i + 1)) (let f = size-more in omega arith)

-- after the last of them
pub ended : {input entry out w : List ℕ} {i n : ℕ} → Ran input entry out w i → i ≤ n → n ≤ i
    → (out ≡ over entry 0 (answered input n)) × (length (answered input n) ≡ 208 * n)
ended {input} {entry} {out} {w} {i} {n} r h k =
    let e = le_antisymm h k in (
      subst (λ (m : ℕ). out ≡ over entry 0 (answered input m)) e r.output,
      subst (λ (m : ℕ). length (answered input m) ≡ 208 * m) e r.size,
    )

-- what is written: without and with the answer to a short record
pub written-whole : (bs : List ℕ) (m : ℕ) → is_short (length bs) m ≡ false → written bs m ≡ answered bs (runs (length bs) m)
unfolding written short_bytes
written-whole bs m e = rw e (append-nil (answered bs (runs (length bs) m)))

pub written-short : (bs : List ℕ) (m : ℕ) → is_short (length bs) m ≡ true → written bs m ≡ answered bs (runs (length bs) m) ++ bytes_of (padded 65 0 [])
unfolding written short_bytes
written-short bs m e = rw e

module _ (bs entry out : List ℕ) (n : ℕ) (e : n ≡ runs (length bs) (length entry)) (r : (out ≡ over entry 0 (answered bs n)) × (length (answered bs n) ≡ 208 * n)) where
  pub ends-whole : is_short (length bs) (length entry) ≡ false
      → (208 * n ≡ length (written bs (length entry))) × (out ≡ over entry 0 (written bs (length entry)))
  ends-whole h = rw (written-whole bs (length entry) h, sym e) (sym r.1, r.0)

  short-size : length (bytes_of (padded 65 0 [])) ≡ 208
  unfolding bytes_of padded little_end
  short-size = refl

  pub ends-short : (out' : List ℕ) → is_short (length bs) (length entry) ≡ true → 208 * n ≤ length entry → out' ≡ over out (208 * n) (bytes_of (padded 65 0 []))
      → (208 * n + 208 ≡ length (written bs (length entry))) × (out' ≡ over entry 0 (written bs (length entry)))
  ends-short out' h l w =
      rw (written-short bs (length entry) h, sym e) (
        rw (length-append (answered bs n) (bytes_of (padded 65 0 [])), r.1, short-size),
        w ∙ ap (λ (o : List ℕ). over o (208 * n) (bytes_of (padded 65 0 []))) r.0
            ∙ ap (λ (k : ℕ). over (over entry 0 (answered bs n)) k (bytes_of (padded 65 0 []))) (sym (zero-add (208 * n)))
            ∙ over-over entry 0 (answered bs n) (bytes_of (padded 65 0 [])) (208 * n) r.1 (omega arith),
      )

-- whether a short record is answered
pub no_room : (a b : ℕ) → b / 208 ≤ a / 128 → is_short a b ≡ false
unfolding is_short
no_room a b h = rw (le-ltb (a / 128) (b / 208) h)

pub none-short : (a b : ℕ) → a % 128 ≡ 0 → is_short a b ≡ false
unfolding is_short
none-short a b e = rw e (and-false (ltb (a / 128) (b / 208)))

pub one-short : (a b : ℕ) → a / 128 < b / 208 → (a % 128 ≡ 0 → ⊥) → is_short a b ≡ true
unfolding is_short
one-short a b h n = rw (lt-ltb (a / 128) (b / 208) h, lt-ltb 0 (a % 128) (omega (arith, n)))

-- what is written fits
pub reaches : (entry w out : List ℕ) (r : ℕ) → r ≡ length w → out ≡ over entry 0 w → r ≤ length out
unfolding over
reaches entry w out r e o = rw (o, length-append w (drop (0 + length w) entry)) (omega arith)
