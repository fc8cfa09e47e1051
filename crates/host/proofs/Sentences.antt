-- What a host is to know of words and slices that are turned away (docs/HOST.md), each sentence from the promises alone. Assumes nothing.
use Prim.Native.Nat.{ℕ, ◌<◌}
use mathlib.Core.Bool.{false}
use mathlib.Core.List.{List}
use mathlib.Core.Path.{◌≡◌, refl, sym, ap, ◌∙◌}
use native.Mathlib.Omega.{arith}
use lib.ListN.{length, get_or}
use Rattle.rules.specs.Protocol.{Output, Reading, Reads}
use Rattle.cells.specs.Cells.{part, put}
use Rattle.format.specs.Decode.{Record, Feeds, Malformed, decode}
use Rattle.host_records.specs.Records.{Unread, answer_words}
use Rattle.host.specs.Host.{version, fault_of, lack_of, fault_at, are_asked, Asks, Begins, Wipes, Tells, Refusal, Records}
use Rattle.host.proofs.Lent.{fault-short, fault-other, lack-fault, lack-short, at-lack, at-short}

-- a number that is not 0, and what it names
named : {n f : ℕ} → 0 < n → n ≡ f → f ≡ 0 → ⊥
named h e z = omega (arith, h, e, z)

-- "Too short, or another first word: a number, and nothing is altered"
module _ {w w' : List ℕ} {r : ℕ} {i : Record} (a : Asks w w' r i) where
  pub another-size : (length w ≡ 2464 → ⊥) → (r ≡ 65) × (w' ≡ w)
  another-size h = let f = fault-short w h in let l = a.refused (named (omega arith) f) in (l.0 ∙ sym f, l.1)

  pub another-first-word : length w ≡ 2464 → (get_or w 0 0 ≡ version → ⊥) → (r ≡ 66) × (w' ≡ w)
  another-first-word h n = let f = fault-other w h n in let l = a.refused (named (omega arith) f) in (l.0 ∙ sym f, l.1)

  -- a slice that is no record of its kind
  pub no_record : fault_of w ≡ 0 → i ≡ Malformed → (r ≡ 64) × (w' ≡ w)
  no_record e m = a.unread e m

module _ {w w' s f : List ℕ} {r : ℕ} (b : Begins w w' r s f) where
  pub start-of-another-size : (length w ≡ 2464 → ⊥) → (r ≡ 65) × (w' ≡ w)
  start-of-another-size h = b.refused h

  pub no_start : length w ≡ 2464 → are_asked s f ≡ false → (r ≡ 64) × (w' ≡ w)
  no_start h n = b.unread h n

pub clear-of-another-size : {w w' : List ℕ} {r : ℕ} → Wipes w w' r → (length w ≡ 2464 → ⊥) → (r ≡ 65) × (w' ≡ w)
clear-of-another-size p h = p.refused h

-- what is told has room, or is not
module _ {w out out' : List ℕ} {r : ℕ} {x : Output} (t : Tells w out out' r x) where
  pub told-of-another-first-word : length w ≡ 2464 → (get_or w 0 0 ≡ version → ⊥) → (r ≡ 66) × (out' ≡ out)
  told-of-another-first-word h n =
      let f = fault-other w h n in
      let k = lack-fault w out f (λ z. omega (arith, z)) in
      let l = t.refused (named (omega arith) k) in
      (l.0 ∙ sym k, l.1)

  pub no_room : fault_of w ≡ 0 → length out < 26 → (r ≡ 65) × (out' ≡ out)
  no_room e h =
      let k = lack-short w out (sym e) refl h in
      let l = t.refused (named (omega arith) k) in
      (l.0 ∙ sym k, l.1)

pub no-reason : {w : List ℕ} {r : ℕ} → Refusal w r → length w ≡ 2464 → (get_or w 0 0 ≡ version → ⊥) → r ≡ 66
no-reason {w} p h n = let f = fault-other w h n in p.refused (named (omega arith) f) ∙ sym f

module _ {w w' f out out' : List ℕ} {r : ℕ} (p : Records w w' f out out' r) where
  pub step-of-another-first-word : length w ≡ 2464 → (get_or w 0 0 ≡ version → ⊥) → (r ≡ 66) × ((w' ≡ w) × (out' ≡ out))
  step-of-another-first-word h n =
      let k = at-lack w f out (lack-fault w out (fault-other w h n) (λ z. omega (arith, z))) (λ z. omega (arith, z)) in
      let l = p.refused (named (omega arith) k) in
      (l.0.0 ∙ sym k, (l.0.1, l.1))

  pub record-of-another-length : 0 ≡ lack_of w out → (length f ≡ 16 → ⊥) → (r ≡ 64) × ((w' ≡ w) × (out' ≡ out))
  record-of-another-length e h =
      let k = at-short w f out e refl h in
      let l = p.refused (named (omega arith) k) in
      (l.0.0 ∙ sym k, (l.0.1, l.1))

  -- a malformed record of 16 words is answered as one, and alters nothing, whatever the words hold; a reading alters nothing either
  pub malformed-record : fault_at w f out ≡ 0 → decode (part f 0 16) ≡ Malformed → (out' ≡ put out 0 (answer_words Unread)) × (w' ≡ w)
  malformed-record e m =
      let s = p.stepped e in
      let l = s.goes.unread m in
      (s.writes.words ∙ ap (put out 0) l.0, l.1)

  pub reading-record : fault_at w f out ≡ 0 → (q : Reading) → decode (part f 0 16) ≡ Feeds (Reads q) → w' ≡ w
  reading-record e q m = (p.stepped e).goes.read q m
