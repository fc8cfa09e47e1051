-- A record is sound exactly if 01's seven conditions, as plain facts, hold of it; and what it is to be the record with an id. Assumes nothing.
use Prim.Native.Nat.{ℕ}
use mathlib.Core.Bool.{Bool, true, false, cond, not, ◌&&◌}
use mathlib.Core.List.{List, [], ◌∷◌, ◌++◌}
use mathlib.Core.Logic.{◌≢◌, inl, inr, ⊎_elim}
use Rattle.std.specs.Prelude.{Some}
use Rattle.std.proofs.lemmas.Option.{none-some}
use Rattle.model.proofs.Options.{some-injective}
use mathlib.Core.Path.{◌≡◌, refl, sym, ap, ◌∙◌, subst, subst⁻¹}
use native.Mathlib.Omega.{arith}
use borrow.Author.Tests.{eqb-true, eqb-false, eq-eqb, ne_eqb, leb-true, le-leb, not-true}
use lib.Dec.{T, eqb, leb}
use lib.IntN.{ℤ, pos, negsuc, nat_abs}
use lib.ListN.{drop}
use lib.Signed.{◌≤ℤ◌}
use Rattle.model.specs.declared.Bounds.{Bounds}
use Rattle.model.specs.declared.Capability.{Capability}
use Rattle.model.specs.declared.Verification.{Verification}
use Rattle.model.specs.declared.Verification.TheVariants.{Parameters, State}
use Rattle.model.specs.Bounds.{ordered, is_zero}
use Rattle.model.specs.Lists.{all, every}
use Rattle.model.specs.Soundness.{verifiable, conditions, sound}
use Rattle.model.specs.Words.{share_no_bit, inside}
use Rattle.model.proofs.Tests.{and-when, and_both}
use Rattle.rules.specs.Lists.{Mem}
use Rattle.rules.specs.Admission.{with_id}
use Rattle.rules.specs.SoundStart.{Verifiable, SoundCapability, Named}

-- ---- a test of every element

module _ {A : Type 0} (p : A → Bool) (P : A → Type 0) where
  pub all-each : ((a : A) → p a ≡ true → P a) → (l : List A) → all p l ≡ true → (a : A) → Mem a l → P a
  all-each f [] e a m = absurd m
  all-each f (x ∷ l) e a (inl q) = rw q (f x (and_both (p x) (all p l) e).0)
  all-each f (x ∷ l) e a (inr m) = all-each f l (and_both (p x) (all p l) e).1 a m

  pub each_all : ((a : A) → P a → p a ≡ true) → (l : List A) → ((a : A) → Mem a l → P a) → all p l ≡ true
  each_all f [] h = refl
  each_all f (x ∷ l) h = sym (and-when (f x (h x (inl refl))) (sym (each_all f l (λ a m. h a (inr m)))))

-- ---- bounds

pub ordered-means : (b : Bounds) → ordered b ≡ true → b.min ≤ℤ b.max
ordered-means b e = record { le = subst⁻¹ T e tt }

pub means-ordered : (b : Bounds) → b.min ≤ℤ b.max → ordered b ≡ true
means-ordered b h = go (ordered b) h.le
  where
    go : (t : Bool) → T t → t ≡ true
    go true k = refl
    go false k = absurd k

zero-abs : (z : ℤ) → nat_abs z ≡ 0 → z ≡ pos 0
zero-abs (pos n) e = rw e
zero-abs (negsuc n) e = absurd (omega arith)

zero-means : (b : Bounds) → is_zero b ≡ true → (b.min ≡ pos 0) × (b.max ≡ pos 0)
unfolding is_zero
zero-means b e =
    let h = and_both (eqb (nat_abs b.min) 0) _ e in
    (zero-abs b.min (eqb-true _ _ h.0), zero-abs b.max (eqb-true _ _ h.1))

means-zero : (b : Bounds) → (b.min ≡ pos 0) × (b.max ≡ pos 0) → is_zero b ≡ true
unfolding is_zero
means-zero b h = rw (h.0, h.1)

-- ---- verification

verifiable-means : (v : Verification) → verifiable v ≡ true → Verifiable v
unfolding verifiable inside
verifiable-means Parameters e = tt
verifiable-means (State mask value) e =
    let h = and_both (not (eqb mask 0)) _ e in
    (eqb-false mask 0 (not-true _ h.0), eqb-true _ _ h.1)

means-verifiable : (v : Verification) → Verifiable v → verifiable v ≡ true
unfolding verifiable inside
means-verifiable Parameters h = refl
means-verifiable (State mask value) h = rw (ne_eqb mask 0 h.0, eq-eqb _ _ h.1)

-- ---- a record

pub sound-means : (c : Capability) → sound c ≡ true → SoundCapability c
unfolding sound conditions every share_no_bit
sound-means c e =
    let h₁ = and_both (leb 1 c.id && leb c.id 63) _ e in
    let h₂ = and_both (leb c.resource 7) _ h₁.1 in
    let h₃ = and_both (leb c.parameter_count 2) _ h₂.1 in
    let h₄ = and_both (share_no_bit c.require_set c.require_clear) _ h₃.1 in
    let h₅ = and_both (all ordered c.bounds) _ h₄.1 in
    let h₆ = and_both (all is_zero (drop c.parameter_count c.bounds)) _ h₅.1 in
    let h₇ = and_both (verifiable c.verification) _ h₆.1 in
    let id = and_both (leb 1 c.id) _ h₁.0 in
    record {
      id = (leb-true _ _ id.0, leb-true _ _ id.1);
      axis = leb-true _ _ h₂.0;
      count = leb-true _ _ h₃.0;
      flags = eqb-true _ _ h₄.0;
      ordered = all-each ordered (λ b. b.min ≤ℤ b.max) ordered-means c.bounds h₅.0;
      zero = all-each is_zero (λ b. (b.min ≡ pos 0) × (b.max ≡ pos 0)) zero-means (drop c.parameter_count c.bounds) h₆.0;
      verification = verifiable-means c.verification h₇.0;
    }

pub means-sound : (c : Capability) → SoundCapability c → sound c ≡ true
unfolding sound conditions every share_no_bit
means-sound c h =
    rw (le-leb _ _ h.id.0, le-leb _ _ h.id.1, le-leb _ _ h.axis, le-leb _ _ h.count, eq-eqb _ _ h.flags)
    (rw (each_all ordered (λ b. b.min ≤ℤ b.max) means-ordered c.bounds h.ordered)
    (rw (each_all is_zero (λ b. (b.min ≡ pos 0) × (b.max ≡ pos 0)) means-zero (drop c.parameter_count c.bounds) h.zero, means-verifiable _ h.verification) refl))

-- ---- the record with an id

one_earlier : {id : ℕ} {cs : List Capability} {c : Capability} (d : Capability) → d.id ≢ id → Named id cs c → Named id (d ∷ cs) c
one_earlier d n k =
    record {
      earlier = d ∷ k.earlier;
      later = k.later;
      place = ap (λ (l : List Capability). d ∷ l) k.place;
      own = k.own;
      first = λ x. ⊎_elim (λ e q. n (ap (λ (y : Capability). y.id) (sym e) ∙ q)) (k.first x);
    }

pub named-with : (id : ℕ) (cs : List Capability) (c : Capability) → with_id id cs ≡ Some c → Named id cs c
unfolding with_id
named-with id [] c e = absurd (none-some c e)
named-with id (d ∷ cs) c e = go (eqb d.id id) refl e (named-with id cs c)
  where
    go : (t : Bool) → eqb d.id id ≡ t → cond t (Some d) (with_id id cs) ≡ Some c → (with_id id cs ≡ Some c → Named id cs c) → Named id (d ∷ cs) c
    go true q e rest =
        let same : d ≡ c = some-injective _ _ e in
        subst (Named id (d ∷ cs)) same (record { earlier = []; later = cs; place = refl; own = eqb-true _ _ q; first = λ x m. absurd m })
    go false q e rest = one_earlier d (eqb-false _ _ q) (rest e)

pub with-named : {id : ℕ} {cs : List Capability} {c : Capability} → Named id cs c → with_id id cs ≡ Some c
unfolding with_id
with-named {id} {cs} {c} k = ap (with_id id) k.place ∙ go k.earlier k.first
  where
    go : (earlier : List Capability) → ((d : Capability) → Mem d earlier → d.id ≢ id) → with_id id (earlier ++ (c ∷ k.later)) ≡ Some c
    go [] first = rw (eq-eqb c.id id k.own)
    go (d ∷ earlier) first = rw (ne_eqb d.id id (first d (inl refl))) (go earlier (λ x m. first x (inr m)))
