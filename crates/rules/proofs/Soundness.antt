-- 01's checks of a start pass exactly if the plain facts hold, and which check fails first is what the plain facts say. Assumes nothing.
use Prim.Native.Nat.{ℕ, ◌≤◌}
use mathlib.Core.Bool.{Bool, true, false, cond, not, ◌||◌, false≢true}
use mathlib.Core.List.{List, [], ◌∷◌, ◌++◌, append-nil, append_assoc}
use mathlib.Core.Logic.{◌≢◌, ◌⊎◌, inl, inr, ⊎_elim}
use Rattle.std.specs.Prelude.{Some, None}
use Rattle.std.proofs.lemmas.Option.{none-some}
use Rattle.model.proofs.Options.{some-injective}
use mathlib.Core.Path.{◌≡◌, refl, sym, ap, ◌∙◌, subst}
use native.Mathlib.Omega.{arith}
use borrow.Author.Tests.{eqb-true, eqb-false, eq-eqb, ne_eqb, ltb-true, ltb-false, le-ltb, not-false}
use lib.Dec.{eqb, ltb}
use lib.ListN.{length}
use Rattle.model.specs.declared.Capability.{Capability}
use Rattle.model.specs.declared.Config.{Config}
use Rattle.model.specs.Reasons.{invalid_config, invalid_capability, duplicate_capability}
use Rattle.model.specs.Soundness.{sound, id_taken}
use Rattle.rules.specs.Lists.{Mem, Distinct}
use Rattle.rules.specs.Protocol.{Start, bad_config, refused_record, refused_start}
use Rattle.rules.specs.SoundStart.{SoundCapability, ids_of, SoundRecords, SoundConfig, Misconfigured, SoundStart, FailsAt, StartFails}
use Rattle.rules.specs.SoundStart as Plain
use Rattle.rules.proofs.Basics.{neither, one_of, cond-none, mem-right, mem-split}
use Rattle.rules.proofs.Records.{sound-means, means-sound}

-- ---- ids

taken-mem : (cs : List Capability) (id : ℕ) → id_taken cs id ≡ true → Mem id (ids_of cs)
taken-mem [] id e = absurd (false≢true e)
taken-mem (c ∷ cs) id e = go (eqb c.id id) refl e (taken-mem cs id)
  where
    go : (t : Bool) → eqb c.id id ≡ t → (t || id_taken cs id) ≡ true → (id_taken cs id ≡ true → Mem id (ids_of cs)) → Mem id (ids_of (c ∷ cs))
    go true q e rest = inl (sym (eqb-true _ _ q))
    go false q e rest = inr (rest e)

mem-taken : (cs : List Capability) (id : ℕ) → Mem id (ids_of cs) → id_taken cs id ≡ true
mem-taken (c ∷ cs) id (inl e) = rw (eq-eqb c.id id (sym e))
mem-taken (c ∷ cs) id (inr m) = go (eqb c.id id) (mem-taken cs id m)
  where
    go : (t : Bool) → id_taken cs id ≡ true → (t || id_taken cs id) ≡ true
    go true e = refl
    go false e = e
mem-taken [] id m = absurd m

-- ---- the records

-- an id that no record before it has
fresh : (pre : List Capability) (c : Capability) (more : List Capability) → Distinct (ids_of (pre ++ (c ∷ more))) → id_taken pre c.id ≡ false
fresh [] c more d = refl
fresh (x ∷ pre) c more d =
    rw (ne_eqb x.id c.id (λ e. d.0 (subst (λ id. Mem id (ids_of (pre ++ (c ∷ more)))) (sym e) (named pre)))) (fresh pre c more d.1)
  where
    named : (pre : List Capability) → Mem c.id (ids_of (pre ++ (c ∷ more)))
    named [] = inl refl
    named (x ∷ pre) = inr (named pre)

-- sound records pass, and what follows them is looked at
skip : (pre earlier rest : List Capability) → SoundRecords (pre ++ earlier) → refused_record pre (earlier ++ rest) ≡ refused_record (pre ++ earlier) rest
unfolding refused_record
skip pre [] rest h = ap (λ (l : List Capability). refused_record l rest) (sym (append-nil pre))
skip pre (c ∷ earlier) rest h =
    rw (means-sound c (h.each c (mem-right c pre (c ∷ earlier) (inl refl))), fresh pre c earlier h.ids)
    (skip (pre ++ (c ∷ [])) earlier rest (rw append_assoc h) ∙ ap (λ (l : List Capability). refused_record l rest) (append_assoc pre (c ∷ []) earlier))

-- one more sound record, with an id of its own
one_more : (cs : List Capability) (c : Capability) → SoundRecords cs → SoundCapability c → id_taken cs c.id ≡ false → SoundRecords (cs ++ (c ∷ []))
one_more cs c h own new = record { each = λ d m. ⊎_elim (h.each d) last (mem-split d cs (c ∷ []) m); ids = apart cs h.ids new }
  where
    last : {d : Capability} → Mem d (c ∷ []) → SoundCapability d
    last (inl e) = subst SoundCapability (sym e) own
    last (inr m) = absurd m

    ids-snoc : (cs : List Capability) (id : ℕ) → Mem id (ids_of (cs ++ (c ∷ []))) → Mem id (ids_of cs) ⊎ (id ≡ c.id)
    ids-snoc [] id (inl e) = inr e
    ids-snoc [] id (inr m) = absurd m
    ids-snoc (x ∷ cs) id (inl e) = inl (inl e)
    ids-snoc (x ∷ cs) id (inr m) = ⊎_elim (λ n. inl (inr n)) inr (ids-snoc cs id m)

    apart : (cs : List Capability) → Distinct (ids_of cs) → id_taken cs c.id ≡ false → Distinct (ids_of (cs ++ (c ∷ [])))
    apart [] d e = (λ m. m, tt)
    apart (x ∷ cs) d e =
        let n = neither (eqb x.id c.id) _ e in
        (λ m. ⊎_elim d.0 (eqb-false _ _ n.0) (ids-snoc cs x.id m), apart cs d.1 n.1)

-- records that pass, after sound ones, are sound
passed : (earlier cs : List Capability) → SoundRecords earlier → refused_record earlier cs ≡ None → SoundRecords (earlier ++ cs)
unfolding refused_record
passed earlier [] h e = rw append-nil h
passed earlier (c ∷ cs) h e =
    let own = cond-none (not (sound c)) _ _ e in
    let new = cond-none (id_taken earlier c.id) _ _ own.1 in
    subst SoundRecords (append_assoc earlier (c ∷ []) cs)
    (passed (earlier ++ (c ∷ [])) cs (one_more earlier c h (sound-means c (not-false _ own.0)) new.0) new.1)

-- ---- the configuration

sound-config : (c : Config) (count : ℕ) → bad_config c count ≡ false → (count ≢ 0) × (count ≤ 16) × SoundConfig c
unfolding bad_config
sound-config c count e =
    let k₁ = neither (eqb count 0) _ e in
    let k₂ = neither (ltb 16 count) _ k₁.1 in
    let k₃ = neither (eqb c.watchdog_ms 0) _ k₂.1 in
    let k₄ = neither (eqb c.state_ttl_ms 0) _ k₃.1 in
    let k₅ = neither (eqb c.max_lease_ms 0) _ k₄.1 in
    let k₆ = neither (eqb c.max_valid_for_ms 0) _ k₅.1 in
    let k₇ = neither (eqb c.invalid_limit 0) _ k₆.1 in (
      eqb-false _ _ k₁.0,
      ltb-false _ _ k₂.0,
      record {
        watchdog = eqb-false _ _ k₃.0;
        state_ttl = eqb-false _ _ k₄.0;
        max_lease = eqb-false _ _ k₅.0;
        max_valid = eqb-false _ _ k₆.0;
        invalid_limit = eqb-false _ _ k₇.0;
        estop_mask = eqb-false _ _ k₇.1;
      },
    )

config-sound : (c : Config) (count : ℕ) → count ≢ 0 → count ≤ 16 → SoundConfig c → bad_config c count ≡ false
unfolding bad_config
config-sound c count n f s =
    rw (ne_eqb _ _ n, le-ltb _ _ f)
    (rw (ne_eqb _ _ s.watchdog, ne_eqb _ _ s.state_ttl, ne_eqb _ _ s.max_lease)
    (rw (ne_eqb _ _ s.max_valid, ne_eqb _ _ s.invalid_limit, ne_eqb _ _ s.estop_mask) refl))

-- ---- the start

length-zero : (cs : List Capability) → length cs ≡ 0 → cs ≡ []
length-zero [] e = refl
length-zero (c ∷ cs) e = absurd (omega arith)

module _ (s : Start) where
  abbrev bad : Bool
  bad = bad_config s.config (length s.capabilities)

  misconfigured : bad ≡ true → Misconfigured s
  unfolding bad_config
  misconfigured e =
      ⊎_elim (λ h. Plain.empty (length-zero _ (eqb-true _ _ h)))
      (λ e₁. ⊎_elim (λ h. Plain.long (ltb-true _ _ h))
      (λ e₂. ⊎_elim (λ h. Plain.watchdog (eqb-true _ _ h))
      (λ e₃. ⊎_elim (λ h. Plain.state_ttl (eqb-true _ _ h))
      (λ e₄. ⊎_elim (λ h. Plain.max_lease (eqb-true _ _ h))
      (λ e₅. ⊎_elim (λ h. Plain.max_valid (eqb-true _ _ h))
      (λ e₆. ⊎_elim (λ h. Plain.invalid_limit (eqb-true _ _ h)) (λ h. Plain.estop_mask (eqb-true _ _ h)) (one_of _ _ e₆))
      (one_of _ _ e₅)) (one_of _ _ e₄)) (one_of _ _ e₃)) (one_of _ _ e₂)) (one_of _ _ e₁)) (one_of _ _ e)

  configured : bad ≡ false → ¬ Misconfigured s
  configured e m = go (sound-config _ _ e) m
    where
      go : (length s.capabilities ≢ 0) × (length s.capabilities ≤ 16) × SoundConfig s.config → Misconfigured s → ⊥
      go k (Plain.empty h) = k.0 (ap length h)
      go k (Plain.long h) = omega (arith, k.1)
      go k (Plain.watchdog h) = k.2.watchdog h
      go k (Plain.state_ttl h) = k.2.state_ttl h
      go k (Plain.max_lease h) = k.2.max_lease h
      go k (Plain.max_valid h) = k.2.max_valid h
      go k (Plain.invalid_limit h) = k.2.invalid_limit h
      go k (Plain.estop_mask h) = k.2.estop_mask h

  is-misconfigured : Misconfigured s → bad ≡ true
  is-misconfigured m = go bad refl
    where
      go : (t : Bool) → bad ≡ t → bad ≡ true
      go true e = e
      go false e = absurd (configured e m)

  is-configured : ¬ Misconfigured s → bad ≡ false
  is-configured n = go bad refl
    where
      go : (t : Bool) → bad ≡ t → bad ≡ false
      go true e = absurd (n (misconfigured e))
      go false e = e

pub sound-start : (s : Start) → refused_start s ≡ None → SoundStart s
unfolding refused_start
sound-start s e =
    let boot = cond-none (eqb s.boot_id 0) _ _ e in
    let config = cond-none (bad s) _ _ boot.1 in
    let c = sound-config _ _ config.0 in
    record {
      boot = eqb-false _ _ boot.0;
      some = λ e. c.0 (ap length e);
      few = c.1;
      config = c.2;
      records = passed [] s.capabilities (record { each = λ c m. absurd m; ids = tt }) config.1;
    }

pub start-sound : (s : Start) → SoundStart s → refused_start s ≡ None
unfolding refused_start refused_record
start-sound s h =
    rw (ne_eqb _ _ h.boot, config-sound _ _ (λ e. h.some (length-zero _ e)) h.few h.config)
    (ap (refused_record []) (sym (append-nil s.capabilities)) ∙ skip [] s.capabilities [] h.records)

-- ---- which check fails first

module _ (s : Start) (boot : s.boot_id ≢ 0) (fine : ¬ Misconfigured s) where
  record-fails : (earlier cs : List Capability) (n : ℕ) → s.capabilities ≡ earlier ++ cs → SoundRecords earlier → refused_record earlier cs ≡ Some n
      → StartFails s n
  unfolding refused_record
  record-fails earlier [] n place h e = absurd (none-some n e)
  record-fails earlier (c ∷ cs) n place h e =
      go (sound c) refl (id_taken earlier c.id) refl e
      (λ own new. record-fails (earlier ++ (c ∷ [])) cs n (place ∙ sym (append_assoc earlier (c ∷ []) cs)) (one_more earlier c h own new))
    where
      at : FailsAt s earlier c
      at = record { boot = boot; configured = fine; later = cs; place = place; before = h }

      go : (t : Bool) → sound c ≡ t → (u : Bool) → id_taken earlier c.id ≡ u
          → cond (not t) (Some invalid_capability) (cond u (Some duplicate_capability) (refused_record (earlier ++ (c ∷ [])) cs)) ≡ Some n
          → (SoundCapability c → id_taken earlier c.id ≡ false → refused_record (earlier ++ (c ∷ [])) cs ≡ Some n → StartFails s n) → StartFails s n
      go false p u q e rest =
          subst (StartFails s) (some-injective _ _ e) (Plain.unsound earlier c at (λ k. false≢true (sym p ∙ means-sound c k)))
      go true p true q e rest =
          subst (StartFails s) (some-injective _ _ e) (Plain.duplicate earlier c at (sound-means c p) (taken-mem earlier c.id q))
      go true p false q e rest = rest (sound-means c p) q e

pub start-fails : (s : Start) (n : ℕ) → refused_start s ≡ Some n → StartFails s n
unfolding refused_start
start-fails s n e = go (eqb s.boot_id 0) refl (bad s) refl e
  where
    go : (t : Bool) → eqb s.boot_id 0 ≡ t → (u : Bool) → bad s ≡ u
        → cond t (Some 101) (cond u (Some invalid_config) (refused_record [] s.capabilities)) ≡ Some n → StartFails s n
    go true p u q e = subst (StartFails s) (some-injective _ _ e) (Plain.boot (eqb-true _ _ p))
    go false p true q e = subst (StartFails s) (some-injective _ _ e) (Plain.configuration (eqb-false _ _ p) (misconfigured s q))
    go false p false q e =
        record-fails s (eqb-false _ _ p) (configured s q) [] s.capabilities n refl (record { each = λ c m. absurd m; ids = tt }) e

-- the check of the record at which a start fails
fails-at : (s : Start) (earlier : List Capability) (c : Capability) (k : FailsAt s earlier c) → refused_start s ≡ refused_record earlier (c ∷ k.later)
unfolding refused_start
fails-at s earlier c k =
    rw (ne_eqb _ _ k.boot, is-configured s k.configured)
    (ap (refused_record []) k.place ∙ skip [] earlier (c ∷ k.later) k.before)

pub fails-start : (s : Start) (n : ℕ) → StartFails s n → refused_start s ≡ Some n
unfolding refused_start refused_record
fails-start s n (Plain.boot e) = rw (eq-eqb _ _ e)
fails-start s n (Plain.configuration b m) = rw (ne_eqb _ _ b, is-misconfigured s m)
fails-start s n (Plain.unsound earlier c k u) = fails-at s earlier c k ∙ go (sound c) refl
  where
    go : (t : Bool) → sound c ≡ t
        → cond (not t) (Some 103) (cond (id_taken earlier c.id) (Some duplicate_capability) (refused_record (earlier ++ (c ∷ [])) k.later)) ≡ Some 103
    go true e = absurd (u (sound-means c e))
    go false e = refl
fails-start s n (Plain.duplicate earlier c k h m) = fails-at s earlier c k ∙ rw (means-sound c h, mem-taken earlier c.id m)
