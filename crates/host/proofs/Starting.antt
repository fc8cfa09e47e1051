-- A start from slices of words: the capabilities that they are, listed one by one, and the runtime that is made. Assumes nothing.
use Prim.Native.Nat.{ℕ, zero, suc, ◌+◌, ◌/◌, ◌%◌, ◌≤◌, ◌<◌}
use mathlib.Core.Bool.{Bool, true, false, false≢true, ◌&&◌, and-false}
use mathlib.Core.List.{List}
use mathlib.Core.Logic.{⊎_elim}
use mathlib.Core.Path.{◌≡◌, refl, sym, ap, ◌∙◌, subst}
use native.Mathlib.Nat.{eq-or-lt_of_le, le_antisymm}
use native.Mathlib.Numerals.{add-one}
use native.Mathlib.Omega.{arith}
use borrow.Author.Tests.{eq-eqb, ne_eqb, eqb-true}
use lib.Dec.{eqb}
use lib.ListN.{length, get_or, set, length-set}
use lib.Seq.{get_or-set_same}
use Rattle.std.specs.Prelude.{is_some}
use Rattle.model.specs.declared.Capability.{Capability}
use Rattle.model.specs.declared.Config.{Config}
use Rattle.rules.specs.Protocol.{Start, start as start_rule}
use Rattle.state.specs.declared.Answer.{Answer}
use Rattle.format.specs.Decode.{word, u32_at, config_of, capability_of, checked_kind}
use Rattle.decide_start.specs.Starts.{Listing, start_on}
use Rattle.decide_start.specs.declared.Stage.{Stage}
use Rattle.runtime.specs.Stages.{phase_at_stage}
use Rattle.layout.specs.Layout.{runtime_in, listing_in}
use Rattle.host_start.specs.Starts.{ListsOne, Unlists, Clears, Makes}
use Rattle.host_start.proofs.Zeros.{blank, sound-blank}
use Rattle.host.specs.Host.{version, number_of, record_with, capability_with, capabilities_in, are_read, are_asked, start_in, ListsAll, Begins, Wiped, Wipes}

-- the first word stored --------------------------------------------------------------------------------------------------

module _ (w : List ℕ) (enough : length w ≡ 2464) where
  first-stored : get_or (set w 0 version) 0 0 ≡ version
  first-stored = get_or-set_same w 0 version 0 (omega (arith, enough))

  pub enough-set : 2464 ≤ length (set w 0 version)
  enough-set = let n = length-set w 0 version in omega (arith, enough, n)

  -- .. and as many words kept
  pub as_many : {n : ℕ} → n ≡ length (set w 0 version) → n ≡ length w
  as_many e = e ∙ length-set w 0 version

  pub enough-then : {n : ℕ} → n ≡ length (set w 0 version) → 2464 ≤ n
  enough-then e = let n = as_many e in omega (arith, enough, n)

-- no runtime -------------------------------------------------------------------------------------------------------------

pub is-wiped : (w : List ℕ) {w₁ w₂ : List ℕ} → length w ≡ 2464 → Clears (set w 0 version) w₁ → Unlists w₁ w₂ → Wiped w w₂
unfolding phase_at_stage
is-wiped w {w₁} {w₂} enough c u =
    let b = blank w₁ c.zero in
    let e = u.runtime in
    record {
      first = u.first ∙ (c.first ∙ first-stored w enough);
      long = as_many w enough (u.long ∙ c.long);
      sound = rw e (sound-blank b);
      phase = rw e (ap (λ (s : Stage). phase_at_stage s (runtime_in w₁)) b.stage);
      listed = u.listed;
    }

pub wipes-short : {w w' : List ℕ} {r : ℕ} → (length w ≡ 2464 → ⊥) → r ≡ 65 → w' ≡ w → Wipes w w' r
wipes-short h e s = record { refused = λ _. (e, s); wiped = λ k. absurd (h k) }

pub wipes : {w w' : List ℕ} {r : ℕ} → length w ≡ 2464 → r ≡ 0 → Wiped w w' → Wipes w w' r
wipes h e s = record { refused = λ ne. absurd (ne h); wiped = λ _. (e, s) }

-- the capabilities -------------------------------------------------------------------------------------------------------

pub all-read-none : (f : List ℕ) → are_read f 0 ≡ true
unfolding are_read
all-read-none f = refl

pub all-read-more : (f : List ℕ) (i : ℕ) → are_read f i ≡ true → is_some (checked_kind (capability_with f i)) ≡ true → are_read f (i + 1) ≡ true
unfolding are_read
all-read-more f i e k = rw (add-one i, e, k)

-- once one is not read, all are not
pub not-all-read : (f : List ℕ) (n i : ℕ) → i < n → is_some (checked_kind (capability_with f i)) ≡ false → are_read f n ≡ false
unfolding are_read
not-all-read f zero i h k = absurd (omega (arith, h))
not-all-read f (suc n) i h k =
    ⊎_elim (λ e. last n i e k) (λ l. rw (not-all-read f n i l k)) (eq-or-lt_of_le (below i n h))
  where
    last : (n i : ℕ) → i ≡ n → is_some (checked_kind (capability_with f i)) ≡ false → are_read f (suc n) ≡ false
    last n i e k = rw (subst (λ (j : ℕ). is_some (checked_kind (capability_with f j)) ≡ false) e k) (and-false (are_read f n))

    below : (i n : ℕ) → i < suc n → i ≤ n
    below i n h = omega arith

-- what a test of a copy of the words says
pub read_as : {ws words : List ℕ} {b v : Bool} → words ≡ ws → b ≡ is_some (checked_kind words) → b ≡ v → is_some (checked_kind ws) ≡ v
read_as is k e = sym (k ∙ ap (λ (l : List ℕ). is_some (checked_kind l)) is) ∙ e

pub all-read-end : (f : List ℕ) (n i : ℕ) → i ≤ n → n ≤ i → are_read f i ≡ true → are_read f n ≡ true
all-read-end f n i h k e = subst (λ (m : ℕ). are_read f m ≡ true) (le_antisymm h k) e

pub lists-end : {w w₁ f : List ℕ} {i n : ℕ} → i ≤ n → n ≤ i → ListsAll w w₁ f i → ListsAll w w₁ f n
lists-end {w} {w₁} {f} h k a = subst (ListsAll w w₁ f) (le_antisymm h k) a

pub lists-one : {w w₁ words : List ℕ} (f : List ℕ) (i : ℕ) {c : Capability} → words ≡ capability_with f i → c ≡ capability_of words → ListsOne c w w₁ → ListsOne (capability_of (capability_with f i)) w w₁
lists-one {w} {w₁} f i is e o = subst (λ (x : Capability). ListsOne x w w₁) (e ∙ ap capability_of is) o

pub lists-none : (w f : List ℕ) → ListsAll w w f 0
unfolding capabilities_in
lists-none w f = record { first = refl; long = refl; listed = λ l. l }

pub lists-more : {w w₁ w₂ f : List ℕ} (i : ℕ) → ListsAll w w₁ f i → ListsOne (capability_of (capability_with f i)) w₁ w₂ → ListsAll w w₂ f (i + 1)
unfolding capabilities_in
lists-more {w} {w₁} {w₂} {f} i a o =
    record {
      first = o.first ∙ a.first;
      long = o.long ∙ a.long;
      listed = λ l. rw (add-one i) (o.listed (capabilities_in f i) (a.listed l));
    }

-- a start ----------------------------------------------------------------------------------------------------------------

pub begins-short : {w w' s f : List ℕ} {r : ℕ} → (length w ≡ 2464 → ⊥) → r ≡ 65 → w' ≡ w → Begins w w' r s f
begins-short h e q = record { refused = λ _. (e, q); unread = λ k. absurd (h k); made = λ k. absurd (h k) }

pub begins-unread : {w w' s f : List ℕ} {r : ℕ} → length w ≡ 2464 → are_asked s f ≡ false → r ≡ 64 → w' ≡ w → Begins w w' r s f
begins-unread h n e q =
    record { refused = λ ne. absurd (ne h); unread = λ _ _. (e, q); made = λ _ y. absurd (false≢true (sym n ∙ y)) }

-- what the start's words are
abbrev start_at : List ℕ → List Capability → Start
start_at ws l = start_on (config_of ws) l (word ws 1) (word ws 2) (u32_at ws 3)

begins : {w w₁ w₂ w' : List ℕ} (s f : List ℕ) {a : Answer} {r : ℕ} → length w ≡ 2464 → are_asked s f ≡ true → Unlists (set w 0 version) w₁ → ListsAll w₁ w₂ f (length f / 13)
    → ((l : List Capability) → Listing (listing_in w₂) l → Makes w₂ w' a (start_rule (start_at (record_with 2 s 0 9) l))) → r ≡ number_of a → Begins w w' r s f
unfolding start_in
begins {w} {w' = w'} s f {a = a} h y u all n e =
    record {
      refused = λ ne. absurd (ne h);
      unread = λ _ z. absurd (false≢true (sym z ∙ y));
      made = λ _ _. let m = n (capabilities_in f (length f / 13)) (all.listed u.listed) in record {
        answer = a;
        number = e;
        first = m.first ∙ (all.first ∙ (u.first ∙ first-stored w h));
        long = as_many w h (m.long ∙ (all.long ∙ u.long));
        moves = m.moves;
        listed = m.listed;
      };
    }

pub begins-with : {w w₁ w₂ w' words : List ℕ} (s f : List ℕ) {config : Config} {flags : ℕ} {a : Answer} {r : ℕ} → length w ≡ 2464 → are_asked s f ≡ true → words ≡ record_with 2 s 0 9
    → Unlists (set w 0 version) w₁ → ListsAll w₁ w₂ f (length f / 13) → config ≡ config_of words → flags ≡ word words 3 % 4294967296
    → ((l : List Capability) → Listing (listing_in w₂) l → Makes w₂ w' a (start_rule (start_on config l (word words 1) (word words 2) flags))) → r ≡ number_of a → Begins w w' r s f
begins-with {w₂ = w₂} {w' = w'} {words} s f {flags = flags} {a = a} h y is u all c k n e =
    begins s f h y u all
    (λ l g.
    subst (λ (ws : List ℕ). Makes w₂ w' a (start_rule (start_at ws l))) is
    (subst (λ (x : ℕ). Makes w₂ w' a (start_rule (start_on (config_of words) l (word words 1) (word words 2) x))) k
    (subst (λ (x : Config). Makes w₂ w' a (start_rule (start_on x l (word words 1) (word words 2) flags))) c (n l g)))) e

-- whether the slices are a start's ------------------------------------------------------------------------------------------

pub unasked-length : (s f : List ℕ) → (length s ≡ 9 → ⊥) → false ≡ are_asked s f
unfolding are_asked
unasked-length s f n = rw (ne_eqb (length s) 9 n)

pub unasked-start : (s f : List ℕ) {words : List ℕ} {b : Bool} → words ≡ record_with 2 s 0 9 → b ≡ is_some (checked_kind words) → b ≡ false → false ≡ are_asked s f
unfolding are_asked
unasked-start s f is k e = rw (read_as is k e, and-false (eqb (length s) 9))

pub unasked-rest : (s f : List ℕ) → (length f % 13 ≡ 0 → ⊥) → false ≡ are_asked s f
unfolding are_asked
unasked-rest s f n = rw (ne_eqb (length f % 13) 0 n, and-false (eqb (length s) 9 && is_some (checked_kind (record_with 2 s 0 9))))

pub asked-all : (s f : List ℕ) {words : List ℕ} {b v : Bool} → length s ≡ 9 → words ≡ record_with 2 s 0 9 → b ≡ is_some (checked_kind words) → b ≡ true
    → length f % 13 ≡ 0 → v ≡ are_read f (length f / 13) → v ≡ are_asked s f
unfolding are_asked
asked-all s f l is k e n r = rw (eq-eqb (length s) 9 l, read_as is k e, eq-eqb (length f % 13) 0 n) r

nine : (a b c d : Bool) → (a && b && c && d) ≡ true → a ≡ true
nine true b c d e = refl
nine false b c d e = e

pub nine_words : (s f : List ℕ) → are_asked s f ≡ true → length s ≡ 9
unfolding are_asked
nine_words s f e = eqb-true (length s) 9 (nine (eqb (length s) 9) _ _ _ e)
