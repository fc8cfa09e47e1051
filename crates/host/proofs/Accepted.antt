-- The words of a request, a submission or a start within its fields' ranges are read as it, so that no promise of a slice is empty. Assumes nothing.
use Prim.Native.Nat.{ℕ, zero, suc, ◌+◌, ◌*◌, ◌/◌, ◌%◌}
use native.Mathlib.Omega.{arith}
use mathlib.Core.Bool.{Bool, true, false, false≢true, ◌&&◌}
use mathlib.Core.List.{List, [], ◌∷◌, ◌++◌}
use mathlib.Core.Path.{◌≡◌, refl, sym, ap, ap₂, ◌∙◌}
use borrow.Author.Tests.{eq-eqb}
use lib.Dec.{eqb}
use lib.ListN.{length, get_or, replicate}
use lib.Seq.{get_or-append-add}
use Rattle.std.specs.Prelude.{Option, Some, None, is_some}
use Rattle.model.specs.declared.Capability.{Capability}
use Rattle.model.specs.declared.Config.{Config}
use Rattle.model.specs.declared.LeaseRequest.{LeaseRequest}
use Rattle.model.specs.declared.Submission.{Submission}
use Rattle.rules.specs.Protocol.{Calls, Acquire, Submit, Start}
use Rattle.cells.specs.Cells.{part}
use Rattle.cells.proofs.Regions.{tab-ext}
use Rattle.format.specs.Decode.{Record, Lists, Starts, Feeds, Malformed, word, u32_at, config_of, capability_of, record_of, checked_kind, decode}
use Rattle.format.specs.Kinds.{kinds, lookup, kind_at}
use Rattle.format.specs.Encode.{capability_words, config_words}
use Rattle.format.specs.Inputs.{padded_to16, request_words, action_words, call_words, input_words, RangedCapability, Ranged}
use Rattle.format.specs.declared.RecordKind.{RecordKind}
use Rattle.format.specs.declared.RecordKind.TheVariants as Kind
use Rattle.format.proofs.Inputs.{capability-words-back, has-a-record}
use Rattle.decide_start.specs.Starts.{start_on}
use Rattle.host.specs.Host.{record_with, asked, capability_with, capabilities_in, are_read, are_asked, start_in}
use Rattle.host.specs.Accepted.{fields_of, list_words, AllRanged}
use Rattle.host.proofs.Lent.{known}

-- calls ------------------------------------------------------------------------------------------------------------------

pub accepted-acquire : (x : LeaseRequest) (time : ℕ) → Ranged (Feeds (Calls (Acquire x time)))
    → asked 21 9 (fields_of 9 (Feeds (Calls (Acquire x time)))) ≡ Feeds (Calls (Acquire x time))
unfolding asked part input_words call_words padded_to16 request_words
accepted-acquire x time p = has-a-record (Feeds (Calls (Acquire x time))) p

pub accepted-submit : (x : Submission) → Ranged (Feeds (Calls (Submit x)))
    → asked 24 15 (fields_of 15 (Feeds (Calls (Submit x)))) ≡ Feeds (Calls (Submit x))
unfolding asked part input_words call_words padded_to16 action_words
accepted-submit x p = has-a-record (Feeds (Calls (Submit x))) p

-- records that are read --------------------------------------------------------------------------------------------------

abbrev is_read : Record → Bool
is_read (Lists c) = true
is_read (Starts config boot_id now flags) = true
is_read (Feeds i) = true
is_read Malformed = false

read_known : (ws : List ℕ) {r : Record} → decode ws ≡ r → is_read r ≡ true → is_some (checked_kind ws) ≡ true
unfolding decode record_of
read_known ws e y = by_kind (checked_kind ws) (ap is_read e ∙ y)
  where
    by_kind : (k : Option RecordKind) → is_read (record_of k ws) ≡ true → is_some k ≡ true
    by_kind (Some k) h = refl
    by_kind None h = h

-- a start's own words ----------------------------------------------------------------------------------------------------

module _ (config : Config) (boot time flags : ℕ) (p : Ranged (Starts config boot time flags)) where
  abbrev start-words : List ℕ
  start-words = record_with 2 (fields_of 9 (Starts config boot time flags)) 0 9

  start-decoded : decode start-words ≡ Starts config boot time flags
  unfolding part input_words padded_to16 config_words
  start-decoded = has-a-record (Starts config boot time flags) p

  start-known : is_some (checked_kind start-words) ≡ true
  start-known = read_known start-words start-decoded refl

  abbrev start_or : Start → List Capability → Record → Start
  start_or d l (Lists c) = d
  start_or d l (Starts c b t f) = start_on c l b t f
  start_or d l (Feeds i) = d
  start_or d l Malformed = d

  start_is : record_of (Some Kind.Start) start-words ≡ Starts config boot time flags
  unfolding decode kind_at lookup kinds
  start_is = ap (λ (k : Option RecordKind). record_of k start-words) (sym (known start-words start-known)) ∙ start-decoded

  start_back : (l : List Capability)
      → start_on (config_of start-words) l (word start-words 1) (word start-words 2) (u32_at start-words 3) ≡ start_on config l boot time flags
  unfolding record_of
  start_back l = ap (start_or (start_on config l boot time flags) l) start_is

-- capabilities -----------------------------------------------------------------------------------------------------------

module _ (c : Capability) (p : RangedCapability c) (f : List ℕ) where
  abbrev more : List ℕ
  more = fields_of 13 (Lists c) ++ f

  -- the first of them
  first_back : capability_of (capability_with more 0) ≡ c
  unfolding part input_words padded_to16 capability_words
  first_back = capability-words-back 1 (0 ∷ 0 ∷ []) c p

  first-known : is_some (checked_kind (capability_with more 0)) ≡ true
  unfolding part input_words padded_to16 capability_words
  first-known = read_known _ (has-a-record (Lists c) p) refl

  -- .. and those after it
  thirteen : length (fields_of 13 (Lists c)) ≡ 13
  unfolding input_words padded_to16 capability_words
  thirteen = refl

  past : (i j : ℕ) → get_or more (13 * suc i + j) 0 ≡ get_or f (13 * i + j) 0
  past i j =
      let e : 13 * suc i + j ≡ length (fields_of 13 (Lists c)) + (13 * i + j) = omega (arith, thirteen) in
      ap (λ (n : ℕ). get_or more n 0) e ∙ get_or-append-add (fields_of 13 (Lists c)) f (13 * i + j) 0

  next : (i : ℕ) → capability_with more (suc i) ≡ capability_with f i
  unfolding part
  next i = ap (λ (ws : List ℕ). 1 ∷ (ws ++ replicate 2 0)) (tab-ext _ _ 13 (λ j h. past i j))

  capabilities-more : (n : ℕ) → capabilities_in more (suc n) ≡ c ∷ capabilities_in f n
  unfolding capabilities_in
  capabilities-more zero = ap (λ (x : Capability). x ∷ []) first_back
  capabilities-more (suc n) =
      ap₂ (λ (l : List Capability) (ws : List ℕ). l ++ (capability_of ws ∷ [])) (capabilities-more n) (next n)

  read_more : (n : ℕ) → are_read f n ≡ true → are_read more (suc n) ≡ true
  unfolding are_read
  read_more zero e = first-known
  read_more (suc n) e =
      rw (read_more n (left (are_read f n) _ e), next n) (right (are_read f n) _ e)
    where
      left : (a b : Bool) → (a && b) ≡ true → a ≡ true
      left true b e = refl
      left false b e = e

      right : (a b : Bool) → (a && b) ≡ true → b ≡ true
      right true b e = e
      right false b e = absurd (false≢true e)

length_more : (c : Capability) (f : List ℕ) → length (fields_of 13 (Lists c) ++ f) ≡ 13 + length f
unfolding input_words padded_to16 capability_words
length_more c f = omega arith

length-list : (l : List Capability) → length (list_words l) ≡ 13 * length l
length-list [] = refl
length-list (c ∷ l) = let e = length-list l in length_more c (list_words l) ∙ omega (arith, e)

capabilities-back : (l : List Capability) → AllRanged l → capabilities_in (list_words l) (length l) ≡ l
unfolding capabilities_in
capabilities-back [] p = refl
capabilities-back (c ∷ l) p = capabilities-more c p.0 (list_words l) (length l) ∙ ap (λ (r : List Capability). c ∷ r) (capabilities-back l p.1)

capabilities-read : (l : List Capability) → AllRanged l → are_read (list_words l) (length l) ≡ true
unfolding are_read
capabilities-read [] p = refl
capabilities-read (c ∷ l) p = read_more c p.0 (list_words l) (length l) (capabilities-read l p.1)

-- a start ----------------------------------------------------------------------------------------------------------------

count : (l : List Capability) → length (list_words l) / 13 ≡ length l
count l = let e = length-list l in omega (arith, e)

whole : (l : List Capability) → length (list_words l) % 13 ≡ 0
whole l = let e = length-list l in omega (arith, e)

module _ (config : Config) (boot time flags : ℕ) (l : List Capability) where
  nine : eqb (length (fields_of 9 (Starts config boot time flags))) 9 ≡ true
  unfolding input_words padded_to16 config_words
  nine = refl

  pub accepted-start : Ranged (Starts config boot time flags) → AllRanged l → are_asked (fields_of 9 (Starts config boot time flags)) (list_words l) ≡ true
  unfolding are_asked
  accepted-start p q =
      rw (nine, start-known config boot time flags p, eq-eqb (length (list_words l) % 13) 0 (whole l), count l) (capabilities-read l q)

  pub accepted-start-is : Ranged (Starts config boot time flags) → AllRanged l
      → start_in (fields_of 9 (Starts config boot time flags)) (list_words l) ≡ record { config = config; capabilities = l; boot_id = boot; now = time; flags = flags }
  unfolding start_in
  accepted-start-is p q =
      start_back config boot time flags p _
      ∙ ap (λ (r : List Capability). start_on config r boot time flags) (ap (capabilities_in (list_words l)) (count l) ∙ capabilities-back l q)
