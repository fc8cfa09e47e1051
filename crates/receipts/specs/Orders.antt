-- Admission order as two lists of slot numbers, rejections and others, that kind bits merge. Over any capacity.
use Rattle.std.specs.Prelude.{ℕ, zero, suc, ◌+◌, ◌-◌, ◌/◌, ◌%◌, ◌^◌, ◌<◌, ◌≤◌, ◌≡◌, Bool, true, false, cond, List, [], ◌∷◌, ◌++◌, length, get_or, ltb, eqb}

abbrev pub All : {A : Type 0} → (A → Type 0) → List A → Type 0
All P [] = Unit {0}
All P (x ∷ xs) = P x × All P xs

-- circles ------------------------------------------------------------------------------------------------------------

-- a place in a circle of n, from one below 2 n
abbrev pub wrapped : ℕ → ℕ → ℕ
wrapped n i = cond (ltb i n) i (i - n)

-- a number of elements of a circle of n places, from a place on
unfoldable pub around : List ℕ → ℕ → ℕ → ℕ → List ℕ
around store n head zero = []
around store n head (suc count) = get_or store head 0 ∷ around store n (wrapped n (head + 1)) count

-- kinds --------------------------------------------------------------------------------------------------------------

abbrev pub odd : ℕ → Bool
odd x = eqb (x % 2) 1

-- the lowest bits of a number, the lowest last
unfoldable pub kinds_of : ℕ → ℕ → List Bool
kinds_of zero x = []
kinds_of (suc c) x = kinds_of c (x / 2) ++ (odd x ∷ [])

abbrev pub trues : List Bool → ℕ
trues [] = 0
trues (true ∷ bs) = suc (trues bs)
trues (false ∷ bs) = trues bs

-- t is the highest bit of x that is set
pub record Top (x t : ℕ) : Type 0 where
  pub place : ℕ
  pub power : t ≡ 2 ^ place
  pub low : 2 ^ place ≤ x
  pub high : x < 2 ^ suc place

-- order --------------------------------------------------------------------------------------------------------------

-- two lists in one: a true takes the next of the first, a false the next of the second
abbrev pub merge : List Bool → List ℕ → List ℕ → List ℕ
merge [] rs os = []
merge (true ∷ bs) [] os = merge bs [] os
merge (true ∷ bs) (r ∷ rs) os = r ∷ merge bs rs os
merge (false ∷ bs) rs [] = merge bs rs []
merge (false ∷ bs) rs (o ∷ os) = o ∷ merge bs rs os

-- the slot numbers in admission order, by the kinds, the rejections and the others
unfoldable pub order : ℕ → List ℕ → List ℕ → List ℕ
order kinds rs os = merge (kinds_of (length rs + length os) kinds) rs os

abbrev pub one : Bool → ℕ
one b = cond b 1 0

-- how often a number stands in a list
abbrev pub times : ℕ → List ℕ → ℕ
times s [] = 0
times s (x ∷ xs) = one (eqb s x) + times s xs

-- the kinds tell some rejections from some others
pub record Counted (kinds rejections others : ℕ) : Type 0 where
  pub small : kinds < 2 ^ (rejections + others)
  pub told : trues (kinds_of (rejections + others) kinds) ≡ rejections

-- of n slots those below the count are in use, each once
pub record Ordered (n kinds : ℕ) (rs os : List ℕ) : Type 0 where
  pub within : length rs + length os ≤ n
  pub counted : Counted kinds (length rs) (length os)
  pub once : (s : ℕ) → times s rs + times s os ≡ one (ltb s (length rs + length os))

-- the same with room for one more: with a slot that is not in use, those below the count and one
pub record Roomy (n kinds : ℕ) (rs os : List ℕ) (slot : ℕ) : Type 0 where
  pub within : length rs + length os < n
  pub counted : Counted kinds (length rs) (length os)
  pub once : (s : ℕ) → times s rs + times s os + times s (slot ∷ []) ≡ one (ltb s (suc (length rs + length os)))
