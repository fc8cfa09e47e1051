-- Stores one after another, and what they come to. Assumes nothing.
use Prim.Native.Nat.{ℕ, ◌≤◌}
use mathlib.Core.List.{List}
use mathlib.Core.Path.{◌≡◌, refl, sym, ap, ◌∙◌, subst}
use lib.ListN.{length}
use Rattle.rules.specs.Protocol.{Reaction}
use Rattle.state.specs.declared.Answer.{Answer}
use Rattle.runtime.specs.declared.Runtime.{Runtime}
use Rattle.runtime.specs.Promises.{MovesIn}
use Rattle.layout.specs.Layout.{size, Long, runtime_in, Same, Becomes}
use Rattle.layout.specs.Promises.{Goes}

pub same-words : {w : List ℕ} → Same w w
same-words = record { first = refl; long = refl; listed = refl }

pub same_then : {a b c : List ℕ} → Same a b → Same b c → Same a c
same_then s t = record { first = t.first ∙ s.first; long = t.long ∙ s.long; listed = t.listed ∙ s.listed }

pub long_after : {w w' : List ℕ} → Long w → Same w w' → Long w'
long_after l s = subst (λ (n : ℕ). size ≤ n) (sym s.long) l

-- a store after others: `f` is what it does to the runtime before it
pub becomes-then : {a b c : List ℕ} {rt : Runtime} (f : Runtime → Runtime) → Becomes a b rt → Becomes b c (f (runtime_in b)) → Becomes a c (f rt)
becomes-then f p q = record { same = same_then p.same q.same; stored = q.stored ∙ ap f p.stored }

-- what is left is where the rules say
pub goes_by : {w w' : List ℕ} {rt : Runtime} {r : Answer} {x : Reaction} (given : Type 0) → Becomes w w' rt → (given → MovesIn rt r x) → Goes w w' r given x
goes_by {r = r} {x = x} given p m =
    record { same = p.same; moves = λ g. subst (λ (h : Runtime). MovesIn h r x) (sym p.stored) (m g) }
