-- What an output says where an invariant holds along every call: an item handed out meets `W`, an answer meets `D`. And of one tree: two
-- facts along it are one, and an end that replies reach meets `D`. Assumes nothing.
use Prim.Native.Nat.{ℕ}
use mathlib.Core.Bool.{Bool, true, false, cond}
use mathlib.Core.List.{List, [], ◌∷◌, ◌++◌, cons≢nil}
use mathlib.Core.Logic.{◌⊎◌, inl, inr}
use Rattle.std.specs.Prelude.{Option, Some, None}
use mathlib.Core.Path.{◌≡◌, refl}
use native.Mathlib.Omega.{arith}
use Rattle.model.specs.declared.Reason.TheVariants.{Startup}
use Rattle.rules.specs.Book.{Book}
use Rattle.rules.specs.Interaction.{Answer, Interaction, Done, Observe, Execute, Fallback, Record}
use Rattle.rules.specs.Rules.{used_axes}
use Rattle.rules.specs.Protocol.{Call, Reply, Input, Calls, Replies, Reads, Reading, Item, ItemFallback, Output, Started, StartRefused, Hands, Answers, Reminds, Refuses, Shows, NoRuntime, Start, Phase, book_in, begin, proceed, opening, refused_start, start_from, start_unless, start, start_replied, called, replied, shown, effect, apply, react}
use Rattle.rules.specs.Log.{History, phase_after, output_after, Event, Took, Replied, Handed, Ended, Log, handed, took_effect, arrived, logged, log_of}
use Rattle.rules.specs.Lists.{Mem}
use Rattle.rules.specs.Way.{Takes, observed, executed, fell_back, recorded, Runs, here, then}
use Rattle.rules.proofs.Steps.{Stands, at_observe, at_execute, at_fallback, at_record, Stays, Step, stays, tries, begins, answers, step}
use Rattle.rules.proofs.Safe.{Safe, Plain, SafePhase, always}

-- ---- one tree

-- both facts along one tree
module _ (W W' : Log → Book → Type 0) (D D' : Log → Book → Answer → Type 0) where
  pub safe-both : (l : Log) (t : Interaction) → Safe W D l t → Safe W' D' l t → Safe (λ m b. W m b × W' m b) (λ m b a. D m b a × D' m b a) l t
  safe-both l (Done b a) g h = (g, h)
  safe-both l (Observe axis b k) g h = ((g.0, h.0), λ o. safe-both _ (k o) (g.1 o) (h.1 o))
  safe-both l (Execute c p b k) g h = ((g.0, h.0), λ ok. safe-both _ (k ok) (g.1 ok) (h.1 ok))
  safe-both l (Fallback axis r b k) g h = ((g.0, h.0), λ ok. safe-both _ (k ok) (g.1 ok) (h.1 ok))
  safe-both l (Record r b k) g h = ((g.0, h.0), safe-both _ k g.1 h.1)

-- What an output brings: an item is a startup fallback or meets `W`, an answer meets `D`.
abbrev pub Brought : (Log → Book → Type 0) → (Log → Book → Answer → Type 0) → Output → Type 0
Brought W D Started = Unit
Brought W D (StartRefused n) = Unit
Brought W D (Hands item) = ((axis : ℕ) × (item ≡ ItemFallback axis Startup)) ⊎ ((l : Log) × (b : Book) × W (Handed item ∷ l) b)
Brought W D (Answers a) = (l : Log) × (b : Book) × D l b a
Brought W D (Reminds n item) = Unit
Brought W D (Refuses n) = Unit
Brought W D (Shows v) = Unit
Brought W D NoRuntime = Unit

module _ (W : Log → Book → Type 0) (D : Log → Book → Answer → Type 0) where
  -- a reply that a tree takes
  taken : {t u : Interaction} {r : Reply} {i : Item} (l : Log) → Takes t r i u → Safe W D l t → Safe W D (Replied r ∷ (Handed i ∷ l)) u
  taken l (observed {o = o}) h = h.1 o
  taken l (executed {ok = ok}) h = h.1 ok
  taken l (fell_back {ok = ok}) h = h.1 ok
  taken l recorded h = h.1

  -- the end that these replies reach meets `D`, with a log whose items are those handed out on the way
  pub safe-end : {t : Interaction} {rs : List Reply} {is : List Item} {b : Book} {a : Answer} (l : Log) → Runs t rs is (Done b a) → Safe W D l t
      → (m : Log) × (D m b a × ((i : Item) → Mem (Handed i) m → Mem (Handed i) l ⊎ Mem i is))
  safe-end l here h = (l, (h, λ i m. inl m))
  safe-end l (then {r = r} {i = j} {is = is} n w) h =
      let e = safe-end (Replied r ∷ (Handed j ∷ l)) w (taken l n h) in
      (e.0, (e.1.0, λ i m. sooner i (e.1.1 i m)))
    where
      apart : ◌≡◌ {A = ℕ} 0 1 → ⊥
      apart z = omega arith

      sooner : (i : Item) → Mem (Handed i) (Replied r ∷ (Handed j ∷ l)) ⊎ Mem i is → Mem (Handed i) l ⊎ Mem i (j ∷ is)
      sooner i (inl (inl e)) = absurd (apart (cc))
      sooner i (inl (inr (inl e))) = inr (inl (cc))
      sooner i (inl (inr (inr m))) = inl m
      sooner i (inr m) = inr (inr m)

  -- what a tree brings first
  brought : (l : Log) (t : Interaction) → Safe W D l t → Brought W D (proceed t).output
  unfolding proceed
  brought l (Done b a) h = (l, b, h)
  brought l (Observe axis b k) h = inr (l, b, h.0)
  brought l (Execute c p b k) h = inr (l, b, h.0)
  brought l (Fallback axis r b k) h = inr (l, b, h.0)
  brought l (Record r b k) h = inr (l, b, h.0)

  -- the start brings startup fallbacks
  brought-start : (s : Start) (axes : List ℕ) (good : Bool) → Brought W D (start_from s axes good).output
  unfolding start_from
  brought-start s (axis ∷ rest) good = inl (axis, refl)
  brought-start s [] true = tt
  brought-start s [] false = tt

  brought-reading : (q : Reading) (o : Option Book) → Brought W D (shown q o)
  unfolding shown
  brought-reading q None = tt
  brought-reading q (Some b) = tt

  -- an input that is not logged brings nothing
  silent : (x : Event) (o : Output) → handed o ++ (cond (took_effect o) (x ∷ []) [] ++ []) ≡ [] → Brought W D o
  unfolding handed took_effect
  silent x Started e = tt
  silent x (StartRefused n) e = tt
  silent x (Hands item) e = absurd (cons≢nil e)
  silent x (Answers a) e = absurd (cons≢nil e)
  silent x (Reminds n item) e = tt
  silent x (Refuses n) e = tt
  silent x (Shows v) e = tt
  silent x NoRuntime e = tt

  brought-stays : (p : Phase) (i : Input) → Stays p i → Brought W D (react p i).output
  unfolding react apply effect logged arrived
  brought-stays p (Calls c) st = silent (Took c) _ (st.log [])
  brought-stays p (Replies r) st = silent (Replied r) _ (st.log [])
  brought-stays p (Reads q) st = brought-reading q (book_in p)

-- ---- every history

module _ (s : Start) (I W : Log → Book → Type 0) (D : Log → Book → Answer → Type 0)
    (ends : (l : Log) (b : Book) (a : Answer) → D l b a → I (Ended a ∷ l) b)
    (opens : (l : Log) → Plain l → refused_start s ≡ None → I l (opening s))
    (calls : (l : Log) (c : Call) (b : Book) → I l b → Safe W D (Took c ∷ l) (begin c b)) where
  awaited : (l : Log) (p : Phase) (r : Reply) (x : Item) (t u : Interaction) → Stands t p → Takes t r x u → SafePhase s I W D l p → Safe W D (Replied r ∷ l) u
  awaited l p r x t u at_observe (observed {o = o}) h = h.1 o
  awaited l p r x t u at_execute (executed {ok = ok}) h = h.1 ok
  awaited l p r x t u at_fallback (fell_back {ok = ok}) h = h.1 ok
  awaited l p r x t u at_record recorded h = h.1

  brings-step : (l : Log) (p : Phase) (i : Input) → Step p i → SafePhase s I W D l p → Brought W D (react p i).output
  unfolding react apply effect called replied start_replied
  brings-step l p i (stays st) h = brought-stays W D p i st
  brings-step l p i (tries own axis rest good ok) h = brought-start W D own _ _
  brings-step l p i (begins b c) h = brought W D (Took c ∷ l) (begin c b) (calls l c b h)
  brings-step l p i (answers {r = r} t u a) h = rw a.reaction (brought W D (Replied r ∷ l) u (awaited l p r a.item t u a.stands a.takes h))

  -- what the newest output of a history brings
  pub brings : (h : History) → Brought W D (output_after s h)
  unfolding output_after start start_unless
  brings [] = go (refused_start s)
    where
      go : (r : Option ℕ) → Brought W D (start_unless r s).output
      go (Some n) = tt
      go None = brought-start W D s (used_axes s.capabilities) true
  brings (i ∷ past) = brings-step (log_of s past) (phase_after s past) i (step (phase_after s past) i) (always s I W D ends opens calls past)
