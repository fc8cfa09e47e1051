-- What a host is told over a lent runtime is what the rules say: read by itself, the item that `item` shows is the one whose reply the log awaits; and
-- an answer, with what the function of it told, is the rules' output. Assumes nothing.
use Prim.Native.Nat.{ℕ}
use mathlib.Core.Bool.{false, false≢true}
use mathlib.Core.List.{List, ◌∷◌, reverse}
use mathlib.Core.Logic.{◌≢◌}
use Rattle.std.specs.Prelude.{Option, Some, None}
use mathlib.Core.Path.{◌≡◌, refl, sym, ap, ◌∙◌}
use lib.Dec.{eqb}
use lib.IntN.{ℤ}
use borrow.Author.Tests.{eq-eqb}
use Rattle.model.specs.declared.Reason.{Reason}
use Rattle.model.specs.declared.Receipt.{Receipt}
use Rattle.rules.specs.Protocol.{Item, ItemObserve, ItemExecute, ItemFallback, ItemRecord, Input, Output, Hands, Start, Reaction, react, awaited_in}
use Rattle.rules.specs.Log.{History, phase_after, output_after, handed, logged, log_of}
use Rattle.rules.specs.Turns.{awaited}
use Rattle.rules.proofs.Turns.{stands}
use Rattle.state.specs.declared.Answer.{Answer}
use Rattle.state.specs.State.{output_of}
use Rattle.decide_read.specs.Shown.{shown_item}
use Rattle.decide_read.specs.declared.ItemKind.{ItemKind}
use Rattle.decide_read.specs.declared.ItemKind.TheVariants as ItemKind
use Rattle.decide_read.specs.declared.ItemShown.{ItemShown}
use Rattle.runtime.specs.declared.Runtime.{Runtime}
use Rattle.runtime.specs.Stages.{phase_in, RuntimeSound}
use Rattle.lives.specs.Lent.{output_in, LentStep, LentLife, lent_log}
use Rattle.lives.specs.Told.{ItemTold, said_by, item_says, RestBlank, Told, item, lease, receipt, refusal}
use Rattle.lives.proofs.Lent.{step, end-by-the-history, sound-at-the-end, item-by-the-log}

-- the awaited item -----------------------------------------------------------------------------------------------------

-- what is shown of an item gives it back
pub shown-says : (x : Option Item) → item_says (shown_item x) ≡ x
unfolding shown_item
shown-says None = refl
shown-says (Some (ItemObserve axis)) = refl
shown-says (Some (ItemExecute c ps)) = refl
shown-says (Some (ItemFallback axis reason)) = refl
shown-says (Some (ItemRecord r)) = refl

pub rest-blank : (x : Option Item) → RestBlank (shown_item x)
unfolding shown_item
rest-blank None =
    record { axis = λ o f. refl; reason = λ f. refl; capability = λ e. refl; parameters = λ e. refl; receipt = λ r. refl }
rest-blank (Some (ItemObserve axis)) =
    record { axis = λ o f. absurd (o refl); reason = λ f. refl; capability = λ e. refl; parameters = λ e. refl; receipt = λ r. refl }
rest-blank (Some (ItemExecute c ps)) =
    record { axis = λ o f. refl; reason = λ f. refl; capability = λ e. absurd (e refl); parameters = λ e. absurd (e refl); receipt = λ r. refl }
rest-blank (Some (ItemFallback axis reason)) =
    record { axis = λ o f. absurd (f refl); reason = λ f. absurd (f refl); capability = λ e. refl; parameters = λ e. refl; receipt = λ r. refl }
rest-blank (Some (ItemRecord r)) =
    record { axis = λ o f. refl; reason = λ f. refl; capability = λ e. refl; parameters = λ e. refl; receipt = λ r. absurd (r refl) }

-- .. and nothing else can be shown: the item and the blanks are all of it
abbrev tag : ItemKind → ℕ
tag ItemKind.Nothing = 0
tag ItemKind.Observe = 1
tag ItemKind.Execute = 2
tag ItemKind.Fallback = 3
tag ItemKind.Record = 4

differ : {j k : ItemKind} → eqb (tag j) (tag k) ≡ false → j ≢ k
differ n e = false≢true (sym n ∙ eq-eqb _ _ (ap tag e))

all_of : (k : ItemKind) (a : ℕ) (why : Reason) (c : ℕ) (ps : List ℤ) (m : Receipt)
    → RestBlank (record { kind = k; axis = a; reason = why; capability = c; parameters = ps; receipt = m })
    → ◌≡◌ {A = ItemShown} (record { kind = k; axis = a; reason = why; capability = c; parameters = ps; receipt = m })
    (shown_item (said_by k (record { kind = k; axis = a; reason = why; capability = c; parameters = ps; receipt = m })))
unfolding shown_item
all_of ItemKind.Nothing a why c ps m b =
    rw (b.axis (differ refl) (differ refl), b.reason (differ refl), b.capability (differ refl), b.parameters (differ refl), b.receipt (differ refl))
all_of ItemKind.Observe a why c ps m b =
    rw (b.reason (differ refl), b.capability (differ refl), b.parameters (differ refl), b.receipt (differ refl))
all_of ItemKind.Execute a why c ps m b =
    rw (b.axis (differ refl) (differ refl), b.reason (differ refl), b.receipt (differ refl))
all_of ItemKind.Fallback a why c ps m b =
    rw (b.capability (differ refl), b.parameters (differ refl), b.receipt (differ refl))
all_of ItemKind.Record a why c ps m b =
    rw (b.axis (differ refl) (differ refl), b.reason (differ refl), b.capability (differ refl), b.parameters (differ refl))

pub all_shown : (r : ItemShown) → RestBlank r → r ≡ shown_item (item_says r)
all_shown r b = all_of r.kind r.axis r.reason r.capability r.parameters r.receipt b

-- whatever came before: what `item` shows says the item whose reply is awaited, by the log, or that none is; the rest of it is blank
pub item-told : (c : LentLife) (r : ItemShown) → (RuntimeSound c.last → ItemTold c.last r) → (item_says r ≡ awaited (lent_log c)) × RestBlank r
item-told c r p =
    let e = p (sound-at-the-end c) in
    (ap item_says e ∙ (shown-says _ ∙ item-by-the-log c), rw e (rest-blank _))

-- what an answer speaks of ---------------------------------------------------------------------------------------------

-- what is handed out is awaited from then on
awaited-now : (s : Start) (h : History) (i : Input) (x : Item) → output_after s (i ∷ h) ≡ Hands x → awaited_in (phase_after s (i ∷ h)) ≡ Some x
unfolding output_after log_of logged handed awaited
awaited-now s h i x e = sym (stands s (i ∷ h)) ∙ ap (λ out. awaited (logged i out (log_of s h))) e

told : {rt : Runtime} {answer : Answer} {out : Output} → RuntimeSound rt
    → ((x : Item) → output_in answer rt ≡ Hands x → awaited_in (phase_in rt) ≡ Some x) → Told rt answer out → output_in answer rt ≡ out
unfolding output_of
told h now (item r x p e) = cc (ap item_says (p h) ∙ shown-says _, now _ refl)
told h now (lease r p) = p h
told h now (receipt r p) = p h
told h now (refusal r p) = p

-- of every life and one step more: what is told of its answer is its own output, and that of the rules
pub answer-told : (c : LentLife) {next : Runtime} {i : Input} {answer : Answer} {out : Output}
    → LentStep c.last i (output_in answer next) next → Told next answer out
    → (output_in answer next ≡ out) × (output_after c.start (i ∷ reverse c.inputs) ≡ out)
unfolding output_after phase_after
answer-told c {i = i} one t =
    let m = step (sound-at-the-end c) one in
    let x = ap (λ p. react p i) (end-by-the-history c) in
    let out = m.output ∙ ap (λ (x : Reaction). x.output) x in
    let end = m.phase ∙ ap (λ (x : Reaction). x.phase) x in
    let e = told m.fit (λ x hands. ap awaited_in end ∙ awaited-now c.start (reverse c.inputs) i x (sym out ∙ hands)) t in
    (e, sym out ∙ e)
