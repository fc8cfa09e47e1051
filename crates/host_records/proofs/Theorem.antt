-- Demand 3 of records, and of a host that steps by them. Assumes nothing.
use Prim.Native.Nat.{ℕ}
use mathlib.Core.Bool.{true, false≢true}
use mathlib.Core.List.{List, [], ◌∷◌, ◌++◌, map}
use mathlib.Core.Path.{◌≡◌, refl, ap, ap₂, ◌∙◌}
use borrow.Author.Tests.{not-true}
use Rattle.rules.specs.Log.{took_effect}
use Rattle.rules.specs.Protocol.{Output, Start, Phase, start, react}
use Rattle.rules.specs.Lives.{outputs, outputs_from}
use Rattle.rules.proofs.Theorem.{demands}
use Rattle.format.specs.Decode.{Record, Lists, Starts, Feeds, Malformed}
use Rattle.runtime.specs.Stages.{RuntimeSound}
use Rattle.layout.specs.Layout.{runtime_in}
use Rattle.host_records.specs.Records.{Standing, opening, told, step, answers_from, standing_after}
use Rattle.host_records.specs.Standings.{Stands, Goes}
use Rattle.host_records.specs.Claim.{inputs_of, lives_from, lives_in, outputs_in, joined, RecordsClaim, begun_by, lives_after, StartedClaim, Stepping, here, then, leaves, Whole, SteppedTo}

-- the answers are the outputs of the life in hand, then those of the lives to come
answered : (s : Standing) (rs : List Record)
    → outputs_in (answers_from s rs) ≡ outputs_from s.phase (inputs_of rs) ++ joined (map outputs (lives_from s.listed rs))
unfolding outputs_in answers_from outputs_from inputs_of lives_from joined outputs step told
answered s [] = refl
answered s (Lists c ∷ rs) = answered (step s (Lists c)).standing rs
answered s (Starts config boot_id now flags ∷ rs) =
    ap
    (λ (l : List Output). (start (record { config = config; capabilities = s.listed; boot_id = boot_id; now = now; flags = flags })).output ∷ l)
    (answered (step s (Starts config boot_id now flags)).standing rs)
answered s (Feeds i ∷ rs) = ap (λ (l : List Output). (react s.phase i).output ∷ l) (answered (step s (Feeds i)).standing rs)
answered s (Malformed ∷ rs) = answered s rs

-- 00, demand 3: of all lives that records can be
pub demand-3-of-records : (rs : List Record) → RecordsClaim rs
unfolding opening
demand-3-of-records rs = record { same = answered opening rs; demands = demands (lives_in rs) }

pub demand-3-after-a-start : (x : Start) (rs : List Record) → StartedClaim x rs
unfolding joined outputs
demand-3-after-a-start x rs =
    record { same = ap (λ (l : List Output). (start x).output ∷ l) (answered (begun_by x) rs); demands = demands (lives_after x rs) }

-- .. and a host that steps is told their answers
pub stepped-to : {w last : List ℕ} {rs : List Record} {outs : List (List ℕ)} (s : Standing) → RuntimeSound (runtime_in w) → Stands w s → Stepping w rs outs last
    → SteppedTo s rs outs last
unfolding answers_from standing_after
stepped-to s sound stands here = record { told = refl; stands = stands; sound = sound }
stepped-to s sound stands (then {r = r} one more) =
    let a = one.answers sound s stands in
    let k = stepped-to (step s r).standing a.sound a.stands more in
    record { told = ap₂ (λ (x : List ℕ) (y : List (List ℕ)). x ∷ y) a.words k.told; stands = k.stands; sound = k.sound }

left : {w w' words : List ℕ} {r : Record} (s : Standing) → RuntimeSound (runtime_in w) → Stands w s → Goes w w' words r → leaves s r ≡ true → w' ≡ w
left {r = Lists c} s h t g e = absurd (false≢true e)
left {r = Starts config boot_id now flags} s h t g e = absurd (false≢true e)
left {r = Feeds i} s h t g e =
    g.left h i refl (ap (λ (p : Phase). took_effect (react p i).output) t.phase ∙ not-true (took_effect (react s.phase i).output) e)
left {r = Malformed} s h t g e = (g.unread refl).1

pub turned-away-leaves-every-word : {w last : List ℕ} {rs : List Record} {outs : List (List ℕ)} (s : Standing) → RuntimeSound (runtime_in w) → Stands w s → (run : Stepping w rs outs last)
    → Whole s run
unfolding Whole
turned-away-leaves-every-word s h t here = tt
turned-away-leaves-every-word s h t (then {r = r} one more) =
    let a = one.answers h s t in
    (left s h t one, turned-away-leaves-every-word (step s r).standing a.sound a.stands more)
