-- There is a runtime exactly if 01's checks of the start pass and the startup fallback succeeded on every used axis: the parts
-- `startup-first` and `there-is-a-runtime` of the claim. Assumes nothing.
use Prim.Native.Nat.{ℕ, zero, suc, ◌+◌, ◌≤◌}
use mathlib.Core.Bool.{Bool, true, false, cond, ◌&&◌, false≢true, true≢false}
use mathlib.Core.List.{List, [], ◌∷◌, ◌++◌, map, append-nil, append_assoc}
use mathlib.Core.Logic.{◌≢◌, ◌⊎◌, inl, inr, ⊎_elim}
use Rattle.std.specs.Prelude.{Option, Some, None}
use Rattle.std.proofs.lemmas.Option.{none-some}
use Rattle.model.proofs.Options.{some-ne-none}
use mathlib.Core.Path.{◌≡◌, refl, sym, ap, ap₂, ◌∙◌, subst}
use native.Mathlib.Omega.{arith}
use borrow.Author.Tests.{eq-eqb, ne_eqb}
use lib.IntN.{ℤ}
use lib.ListN.{length, length-map, length-append, get_or, replicate, take}
use Rattle.std.specs.Prelude.{slice_get}
use lib.Seq.{take_all}
use Rattle.model.specs.declared.Capability.{Capability}
use Rattle.model.specs.declared.Reason.TheVariants.{Startup}
use Rattle.model.specs.Soundness.{axis_used}
use Rattle.model.specs.Words.{share_no_bit}
use Rattle.rules.specs.Lists.{Mem}
use Rattle.rules.specs.Book.{Book}
use Rattle.rules.specs.Interaction.{Answer, Interaction, Done, Observe, Execute, Fallback, Record}
use Rattle.rules.specs.Admission.{axes}
use Rattle.rules.specs.Rules.{select, used_axes, meets_estop}
use Rattle.rules.specs.Protocol.{Call, Reply, FellBack, Input, Item, ItemExecute, ItemFallback, Hands, Start, Phase, Starting, Gone, Idle, Waiting, book_in, awaited_in, opening, begin, proceed, refused_start, start_from, start_unless, start, start_replied, called, replied, effect, apply, react}
use Rattle.rules.specs.Log.{History, phase_after, output_after, Took, Replied, Handed, Ended, Log, handed, arrived, logged, log_of, call_of, unless_called, start_items, start_replies}
use Rattle.rules.specs.SoundStart.{SoundStart}
use Rattle.rules.specs.Claim.{StartedUp, StartedOn, OpensSo, Increasing, AreUsed}
use Rattle.rules.specs.Turns.{awaited}
use Rattle.rules.specs.Refusals.{StartupFailed}
use Rattle.rules.proofs.Soundness.{sound-start, start-sound}
use Rattle.rules.proofs.Axes.{low-axis, mem-used, namer, named-used}
use Rattle.rules.proofs.Turns.{stands, newest}
use Rattle.rules.proofs.Steps.{Stands, at_observe, at_execute, at_fallback, at_record, event_at, handed-event, effective, start-effective, Step, stays, tries, begins, answers, step}

abbrev pub try_items : List ℕ → List Item
try_items axes = map (λ axis. ItemFallback axis Startup) axes

abbrev good_replies : List ℕ → List Reply
good_replies axes = map (λ axis. FellBack true) axes

-- ---- the replies so far

-- every one was good
abbrev pub all_good : List Bool → Bool
all_good [] = true
all_good (ok ∷ oks) = ok && all_good oks

-- the replies on some of the used axes; those on the rest are to come
pub record Answered (s : Start) (good : Bool) (rest : List ℕ) (l : Log) : Type 0 where
  pub oks : List Bool
  pub replies : start_replies l ≡ map FellBack oks
  pub sum : good ≡ all_good oks
  pub count : length oks + length rest ≡ length (used_axes s.capabilities)

-- while one is to come they aren't the whole
unfinished : (s : Start) (good : Bool) (axis : ℕ) (rest : List ℕ) (l : Log) → Answered s good (axis ∷ rest) l
    → start_replies l ≢ good_replies (used_axes s.capabilities)
unfinished s good axis rest l a e =
    let n : length a.oks ≡ length (used_axes s.capabilities) =
    sym (length-map a.oks FellBack) ∙ ap length (sym a.replies ∙ e) ∙ length-map (used_axes s.capabilities) (λ axis. FellBack true) in
    omega (arith, n, a.count)

good-snoc : (oks : List Bool) (ok : Bool) → (all_good oks && ok) ≡ all_good (oks ++ (ok ∷ []))
good-snoc [] true = refl
good-snoc [] false = refl
good-snoc (true ∷ oks) ok = good-snoc oks ok
good-snoc (false ∷ oks) ok = refl

replies-snoc : (oks : List Bool) (ok : Bool) → map FellBack oks ++ (FellBack ok ∷ []) ≡ map FellBack (oks ++ (ok ∷ []))
replies-snoc [] ok = refl
replies-snoc (x ∷ oks) ok = ap (λ rs. FellBack x ∷ rs) (replies-snoc oks ok)

-- as many good ones as there are used axes
all-good : (oks : List Bool) (axes : List ℕ) → all_good oks ≡ true → length oks ≡ length axes → map FellBack oks ≡ good_replies axes
all-good [] [] g e = refl
all-good [] (axis ∷ axes) g e = absurd (omega arith)
all-good (ok ∷ oks) [] g e = absurd (omega arith)
all-good (true ∷ oks) (axis ∷ axes) g e = ap (λ rs. FellBack true ∷ rs) (all-good oks axes g (omega arith))
all-good (false ∷ oks) (axis ∷ axes) g e = absurd (false≢true g)

one-bad : (oks : List Bool) → all_good oks ≡ false → Mem (FellBack false) (map FellBack oks)
one-bad [] g = absurd (true≢false g)
one-bad (true ∷ oks) g = inr (one-bad oks g)
one-bad (false ∷ oks) g = inl refl

fell≢ : FellBack false ≡ FellBack true → ⊥
fell≢ e = false≢true (cc)

pub none-bad : (axes : List ℕ) → ¬ Mem (FellBack false) (good_replies axes)
none-bad [] m = m
none-bad (axis ∷ axes) (inl e) = fell≢ e
none-bad (axis ∷ axes) (inr m) = none-bad axes m

-- one more reply
one_more : (s : Start) (good : Bool) (axis : ℕ) (rest : List ℕ) (ok : Bool) (l : Log) → Answered s good (axis ∷ rest) l → call_of l ≡ None
    → Answered s (good && ok) rest (Replied (FellBack ok) ∷ l)
unfolding start_replies unless_called
one_more s good axis rest ok l a call =
    record {
      oks = a.oks ++ (ok ∷ []);
      replies = rw (call, a.replies) (replies-snoc a.oks ok);
      sum = rw a.sum (good-snoc a.oks ok);
      count = rw (length-append a.oks (ok ∷ [])) (omega (arith, a.count));
    }

-- ---- what the log says of the start, by where the runtime stands

-- the startup fallback on an axis was handed out, those on the rest are to come
pub record Trying (s own : Start) (axis : ℕ) (rest : List ℕ) (good : Bool) (l : Log) : Type 0 where
  pub same : own ≡ s
  pub sound : SoundStart s
  pub items : start_items l ++ try_items rest ≡ try_items (used_axes s.capabilities)
  pub tried : Answered s good (axis ∷ rest) l
  pub call : call_of l ≡ None

abbrev pub InCall : Log → Type 0
InCall l = (c : Call) × (call_of l ≡ Some c)

abbrev pub Progress : Start → Log → Phase → Type 0
Progress s l (Starting own axis rest good) = Trying s own axis rest good l
Progress s l Gone = (¬ SoundStart s) ⊎ StartupFailed s l
Progress s l (Idle b) = StartedUp s l × (call_of l ≡ None → b ≡ opening s)
Progress s l (Waiting w) = StartedUp s l × InCall l

pub not_none : (l : Log) → InCall l → call_of l ≢ None
not_none l n e = some-ne-none n.0 (sym n.1 ∙ e)

module _ (s : Start) (l : Log) where
  -- a call adds nothing to the items and replies of the start
  call-taken : (c : Call) → StartedUp s l → StartedUp s (Took c ∷ l)
  unfolding start_items start_replies
  call-taken c u = record { sound = u.sound; items = u.items; replies = u.replies }

  -- nor does its end
  call-ended : (a : Answer) → StartedUp s l → StartedUp s (Ended a ∷ l)
  unfolding start_items start_replies
  call-ended a u = record { sound = u.sound; items = u.items; replies = u.replies }

  item-handed : (i : Item) → StartedUp s l → InCall l → StartedUp s (Handed i ∷ l)
  unfolding start_items start_replies unless_called
  item-handed i u n = record { sound = u.sound; items = rw n.1 (append-nil _ ∙ u.items); replies = u.replies }

  reply-taken : (r : Reply) → StartedUp s l → InCall l → StartedUp s (Replied r ∷ l)
  unfolding start_items start_replies unless_called
  reply-taken r u n = record { sound = u.sound; items = u.items; replies = rw n.1 (append-nil _ ∙ u.replies) }

  -- a call goes on to its next item or its end
  proceeds : (t : Interaction) → StartedUp s l → InCall l → Progress s (event_at t ++ l) (proceed t).phase
  unfolding proceed event_at call_of
  proceeds (Done b a) u n = (call-ended a u, λ e. absurd (not_none l n e))
  proceeds (Observe axis b k) u n = (item-handed _ u n, n)
  proceeds (Execute c p b k) u n = (item-handed _ u n, n)
  proceeds (Fallback axis r b k) u n = (item-handed _ u n, n)
  proceeds (Record r b k) u n = (item-handed _ u n, n)

  -- the start goes on to the first of these axes, or is over
  goes_on : (axes : List ℕ) (good : Bool) → SoundStart s → start_items l ++ try_items axes ≡ try_items (used_axes s.capabilities)
      → Answered s good axes l → call_of l ≡ None → Progress s (handed (start_from s axes good).output ++ l) (start_from s axes good).phase
  unfolding start_from handed start_items start_replies call_of unless_called
  goes_on (axis ∷ rest) good h is a call =
      record {
        same = refl;
        sound = h;
        items = rw (call, append_assoc) is;
        tried = record { oks = a.oks; replies = a.replies; sum = a.sum; count = a.count };
        call = call;
      }
  goes_on [] true h is a call =
      let n : length a.oks ≡ length (used_axes s.capabilities) = omega (arith, a.count) in
      (record { sound = h; items = sym (append-nil _) ∙ is; replies = a.replies ∙ all-good a.oks (used_axes s.capabilities) (sym a.sum) n }, λ e. refl)
  goes_on [] false h is a call =
      let n : length a.oks ≡ length (used_axes s.capabilities) = omega (arith, a.count) in
      inr
      (record {
        sound = h;
        tried = sym (append-nil _) ∙ is;
        answered = ap length a.replies ∙ length-map a.oks FellBack ∙ n;
        failed = rw a.replies (one-bad a.oks (sym a.sum));
      })

  -- where an interaction waits there is a call in hand
  in-call : (t : Interaction) (p : Phase) → Stands t p → Progress s l p → StartedUp s l × InCall l
  in-call t p at_observe g = g
  in-call t p at_execute g = g
  in-call t p at_fallback g = g
  in-call t p at_record g = g

-- whatever an input does
progress_step : (s : Start) (l : Log) (p : Phase) (i : Input) → Step p i → Progress s l p
    → Progress s (logged i (react p i).output l) (react p i).phase
unfolding react apply effect called replied start_replied logged arrived call_of start_items start_replies unless_called
progress_step s l p i (stays st) g = rw (st.log l, st.phase) g
progress_step s l p i (tries own axis rest good ok) g =
    rw (g.same, start-effective s _ _)
    (goes_on s (Replied (FellBack ok) ∷ l) _ _ g.sound g.items (one_more s good axis rest ok l g.tried g.call) g.call)
progress_step s l p i (begins b c) g =
    rw (effective (begin c b), handed-event (begin c b)) (proceeds s (Took c ∷ l) (begin c b) (call-taken s l c g.0) (c, refl))
progress_step s l p i (answers {r = r} t u a) g =
    let n = in-call s l t p a.stands g in
    rw (a.log l, a.reaction) (proceeds s (Replied r ∷ l) u (reply-taken s l r n.0 n.1) n.1)

-- ---- every history

pub progress : (s : Start) (h : History) → Progress s (log_of s h) (phase_after s h)
unfolding log_of phase_after start start_unless start_items start_replies call_of
progress s [] = go (refused_start s) refl
  where
    go : (r : Option ℕ) → refused_start s ≡ r → Progress s (handed (start_unless r s).output) (start_unless r s).phase
    go (Some n) e = inl (λ h. some-ne-none n (sym e ∙ start-sound s h))
    go None e =
        rw append-nil at
        (goes_on s [] (used_axes s.capabilities) true (sound-start s e) refl
        (record { oks = []; replies = refl; sum = refl; count = omega arith }) refl)
progress s (i ∷ past) = progress_step s (log_of s past) (phase_after s past) i (step (phase_after s past) i) (progress s past)

pub started-up : (s : Start) (h : History) (b : Book) → book_in (phase_after s h) ≡ Some b → StartedUp s (log_of s h)
unfolding book_in
started-up s h b e = go (phase_after s h) (progress s h) e
  where
    go : (p : Phase) → Progress s (log_of s h) p → book_in p ≡ Some b → StartedUp s (log_of s h)
    go (Starting own axis rest good) g e = absurd (none-some b e)
    go Gone g e = absurd (none-some b e)
    go (Idle a) g e = g.0
    go (Waiting w) g e = g.0

-- ---- the book that a start opens with

nothing-at : {A : Type 0} (d : A) (n i : ℕ) → get_or (replicate n d) i d ≡ d
nothing-at d zero i = refl
nothing-at d (suc n) zero = refl
nothing-at d (suc n) (suc i) = nothing-at d n i

opens-so : (s : Start) → OpensSo s (opening s)
unfolding opening meets_estop share_no_bit
opens-so s =
    record {
      configured = refl;
      booted = refl;
      listed = refl;
      leases = nothing-at None 8;
      active = nothing-at None 8;
      replay = refl;
      receipts = refl;
      next_receipt = refl;
      next_lease = refl;
      epoch = refl;
      flags = refl;
      stamp = refl;
      last_tick = refl;
      estopped = λ n. rw (ne_eqb _ _ n);
      idle = λ e. rw (eq-eqb _ _ e);
      count = refl;
      seen = refl;
    }

pub there-is-a-runtime : (s : Start) (h : History) → SoundStart s
    → start_replies (log_of s h) ≡ map (λ axis. FellBack true) (used_axes s.capabilities)
    → ((b : Book) × (book_in (phase_after s h) ≡ Some b)) × (call_of (log_of s h) ≡ None → (b : Book) × (phase_after s h ≡ Idle b) × OpensSo s b)
unfolding book_in
there-is-a-runtime s h sound good = go (phase_after s h) (progress s h)
  where
    bad : StartupFailed s (log_of s h) → ⊥
    bad f = none-bad (used_axes s.capabilities) (subst (λ rs. Mem (FellBack false) rs) good f.failed)

    go : (p : Phase) → Progress s (log_of s h) p
        → ((b : Book) × (book_in p ≡ Some b)) × (call_of (log_of s h) ≡ None → (b : Book) × (p ≡ Idle b) × OpensSo s b)
    go (Starting own axis rest ok) g = absurd (unfinished s ok axis rest (log_of s h) g.tried good)
    go Gone g = absurd (⊎_elim (λ n. n sound) bad g)
    go (Idle b) g = ((b, refl), λ e. (opening s, ap Idle (g.1 e), opens-so s))
    go (Waiting w) g = ((_, refl), λ e. absurd (not_none (log_of s h) g.1 e))

-- ---- the used axes

-- each is at least so high, and above the one before
abbrev From : ℕ → List ℕ → Type 0
From low [] = Unit
From low (i ∷ is) = (low ≤ i) × From (i + 1) is

from-lower : (low high : ℕ) (is : List ℕ) → low ≤ high → From high is → From low is
from-lower low high [] h f = tt
from-lower low high (i ∷ is) h f = (omega (arith, f.0), f.1)

from-select : (p : ℕ → Bool) (low : ℕ) (is : List ℕ) → From low is → From low (select p is)
unfolding select
from-select p low [] f = tt
from-select p low (i ∷ is) f = go (p i) (from-select p (i + 1) is f.1)
  where
    go : (t : Bool) → From (i + 1) (select p is) → From low (cond t (i ∷ select p is) (select p is))
    go true k = (f.0, k)
    go false k = from-lower low (i + 1) (select p is) (omega (arith, f.0)) k

from-rises : (low : ℕ) (is : List ℕ) → From low is → Increasing is
from-rises low [] f = tt
from-rises low (i ∷ []) f = tt
from-rises low (i ∷ j ∷ is) f = (omega (arith, f.1.0), from-rises (i + 1) (j ∷ is) f.1)

all-axes : From 0 axes
all-axes = (omega arith, (omega arith, (omega arith, (omega arith, (omega arith, (omega arith, (omega arith, (omega arith, tt))))))))

selected : (p : ℕ → Bool) (is : List ℕ) (i : ℕ) → Mem i (select p is) → p i ≡ true
unfolding select
selected p [] i m = absurd m
selected p (j ∷ is) i m = go (p j) refl m (selected p is i)
  where
    go : (t : Bool) → p j ≡ t → Mem i (cond t (j ∷ select p is) (select p is)) → (Mem i (select p is) → p i ≡ true) → p i ≡ true
    go true e (inl q) rest = rw q e
    go true e (inr m) rest = rest m
    go false e m rest = rest m

-- ---- an execute item comes after the start

-- an item other than a startup fallback is handed out by a call
in-call-of : (p : Phase) (c : ℕ) (ps : List ℤ) → awaited_in p ≡ Some (ItemExecute c ps) → (b : Book) × (book_in p ≡ Some b)
unfolding book_in
in-call-of (Starting own axis rest good) c ps e = absurd (false≢true (cc))
in-call-of Gone c ps e = absurd (none-some _ e)
in-call-of (Idle b) c ps e = absurd (none-some _ e)
in-call-of (Waiting w) c ps e = (_, refl)

-- one place in both lists
place_of : (axis : ℕ) (axes : List ℕ) → Mem axis axes
    → (n : ℕ) × (slice_get (try_items axes) n ≡ Some (ItemFallback axis Startup)) × (slice_get (good_replies axes) n ≡ Some (FellBack true))
place_of axis [] m = absurd m
place_of axis (a ∷ axes) (inl e) = (zero, rw e, refl)
place_of axis (a ∷ axes) (inr m) = let k = place_of axis axes m in (suc k.0, k.1, k.2)

-- an axis that a record of a sound start names is used
used : (s : Start) → SoundStart s → (k : Capability) → Mem k s.capabilities → Mem k.resource (used_axes s.capabilities)
used s h k m =
    mem-used s.capabilities k.resource (named-used k s.capabilities m) (low-axis k.resource (omega (arith, (h.records.each k m).axis)))

pub startup-first : (s : Start) (h : History) (c : ℕ) (p : List ℤ) → output_after s h ≡ Hands (ItemExecute c p)
    → (k : Capability) → Mem k s.capabilities → StartedOn k.resource (log_of s h)
unfolding handed awaited
startup-first s h c p e k m =
    let n = newest s h (Handed (ItemExecute c p)) (ap handed e) in
    let b = in-call-of (phase_after s h) c p (sym (stands s h) ∙ ap awaited n.1) in
    let u = started-up s h b.0 b.1 in
    let q = place_of k.resource (used_axes s.capabilities) (used s u.sound k m) in
    record { place = q.0; item = rw u.items q.1; reply = rw u.replies q.2 }

pub used-axes : (s : Start) → SoundStart s → AreUsed s.capabilities (used_axes s.capabilities)
unfolding used_axes
used-axes s h =
    record {
      named = λ axis m. namer s.capabilities axis (selected (axis_used s.capabilities) axes axis m);
      all = used s h;
      rising = from-rises 0 (select (axis_used s.capabilities) axes) (from-select (axis_used s.capabilities) 0 axes all-axes);
    }

-- ---- the fallbacks of a start, one after another

fallback-same : {i j : Item} {is js : List Item} → i ∷ is ≡ j ∷ js → (i ≡ j) × (is ≡ js)
fallback-same e = (cc, cc)

-- the first of them, if so many axes are left
taken : (n : ℕ) (xs : List Item) (rest used : List ℕ) → xs ++ try_items rest ≡ try_items used → n + length rest ≡ length used
    → xs ≡ try_items (take n used)
taken zero [] rest used e q = refl
taken zero (x ∷ xs) rest used e q = absurd (omega (arith, lengths))
  where
    lengths : length (x ∷ xs) + length rest ≡ length used
    lengths =
        ap (λ (k : ℕ). length (x ∷ xs) + k) (sym (length-map rest (λ axis. ItemFallback axis Startup))) ∙ sym (length-append (x ∷ xs) (try_items rest))
        ∙ ap length e ∙ length-map used (λ axis. ItemFallback axis Startup)
taken (suc n) xs rest [] e q = absurd (omega arith)
taken (suc n) [] rest (u ∷ used) e q = absurd (omega (arith, lengths))
  where
    lengths : length rest ≡ length (u ∷ used)
    lengths = sym (length-map rest (λ axis. ItemFallback axis Startup)) ∙ ap length e ∙ length-map (u ∷ used) (λ axis. ItemFallback axis Startup)
taken (suc n) (x ∷ xs) rest (u ∷ used) e q =
    let k = fallback-same e in
    ap₂ (λ (i : Item) (is : List Item). i ∷ is) k.0 (taken n xs rest used k.1 (omega arith))

pub goes-on-so : (s : Start) (h : History) → SoundStart s → call_of (log_of s h) ≡ None
    → start_items (log_of s h) ≡ map (λ axis. ItemFallback axis Startup) (take (length (start_replies (log_of s h)) + 1) (used_axes s.capabilities))
goes-on-so s h sound call = go (phase_after s h) (progress s h)
  where
    l : Log
    l = log_of s h

    whole : start_items l ≡ try_items (used_axes s.capabilities) → length (start_replies l) ≡ length (used_axes s.capabilities)
        → start_items l ≡ try_items (take (length (start_replies l) + 1) (used_axes s.capabilities))
    whole e n = e ∙ ap try_items (sym (take_all (length (start_replies l) + 1) (used_axes s.capabilities) (omega (arith, n))))

    go : (p : Phase) → Progress s l p → start_items l ≡ try_items (take (length (start_replies l) + 1) (used_axes s.capabilities))
    go (Starting own axis rest good) g =
        let n : length (start_replies l) ≡ length g.tried.oks = ap length g.tried.replies ∙ length-map g.tried.oks FellBack in
        taken (length (start_replies l) + 1) (start_items l) rest _ g.items (omega (arith, n, g.tried.count))
    go Gone g = ⊎_elim (λ n. absurd (n sound)) (λ f. whole f.tried f.answered) g
    go (Idle b) g = whole g.0.items (ap length g.0.replies ∙ length-map (used_axes s.capabilities) (λ axis. FellBack true))
    go (Waiting w) g = absurd (not_none l g.1 call)
