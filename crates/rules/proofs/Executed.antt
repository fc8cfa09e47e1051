-- An order is Executed exactly if observe, execute, observe and verify all succeed; else it is Failed, and trips. Assumes nothing.
use Prim.Native.Nat.{ℕ}
use mathlib.Core.Bool.{Bool, true, false, cond, ◌&&◌, false≢true}
use mathlib.Core.List.{List, [], ◌∷◌, ◌++◌}
use mathlib.Core.Logic.{◌≢◌, ◌⊎◌, inl, inr, ◌↔◌}
use Rattle.std.specs.Prelude.{Option, Some, None}
use Rattle.model.proofs.Options.{some-injective}
use mathlib.Core.Path.{◌≡◌, refl, sym, ap, ap₂, ◌∙◌, subst}
use native.Mathlib.Omega.{arith}
use borrow.Author.Tests.{eqb-true, eq-eqb, leb-true, le-leb}
use lib.Dec.{leb}
use lib.IntN.{ℤ, pos, negsuc}
use lib.Signed.{le_z}
use Rattle.model.specs.declared.Capability.{Capability}
use Rattle.model.specs.declared.Decision.{Decision}
use Rattle.model.specs.declared.ExecutionClass.{ExecutionClass}
use Rattle.model.specs.declared.ExecutionClass.TheVariants as Class
use Rattle.model.specs.declared.Lease.{Lease}
use Rattle.model.specs.declared.Observation.{Observation}
use Rattle.model.specs.declared.Reason.{Reason}
use Rattle.model.specs.declared.Receipt.{Receipt}
use Rattle.model.specs.declared.RuntimeState.{RuntimeState}
use Rattle.model.specs.declared.RuntimeState.TheVariants as State
use Rattle.model.specs.declared.Submission.{Submission}
use Rattle.model.specs.declared.Verification.{Verification}
use Rattle.model.specs.declared.Verification.TheVariants.{Parameters, State as StateIs}
use Rattle.model.proofs.Tests.{and_both}
use Rattle.rules.specs.Lists.{Mem}
use Rattle.rules.specs.Book.{Book, lease_at}
use Rattle.rules.specs.With.{with_leases, with_active, with_replay, with_receipts, with_next_receipt, with_state, with_invalid_count}
use Rattle.rules.specs.Receipts.{numbered, axis_or255, order_receipt, Progress, kept}
use Rattle.rules.specs.Interaction.{Returned, Submitted, Interaction, Done, Observe}
use Rattle.rules.specs.Admission.{is_estopped, first_failing, admission, order_capability, Admits, Rejects, verdict, validate, valid_until}
use Rattle.rules.specs.Rules.{used_axes, record_receipt, tripped, trip, reject, fail, complete, same_parameters, verified, verify, dispatch, stream_end, consumed, admit, tick, submit, with_sequence, active_until}
use Rattle.rules.specs.Protocol.{Call, Submit, Reply, Observed, Executed, Recorded, Item, ItemObserve, ItemFallback, ItemRecord, Answers, Start, book_in, begin, Idle}
use Rattle.rules.specs.Log.{History, phase_after, output_after, log_of, book_before, Exchange, current}
use Rattle.rules.specs.Admissible.{Admissible}
use Rattle.rules.specs.Way.{observed, executed, recorded, Runs, then, Ticked}
use Rattle.rules.specs.AnswerFacts.{Verified, AllFour, ActiveSo, stream, discrete, control, Completed, FailedBy, unobserved, unexecuted, unobserved-after, unverified, FailedSo}
use Rattle.rules.proofs.Trees.{over, at-end, noted}
use Rattle.rules.proofs.Records.{with-named}
use Rattle.rules.proofs.Admission.{admitted-exactly}
use Rattle.rules.proofs.Exactly.{admits, admitted-iff}
use Rattle.rules.proofs.Ends.{EndedAt, ended, Opened, opens-order, resumes, ticked-by}
use Rattle.rules.proofs.Once.{holds}
use Rattle.rules.proofs.Suits.{submission, suits, storm-answers}
use Rattle.rules.proofs.Refused.{Swept, swept-fallbacks}

-- ---- verified, plainly

same-leb : (a b : ℕ) → leb a b ≡ true → leb b a ≡ true → a ≡ b
same-leb a b p q = omega (arith, leb-true a b p, leb-true b a q)

same-signed : (x y : ℤ) → le_z x y ≡ true → le_z y x ≡ true → x ≡ y
same-signed (pos a) (pos b) p q = ap pos (same-leb a b p q)
same-signed (pos a) (negsuc b) p q = absurd (false≢true p)
same-signed (negsuc a) (pos b) p q = absurd (false≢true q)
same-signed (negsuc a) (negsuc b) p q = ap negsuc (same-leb a b q p)

signed_same : (x : ℤ) → le_z x x ≡ true
signed_same (pos a) = le-leb a a (omega arith)
signed_same (negsuc a) = le-leb a a (omega arith)

same-parameters : (xs ys : List ℤ) → same_parameters xs ys ≡ true → xs ≡ ys
unfolding same_parameters
same-parameters [] [] e = refl
same-parameters [] (y ∷ ys) e = absurd (false≢true e)
same-parameters (x ∷ xs) [] e = absurd (false≢true e)
same-parameters (x ∷ xs) (y ∷ ys) e =
    let h = and_both (le_z x y && le_z y x) _ e in
    let k = and_both (le_z x y) (le_z y x) h.0 in
    ap₂ (λ (z : ℤ) (zs : List ℤ). z ∷ zs) (same-signed x y k.0 k.1) (same-parameters xs ys h.1)

parameters-same : (xs : List ℤ) → same_parameters xs xs ≡ true
unfolding same_parameters
parameters-same [] = refl
parameters-same (x ∷ xs) = rw (signed_same x) (parameters-same xs)

verified-means : (v : Verification) (ps : List ℤ) (seen : Observation) → verified v ps seen ≡ true → Verified v ps seen
unfolding verified
verified-means Parameters ps seen e = same-parameters _ _ e
verified-means (StateIs mask value) ps seen e = eqb-true _ _ e

means-verified : (v : Verification) (ps : List ℤ) (seen : Observation) → Verified v ps seen → verified v ps seen ≡ true
unfolding verified
means-verified Parameters ps seen e = rw e (parameters-same ps)
means-verified (StateIs mask value) ps seen e = eq-eqb _ _ e

rejected≢executed : Decision.Rejected ≡ Decision.Executed → ⊥
rejected≢executed e = let z : ◌≡◌ {A = ℕ} 0 1 = cc in omega arith

failed≢executed : Decision.Failed ≡ Decision.Executed → ⊥
failed≢executed e = let z : ◌≡◌ {A = ℕ} 0 1 = cc in omega arith

rejected≢failed : Decision.Rejected ≡ Decision.Failed → ⊥
rejected≢failed e = let z : ◌≡◌ {A = ℕ} 0 1 = cc in omega arith

-- a trip for one of these reasons, where the runtime is not Estopped
faulted : (reason : Reason) (x : RuntimeState) → (reason ≡ Reason.Driver) ⊎ (reason ≡ Reason.Verification) → x ≢ State.Estopped
    → tripped reason x ≡ State.Faulted
unfolding tripped is_estopped
faulted reason State.SafeIdle (inl e) n = rw e
faulted reason State.SafeIdle (inr e) n = rw e
faulted reason State.Armed (inl e) n = rw e
faulted reason State.Armed (inr e) n = rw e
faulted reason State.Faulted (inl e) n = rw e
faulted reason State.Faulted (inr e) n = rw e
faulted reason State.Estopped w n = absurd (n refl)

-- ---- how the run of an admitted order ends

-- it failed: its receipt is the answer, and a trip follows it
record FellShort (now : ℕ) (reason : Reason) (before after : Book) (rs : List Reply) (is : List Item) (r : Receipt) : Type 0 where
  decision : r.decision ≡ Decision.Failed
  says : r.reason ≡ reason
  tripping : List Reply
  replies : rs ≡ Recorded ∷ tripping
  trip_items : List Item
  items : is ≡ ItemRecord r ∷ trip_items
  recorded : Book
  trips : Runs (trip reason now recorded (λ b. Done b (Submitted r))) tripping trip_items (Done after (Submitted r))
  swept : Swept (used_axes before.capabilities) reason before after trip_items
  state : after.state ≡ tripped reason before.state

-- the reasons of a failure
abbrev OfOne : Reason → Type 0
OfOne reason = (reason ≡ Reason.Driver) ⊎ (reason ≡ Reason.Verification)

of_one : {v : Verification} {ps : List ℤ} {steps : List Reply} {reason : Reason} → FailedBy v ps steps reason → OfOne reason
of_one unobserved = inl refl
of_one unexecuted = inl refl
of_one unobserved-after = inl refl
of_one (unverified n) = inr refl

submitted-same : {r q : Receipt} → Submitted r ≡ Submitted q → r ≡ q
submitted-same e = cc

fell-short : {rs : List Reply} {is : List Item} {after : Book} {r : Receipt} (c : Capability) (reason : Reason) (p : Progress) (o : Submission) (b : Book)
    → Runs (fail c reason p o b) rs is (Done after (Submitted r)) → FellShort o.now reason b after rs is r
unfolding fail record_receipt trip numbered order_receipt kept with_next_receipt with_receipts with_state
fell-short {rs} {is} {after} {r} c reason p o b w =
    let own = numbered b.next_receipt (order_receipt o (Some c) Decision.Failed reason 0 p b) in
    let k = noted w in
    let m = swept-fallbacks (Submitted own) (used_axes b.capabilities) reason o.now _ k.left in
    let same = submitted-same m.1.1 in
    subst (FellShort o.now reason b after rs is) same
    (record {
      decision = refl;
      says = refl;
      tripping = k.later;
      replies = k.replies;
      trip_items = k.later_items;
      items = k.items;
      recorded = kept own b;
      trips = subst (λ q. Runs (trip reason o.now (kept own b) (λ b. Done b (Submitted own))) k.later k.later_items (Done after (Submitted q))) (sym same)
          k.left;
      swept = record { capabilities = m.0.capabilities; each = m.0.each };
      state = m.1.0;
    })

data Came (c : Capability) (o : Submission) (b : Book) (rs : List Reply) (is : List Item) (after : Book) (r : Receipt) : Type 0 where
  all-four : (first second : Observation) → rs ≡ Observed (Some first) ∷ Executed true ∷ Observed (Some second) ∷ Recorded ∷ []
      → verified c.verification o.action.parameters second ≡ true → r.decision ≡ Decision.Executed → Came c o b rs is after r
  short : (reason : Reason) (steps later : List Reply) (first items : List Item) → FailedBy c.verification o.action.parameters steps reason
      → rs ≡ steps ++ later → is ≡ first ++ items → FellShort o.now reason b after later items r → Came c o b rs is after r

-- the receipt of an order that is Executed
completed : {rs : List Reply} {is : List Item} {after : Book} {r : Receipt} (c : Capability) (end : ℕ) (p : Progress) (o : Submission) (b : Book)
    → Runs (complete c end p o b) rs is (Done after (Submitted r)) → (rs ≡ Recorded ∷ []) × (r.decision ≡ Decision.Executed)
unfolding complete record_receipt numbered order_receipt
completed c end p o b w =
    let n = noted w in
    let k = at-end n.left in
    let same = submitted-same k.answer in
    (n.replies ∙ ap (λ (q : List Reply). Recorded ∷ q) k.replies, ap (λ (x : Receipt). x.decision) (sym same))

module _ (c : Capability) (o : Submission) (end : ℕ) (b : Book) where
  -- the second observation
  came-verify : {rs : List Reply} {is : List Item} {after : Book} {r : Receipt} (first : Observation) (before : ℕ) (seen : Option Observation)
      → Runs (verify c end before o b seen) rs is (Done after (Submitted r))
      → Came c o b (Observed (Some first) ∷ Executed true ∷ Observed seen ∷ rs) is after r
  unfolding verify
  came-verify first before None w = short _ _ _ [] _ unobserved-after refl refl (fell-short c _ _ o b w)
  came-verify {rs} {is} {after} {r} first before (Some second) w = go _ (verified c.verification o.action.parameters second) refl w
    where
      go : (p : Progress) (t : Bool) → verified c.verification o.action.parameters second ≡ t
          → Runs (cond t (complete c end p o b) (fail c Reason.Verification p o b)) rs is (Done after (Submitted r))
          → Came c o b (Observed (Some first) ∷ Executed true ∷ Observed (Some second) ∷ rs) is after r
      go p true e w =
          let k = completed c end p o b w in
          all-four first second (ap (λ (q : List Reply). Observed (Some first) ∷ Executed true ∷ Observed (Some second) ∷ q) k.0) e k.1
      go p false e w = short _ _ _ [] _ (unverified (λ k. false≢true (sym e ∙ means-verified _ _ _ k))) refl refl (fell-short c _ p o b w)

  came-later : {rs : List Reply} {is : List Item} {after : Book} {r : Receipt} (i : Item) → Came c o b rs is after r → Came c o b rs (i ∷ is) after r
  came-later i (all-four first second e v d) = all-four first second e v d
  came-later i (short reason steps later first items cause e q k) =
      short reason steps later (i ∷ first) items cause e (ap (λ (is : List Item). i ∷ is) q) k

  came-executed : {rs : List Reply} {is : List Item} {after : Book} {r : Receipt} (first : Observation) (before : ℕ)
      → Runs (Observe c.resource b (verify c end before o b)) rs is (Done after (Submitted r))
      → Came c o b (Observed (Some first) ∷ Executed true ∷ rs) is after r
  came-executed first before (then (observed {o = seen}) w) = came-later _ (came-verify first before seen w)

  came-dispatch : {rs : List Reply} {is : List Item} {after : Book} {r : Receipt} (seen : Option Observation)
      → Runs (dispatch c end o b seen) rs is (Done after (Submitted r)) → Came c o b (Observed seen ∷ rs) is after r
  unfolding dispatch
  came-dispatch None w = short _ _ _ [] _ unobserved refl refl (fell-short c _ _ o b w)
  came-dispatch (Some first) (then (executed {ok = false}) w) = came-later _ (short _ _ _ [] _ unexecuted refl refl (fell-short c _ _ o b w))
  came-dispatch (Some first) (then (executed {ok = true}) w) = came-later _ (came-executed first _ w)

came : {rs : List Reply} {is : List Item} {after : Book} {r : Receipt} (c : Capability) (l : Lease) (o : Submission) (b : Book)
    → Runs (admit (Admits c l) o b) rs is (Done after (Submitted r)) → Came c o (consumed c l o b) rs is after r
unfolding admit
came c l o b (then (observed {o = seen}) w) = came-later c o (stream_end l o) (consumed c l o b) _ (came-dispatch c o (stream_end l o) (consumed c l o b) seen w)

-- where all four succeed it is Executed, and completed
active-so : (c : Capability) (o : Submission) (l : Lease) (class : ExecutionClass) → ActiveSo c o l class (active_until c class (stream_end l o))
unfolding active_until stream_end valid_until
active-so c o l Class.Stream = stream refl refl
active-so c o l Class.Discrete = discrete refl refl
active-so c o l Class.Control = control

module _ (c : Capability) (l : Lease) (o : Submission) (b : Book) (held : lease_at b c.resource ≡ Some l) (first second : Observation)
    (good : verified c.verification o.action.parameters second ≡ true) where
  -- what it says and leaves
  abbrev Ends : Book → Receipt → Type 0
  Ends after r = (r.decision ≡ Decision.Executed) × Completed c o first second b after r

  completing : {rs : List Reply} {is : List Item} {after : Book} {r : Receipt}
      → Runs (complete c (stream_end l o)
      (record { dispatched = true; pre_state = first.state; executed_at = o.now; observed_valid = true; observed = second.parameters; post_state = second.state })
      o (consumed c l o b)) rs is (Done after (Submitted r)) → Ends after r
  unfolding complete record_receipt numbered order_receipt axis_or255 consumed with_sequence kept with_next_receipt with_receipts with_replay with_leases with_active
      with_invalid_count
  completing (then recorded w) =
      let k = at-end w in
      let same = submitted-same k.answer in (
        ap (λ (x : Receipt). x.decision) (sym same),
        record {
          reason = ap (λ (x : Receipt). x.reason) (sym same);
          resource = ap (λ (x : Receipt). x.resource) (sym same);
          dispatched = ap (λ (x : Receipt). x.dispatched) (sym same);
          executed-at = ap (λ (x : Receipt). x.executed_at) (sym same);
          pre = ap (λ (x : Receipt). x.pre_state) (sym same);
          seen = ap (λ (x : Receipt). x.observed_valid) (sym same);
          observed = ap (λ (x : Receipt). x.observed) (sym same);
          post = ap (λ (x : Receipt). x.post_state) (sym same);
          old = l;
          held = held;
          new = with_sequence o.action.sequence l;
          sequenced =
              record { last = refl; id = refl; owner = refl; resource = refl; capabilities = refl; limits = refl; expires = refl; renewal = refl };
          leases = ap (λ (x : Book). x.leases) (sym k.book);
          order = active_until c c.class (stream_end l o);
          active_so = active-so c o l c.class;
          active = ap (λ (x : Book). x.active) (sym k.book);
          count = ap (λ (x : Book). x.invalid_count) (sym k.book);
          stamp = ap (λ (x : Book). x.state_at) (sym k.book);
          last_tick = ap (λ (x : Book). x.last_tick) (sym k.book);
          next_lease = ap (λ (x : Book). x.next_lease) (sym k.book);
        },
      )

  completes-verify : {rs : List Reply} {is : List Item} {after : Book} {r : Receipt}
      → Runs (Observe c.resource (consumed c l o b) (verify c (stream_end l o) first.state o (consumed c l o b))) (Observed (Some second) ∷ rs) is
      (Done after (Submitted r)) → Ends after r
  unfolding verify
  completes-verify (then observed w) = completing (rw good at w)

  completes-dispatch : {rs : List Reply} {is : List Item} {after : Book} {r : Receipt}
      → Runs (dispatch c (stream_end l o) o (consumed c l o b) (Some first)) (Executed true ∷ Observed (Some second) ∷ rs) is (Done after (Submitted r))
      → Ends after r
  unfolding dispatch
  completes-dispatch (then executed w) = completes-verify w

  completes : {rs : List Reply} {is : List Item} {after : Book} {r : Receipt}
      → Runs (admit (Admits c l) o b) (Observed (Some first) ∷ Executed true ∷ Observed (Some second) ∷ rs) is (Done after (Submitted r)) → Ends after r
  unfolding admit
  completes (then observed w) = completes-dispatch w

-- a rejected order has no observation, and says Rejected
rejects-so : {rs : List Reply} {is : List Item} {after : Book} {r : Receipt} (reason : Reason) (o : Submission) (b : Book)
    → Runs (admit (Rejects reason) o b) rs is (Done after (Submitted r)) → r.decision ≡ Decision.Rejected
unfolding admit reject record_receipt numbered order_receipt
rejects-so reason o b (then recorded w) =
    ap (λ (x : Receipt). x.decision) (submitted-same (storm-answers o.now _ _ w))

nothing_seen : {rs : List Reply} {is : List Item} {after : Book} {r : Receipt} (reason : Reason) (o : Submission) (b : Book) (seen : Option Observation)
    → Runs (admit (Rejects reason) o b) (Observed seen ∷ rs) is (Done after (Submitted r)) → ⊥
unfolding admit reject record_receipt
nothing_seen reason o b seen (then n w) = elim n [ ]

-- ---- after every history

-- an order is admissible in the book that its tick left, or it is rejected
data Judged (o : Submission) (b : Book) : Type 0 where
  admitted : (a : Admissible o b) → Judged o b
  refused : (reason : Reason) → validate o b ≡ Rejects reason → Judged o b

judged : (o : Submission) (b : Book) → Judged o b
unfolding validate verdict
judged o b = go (first_failing (admission o b)) refl
  where
    go : (f : Option Reason) → first_failing (admission o b) ≡ f → Judged o b
    go None e = admitted ((admitted-exactly o b).0 e)
    go (Some reason) e = refused reason (rw e)

-- what is left of a submission's run after the run of its tick
past-tick : {rs first second : List Reply} {first_items is : List Item} {book : Book} {v : Interaction} (c : Call) (o : Submission) (before : Book)
    → c ≡ Submit o → rs ≡ first ++ second → Runs (tick o.now before (λ b. Done b Returned)) first first_items (Done book Returned)
    → Runs (begin c before) rs is v → (later : List Item) × Runs (admit (validate o book) o book) second later v
unfolding begin submit
past-tick c o before e q ticked w = resumes o.now (λ b. admit (validate o b) o b) before q ticked (rw e at w)

module _ (s : Start) (h : History) (x : Exchange) (b : Book) (r : Receipt) (out : output_after s h ≡ Answers (Submitted r))
    (e : current (log_of s h) ≡ Some x) (f : book_before s h ≡ Some b) where
  at : EndedAt b x (Submitted r) (phase_after s h)
  at = ended s h x b e f (Submitted r) out

  order : (o : Submission) × (x.call ≡ Submit o)
  order = submission (suits x.call b at.run)

  k : Opened order.0.now b (λ b. admit (validate order.0 b) order.0 b) x.replies x.items (Done at.book (Submitted r))
  k = opens-order x.call order.0 b order.1 at.run (over tt)

  -- how it came out
  outcome : (a : Admissible order.0 k.book)
      → Came a.capability order.0 (consumed a.capability a.lease order.0 k.book) k.later k.later_items at.book r
  outcome a = came a.capability a.lease order.0 k.book (rw (admits order.0 k.book a) at k.left)

  ticked : Ticked order.0.now b x k.book
  ticked = ticked-by x k k.later_items k.items

  four : r.decision ≡ Decision.Executed → AllFour x b
  unfolding ticked
  four d = go (judged order.0 k.book)
    where
      come : (a : Admissible order.0 k.book)
          → Came a.capability order.0 (consumed a.capability a.lease order.0 k.book) k.later k.later_items at.book r
          → AllFour x b
      come a (all-four first second replies good says) =
          record {
            order = order.0;
            call = order.1;
            book = k.book;
            ticked = ticked;
            capability = a.capability;
            known = a.known;
            first = first;
            second = second;
            replies = replies;
            verified = verified-means _ _ second good;
          }
      come a (short reason steps later first items cause e q n) = absurd (failed≢executed (sym n.decision ∙ d))

      go : Judged order.0 k.book → AllFour x b
      go (admitted a) = come a (outcome a)
      go (refused reason q) = absurd (rejected≢executed (sym (rejects-so reason order.0 k.book (rw q at k.left)) ∙ d))

  -- the run after the tick that all four are said of
  after-tick : (p : AllFour x b)
      → (is : List Item) × Runs (admit (validate p.order p.book) p.order p.book) p.ticked.later is (Done at.book (Submitted r))
  after-tick p = past-tick x.call p.order b p.call p.ticked.replies p.ticked.run at.run

  abbrev EndOf : AllFour x b → Capability → Type 0
  EndOf p c = (r.decision ≡ Decision.Executed) × Completed c p.order p.first p.second p.book at.book r

  all-four-end : (p : AllFour x b) → EndOf p p.capability
  unfolding order_capability
  all-four-end p = go (judged p.order p.book)
    where
      w : Runs (admit (validate p.order p.book) p.order p.book)
          (Observed (Some p.first) ∷ Executed true ∷ Observed (Some p.second) ∷ Recorded ∷ []) (after-tick p).0 (Done at.book (Submitted r))
      w =
          subst (λ (rs : List Reply). Runs (admit (validate p.order p.book) p.order p.book) rs (after-tick p).0 (Done at.book (Submitted r)))
          p.replies (after-tick p).1

      go : Judged p.order p.book → EndOf p p.capability
      go (admitted a) =
          let same : p.capability ≡ a.capability = some-injective _ _ (sym (with-named p.known) ∙ with-named a.known) in
          let good = subst (λ (c : Capability). verified c.verification p.order.action.parameters p.second ≡ true) same
          (means-verified _ _ _ p.verified) in
          subst (EndOf p) (sym same)
          (completes a.capability a.lease p.order p.book a.leased p.first p.second good (rw (admits p.order p.book a) at w))
      go (refused reason q) = absurd (nothing_seen reason p.order p.book _ (rw q at w))

  pub executed-exactly : (r.decision ≡ Decision.Executed) ↔ AllFour x b
  executed-exactly = (four, λ p. (all-four-end p).0)

  pub completed-so : (p : AllFour x b)
      → (after : Book) × (phase_after s h ≡ Idle after) × Completed p.capability p.order p.first p.second p.book after r
  completed-so p = (at.book, at.idle, (all-four-end p).1)

  -- a failure trips, and leaves Faulted
  pub failed-so : r.decision ≡ Decision.Failed → FailedSo s h x b r
  unfolding ticked book_in consumed with_replay with_leases
  failed-so d = go (judged order.0 k.book)
    where
      -- the capabilities are the start's
      own : at.book.capabilities ≡ s.capabilities
      own = (holds s h at.book (ap book_in at.idle)).0.capabilities

      come : (a : Admissible order.0 k.book)
          → Came a.capability order.0 (consumed a.capability a.lease order.0 k.book) k.later k.later_items at.book r
          → FailedSo s h x b r
      come a (all-four first second replies good says) = absurd (failed≢executed (sym d ∙ says))
      come a (short reason steps later first items cause e q n) =
          record {
            order = order.0;
            call = order.1;
            ticked-book = k.book;
            ticked = ticked;
            capability = a.capability;
            known = a.known;
            steps = steps;
            cause = subst (FailedBy a.capability.verification order.0.action.parameters steps) (sym n.says) cause;
            tripping = n.tripping;
            replies = e ∙ ap (λ (rs : List Reply). steps ++ rs) n.replies;
            first = first;
            trip_items = n.trip_items;
            items = q ∙ ap (λ (is : List Item). first ++ is) n.items;
            recorded = n.recorded;
            book = at.book;
            trip = subst
                (λ (why : Reason). Runs (trip why order.0.now n.recorded (λ b. Done b (Submitted r))) n.tripping n.trip_items
                (Done at.book (Submitted r))) (sym n.says) n.trips;
            fell-back = λ axis m. subst (λ (why : Reason). Mem (ItemFallback axis why) n.trip_items) (sym n.says)
                (n.swept.each axis (rw (← n.swept.capabilities, own) m));
            left = at.idle;
            state = n.state ∙ faulted reason k.book.state (of_one cause) a.not-estopped;
          }

      go : Judged order.0 k.book → FailedSo s h x b r
      go (admitted a) = come a (outcome a)
      go (refused reason q) = absurd (rejected≢failed (sym (rejects-so reason order.0 k.book (rw q at k.left)) ∙ d))

  -- what was observed was not rejected
  pub observed-not-rejected : (axis : ℕ) → Mem (ItemObserve axis) x.items → r.decision ≢ Decision.Rejected
  observed-not-rejected axis m d =
      let p = (admitted-iff s h x b e f order.0 order.1).0 (axis, m) in
      let a = p.admissible in
      let w = past-tick x.call order.0 b order.1 p.ticked.replies p.ticked.run at.run in
      not-rejected (came a.capability a.lease order.0 p.book (rw (admits order.0 p.book a) at w.1))
    where
      not-rejected : {c : Capability} {o : Submission} {b : Book} {rs : List Reply} {is : List Item} {after : Book} → Came c o b rs is after r → ⊥
      not-rejected (all-four first second replies good says) = rejected≢executed (sym d ∙ says)
      not-rejected (short reason steps later first items cause e q n) = rejected≢failed (sym d ∙ n.decision)
