-- What `live` says of a log, in plain facts: a grant to its owner on the axis, and no fallback on the axis since.
use Rattle.std.specs.Prelude.{ℕ, Bool, ◌&&◌, ◌≢◌, ◌≡◌}
use Rattle.std.proofs.Math.Bool.{true, false, cond, false≢true}
use mathlib.Core.List.{[], ◌∷◌, ◌++◌}
use Rattle.std.proofs.Common.{⊎_elim, sym, ◌∙◌, eqb-true}
use Rattle.std.specs.Prelude.{Option, Some, None}
use Rattle.std.proofs.lemmas.Option.{none-some}
use Rattle.std.proofs.lemmas.Option.{same_Some}
use Rattle.std.proofs.Math.Path.{refl, ap}
use Rattle.std.proofs.lemmas.Bool.{eqb-false}
use Rattle.std.proofs.Math.Dec.{eqb}
use Rattle.model.specs.declared.LeaseRequest.{LeaseRequest}
use Rattle.model.specs.declared.Reason.{Reason}
use Rattle.model.specs.declared.Receipt.{Receipt}
use Rattle.rules.specs.Lists.{Mem}
use Rattle.rules.specs.Protocol.{Call, Tick, UpdateState, EmergencyStop, PollEstop, RecoverLocal, Acquire, Renew, Cancel, Submit, ItemObserve, ItemExecute, ItemFallback, ItemRecord}
use Rattle.rules.specs.Log.{Event, Took, Replied, Handed, Ended, Log, call_of, is_control, is_grant, Tenancy, tenancy_of, until, renewed_by, recorded_on, holding, live}

-- The log has a grant on the axis, of an `acquire` with this owner and these capabilities, and no fallback on the axis since.
pub record GrantedTo (axis : ℕ) (t : Tenancy) (l : Log) : Type 0 where
  pub later : Log
  pub receipt : Receipt
  pub earlier : Log
  pub log : l ≡ later ++ (Handed (ItemRecord receipt) ∷ earlier)
  pub request : LeaseRequest
  pub time : ℕ
  pub acquire : call_of earlier ≡ Some (Acquire request time)
  pub grant : is_grant receipt ≡ true
  pub on : receipt.resource ≡ axis
  pub lease : receipt.lease_id ≡ t.lease
  pub owner : request.owner ≡ t.owner
  pub capabilities : request.capabilities ≡ t.capabilities
  pub no-fallback : (reason : Reason) → ¬ Mem (Handed (ItemFallback axis reason)) later

module _ (axis : ℕ) where
  fallback-apart : {i : ℕ} {r r' : Reason} → Handed (ItemFallback axis r) ≡ Handed (ItemFallback i r') → axis ≡ i
  fallback-apart e = cc

  -- one more event that is no fallback on the axis
  one_later : (t : Tenancy) (e : Event) (l : Log) → ((reason : Reason) → Handed (ItemFallback axis reason) ≢ e) → GrantedTo axis t l → GrantedTo axis t (e ∷ l)
  one_later t e l other g =
      record {
        later = e ∷ g.later;
        receipt = g.receipt;
        earlier = g.earlier;
        log = ap (λ (m : Log). e ∷ m) g.log;
        request = g.request;
        time = g.time;
        acquire = g.acquire;
        grant = g.grant;
        on = g.on;
        lease = g.lease;
        owner = g.owner;
        capabilities = g.capabilities;
        no-fallback = λ reason. ⊎_elim (other reason) (g.no-fallback reason);
      }

  -- a grant that is handed out now
  now-granted : (t : Tenancy) (r : Receipt) (l : Log) → is_grant r ≡ true → r.resource ≡ axis → (c : Option Call) → call_of l ≡ c → tenancy_of r.lease_id c ≡ Some t
      → GrantedTo axis t (Handed (ItemRecord r) ∷ l)
  unfolding tenancy_of
  now-granted t r l g on (Some (Acquire q now)) call e =
      let same = same_Some _ _ e in
      record {
        later = [];
        receipt = r;
        earlier = l;
        log = refl;
        request = q;
        time = now;
        acquire = call;
        grant = g;
        on = on;
        lease = ap (λ (x : Tenancy). x.lease) same;
        owner = ap (λ (x : Tenancy). x.owner) same;
        capabilities = ap (λ (x : Tenancy). x.capabilities) same;
        no-fallback = λ reason m. m;
      }
  now-granted t r l g on None call e = absurd (none-some _ e)
  now-granted t r l g on (Some (Tick now)) call e = absurd (none-some _ e)
  now-granted t r l g on (Some (UpdateState flags now)) call e = absurd (none-some _ e)
  now-granted t r l g on (Some (EmergencyStop now)) call e = absurd (none-some _ e)
  now-granted t r l g on (Some (PollEstop raised now)) call e = absurd (none-some _ e)
  now-granted t r l g on (Some (RecoverLocal now)) call e = absurd (none-some _ e)
  now-granted t r l g on (Some (Renew q)) call e = absurd (none-some _ e)
  now-granted t r l g on (Some (Cancel owner id now)) call e = absurd (none-some _ e)
  now-granted t r l g on (Some (Submit s)) call e = absurd (none-some _ e)

  -- a renewal leaves all but the end
  record Renewed (old : Option Tenancy) (t : Tenancy) : Type 0 where
    before : Tenancy
    was : old ≡ Some before
    lease : before.lease ≡ t.lease
    owner : before.owner ≡ t.owner
    capabilities : before.capabilities ≡ t.capabilities

  same-as : (old : Option Tenancy) (t : Tenancy) → old ≡ Some t → Renewed old t
  same-as old t e = record { before = t; was = e; lease = refl; owner = refl; capabilities = refl }

  moved-end : (time : ℕ) (old : Option Tenancy) (t : Tenancy) → until time old ≡ Some t → Renewed old t
  unfolding until
  moved-end time None t e = absurd (none-some _ e)
  moved-end time (Some x) t e =
      let same = same_Some _ _ e in
      record {
        before = x;
        was = refl;
        lease = ap (λ (y : Tenancy). y.lease) same;
        owner = ap (λ (y : Tenancy). y.owner) same;
        capabilities = ap (λ (y : Tenancy). y.capabilities) same;
      }

  renewal : (c : Option Call) (old : Option Tenancy) (t : Tenancy) → renewed_by c old ≡ Some t → Renewed old t
  unfolding renewed_by
  renewal (Some (Renew q)) old t e = moved-end _ old t e
  renewal None old t e = same-as old t e
  renewal (Some (Tick now)) old t e = same-as old t e
  renewal (Some (UpdateState flags now)) old t e = same-as old t e
  renewal (Some (EmergencyStop now)) old t e = same-as old t e
  renewal (Some (PollEstop raised now)) old t e = same-as old t e
  renewal (Some (RecoverLocal now)) old t e = same-as old t e
  renewal (Some (Acquire q now)) old t e = same-as old t e
  renewal (Some (Cancel owner id now)) old t e = same-as old t e
  renewal (Some (Submit s)) old t e = same-as old t e

  granted-before : (l : Log) (old : Option Tenancy) (t : Tenancy) → Renewed old t → ((x : Tenancy) → old ≡ Some x → GrantedTo axis x l) → GrantedTo axis t l
  granted-before l old t k f =
      let g = f k.before k.was in
      record {
        later = g.later;
        receipt = g.receipt;
        earlier = g.earlier;
        log = g.log;
        request = g.request;
        time = g.time;
        acquire = g.acquire;
        grant = g.grant;
        on = g.on;
        lease = g.lease ∙ k.lease;
        owner = g.owner ∙ k.owner;
        capabilities = g.capabilities ∙ k.capabilities;
        no-fallback = g.no-fallback;
      }

  both : (a b : Bool) → (a && b) ≡ true → b ≡ true
  both true b e = e
  both false b e = absurd (false≢true e)

  at-record : (r : Receipt) (l : Log) (t : Tenancy) → recorded_on axis r (call_of l) (live axis l) ≡ Some t
      → ((x : Tenancy) → live axis l ≡ Some x → GrantedTo axis x l) → GrantedTo axis t (Handed (ItemRecord r) ∷ l)
  unfolding recorded_on
  at-record r l t e f = go (is_control r.decision && eqb r.resource axis) refl (is_grant r) refl e
    where
      go : (u : Bool) → (is_control r.decision && eqb r.resource axis) ≡ u → (g : Bool) → is_grant r ≡ g
          → cond u (cond g (tenancy_of r.lease_id (call_of l)) (renewed_by (call_of l) (live axis l))) (live axis l) ≡ Some t
          → GrantedTo axis t (Handed (ItemRecord r) ∷ l)
      go true p true q e = now-granted t r l q (eqb-true _ _ (both (is_control r.decision) _ p)) (call_of l) refl e
      go true p false q e =
          one_later t _ l (λ reason p. false≢true (cc)) (granted-before l (live axis l) t (renewal (call_of l) (live axis l) t e) f)
      go false p g q e = one_later t _ l (λ reason p. false≢true (cc)) (f t e)

  at-fallback : (i : ℕ) (reason : Reason) (l : Log) (t : Tenancy) → cond (eqb i axis) None (live axis l) ≡ Some t
      → (live axis l ≡ Some t → GrantedTo axis t l) → GrantedTo axis t (Handed (ItemFallback i reason) ∷ l)
  at-fallback i reason l t e f = go (eqb i axis) refl e
    where
      go : (u : Bool) → eqb i axis ≡ u → cond u None (live axis l) ≡ Some t → GrantedTo axis t (Handed (ItemFallback i reason) ∷ l)
      go true q e = absurd (none-some _ e)
      go false q e = one_later t _ l (λ r p. eqb-false i axis q (sym (fallback-apart p))) (f e)

  -- 01: "A lease is live from its grant to the next fallback on its axis"
  pub live-means : (l : Log) (t : Tenancy) → live axis l ≡ Some t → GrantedTo axis t l
  unfolding live holding
  live-means [] t e = absurd (none-some _ e)
  live-means (Took c ∷ l) t e = one_later t _ l (λ reason p. false≢true (cc)) (live-means l t e)
  live-means (Replied r ∷ l) t e = one_later t _ l (λ reason p. false≢true (cc)) (live-means l t e)
  live-means (Handed (ItemObserve i) ∷ l) t e = one_later t _ l (λ reason p. false≢true (cc)) (live-means l t e)
  live-means (Handed (ItemExecute c p) ∷ l) t e = one_later t _ l (λ reason p. false≢true (cc)) (live-means l t e)
  live-means (Handed (ItemFallback i reason) ∷ l) t e = at-fallback i reason l t e (live-means l t)
  live-means (Handed (ItemRecord r) ∷ l) t e = at-record r l t e (live-means l)
  live-means (Ended a ∷ l) t e = one_later t _ l (λ reason p. false≢true (cc)) (live-means l t e)
