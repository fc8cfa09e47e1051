-- A rule that takes what follows it is the rule alone, followed by that; and what the shared rules hand out is fallbacks and their
-- receipts. Then how a run of the whole divides into a run of the rule and a run of what follows. Assumes nothing.
use Prim.Native.Nat.{ℕ, ◌-◌}
use mathlib.Core.Bool.{Bool, true, false, cond, ◌&&◌}
use mathlib.Core.List.{List, [], ◌∷◌, ◌++◌}
use mathlib.Core.Logic.{inl, inr}
use Rattle.std.specs.Prelude.{Option, Some, None}
use mathlib.Core.Path.{◌≡◌, refl, ap, subst}
use lib.Dec.{ltb}
use Rattle.model.specs.declared.Decision.TheVariants as Decision
use Rattle.model.specs.declared.Reason.{Reason}
use Rattle.model.specs.declared.Receipt.{Receipt}
use Rattle.rules.specs.Book.{Book}
use Rattle.rules.specs.With.{with_last_tick}
use Rattle.rules.specs.Receipts.{numbered, event}
use Rattle.rules.specs.Interaction.{Answer, Returned, Interaction, Done, Observe, Execute, Fallback, Record}
use Rattle.rules.specs.Admission.{axes, is_armed, is_stale}
use Rattle.rules.specs.Lists.{Mem}
use Rattle.rules.specs.Rules.{record_receipt, fallback, fallbacks, trip, fallback_or_trip, watchdog, staleness, fallback_if, expiries, supervise, tick, exhausted, refresh_state}
use Rattle.rules.specs.Protocol.{Reply, Recorded, Item, ItemObserve, ItemExecute, ItemFallback, ItemRecord}
use Rattle.rules.specs.Way.{Takes, observed, executed, fell_back, recorded, Runs, here, then}

-- The second interaction is the first, with another that E allows in the place of each end; the first hands out only fallback items,
-- and record items whose receipts Q allows.
pub data Follows (Q : Receipt → Type 0) (E : Book → Answer → Interaction → Type 0) : Interaction → Interaction → Type 0 where
  ends : {b : Book} {a : Answer} {u : Interaction} → E b a u → Follows Q E (Done b a) u
  falls : {axis : ℕ} {r : Reason} {b : Book} {f g : Bool → Interaction}
      → ((ok : Bool) → Follows Q E (f ok) (g ok)) → Follows Q E (Fallback axis r b f) (Fallback axis r b g)
  records : {r : Receipt} {b : Book} {t u : Interaction} → Q r → Follows Q E t u → Follows Q E (Record r b t) (Record r b u)

-- the receipt of a fallback
abbrev pub OfFallback : Receipt → Type 0
OfFallback r = r.decision ≡ Decision.Fallback

-- ---- the rules that take what follows them: what follows the two may differ as E allows

pub either : {Q : Receipt → Type 0} {E : Book → Answer → Interaction → Type 0} {t t' u u' : Interaction} (test : Bool)
    → Follows Q E t u → Follows Q E t' u' → Follows Q E (cond test t t') (cond test u u')
either true h h' = h
either false h h' = h'

module _ {Q : Receipt → Type 0} {E : Book → Answer → Interaction → Type 0} (own : (r : Receipt) → OfFallback r → Q r) where
  pub follows-fallback : {f g : Bool → Book → Interaction} (axis : ℕ) (reason : Reason) (now : ℕ) (b : Book)
      → ((ok : Bool) (b : Book) → Follows Q E (f ok b) (g ok b)) → Follows Q E (fallback axis reason now b f) (fallback axis reason now b g)
  unfolding fallback record_receipt numbered event
  follows-fallback axis reason now b next = falls (λ ok. records (own _ refl) (next ok _))

  module _ {f g : Book → Interaction} (now : ℕ) (next : (b : Book) → Follows Q E (f b) (g b)) where
    follows-fallbacks : (axes : List ℕ) (reason : Reason) (b : Book)
        → Follows Q E (fallbacks axes reason now b f) (fallbacks axes reason now b g)
    unfolding fallbacks
    follows-fallbacks [] reason b = next b
    follows-fallbacks (axis ∷ rest) reason b = follows-fallback axis reason now b (λ ok b'. follows-fallbacks rest reason b')

    pub follows-trip : (reason : Reason) (b : Book) → Follows Q E (trip reason now b f) (trip reason now b g)
    unfolding trip
    follows-trip reason b = follows-fallbacks _ reason _

    pub follows-fallback-or-trip : (axis : ℕ) (reason : Reason) (b : Book)
        → Follows Q E (fallback_or_trip axis reason now b f) (fallback_or_trip axis reason now b g)
    unfolding fallback_or_trip
    follows-fallback-or-trip axis reason b =
        follows-fallback axis reason now b (λ ok b'. either ok (next b') (follows-trip Reason.Driver b'))

    follows-fallback_if : (due : Option Reason) (axis : ℕ) (b : Book)
        → Follows Q E (fallback_if due axis now b f) (fallback_if due axis now b g)
    unfolding fallback_if
    follows-fallback_if None axis b = next b
    follows-fallback_if (Some reason) axis b = follows-fallback-or-trip axis reason b

    follows-watchdog : (b : Book) → Follows Q E (watchdog now b f) (watchdog now b g)
    unfolding watchdog
    follows-watchdog b =
        either (ltb b.config.watchdog_ms (now - b.last_tick) && is_armed b.state) (follows-trip Reason.Watchdog b) (next b)

    follows-staleness : (b : Book) → Follows Q E (staleness now b f) (staleness now b g)
    unfolding staleness
    follows-staleness b = either (is_stale now b && is_armed b.state) (follows-trip Reason.StateStale b) (next b)

  follows-expiries : {f g : Book → Interaction} (now : ℕ) → ((b : Book) → Follows Q E (f b) (g b)) → (axes : List ℕ) (b : Book)
      → Follows Q E (expiries axes now b f) (expiries axes now b g)
  unfolding expiries
  follows-expiries now next [] b = next b
  follows-expiries now next (axis ∷ rest) b = follows-fallback_if now (follows-expiries now next rest) _ axis b

  pub follows-tick : {f g : Book → Interaction} (now : ℕ) → ((b : Book) → Follows Q E (f b) (g b)) → (b : Book)
      → Follows Q E (tick now b f) (tick now b g)
  unfolding tick supervise
  follows-tick now next b =
      either (ltb now b.last_tick) (follows-trip now next Reason.Clock b)
      (either (exhausted b) (follows-trip now next Reason.Faulted b)
      (follows-watchdog now
      (λ b₁. follows-staleness now (follows-expiries now (λ b₂. next (refresh_state b₂)) axes) (with_last_tick now b₁)) b))

-- ---- runs, and the items that they hand out: those answered, and the one at which the run stands

-- the item at which an interaction stands
unfoldable pub items_at : Interaction → List Item
items_at (Done b a) = []
items_at (Observe axis b k) = ItemObserve axis ∷ []
items_at (Execute c p b k) = ItemExecute c p ∷ []
items_at (Fallback axis r b k) = ItemFallback axis r ∷ []
items_at (Record r b k) = ItemRecord r ∷ []

pub item-taken : {t u : Interaction} {r : Reply} {i : Item} → Takes t r i u → items_at t ≡ i ∷ []
unfolding items_at
item-taken observed = refl
item-taken executed = refl
item-taken fell_back = refl
item-taken recorded = refl

-- one more reply
pub one_more : {t u v : Interaction} {rs : List Reply} {is : List Item} {r : Reply} {i : Item}
    → Runs t rs is u → Takes u r i v → Runs t (rs ++ (r ∷ [])) (is ++ (i ∷ [])) v
one_more here n = then n here
one_more (then m w) n = then m (one_more w n)

only : {A : Type 0} {a b : A} → Mem a (b ∷ []) → a ≡ b
only (inl e) = e
only (inr m) = absurd m

-- the item at which a run begins is among those handed out
pub first-item : {t u : Interaction} {rs : List Reply} {is : List Item} (i : Item)
    → Runs t rs is u → Mem i (items_at t) → Mem i (is ++ items_at u)
first-item i here m = m
first-item i (then n w) m = inl (only (rw (item-taken n) at m))

-- the items that an interaction does not hand out if it hands out only fallbacks and receipts that Q allows
abbrev pub Foreign : (Receipt → Type 0) → Item → Type 0
Foreign Q (ItemObserve axis) = Unit
Foreign Q (ItemExecute c p) = Unit
Foreign Q (ItemFallback axis r) = ⊥
Foreign Q (ItemRecord r) = ¬ Q r

-- it has ended
abbrev pub Finished : Interaction → Type 0
Finished (Done b a) = Unit
Finished (Observe axis b k) = ⊥
Finished (Execute c p b k) = ⊥
Finished (Fallback axis r b k) = ⊥
Finished (Record r b k) = ⊥

-- a run of the whole is past the end of the first interaction if it has ended, or handed out what the first does not
pub data Beyond (Q : Receipt → Type 0) (is : List Item) (v : Interaction) : Type 0 where
  over : Finished v → Beyond Q is v
  handed : (i : Item) → Foreign Q i → Mem i (is ++ items_at v) → Beyond Q is v

-- the first interaction has ended, and the run goes on along what follows it
pub record Past (Q : Receipt → Type 0) (E : Book → Answer → Interaction → Type 0) (t v : Interaction) (rs : List Reply)
    (is : List Item) : Type 0 where
  pub book : Book
  pub answer : Answer
  pub first : List Reply
  pub first_items : List Item
  pub ended : Runs t first first_items (Done book answer)
  pub second : List Reply
  pub second_items : List Item
  pub split : rs ≡ first ++ second
  pub split_items : is ≡ first_items ++ second_items
  pub next : Interaction
  pub end : E book answer next
  pub left : Runs next second second_items v
  pub among : (i : Item) → Foreign Q i → Mem i (is ++ items_at v) → Mem i (second_items ++ items_at v)

module _ (Q : Receipt → Type 0) (j : Item) (own : ¬ Foreign Q j) where
  -- a foreign item is not the next one, if that one is not foreign
  not_first : (i : Item) (is : List Item) → Foreign Q i → Mem i (j ∷ is) → Mem i is
  not_first i is d (inl e) = absurd (own (subst (Foreign Q) e d))
  not_first i is d (inr m) = m

  not_yet : {is : List Item} {v : Interaction} → Beyond Q (j ∷ is) v → Beyond Q is v
  not_yet (over f) = over f
  not_yet {is} {v} (handed i d m) = handed i d (not_first i (is ++ items_at v) d m)

module _ {Q : Receipt → Type 0} {E : Book → Answer → Interaction → Type 0} where
  later : {t t' v : Interaction} {rs : List Reply} {is : List Item} {r : Reply} {j : Item} → ¬ Foreign Q j → Takes t r j t'
      → Past Q E t' v rs is → Past Q E t v (r ∷ rs) (j ∷ is)
  later {v = v} {is = is} {r = r} {j = j} own n p =
      record {
        book = p.book;
        answer = p.answer;
        first = r ∷ p.first;
        first_items = j ∷ p.first_items;
        ended = then n p.ended;
        second = p.second;
        second_items = p.second_items;
        split = ap (λ l. r ∷ l) p.split;
        split_items = ap (λ l. j ∷ l) p.split_items;
        next = p.next;
        end = p.end;
        left = p.left;
        among = λ i d m. p.among i d (not_first Q j own i (is ++ items_at v) d m);
      }

  pub past : {t u v : Interaction} {rs : List Reply} {is : List Item} → Follows Q E t u → Runs u rs is v → Beyond Q is v → Past Q E t v rs is
  unfolding items_at
  past {rs = rs} {is = is} (ends {b = b} {a = a} {u = u} e) w m =
      record {
        book = b;
        answer = a;
        first = [];
        first_items = [];
        ended = here;
        second = rs;
        second_items = is;
        split = refl;
        split_items = refl;
        next = u;
        end = e;
        left = w;
        among = λ i d m. m;
      }
  past (falls h) here (over f) = absurd f
  past (falls h) here (handed i d m) = absurd (not_first Q _ (λ d. d) i [] d m)
  past (falls h) (then (fell_back {ok = ok}) w) m = later (λ d. d) fell_back (past (h ok) w (not_yet Q _ (λ d. d) m))
  past (records q h) here (over f) = absurd f
  past (records q h) here (handed i d m) = absurd (not_first Q _ (λ d. d q) i [] d m)
  past (records q h) (then recorded w) m = later (λ d. d q) recorded (past h w (not_yet Q _ (λ d. d q) m))

-- where the first interaction ends along the first replies, the rest of them are for what follows it
pub record Rest (E : Book → Answer → Interaction → Type 0) (b : Book) (a : Answer) (second : List Reply) (v : Interaction)
    (is : List Item) : Type 0 where
  pub next : Interaction
  pub end : E b a next
  pub items : List Item
  pub left : Runs next second items v
  pub among : (i : Item) → Mem i (items ++ items_at v) → Mem i (is ++ items_at v)

module _ {E : Book → Answer → Interaction → Type 0} {second : List Reply} {v : Interaction} {b : Book} {a : Answer} where
  further : {is : List Item} {j : Item} → Rest E b a second v is → Rest E b a second v (j ∷ is)
  further r = record { next = r.next; end = r.end; items = r.items; left = r.left; among = λ i m. inr (r.among i m) }

  pub rest : {Q : Receipt → Type 0} {t u : Interaction} {first : List Reply} {first_items is : List Item}
      → Follows Q E t u → Runs t first first_items (Done b a) → Runs u (first ++ second) is v → Rest E b a second v is
  rest {is = is} (ends {u = u} e) here w = record { next = u; end = e; items = is; left = w; among = λ i m. m }
  rest (ends e) (then n p) w = elim n [ ]
  rest (falls h) (then (fell_back {ok = ok}) p) (then fell_back w) = further (rest (h ok) p w)
  rest (records q h) (then recorded p) (then recorded w) = further (rest h p w)

-- ---- what ends by itself

-- each end stays as it is, and its answer meets P
abbrev pub Ended : (Answer → Type 0) → Book → Answer → Interaction → Type 0
Ended P b a u = (u ≡ Done b a) × P a

nothing-taken : {b : Book} {a : Answer} {t : Interaction} {r : Reply} {i : Item} → Takes (Done b a) r i t → ⊥
nothing-taken n = elim n [ ]

-- a run that passes a record item, and how it goes on from there
pub record Noted (r : Receipt) (k v : Interaction) (rs : List Reply) (is : List Item) : Type 0 where
  pub later : List Reply
  pub later_items : List Item
  pub replies : rs ≡ Recorded ∷ later
  pub items : is ≡ ItemRecord r ∷ later_items
  pub left : Runs k later later_items v

-- a run from a record item to an end passes it
pub noted : {r : Receipt} {b b' : Book} {a : Answer} {k : Interaction} {rs : List Reply} {is : List Item}
    → Runs (Record r b k) rs is (Done b' a) → Noted r k (Done b' a) rs is
noted (then {rs = rs} {is = is} recorded w) = record { later = rs; later_items = is; replies = refl; items = refl; left = w }

-- a run from an end stays there
pub record Stayed (b : Book) (a : Answer) (rs : List Reply) (is : List Item) (b' : Book) (a' : Answer) : Type 0 where
  pub book : b ≡ b'
  pub answer : a ≡ a'
  pub replies : rs ≡ []
  pub items : is ≡ []

pub at-end : {b b' : Book} {a a' : Answer} {rs : List Reply} {is : List Item} → Runs (Done b a) rs is (Done b' a') → Stayed b a rs is b' a'
at-end here = record { book = refl; answer = refl; replies = refl; items = refl }
at-end (then n w) = absurd (nothing-taken n)

nothing-handed : {b : Book} {a : Answer} {v : Interaction} {rs : List Reply} {is : List Item} (i : Item)
    → Runs (Done b a) rs is v → ¬ Mem i (is ++ items_at v)
unfolding items_at
nothing-handed i here m = m
nothing-handed i (then n w) m = nothing-taken n

nothing-recorded : {b b' : Book} {a : Answer} {r : Receipt} {k : Interaction} {rs : List Reply} {is : List Item}
    → Runs (Done b a) rs is (Record r b' k) → ⊥
nothing-recorded (then n w) = nothing-taken n

module _ {Q : Receipt → Type 0} {P : Answer → Type 0} where
  -- it hands out nothing foreign
  pub quiet : {t v : Interaction} {rs : List Reply} {is : List Item} (i : Item) → Foreign Q i
      → Follows Q (Ended P) t t → Runs t rs is v → ¬ Mem i (is ++ items_at v)
  quiet i d h w m =
      let p = past h w (handed i d m) in
      nothing-handed i (rw p.end.0 at p.left) (p.among i d m)

  -- it records what Q allows
  pub recorded-as : {t u : Interaction} {rs : List Reply} {is : List Item} {r : Receipt} {b : Book} {k : Interaction}
      → Follows Q (Ended P) t u → Runs u rs is (Record r b k) → Q r
  recorded-as (ends e) w = absurd (nothing-recorded (rw e.0 at w))
  recorded-as (falls h) (then (fell_back {ok = ok}) w) = recorded-as (h ok) w
  recorded-as (records q h) here = q
  recorded-as (records q h) (then recorded w) = recorded-as h w

  -- and answers as P says
  pub answers-as : {t : Interaction} {rs : List Reply} {is : List Item} {b : Book} {a : Answer} → Follows Q (Ended P) t t
      → Runs t rs is (Done b a) → P a
  answers-as h w = let p = past h w (over tt) in subst P (at-end (rw p.end.0 at p.left)).answer p.end.1

-- ---- what follows a tick

-- a tick returns, and this follows
abbrev pub Then : (Book → Interaction) → Book → Answer → Interaction → Type 0
Then next b a u = (a ≡ Returned) × (u ≡ next b)

pub tick-then : (now : ℕ) (next : Book → Interaction) (b : Book)
    → Follows OfFallback (Then next) (tick now b (λ b. Done b Returned)) (tick now b next)
tick-then now next b = follows-tick (λ r e. e) now (λ b. ends (refl, refl)) b
