-- A decision's course followed in a runtime leaves it where the rule says, and in order. Assumes nothing.
use Prim.Native.Nat.{ℕ, zero, suc}
use mathlib.Core.Bool.{Bool, true, false, not, false≢true}
use mathlib.Core.List.{List, [], ◌∷◌}
use Rattle.std.specs.Prelude.{Option, None}
use mathlib.Core.Path.{◌≡◌, refl, sym, ap, subst, ◌∙◌}
use lib.Dec.{T}
use lib.ListN.{get_or, set, length-set}
use Rattle.model.specs.Records.{no_lease, no_active}
use Rattle.rules.specs.Book.{Book}
use Rattle.rules.specs.Interaction.{Interaction, Done, Returned}
use Rattle.rules.specs.Protocol.{proceed}
use Rattle.rules.specs.Rules.{emergency_stop, stop_time}
use Rattle.state.specs.State.{State, Asked, lease_in, active_in, book_in, after_tick, after_trip, reaction_of, Sound}
use Rattle.state.specs.Stores.{goes_on, Settles, Reaches, Leads, Takes, followed_by}
use Rattle.state.specs.declared.AfterTrip.TheVariants as AfterTrip
use Rattle.state.specs.declared.Answer.{Answer}
use Rattle.state.specs.declared.Course.{Course}
use Rattle.state.specs.declared.Way.{Way}
use Rattle.state.specs.declared.Way.TheVariants.{Falls, Ends, GoesOn}
use Rattle.state.proofs.Follows.{follows-sound}
use Rattle.runtime.specs.declared.Runtime.{Runtime}
use Rattle.runtime.specs.Kept.{emptied, idled, clears, followed_in}
use Rattle.runtime.specs.Promises.{Kept, Good, MovesIn, Leaves}
use Rattle.runtime.specs.Runtimes.{tables_in, asked_in, hand_in, state_in, book_on}
use Rattle.runtime.proofs.Follows.{follows}

-- a test that was made
pub is-yes : (b : Bool) → T b → b ≡ true
is-yes true t = refl
is-yes false t = absurd t

pub is-no : (b : Bool) → T (not b) → b ≡ false
is-no true t = absurd t
is-no false t = refl

-- a place without anything stays so where nothing is stored
stays-empty : {A B : Type 0} (f : A → Option B) (d : A) (l : List A) (i j : ℕ) (x : A) → f x ≡ None → f (get_or l j d) ≡ None → f (get_or (set l i x) j d) ≡ None
stays-empty f d [] i j x e k = k
stays-empty f d (a ∷ l) zero zero x e k = e
stays-empty f d (a ∷ l) zero (suc j) x e k = k
stays-empty f d (a ∷ l) (suc i) zero x e k = k
stays-empty f d (a ∷ l) (suc i) (suc j) x e k = stays-empty f d l i j x e k

followed-kept : (c : Course) (h : Runtime) → Kept h → Kept (followed_in c h)
followed-kept c h k =
    let i = clears c.way c.falling.axis in
    let z = k.sized in
    record {
      sized =
          record {
            leases = length-set h.leases i _ ∙ z.leases;
            active = length-set h.active i _ ∙ z.active;
            capabilities = z.capabilities;
            replay = z.replay;
            rejected = z.rejected;
            others = z.others;
            slots = z.slots;
            lease = stays-empty lease_in no_lease h.leases i 8 (emptied (get_or h.leases i no_lease)) refl z.lease;
            order = stays-empty active_in no_active h.active i 8 (idled (get_or h.active i no_active)) refl z.order;
          };
      placed =
          record {
            count = k.placed.count;
            slot = k.placed.slot;
            capability = k.placed.capability;
            replay = k.placed.replay;
            receipts = k.placed.receipts;
          };
    }

settled : (w : Way) (c : Course) (s : State) (i : Interaction) → goes_on w ≡ false → Reaches w c s i
    → reaction_of c.answer (followed_by w c s) ≡ proceed i
unfolding Reaches followed_by
settled Falls c s i e r = r
settled Ends c s i e r = r
settled GoesOn c s i e r = absurd (false≢true (sym e))

going : (w : Way) (c : Course) (s : State) (i : Interaction) → goes_on w ≡ true → Reaches w c s i
    → proceed (after_tick s.asked (book_in (followed_by w c s))) ≡ proceed i
unfolding Reaches followed_by
going Falls c s i e r = absurd (false≢true e)
going Ends c s i e r = absurd (false≢true e)
going GoesOn c s i e r = r

module _ (h : Runtime) (c : Course) (i : Interaction) (k : Good h) (l : Leads c (state_in h) i) where
  as-state : state_in (followed_in c h) ≡ followed_by c.way c (state_in h)
  as-state = follows c.way c h k.kept.sized l.falling

  pub followed-good : Good (followed_in c h)
  followed-good =
      record {
        kept = followed-kept c h k.kept;
        sound = subst Sound (sym as-state) (follows-sound c.way c (state_in h) l.falling k.sound);
        started = k.started;
      }

  -- a course that ends with an item or an answer
  pub followed-moves : (z : Runtime) (r : Answer) → Settles c → Leaves (followed_in c h) c.answer z r → MovesIn z r (proceed i)
  followed-moves z r e left =
      record {
        reaction =
            ap (λ (a : Answer). reaction_of a (state_in z)) left.answered
            ∙ ap (λ (x : Runtime). reaction_of c.answer (state_in x)) left.stored
            ∙ ap (reaction_of c.answer) as-state
            ∙ settled c.way c (state_in h) i e l.reaches;
        good = subst Good (sym left.stored) followed-good;
      }

  -- .. and one that goes on with the call in hand
  pub followed-on : goes_on c.way ≡ true → proceed (after_tick (asked_in h) (book_on (followed_in c h))) ≡ proceed i
  followed-on e = ap (λ (s : State). proceed (after_tick (asked_in h) (book_in s))) as-state ∙ going c.way c (state_in h) i e l.reaches

-- a decision's promise in a runtime ---------------------------------------------------------------------------------------

pub leads : (h : Runtime) (c : Course) (rule : Book → Asked → Interaction) → Good h → Takes h.fixed h.numbers c rule
    → Leads c (state_in h) (rule (book_on h) (asked_in h))
leads h c rule k p = p (tables_in h) (asked_in h) (hand_in h) k.sound

-- a stop
pub stops : (h : Runtime) (time : ℕ) (c : Course) → Good h
    → Takes h.fixed h.numbers c (λ b q. emergency_stop time b (after_trip AfterTrip.Return 0 (stop_time time b) q))
    → Leads c (state_in h) (emergency_stop time (book_on h) (λ b. Done b Returned))
unfolding after_trip
stops h time c k p = leads h c (λ b q. emergency_stop time b (λ b'. Done b' Returned)) k p
