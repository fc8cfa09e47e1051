-- A course followed keeps what is sound. Assumes nothing.
use mathlib.Core.Bool.{false≢true}
use Rattle.state.specs.declared.Course.{Course}
use Rattle.state.specs.declared.Way.{Way}
use Rattle.state.specs.declared.Way.TheVariants.{Falls, Ends, GoesOn}
use Rattle.state.specs.State.{State, InBounds, Sound}
use Rattle.state.specs.Stores.{fallen, ended, followed_by}
use Rattle.state.proofs.Tables.{soonest-counted, cleared-sized, cleared-counted}

fallen-sound : (c : Course) (s : State) → InBounds c.falling → Sound s → Sound (fallen c s)
unfolding fallen
fallen-sound c s b k =
    record {
      checked = k.checked;
      sized = cleared-sized k.sized c.falling.axis b.axis;
      counted = cleared-counted k.sized c.falling.axis b.axis k.counted;
      falling = b;
      order = record { axis = k.order.axis; leased = λ e. absurd (false≢true e) };
    }

ended-sound : (c : Course) (s : State) → InBounds c.falling → Sound s → Sound (ended c s)
unfolding ended
ended-sound c s b k =
    record {
      checked = k.checked;
      sized = k.sized;
      counted = soonest-counted k.sized k.counted;
      falling = b;
      order = record { axis = k.order.axis; leased = λ e. absurd (false≢true e) };
    }

pub follows-sound : (w : Way) (c : Course) (s : State) → InBounds c.falling → Sound s → Sound (followed_by w c s)
unfolding followed_by
follows-sound Falls c s b k = fallen-sound c s b k
follows-sound Ends c s b k = ended-sound c s b k
follows-sound GoesOn c s b k = ended-sound c s b k
