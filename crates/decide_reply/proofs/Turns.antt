-- A reply meets a state that waits: for another, or for it. Assumes nothing.
use mathlib.Core.Path.{◌≡◌, sym, ap, subst, ◌∙◌}
use Rattle.model.specs.Reasons.{other_reply_awaited}
use Rattle.rules.specs.Protocol.{Reply, Replies, Reminds, Reaction, Stays, Moves as Goes, replied, effect, apply, react}
use Rattle.state.specs.declared.Answer.TheVariants as Answer
use Rattle.state.specs.declared.Awaited.{Awaited}
use Rattle.state.specs.declared.Waiting.{Waiting}
use Rattle.state.specs.State.{State, book_in, phase_at, phase_of, item_at, output_of, reaction_of}

pub awaits : {x y : Waiting} {w : Awaited} → x ≡ y → y.awaited ≡ w → x.awaited ≡ w
awaits e k = ap (λ (x : Waiting). x.awaited) e ∙ k

module _ (s : State) (r : Reply) {w : Awaited} (e : s.hand.waiting.awaited ≡ w) where
  -- 113, with the awaited item again
  pub reply-other : replied r (phase_at w s.hand s.asked (book_in s)) ≡ Stays (Reminds other_reply_awaited (item_at w s.hand s.asked))
      → reaction_of Answer.OtherAwaited s ≡ react (phase_of s) (Replies r)
  unfolding reaction_of output_of phase_of react effect apply
  reply-other k =
      subst
      (λ (x : Awaited).
      ◌≡◌ {A = Reaction}
      (record { output = Reminds other_reply_awaited (item_at x s.hand s.asked); phase = phase_at x s.hand s.asked (book_in s) })
      (react (phase_at x s.hand s.asked (book_in s)) (Replies r)))
      (sym e) (rw k)

  pub reply-goes : {x : Reaction} → replied r (phase_at w s.hand s.asked (book_in s)) ≡ Goes x → x ≡ react (phase_of s) (Replies r)
  unfolding phase_of react effect apply
  reply-goes {x} k = subst (λ (y : Awaited). x ≡ react (phase_at y s.hand s.asked (book_in s)) (Replies r)) (sym e) (rw k)
