-- A call or a reply meets a state that waits, or one that is idle. Assumes nothing.
use mathlib.Core.Bool.{true, false, false≢true}
use mathlib.Core.Path.{◌≡◌, refl, sym}
use Rattle.rules.specs.Book.{Book}
use Rattle.rules.specs.Protocol.{Call, Reply, Calls, Replies, Reminds, Refuses, Reaction, item_of, begin, proceed, called, replied, effect, apply, react}
use Rattle.model.specs.Reasons.{reply_awaited, no_reply_awaited}
use Rattle.state.specs.declared.Answer.TheVariants as Answer
use Rattle.state.specs.declared.Awaited.{Awaited}
use Rattle.state.specs.State.{Asked, Hand, State, book_in, waits, phase_at, phase_of, item_at, output_of, reaction_of}

reminded : (w : Awaited) (h : Hand) (q : Asked) (b : Book) (c : Call) → waits w ≡ true
    → ◌≡◌ {A = Reaction} (record { output = Reminds reply_awaited (item_at w h q); phase = phase_at w h q b }) (react (phase_at w h q b) (Calls c))
unfolding phase_at item_at item_of react effect apply called
reminded Awaited.Nothing h q b c e = absurd (false≢true e)
reminded Awaited.ObserveBefore h q b c e = refl
reminded Awaited.Execute h q b c e = refl
reminded Awaited.ObserveAfter h q b c e = refl
reminded Awaited.Fallback h q b c e = refl
reminded Awaited.Record h q b c e = refl

begun : (w : Awaited) (h : Hand) (q : Asked) (b : Book) (c : Call) → waits w ≡ false → react (phase_at w h q b) (Calls c) ≡ proceed (begin c b)
unfolding phase_at react effect apply called
begun Awaited.Nothing h q b c e = refl
begun Awaited.ObserveBefore h q b c e = absurd (false≢true (sym e))
begun Awaited.Execute h q b c e = absurd (false≢true (sym e))
begun Awaited.ObserveAfter h q b c e = absurd (false≢true (sym e))
begun Awaited.Fallback h q b c e = absurd (false≢true (sym e))
begun Awaited.Record h q b c e = absurd (false≢true (sym e))

idle : (w : Awaited) (h : Hand) (q : Asked) (b : Book) (r : Reply) → waits w ≡ false
    → ◌≡◌ {A = Reaction} (record { output = Refuses no_reply_awaited; phase = phase_at w h q b }) (react (phase_at w h q b) (Replies r))
unfolding phase_at react effect apply replied
idle Awaited.Nothing h q b r e = refl
idle Awaited.ObserveBefore h q b r e = absurd (false≢true (sym e))
idle Awaited.Execute h q b r e = absurd (false≢true (sym e))
idle Awaited.ObserveAfter h q b r e = absurd (false≢true (sym e))
idle Awaited.Fallback h q b r e = absurd (false≢true (sym e))
idle Awaited.Record h q b r e = absurd (false≢true (sym e))

module _ (s : State) where
  -- 111, with the awaited item again
  pub call-waits : (c : Call) → waits s.hand.waiting.awaited ≡ true → reaction_of Answer.ReplyAwaited s ≡ react (phase_of s) (Calls c)
  unfolding reaction_of output_of phase_of
  call-waits c e = reminded s.hand.waiting.awaited s.hand s.asked (book_in s) c e

  -- the call begins
  pub call-begins : (c : Call) → waits s.hand.waiting.awaited ≡ false → react (phase_of s) (Calls c) ≡ proceed (begin c (book_in s))
  unfolding phase_of
  call-begins c e = begun s.hand.waiting.awaited s.hand s.asked (book_in s) c e

  -- 112
  pub reply-idle : (r : Reply) → waits s.hand.waiting.awaited ≡ false → reaction_of Answer.NoReplyAwaited s ≡ react (phase_of s) (Replies r)
  unfolding reaction_of output_of phase_of
  reply-idle r e = idle s.hand.waiting.awaited s.hand s.asked (book_in s) r e
