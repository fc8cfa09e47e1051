use Rattle.state.specs.State.{InBounds}
use Rattle.rows.specs.Rows.{falling_of, falling_words}
use Rattle.format.proofs.FieldLaws.{bit-back, reason-back}
use Rattle.rows.proofs.Codes.{below-back, after-fallback-back, after-trip-back}
use Rattle.rows.proofs.falling_words.Goals as goal

pub returns : goal.returns
unfolding falling_of falling_words
returns c =
    let x = c.args.falling in
    (rw (c.after_trip_word.ensures, c.bit.ensures, c.after_fallback_word.ensures, c.reason_number.ensures), λ (h : InBounds x). rw (below-back 8 x.axis h.axis, below-back 8 x.at h.at, reason-back x.reason, after-fallback-back x.after, bit-back x.good, after-trip-back x.after_trip))
