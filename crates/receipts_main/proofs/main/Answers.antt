-- Each check is true by what the rings are promised to keep.
use mathlib.Core.Path.{ap, ◌∙◌}
use lib.ListN.{length}
use Rattle.receipts_main.proofs.Issued.{shown, fifth, count65, after65, after66}
use Rattle.receipts_main.proofs.main.Goals as goal

pub prove-unreachable-requires : goal.prove-unreachable-requires
prove-unreachable-requires c = c.if-prove.true (shown 4 c.filled-full.ensures fifth c.number_at-fifth.ensures)

pub prove-unreachable-requires-2 : goal.prove-unreachable-requires-2
prove-unreachable-requires-2 c = c.if-prove-2.true (c.count-full_again.ensures ∙ ap length c.sixty_five-next.ensures.keeps ∙ count65)

pub prove-unreachable-requires-3 : goal.prove-unreachable-requires-3
prove-unreachable-requires-3 c = c.if-prove-3.true (shown 0 c.sixty_five-next.ensures after65.first c.number_at-first.ensures)

pub prove-unreachable-requires-4 : goal.prove-unreachable-requires-4
prove-unreachable-requires-4 c = c.if-prove-4.true (shown 3 c.sixty_five-next.ensures after65.before c.number_at-before.ensures)

pub prove-unreachable-requires-5 : goal.prove-unreachable-requires-5
prove-unreachable-requires-5 c = c.if-prove-5.true (shown 4 c.sixty_five-next.ensures after65.after c.number_at-after.ensures)

pub prove-unreachable-requires-6 : goal.prove-unreachable-requires-6
prove-unreachable-requires-6 c = c.if-prove-6.true (shown 63 c.sixty_five-next.ensures after65.last c.number_at-newest.ensures)

pub prove-unreachable-requires-7 : goal.prove-unreachable-requires-7
prove-unreachable-requires-7 c = c.if-prove-7.true (shown 64 c.sixty_five-next.ensures after65.past c.number_at-past.ensures)

pub prove-unreachable-requires-8 : goal.prove-unreachable-requires-8
prove-unreachable-requires-8 c = c.if-prove-8.true (shown 0 c.sixty_six-last.ensures after66.first c.number_at-second.ensures)

pub prove-unreachable-requires-9 : goal.prove-unreachable-requires-9
prove-unreachable-requires-9 c = c.if-prove-9.true (shown 63 c.sixty_six-last.ensures after66.last c.number_at-end.ensures)
