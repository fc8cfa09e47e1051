use Rattle.layout.proofs.Becomes.{submission-becomes}
use borrow.Author.Rules.{rules}
use Rattle.layout.proofs.put_submission.Goals as goal

pub returns : goal.returns
returns c = submission-becomes (search rules) c.write.ensures c.submission_row-words.ensures
