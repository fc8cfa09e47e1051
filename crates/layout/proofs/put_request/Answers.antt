use Rattle.layout.proofs.Becomes.{request-becomes}
use borrow.Author.Rules.{rules}
use Rattle.layout.proofs.put_request.Goals as goal

pub returns : goal.returns
returns c = request-becomes (search rules) c.write.ensures c.request_row-words.ensures
