use Rattle.host_steps.proofs.Courses.{answers, goes}
use Rattle.host_steps.proofs.conclude.Goals as goal

pub returns-in-Answers : goal.returns-in-Answers
returns-in-Answers c = answers _ _ c.in-Answers.is

pub returns-in-GoesOn : goal.returns-in-GoesOn
returns-in-GoesOn c = goes _ c.in-GoesOn.is c.go_on.ensures
