-- Demand 3, and all that is claimed beside it: one theorem over every list of lives whose boot numbers differ. Assumes nothing.
use mathlib.Core.List.{List, map}
use Rattle.rules.specs.Lives.{Life}
use Rattle.rules.specs.Lists.{Distinct}
use Rattle.rules.specs.AnswerFacts.{AnswerFacts}
use Rattle.rules.specs.Claim.{Claim}
use Rattle.rules.specs.Demands.{Demands}
use Rattle.rules.specs.Log.{History}
use Rattle.rules.specs.Protocol.{Start}
use Rattle.rules.proofs.Answered
use Rattle.rules.proofs.Exactly
use Rattle.rules.proofs.Executed
use Rattle.rules.proofs.InHand
use Rattle.rules.proofs.Once
use Rattle.rules.proofs.Refusals.{refusals}
use Rattle.rules.proofs.Rising
use Rattle.rules.proofs.Startup
use Rattle.rules.proofs.StateFacts.{state-facts}
use Rattle.rules.proofs.StopFacts.{stop-facts}
use Rattle.rules.proofs.Turns

answer-facts : (s : Start) (h : History) → AnswerFacts s h
answer-facts s h =
    record {
      kind = Answered.kind-answered s h;
      order = Answered.order-answered s h;
      executed = λ x b r out e f. Executed.executed-exactly s h x b r out e f;
      completed = λ x b r out e f. Executed.completed-so s h x b r out e f;
      failed = λ x b r out e f. Executed.failed-so s h x b r out e f;
      lease = Answered.lease-answered s h;
      grants = Answered.lease-granted s h;
      rising = Rising.rising s h;
    }

pub demand-3 : (lives : List Life) → Distinct (map (λ l. l.start.boot_id) lives) → Claim lives
demand-3 lives differ =
    record {
      turns = Turns.turns;
      once = Once.once lives differ;
      only-submissions = Once.only-submissions;
      live-lease = Once.live-lease;
      begun = InHand.begun;
      admitted = Exactly.admitted-iff;
      exactly = Exactly.exactly;
      startup-first = Startup.startup-first;
      started-up = Startup.started-up;
      there-is-a-runtime = Startup.there-is-a-runtime;
      used-axes = Startup.used-axes;
      observes = Once.observes;
      records = Once.records;
      answers = answer-facts;
      book-facts = Once.book-facts;
    }

pub demands : (lives : List Life) → Distinct (map (λ l. l.start.boot_id) lives) → Demands lives
demands lives differ = record { claim = demand-3 lives differ; refusals = refusals; state = state-facts; stop = stop-facts }
