-- All that is claimed of every list of lives whose boot numbers differ.
use Rattle.std.specs.Prelude.{List}
use Rattle.rules.specs.Protocol.{Start}
use Rattle.rules.specs.Lives.{Life}
use Rattle.rules.specs.Log.{History}
use Rattle.rules.specs.Claim.{Claim}
use Rattle.rules.specs.Refusals.{Refusals}
use Rattle.rules.specs.StateFacts.{StateFacts}
use Rattle.rules.specs.StopFacts.{StopFacts}

pub record Demands (lives : List Life) : Type 0 where
  -- demand 3
  pub claim : Claim lives
  -- demand 1: "every refusal has the number and the remains set down in 01"
  pub refusals : (s : Start) (h : History) → Refusals s h
  -- the Rust's own statements (proofs.rs), and what 01 says of the state
  pub state : (s : Start) (h : History) → StateFacts s h
  pub stop : StopFacts
