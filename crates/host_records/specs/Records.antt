-- What a run of input records does (docs/WIRE.md): each is answered on what the one before left.
use Rattle.std.specs.Prelude.{ℕ, List, [], ◌∷◌, ◌++◌}
use Rattle.model.specs.declared.Capability.{Capability}
use Rattle.rules.specs.Protocol.{Output, Phase, Gone, Reaction, start, react}
use Rattle.format.specs.Decode.{Record, Lists, Starts, Feeds, Malformed}
use Rattle.format.specs.Encode.{padded, encode}

-- the capabilities listed for the next start, and where the life in hand stands
pub record Standing : Type 0 where
  pub listed : List Capability
  pub phase : Phase

-- before the first record: nothing is listed, and there is no runtime
unfoldable pub opening : Standing
opening = record { listed = []; phase = Gone }

-- what a record is answered
pub data Answer : Type 0 where
  Listed : Answer
  Tells : Output → Answer
  Unread : Answer  -- a malformed record

pub record RecordStep : Type 0 where
  pub answer : Answer
  pub standing : Standing

-- where a reaction leaves the life, with what is listed
unfoldable pub told : List Capability → Reaction → RecordStep
told listed r = record { answer = Tells r.output; standing = record { listed = listed; phase = r.phase } }

-- A start takes what is listed, and leaves nothing of it; nor does it leave anything of the life before.
unfoldable pub step : Standing → Record → RecordStep
step s (Lists c) = record { answer = Listed; standing = record { listed = s.listed ++ (c ∷ []); phase = s.phase } }
step s (Starts config boot_id now flags) =
    told [] (start (record { config = config; capabilities = s.listed; boot_id = boot_id; now = now; flags = flags }))
step s (Feeds i) = told s.listed (react s.phase i)
step s Malformed = record { answer = Unread; standing = s }

unfoldable pub answer_words : Answer → List ℕ
answer_words Listed = padded 1 0 []
answer_words (Tells out) = encode out
answer_words Unread = padded 64 0 []

-- the answers to records, each on what the one before left, and what they leave
unfoldable pub answers_from : Standing → List Record → List Answer
answers_from s [] = []
answers_from s (r ∷ rs) = (step s r).answer ∷ answers_from (step s r).standing rs

unfoldable pub standing_after : Standing → List Record → Standing
standing_after s [] = s
standing_after s (r ∷ rs) = standing_after (step s r).standing rs
