-- What a host is told where it asks a lent runtime, as the functions promise it that tell it (proofs/Link), and how it reads that by itself.
use Rattle.std.specs.Prelude.{[], ◌∷◌, ◌≢◌, ◌≡◌, pos}
use Rattle.std.specs.Prelude.{Option, Some, None}
use Rattle.model.specs.Records.{no_receipt}
use Rattle.model.specs.declared.Lease.{Lease}
use Rattle.model.specs.declared.Reason.{Reason}
use Rattle.model.specs.declared.Reason.TheVariants.{Ok}
use Rattle.model.specs.declared.Receipt.{Receipt}
use Rattle.rules.specs.Interaction.{Leased, Refused, Submitted}
use Rattle.rules.specs.Protocol.{Item, ItemObserve, ItemExecute, ItemFallback, ItemRecord, Output, Hands, Answers, awaited_in}
use Rattle.state.specs.declared.Answer.{Answer}
use Rattle.state.specs.declared.Answer.TheVariants as Answer
use Rattle.decide_read.specs.Shown.{shown_item}
use Rattle.decide_read.specs.declared.ItemKind.{ItemKind}
use Rattle.decide_read.specs.declared.ItemKind.TheVariants as ItemKind
use Rattle.decide_read.specs.declared.ItemShown.{ItemShown}
use Rattle.runtime.specs.declared.Runtime.{Runtime}
use Rattle.runtime.specs.Stages.{phase_in, RuntimeSound}
use Rattle.lives.specs.Lent.{output_in}

-- the awaited item -----------------------------------------------------------------------------------------------------

-- what `item` promises
abbrev pub ItemTold : Runtime → ItemShown → Type 0
ItemTold rt r = r ≡ shown_item (awaited_in (phase_in rt))

abbrev pub said_by : ItemKind → ItemShown → Option Item
said_by ItemKind.Nothing r = None
said_by ItemKind.Observe r = Some (ItemObserve r.axis)
said_by ItemKind.Execute r = Some (ItemExecute r.capability r.parameters)
said_by ItemKind.Fallback r = Some (ItemFallback r.axis r.reason)
said_by ItemKind.Record r = Some (ItemRecord r.receipt)

-- the item in the rules' words, or none: by the kind that is shown, from the fields that this kind has
abbrev pub item_says : ItemShown → Option Item
item_says r = said_by r.kind r

-- a field that the kind has not is blank
pub record RestBlank (r : ItemShown) : Type 0 where
  pub axis : r.kind ≢ ItemKind.Observe → r.kind ≢ ItemKind.Fallback → r.axis ≡ 0
  pub reason : r.kind ≢ ItemKind.Fallback → r.reason ≡ Ok
  pub capability : r.kind ≢ ItemKind.Execute → r.capability ≡ 0
  pub parameters : r.kind ≢ ItemKind.Execute → r.parameters ≡ pos 0 ∷ pos 0 ∷ []
  pub receipt : r.kind ≢ ItemKind.Record → r.receipt ≡ no_receipt

-- what an answer speaks of ---------------------------------------------------------------------------------------------

-- what `answered_lease`, `answered_receipt` and `refusal` promise
abbrev pub LeaseTold : Runtime → Lease → Type 0
LeaseTold rt r = output_in Answer.Leased rt ≡ Answers (Leased r)

abbrev pub ReceiptTold : Runtime → Receipt → Type 0
ReceiptTold rt r = output_in Answer.Submitted rt ≡ Answers (Submitted r)

abbrev pub RefusalTold : Runtime → Reason → Type 0
RefusalTold rt r = output_in Answer.Refused rt ≡ Answers (Refused r)

-- 01's output, by the answer of a call or a reply and by what the function of that answer then told
pub data Told (rt : Runtime) : Answer → Output → Type 0 where
  item : (r : ItemShown) (x : Item) → (RuntimeSound rt → ItemTold rt r) → item_says r ≡ Some x → Told rt Answer.Item (Hands x)
  lease : (r : Lease) → (RuntimeSound rt → LeaseTold rt r) → Told rt Answer.Leased (Answers (Leased r))
  receipt : (r : Receipt) → (RuntimeSound rt → ReceiptTold rt r) → Told rt Answer.Submitted (Answers (Submitted r))
  refusal : (r : Reason) → RefusalTold rt r → Told rt Answer.Refused (Answers (Refused r))
