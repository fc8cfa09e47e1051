-- The words that a host puts into its slices (docs/HOST.md) for what is to be asked: those of the record of docs/WIRE.md, without its first.
use Rattle.std.specs.Prelude.{ℕ, List, [], ◌∷◌, ◌++◌, take, drop}
use Rattle.model.specs.declared.Capability.{Capability}
use Rattle.format.specs.Decode.{Record, Lists}
use Rattle.format.specs.Inputs.{input_words, RangedCapability}

-- words 1 to k of a record
abbrev pub fields_of : ℕ → Record → List ℕ
fields_of k r = take k (drop 1 (input_words r))

-- those of capabilities, one after another
abbrev pub list_words : List Capability → List ℕ
list_words [] = []
list_words (c ∷ l) = fields_of 13 (Lists c) ++ list_words l

abbrev pub AllRanged : List Capability → Type 0
AllRanged [] = Unit
AllRanged (c ∷ l) = RangedCapability c × AllRanged l
