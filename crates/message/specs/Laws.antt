-- What holds of all messages.
use Rattle.std.specs.Prelude.{◌≡◌, ℕ, Bool, List}
use Rattle.body.specs.Fields.{Item}
use Rattle.message.specs.Messages.{Written}
use Rattle.message.specs.declared.header.MessageHeader.{MessageHeader}

-- bytes are the writing of one message at most
abbrev pub OneReading : Type 0
OneReading =
    (addressed : Bool) (h k : MessageHeader) (is js : List Item) (t u xs : List ℕ)
    → Written addressed h is t xs → Written addressed k js u xs → (h ≡ k) × (is ≡ js) × (t ≡ u)
