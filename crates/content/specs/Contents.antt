-- What a message holds, field by field.
use Rattle.std.specs.Prelude.{◌≡◌, ℕ, Bool, true, false, List, [], ◌∷◌, Some, None, Option}
use Rattle.text.specs.declared.Text.{Text}
use Rattle.value.specs.Values.{meaning}
use Rattle.body.specs.Fields.{Item, whole, universal, items_if}
use Rattle.channels.specs.Entries.{name_items}
use Rattle.channels.specs.Layouts.{layout_word}
use Rattle.channels.specs.Lists.{Lists}
use Rattle.channels.specs.declared.list.Channels.{Channels}
use Rattle.device.specs.Descriptions.{found_items, info_items}
use Rattle.device.specs.Flags.{groups_byte, options_byte}
use Rattle.content.specs.declared.message.Message.{Message}
use Rattle.content.specs.declared.message.Message.TheVariants as message
use Rattle.content.specs.declared.row.Row.{Row}
use Rattle.content.specs.declared.row.Row.TheVariants as row

-- the row that a message belongs to
abbrev pub info_row : Option Text → Row
info_row None = row.GetInfo
info_row (Some t) = row.GetInfoOf

abbrev pub row_of : Message → Row
row_of (message.Part s) = row.Part
row_of (message.ErrorAnswer c) = row.ErrorAnswer
row_of (message.Other s) = row.Other
row_of (message.Search g) = row.Search
row_of (message.Found f) = row.Found
row_of (message.GetInfo d) = info_row d
row_of (message.Info i) = row.Info
row_of (message.SetVariable v n) = row.SetVariable
row_of (message.GetVariable n) = row.GetVariable
row_of (message.Variable n v) = row.Variable
row_of (message.ListFeedback o) = row.ListFeedback
row_of (message.Feedback c) = row.Feedback
row_of (message.ListControls o) = row.ListControls
row_of (message.Controls c) = row.Controls
row_of (message.SetChannel c v p) = row.SetChannel
row_of (message.LinkChannel c vs) = row.LinkChannel
row_of message.Done = row.Done

-- the items of a list, with values or without: its head, and those of its entries
abbrev pub Listed : Bool → Channels → List Item → Type 0
Listed valued c is = (c.layout.valued ≡ valued) × (es : List Item) × (is ≡ whole 2 (layout_word c.layout) ∷ es) × Lists c es

-- the items of a message's fields are these, and the bytes after them, where there may be any, are t
abbrev pub Holds : Message → List Item → List ℕ → Type 0
Holds (message.Part s) is t = (is ≡ []) × (s.now ≡ t)
Holds (message.ErrorAnswer c) is t = is ≡ whole 1 c ∷ []
Holds (message.Other s) is t = (is ≡ []) × (s.now ≡ t)
Holds (message.Search g) is t = is ≡ whole 1 (groups_byte g) ∷ []
Holds (message.Found f) is t = is ≡ found_items f
Holds (message.GetInfo d) is t = is ≡ items_if name_items d
Holds (message.Info i) is t = is ≡ info_items i
Holds (message.SetVariable v n) is t = is ≡ universal (meaning v) ∷ whole 2 n ∷ []
Holds (message.GetVariable n) is t = is ≡ whole 2 n ∷ []
Holds (message.Variable n v) is t = is ≡ whole 2 n ∷ universal (meaning v) ∷ []
Holds (message.ListFeedback o) is t = is ≡ whole 1 (options_byte o) ∷ []
Holds (message.Feedback c) is t = Listed true c is
Holds (message.ListControls o) is t = is ≡ whole 1 (options_byte o) ∷ []
Holds (message.Controls c) is t = Listed false c is
Holds (message.SetChannel c v p) is t = is ≡ whole 4 c ∷ universal (meaning v) ∷ whole 4 p ∷ []
Holds (message.LinkChannel c vs) is t = (is ≡ whole 4 c ∷ []) × (vs.bytes.now ≡ t)
Holds message.Done is t = is ≡ []
