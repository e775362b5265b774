-- What an entry of a list holds.
use Rattle.std.specs.Prelude.{List, [], ◌∷◌, ◌++◌}
use Rattle.text.specs.declared.Text.{Text}
use Rattle.value.specs.Values.{meaning}
use Rattle.value.specs.declared.universal.Value.{Value}
use Rattle.body.specs.Fields.{Item, whole, letters, universal, items_if}
use Rattle.channels.specs.declared.entry.Detail.{Detail}
use Rattle.channels.specs.declared.entry.Entry.{Entry}

abbrev pub name_items : Text → List Item
name_items t = letters t.bytes.now ∷ []

abbrev pub detail_items : Detail → List Item
detail_items d = whole 2 d.sub_device ∷ whole 1 d.function ∷ whole 1 d.group ∷ []

abbrev pub value_items : Value → List Item
value_items v = universal (meaning v) ∷ []

-- the items of an entry: its id, and what else it has
abbrev pub entry_items : Entry → List Item
entry_items e = whole 4 e.id ∷ ((items_if name_items e.name ++ items_if detail_items e.detail) ++ items_if value_items e.value)
