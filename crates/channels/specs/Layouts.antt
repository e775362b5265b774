-- The head of a list, and the fields of its entries.
use Rattle.std.specs.Prelude.{ℕ, ◌+◌, ◌*◌, ◌^◌, List}
use Rattle.basics.specs.Bits.{bit}
use Rattle.body.specs.Fields.{Field, entry}
use Rattle.channels.specs.declared.layout.Layout.{Layout}

-- DA in bit 15, NN in bit 14, 0 in bits 13 and 12, and the count in bits 11 to 0
abbrev pub layout_word : Layout → ℕ
layout_word l = 2 ^ 15 * bit l.detailed + 2 ^ 14 * bit l.unnamed + l.count

-- the fields of one entry
abbrev pub entry_of : Layout → List Field
entry_of l = entry l.valued (bit l.detailed) (bit l.unnamed)
