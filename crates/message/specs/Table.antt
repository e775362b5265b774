-- The row of the table of bodies by a message's header, and whether its packet has a target address.
use Rattle.std.specs.Prelude.{ℕ, Bool, cond, ◌==◌}
use Rattle.content.specs.declared.row.Row.{Row}
use Rattle.content.specs.declared.row.Row.TheVariants as row
use Rattle.message.specs.declared.header.Direction.{Direction}
use Rattle.message.specs.declared.header.Direction.TheVariants as direction
use Rattle.message.specs.declared.header.MessageHeader.{MessageHeader}

abbrev pub request_row : Bool → ℕ → Row
request_row addressed kind =
    cond (kind == 0x03) row.Search
    (cond (kind == 0x04) (cond addressed row.GetInfo row.GetInfoOf)
    (cond (kind == 0x10) row.SetVariable
    (cond (kind == 0x11) row.GetVariable
    (cond (kind == 0x20) row.ListFeedback
    (cond (kind == 0x30) row.ListControls
    (cond (kind == 0x33) row.SetChannel
    (cond (kind == 0x34) row.LinkChannel
    row.Other)))))))

abbrev pub answer_row : ℕ → Row
answer_row kind =
    cond (kind == 0x03) row.Found
    (cond (kind == 0x04) row.Info
    (cond (kind == 0x10) row.Done
    (cond (kind == 0x11) row.Variable
    (cond (kind == 0x20) row.Feedback
    (cond (kind == 0x30) row.Controls
    (cond (kind == 0x33) row.Done
    (cond (kind == 0x34) row.Done
    row.Other)))))))

abbrev pub whole_row : Direction → Bool → ℕ → Row
whole_row direction.Request addressed kind = request_row addressed kind
whole_row direction.Answer addressed kind = answer_row kind
whole_row direction.ErrorAnswer addressed kind = row.ErrorAnswer

-- a message that is not the last is a part of one
abbrev pub row_for : Bool → MessageHeader → Row
row_for addressed h = cond h.last (whole_row h.direction addressed h.kind) row.Part
