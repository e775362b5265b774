-- The table of bodies.
use Rattle.std.specs.Prelude.{true, false, List, [], ◌∷◌}
use Rattle.body.specs.Fields.{Field, word, number, listing, text, value}
use Rattle.body.specs.Tails.{Tail, nothing, anything, variables}
use Rattle.device.specs.Descriptions.{found_fields, info_fields}
use Rattle.content.specs.declared.row.Row.{Row}
use Rattle.content.specs.declared.row.Row.TheVariants as row

-- the fields of each row
abbrev pub fields : Row → List Field
fields row.Part = []
fields row.ErrorAnswer = number 1 ∷ []
fields row.Other = []
fields row.Search = word 1 4 4 ∷ []
fields row.Found = found_fields
fields row.GetInfo = []
fields row.GetInfoOf = text ∷ []
fields row.Info = info_fields
fields row.SetVariable = value ∷ number 2 ∷ []
fields row.GetVariable = number 2 ∷ []
fields row.Variable = number 2 ∷ value ∷ []
fields row.ListFeedback = word 1 0 6 ∷ []
fields row.Feedback = listing true ∷ []
fields row.ListControls = word 1 0 6 ∷ []
fields row.Controls = listing false ∷ []
fields row.SetChannel = number 4 ∷ value ∷ number 4 ∷ []
fields row.LinkChannel = number 4 ∷ []
fields row.Done = []

-- what follows the fields
abbrev pub tail : Row → Tail
tail row.Part = anything
tail row.ErrorAnswer = nothing
tail row.Other = anything
tail row.Search = nothing
tail row.Found = nothing
tail row.GetInfo = nothing
tail row.GetInfoOf = nothing
tail row.Info = nothing
tail row.SetVariable = nothing
tail row.GetVariable = nothing
tail row.Variable = nothing
tail row.ListFeedback = nothing
tail row.Feedback = nothing
tail row.ListControls = nothing
tail row.Controls = nothing
tail row.SetChannel = nothing
tail row.LinkChannel = variables
tail row.Done = nothing
