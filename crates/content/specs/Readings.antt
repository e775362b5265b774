-- Bodies by their row.
use Rattle.std.specs.Prelude.{◌≡◌, ℕ, List}
use Rattle.body.specs.Bodies.{Filled, Refuses}
use Rattle.body.specs.Fields.{Item}
use Rattle.body.specs.declared.cursor.Body.{Body}
use Rattle.body.specs.declared.fault.MessageRefusal.{MessageRefusal}
use Rattle.content.specs.Contents.{row_of, Holds}
use Rattle.content.specs.Rows.{fields, tail}
use Rattle.content.specs.declared.message.Message.{Message}
use Rattle.content.specs.declared.row.Row.{Row}

-- the bytes xs are the body m, of this row
pub record ReadsRow (w : Row) (m : Message) (xs : List ℕ) : Type 0 where
  pub items : List Item
  pub rest : List ℕ
  pub row : row_of m ≡ w
  pub holds : Holds m items rest
  pub filled : Filled (fields w) (tail w) items rest xs

-- the body b is refused as one of this row
abbrev pub RefusesRow : Row → Body → MessageRefusal → Type 0
RefusesRow w b r = Refuses (fields w) (tail w) b r
