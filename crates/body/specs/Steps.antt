-- Fields taken from the front of a body.
use Rattle.std.specs.Prelude.{◌≡◌, ℕ, ◌-◌, List, [], ◌∷◌, ◌++◌, length}
use Rattle.body.specs.Fields.{Field, Item, bytes, all_bytes, Fits, Stand}
use Rattle.body.specs.Places.{place_of}
use Rattle.body.specs.Wrongs.{Wrong}
use Rattle.body.specs.declared.cursor.Body.{Body}
use Rattle.body.specs.declared.fault.MessageRefusal.{MessageRefusal}

-- the field f at the front of the body b holds the item i, and c is left
pub record Takes (f : Field) (i : Item) (b c : Body) : Type 0 where
  pub fits : Fits f i
  pub stands : b.rest.now ≡ bytes i ++ c.rest.now
  pub ends : c.end ≡ b.end

-- the field f at the front of the body b is refused, at its first byte
pub record Denies (f : Field) (b : Body) (r : MessageRefusal) : Type 0 where
  pub wrong : Wrong r.fault f b.rest.now
  pub placed : r.place ≡ place_of b

-- the fields at the front of the body b hold the items, and c is left
pub record Took (fs : List Field) (is : List Item) (b c : Body) : Type 0 where
  pub stand : Stand fs is []
  pub stands : b.rest.now ≡ all_bytes is ++ c.rest.now
  pub ends : c.end ≡ b.end

-- One of the fields at the front of the body b is refused: the items before it stand there and are lawful, and it is wrong
-- in the bytes after them, at its first byte.
pub record Failed (fs : List Field) (b : Body) (r : MessageRefusal) : Type 0 where
  pub before : List Item
  pub field : Field
  pub left : List Field
  pub rest : List ℕ
  pub stand : Stand fs before (field ∷ left)
  pub stands : b.rest.now ≡ all_bytes before ++ rest
  pub wrong : Wrong r.fault field rest
  pub placed : r.place ≡ b.end - length rest
