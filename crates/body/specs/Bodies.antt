-- Whole bodies.
use Rattle.std.specs.Prelude.{◌≡◌, ℕ, ◌-◌, List, [], ◌∷◌, ◌++◌, length}
use Rattle.body.specs.Fields.{Field, Item, all_bytes, Stand}
use Rattle.body.specs.Tails.{Tail, Fills, TailWrong}
use Rattle.body.specs.Wrongs.{Wrong}
use Rattle.body.specs.declared.cursor.Body.{Body}
use Rattle.body.specs.declared.fault.MessageFault.{MessageFault}
use Rattle.body.specs.declared.fault.MessageRefusal.{MessageRefusal}

-- the bytes xs are a body of these fields and this end: the items that the fields hold, and then the bytes t
pub record Filled (fs : List Field) (tail : Tail) (is : List Item) (t xs : List ℕ) : Type 0 where
  pub stand : Stand fs is []
  pub fills : Fills tail t
  pub stands : xs ≡ all_bytes is ++ t

-- the next field is wrong; where none is left, the end is
abbrev pub NextWrong : List Field → Tail → MessageFault → List ℕ → Type 0
NextWrong [] tail g xs = TailWrong g tail xs
NextWrong (f ∷ fs) tail g xs = Wrong g f xs

-- The bytes xs, which end before the place `end`, are refused as such a body: the items before the place told stand there and
-- are lawful, and what should stand next is wrong.
pub record Refused (fs : List Field) (tail : Tail) (xs : List ℕ) (end : ℕ) (r : MessageRefusal) : Type 0 where
  pub before : List Item
  pub left : List Field
  pub rest : List ℕ
  pub stand : Stand fs before left
  pub stands : xs ≡ all_bytes before ++ rest
  pub wrong : NextWrong left tail r.fault rest
  pub placed : r.place ≡ end - length rest

abbrev pub Refuses : List Field → Tail → Body → MessageRefusal → Type 0
Refuses fs tail b r = Refused fs tail b.rest.now b.end r
