-- Lists of channels.
use Rattle.std.specs.Prelude.{◌≡◌, ℕ, Bool, List, [], ◌∷◌, ◌++◌}
use Rattle.body.specs.Bodies.{Filled}
use Rattle.body.specs.Fields.{Item, whole, listing, all_bytes, times, Stand}
use Rattle.body.specs.Tails.{nothing}
use Rattle.channels.specs.Entries.{entry_items}
use Rattle.channels.specs.Layouts.{layout_word, entry_of}
use Rattle.channels.specs.declared.entry.Entry.{Entry}
use Rattle.channels.specs.declared.list.Channels.{Channels}

-- the list's bytes are the items es: as many entries as it counts, each by its layout
pub record Lists (c : Channels) (es : List Item) : Type 0 where
  pub stand : Stand (times c.layout.count (entry_of c.layout)) es []
  pub bytes : c.entries.now ≡ all_bytes es

-- a body is the list c, with values or without: its head, and then its entries
pub record ListsBody (valued : Bool) (c : Channels) (xs : List ℕ) : Type 0 where
  pub entries : List Item
  pub rest : List ℕ
  pub lists : Lists c entries
  pub filled : Filled (listing valued ∷ []) nothing (whole 2 (layout_word c.layout) ∷ entries) rest xs

-- of whatever entries the list c has, e is the first, and d has the others
abbrev pub Begins : Channels → Entry → Channels → Type 0
Begins c e d = (es : List Item) → Lists c es → (others : List Item) × (es ≡ entry_items e ++ others) × Lists d others

-- the list c has no entry
abbrev pub Empty : Channels → Type 0
Empty c = (es : List Item) → Lists c es → es ≡ []
