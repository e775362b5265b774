use Rattle.std.specs.Prelude.{ℕ, ◌-◌, length}
use Rattle.body.specs.declared.cursor.Body.{Body}

-- the place of the first byte that is left of a body
abbrev pub place_of : Body → ℕ
place_of b = b.end - length b.rest.now
