use Rattle.std.specs.Prelude.{ℕ, List, [], ◌∷◌, bit_xor}

-- the exclusive or of all bytes, 0 for none
abbrev pub xor_of : List ℕ → ℕ
xor_of [] = 0
xor_of (b ∷ bs) = bit_xor b (xor_of bs)
