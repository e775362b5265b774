use Rattle.std.specs.Prelude.{ℕ, List, [], ◌∷◌}

-- the register after a list's bytes, one after the other
abbrev pub fed : {R : Type 0} → (R → ℕ → R) → R → List ℕ → R
fed after r [] = r
fed after r (b ∷ bs) = fed after (after r b) bs
