-- The bytes that a text gives, two hexadecimal digits to a byte.
use Rattle.std.specs.Prelude.{ℕ, ◌+◌, ◌-◌, ◌*◌, Bool, cond, ◌&&◌, List, [], ◌∷◌, Some, None, Option, nat_le}

abbrev pub between : ℕ → ℕ → ℕ → Bool
between low high c = nat_le low c && nat_le c high

-- what a digit stands for: 0 to 9, A to F, a to f, by their codes; any other character is none
abbrev pub digit_of : ℕ → Option ℕ
digit_of c =
    cond (between 48 57 c) (Some (c - 48))
    (cond (between 65 70 c) (Some (c - 55))
    (cond (between 97 102 c) (Some (c - 87)) None))

-- Of two characters that stand side by side: two digits give a byte, high half first, and a digit is dropped together with
-- another character; then what follows both counts. Where the first is no digit it is skipped alone.
abbrev pub pair : Option ℕ → Option ℕ → List ℕ → List ℕ → List ℕ
pair None second after_both after_first = after_first
pair (Some high) None after_both after_first = after_both
pair (Some high) (Some low) after_both after_first = (high * 16 + low) ∷ after_both

-- the bytes of a text; a lone last character gives none
abbrev pub hexed : List ℕ → List ℕ
hexed [] = []
hexed (c ∷ []) = []
hexed (c ∷ d ∷ rest) = pair (digit_of c) (digit_of d) (hexed rest) (hexed (d ∷ rest))
