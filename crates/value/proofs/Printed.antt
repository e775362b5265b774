-- What {n:02} writes is n in at least two digits, and so for other counts.
use Prim.{search}
use Prim.Native.Nat.{◌^◌}
use mathlib.Core.List.{append_assoc}
use Rattle.std.proofs.Common.{rules, ◌≡◌, ℕ, ◌-◌, List, [], ◌∷◌, ◌++◌, codes, false}
use Rattle.std.specs.Fmt.{decimal, padded_integral, format_spec, char_count}
use Rattle.value.specs.Printing.{digits}

pub padded_digits : (count n : ℕ) → padded_integral (format_spec 32 0 4 count (2 ^ 64 - 1)) false [] (decimal n) ≡ digits count n
unfolding padded_integral char_count
padded_digits count n = search rules

pub joined : (a b c : List ℕ) → a ++ b ++ c ≡ a ++ (b ++ c)
joined a b c = append_assoc a b c

pub clock_joined : (a b c d : List ℕ) → a ++ (58 ∷ (b ++ (58 ∷ (c ++ (46 ∷ d))))) ≡ a ++ codes ":" ++ b ++ codes ":" ++ c ++ codes "." ++ d
clock_joined a b c d = search (rules, append_assoc)
