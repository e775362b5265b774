-- What {n:02X} writes is n in at least two hexadecimal digits.
use Prim.{search}
use Prim.Native.Nat.{◌^◌}
use mathlib.Core.Path.{ap, sym, ◌∙◌}
use Rattle.std.specs.Prelude.{option_map}
use Rattle.std.proofs.Common.{rules, ◌≡◌, ℕ, ◌-◌, ◌+◌, ◌<◌, List, [], ◌∷◌, ◌++◌, length, get_or, take, codes, true, false, Option, Some}
use Rattle.std.specs.Fmt.{digits, padded_integral, format_spec, char_count}
use Rattle.std.proofs.lemmas.List.{take_more, flat_map_more}
use Rattle.show.specs.Words.{hex, two_digits}

pub padded_digits : (n : ℕ) → padded_integral (format_spec 32 0 4 2 (2 ^ 64 - 1)) false [] (digits 16 true n) ≡ two_digits n
unfolding padded_integral char_count
padded_digits n = search rules

module _ {D S : Type 0} (output : D → Option (List ℕ)) (form : S → D → List ℕ → List ℕ) where
  pub shown_as : (d : D) (s t : S) (numeral text : List ℕ) → s ≡ t → output d ≡ Some numeral → form t d numeral ≡ text → option_map (form s d) (output d) ≡ Some text
  shown_as d s t numeral text same there is =
      ap (λ x. option_map (form x d) (output d)) same ∙ ap (option_map (form t d)) there ∙ ap Some is

-- one byte more of those behind the first
pub hex_more : (first : ℕ) (rest : List ℕ) (i : ℕ) → i < length rest → hex (first ∷ take i rest) ++ (32 ∷ two_digits (get_or rest i 0)) ≡ hex (first ∷ take (i + 1) rest)
hex_more first rest i inside =
    flat_map_more (λ b. codes " " ++ two_digits b) (two_digits first) (take i rest) (get_or rest i 0)
    ∙ ap (λ bytes. hex (first ∷ bytes)) (sym (take_more rest i 0 inside))
