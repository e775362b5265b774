-- What bytes and fields look like in the reports of programs.
use Rattle.std.specs.Prelude.{ℕ, ◌-◌, List, ◌++◌, Option, Some, None, Bool, true, false, length, replicate, codes}
use Rattle.std.specs.List.{join_by}
use Rattle.std.specs.Fmt.{digits}

-- a number in at least two hexadecimal digits
abbrev pub two_digits : ℕ → List ℕ
two_digits n = replicate (2 - length (digits 16 true n)) 48 ++ digits 16 true n

-- bytes with a space between two
abbrev pub hex : List ℕ → List ℕ
hex bytes = join_by two_digits (codes " ") bytes

-- a field that need not be there, where output tells what is written for one that is
abbrev pub optional : {T : Type 0} → (T → Option (List ℕ)) → Option T → Option (List ℕ)
optional output None = Some (codes "none")
optional output (Some x) = output x

abbrev pub yes_no : Bool → List ℕ
yes_no true = codes "yes"
yes_no false = codes "no"
