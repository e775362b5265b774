-- Types by their numbers, and headers.
use Rattle.std.proofs.Common.{◌≡◌, ℕ, ◌≤◌, List, [], ◌∷◌, get_or, sym, refl, ap, ◌∙◌, arith}
use Rattle.value.specs.Kinds.{type_number, header_byte, val_of, reserved_of, type_of}
use Rattle.value.specs.declared.kind.Kind.{Kind}
use Rattle.value.specs.declared.kind.Kind.TheVariants as kind

-- the type of each number; at the numbers that no type has, another's
abbrev pub table : List Kind
table =
    kind.I8 ∷ kind.I8 ∷ kind.I8 ∷ kind.U8 ∷ kind.I16 ∷ kind.U16 ∷ kind.I32 ∷ kind.U32 ∷ kind.F32 ∷ kind.I64 ∷ kind.U64 ∷ kind.F64
    ∷ kind.Text ∷ kind.Text ∷ kind.Time ∷ kind.Bytes ∷ []

pub record Known (k : Kind) : Type 0 where
  pub low : 2 ≤ type_number k
  pub high : type_number k ≤ 15
  pub used : type_number k ≡ 13 → ⊥
  pub told : get_or table (type_number k) kind.I8 ≡ k

pub known : (k : Kind) → Known k
known kind.I8 = record { low = omega arith; high = omega arith; used = λ e. omega arith; told = refl }
known k = record { low = omega arith; high = omega arith; used = λ e. omega arith; told = refl }

-- types with the same number are the same
pub kind_once : (j k : Kind) → type_number j ≡ type_number k → j ≡ k
kind_once j k e = sym (known j).told ∙ ap (λ (n : ℕ). get_or table n kind.I8) e ∙ (known k).told

pub header_val : (b : ℕ) (k : Kind) → val_of (header_byte b k) ≡ b
header_val b k = omega (arith, (known k).high)

pub header_type : (b : ℕ) (k : Kind) → type_of (header_byte b k) ≡ type_number k
header_type b k = omega (arith, (known k).high)

pub header_reserved : (b : ℕ) (k : Kind) → reserved_of (header_byte b k) ≡ 0
header_reserved b k = omega (arith, (known k).high)
