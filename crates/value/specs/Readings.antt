-- Readings and refusals of values.
use Rattle.std.specs.Prelude.{◌≡◌, ℕ, ◌<◌, ◌≤◌, ◌⊎◌, List, [], ◌∷◌, ◌++◌, length, ◌≢◌}
use Rattle.value.specs.Faults.{fault_number}
use Rattle.fields.specs.Parts.{PartCut, PartNoText}
use Rattle.value.specs.Kinds.{Form, signed, unsigned, floating, timed, counted, form, type_number, Unused, val_of, reserved_of, type_of}
use Rattle.value.specs.Times.{LawfulTime, written_time}
use Rattle.value.specs.Values.{Val, written, Lawful}
use Rattle.value.specs.declared.fault.ValueFault.{ValueFault}
use Rattle.value.specs.declared.fault.ValueFault.TheVariants as fault
use Rattle.value.specs.declared.kind.Kind.{Kind}
use Rattle.value.specs.declared.kind.Kind.TheVariants as kind
use Rattle.value.specs.declared.time.Time.{Time}

-- the bytes xs begin with the lawful value v, and rest follows it
pub record Reads (v : Val) (rest xs : List ℕ) : Type 0 where
  pub lawful : Lawful v
  pub bytes : xs ≡ written v ++ rest

-- the bytes end before data of that form do
abbrev pub Short : Form → List ℕ → Type 0
Short (signed w) xs = length xs < w
Short (unsigned w) xs = length xs < w
Short (floating w) xs = length xs < w
Short (timed w) xs = length xs < w
Short counted xs = PartCut xs

-- eight bytes are there, and they are no lawful time
abbrev pub NoTime : List ℕ → Type 0
NoTime xs = (8 ≤ length xs) × ((t : Time) (rest : List ℕ) → LawfulTime t → xs ≢ written_time t ++ rest)

-- the header h is of a value of type k with data
abbrev pub HasData : ℕ → Kind → Type 0
HasData h k = (val_of h ≡ 1) × (type_of h ≡ type_number k)

-- P holds of the first byte and those after it
abbrev pub Headed : (ℕ → List ℕ → Type 0) → List ℕ → Type 0
Headed P [] = ⊥
Headed P (h ∷ xs) = P h xs

-- what each fault says of the bytes
abbrev pub Wrong : ValueFault → List ℕ → Type 0
Wrong fault.TypeAbove = Headed (λ h xs. 15 < type_of h)
Wrong fault.TypeUnused = Headed (λ h xs. Unused (type_of h))
Wrong fault.Reserved = Headed (λ h xs. 0 < reserved_of h)
Wrong fault.Cut = λ xs. (xs ≡ []) ⊎ Headed (λ h ys. (k : Kind) × HasData h k × Short (form k) ys) xs
Wrong fault.Text = Headed (λ h xs. HasData h kind.Text × PartNoText xs)
Wrong fault.Time = Headed (λ h xs. HasData h kind.Time × NoTime xs)

-- the bytes are refused with the fault f: they have it and none with a lower number, and no value can be read from them
pub record Refused (f : ValueFault) (xs : List ℕ) : Type 0 where
  pub wrong : Wrong f xs
  pub lowest : (g : ValueFault) → fault_number g < fault_number f → Wrong g xs → ⊥
  pub unread : (v : Val) (rest : List ℕ) → Reads v rest xs → ⊥

-- what makes a header be refused with each fault: its type goes before its reserved bits
abbrev pub HeaderWrong : ValueFault → ℕ → Type 0
HeaderWrong fault.TypeAbove h = 15 < type_of h
HeaderWrong fault.TypeUnused h = Unused (type_of h)
HeaderWrong fault.Reserved h = (type_of h ≤ 15) × (Unused (type_of h) → ⊥) × (0 < reserved_of h)
HeaderWrong fault.Cut h = ⊥
HeaderWrong fault.Text h = ⊥
HeaderWrong fault.Time h = ⊥

-- what makes data of type k be refused with each fault
abbrev pub DataWrong : ValueFault → Kind → List ℕ → Type 0
DataWrong fault.TypeAbove k xs = ⊥
DataWrong fault.TypeUnused k xs = ⊥
DataWrong fault.Reserved k xs = ⊥
DataWrong fault.Cut k xs = Short (form k) xs
DataWrong fault.Text k xs = (k ≡ kind.Text) × PartNoText xs
DataWrong fault.Time k xs = (k ≡ kind.Time) × NoTime xs
