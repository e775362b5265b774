-- A value that is there has no fault, and what data are refused with.
use Rattle.std.proofs.Common.{◌≡◌, ℕ, ◌<◌, ◌≤◌, List, get_or, ◌∷◌, ◌++◌, sym, refl, ap, ◌∙◌, subst, inl, inr, arith, Result, MatchResult, Bor}
use Rattle.std.proofs.lemmas.Result.{MatchResult-weaker}
use Rattle.fields.proofs.Fronts.{number_long, part_whole, part_text}
use Rattle.fields.specs.Parts.{PartNoText}
use Rattle.value.specs.Faults.{fault_number}
use Rattle.value.specs.Kinds.{Form, form, header_byte, val_of, Unused}
use Rattle.value.specs.Readings.{Reads, Short, NoTime, HasData, Wrong, Refused, DataWrong}
use Rattle.fields.specs.Numbers.{complement}
use Rattle.value.specs.Values.{Val, absent, integer, natural, float, text, time, array, kind_of, val, contents, written, Lawful, meaning}
use Rattle.value.specs.declared.fault.ValueFault.{ValueFault}
use Rattle.value.specs.declared.fault.ValueFault.TheVariants as fault
use Rattle.value.specs.declared.universal.Value.{Value}
use Rattle.value.specs.declared.kind.Kind.{Kind}
use Rattle.value.specs.declared.kind.Kind.TheVariants as kind
use Rattle.value.proofs.Headers.{known, kind_once, header_val, header_type, header_reserved}

-- its data are not cut short
whole : (v : Val) (r : List ℕ) → Lawful v → val v ≡ 1 → Short (form (kind_of v)) (contents v ++ r) → ⊥
whole (absent k) r l d h = omega arith
whole (integer k w z) r l d h = omega (arith, number_long w (complement w z) r, subst (λ (f : Form). Short f (contents (integer k w z) ++ r)) l.0 h)
whole (natural k w n) r l d h = omega (arith, number_long w n r, subst (λ (f : Form). Short f (contents (natural k w n) ++ r)) l.0 h)
whole (float k w n) r l d h = omega (arith, number_long w n r, subst (λ (f : Form). Short f (contents (float k w n) ++ r)) l.0 h)
whole (text s) r l d h = part_whole s r _ (l.0, refl) h
whole (time t) r l d h = omega arith
whole (array s) r l d h = part_whole s r _ (l, refl) h

-- its text is one
text_right : (v : Val) (r : List ℕ) → Lawful v → val v ≡ 1 → kind_of v ≡ kind.Text → PartNoText (contents v ++ r) → ⊥
text_right (absent k) r l d e h = omega arith
text_right (integer k w z) r l d e h = cc l.0
text_right (natural k w n) r l d e h = cc l.0
text_right (float k w n) r l d e h = cc l.0
text_right (text s) r l d e h = part_text s r _ (l.0, refl) l.1 h
text_right (time t) r l d e h = cc
text_right (array s) r l d e h = cc

-- its time is one
time_right : (v : Val) (r : List ℕ) → Lawful v → val v ≡ 1 → kind_of v ≡ kind.Time → NoTime (contents v ++ r) → ⊥
time_right (absent k) r l d e h = omega arith
time_right (integer k w z) r l d e h = cc l.0
time_right (natural k w n) r l d e h = cc l.0
time_right (float k w n) r l d e h = cc l.0
time_right (text s) r l d e h = cc
time_right (time t) r l d e h = h.1 t r l refl
time_right (array s) r l d e h = cc

-- a header with data is of this type
has_data : (b : ℕ) (j k : Kind) → HasData (header_byte b j) k → (b ≡ 1) × (j ≡ k)
has_data b j k h = (omega (arith, h.0, header_val b j), kind_once j k (sym (header_type b j) ∙ h.1))

-- such a header has no fault
header_right : (f : ValueFault) (b : ℕ) (k : Kind) (xs : List ℕ) → fault_number f < 33 → Wrong f (header_byte b k ∷ xs) → ⊥
header_right fault.TypeAbove b k xs l h = omega (arith, h, header_type b k, (known k).high)
header_right fault.TypeUnused b k xs l h = elim (subst Unused (header_type b k) h) [ inl low ↦ omega (arith, (known k).low) | inr e ↦ (known k).used e ]
header_right fault.Reserved b k xs l h = omega (arith, h, header_reserved b k)
header_right _ b k xs l h = omega arith

-- the bytes of a lawful value, with others after them, have no fault
right : (f : ValueFault) (v : Val) (r : List ℕ) → Lawful v → Wrong f (written v ++ r) → ⊥
right fault.TypeAbove v r l h = header_right fault.TypeAbove (val v) (kind_of v) (contents v ++ r) (omega arith) h
right fault.TypeUnused v r l h = header_right fault.TypeUnused (val v) (kind_of v) (contents v ++ r) (omega arith) h
right fault.Reserved v r l h = header_right fault.Reserved (val v) (kind_of v) (contents v ++ r) (omega arith) h
right fault.Cut v r l (inl e) = cc
right fault.Cut v r l (inr (k, d, short)) =
    let is = has_data (val v) (kind_of v) k d in
    whole v r l is.0 (subst (λ (j : Kind). Short (form j) (contents v ++ r)) (sym is.1) short)
right fault.Text v r l (d, none) = let is = has_data (val v) (kind_of v) kind.Text d in text_right v r l is.0 is.1 none
right fault.Time v r l (d, none) = let is = has_data (val v) (kind_of v) kind.Time d in time_right v r l is.0 is.1 none

-- a text that is none is not cut short
below_text : (g : ValueFault) (xs : List ℕ) → PartNoText xs → fault_number g < 34 → Wrong g (header_byte 1 kind.Text ∷ xs) → ⊥
below_text fault.TypeAbove xs none l h = header_right fault.TypeAbove 1 kind.Text xs (omega arith) h
below_text fault.TypeUnused xs none l h = header_right fault.TypeUnused 1 kind.Text xs (omega arith) h
below_text fault.Reserved xs none l h = header_right fault.Reserved 1 kind.Text xs (omega arith) h
below_text fault.Cut xs none l (inl e) = cc
below_text fault.Cut xs (s, r, part, n) l (inr (k, d, short)) =
    part_whole s r xs part (subst (λ (j : Kind). Short (form j) xs) (sym (has_data 1 kind.Text k d).1) short)
below_text _ xs none l h = omega arith

-- a time that is none is not cut short and no text
below_time : (g : ValueFault) (xs : List ℕ) → NoTime xs → fault_number g < 35 → Wrong g (header_byte 1 kind.Time ∷ xs) → ⊥
below_time fault.TypeAbove xs none l h = header_right fault.TypeAbove 1 kind.Time xs (omega arith) h
below_time fault.TypeUnused xs none l h = header_right fault.TypeUnused 1 kind.Time xs (omega arith) h
below_time fault.Reserved xs none l h = header_right fault.Reserved 1 kind.Time xs (omega arith) h
below_time fault.Cut xs none l (inl e) = cc
below_time fault.Cut xs none l (inr (k, d, short)) =
    omega (arith, none.0, subst (λ (j : Kind). Short (form j) xs) (sym (has_data 1 kind.Time k d).1) short)
below_time fault.Text xs none l (d, n) = let e = (has_data 1 kind.Time kind.Text d).1 in cc
below_time fault.Time xs none l h = omega arith

refused : (f : ValueFault) (xs : List ℕ) → Wrong f xs → ((g : ValueFault) → fault_number g < fault_number f → Wrong g xs → ⊥) → Refused f xs
refused f xs w l = record { wrong = w; lowest = l; unread = λ v rest d. right f v rest d.lawful (subst (Wrong f) d.bytes w) }

has : (k : Kind) → HasData (header_byte 1 k) k
has k = (header_val 1 k, header_type 1 k)

-- what is wrong with the data is what the whole is refused with
pub refused_data : (f : ValueFault) (k : Kind) (xs : List ℕ) → DataWrong f k xs → Refused f (header_byte 1 k ∷ xs)
refused_data fault.Cut k xs w = refused fault.Cut _ (inr (k, has k, w)) (λ g l h. header_right g 1 k xs l h)
refused_data fault.Text k xs (e, none) =
    subst (λ (j : Kind). Refused fault.Text (header_byte 1 j ∷ xs)) (sym e) (refused fault.Text _ (has kind.Text, none) (λ g l h. below_text g xs none l h))
refused_data fault.Time k xs (e, none) =
    subst (λ (j : Kind). Refused fault.Time (header_byte 1 j ∷ xs)) (sym e) (refused fault.Time _ (has kind.Time, none) (λ g l h. below_time g xs none l h))
refused_data _ k xs w = elim w [ ]

-- so what is told of the data after a header is told of the whole
pub told_data : (xs rest : List ℕ) (h : ℕ) (k : Kind) (r : Result (Value × Bor (List ℕ)) ValueFault) → xs ≡ h ∷ rest → h ≡ header_byte (val_of h) k → 128 ≤ h → get_or xs 0 0 < 256 → MatchResult r (λ p. Reads (meaning p.0) p.1.now (header_byte 1 k ∷ rest)) (λ f. DataWrong f k rest) → MatchResult r (λ p. Reads (meaning p.0) p.1.now xs) (λ f. Refused f xs)
told_data xs rest h k r split header above low told =
    let first : get_or xs 0 0 ≡ h = ap (λ (t : List ℕ). get_or t 0 0) split in
    let is : h ≡ header_byte 1 k = omega arith in
    let e : xs ≡ header_byte 1 k ∷ rest = split ∙ ap (λ (x : ℕ). x ∷ rest) is in
    MatchResult-weaker r told (λ p d. subst (Reads _ _) (sym e) d) (λ f w. subst (Refused f) (sym e) (refused_data f k rest w))
