-- Bytes have at most one reading.
use Rattle.std.proofs.Common.{◌≡◌, ℕ, zero, suc, ◌+◌, ◌-◌, ◌*◌, ◌/◌, ◌^◌, ◌<◌, cond, eqb, ltb, List, [], ◌∷◌, ◌++◌, length, get_or, take, drop, ℤ, pos, negsuc, sym, refl, ap, ◌∙◌, arith}
use native.Mathlib.Nat.{pow-succ'}
use Rattle.std.proofs.lemmas.List.{take_at, drop_at}
use Rattle.std.proofs.lemmas.Bool.{lt-ltb, le-ltb, cond-true, cond-false}
use Rattle.basics.proofs.Littles.{length_little}
use Rattle.basics.specs.Little.{little}
use Rattle.fields.specs.Parts.{counted_part}
use Rattle.value.specs.Kinds.{Form, signed, unsigned, floating, timed, counted, form, type_number, header_byte, val_of, type_of}
use Rattle.value.specs.Laws.{OneReading, ReadsBack, WritesBack, Laws}
use Rattle.fields.specs.Numbers.{complement}
use Rattle.value.specs.Signed.{FitsSigned}
use Rattle.value.specs.Values.{Val, absent, integer, natural, float, text, time, array, kind_of, val, contents, written, Lawful}
use Rattle.value.specs.declared.kind.Kind.{Kind}
use Rattle.value.specs.declared.kind.Kind.TheVariants as kind
use Rattle.value.proofs.Headers.{table, known, header_val, header_type}
use Rattle.value.proofs.Moments.{time_in, time_back}

-- the number in bytes
abbrev number_in : List ℕ → ℕ
number_in [] = 0
number_in (b ∷ bs) = b + 256 * number_in bs

number_back : (w n : ℕ) → n < 256 ^ w → number_in (little w n) ≡ n
number_back zero n h = omega arith
number_back (suc w) n h = omega (arith, number_back w (n / 256) (omega (arith, pow-succ' 256 w)))

-- the signed number with a two's complement
abbrev signed_in : ℕ → ℕ → ℤ
signed_in w n = cond (ltb n (256 ^ w / 2)) (pos n) (negsuc (256 ^ w - suc n))

signed_back : (w : ℕ) (z : ℤ) → FitsSigned w z → signed_in w (complement w z) ≡ z
signed_back w (pos n) h = cond-true _ _ _ (lt-ltb n (256 ^ w / 2) h)
signed_back w (negsuc n) h =
    let same : 256 ^ w - suc (256 ^ w - suc n) ≡ n = omega arith in
    cond-false _ _ _ (le-ltb (256 ^ w - suc n) (256 ^ w / 2) (omega arith)) ∙ ap negsuc same

complement_low : (w : ℕ) (z : ℤ) → FitsSigned w z → complement w z < 256 ^ w
complement_low w (pos n) h = omega arith
complement_low w (negsuc n) h = omega arith

-- a number, a part and their rests, from the bytes that begin with them
abbrev front_in : ℕ → List ℕ → ℕ
front_in w xs = number_in (take w xs)

front_back : (w n : ℕ) (r : List ℕ) → n < 256 ^ w → front_in w (little w n ++ r) ≡ n
front_back w n r h = ap number_in (take_at (little w n) r w (length_little w n)) ∙ number_back w n h

front_rest : (w n : ℕ) (r : List ℕ) → drop w (little w n ++ r) ≡ r
front_rest w n r = drop_at (little w n) r w (length_little w n)

abbrev part_in : List ℕ → List ℕ
part_in xs = take (front_in 2 xs) (drop 2 xs)

abbrev part_rest : List ℕ → List ℕ
part_rest xs = drop (front_in 2 xs) (drop 2 xs)

part_back : (s r : List ℕ) → length s < 256 ^ 2 → (part_in (counted_part s ++ r) ≡ s) × (part_rest (counted_part s ++ r) ≡ r)
part_back s r h =
    let size : length s ≡ front_in 2 (counted_part s ++ r) = sym (front_back 2 (length s) (s ++ r) h) in
    (take_at s r _ size, drop_at s r _ size)

-- the value and the rest, from the bytes after a header
abbrev Pair : Type 0
Pair = Val × List ℕ

abbrev data_in : Form → Kind → List ℕ → Pair
data_in (signed w) k xs = (integer k w (signed_in w (front_in w xs)), drop w xs)
data_in (unsigned w) k xs = (natural k w (front_in w xs), drop w xs)
data_in (floating w) k xs = (float k w (front_in w xs), drop w xs)
data_in (timed w) k xs = (time (time_in xs), drop w xs)
data_in counted k xs = (cond (eqb (type_number k) 12) (text (part_in xs)) (array (part_in xs)), part_rest xs)

abbrev value_in : List ℕ → Pair
value_in [] = (absent kind.I8, [])
value_in (h ∷ xs) = let k : Kind = get_or table (type_of h) kind.I8 in cond (eqb (val_of h) 1) (data_in (form k) k xs) (absent k, xs)

data_back : (v : Val) (r : List ℕ) → Lawful v → cond (eqb (val v) 1) (data_in (form (kind_of v)) (kind_of v) (contents v ++ r)) (absent (kind_of v), contents v ++ r) ≡ (v, r)
data_back (absent k) r l = refl
data_back (integer k w z) r l =
    ap (λ (f : Form). data_in f k (contents (integer k w z) ++ r)) l.0
    ∙ (λ i. (integer k w ((ap (signed_in w) (front_back w (complement w z) r (complement_low w z l.1)) ∙ signed_back w z l.1) i), front_rest w (complement w z) r i))
data_back (natural k w n) r l =
    ap (λ (f : Form). data_in f k (contents (natural k w n) ++ r)) l.0 ∙ (λ i. (natural k w (front_back w n r l.1 i), front_rest w n r i))
data_back (float k w n) r l =
    ap (λ (f : Form). data_in f k (contents (float k w n) ++ r)) l.0 ∙ (λ i. (float k w (front_back w n r l.1 i), front_rest w n r i))
data_back (text s) r l = λ i. (text ((part_back s r l.0).0 i), (part_back s r l.0).1 i)
data_back (time t) r l = λ i. (time (time_back t r l i), r)
data_back (array s) r l = λ i. (array ((part_back s r l).0 i), (part_back s r l).1 i)

value_back : (v : Val) (r : List ℕ) → Lawful v → value_in (written v ++ r) ≡ (v, r)
value_back v r l =
    let k : get_or table (type_of (header_byte (val v) (kind_of v))) kind.I8 ≡ kind_of v = ap (λ (n : ℕ). get_or table n kind.I8) (header_type (val v) (kind_of v)) ∙ (known (kind_of v)).told in
    (λ i. cond (eqb (header_val (val v) (kind_of v) i) 1) (data_in (form (k i)) (k i) (contents v ++ r)) (absent (k i), contents v ++ r)) ∙ data_back v r l

pub one_reading : OneReading
one_reading v w r s xs a b =
    let same : ◌≡◌ {A = Pair} (v, r) (w, s) = sym (value_back v r a.lawful) ∙ ap value_in (sym a.bytes ∙ b.bytes) ∙ value_back w s b.lawful in
    (ap (λ (p : Pair). p.0) same, ap (λ (p : Pair). p.1) same)

reads_back : ReadsBack
reads_back v r l = ((λ f no. no.unread v r (record { lawful = l; bytes = refl })), (λ w s d. one_reading w v s r _ d (record { lawful = l; bytes = refl })))

writes_back : WritesBack
writes_back v r xs d = sym d.bytes

pub laws : Laws
laws = record { one_reading = one_reading; reads_back = reads_back; writes_back = writes_back }
