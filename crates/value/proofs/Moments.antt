-- Eight bytes and the fields of a time.
use Rattle.std.proofs.Common.{◌≡◌, ℕ, zero, suc, ◌+◌, ◌*◌, ◌/◌, ◌%◌, ◌^◌, ◌<◌, cond, eqb, List, [], ◌∷◌, ◌++◌, length, get_or, drop, Some, None, Option, refl, ap, ◌∙◌, mod-eq_of_lt, add_comm, arith, drop-cons}
use native.Mathlib.Nat.{div-add-mod}
use Rattle.std.proofs.lemmas.List.{drop_all}
use Rattle.value.specs.Times.{bits, layout, fields, no_date, no_clock, date_fields, clock_fields, written_time, LawfulDate, LawfulClock, IfThere, LawfulTime}
use Rattle.basics.specs.Bits.{present}
use Rattle.value.specs.Moments.{FitsBits}
use Rattle.value.specs.declared.time.Clock.{Clock}
use Rattle.value.specs.declared.time.Date.{Date}
use Rattle.value.specs.declared.time.Time.{Time}

-- w elements from place i on
abbrev pub from : ℕ → ℕ → List ℕ → List ℕ
from zero i xs = []
from (suc w) i xs = get_or xs i 0 ∷ from w (suc i) xs

pub drop_from : (w i : ℕ) (xs : List ℕ) → length xs ≡ i + w → drop i xs ≡ from w i xs
drop_from zero i xs e = drop_all i xs (omega arith)
drop_from (suc w) i xs e =
    let h : i < length xs = omega arith in
    drop-cons xs i 0 h ∙ ap (λ (t : List ℕ). get_or xs i 0 ∷ t) (drop_from w (suc i) xs (omega arith))

pub alike :
    {a0 a1 a2 a3 a4 a5 a6 a7 b0 b1 b2 b3 b4 b5 b6 b7 : ℕ} → a0 ≡ b0 → a1 ≡ b1 → a2 ≡ b2 → a3 ≡ b3 → a4 ≡ b4 → a5 ≡ b5 → a6 ≡ b6 → a7 ≡ b7
    → ◌≡◌ {A = List ℕ} (a0 ∷ a1 ∷ a2 ∷ a3 ∷ a4 ∷ a5 ∷ a6 ∷ a7 ∷ []) (b0 ∷ b1 ∷ b2 ∷ b3 ∷ b4 ∷ b5 ∷ b6 ∷ b7 ∷ [])
alike e0 e1 e2 e3 e4 e5 e6 e7 = cc

-- a field from its two parts, of j and of m bits' numbers
joined : (j m n : ℕ) → n / j < m → n / 1 % j + j * (n / j % m) ≡ n
joined j m n h =
    let whole : n / 1 ≡ n = omega arith in
    (λ i. whole i % j + j * mod-eq_of_lt h i) ∙ add_comm (n % j) (j * (n / j)) ∙ div-add-mod n j

-- the fields that eight bytes and more hold
abbrev date_in : List ℕ → Date
date_in xs = record {
  year = get_or xs 0 0 / 4 + 64 * get_or xs 1 0;
  month = get_or xs 2 0 % 16;
  day = get_or xs 2 0 / 16 + 16 * get_or xs 3 0;
  weekday = get_or xs 7 0 / 32;
}

abbrev clock_in : List ℕ → Clock
clock_in xs = record {
  hour = get_or xs 4 0 / 4 % 32;
  minute = get_or xs 4 0 / 128 + 2 * (get_or xs 5 0 % 32);
  second = get_or xs 5 0 / 32 + 8 * (get_or xs 6 0 % 8);
  millisecond = get_or xs 6 0 / 8 + 32 * (get_or xs 7 0 % 32);
}

module _ (DF TF : ℕ) (d : Date) (c : Clock) (r : List ℕ) (f : DF < 2) (g : TF < 2) (h : FitsBits d c) where
  date_back : date_in (layout DF TF d c ++ r) ≡ d
  date_back =
      let low : (4 * bits 5 0 d.year + 2 * TF + DF) / 4 ≡ bits 5 0 d.year = omega arith in
      let year : (4 * bits 5 0 d.year + 2 * TF + DF) / 4 + 64 * bits 13 6 d.year ≡ d.year = ap (λ (x : ℕ). x + 64 * bits 13 6 d.year) low ∙ joined 64 256 d.year (omega (arith, h.year)) in
      let month : (16 * bits 3 0 d.day + bits 3 0 d.month) % 16 ≡ d.month = omega (arith, h.month) in
      let high : (16 * bits 3 0 d.day + bits 3 0 d.month) / 16 ≡ bits 3 0 d.day = omega arith in
      let day : (16 * bits 3 0 d.day + bits 3 0 d.month) / 16 + 16 * bits 4 4 d.day ≡ d.day = ap (λ (x : ℕ). x + 16 * bits 4 4 d.day) high ∙ joined 16 2 d.day (omega (arith, h.day)) in
      let weekday : (32 * bits 2 0 d.weekday + bits 9 5 c.millisecond) / 32 ≡ d.weekday = omega (arith, h.weekday) in
      λ i. record { year = year i; month = month i; day = day i; weekday = weekday i }

  clock_back : clock_in (layout DF TF d c ++ r) ≡ c
  clock_back =
      let four : ℕ = 128 * bits 0 0 c.minute + 4 * bits 4 0 c.hour + 2 * TF + DF in
      let five : ℕ = 32 * bits 2 0 c.second + bits 5 1 c.minute in
      let six : ℕ = 8 * bits 4 0 c.millisecond + bits 5 3 c.second in
      let seven : ℕ = 32 * bits 2 0 d.weekday + bits 9 5 c.millisecond in
      let hour : four / 4 % 32 ≡ c.hour = omega (arith, h.hour) in
      let minute-low : four / 128 ≡ bits 0 0 c.minute = omega (arith, h.hour) in
      let minute-high : five % 32 ≡ bits 5 1 c.minute = omega arith in
      let second-low : five / 32 ≡ bits 2 0 c.second = omega arith in
      let second-high : six % 8 ≡ bits 5 3 c.second = omega arith in
      let millisecond-low : six / 8 ≡ bits 4 0 c.millisecond = omega arith in
      let millisecond-high : seven % 32 ≡ bits 9 5 c.millisecond = omega arith in
      let minute : four / 128 + 2 * (five % 32) ≡ c.minute = (λ i. minute-low i + 2 * minute-high i) ∙ joined 2 32 c.minute (omega (arith, h.minute)) in
      let second : five / 32 + 8 * (six % 8) ≡ c.second = (λ i. second-low i + 8 * second-high i) ∙ joined 8 8 c.second (omega (arith, h.second)) in
      let millisecond : six / 8 + 32 * (seven % 32) ≡ c.millisecond = (λ i. millisecond-low i + 32 * millisecond-high i) ∙ joined 32 32 c.millisecond (omega (arith, h.millisecond)) in
      λ i. record { hour = hour i; minute = minute i; second = second i; millisecond = millisecond i }

  flags_back : (get_or (layout DF TF d c ++ r) 0 0 % 2 ≡ DF) × (get_or (layout DF TF d c ++ r) 0 0 / 2 % 2 ≡ TF)
  flags_back = (omega arith, omega arith)

-- the fields of lawful parts fit their bits
fits_date : (o : Option Date) → IfThere LawfulDate o → ((date_fields o).year < 2 ^ 14) × ((date_fields o).month < 2 ^ 4) × ((date_fields o).day < 2 ^ 5) × ((date_fields o).weekday < 2 ^ 3)
fits_date None l = (omega arith, omega arith, omega arith, omega arith)
fits_date (Some d) l = (omega arith, omega arith, omega arith, omega arith)

fits_clock : (o : Option Clock) → IfThere LawfulClock o → ((clock_fields o).hour < 2 ^ 5) × ((clock_fields o).minute < 2 ^ 6) × ((clock_fields o).second < 2 ^ 6) × ((clock_fields o).millisecond < 2 ^ 10)
fits_clock None l = (omega arith, omega arith, omega arith, omega arith)
fits_clock (Some c) l = (omega arith, omega arith, omega arith, omega arith)

flag_low : {T : Type 0} (o : Option T) → present o < 2
flag_low None = omega arith
flag_low (Some x) = omega arith

-- a part that is there or not, from its flag and fields
abbrev part_in : {T : Type 0} → ℕ → T → Option T
part_in n x = cond (eqb n 1) (Some x) None

part_back : {T : Type 0} (absent : T) (o : Option T) → part_in (present o) (fields absent o) ≡ o
part_back absent None = refl
part_back absent (Some x) = refl

-- the time that eight bytes hold
abbrev pub time_in : List ℕ → Time
time_in xs = record { date = part_in (get_or xs 0 0 % 2) (date_in xs); clock = part_in (get_or xs 0 0 / 2 % 2) (clock_in xs) }

-- is the one that was written
pub time_back : (t : Time) (r : List ℕ) → LawfulTime t → time_in (written_time t ++ r) ≡ t
time_back t r l =
    let a = fits_date t.date l.0 in
    let b = fits_clock t.clock l.1 in
    let h : FitsBits (date_fields t.date) (clock_fields t.clock) = record { year = a.0; month = a.1; day = a.2; weekday = a.3; hour = b.0; minute = b.1; second = b.2; millisecond = b.3 } in
    let f = flag_low t.date in
    let g = flag_low t.clock in
    let flags = flags_back _ _ _ _ r f g h in
    let date : (time_in (written_time t ++ r)).date ≡ t.date = (λ i. part_in (flags.0 i) (date_back _ _ _ _ r f g h i)) ∙ part_back no_date t.date in
    let clock : (time_in (written_time t ++ r)).clock ≡ t.clock = (λ i. part_in (flags.1 i) (clock_back _ _ _ _ r f g h i)) ∙ part_back no_clock t.clock in
    λ i. record { date = date i; clock = clock i }
