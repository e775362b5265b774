-- Times in eight bytes.
use Rattle.std.specs.Prelude.{ℕ, suc, ◌+◌, ◌-◌, ◌*◌, ◌/◌, ◌%◌, ◌^◌, ◌<◌, ◌≤◌, List, [], ◌∷◌, Some, None, Option}
use Rattle.basics.specs.Bits.{present}
use Rattle.value.specs.declared.time.Date.{Date}
use Rattle.value.specs.declared.time.Clock.{Clock}
use Rattle.value.specs.declared.time.Time.{Time}

-- the bits of n from bit high down to bit low
abbrev pub bits : ℕ → ℕ → ℕ → ℕ
bits high low n = n / 2 ^ low % 2 ^ (suc high - low)

-- the eight bytes that hold a date d with its flag DF and a time of day c with its flag TF; a line is a byte, from bit 7
-- down to bit 0
abbrev pub layout : ℕ → ℕ → Date → Clock → List ℕ
layout DF TF d c =
    (4 * bits 5 0 d.year + 2 * TF + DF)
    ∷ bits 13 6 d.year
    ∷ (16 * bits 3 0 d.day + bits 3 0 d.month)
    ∷ bits 4 4 d.day
    ∷ (128 * bits 0 0 c.minute + 4 * bits 4 0 c.hour + 2 * TF + DF)
    ∷ (32 * bits 2 0 c.second + bits 5 1 c.minute)
    ∷ (8 * bits 4 0 c.millisecond + bits 5 3 c.second)
    ∷ (32 * bits 2 0 d.weekday + bits 9 5 c.millisecond)
    ∷ []

-- the fields of a part of the time: those of an absent part are 0
abbrev pub fields : {T : Type 0} → T → Option T → T
fields absent None = absent
fields absent (Some x) = x

abbrev pub no_date : Date
no_date = record { year = 0; month = 0; day = 0; weekday = 0 }

abbrev pub no_clock : Clock
no_clock = record { hour = 0; minute = 0; second = 0; millisecond = 0 }

abbrev pub date_fields : Option Date → Date
date_fields = fields no_date

abbrev pub clock_fields : Option Clock → Clock
clock_fields = fields no_clock

-- its flag tells whether a part is there
abbrev pub written_time : Time → List ℕ
written_time t = layout (present t.date) (present t.clock) (date_fields t.date) (clock_fields t.clock)

abbrev pub LawfulDate : Date → Type 0
LawfulDate d = (d.year < 2 ^ 14) × (1 ≤ d.month) × (d.month ≤ 12) × (1 ≤ d.day) × (d.day ≤ 31) × (d.weekday ≤ 6)

abbrev pub LawfulClock : Clock → Type 0
LawfulClock c = (c.hour ≤ 23) × (c.minute ≤ 59) × (c.second ≤ 59) × (c.millisecond ≤ 999)

-- what is there is lawful
abbrev pub IfThere : {T : Type 0} → (T → Type 0) → Option T → Type 0
IfThere P None = Unit {0}
IfThere P (Some x) = P x

abbrev pub LawfulTime : Time → Type 0
LawfulTime t = IfThere LawfulDate t.date × IfThere LawfulClock t.clock
