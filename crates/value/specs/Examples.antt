-- Bytes written out, with what they are read as or refused with.
use Rattle.std.specs.Prelude.{[], ◌∷◌, Some}
use Rattle.value.specs.Readings.{Reads, Refused}
use Rattle.value.specs.Values.{absent, natural, text, time}
use Rattle.value.specs.declared.fault.ValueFault.TheVariants as fault
use Rattle.value.specs.declared.kind.Kind.TheVariants as kind
use Rattle.value.specs.declared.time.Time.{Time}

-- the 29th of February 2024, a Thursday, at 12:30:45.500
abbrev leap_day : Time
leap_day = record {
  date = Some (record { year = 2024; month = 2; day = 29; weekday = 4 });
  clock = Some (record { hour = 12; minute = 30; second = 45; millisecond = 500 });
}

pub record Examples : Type 0 where
  -- 255
  pub number : Reads (natural kind.U8 1 255) [] (0x83 ∷ 0xFF ∷ [])
  pub nothing : Reads (absent kind.U8) [] (0x03 ∷ [])
  pub cut : Refused fault.Cut (0x83 ∷ [])
  -- U+0416
  pub letter : Reads (text (0xD0 ∷ 0x96 ∷ [])) [] (0x8C ∷ 0x02 ∷ 0x00 ∷ 0xD0 ∷ 0x96 ∷ [])
  -- U+0000, longer than it needs to be
  pub overlong : Refused fault.Text (0x8C ∷ 0x02 ∷ 0x00 ∷ 0xC0 ∷ 0x80 ∷ [])
  pub moment : Reads (time leap_day) [] (0x8E ∷ 0xA3 ∷ 0x1F ∷ 0xD2 ∷ 0x01 ∷ 0x33 ∷ 0xAF ∷ 0xA5 ∷ 0x8F ∷ [])
  -- in the thirteenth month
  pub month : Refused fault.Time (0x8E ∷ 0xA3 ∷ 0x1F ∷ 0xDD ∷ 0x01 ∷ 0x33 ∷ 0xAF ∷ 0xA5 ∷ 0x8F ∷ [])
