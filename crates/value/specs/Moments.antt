-- Eight bytes by the layout of a time, whether it is lawful or not.
use Rattle.std.specs.Prelude.{◌≡◌, ℕ, ◌^◌, ◌<◌, List, ◌++◌, Option, ◌≢◌}
use Rattle.value.specs.Times.{layout, fields, IfThere, LawfulTime, written_time}
use Rattle.basics.specs.Bits.{bit, present}
use Rattle.value.specs.declared.moment.Fields.{Fields}
use Rattle.value.specs.declared.moment.Flagged.{Flagged}
use Rattle.value.specs.declared.time.Clock.{Clock}
use Rattle.value.specs.declared.time.Date.{Date}
use Rattle.value.specs.declared.time.Time.{Time}

-- each field fits its bits
pub record FitsBits (d : Date) (c : Clock) : Type 0 where
  pub year : d.year < 2 ^ 14
  pub month : d.month < 2 ^ 4
  pub day : d.day < 2 ^ 5
  pub weekday : d.weekday < 2 ^ 3
  pub hour : c.hour < 2 ^ 5
  pub minute : c.minute < 2 ^ 6
  pub second : c.second < 2 ^ 6
  pub millisecond : c.millisecond < 2 ^ 10

-- the bytes xs hold the fields f
pub record LaidOut (f : Fields) (xs : List ℕ) : Type 0 where
  pub fits : FitsBits f.date.fields f.clock.fields
  pub bytes : xs ≡ layout (bit f.date.flag) (bit f.clock.flag) f.date.fields f.clock.fields

-- the bytes xs are no layout: a reserved bit is set, or two flags of one name differ
abbrev pub NoLayout : List ℕ → Type 0
NoLayout xs = (DF TF : ℕ) (d : Date) (c : Clock) → xs ≢ layout DF TF d c

-- a flag and the fields beside it are those of the part o, of which L holds, or of none
pub record PartTold {T : Type 0} (L : T → Type 0) (absent : T) (f : Flagged T) (o : Option T) : Type 0 where
  pub flagged : bit f.flag ≡ present o
  pub fields : f.fields ≡ fields absent o
  pub lawful : IfThere L o

abbrev pub NoPart : {T : Type 0} → (T → Type 0) → T → Flagged T → Type 0
NoPart {T} L absent f = (o : Option T) → PartTold L absent f o → ⊥

-- the bytes xs are those of the lawful time t
pub record TimeTold (t : Time) (xs : List ℕ) : Type 0 where
  pub lawful : LawfulTime t
  pub bytes : xs ≡ written_time t

abbrev pub NotTime : List ℕ → Type 0
NotTime xs = (t : Time) → TimeTold t xs → ⊥

-- xs begin with the lawful time t, and rest follows
abbrev pub TimeFirst : Time → List ℕ → List ℕ → Type 0
TimeFirst t rest xs = LawfulTime t × (xs ≡ written_time t ++ rest)
