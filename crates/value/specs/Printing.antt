-- How a date and a time of day are printed.
use Rattle.std.specs.Prelude.{ℕ, ◌-◌, List, ◌++◌, length, replicate, codes}
use Rattle.std.specs.Fmt.{decimal}
use Rattle.value.specs.declared.time.Date.{Date}
use Rattle.value.specs.declared.time.Clock.{Clock}

-- a number in at least so many digits, with zeros before it
abbrev pub digits : ℕ → ℕ → List ℕ
digits count n = replicate (count - length (decimal n)) 48 ++ decimal n

abbrev pub date_text : Date → List ℕ
date_text d = decimal d.year ++ codes "-" ++ digits 2 d.month ++ codes "-" ++ digits 2 d.day

abbrev pub clock_text : Clock → List ℕ
clock_text c =
    digits 2 c.hour ++ codes ":" ++ digits 2 c.minute ++ codes ":" ++ digits 2 c.second ++ codes "." ++ digits 3 c.millisecond
