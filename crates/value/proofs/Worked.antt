-- The examples, worked.
use Rattle.std.proofs.Common.{◌≡◌, ℕ, List, [], ◌∷◌, sym, refl, ap, ◌∙◌, subst, arith}
use mathlib.Core.List.{head-eq_of_cons-eq}
use Rattle.text.specs.Characters.{one, two, three, four}
use Rattle.text.specs.Texts.{IsText, empty, next}
use Rattle.value.specs.Examples.{Examples}
use Rattle.value.specs.Readings.{NoTime}
use Rattle.value.specs.Times.{LawfulTime}
use Rattle.value.specs.declared.fault.ValueFault.TheVariants as fault
use Rattle.value.specs.declared.kind.Kind.TheVariants as kind
use Rattle.value.proofs.Moments.{time_in, time_back}
use Rattle.value.proofs.Refusals.{refused_data}

zhe : IsText (0xD0 ∷ 0x96 ∷ [])
zhe = next (two ((omega arith, omega arith), ((omega arith, omega arith), (λ e. omega arith), (λ e. omega arith), (λ e. omega arith), (λ e. omega arith)))) empty

overlong : {xs : List ℕ} → IsText xs → xs ≡ 0xC0 ∷ 0x80 ∷ [] → ⊥
overlong empty e = cc
overlong (next (one h) t) e = omega (arith, head-eq_of_cons-eq e)
overlong (next (two h) t) e = omega (arith, head-eq_of_cons-eq e)
overlong (next (three h) t) e = omega (arith, head-eq_of_cons-eq e)
overlong (next (four h) t) e = omega (arith, head-eq_of_cons-eq e)

abbrev late : List ℕ
late = 0xA3 ∷ 0x1F ∷ 0xDD ∷ 0x01 ∷ 0x33 ∷ 0xAF ∷ 0xA5 ∷ 0x8F ∷ []

-- its month is 13
no_month : NoTime late
no_month = (omega arith, λ t rest l e. let lawful : LawfulTime (time_in late) = subst LawfulTime (sym (ap time_in e ∙ time_back t rest l)) l in omega (arith, lawful.0.2))

pub examples : Examples
examples = record {
  number = record { lawful = (refl, omega arith); bytes = refl };
  nothing = record { lawful = tt; bytes = refl };
  cut = refused_data fault.Cut kind.U8 [] (omega arith);
  letter = record { lawful = (omega arith, zhe); bytes = refl };
  overlong = refused_data fault.Text kind.Text _ (refl, (0xC0 ∷ 0x80 ∷ [], [], (omega arith, refl), λ t. overlong t refl));
  moment = record { lawful = ((omega arith, omega arith, omega arith, omega arith, omega arith, omega arith), (omega arith, omega arith, omega arith, omega arith)); bytes = refl };
  month = refused_data fault.Time kind.Time late (refl, no_month);
}
