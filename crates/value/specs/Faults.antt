-- The faults of values: their numbers, and the layer that tells them.
use Rattle.std.specs.Prelude.{ℕ}
use Rattle.basics.specs.declared.refusal.Layer.{Layer}
use Rattle.basics.specs.declared.refusal.Layer.TheVariants as layer
use Rattle.fields.specs.declared.part.TextFault.{TextFault}
use Rattle.fields.specs.declared.part.TextFault.TheVariants as part
use Rattle.value.specs.declared.kind.KindFault.{KindFault}
use Rattle.value.specs.declared.kind.KindFault.TheVariants as kind
use Rattle.value.specs.declared.fault.ValueFault.{ValueFault}
use Rattle.value.specs.declared.fault.ValueFault.TheVariants as fault

abbrev pub fault_number : ValueFault → ℕ
fault_number fault.TypeAbove = 30
fault_number fault.TypeUnused = 31
fault_number fault.Reserved = 32
fault_number fault.Cut = 33
fault_number fault.Text = 34
fault_number fault.Time = 35

abbrev pub fault_layer : ValueFault → Layer
fault_layer f = layer.Value

-- the fault of a value whose header tells no type, or whose data are no text
abbrev pub kind_wrong : KindFault → ValueFault
kind_wrong kind.Above = fault.TypeAbove
kind_wrong kind.Unused = fault.TypeUnused

abbrev pub text_wrong : TextFault → ValueFault
text_wrong part.Cut = fault.Cut
text_wrong part.NoText = fault.Text
