-- The faults of a message: their numbers, and the layer that tells them. A value's fault is told as the value's.
use Rattle.std.specs.Prelude.{ℕ}
use Rattle.basics.specs.declared.refusal.Layer.{Layer}
use Rattle.basics.specs.declared.refusal.Layer.TheVariants as layer
use Rattle.fields.specs.declared.part.TextFault.{TextFault}
use Rattle.fields.specs.declared.part.TextFault.TheVariants as text
use Rattle.value.specs.Faults as value
use Rattle.body.specs.declared.fault.MessageFault.{MessageFault}
use Rattle.body.specs.declared.fault.MessageFault.TheVariants as fault

abbrev pub fault_number : MessageFault → ℕ
fault_number fault.Cipher = 20
fault_number fault.Version = 21
fault_number fault.ErrorInRequest = 22
fault_number fault.TransactionCut = 23
fault_number fault.Cut = 24
fault_number fault.Reserved = 25
fault_number fault.LeftOver = 26
fault_number fault.Text = 27
fault_number fault.Variables = 28
fault_number (fault.Value f) = value.fault_number f

abbrev pub fault_layer : MessageFault → Layer
fault_layer fault.Cipher = layer.Message
fault_layer fault.Version = layer.Message
fault_layer fault.ErrorInRequest = layer.Message
fault_layer fault.TransactionCut = layer.Message
fault_layer fault.Cut = layer.Message
fault_layer fault.Reserved = layer.Message
fault_layer fault.LeftOver = layer.Message
fault_layer fault.Text = layer.Message
fault_layer fault.Variables = layer.Message
fault_layer (fault.Value f) = value.fault_layer f

-- a text's fault, as a message's
abbrev pub fault_of_text : TextFault → MessageFault
fault_of_text text.Cut = fault.Cut
fault_of_text text.NoText = fault.Text
