-- The faults of a receiver: their numbers, and the layer that they belong to.
use Rattle.std.specs.Prelude.{ℕ}
use Rattle.basics.specs.declared.refusal.Layer.{Layer}
use Rattle.basics.specs.declared.refusal.Layer.TheVariants.{Receiver}
use Rattle.receiver.specs.declared.fault.ReceiverFault.{ReceiverFault}
use Rattle.receiver.specs.declared.fault.ReceiverFault.TheVariants.{ShortBuffer}

abbrev pub number : ReceiverFault → ℕ
number ShortBuffer = 1

abbrev pub layer : ReceiverFault → Layer
layer f = Receiver
