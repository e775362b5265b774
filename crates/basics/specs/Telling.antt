-- How a refusal is told: its layer's name, the number of its fault and its place.
use Rattle.std.specs.Prelude.{ℕ, List, ◌++◌, codes}
use Rattle.std.specs.Fmt.{decimal}
use Rattle.basics.specs.declared.refusal.Layer.{Layer}
use Rattle.basics.specs.declared.refusal.Layer.TheVariants as layer

abbrev pub layer_name : Layer → List ℕ
layer_name layer.Receiver = codes "receiver"
layer_name layer.Packet = codes "packet"
layer_name layer.Message = codes "message"
layer_name layer.Value = codes "value"
layer_name layer.Writer = codes "writer"

abbrev pub told : Layer → ℕ → ℕ → List ℕ
told layer number place =
    codes "by the " ++ layer_name layer ++ codes " layer: number " ++ decimal number ++ codes " at byte " ++ decimal place
