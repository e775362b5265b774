-- The faults of a packet: their numbers, and the layer that they belong to.
use Rattle.std.specs.Prelude.{ℕ}
use Rattle.basics.specs.declared.refusal.Layer.{Layer}
use Rattle.basics.specs.declared.refusal.Layer.TheVariants.{Packet}
use Rattle.packet.specs.declared.fault.PacketFault.{PacketFault}
use Rattle.packet.specs.declared.fault.PacketFault.TheVariants.{CutShort, FirstByte, Version, Cipher, Route, Size, Check, LeftOver}

abbrev pub number : PacketFault → ℕ
number CutShort = 10
number FirstByte = 11
number Version = 12
number Cipher = 13
number Route = 14
number Size = 15
number Check = 16
number LeftOver = 17

abbrev pub layer : PacketFault → Layer
layer f = Packet
