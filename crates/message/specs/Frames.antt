-- Packets and their messages together, under a check of w bytes that gives a message its number.
use Rattle.std.specs.Prelude.{ℕ, List}
use Rattle.basics.specs.declared.refusal.Layer.{Layer}
use Rattle.body.specs.Faults as message
use Rattle.content.specs.declared.message.Message.{Message}
use Rattle.packet.specs.Faults.{Refused}
use Rattle.packet.specs.Numbers as packet
use Rattle.packet.specs.Packet as packets
use Rattle.packet.specs.declared.header.Header.{Header}
use Rattle.message.specs.Messages.{ReadsIn, RefusedIn}
use Rattle.message.specs.declared.frame.ReadRefusal.{ReadRefusal}
use Rattle.message.specs.declared.frame.ReadRefusal.TheVariants as of
use Rattle.message.specs.declared.header.MessageHeader.{MessageHeader}

-- the bytes p are a packet with the header h, and its message has the header k and holds m
pub record ReadsFrame (w : ℕ) (check : List ℕ → ℕ) (p : List ℕ) (h : Header) (k : MessageHeader) (m : Message) : Type 0 where
  pub message : List ℕ
  pub packet : packets.Reads w check p h message
  pub reads : ReadsIn h k m message

-- the bytes p are no packet, or a packet whose message is refused
abbrev pub RefusedFrame : ℕ → (List ℕ → ℕ) → List ℕ → ReadRefusal → Type 0
RefusedFrame w check p (of.Packet r) = Refused w check p r.fault r.place
RefusedFrame w check p (of.Message r) = (h : Header) × (message : List ℕ) × packets.Reads w check p h message × RefusedIn h message r

-- number, layer and place of a refusal, as its layer tells them
abbrev pub refusal_number : ReadRefusal → ℕ
refusal_number (of.Packet r) = packet.number r.fault
refusal_number (of.Message r) = message.fault_number r.fault

abbrev pub refusal_layer : ReadRefusal → Layer
refusal_layer (of.Packet r) = packet.layer r.fault
refusal_layer (of.Message r) = message.fault_layer r.fault

abbrev pub refusal_place : ReadRefusal → ℕ
refusal_place (of.Packet r) = r.place
refusal_place (of.Message r) = r.place
