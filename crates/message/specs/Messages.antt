-- Messages: how a lawful one is written, and what is wrong with bytes that are none.
use Rattle.std.specs.Prelude.{◌≡◌, ℕ, ◌+◌, ◌<◌, Bool, ◌⊎◌, List, ◌++◌, length, is_some}
use Rattle.body.specs.Bodies.{Filled, Refused}
use Rattle.body.specs.Fields.{Item}
use Rattle.body.specs.declared.fault.MessageFault.TheVariants as fault
use Rattle.body.specs.declared.fault.MessageRefusal.{MessageRefusal}
use Rattle.content.specs.Contents.{row_of, Holds}
use Rattle.content.specs.Rows.{fields, tail}
use Rattle.content.specs.declared.message.Message.{Message}
use Rattle.basics.specs.Bits.{present}
use Rattle.packet.specs.declared.header.Header.{Header}
use Rattle.message.specs.Headers.{header_bytes}
use Rattle.message.specs.Openings.{Lawful, HeaderRefused}
use Rattle.message.specs.Table.{row_for}
use Rattle.message.specs.declared.header.MessageHeader.{MessageHeader}

-- The bytes xs are the message with this header, these items and these bytes at its end, in a packet with a target address
-- or without: the header, and a body of the row that the header tells.
pub record Written (addressed : Bool) (h : MessageHeader) (is : List Item) (t xs : List ℕ) : Type 0 where
  pub body : List ℕ
  pub lawful : Lawful h
  pub stands : xs ≡ header_bytes h ++ body
  pub filled : Filled (fields (row_for addressed h)) (tail (row_for addressed h)) is t body

-- the bytes xs are a message with this header, and m is what it holds
pub record Reads (addressed : Bool) (h : MessageHeader) (m : Message) (xs : List ℕ) : Type 0 where
  pub items : List Item
  pub rest : List ℕ
  pub row : row_of m ≡ row_for addressed h
  pub holds : Holds m items rest
  pub written : Written addressed h items rest xs

-- the header of the message xs is lawful, and its body is refused
pub record BodyRefused (addressed : Bool) (xs : List ℕ) (end : ℕ) (r : MessageRefusal) : Type 0 where
  pub header : MessageHeader
  pub body : List ℕ
  pub lawful : Lawful header
  pub stands : xs ≡ header_bytes header ++ body
  pub refused : Refused (fields (row_for addressed header)) (tail (row_for addressed header)) body end r

-- The message xs, which ends before the place `end`, is refused: for its header or for its body; and it is not how any
-- message is written.
pub record RefusedAt (addressed : Bool) (xs : List ℕ) (end : ℕ) (r : MessageRefusal) : Type 0 where
  pub wrong : HeaderRefused xs end r ⊎ BodyRefused addressed xs end r
  pub unread : (h : MessageHeader) (is : List Item) (t : List ℕ) → Written addressed h is t xs → ⊥

-- whether a packet has a target address, and the length of its header
abbrev pub addressed : Header → Bool
addressed h = is_some h.target

abbrev pub header_size : Header → ℕ
header_size h = 4 + present h.route + present h.source_segment + present h.target_segment + present h.target

-- the message xs of a packet with the header h is read so: it is not enciphered
pub record ReadsIn (h : Header) (k : MessageHeader) (m : Message) (xs : List ℕ) : Type 0 where
  pub plain : h.cipher ≡ 0
  pub reads : Reads (addressed h) k m xs

-- it is refused: it is enciphered, which is told at the byte of the packet that says so; or it is refused as a message that
-- stands after the packet's header
abbrev pub RefusedIn : Header → List ℕ → MessageRefusal → Type 0
RefusedIn h xs r =
    ((0 < h.cipher) × (r.fault ≡ fault.Cipher) × (r.place ≡ 1)) ⊎ ((h.cipher ≡ 0) × RefusedAt (addressed h) xs (header_size h + length xs) r)
