-- Headers at the front of a message, and what is wrong with them.
use Rattle.std.specs.Prelude.{◌≡◌, ℕ, ◌-◌, ◌/◌, ◌%◌, ◌<◌, ◌≤◌, Bool, List, ◌++◌, length, Option, ◌≢◌, slice_index}
use Rattle.basics.specs.Bits.{bit}
use Rattle.body.specs.Places.{place_of}
use Rattle.body.specs.declared.cursor.Body.{Body}
use Rattle.body.specs.declared.fault.MessageFault.{MessageFault}
use Rattle.body.specs.declared.fault.MessageFault.TheVariants as fault
use Rattle.body.specs.declared.fault.MessageRefusal.{MessageRefusal}
use Rattle.message.specs.Headers.{header_bytes, no_transaction, transaction_bytes, FitsTransaction}
use Rattle.message.specs.declared.header.MessageHeader.{MessageHeader}

-- the header's fields fit their bytes
pub record Lawful (h : MessageHeader) : Type 0 where
  pub kind : h.kind < 256
  pub transaction : FitsTransaction h.transaction

-- the message b begins with the header h, and the body c follows
pub record Opens (h : MessageHeader) (b c : Body) : Type 0 where
  pub lawful : Lawful h
  pub stands : b.rest.now ≡ header_bytes h ++ c.rest.now
  pub ends : c.end ≡ b.end

-- the transaction o stands at the front of b, or none does, and c follows
pub record Transacts (absent : Bool) (o : Option ℕ) (b c : Body) : Type 0 where
  pub told : no_transaction o ≡ bit absent
  pub fits : FitsTransaction o
  pub stands : b.rest.now ≡ transaction_bytes o ++ c.rest.now
  pub ends : c.end ≡ b.end

-- the transaction is cut
pub record TransactionRefused (absent : Bool) (b : Body) (r : MessageRefusal) : Type 0 where
  pub asked : bit absent ≡ 0
  pub cut : length b.rest.now < 2
  pub fault : r.fault ≡ fault.TransactionCut
  pub placed : r.place ≡ place_of b

abbrev pub first : List ℕ → ℕ
first xs = slice_index xs 0

-- the first byte and the type are there, and VER is 1
pub record Begun (xs : List ℕ) : Type 0 where
  pub there : 2 ≤ length xs
  pub version : first xs % 16 ≡ 1

-- what each fault says of the header; the others are not a header's
abbrev pub HeaderWrong : MessageFault → List ℕ → Type 0
HeaderWrong fault.Cut xs = length xs < 2
HeaderWrong fault.Version xs = (2 ≤ length xs) × (first xs % 16 ≢ 1)
HeaderWrong fault.ErrorInRequest xs = Begun xs × (first xs / 64 ≡ 1)
HeaderWrong fault.TransactionCut xs = Begun xs × (first xs / 64 ≢ 1) × (first xs / 32 % 2 ≡ 0) × (length xs < 4)
HeaderWrong fault.Cipher xs = ⊥
HeaderWrong fault.Reserved xs = ⊥
HeaderWrong fault.LeftOver xs = ⊥
HeaderWrong fault.Text xs = ⊥
HeaderWrong fault.Variables xs = ⊥
HeaderWrong (fault.Value g) xs = ⊥

-- how many of the bytes stand from the place told on: none where a byte is missing, all where the first byte is wrong, and
-- all but two where the transaction is
abbrev pub from_place : MessageFault → List ℕ → ℕ
from_place fault.Cut xs = 0
from_place fault.Version xs = length xs
from_place fault.ErrorInRequest xs = length xs
from_place fault.TransactionCut xs = length xs - 2
from_place fault.Cipher xs = 0
from_place fault.Reserved xs = 0
from_place fault.LeftOver xs = 0
from_place fault.Text xs = 0
from_place fault.Variables xs = 0
from_place (fault.Value g) xs = 0

-- the message xs, which ends before the place `end`, is refused for its header
pub record HeaderRefused (xs : List ℕ) (end : ℕ) (r : MessageRefusal) : Type 0 where
  pub wrong : HeaderWrong r.fault xs
  pub placed : r.place ≡ end - from_place r.fault xs
