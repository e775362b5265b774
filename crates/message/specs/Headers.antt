-- How the header of a message is written.
use Rattle.std.specs.Prelude.{ℕ, ◌+◌, ◌*◌, ◌^◌, ◌<◌, List, [], ◌∷◌, Some, None, Option, codes}
use Rattle.basics.specs.Little.{little}
use Rattle.basics.specs.Bits.{bit}
use Rattle.message.specs.declared.header.Direction.{Direction}
use Rattle.message.specs.declared.header.Direction.TheVariants as direction
use Rattle.message.specs.declared.header.MessageHeader.{MessageHeader}

-- DIR and ERROR: an error is told only in an answer
abbrev pub direction_bits : Direction → ℕ
direction_bits direction.Request = 0
direction_bits direction.Answer = 2
direction_bits direction.ErrorAnswer = 3

-- how a direction is told
abbrev pub direction_name : Direction → List ℕ
direction_name direction.Request = codes "a request"
direction_name direction.Answer = codes "a good answer"
direction_name direction.ErrorAnswer = codes "an answer that tells an error"

-- NTID: whether there is no transaction
abbrev pub no_transaction : Option ℕ → ℕ
no_transaction None = 1
no_transaction (Some n) = 0

abbrev pub transaction_bytes : Option ℕ → List ℕ
transaction_bytes None = []
transaction_bytes (Some n) = little 2 n

abbrev pub FitsTransaction : Option ℕ → Type 0
FitsTransaction None = Unit {0}
FitsTransaction (Some n) = n < 256 ^ 2

-- DIR ERROR NTID END VER(4), where VER is 1
abbrev pub first_byte : MessageHeader → ℕ
first_byte h = 64 * direction_bits h.direction + 32 * no_transaction h.transaction + 16 * bit h.last + 1

abbrev pub header_bytes : MessageHeader → List ℕ
header_bytes h = first_byte h ∷ h.kind ∷ transaction_bytes h.transaction
