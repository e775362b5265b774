-- What bytes say of themselves as a packet, lawful or not. A byte that is not there counts as 0.
use Rattle.std.specs.Prelude.{ℕ, ◌+◌, ◌-◌, ◌/◌, ◌%◌, ◌^◌, List, take, drop, slice_index}

-- the bit k of a byte, 0 or 1
abbrev pub flag : ℕ → ℕ → ℕ
flag b k = b / 2 ^ k % 2

abbrev pub byte : List ℕ → ℕ → ℕ
byte p k = slice_index p k

-- VER and CIPH
abbrev pub version : List ℕ → ℕ
version p = byte p 1 / 8 % 4

abbrev pub cipher : List ℕ → ℕ
cipher p = byte p 1 % 8

-- four bytes, and one more for each of ADD, SSEG, DSEG and ADR that is set
abbrev pub header_length : List ℕ → ℕ
header_length p = 4 + flag (byte p 1) 7 + flag (byte p 1) 6 + flag (byte p 1) 5 + flag (byte p 0) 3

-- the size stands after the route byte, if there is one
abbrev pub size_place : List ℕ → ℕ
size_place p = 2 + flag (byte p 1) 7

abbrev pub size : List ℕ → ℕ
size p = byte p (size_place p)

-- the place after the packet's last byte
abbrev pub end : List ℕ → ℕ
end p = header_length p + size p

-- the place of the check, and with that the place after the message
abbrev pub check_place : ℕ → List ℕ → ℕ
check_place w p = end p - w

abbrev pub message : ℕ → List ℕ → List ℕ
message w p = take (size p - w) (drop (header_length p) p)

abbrev pub check_bytes : ℕ → List ℕ → List ℕ
check_bytes w p = take w (drop (check_place w p) p)
