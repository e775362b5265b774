-- How much of a packet's header can be relied on before its data are looked at.
use Rattle.std.specs.Prelude.{◌≡◌, ℕ, ◌+◌, ◌<◌, ◌≤◌, true, false, List, length}
use Rattle.std.proofs.Common.{ap, arith}
use Rattle.std.specs.Coded.{le_prop}
use Rattle.std.proofs.Math.Nat.{ℕ_set}
use Rattle.basics.specs.Little.{little}
use Rattle.packet.specs.Raw as raw
use Rattle.packet.specs.Header.{first_byte}
use Rattle.packet.specs.declared.fault.PacketFault.{PacketFault}
use Rattle.packet.specs.Faults.{Opens, Refused}

-- those of the two flag bytes and the route that are there are lawful
pub record Begun (p : List ℕ) : Type 0 where
  pub opens : 0 < length p → Opens (raw.byte p 0)
  pub version_least : 1 < length p → 1 ≤ raw.version p
  pub cipher_most : 1 < length p → raw.cipher p ≤ 3
  pub route_most : 2 < length p → raw.flag (raw.byte p 1) 7 ≡ 1 → raw.byte p 2 ≤ 15

-- the two flag bytes and the route are lawful
pub record LawfulStart (p : List ℕ) : Type 0 where
  pub opens : Opens (raw.byte p 0)
  pub version_least : 1 ≤ raw.version p
  pub cipher_most : raw.cipher p ≤ 3
  pub route_most : raw.flag (raw.byte p 1) 7 ≡ 1 → raw.byte p 2 ≤ 15

-- The bytes p begin a packet as far as the size, which has room for a message and a check of w bytes. The header ends at
-- `header` and the packet at `end`.
pub record Measured (w : ℕ) (p : List ℕ) (header end : ℕ) : Type 0 where
  pub start : LawfulStart p
  pub size_there : raw.size_place p < length p
  pub size_least : w + 2 ≤ raw.size p
  pub header_is : header ≡ raw.header_length p
  pub end_is : end ≡ raw.end p

-- the bytes are refused for what stands in their header, at the size or before it
abbrev pub RefusedInHeader : ℕ → (List ℕ → ℕ) → List ℕ → PacketFault → ℕ → Type 0
RefusedInHeader w check p f k = Refused w check p f k × (k ≤ raw.size_place p)

-- such facts tell no more than that they hold
Opens-prop : (b : ℕ) → IsProp (Opens b)
Opens-prop b (true, true, e) (true, true, f) = ap (λ (x : b ≡ first_byte 1 1). (true, true, x)) (ℕ_set _ _ e f)
Opens-prop b (true, false, e) (true, false, f) = ap (λ (x : b ≡ first_byte 1 0). (true, false, x)) (ℕ_set _ _ e f)
Opens-prop b (false, true, e) (false, true, f) = ap (λ (x : b ≡ first_byte 0 1). (false, true, x)) (ℕ_set _ _ e f)
Opens-prop b (false, false, e) (false, false, f) = ap (λ (x : b ≡ first_byte 0 0). (false, false, x)) (ℕ_set _ _ e f)
Opens-prop b (true, true, e) (true, false, f) = absurd (omega arith)
Opens-prop b (true, true, e) (false, true, f) = absurd (omega arith)
Opens-prop b (true, true, e) (false, false, f) = absurd (omega arith)
Opens-prop b (true, false, e) (true, true, f) = absurd (omega arith)
Opens-prop b (true, false, e) (false, true, f) = absurd (omega arith)
Opens-prop b (true, false, e) (false, false, f) = absurd (omega arith)
Opens-prop b (false, true, e) (true, true, f) = absurd (omega arith)
Opens-prop b (false, true, e) (true, false, f) = absurd (omega arith)
Opens-prop b (false, true, e) (false, false, f) = absurd (omega arith)
Opens-prop b (false, false, e) (true, true, f) = absurd (omega arith)
Opens-prop b (false, false, e) (true, false, f) = absurd (omega arith)
Opens-prop b (false, false, e) (false, true, f) = absurd (omega arith)

pub Measured-prop : (w : ℕ) (p : List ℕ) (header end : ℕ) → IsProp (Measured w p header end)
Measured-prop w p header end = Prim.hlevel (Opens-prop, ℕ_set, le_prop)

-- As far as the bytes of the check are there, they are the lowest bytes of the message's check.
abbrev pub Agrees : ℕ → (List ℕ → ℕ) → List ℕ → Type 0
Agrees w check p = raw.check_bytes w p ≡ little (length (raw.check_bytes w p)) (check (raw.message w p))

-- The bytes end where the packet does, and its check is the message's.
pub record Complete (w : ℕ) (check : List ℕ → ℕ) (p : List ℕ) : Type 0 where
  pub ends : length p ≡ raw.end p
  pub agrees : raw.check_bytes w p ≡ little w (check (raw.message w p))
