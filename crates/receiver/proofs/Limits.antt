-- What leaves the line, how much is held, and how much one call takes.
-- Assumes nothing.
use Rattle.std.proofs.Common.{◌≡◌, ℕ, ◌+◌, ◌≤◌, List, [], ◌∷◌, ◌++◌, length, min, refl, ap, arith, length-append}
use Rattle.receiver.specs.Wire.{Event}
use Rattle.receiver.specs.Rules.{Said, State, state, held, Rules, rule_1, rule_2_noise, rule_2_packet, rule_3_noise, rule_3_opens, rule_4_closed, rule_4_open, rule_5_takes, rule_5_noise, rule_5_waits}
use Rattle.receiver.specs.Runs.{Run, made, gap, next, refused}
use Rattle.receiver.proofs.PrefixCode.{PrefixCode, possible_short}

pub took_left : {Packet : List ℕ → Type 0} {n : ℕ} {r : State} {line taken : List ℕ} {a : Said} {r' : State} {line' : List ℕ}
    → Rules Packet n r line taken a r' line' → line ≡ taken ++ line'
took_left (rule_1 e) = refl
took_left (rule_2_noise l o w) = refl
took_left (rule_2_packet p rest q e) = refl
took_left (rule_3_noise l o) = refl
took_left (rule_3_opens d) = took_left d
took_left (rule_4_closed l w d) = took_left d
took_left (rule_4_open l w m d) = took_left d
took_left (rule_5_takes {b = b} l m d) = ap {B = List ℕ} (λ x. b ∷ x) (took_left d)
took_left (rule_5_noise l o m) = refl
took_left (rule_5_waits m) = refl

module _ (Packet : List ℕ → Type 0) (code : PrefixCode Packet) where
  rest_few : (r : State) (p rest : List ℕ) → held r ≡ p ++ rest → length rest ≤ length (held r)
  rest_few r p rest e = omega (arith, ap length e, length-append p rest)

  held_few : {n : ℕ} {r : State} {line taken : List ℕ} {a : Said} {r' : State} {line' : List ℕ} → Rules Packet n r line taken a r' line'
      → length (held r) ≤ 263 → length (held r') ≤ 263
  held_few (rule_1 e) h = h
  held_few (rule_2_noise l o w) h = h
  held_few (rule_2_packet {s = state o b} p rest q e) h = omega (arith, rest_few (state o b) p rest e)
  held_few (rule_3_noise l o) h = h
  held_few (rule_3_opens d) h = held_few d h
  held_few (rule_4_closed l w d) h = held_few d (omega arith)
  held_few (rule_4_open l w p d) h = held_few d (omega arith)
  held_few (rule_5_takes {b = b} {h = x} l p d) h =
      let y = length-append x (b ∷ []) in
      let z = possible_short 263 code.short x p in
      held_few d (omega (arith, y, z))
  held_few (rule_5_noise l o p) h = h
  held_few (rule_5_waits p) h = h

  -- Each byte taken fills the room for 263, and each dropped is one of 1,024.
  taken_few : {n : ℕ} {r : State} {line taken : List ℕ} {a : Said} {r' : State} {line' : List ℕ} → Rules Packet n r line taken a r' line'
      → n ≤ 1024 → length taken + (min 263 (length (held r)) + n) ≤ 1287
  taken_few (rule_1 e) m = omega arith
  taken_few (rule_2_noise l o w) m = omega arith
  taken_few (rule_2_packet {s = state o b} p rest q e) m = omega arith
  taken_few (rule_3_noise l o) m = omega arith
  taken_few (rule_3_opens d) m = taken_few d m
  taken_few (rule_4_closed l w d) m = let s = taken_few d (omega arith) in omega (arith, s)
  taken_few (rule_4_open l w p d) m = let s = taken_few d (omega arith) in omega (arith, s)
  taken_few (rule_5_takes {b = b} {h = x} l p d) m =
      let y = length-append x (b ∷ []) in
      let z = possible_short 263 code.short x p in
      let s = taken_few d m in
      omega (arith, s, y, z)
  taken_few (rule_5_noise l o p) m = omega arith
  taken_few (rule_5_waits p) m = omega arith

  -- of one call
  pub call_few : {s s' : State} {line taken line' : List ℕ} {a : Said} → Rules Packet 0 s line taken a s' line' → length taken ≤ 1287
  call_few c = omega (arith, taken_few c (omega arith))

  -- so the line gets shorter by no more
  pub few_gone : {s s' : State} {line taken line' : List ℕ} {a : Said} → Rules Packet 0 s line taken a s' line' → length line ≤ 1287 + length line'
  few_gone {taken = taken} {line' = line'} c = omega (arith, ap length (took_left c), length-append taken line', call_few c)

  pub few_held : {s : State} {log : List Event} {said : List Said} → Run Packet s log said → length (held s) ≤ 263
  few_held made = omega arith
  few_held (gap u) = few_held u
  few_held (next u c) = held_few c.1.by_rules (few_held u)
  few_held (refused u c) = omega (arith, few_held u, ap (λ s. length (held s)) c.2)
