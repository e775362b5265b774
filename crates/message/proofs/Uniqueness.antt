-- A message is told by its bytes, and one that is refused has no reading.
use Rattle.std.proofs.Common.{◌≡◌, ℕ, ◌+◌, ◌*◌, ◌/◌, ◌%◌, ◌<◌, Bool, true, false, List, [], ◌∷◌, ◌++◌, get_or, Some, None, Option, sym, refl, ap, ◌∙◌, subst, inr, arith}
use mathlib.Core.List.{head-eq_of_cons-eq, tail-eq_of_cons-eq}
use Rattle.fields.proofs.Fronts.{little_once}
use Rattle.body.specs.Bodies.{Filled, Refused}
use Rattle.basics.specs.Bits.{bit}
use Rattle.body.specs.Fields.{Item}
use Rattle.body.specs.declared.cursor.Body.{Body}
use Rattle.body.specs.declared.fault.MessageRefusal.{MessageRefusal}
use Rattle.body.proofs.Bits.{bit_low}
use Rattle.body.proofs.Once.{refused_none, filled_once}
use Rattle.content.specs.Readings.{RefusesRow}
use Rattle.content.specs.Rows.{fields, tail}
use Rattle.content.specs.declared.row.Row.{Row}
use Rattle.message.specs.Headers.{direction_bits, no_transaction, transaction_bytes, FitsTransaction, first_byte, header_bytes}
use Rattle.message.specs.Laws.{OneReading}
use Rattle.message.specs.Messages.{Written, BodyRefused, RefusedAt}
use Rattle.message.specs.Openings.{Lawful, Opens}
use Rattle.message.specs.Table.{row_for}
use Rattle.message.specs.declared.header.Direction.{Direction}
use Rattle.message.specs.declared.header.Direction.TheVariants as direction
use Rattle.message.specs.declared.header.MessageHeader.{MessageHeader}

-- what the flags of a first byte may be
abbrev directions : List Direction
directions = direction.Request ∷ direction.Request ∷ direction.Answer ∷ direction.ErrorAnswer ∷ []

record Known (d : Direction) : Type 0 where
  low : direction_bits d < 4
  used : direction_bits d ≡ 1 → ⊥
  told : get_or directions (direction_bits d) direction.Request ≡ d

known : (d : Direction) → Known d
known direction.Request = record { low = omega arith; used = λ e. omega arith; told = refl }
known direction.Answer = record { low = omega arith; used = λ e. omega arith; told = refl }
known direction.ErrorAnswer = record { low = omega arith; used = λ e. omega arith; told = refl }

bit_once : (a b : Bool) → bit a ≡ bit b → a ≡ b
bit_once true true e = refl
bit_once true false e = absurd (omega arith)
bit_once false true e = absurd (omega arith)
bit_once false false e = refl

absent_low : (o : Option ℕ) → no_transaction o < 2
absent_low None = omega arith
absent_low (Some n) = omega arith

-- the flags, back from the first byte
pub record FlagsOf (h : MessageHeader) : Type 0 where
  pub version : first_byte h % 16 ≡ 1
  pub directed : first_byte h / 64 ≡ direction_bits h.direction
  pub absent : first_byte h / 32 % 2 ≡ no_transaction h.transaction
  pub ended : first_byte h / 16 % 2 ≡ bit h.last

flags_of : (h : MessageHeader) → FlagsOf h
flags_of h =
    let d = (known h.direction).low in
    let n = absent_low h.transaction in
    let l = bit_low h.last in
    let above : first_byte h / 32 ≡ 2 * direction_bits h.direction + no_transaction h.transaction = omega arith in
    let more : first_byte h / 16 ≡ 2 * (2 * direction_bits h.direction + no_transaction h.transaction) + bit h.last = omega arith in
    record {
      version = omega arith;
      directed = omega arith;
      absent = ap (λ (k : ℕ). k % 2) above ∙ omega arith;
      ended = ap (λ (k : ℕ). k % 2) more ∙ omega arith;
    }

transaction_once : (o p : Option ℕ) (xs ys : List ℕ) → no_transaction o ≡ no_transaction p → FitsTransaction o → FitsTransaction p → transaction_bytes o ++ xs ≡ transaction_bytes p ++ ys → (o ≡ p) × (xs ≡ ys)
transaction_once None None xs ys n f g e = (refl, e)
transaction_once None (Some m) xs ys n f g e = absurd (omega arith)
transaction_once (Some m) None xs ys n f g e = absurd (omega arith)
transaction_once (Some m) (Some k) xs ys n f g e = let both = little_once 2 m k xs ys f g e in (ap Some both.0, both.1)

-- a message begins with one header at most
pub header_once : (h k : MessageHeader) (xs ys : List ℕ) → Lawful h → Lawful k → header_bytes h ++ xs ≡ header_bytes k ++ ys → (h ≡ k) × (xs ≡ ys)
header_once h k xs ys f g e =
    let first : first_byte h ≡ first_byte k = head-eq_of_cons-eq e in
    let kind : h.kind ≡ k.kind = head-eq_of_cons-eq (tail-eq_of_cons-eq e) in
    let bits : direction_bits h.direction ≡ direction_bits k.direction = sym (flags_of h).directed ∙ ap (λ (b : ℕ). b / 64) first ∙ (flags_of k).directed in
    let way : h.direction ≡ k.direction = sym (known h.direction).told ∙ ap (λ (b : ℕ). get_or directions b direction.Request) bits ∙ (known k.direction).told in
    let end : h.last ≡ k.last = bit_once h.last k.last (sym (flags_of h).ended ∙ ap (λ (b : ℕ). b / 16 % 2) first ∙ (flags_of k).ended) in
    let rest = transaction_once h.transaction k.transaction xs ys (sym (flags_of h).absent ∙ ap (λ (b : ℕ). b / 32 % 2) first ∙ (flags_of k).absent) f.transaction g.transaction (tail-eq_of_cons-eq (tail-eq_of_cons-eq e)) in
    ((λ i. record { direction = way i; last = end i; kind = kind i; transaction = rest.0 i }), rest.1)

body_none : (addressed : Bool) (xs : List ℕ) (end : ℕ) (r : MessageRefusal) → BodyRefused addressed xs end r → (k : MessageHeader) (is : List Item) (t : List ℕ) → Written addressed k is t xs → ⊥
body_none addressed xs end r b k is t w =
    let same = header_once k b.header w.body b.body w.lawful b.lawful (sym w.stands ∙ b.stands) in
    let at : Filled (fields (row_for addressed b.header)) (tail (row_for addressed b.header)) is t b.body =
    subst (λ (j : MessageHeader). Filled (fields (row_for addressed j)) (tail (row_for addressed j)) is t b.body) same.0
    (subst (λ (ys : List ℕ). Filled (fields (row_for addressed k)) (tail (row_for addressed k)) is t ys) same.1 w.filled) in
    refused_none _ _ b.body end r is t b.refused at

pub refused_body : (addressed : Bool) (h : MessageHeader) (b c : Body) (w : Row) (r : MessageRefusal) → Opens h b c → w ≡ row_for addressed h → RefusesRow w c r → RefusedAt addressed b.rest.now b.end r
refused_body addressed h b c w r o e f =
    let refused : Refused (fields (row_for addressed h)) (tail (row_for addressed h)) c.rest.now b.end r =
    subst (λ (n : ℕ). Refused (fields (row_for addressed h)) (tail (row_for addressed h)) c.rest.now n r) o.ends (subst (λ (v : Row). RefusesRow v c r) e f) in
    let at : BodyRefused addressed b.rest.now b.end r = record { header = h; body = c.rest.now; lawful = o.lawful; stands = o.stands; refused = refused } in
    record { wrong = inr at; unread = body_none addressed b.rest.now b.end r at }

pub one_reading : OneReading
one_reading addressed h k is js t u xs v w =
    let same = header_once h k v.body w.body v.lawful w.lawful (sym v.stands ∙ w.stands) in
    let at : Filled (fields (row_for addressed k)) (tail (row_for addressed k)) is t w.body =
    subst (λ (j : MessageHeader). Filled (fields (row_for addressed j)) (tail (row_for addressed j)) is t w.body) same.0
    (subst (λ (ys : List ℕ). Filled (fields (row_for addressed h)) (tail (row_for addressed h)) is t ys) same.1 v.filled) in
    let both = filled_once _ _ w.body is js t u at w.filled in
    (same.0, both.0, both.1)
