-- What two lists say of themselves as packets, where they have the same bytes.
-- Assumes nothing.
use Rattle.std.proofs.Common.{◌≡◌, ℕ, ◌+◌, ◌/◌, ◌%◌, ◌<◌, ◌≤◌, List, ◌++◌, length, get_or, take, drop, sym, refl, ap, ◌∙◌, subst, arith, length-drop, length-take}
use Rattle.std.proofs.lemmas.List.{get_or_append_left, get_or-take, ext_get_or}
use Rattle.std.proofs.lemmas.Grind.{elements}
use Rattle.packet.specs.Raw.{byte, flag, header_length, size_place, size, end}
use Rattle.packet.specs.Faults.{Opens}
use Rattle.packet.specs.Measured.{Measured}

-- the same bytes where both have one
abbrev pub Alike : List ℕ → List ℕ → Type 0
Alike p h = (i : ℕ) → i < length p → i < length h → byte p i ≡ byte h i

pub alike_fronts : (p rest h more : List ℕ) → h ++ more ≡ p ++ rest → Alike p h
alike_fronts p rest h more e i l m = sym (get_or_append_left p rest 0 i l) ∙ ap (λ (x : List ℕ). get_or x i 0) (sym e) ∙ get_or_append_left h more 0 i m

pub alike_more : (h more : List ℕ) → Alike (h ++ more) h
alike_more h more i l m = get_or_append_left h more 0 i m

pub alike_take : (k : ℕ) (h : List ℕ) → Alike (take k h) h
alike_take k h i l m = get_or-take k h i 0 (omega (arith, length-take k h))

pub span_alike : (p h : List ℕ) (a n : ℕ) → Alike p h → a + n ≤ length p → a + n ≤ length h → take n (drop a p) ≡ take n (drop a h)
span_alike p h a n s lp lh =
    let np : length (take n (drop a p)) ≡ n = simp (length-take, length-drop) (omega arith) in
    let nh : length (take n (drop a h)) ≡ n = simp (length-take, length-drop) (omega arith) in
    ext_get_or 0 (take n (drop a p)) (take n (drop a h)) (np ∙ sym nh) (λ i l.
    let e = s (a + i) (omega arith) (omega arith) in
    grind (arith, elements))

-- both have their size: they say the same
pub record Agree (p h : List ℕ) : Type 0 where
  pub first : byte p 0 ≡ byte h 0
  pub second : byte p 1 ≡ byte h 1
  pub third : byte p 2 ≡ byte h 2
  pub size_places : size_place p ≡ size_place h
  pub sizes : size p ≡ size h
  pub headers : header_length p ≡ header_length h
  pub ends : end p ≡ end h

pub agree : (p h : List ℕ) → Alike p h → size_place h < length p → size_place h < length h → Agree p h
agree p h s l m =
    let a = s 0 (omega arith) (omega arith) in
    let b = s 1 (omega arith) (omega arith) in
    let c = s 2 (omega arith) (omega arith) in
    let d : size_place p ≡ size_place h = ap (λ (x : ℕ). 2 + flag x 7) b in
    let e : size p ≡ size h = ap (byte p) d ∙ s (size_place h) l m in
    let f : header_length p ≡ header_length h = omega (arith, ap (λ (x : ℕ). flag x 7 + flag x 6 + flag x 5) b, ap (λ (x : ℕ). flag x 3) a) in
    record { first = a; second = b; third = c; size_places = d; sizes = e; headers = f; ends = omega arith }

pub measured_too : {w : ℕ} {header stop : ℕ} (p h : List ℕ) → Agree p h → size_place h < length p → Measured w h header stop → Measured w p (header_length p) (end p)
measured_too p h a l m = record {
  start = record {
    opens = subst Opens (sym a.first) m.start.opens;
    version_least = omega (arith, ap (λ (x : ℕ). x / 8 % 4) a.second, m.start.version_least);
    cipher_most = omega (arith, ap (λ (x : ℕ). x % 8) a.second, m.start.cipher_most);
    route_most = λ e. omega (arith, a.third, m.start.route_most (ap (λ (x : ℕ). flag x 7) (sym a.second) ∙ e));
  };
  size_there = omega (arith, a.size_places);
  size_least = omega (arith, a.sizes, m.size_least);
  header_is = refl;
  end_is = refl;
}
