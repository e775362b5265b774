-- Bytes whose header is measured: which are whole, and how others can be completed.
-- Assumes nothing.
use Rattle.std.proofs.Common.{◌≡◌, ℕ, zero, suc, ◌+◌, ◌-◌, ◌<◌, ◌≤◌, min, List, [], ◌++◌, length, take, drop, replicate, sym, refl, ap, ◌∙◌, subst, ⊎_elim, arith, length-append, length-drop, length-take}
use Rattle.std.proofs.lemmas.List.{append-nil, append_assoc, take_all, take_min, take-take, take-append-drop, drop-append-le, length-take-le, length-replicate, nil_from_length}
use Rattle.std.proofs.lemmas.Bool.{cases_lt}
use Rattle.basics.specs.Bytes.{Bytes}
use Rattle.basics.specs.Little.{little}
use Rattle.basics.proofs.Bytewise.{bytes_take, bytes_drop, bytes_append}
use Rattle.basics.proofs.Littles.{length_little, bytes_little, take_little}
use Rattle.packet.specs.Raw.{header_length, size_place, size, end, check_place, message, check_bytes}
use Rattle.packet.specs.Packet.{Packet}
use Rattle.packet.specs.Measured.{Measured, Agrees}
use Rattle.packet.proofs.Laid.{length_is, size_is, message_is, check_is}
use Rattle.receiver.specs.Wire.{Whole}
use Rattle.receiver.proofs.Decode.{packet_from}
use Rattle.receiver.proofs.Raws.{Alike, alike_more, alike_take, span_alike, Agree, agree, measured_too}

pub bytes_zeros : (n : ℕ) → Bytes (replicate n 0)
bytes_zeros zero = tt
bytes_zeros (suc n) = (omega arith, bytes_zeros n)

-- bytes can be added to make it whole
abbrev pub Extends : ℕ → (List ℕ → ℕ) → List ℕ → Type 0
Extends w check h = (more : List ℕ) × Bytes more × Whole (Packet w check) (h ++ more)

module _ (w : ℕ) (check : List ℕ → ℕ) where
  pub agreeing_none : (h : List ℕ) → length h ≤ check_place w h → Agrees w check h
  agreeing_none h l =
      let e : check_bytes w h ≡ [] = nil_from_length _ (simp (length-take, length-drop) (omega arith)) in
      subst (λ (x : List ℕ). x ≡ little (length x) (check (message w h))) (sym e) refl

  pub extend_by : (h a : List ℕ) → Bytes a → Extends w check (h ++ a) → Extends w check h
  extend_by h a b x = (a ++ x.0, bytes_append a x.0 b x.1, subst (λ (y : List ℕ). Whole (Packet w check) y) (append_assoc h a x.0) x.2)

  -- a packet that has the bytes of h
  module _ (p h : List ℕ) (k : Packet w check p) (s : Alike p h) where
    pub packet_long : w + 6 ≤ length p
    packet_long = omega (arith, length_is k.2, size_is k.2, k.2.message_least)

    module _ (l : size_place h < length h) where
      pub agrees : Agree p h
      agrees = agree p h s (omega (arith, packet_long)) l

      pub ends_there : length p ≡ end h
      ends_there = length_is k.2 ∙ agrees.ends

      pub agreeing_of : w + 2 ≤ size h → Agrees w check h
      agreeing_of z = ⊎_elim
          (λ (j : check_place w h < length h).
          let a = agrees in
          let ln = ends_there in
          let c : ℕ = check_place w h in
          let n : ℕ = length (check_bytes w h) in
          let nn : n ≡ min w (length h - c) = simp (length-take, length-drop) in
          let v : ℕ = check (message w h) in
          let same_place : check_place w p ≡ c = omega (arith, a.ends) in
          let same-message : message w p ≡ message w h =
          ap (λ (i : ℕ). take (i - w) (drop (header_length p) p)) a.sizes ∙ ap (λ (i : ℕ). take (size h - w) (drop i p)) a.headers
          ∙ span_alike p h (header_length h) (size h - w) s (omega arith) (omega arith) in
          let here : take n (drop c p) ≡ check_bytes w h = span_alike p h c n s (omega arith) (omega arith) ∙ rw length-take (take_min w (drop c h)) in
          let all : take w (drop c p) ≡ little w v =
          ap (λ (i : ℕ). take w (drop i p)) (sym same_place) ∙ check_is k.2
          ∙ ap (λ (x : List ℕ). little w (check x)) (sym (message_is k.2) ∙ same-message) in
          sym here ∙ sym (take-take n w (drop c p) (omega arith)) ∙ ap (take n) all ∙ take_little n w v (omega arith))
          (λ j. agreeing_none h j)
          (cases_lt (check_place w h) (length h))

  module _ (h : List ℕ) (b : Bytes h) (header stop : ℕ) (m : Measured w h header stop) where
    -- the packet in a list whose check is all there and agrees
    pub whole_from : end h ≤ length h → Agrees w check h → Packet w check (take (end h) h)
    whole_from l a =
        let p : List ℕ = take (end h) h in
        let z = m.size_least in
        let n : length p ≡ end h = length-take-le (end h) h l in
        let g : Agree p h = agree p h (alike_take (end h) h) (omega arith) m.size_there in
        let c : ℕ = check_place w h in
        let same_place : check_place w p ≡ c = omega (arith, g.ends) in
        let same-message : message w p ≡ message w h =
        ap (λ (i : ℕ). take (i - w) (drop (header_length p) p)) g.sizes ∙ ap (λ (i : ℕ). take (size h - w) (drop i p)) g.headers
        ∙ span_alike p h (header_length h) (size h - w) (alike_take (end h) h) (omega arith) (omega arith) in
        let long : length (check_bytes w h) ≡ w = simp (length-take, length-drop) (omega arith) in
        let same_check : check_bytes w p ≡ check_bytes w h =
        ap (λ (i : ℕ). take w (drop i p)) same_place ∙ span_alike p h c w (alike_take (end h) h) (omega arith) (omega arith) in
        packet_from w check p (bytes_take (end h) h b) (header_length p) (end p) (measured_too p h g (omega arith) m) (n ∙ sym g.ends)
        (same_check ∙ a ∙ ap (λ (i : ℕ). little i (check (message w h))) long ∙ ap (λ (x : List ℕ). little w (check x)) (sym same-message))

    -- the rest of the check
    pub complete : check_place w h ≤ length h → length h ≤ end h → Agrees w check h → Extends w check h
    complete l j a =
        let v : ℕ = check (message w h) in
        let c : ℕ = check_place w h in
        let n : ℕ = length h - c in
        let z = m.size_least in
        let more : List ℕ = drop n (little w v) in
        let q : List ℕ = h ++ more in
        let lw : length (little w v) ≡ w = length_little w v in
        let lm : length more ≡ w - n = length-drop n (little w v) ∙ omega arith in
        let lq : length q ≡ length h + length more = length-append h more in
        let t = m.size_there in
        let g : Agree q h = agree q h (alike_more h more) (omega arith) t in
        let same_place : check_place w q ≡ c = omega (arith, g.ends) in
        let seen : check_bytes w h ≡ drop c h = take_all w (drop c h) (omega (arith, length-drop c h)) in
        let ls : length (check_bytes w h) ≡ n = ap length seen ∙ length-drop c h in
        let front : drop c h ≡ take n (little w v) = sym seen ∙ a ∙ ap (λ (i : ℕ). little i v) ls ∙ sym (take_little n w v (omega arith)) in
        let all : drop c q ≡ little w v =
        drop-append-le c h more l ∙ ap (λ (x : List ℕ). x ++ more) front ∙ take-append-drop n (little w v) in
        let same-message : message w q ≡ message w h =
        ap (λ (i : ℕ). take (i - w) (drop (header_length q) q)) g.sizes ∙ ap (λ (i : ℕ). take (size h - w) (drop i q)) g.headers
        ∙ span_alike q h (header_length h) (size h - w) (alike_more h more) (omega arith) (omega arith) in
        let checks : check_bytes w q ≡ little w (check (message w q)) =
        ap (λ (i : ℕ). take w (drop i q)) same_place ∙ ap (take w) all ∙ take_all w (little w v) (omega arith)
        ∙ ap (λ (x : List ℕ). little w (check x)) (sym same-message) in
        let bm : Bytes more = bytes_drop n (little w v) (bytes_little w v) in (
          more,
          bm,
          (
            q,
            [],
            packet_from w check q (bytes_append h more b bm) (header_length q) (end q) (measured_too q h g (omega arith) m) (omega (arith, g.ends)) checks,
            sym (append-nil q),
          ),
        )

  -- any bytes up to the check, and then the check
  pub reach : (h : List ℕ) (b : Bytes h) (header stop : ℕ) → Measured w h header stop → length h ≤ end h → Agrees w check h → Extends w check h
  reach h b header stop m j a = ⊎_elim
      (λ (l : length h < check_place w h).
      let n : ℕ = check_place w h - length h in
      let more : List ℕ = replicate n 0 in
      let lm : length more ≡ n = length-replicate n 0 in
      let lq : length (h ++ more) ≡ length h + length more = length-append h more in
      let t = m.size_there in
      let g : Agree (h ++ more) h = agree (h ++ more) h (alike_more h more) (omega arith) t in
      extend_by h more (bytes_zeros n)
      (complete (h ++ more) (bytes_append h more b (bytes_zeros n)) _ _ (measured_too (h ++ more) h g (omega arith) m) (omega (arith, g.ends)) (omega (arith, g.ends))
      (agreeing_none (h ++ more) (omega (arith, g.ends)))))
      (λ l. complete h b header stop m l j a)
      (cases_lt (length h) (check_place w h))
