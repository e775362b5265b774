-- What fields hold is settled by the bytes, and a field that is wrong holds nothing.
use Rattle.std.proofs.Common.{◌≡◌, ℕ, ◌+◌, ◌^◌, ◌<◌, List, [], ◌∷◌, ◌++◌, length, sym, refl, ap, ◌∙◌, subst, inl, inr, append_assoc, arith}
use Rattle.basics.specs.Little.{little}
use Rattle.fields.proofs.Fronts.{little_once, number_once, number_long, part_once, part_whole, part_text}
use Rattle.value.proofs.Uniqueness.{one_reading}
use Rattle.basics.specs.Bits.{bits}
use Rattle.body.specs.Fields.{Field, word, listing, text, value, Item, whole, letters, universal, bytes, all_bytes, Fits, FitsWord, asked, Stand}
use Rattle.body.specs.Wrongs.{Wrong, BitsSet}
use Rattle.body.specs.Bodies.{Filled, Refused, NextWrong}
use Rattle.body.specs.Tails.{Tail, nothing, anything, variables, Fills, TailWrong}
use Rattle.body.specs.declared.fault.MessageFault.{MessageFault}
use Rattle.body.specs.declared.fault.MessageFault.TheVariants as fault
use Rattle.body.specs.declared.fault.MessageRefusal.{MessageRefusal}

number_once_in : (w v u n m : ℕ) (r s : List ℕ) → v ≡ w → u ≡ w → n < 256 ^ w → m < 256 ^ w → little v n ++ r ≡ little u m ++ s → (whole v n ≡ whole u m) × (r ≡ s)
number_once_in w v u n m r s p q h g e =
    let at : little w n ++ r ≡ little w m ++ s = ap (λ (k : ℕ). little k n ++ r) (sym p) ∙ e ∙ ap (λ (k : ℕ). little k m ++ s) q in
    let both = little_once w n m r s h g at in
    let same = both.0 in (cc, both.1)

-- a field holds one item at most
pub item_once : (f : Field) (i j : Item) (r s : List ℕ) → Fits f i → Fits f j → bytes i ++ r ≡ bytes j ++ s → (i ≡ j) × (r ≡ s)
item_once (word w a b) (whole v n) (whole u m) r s h g e = number_once_in w v u n m r s h.0 g.0 h.1.low g.1.low e
item_once (listing b) (whole v n) (whole u m) r s h g e = number_once_in 2 v u n m r s h.0 g.0 h.1.low g.1.low e
item_once text (letters t) (letters u) r s h g e = let both = part_once t u r s (bytes (letters t) ++ r) (h.0, refl) (g.0, e) in (ap letters both.0, both.1)
item_once value (universal v) (universal u) r s h g e =
    let both = one_reading v u r s (bytes (universal v) ++ r) (record { lawful = h; bytes = refl }) (record { lawful = g; bytes = e }) in (ap universal both.0, both.1)
item_once f i j r s h g e = absurd assumption

bits_clear : (w a b v n : ℕ) (xs r : List ℕ) → BitsSet w a b xs → v ≡ w → FitsWord w a b n → xs ≡ little v n ++ r → ⊥
bits_clear w a b v n xs r (m, rest, number, high) p h e =
    let same = (number_once w n m r rest xs (h.low, e ∙ ap (λ (k : ℕ). little k n ++ r) p) number).0 in
    omega (arith, ap (bits a b) same, h.reserved)

long : (v n : ℕ) (xs r : List ℕ) → xs ≡ little v n ++ r → length xs ≡ v + length r
long v n xs r e = ap length e ∙ number_long v n r

-- a field that is wrong holds no item
pub wrong_none : (g : MessageFault) (f : Field) (xs : List ℕ) → Wrong g f xs → (i : Item) (r : List ℕ) → Fits f i → xs ≡ bytes i ++ r → ⊥
wrong_none fault.Cut (word w a b) xs h (whole v n) r fit e = omega (arith, long v n xs r e, fit.0)
wrong_none fault.Cut (listing b) xs h (whole v n) r fit e = omega (arith, long v n xs r e, fit.0)
wrong_none fault.Cut text xs h (letters t) r fit e = part_whole t r xs (fit.0, e) h
wrong_none fault.Reserved (word w a b) xs h (whole v n) r fit e = bits_clear w a b v n xs r h fit.0 fit.1 e
wrong_none fault.Reserved (listing b) xs h (whole v n) r fit e = bits_clear 2 12 2 v n xs r h fit.0 fit.1 e
wrong_none fault.Text f xs (is, h) (whole v n) r fit e = subst (λ (k : Field). Fits k (whole v n)) is fit
wrong_none fault.Text f xs (is, h) (letters t) r fit e = let at = subst (λ (k : Field). Fits k (letters t)) is fit in part_text t r xs (at.0, e) at.1 h
wrong_none fault.Text f xs (is, h) (universal v) r fit e = subst (λ (k : Field). Fits k (universal v)) is fit
wrong_none (fault.Value g) f xs (is, h) (whole v n) r fit e = subst (λ (k : Field). Fits k (whole v n)) is fit
wrong_none (fault.Value g) f xs (is, h) (letters t) r fit e = subst (λ (k : Field). Fits k (letters t)) is fit
wrong_none (fault.Value g) f xs (is, h) (universal v) r fit e = h.unread v r (record { lawful = subst (λ (k : Field). Fits k (universal v)) is fit; bytes = e })
wrong_none g f xs h i r fit e = assumption

join : (i : Item) (is : List Item) (r : List ℕ) → all_bytes (i ∷ is) ++ r ≡ bytes i ++ (all_bytes is ++ r)
join i is r = append_assoc (bytes i) (all_bytes is) r

-- fields hold one list of items at most
pub items_once : (fs : List Field) (is js : List Item) (r s : List ℕ) → Stand fs is [] → Stand fs js [] → all_bytes is ++ r ≡ all_bytes js ++ s → (is ≡ js) × (r ≡ s)
items_once fs [] [] r s h g e = (refl, e)
items_once [] [] (j ∷ js) r s h g e = elim g [ ]
items_once (f ∷ fs) [] (j ∷ js) r s h g e = absurd (cc)
items_once [] (i ∷ is) js r s h g e = elim h [ ]
items_once (f ∷ fs) (i ∷ is) [] r s h g e = absurd (cc)
items_once (f ∷ fs) (i ∷ is) (j ∷ js) r s h g e =
    let first = item_once f i j (all_bytes is ++ r) (all_bytes js ++ s) h.0 g.0 (sym (join i is r) ∙ e ∙ join j js s) in
    let rest = items_once (asked f i ++ fs) is js r s h.1 (subst (λ (k : Item). Stand (asked f k ++ fs) js []) (sym first.0) g.1) first.1 in
    let head = first.0 in
    let tail = rest.0 in (cc, rest.1)

-- fields one of which is wrong hold none
pub none_stand : (fs : List Field) (before : List Item) (f : Field) (left : List Field) (g : MessageFault) (rest : List ℕ) (is : List Item) (r : List ℕ)
    → Stand fs before (f ∷ left) → Wrong g f rest → Stand fs is [] → all_bytes before ++ rest ≡ all_bytes is ++ r → ⊥
none_stand fs [] f left g rest [] r h w k e = cc
none_stand [] [] f left g rest (i ∷ is) r h w k e = k
none_stand (x ∷ fs) [] f left g rest (i ∷ is) r h w k e =
    let at = subst (λ (y : List Field). Stand y (i ∷ is) []) h k in wrong_none g f rest w i (all_bytes is ++ r) at.0 (e ∙ join i is r)
none_stand [] (b ∷ bs) f left g rest is r h w k e = h
none_stand (x ∷ fs) (b ∷ bs) f left g rest [] r h w k e = cc
none_stand (x ∷ fs) (b ∷ bs) f left g rest (i ∷ is) r h w k e =
    let first = item_once x b i (all_bytes bs ++ rest) (all_bytes is ++ r) h.0 k.0 (sym (join b bs rest) ∙ e ∙ join i is r) in
    none_stand (asked x b ++ fs) bs f left g rest is r h.1 w (subst (λ (y : Item). Stand (asked x y ++ fs) is []) (sym first.0) k.1) first.1

-- of the items of fields, the first are those that the first fields hold
pub record Split (gs : List Field) (is es : List Item) (r s : List ℕ) : Type 0 where
  pub others : List Item
  pub is_all : es ≡ is ++ others
  pub stand : Stand gs others []
  pub bytes_are : all_bytes others ++ r ≡ s

pub split : (fs gs : List Field) (is es : List Item) (r s : List ℕ) → Stand fs is [] → Stand (fs ++ gs) es [] → all_bytes es ++ r ≡ all_bytes is ++ s → Split gs is es r s
split fs gs [] es r s h k e = record { others = es; is_all = refl; stand = subst (λ (x : List Field). Stand (x ++ gs) es []) h k; bytes_are = e }
split [] gs (i ∷ is) es r s h k e = elim h [ ]
split (f ∷ fs) gs (i ∷ is) [] r s h k e = absurd (cc)
split (f ∷ fs) gs (i ∷ is) (j ∷ es) r s h k e =
    let first = item_once f j i (all_bytes es ++ r) (all_bytes is ++ s) k.0 h.0 (sym (join j es r) ∙ e ∙ join i is s) in
    let moved : Stand ((asked f i ++ fs) ++ gs) es [] =
    subst (λ (x : List Field). Stand x es []) (sym (append_assoc (asked f i) fs gs)) (subst (λ (y : Item). Stand (asked f y ++ (fs ++ gs)) es []) first.0 k.1) in
    let rest = split (asked f i ++ fs) gs is es r s h.1 moved first.1 in
    let head = first.0 in
    let tail = rest.is_all in
    record { others = rest.others; is_all = cc; stand = rest.stand; bytes_are = rest.bytes_are }

-- an end that is wrong is none
tail_none : (g : MessageFault) (t : Tail) (xs : List ℕ) → TailWrong g t xs → Fills t xs → ⊥
tail_none fault.LeftOver nothing xs (e, h) f = omega arith
tail_none fault.LeftOver anything xs (e, h) f = cc
tail_none fault.LeftOver variables xs (e, h) f = cc
tail_none fault.Variables nothing xs (e, h) f = cc
tail_none fault.Variables anything xs (e, h) f = cc
tail_none fault.Variables variables xs (e, inl odd) f = omega (arith, f.even)
tail_none fault.Variables variables xs (e, inr many) f = omega (arith, f.few)
tail_none g t xs h f = h

next_none : (fs : List Field) (tail : Tail) (before : List Item) (left : List Field) (g : MessageFault) (rest : List ℕ) (is : List Item) (t : List ℕ)
    → Stand fs before left → NextWrong left tail g rest → Stand fs is [] → Fills tail t → all_bytes before ++ rest ≡ all_bytes is ++ t → ⊥
next_none fs tail before [] g rest is t h w k f e =
    tail_none g tail t (subst (TailWrong g tail) (items_once fs before is rest t h k e).1 w) f
next_none fs tail before (x ∷ left) g rest is t h w k f e = none_stand fs before x left g rest is t h w k e

-- a body that is refused has no reading
pub refused_none : (fs : List Field) (tail : Tail) (xs : List ℕ) (end : ℕ) (r : MessageRefusal) (is : List Item) (t : List ℕ) → Refused fs tail xs end r → Filled fs tail is t xs → ⊥
refused_none fs tail xs end r is t h f =
    next_none fs tail h.before h.left r.fault h.rest is t h.stand h.wrong f.stand f.fills (sym h.stands ∙ f.stands)

-- and a body has one reading at most
pub filled_once : (fs : List Field) (tail : Tail) (xs : List ℕ) (is js : List Item) (t u : List ℕ) → Filled fs tail is t xs → Filled fs tail js u xs → (is ≡ js) × (t ≡ u)
filled_once fs tail xs is js t u f g = items_once fs is js t u f.stand g.stand (sym f.stands ∙ g.stands)
