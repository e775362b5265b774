-- Entries passed one after another.
use Rattle.std.proofs.Common.{◌≡◌, ℕ, suc, ◌+◌, ◌-◌, ◌*◌, ◌/◌, ◌%◌, ◌^◌, ◌<◌, Bool, true, false, not, List, [], ◌∷◌, ◌++◌, sym, refl, ap, ◌∙◌, subst, append-nil, arith, Some, None, Result, Ok, Err, MatchResult}
use Rattle.std.specs.Result.{result_ok}
use Rattle.std.proofs.lemmas.Option.{none-some, cond_some}
use Rattle.basics.specs.Bits.{bits, bit}
use Rattle.body.specs.Fields.{Field, Item, listing, whole, all_bytes, entry, times, unless, when, Stand}
use Rattle.body.specs.Steps.{Takes, Took, Failed}
use Rattle.body.specs.declared.cursor.Body.{Body}
use Rattle.body.specs.declared.fault.MessageRefusal.{MessageRefusal}
use Rattle.body.proofs.Bits.{bit_low}
use Rattle.body.proofs.Chains.{Sofar, start, next, nexts, fails, stand_more}
use Rattle.body.proofs.Once.{none_stand, split, Split}
use Rattle.channels.specs.Layouts.{layout_word, entry_of}
use Rattle.channels.specs.declared.layout.Layout.{Layout}

-- of n times the fields gs, i times are passed
abbrev pub Passed : ℕ → ℕ → List Field → Body → Body → Type 0
Passed n i gs b c = (is : List Item) × Sofar (times n gs) b is (times (n - i) gs) c

one_more : (n i : ℕ) (gs : List Field) (b c : Body) → i < n → Passed n i gs b c → (is : List Item) × Sofar (times n gs) b is (gs ++ times (n - (i + 1)) gs) c
one_more n i gs b c l (is, s) = let e : n - i ≡ suc (n - (i + 1)) = omega arith in (is, subst (λ (k : ℕ). Sofar (times n gs) b is (times k gs) c) e s)

pub passed_more : (n i : ℕ) (gs : List Field) (b c d : Body) (js : List Item) → i < n → Passed n i gs b c → Took gs js c d → Passed n (i + 1) gs b d
passed_more n i gs b c d js l p t = let m = one_more n i gs b c l p in (m.0 ++ js, nexts t m.1)

pub failed_more : (n i : ℕ) (gs : List Field) (b c : Body) (r : MessageRefusal) → i < n → Passed n i gs b c → Failed gs c r → Failed (times n gs) b r
failed_more n i gs b c r l p f = fails _ r f (one_more n i gs b c l p).1

-- the head of a list asks for its entries
headed_by : (valued : Bool) (l : Layout) → l.valued ≡ valued → l.count < 4096
    → times (bits 0 12 (layout_word l)) (entry valued (bits 15 1 (layout_word l)) (bits 14 1 (layout_word l))) ≡ times l.count (entry_of l)
headed_by valued l v h =
    let d = bit_low l.detailed in
    let u = bit_low l.unnamed in
    let count : bits 0 12 (layout_word l) ≡ l.count = omega arith in
    let top : layout_word l / 2 ^ 15 ≡ bit l.detailed = omega arith in
    let one : bit l.detailed % 2 ≡ bit l.detailed = omega arith in
    let detailed : bits 15 1 (layout_word l) ≡ bit l.detailed = ap (λ (k : ℕ). k % 2) top ∙ one in
    let above : layout_word l / 2 ^ 14 ≡ 2 * bit l.detailed + bit l.unnamed = omega arith in
    let low : (2 * bit l.detailed + bit l.unnamed) % 2 ≡ bit l.unnamed = omega arith in
    let unnamed : bits 14 1 (layout_word l) ≡ bit l.unnamed = ap (λ (k : ℕ). k % 2) above ∙ low in
    ap (λ (k : ℕ). times k (entry valued (bits 15 1 (layout_word l)) (bits 14 1 (layout_word l)))) count
    ∙ ap (λ (k : ℕ). times l.count (entry valued k (bits 14 1 (layout_word l)))) detailed
    ∙ ap (λ (k : ℕ). times l.count (entry valued (bit l.detailed) k)) unnamed
    ∙ ap (λ (b : Bool). times l.count (entry b (bit l.detailed) (bit l.unnamed))) (sym v)

pub headed : (valued : Bool) (l : Layout) (b c : Body) → Takes (listing valued) (whole 2 (layout_word l)) b c × (l.valued ≡ valued) × (l.count < 4096)
    → Sofar (listing valued ∷ []) b (whole 2 (layout_word l) ∷ []) (times l.count (entry_of l)) c
headed valued l b c (t, v, h) =
    subst (λ (x : List Field). Sofar (listing valued ∷ []) b (whole 2 (layout_word l) ∷ []) x c) (append-nil _ ∙ headed_by valued l v h) (next (start _ _) t)

none_held : (es : List Item) → Stand [] es [] → es ≡ []
none_held [] h = refl
none_held (i ∷ es) h = elim h [ ]

-- a list that counts none has none
pub none_listed : (n : ℕ) (gs : List Field) (es : List Item) → n ≡ 0 → Stand (times n gs) es [] → es ≡ []
none_listed n gs es e h = none_held es (subst (λ (k : ℕ). Stand (times k gs) es []) e h)

one_first : (n : ℕ) (gs : List Field) (es : List Item) → (n ≡ 0 → ⊥) → Stand (times n gs) es [] → Stand (gs ++ times (n - 1) gs) es []
one_first n gs es some h = let e : n ≡ suc (n - 1) = omega arith in subst (λ (k : ℕ). Stand (times k gs) es []) e h

-- what is known of a result, where its value alone is left of it
pub of_none : {A E : Type 0} (P : A → Type 0) (Q : E → Type 0) (r : Result A E) → MatchResult r P Q → None ≡ result_ok r → (e : E) × Q e
of_none P Q (Ok x) h e = absurd (none-some x e)
of_none P Q (Err x) h e = (x, h)

pub of_some : {A E : Type 0} (P : A → Type 0) (Q : E → Type 0) (x : A) (r : Result A E) → MatchResult r P Q → Some x ≡ result_ok r → P x
of_some P Q x (Ok y) h e = subst P (cond_some true y x (sym e)).1 h
of_some P Q x (Err y) h e = absurd (none-some x (sym e))

-- a list that counts some does not begin with an entry that is refused
pub failed_listed : (n : ℕ) (gs : List Field) (b : Body) (r : MessageRefusal) (es : List Item) → (n ≡ 0 → ⊥) → Failed gs b r → Stand (times n gs) es [] → b.rest.now ≡ all_bytes es → ⊥
failed_listed n gs b r es some f h e =
    none_stand (gs ++ times (n - 1) gs) f.before f.field (f.left ++ times (n - 1) gs) r.fault f.rest es [] (stand_more gs f.before (f.field ∷ f.left) (times (n - 1) gs) f.stand) f.wrong
    (one_first n gs es some h) (sym f.stands ∙ e ∙ sym (append-nil (all_bytes es)))

-- and what stands first is its first entry
pub first_listed : (n : ℕ) (gs : List Field) (b c : Body) (is es : List Item) → (n ≡ 0 → ⊥) → Took gs is b c → Stand (times n gs) es [] → b.rest.now ≡ all_bytes es → Split (times (n - 1) gs) is es [] c.rest.now
first_listed n gs b c is es some t h e =
    split gs (times (n - 1) gs) is es [] c.rest.now t.stand (one_first n gs es some h) (append-nil (all_bytes es) ∙ sym e ∙ t.stands)

-- a field that stands where there is no flag
pub unflagged : (b : Bool) (fs : List Field) → when (bit (not b)) fs ≡ unless (bit b) fs
unflagged true fs = refl
unflagged false fs = refl
