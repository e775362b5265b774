-- Fields taken one after another.
use Rattle.std.proofs.Common.{◌≡◌, ℕ, ◌-◌, List, [], ◌∷◌, ◌++◌, length, Ok, Err, Result, sym, refl, ap, ◌∙◌, subst, append_assoc, append-nil, MatchResult, IsErrAnd}
use Rattle.std.proofs.lemmas.Result.{MatchResult-weaker}
use Rattle.body.specs.Fields.{Field, Item, bytes, all_bytes, asked, Stand}
use Rattle.body.specs.Bodies.{Refuses}
use Rattle.body.specs.Steps.{Takes, Denies, Took, Failed}
use Rattle.body.specs.Tails.{Tail, TailWrong}
use Rattle.body.specs.Places.{place_of}
use Rattle.body.specs.declared.cursor.Body.{Body}
use Rattle.body.specs.declared.fault.MessageRefusal.{MessageRefusal}

-- an exit of a `?` answers the refusal that it met
pub exits : {T : Type 0} (P : T → Type 0) (Q : MessageRefusal → Type 0) (r : Result T MessageRefusal) (e : MessageRefusal) → IsErrAnd r (λ y. y ≡ e) → Q e → MatchResult r P Q
exits P Q (Ok x) e h q = absurd h
exits P Q (Err y) e h q = subst Q (sym h) q

pub all_bytes_append : (is js : List Item) → all_bytes (is ++ js) ≡ all_bytes is ++ all_bytes js
all_bytes_append [] js = refl
all_bytes_append (i ∷ is) js = ap (λ (x : List ℕ). bytes i ++ x) (all_bytes_append is js) ∙ sym (append_assoc (bytes i) (all_bytes is) (all_bytes js))

-- items that stand in fields stand there too with more fields behind
pub stand_more : (fs : List Field) (is : List Item) (left more : List Field) → Stand fs is left → Stand (fs ++ more) is (left ++ more)
stand_more fs [] left more h = ap (λ (x : List Field). x ++ more) h
stand_more [] (i ∷ is) left more h = elim h [ ]
stand_more (f ∷ fs) (i ∷ is) left more h =
    (h.0, subst (λ (x : List Field). Stand x is (left ++ more)) (append_assoc (asked f i) fs more) (stand_more (asked f i ++ fs) is left more h.1))

-- and go on where others ended
pub stand_then : (fs gs : List Field) (is js : List Item) (left : List Field) → Stand fs is gs → Stand gs js left → Stand fs (is ++ js) left
stand_then fs gs [] js left h k = subst (λ (x : List Field). Stand x js left) (sym h) k
stand_then [] gs (i ∷ is) js left h k = elim h [ ]
stand_then (f ∷ fs) gs (i ∷ is) js left h k = (h.0, stand_then (asked f i ++ fs) gs is js left h.1 k)

-- of the fields fs of the body b the items are taken; the fields left are to be read from the body c
pub record Sofar (fs : List Field) (b : Body) (is : List Item) (left : List Field) (c : Body) : Type 0 where
  pub stand : Stand fs is left
  pub stands : b.rest.now ≡ all_bytes is ++ c.rest.now
  pub ends : c.end ≡ b.end

pub start : (fs : List Field) (b : Body) → Sofar fs b [] fs b
start fs b = record { stand = refl; stands = refl; ends = refl }

pub nexts : {fs : List Field} {b c d : Body} {is js : List Item} {gs left : List Field} → Took gs js c d → Sofar fs b is (gs ++ left) c → Sofar fs b (is ++ js) left d
nexts {fs} {b} {c} {d} {is} {js} {gs} {left} t s = record {
  stand = stand_then fs (gs ++ left) is js left s.stand (stand_more gs js [] left t.stand);
  stands = s.stands ∙ ap (λ (x : List ℕ). all_bytes is ++ x) t.stands ∙ sym (append_assoc (all_bytes is) (all_bytes js) d.rest.now)
      ∙ ap (λ (x : List ℕ). x ++ d.rest.now) (sym (all_bytes_append is js));
  ends = t.ends ∙ s.ends;
}

-- a field alone; the head of a list is not one
pub one : {f : Field} {i : Item} {b c : Body} → asked f i ≡ [] → Takes f i b c → Took (f ∷ []) (i ∷ []) b c
one {f} {i} {b} {c} e t = record {
  stand = (t.fits, ap (λ (x : List Field). x ++ []) e);
  stands = t.stands ∙ ap (λ (x : List ℕ). x ++ c.rest.now) (sym (append-nil (bytes i)));
  ends = t.ends;
}

pub whole : {fs : List Field} {b c : Body} {is : List Item} → Sofar fs b is [] c → Took fs is b c
whole s = record { stand = s.stand; stands = s.stands; ends = s.ends }

pub fails : {fs : List Field} {b c : Body} {is : List Item} {gs : List Field} (left : List Field) (r : MessageRefusal) → Failed gs c r → Sofar fs b is (gs ++ left) c → Failed fs b r
fails {fs} {b} {c} {is} {gs} left r t s = record {
  before = is ++ t.before;
  field = t.field;
  left = t.left ++ left;
  rest = t.rest;
  stand = stand_then fs (gs ++ left) is t.before _ s.stand (stand_more gs t.before (t.field ∷ t.left) left t.stand);
  stands = s.stands ∙ ap (λ (x : List ℕ). all_bytes is ++ x) t.stands ∙ sym (append_assoc (all_bytes is) (all_bytes t.before) t.rest)
      ∙ ap (λ (x : List ℕ). x ++ t.rest) (sym (all_bytes_append is t.before));
  wrong = t.wrong;
  placed = t.placed ∙ ap (λ (n : ℕ). n - length t.rest) s.ends;
}

pub denied : {f : Field} {b : Body} (r : MessageRefusal) → Denies f b r → Failed (f ∷ []) b r
denied {f} {b} r d = record { before = []; field = f; left = []; rest = b.rest.now; stand = refl; stands = refl; wrong = d.wrong; placed = d.placed }

-- the next field alone
pub next : {fs : List Field} {b c d : Body} {is : List Item} {f : Field} {i : Item} {left : List Field} → Sofar fs b is (f ∷ left) c → Takes f i c d → Sofar fs b (is ++ (i ∷ [])) (asked f i ++ left) d
next {fs} {b} {c} {d} {is} {f} {i} {left} s t = record {
  stand = stand_then fs (f ∷ left) is (i ∷ []) (asked f i ++ left) s.stand (t.fits, refl);
  stands = s.stands ∙ ap (λ (x : List ℕ). all_bytes is ++ x) (t.stands ∙ ap (λ (x : List ℕ). x ++ d.rest.now) (sym (append-nil (bytes i))))
      ∙ sym (append_assoc (all_bytes is) (all_bytes (i ∷ [])) d.rest.now) ∙ ap (λ (x : List ℕ). x ++ d.rest.now) (sym (all_bytes_append is (i ∷ [])));
  ends = t.ends ∙ s.ends;
}

-- so is the body
pub refuse : {fs : List Field} {b : Body} {r : MessageRefusal} (tail : Tail) → Failed fs b r → Refuses fs tail b r
refuse tail f = record { before = f.before; left = f.field ∷ f.left; rest = f.rest; stand = f.stand; stands = f.stands; wrong = f.wrong; placed = f.placed }

-- what is left after the fields is refused
pub refuse_end : {fs : List Field} {b c : Body} {is : List Item} {r : MessageRefusal} (tail : Tail) → Sofar fs b is [] c → TailWrong r.fault tail c.rest.now × (r.place ≡ place_of c) → Refuses fs tail b r
refuse_end {c} {is} tail s w = record {
  before = is;
  left = [];
  rest = c.rest.now;
  stand = s.stand;
  stands = s.stands;
  wrong = w.0;
  placed = w.1 ∙ ap (λ (n : ℕ). n - length c.rest.now) s.ends;
}

-- the fields that are left, and no more
pub last : {fs : List Field} {b c d : Body} {is js : List Item} {gs : List Field} → Took gs js c d → Sofar fs b is gs c → Sofar fs b (is ++ js) [] d
last {fs} {b} {c} {is} {gs} t s = nexts t (subst (λ (x : List Field). Sofar fs b is x c) (sym (append-nil gs)) s)

pub fail_last : {fs : List Field} {b c : Body} {is : List Item} {gs : List Field} (r : MessageRefusal) → Failed gs c r → Sofar fs b is gs c → Failed fs b r
fail_last {fs} {b} {c} {is} {gs} r t s = fails [] r t (subst (λ (x : List Field). Sofar fs b is x c) (sym (append-nil gs)) s)

-- a call that takes one field takes it as the only one
pub held_one : {X : Type 0} (f : Field) (b : Body) (i : X → Item) (r : Result (X × Body) MessageRefusal) → ((x : X) → asked f (i x) ≡ []) → MatchResult r (λ p. Takes f (i p.0) b p.1) (λ e. Denies f b e) → MatchResult r (λ p. Took (f ∷ []) (i p.0 ∷ []) b p.1) (λ e. Failed (f ∷ []) b e)
held_one f b i r a h = MatchResult-weaker r h (λ p t. one (a p.0) t) (λ e d. denied e d)
