-- A literal and a body that were written are read back. Assumes nothing.
use Prim.Native.Nat.{ℕ, zero, suc, ◌+◌, ◌≤◌, ◌<◌}
use native.Mathlib.Omega.{arith}
use mathlib.Core.Path.{◌≡◌, refl, sym, ap, ap₂, ◌∙◌, subst, subst⁻¹}
use mathlib.Core.Bool.{Bool, true, false, cond}
use mathlib.Core.List.{List, [], ◌∷◌, ◌++◌}
use lib.Dec.{eqb}
use borrow.Author.Tests.{lt-ltb, eqb-true}
use Rattle.syntax.specs.Limits.{literals}
use Rattle.syntax.specs.Bytes.{class_of, in_word, in_numeral}
use Rattle.syntax.specs.declared.Class.{Class}
use Rattle.syntax.specs.declared.Class.TheVariants.{Single}
use Rattle.syntax.specs.declared.Token.{Token}
use Rattle.syntax.specs.declared.TokenKind.{TokenKind}
use Rattle.syntax.specs.Tokens.{outside, at_token, move_of, token_of_class, same_kind, name_kind, variable_kind, numeral_kind, open_kind, close_kind, comma_kind, stop_kind, equals_kind, semicolon_kind}
use Rattle.syntax.specs.Terms.{Term, Terms, variable, compound, nil, cons, arity, Atom, term_of, Literal, Body, call, equation, truth, falsity, either, done, also, literal_of, same_name, same_predicate, true_name, fail_name}
use Rattle.syntax.specs.Reading.{Cursor, Read, is, next, beyond, last, after_of, read_right, after_atom, after_term, literal_with, one_literal_more, plain_with, read_plain, body_after, read_body_with, read_sides, read_literal, read_to}
use Rattle.format_rules.specs.Writing.{variable_name, term_text, list_text, atom_text, literal_text, body_text, further_text}
use Rattle.format_rules.specs.Plain.{plain_term, plain_terms, plain_atom, plain_literal, plain_body}
use Rattle.format_theorems.proofs.Tokens.{ReaderBefore, TokenInHand, first_token, sign, name_here, variable_here, numeral_here}
use Rattle.format_theorems.proofs.Variables.{is_variable, names_to, both, same-true}
use Rattle.format_theorems.proofs.Grammar.{Fits, old, new, numeral, named, FitsList, FitsAtom, FitsLiteral, an_atom, an_equation, two_sides, FitsBody, one_literal, more_literals}
use Rattle.format_theorems.proofs.Terms.{Ends, ends_sign, list_stops, Back, back_by, back_then, term_back, atom_is_back}

-- ---- what follows a literal

-- no word goes on with it, no bracket opens there, and no equation goes on there
pub record EndsLiteral (rest : List ℕ) : Type 0 where
  pub ends : Ends rest
  pub unequal : (at : ℕ) → same_kind (token_of_class (class_of ends.byte) at ends.others).kind equals_kind ≡ false

pub ends_with : (b : ℕ) (k : TokenKind) (r : List ℕ) → class_of b ≡ Single k → move_of outside b ≡ at_token → same_kind k open_kind ≡ false
    → in_word b ≡ false → in_numeral b ≡ false → same_kind k equals_kind ≡ false → EndsLiteral (b ∷ r)
unfolding ends_sign token_of_class
ends_with b k r c m o w d q =
    record {
      ends = ends_sign b k r c m o w d;
      unequal = λ at. ap (λ (x : Class). same_kind (token_of_class x at r).kind equals_kind) c ∙ q;
    }

pub not_equals : {s rest : List ℕ} {names : List (List ℕ)} {n : ℕ} {st : Cursor} → EndsLiteral rest → ReaderBefore s rest names n st → is equals_kind st ≡ false
not_equals {s} e p =
    ap (λ (t : Token). same_kind t.kind equals_kind) (p.token ∙ first_token s p.at e.ends.byte e.ends.others (p.left ∙ e.ends.whole) e.ends.begins) ∙ e.unequal p.at

ends_equals : (r : List ℕ) → Ends (61 ∷ r)
unfolding class_of in_word in_numeral
ends_equals r = ends_sign 61 equals_kind r refl refl refl refl refl

-- ---- literals that are names

no-arguments : (ts : Terms) → eqb (arity ts) 0 ≡ true → ts ≡ nil
no-arguments nil e = refl
no-arguments (cons t ts) e = let h : arity (cons t ts) ≡ 0 = eqb-true (arity (cons t ts)) 0 e in absurd (omega arith)

bare : (a : Atom) (w rest : List ℕ) → same_predicate a.name (arity a.args) w 0 ≡ true → w ++ rest ≡ atom_text a rest
unfolding atom_text list_text
bare a w rest e =
    let h = both (eqb (arity a.args) 0) (same_name a.name w) e in
    let n : a.args ≡ nil = no-arguments a.args h.0 in
    let m : a.name ≡ w = same-true a.name w h.1 in
    ap (λ (v : List ℕ). v ++ rest) (sym m) ∙ ap (λ (ts : Terms). a.name ++ list_text ts rest) (sym n)

-- a literal that is an atom is written as the atom
pub atom_written : (a : Atom) (rest : List ℕ) → literal_text (literal_of a) rest ≡ atom_text a rest
unfolding literal_text literal_of
atom_written a rest = by (same_predicate a.name (arity a.args) true_name 0) (same_predicate a.name (arity a.args) fail_name 0) refl refl
  where
    by : (x y : Bool) → same_predicate a.name (arity a.args) true_name 0 ≡ x → same_predicate a.name (arity a.args) fail_name 0 ≡ y
        → literal_text (cond x truth (cond y falsity (call a))) rest ≡ atom_text a rest
    by true y e d = bare a true_name rest e
    by false true e d = bare a fail_name rest d
    by false false e d = refl

plain-arity : (ts : Terms) → arity (plain_terms ts) ≡ arity ts
unfolding plain_terms
plain-arity nil = refl
plain-arity (cons t ts) = ap suc (plain-arity ts)

plain-of : (a : Atom) → plain_literal (literal_of a) ≡ literal_of (plain_atom a)
unfolding plain_literal literal_of
plain-of a =
    by (same_predicate a.name (arity a.args) true_name 0) (same_predicate a.name (arity a.args) fail_name 0)
    ∙ ap (λ (n : ℕ). cond (same_predicate a.name n true_name 0) truth (cond (same_predicate a.name n fail_name 0) falsity (call (plain_atom a)))) (sym (plain-arity a.args))
  where
    by : (x y : Bool) → plain_literal (cond x truth (cond y falsity (call a))) ≡ cond x truth (cond y falsity (call (plain_atom a)))
    by true y = refl
    by false true = refl
    by false false = refl

-- atoms that are the same but for places are literals that are
pub same_literal : (a b : Atom) → a.name ≡ b.name → plain_terms a.args ≡ plain_terms b.args → plain_literal (literal_of a) ≡ plain_literal (literal_of b)
same_literal a b e d =
    plain-of a
    ∙ ap₂ (λ (w : List ℕ) (ts : Terms). literal_of (record { at = 0; name = w; args = ts })) e d
    ∙ sym (plain-of b)

-- ---- how many literals

mutual
  pub grown : {left c d k n : ℕ} {l : Literal} → FitsLiteral left c k l d n → (c < d) × (d ≤ literals)
  grown (an_atom a e h f) = (omega arith, omega arith)
  grown (an_equation t u e h f g) = (omega arith, omega arith)
  grown (two_sides y z e f g) = let p = grown_body f in let q = grown_body g in (omega (arith, p.0, q.0), q.1)

  pub grown_body : {left c d k n : ℕ} {b : Body} → FitsBody left c k b d n → (c < d) × (d ≤ literals)
  grown_body (one_literal f) = grown f
  grown_body (more_literals f g) = let p = grown f in let q = grown_body g in (omega (arith, p.0, q.0), q.1)

-- ---- literals

abbrev pub LiteralBack : List ℕ → ℕ → Literal → List ℕ → ℕ → Read Literal → Type 0
LiteralBack s c l rest n r = Back (λ (x : Literal). plain_literal x ≡ plain_literal l) s rest (names_to n) c r

abbrev pub BodyBack : List ℕ → ℕ → Body → List ℕ → ℕ → Read Body → Type 0
BodyBack s c b rest n r = Back (λ (x : Body). plain_body x ≡ plain_body b) s rest (names_to n) c r

-- one literal more
counted : {s text : List ℕ} {names : List (List ℕ)} {c : ℕ} {st : Cursor} → ReaderBefore s text names c st → ReaderBefore s text names (suc c) (one_literal_more st)
counted p = record { at = p.at; left = p.left; token = p.token; named = p.named; counted = ap suc p.counted }

module _ {s : List ℕ} {c : ℕ} where
  right_back : (left : ℕ) (t x u : Term) (m n : ℕ) (rest : List ℕ) (st : Cursor) → plain_term x ≡ plain_term t → Fits left m u n → EndsLiteral rest
      → ReaderBefore s (61 ∷ term_text u rest) (names_to m) c st → LiteralBack s c (equation t u) rest n (read_right left s x st)
  unfolding read_right plain_literal class_of
  right_back left t x u m n rest st d f e p =
      let y : TokenInHand s equals_kind (61 ∷ []) (term_text u rest) (names_to m) c st = sign refl refl p in
      back_then (term_back left u m n rest (next s st) f e.ends y.behind)
      (λ v after q r. record { item = equation x v; after = after; read = refl; same = ap₂ (λ (a b : Term). equation a b) d q; stands = r })

  -- an equation whose left side is no name
  left_back : (left : ℕ) (t u : Term) (m i n : ℕ) (rest : List ℕ) (st : Cursor) → Fits left m t i → Fits left i u n → EndsLiteral rest
      → ReaderBefore s (term_text t (61 ∷ term_text u rest)) (names_to m) c st → LiteralBack s c (equation t u) rest n (literal_with left s st false)
  unfolding literal_with after_term class_of
  left_back left t u m i n rest st f g e p =
      back_then (term_back left t m i (61 ∷ term_text u rest) st f (ends_equals (term_text u rest)) p)
      (λ x after d q.
      let y : TokenInHand s equals_kind (61 ∷ []) (term_text u rest) (names_to i) c after = sign refl refl q in
      back_by (ap (λ (k : TokenKind). after_term left s x after (same_kind k equals_kind)) y.kind) (right_back left t x u i n rest after d g e q))

  -- a literal whose first token is a name: an atom alone
  named_back : (left : ℕ) (a : Atom) (m n : ℕ) (rest : List ℕ) (st : Cursor) → FitsAtom left m a n → EndsLiteral rest
      → ReaderBefore s (atom_text a rest) (names_to m) c st → LiteralBack s c (literal_of a) rest n (literal_with left s st true)
  unfolding literal_with after_atom atom_text
  named_back left a m n rest st f e p =
      let x : TokenInHand s name_kind a.name (list_text a.args rest) (names_to m) c st = name_here f.name (list_stops a.args rest e.ends) p in
      back_then (atom_is_back left a.name a.args m n rest st f.list e.ends x)
      (λ b after d q.
      record {
        item = literal_of b;
        after = after;
        read = ap (λ (z : Bool). after_atom left s b after z) (not_equals e q);
        same = same_literal b a d.0 d.1;
        stands = q;
      })

  -- or one side of an equation
  named_left : (left at : ℕ) (w : List ℕ) (ts : Terms) (u : Term) (m i n : ℕ) (rest : List ℕ) (st : Cursor) → FitsList left m ts i → Fits left i u n → EndsLiteral rest
      → TokenInHand s name_kind w (list_text ts (61 ∷ term_text u rest)) (names_to m) c st
      → LiteralBack s c (equation (compound at w ts) u) rest n (literal_with left s st true)
  unfolding literal_with after_atom plain_term class_of
  named_left left at w ts u m i n rest st f g e x =
      back_then (atom_is_back left w ts m i (61 ∷ term_text u rest) st f (ends_equals (term_text u rest)) x)
      (λ a after d q.
      let y : TokenInHand s equals_kind (61 ∷ []) (term_text u rest) (names_to i) c after = sign refl refl q in
      back_by (ap (λ (k : TokenKind). after_atom left s a after (same_kind k equals_kind)) y.kind)
      (right_back left (compound at w ts) (term_of a) u i n rest after (ap₂ (λ (v : List ℕ) (us : Terms). compound 0 v us) d.0 d.1) g e q))

  -- by the first token of the left side
  equation_back : (left : ℕ) (t u : Term) (m i n : ℕ) (rest : List ℕ) (st : Cursor) → Fits left m t i → Fits left i u n → EndsLiteral rest
      → ReaderBefore s (term_text t (61 ∷ term_text u rest)) (names_to m) c st
      → LiteralBack s c (equation t u) rest n (literal_with left s st (is name_kind st)) × (is open_kind st ≡ false)
  unfolding term_text list_text
  equation_back left (variable j at) u m i n rest st (old low few) g e p =
      let x : TokenInHand s variable_kind (variable_name j) (61 ∷ term_text u rest) (names_to m) c st = variable_here (is_variable j (omega arith)) (ends_equals (term_text u rest)).stops p in
      (back_by (ap (λ (k : TokenKind). literal_with left s st (same_kind k name_kind)) x.kind) (left_back left (variable j at) u m i n rest st (old low few) g e p), ap (λ (k : TokenKind). same_kind k open_kind) x.kind)
  equation_back left (variable j at) u m i n rest st (new low) g e p =
      let x : TokenInHand s variable_kind (variable_name m) (61 ∷ term_text u rest) (names_to m) c st = variable_here (is_variable m low) (ends_equals (term_text u rest)).stops p in
      (back_by (ap (λ (k : TokenKind). literal_with left s st (same_kind k name_kind)) x.kind) (left_back left (variable m at) u m i n rest st (new low) g e p), ap (λ (k : TokenKind). same_kind k open_kind) x.kind)
  equation_back left (compound at w ts) u m i n rest st (numeral d z) g e p =
      let x : TokenInHand s numeral_kind w (61 ∷ term_text u rest) (names_to m) c st = numeral_here d (ends_equals (term_text u rest)).stops p in
      (back_by (ap (λ (k : TokenKind). literal_with left s st (same_kind k name_kind)) x.kind) (left_back left (compound at w nil) u m i n rest st (numeral d z) g e p), ap (λ (k : TokenKind). same_kind k open_kind) x.kind)
  equation_back left (compound at w ts) u m i n rest st (named d f) g e p =
      let x : TokenInHand s name_kind w (list_text ts (61 ∷ term_text u rest)) (names_to m) c st = name_here d (list_stops ts (61 ∷ term_text u rest) (ends_equals (term_text u rest))) p in
      (back_by (ap (λ (k : TokenKind). literal_with left s st (same_kind k name_kind)) x.kind) (named_left left at w ts u m i n rest st f g e x), ap (λ (k : TokenKind). same_kind k open_kind) x.kind)

-- with one literal more
abbrev PlainBack : List ℕ → ℕ → ℕ → Literal → List ℕ → ℕ → Cursor → Type 0
PlainBack s left c l rest n st = LiteralBack s (suc c) l rest n (read_plain left s st) × (is open_kind st ≡ false)

module _ {s : List ℕ} where
  atom_plain : (left c : ℕ) (a : Atom) (m n : ℕ) (rest : List ℕ) (st : Cursor) → c < literals → FitsAtom left m a n → EndsLiteral rest
      → ReaderBefore s (atom_text a rest) (names_to m) c st → PlainBack s left c (literal_of a) rest n st
  unfolding read_plain plain_with atom_text
  atom_plain left c a m n rest st low f e p =
      let x : TokenInHand s name_kind a.name (list_text a.args rest) (names_to m) c st = name_here f.name (list_stops a.args rest e.ends) p in
      let count : st.literals ≡ c = p.counted in (
        back_by (ap (λ (b : Bool). plain_with left s st b) (lt-ltb st.literals literals (omega arith))
            ∙ ap (λ (k : TokenKind). literal_with left s (one_literal_more st) (same_kind k name_kind)) x.kind)
            (named_back left a m n rest (one_literal_more st) f e (counted p)),
        ap (λ (k : TokenKind). same_kind k open_kind) x.kind,
      )

  equation_plain : (left c : ℕ) (t u : Term) (m i n : ℕ) (rest : List ℕ) (st : Cursor) → c < literals → Fits left m t i → Fits left i u n → EndsLiteral rest
      → ReaderBefore s (term_text t (61 ∷ term_text u rest)) (names_to m) c st → PlainBack s left c (equation t u) rest n st
  unfolding read_plain plain_with
  equation_plain left c t u m i n rest st low f g e p =
      let count : st.literals ≡ c = p.counted in
      let b = equation_back left t u m i n rest (one_literal_more st) f g e (counted p) in
      (back_by (ap (λ (b : Bool). plain_with left s st b) (lt-ltb st.literals literals (omega arith))) b.0, b.1)

-- ---- bodies

-- the byte and the token behind a body
pub record Ender (b : ℕ) (end : TokenKind) : Type 0 where
  pub class : class_of b ≡ Single end
  pub begins : move_of outside b ≡ at_token
  pub after : after_of end end ≡ last
  pub ends : (r : List ℕ) → EndsLiteral (b ∷ r)

pub by_stop : Ender 46 stop_kind
unfolding class_of in_word in_numeral
by_stop = record { class = refl; begins = refl; after = refl; ends = λ r. ends_with 46 stop_kind r refl refl refl refl refl refl }

pub by_semicolon : Ender 59 semicolon_kind
unfolding class_of in_word in_numeral
by_semicolon = record { class = refl; begins = refl; after = refl; ends = λ r. ends_with 59 semicolon_kind r refl refl refl refl refl refl }

pub by_close : Ender 41 close_kind
unfolding class_of in_word in_numeral
by_close = record { class = refl; begins = refl; after = refl; ends = λ r. ends_with 41 close_kind r refl refl refl refl refl refl }

ends_at_comma : (r : List ℕ) → EndsLiteral (44 ∷ r)
unfolding class_of in_word in_numeral
ends_at_comma r = ends_with 44 comma_kind r refl refl refl refl refl refl

plain_read : (s : List ℕ) (left : ℕ) (st : Cursor) → is open_kind st ≡ false → read_literal left s st ≡ read_plain left s st
unfolding read_literal
plain_read s zero st e = ap (λ (b : Bool). elim b as (λ _. Read Literal) [ true ↦ beyond st | false ↦ read_plain zero s st ]) e
plain_read s (suc left) st e =
    ap (λ (b : Bool). elim b as (λ _. Read Literal) [
      | true ↦ read_sides (λ end st1. read_body_with (λ st2. read_literal left s st2) s end (suc literals) st1) s st
      | false ↦ read_plain (suc left) s st
    ]) e

sides_read : (s : List ℕ) (left : ℕ) (st : Cursor) → is open_kind st ≡ true
    → read_literal (suc left) s st ≡ read_sides (λ end st1. read_body_with (λ st2. read_literal left s st2) s end (suc literals) st1) s st
unfolding read_literal
sides_read s left st e =
    ap (λ (b : Bool). elim b as (λ _. Read Literal) [
      | true ↦ read_sides (λ end st1. read_body_with (λ st2. read_literal left s st2) s end (suc literals) st1) s st
      | false ↦ read_plain (suc left) s st
    ]) e

module _ {s : List ℕ} where
  -- literals up to a token; `literal` reads one
  body_with_back : (left : ℕ) (literal : Cursor → Read Literal)
      → ((l : Literal) (c d m n : ℕ) (rest : List ℕ) (st : Cursor) → FitsLiteral left c m l d n → EndsLiteral rest → ReaderBefore s (literal_text l rest) (names_to m) c st
      → LiteralBack s d l rest n (literal st))
      → (b : ℕ) (end : TokenKind) → Ender b end → (k c d m n : ℕ) (y : Body) (rest : List ℕ) (st : Cursor) → FitsBody left c m y d n → literals < c + k
      → ReaderBefore s (body_text y (b ∷ rest)) (names_to m) c st → BodyBack s d y rest n (read_body_with literal s end k st)
  unfolding read_body_with body_after body_text further_text plain_body class_of
  body_with_back left literal h b end z zero c d m n y rest st f few p = let g = grown_body f in absurd (omega (arith, g.0, g.1))
  body_with_back left literal h b end z (suc k) c d m n done rest st f few p = elim f [ ]
  body_with_back left literal h b end z (suc k) c d m n (also l done) rest st (one_literal f) few p =
      back_then (h l c d m n (b ∷ rest) st f (z.ends rest) p)
      (λ x after e q.
      let y : TokenInHand s end (b ∷ []) rest (names_to n) d after = sign z.class z.begins q in
      record {
        item = also x done;
        after = next s after;
        read = ap (λ (t : TokenKind). body_after (λ st1. read_body_with literal s end k st1) s x after (after_of end t)) y.kind ∙ ap (body_after (λ st1. read_body_with literal s end k st1) s x after) z.after;
        same = ap (λ (v : Literal). also v done) e;
        stands = y.behind;
      })
  body_with_back left literal h b end z (suc k) c e i n (also l (also r y)) rest st (more_literals {d = d} {m = m} f g) few p =
      let up = grown f in
      back_then (h l c d i m (44 ∷ body_text (also r y) (b ∷ rest)) st f (ends_at_comma (body_text (also r y) (b ∷ rest))) p)
      (λ x after a q.
      let v : TokenInHand s comma_kind (44 ∷ []) (body_text (also r y) (b ∷ rest)) (names_to m) d after = sign refl refl q in
      back_by (ap (λ (t : TokenKind). body_after (λ st1. read_body_with literal s end k st1) s x after (after_of end t)) v.kind)
      (back_then (body_with_back left literal h b end z k d e m n (also r y) rest (next s after) g (omega (arith, up.0)) v.behind)
      (λ w behind j t. record { item = also x w; after = behind; read = refl; same = ap₂ (λ (o : Literal) (u : Body). also o u) a j; stands = t })))

  -- a bracket with two bodies
  sides_back : (left : ℕ) (body : TokenKind → Cursor → Read Body)
      → ((b : ℕ) (end : TokenKind) → Ender b end → (c d m n : ℕ) (y : Body) (rest : List ℕ) (st : Cursor) → FitsBody left c m y d n
      → ReaderBefore s (body_text y (b ∷ rest)) (names_to m) c st → BodyBack s d y rest n (body end st))
      → (c d e k m n : ℕ) (y z : Body) (rest : List ℕ) (st : Cursor) → FitsBody left c k y d m → FitsBody left d m z e n
      → ReaderBefore s (literal_text (either y z) rest) (names_to k) c st → LiteralBack s e (either y z) rest n (read_sides body s st) × (is open_kind st ≡ true)
  unfolding read_sides literal_text plain_literal class_of
  sides_back left body h c d e k m n y z rest st f g p =
      let x : TokenInHand s open_kind (40 ∷ []) (body_text y (59 ∷ body_text z (41 ∷ rest))) (names_to k) c st = sign refl refl p in (
        back_then (h 59 semicolon_kind by_semicolon c d k m y (body_text z (41 ∷ rest)) (next s st) f x.behind)
            (λ u after a q. back_then (h 41 close_kind by_close d e m n z rest after g q)
            (λ v end b r. record { item = either u v; after = end; read = refl; same = ap₂ (λ (i j : Body). either i j) a b; stands = r })),
        ap (λ (t : TokenKind). same_kind t open_kind) x.kind,
      )

  plain_literal_back : (left c : ℕ) (l : Literal) (rest : List ℕ) (n : ℕ) (st : Cursor) → PlainBack s left c l rest n st
      → LiteralBack s (suc c) l rest n (read_literal left s st)
  plain_literal_back left c l rest n st b = back_by (plain_read s left st b.1) b.0

  pub literal_back : (left : ℕ) (l : Literal) (c d m n : ℕ) (rest : List ℕ) (st : Cursor) → FitsLiteral left c m l d n → EndsLiteral rest
      → ReaderBefore s (literal_text l rest) (names_to m) c st → LiteralBack s d l rest n (read_literal left s st)
  unfolding literal_text
  literal_back left l c d m n rest st (an_atom a e low f) z p =
      let q : ReaderBefore s (atom_text a rest) (names_to m) c st =
      subst (λ (w : List ℕ). ReaderBefore s w (names_to m) c st) (ap (λ (x : Literal). literal_text x rest) e ∙ atom_written a rest) p in
      subst⁻¹ (λ (x : Literal). LiteralBack s (suc c) x rest n (read_literal left s st)) e
      (plain_literal_back left c (literal_of a) rest n st (atom_plain left c a m n rest st low f z q))
  literal_back left l c d k n rest st (an_equation {m = m} t u e low f g) z p =
      let q : ReaderBefore s (term_text t (61 ∷ term_text u rest)) (names_to k) c st =
      subst (λ (w : List ℕ). ReaderBefore s w (names_to k) c st) (ap (λ (x : Literal). literal_text x rest) e) p in
      subst⁻¹ (λ (x : Literal). LiteralBack s (suc c) x rest n (read_literal left s st)) e
      (plain_literal_back left c (equation t u) rest n st (equation_plain left c t u k m n rest st low f g z q))
  literal_back (suc left) l c e k n rest st (two_sides {d = d} {m = m} y w q f g) z p =
      let b = sides_back left (λ end st1. read_body_with (λ st2. read_literal left s st2) s end (suc literals) st1)
      (λ b end x c1 d1 m1 n1 y1 rest1 st1 f1 p1. body_with_back left (λ st2. read_literal left s st2)
      (λ l2 c2 d2 m2 n2 rest2 st2 f2 z2 p2. literal_back left l2 c2 d2 m2 n2 rest2 st2 f2 z2 p2)
      b end x (suc literals) c1 d1 m1 n1 y1 rest1 st1 f1 (omega arith) p1)
      c d e k m n y w rest st f g (subst (λ (x : Literal). ReaderBefore s (literal_text x rest) (names_to k) c st) q p) in
      subst⁻¹ (λ (x : Literal). LiteralBack s e x rest n (read_literal (suc left) s st)) q (back_by (sides_read s left st b.1) b.0)

  -- a body up to a token, and up to the full stop
  pub body_to_back : (left b : ℕ) (end : TokenKind) → Ender b end → (d m n : ℕ) (y : Body) (rest : List ℕ) (st : Cursor) → FitsBody left 0 m y d n
      → ReaderBefore s (body_text y (b ∷ rest)) (names_to m) 0 st → BodyBack s d y rest n (read_to left s end (suc literals) st)
  unfolding read_to
  body_to_back left b end z d m n y rest st f p =
      body_with_back left (λ st1. read_literal left s st1) (λ l2 c2 d2 m2 n2 rest2 st2 f2 z2 p2. literal_back left l2 c2 d2 m2 n2 rest2 st2 f2 z2 p2)
      b end z (suc literals) 0 d m n y rest st f (omega arith) p
