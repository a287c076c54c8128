-- Clauses that can be read and are the same but for names agree: variables are numbered by first appearance, so the renaming is no renaming. Assumes
-- nothing.
use Prim.Native.Nat.{ℕ, zero, suc, ◌<◌}
use native.Mathlib.Omega.{arith}
use mathlib.Core.Path.{◌≡◌, refl, sym, ap, ap₂, ◌∙◌, subst}
use mathlib.Core.Bool.{Bool, true, false, cond}
use mathlib.Core.Logic.{◌⊎◌, inl, inr}
use mathlib.Core.List.{List, [], ◌∷◌}
use lib.Dec.{eqb}
use borrow.Author.Tests.{eqb-true, eqb-false}
use Rattle.syntax.specs.Terms.{Term, Terms, variable, compound, nil, cons, arity, Atom, Literal, Body, call, equation, truth, falsity, either, done, also, literal_of, Clause, Declaration, Sheet, same_name, same_predicate, true_name, fail_name}
use Rattle.format_rules.specs.Plain.{plain_term, plain_terms, plain_atom, plain_literal, plain_body, plain_clause, plain_clauses, SameButForPlaces}
use Rattle.format_rules.specs.Renaming.{renamed, all_renamed, renamed_atom, renamed_literal, renamed_body, ClauseSameButForNames, ClausesSameButForNames, none_left, one_more, SheetsSameButForNames}
use Rattle.format_theorems.proofs.Variables.{both}
use Rattle.format_theorems.proofs.Grammar.{Fits, old, new, numeral, named, FitsList, no_list, a_list, FitsTerms, one_term, more_terms, FitsLiteral, an_atom, an_equation, two_sides, FitsBody, one_literal, more_literals, FitsTail, no_tail, a_tail, FitsClause, FitsClauses, a_clause, FitsSheet}
use Rattle.syntax.specs.Limits.{clauses}

-- ---- numbered by first appearance

abbrev mutual
  Ordered : ℕ → Term → ℕ → Type 0
  Ordered m (variable i at) n = ((i < m) × (n ≡ m)) ⊎ ((i ≡ m) × (n ≡ suc m))
  Ordered m (compound at f ts) n = AllOrdered m ts n

  AllOrdered : ℕ → Terms → ℕ → Type 0
  AllOrdered m nil n = n ≡ m
  AllOrdered m (cons t ts) n = (k : ℕ) × Ordered m t k × AllOrdered k ts n

abbrev mutual
  LiteralOrdered : ℕ → Literal → ℕ → Type 0
  LiteralOrdered m (call a) n = AllOrdered m a.args n
  LiteralOrdered m (equation t u) n = (k : ℕ) × Ordered m t k × Ordered k u n
  LiteralOrdered m truth n = n ≡ m
  LiteralOrdered m falsity n = n ≡ m
  LiteralOrdered m (either y z) n = (k : ℕ) × BodyOrdered m y k × BodyOrdered k z n

  BodyOrdered : ℕ → Body → ℕ → Type 0
  BodyOrdered m done n = n ≡ m
  BodyOrdered m (also l b) n = (k : ℕ) × LiteralOrdered m l k × BodyOrdered k b n

mutual
  ordered : {left m n : ℕ} {t : Term} → Fits left m t n → Ordered m t n
  ordered (old l k) = inl (l, refl)
  ordered (new l) = inr (refl, refl)
  ordered (numeral d z) = refl
  ordered (named d f) = list_ordered f

  list_ordered : {left m n : ℕ} {ts : Terms} → FitsList left m ts n → AllOrdered m ts n
  list_ordered no_list = refl
  list_ordered (a_list f) = terms_ordered f

  terms_ordered : {left k m n : ℕ} {ts : Terms} → FitsTerms left k m ts n → AllOrdered m ts n
  terms_ordered (one_term {n = n} f) = (n, ordered f, refl)
  terms_ordered (more_terms {m = m} f g) = (m, ordered f, terms_ordered g)

none_by : (ts : Terms) (m n : ℕ) → eqb (arity ts) 0 ≡ true → AllOrdered m ts n → n ≡ m
none_by nil m n e h = h
none_by (cons t ts) m n e h = let z : arity (cons t ts) ≡ 0 = eqb-true (arity (cons t ts)) 0 e in absurd (omega arith)

atom_ordered : (a : Atom) (m n : ℕ) → AllOrdered m a.args n → LiteralOrdered m (literal_of a) n
unfolding literal_of
atom_ordered a m n h = by (same_predicate a.name (arity a.args) true_name 0) (same_predicate a.name (arity a.args) fail_name 0) refl refl
  where
    by : (x y : Bool) → same_predicate a.name (arity a.args) true_name 0 ≡ x → same_predicate a.name (arity a.args) fail_name 0 ≡ y
        → LiteralOrdered m (cond x truth (cond y falsity (call a))) n
    by true y e d = none_by a.args m n (both (eqb (arity a.args) 0) (same_name a.name true_name) e).0 h
    by false true e d = none_by a.args m n (both (eqb (arity a.args) 0) (same_name a.name fail_name) d).0 h
    by false false e d = h

mutual
  literal_ordered : {left c d m n : ℕ} {l : Literal} → FitsLiteral left c m l d n → LiteralOrdered m l n
  literal_ordered {m = m} {n = n} (an_atom a e low f) = subst (λ (x : Literal). LiteralOrdered m x n) (sym e) (atom_ordered a m n (list_ordered f.list))
  literal_ordered {m = m} {n = n} (an_equation {m = k} t u e low f g) = subst (λ (x : Literal). LiteralOrdered m x n) (sym e) (k, ordered f, ordered g)
  literal_ordered {m = m} {n = n} (two_sides {m = k} y z e f g) = subst (λ (x : Literal). LiteralOrdered m x n) (sym e) (k, body_ordered f, body_ordered g)

  body_ordered : {left c d m n : ℕ} {b : Body} → FitsBody left c m b d n → BodyOrdered m b n
  body_ordered (one_literal {n = n} f) = (n, literal_ordered f, refl)
  body_ordered (more_literals {m = m} f g) = (m, literal_ordered f, body_ordered g)

tail_ordered : {m n : ℕ} {b : Body} → FitsTail m b n → BodyOrdered m b n
tail_ordered no_tail = refl
tail_ordered (a_tail f) = body_ordered f

-- ---- a renaming of what is numbered so

atom_in : Literal → Atom
atom_in (call a) = a
atom_in (equation t u) = record { at = 0; name = []; args = nil }
atom_in truth = record { at = 0; name = []; args = nil }
atom_in falsity = record { at = 0; name = []; args = nil }
atom_in (either y z) = record { at = 0; name = []; args = nil }

call_same : (a b : Atom) → call a ≡ call b → a ≡ b
unfolding atom_in
call_same a b e = ap atom_in e

-- the variables met before keep their numbers
abbrev Kept : (ℕ → ℕ) → ℕ → Type 0
Kept f m = (i : ℕ) → i < m → f i ≡ i

-- both have met the same, and are the same
abbrev Both : {A : Type 0} → (ℕ → ℕ) → ℕ → ℕ → A → A → Type 0
Both f n k a b = (n ≡ k) × (Kept f n × (a ≡ b))

module _ (f : ℕ → ℕ) (apart : (i j : ℕ) → f i ≡ f j → i ≡ j) where
  kept_more : (m : ℕ) → Kept f m → f m ≡ m → Kept f (suc m)
  kept_more m h e i l = by (eqb i m) refl
    where
      by : (t : Bool) → eqb i m ≡ t → f i ≡ i
      by true q = let z : i ≡ m = eqb-true i m q in ap f z ∙ e ∙ sym z
      by false q = h i (let z : i ≡ m → ⊥ = eqb-false i m q in omega (arith, z))

  variables_same : (m n k i j : ℕ) → Kept f m → ((i < m) × (n ≡ m)) ⊎ ((i ≡ m) × (n ≡ suc m)) → ((j < m) × (k ≡ m)) ⊎ ((j ≡ m) × (k ≡ suc m)) → f i ≡ j → Both f n k i j
  variables_same m n k i j h (inl p) (inl q) e = (omega (arith, p.1, q.1), (subst (Kept f) (sym p.1) h, sym (h i p.0) ∙ e))
  variables_same m n k i j h (inl p) (inr q) e = absurd (let z : f i ≡ i = h i p.0 in omega (arith, p.0, q.0))
  variables_same m n k i j h (inr p) (inl q) e = absurd (let z : i ≡ j = apart i j (e ∙ sym (h j q.0)) in omega (arith, p.0, q.0))
  variables_same m n k i j h (inr p) (inr q) e =
      let s : i ≡ j = p.0 ∙ sym q.0 in
      (omega (arith, p.1, q.1), (subst (Kept f) (sym p.1) (kept_more m h (ap f (sym p.0) ∙ e ∙ q.0)), s))

  mutual
    unfolding renamed all_renamed plain_term plain_terms

    term_kept : (m n k : ℕ) (t u : Term) → Kept f m → Ordered m t n → Ordered m u k → renamed f t ≡ plain_term u → Both f n k (plain_term t) (plain_term u)
    term_kept m n k (variable i at) (variable j bt) h p q e = let s = variables_same m n k i j h p q (cc) in (s.0, (s.1.0, ap (λ (x : ℕ). variable x 0) s.1.1))
    term_kept m n k (variable i at) (compound bt g us) h p q e = let z : ◌≡◌ {A = ℕ} 0 1 = cc in absurd (omega arith)
    term_kept m n k (compound at g ts) (variable j bt) h p q e = let z : ◌≡◌ {A = ℕ} 0 1 = cc in absurd (omega arith)
    term_kept m n k (compound at g ts) (compound bt o us) h p q e =
        let w : g ≡ o = cc in
        let s = terms_kept m n k ts us h p q (cc) in (s.0, (s.1.0, ap₂ (λ (x : List ℕ) (xs : Terms). compound 0 x xs) w s.1.1))

    terms_kept : (m n k : ℕ) (ts us : Terms) → Kept f m → AllOrdered m ts n → AllOrdered m us k → all_renamed f ts ≡ plain_terms us → Both f n k (plain_terms ts) (plain_terms us)
    terms_kept m n k nil nil h p q e = (p ∙ sym q, (subst (Kept f) (sym p) h, refl))
    terms_kept m n k nil (cons u us) h p q e = let z : ◌≡◌ {A = ℕ} 0 1 = cc in absurd (omega arith)
    terms_kept m n k (cons t ts) nil h p q e = let z : ◌≡◌ {A = ℕ} 0 1 = cc in absurd (omega arith)
    terms_kept m n k (cons t ts) (cons u us) h p q e =
        let s = term_kept m p.0 q.0 t u h p.1 q.1 (cc) in
        let r = terms_kept p.0 n k ts us s.1.0 p.2 (subst (λ (x : ℕ). AllOrdered x us k) (sym s.0) q.2) (cc) in
        (r.0, (r.1.0, ap₂ (λ (x : Term) (xs : Terms). cons x xs) s.1.1 r.1.1))

  mutual
    unfolding renamed_literal renamed_body plain_literal plain_body

    literal_kept : (m n k : ℕ) (l r : Literal) → Kept f m → LiteralOrdered m l n → LiteralOrdered m r k → renamed_literal f l ≡ plain_literal r → Both f n k (plain_literal l) (plain_literal r)
    literal_kept m n k (call a) (call b) h p q e =
        let g : renamed_atom f a ≡ plain_atom b = call_same (renamed_atom f a) (plain_atom b) e in
        let w : a.name ≡ b.name = ap (λ (x : Atom). x.name) g in
        let s = terms_kept m n k a.args b.args h p q (ap (λ (x : Atom). x.args) g) in (s.0, (s.1.0, ap₂ (λ (x : List ℕ) (xs : Terms). call (record { at = 0; name = x; args = xs })) w s.1.1))
    literal_kept m n k (equation t u) (equation v w) h p q e =
        let s = term_kept m p.0 q.0 t v h p.1 q.1 (cc) in
        let r = term_kept p.0 n k u w s.1.0 p.2 (subst (λ (x : ℕ). Ordered x w k) (sym s.0) q.2) (cc) in
        (r.0, (r.1.0, ap₂ (λ (x y : Term). equation x y) s.1.1 r.1.1))
    literal_kept m n k truth truth h p q e = (p ∙ sym q, (subst (Kept f) (sym p) h, refl))
    literal_kept m n k falsity falsity h p q e = (p ∙ sym q, (subst (Kept f) (sym p) h, refl))
    literal_kept m n k (either y z) (either i j) h p q e =
        let s = body_kept m p.0 q.0 y i h p.1 q.1 (cc) in
        let r = body_kept p.0 n k z j s.1.0 p.2 (subst (λ (x : ℕ). BodyOrdered x j k) (sym s.0) q.2) (cc) in
        (r.0, (r.1.0, ap₂ (λ (x w : Body). either x w) s.1.1 r.1.1))
    literal_kept m n k (call a) (equation v w) h p q e = let z : ◌≡◌ {A = ℕ} 0 1 = cc in absurd (omega arith)
    literal_kept m n k (call a) truth h p q e = let z : ◌≡◌ {A = ℕ} 0 1 = cc in absurd (omega arith)
    literal_kept m n k (call a) falsity h p q e = let z : ◌≡◌ {A = ℕ} 0 1 = cc in absurd (omega arith)
    literal_kept m n k (call a) (either i j) h p q e = let z : ◌≡◌ {A = ℕ} 0 1 = cc in absurd (omega arith)
    literal_kept m n k (equation t u) (call b) h p q e = let z : ◌≡◌ {A = ℕ} 0 1 = cc in absurd (omega arith)
    literal_kept m n k (equation t u) truth h p q e = let z : ◌≡◌ {A = ℕ} 0 1 = cc in absurd (omega arith)
    literal_kept m n k (equation t u) falsity h p q e = let z : ◌≡◌ {A = ℕ} 0 1 = cc in absurd (omega arith)
    literal_kept m n k (equation t u) (either i j) h p q e = let z : ◌≡◌ {A = ℕ} 0 1 = cc in absurd (omega arith)
    literal_kept m n k truth (call b) h p q e = let z : ◌≡◌ {A = ℕ} 0 1 = cc in absurd (omega arith)
    literal_kept m n k truth (equation v w) h p q e = let z : ◌≡◌ {A = ℕ} 0 1 = cc in absurd (omega arith)
    literal_kept m n k truth falsity h p q e = let z : ◌≡◌ {A = ℕ} 0 1 = cc in absurd (omega arith)
    literal_kept m n k truth (either i j) h p q e = let z : ◌≡◌ {A = ℕ} 0 1 = cc in absurd (omega arith)
    literal_kept m n k falsity (call b) h p q e = let z : ◌≡◌ {A = ℕ} 0 1 = cc in absurd (omega arith)
    literal_kept m n k falsity (equation v w) h p q e = let z : ◌≡◌ {A = ℕ} 0 1 = cc in absurd (omega arith)
    literal_kept m n k falsity truth h p q e = let z : ◌≡◌ {A = ℕ} 0 1 = cc in absurd (omega arith)
    literal_kept m n k falsity (either i j) h p q e = let z : ◌≡◌ {A = ℕ} 0 1 = cc in absurd (omega arith)
    literal_kept m n k (either y x) (call b) h p q e = let z : ◌≡◌ {A = ℕ} 0 1 = cc in absurd (omega arith)
    literal_kept m n k (either y x) (equation v w) h p q e = let z : ◌≡◌ {A = ℕ} 0 1 = cc in absurd (omega arith)
    literal_kept m n k (either y x) truth h p q e = let z : ◌≡◌ {A = ℕ} 0 1 = cc in absurd (omega arith)
    literal_kept m n k (either y x) falsity h p q e = let z : ◌≡◌ {A = ℕ} 0 1 = cc in absurd (omega arith)

    body_kept : (m n k : ℕ) (b c : Body) → Kept f m → BodyOrdered m b n → BodyOrdered m c k → renamed_body f b ≡ plain_body c → Both f n k (plain_body b) (plain_body c)
    body_kept m n k done done h p q e = (p ∙ sym q, (subst (Kept f) (sym p) h, refl))
    body_kept m n k done (also r c) h p q e = let z : ◌≡◌ {A = ℕ} 0 1 = cc in absurd (omega arith)
    body_kept m n k (also l b) done h p q e = let z : ◌≡◌ {A = ℕ} 0 1 = cc in absurd (omega arith)
    body_kept m n k (also l b) (also r c) h p q e =
        let s = literal_kept m p.0 q.0 l r h p.1 q.1 (cc) in
        let t = body_kept p.0 n k b c s.1.0 p.2 (subst (λ (x : ℕ). BodyOrdered x c k) (sym s.0) q.2) (cc) in
        (t.0, (t.1.0, ap₂ (λ (x : Literal) (y : Body). also x y) s.1.1 t.1.1))

pub names_do_not_count : (c d : Clause) → FitsClause c → FitsClause d → ClauseSameButForNames c d → plain_clause c ≡ plain_clause d
names_do_not_count c d x y s =
    let p = terms_kept s.to s.apart 0 x.met y.met c.head.args d.head.args (λ i l. absurd (omega arith)) (list_ordered x.head.list) (list_ordered y.head.list) (ap (λ (a : Atom). a.args) s.head) in
    let q = body_kept s.to s.apart x.met c.variables d.variables c.body d.body p.1.0 (tail_ordered x.tail) (subst (λ (m : ℕ). BodyOrdered m d.body d.variables) (sym p.0) (tail_ordered y.tail)) s.body in
    let w : c.head.name ≡ d.head.name = ap (λ (a : Atom). a.name) s.head in
    ap₂ (λ (a : Atom) (b : Body). record { head = a; body = b; variables = c.variables }) (ap₂ (λ (v : List ℕ) (ts : Terms). record { at = 0; name = v; args = ts }) w p.1.1) q.1.1
    ∙ ap (λ (n : ℕ). record { head = plain_atom d.head; body = plain_body d.body; variables = n }) q.0

-- ---- and what agrees is the same by the renaming that is none

mutual
  unfolding renamed all_renamed plain_term plain_terms

  unrenamed : (t : Term) → renamed (λ i. i) t ≡ plain_term t
  unrenamed (variable i at) = refl
  unrenamed (compound at g ts) = ap (λ (x : Terms). compound 0 g x) (all_unrenamed ts)

  all_unrenamed : (ts : Terms) → all_renamed (λ i. i) ts ≡ plain_terms ts
  all_unrenamed nil = refl
  all_unrenamed (cons t ts) = ap₂ (λ (x : Term) (xs : Terms). cons x xs) (unrenamed t) (all_unrenamed ts)

mutual
  unfolding renamed_literal renamed_body plain_literal plain_body

  literal_unrenamed : (l : Literal) → renamed_literal (λ i. i) l ≡ plain_literal l
  literal_unrenamed (call a) = ap (λ (ts : Terms). call (record { at = 0; name = a.name; args = ts })) (all_unrenamed a.args)
  literal_unrenamed (equation t u) = ap₂ (λ (x y : Term). equation x y) (unrenamed t) (unrenamed u)
  literal_unrenamed truth = refl
  literal_unrenamed falsity = refl
  literal_unrenamed (either y z) = ap₂ (λ (x w : Body). either x w) (body_unrenamed y) (body_unrenamed z)

  body_unrenamed : (b : Body) → renamed_body (λ i. i) b ≡ plain_body b
  body_unrenamed done = refl
  body_unrenamed (also l b) = ap₂ (λ (x : Literal) (y : Body). also x y) (literal_unrenamed l) (body_unrenamed b)

same_if_plain : (c d : Clause) → plain_clause c ≡ plain_clause d → ClauseSameButForNames c d
same_if_plain c d e = record {
  to = λ i. i;
  apart = λ i j q. q;
  head = ap (λ (ts : Terms). record { at = 0; name = c.head.name; args = ts }) (all_unrenamed c.head.args) ∙ ap (λ (x : Clause). x.head) e;
  body = body_unrenamed c.body ∙ ap (λ (x : Clause). x.body) e;
}

head_clause : Clause → List Clause → Clause
head_clause x [] = x
head_clause x (c ∷ cs) = c

other_clauses : List Clause → List Clause
other_clauses [] = []
other_clauses (c ∷ cs) = cs

clauses_if_plain : (cs ds : List Clause) → plain_clauses cs ≡ plain_clauses ds → ClausesSameButForNames cs ds
unfolding plain_clauses head_clause other_clauses
clauses_if_plain [] [] e = none_left
clauses_if_plain [] (d ∷ ds) e = let z : ◌≡◌ {A = ℕ} 0 1 = cc in absurd (omega arith)
clauses_if_plain (c ∷ cs) [] e = let z : ◌≡◌ {A = ℕ} 0 1 = cc in absurd (omega arith)
clauses_if_plain (c ∷ cs) (d ∷ ds) e = one_more (same_if_plain c d (ap (head_clause (plain_clause c)) e)) (clauses_if_plain cs ds (ap other_clauses e))

plain_if_same : (k j : ℕ) (cs ds : List Clause) → FitsClauses k cs → FitsClauses j ds → ClausesSameButForNames cs ds → plain_clauses cs ≡ plain_clauses ds
unfolding plain_clauses
plain_if_same k j [] [] f g none_left = refl
plain_if_same k j [] (d ∷ ds) f g x = elim x [ ]
plain_if_same zero j (c ∷ cs) ds f g x = elim f [ ]
plain_if_same (suc k) zero (c ∷ cs) [] f g x = elim x [ ]
plain_if_same (suc k) zero (c ∷ cs) (d ∷ ds) f g x = elim g [ ]
plain_if_same (suc k) (suc j) (c ∷ cs) [] f g x = elim x [ ]
plain_if_same (suc k) (suc j) (c ∷ cs) (d ∷ ds) (a_clause f fs) (a_clause g gs) (one_more x xs) =
    ap₂ (λ (y : Clause) (ys : List Clause). y ∷ ys) (names_do_not_count c d f g x) (plain_if_same k j cs ds fs gs xs)

pub agree_if_same : (sh other : Sheet) → FitsSheet sh → FitsSheet other → SheetsSameButForNames sh other → SameButForPlaces sh other
agree_if_same sh other f g a =
    ap₂ (λ (ds : List Declaration) (cs : List Clause). record { declarations = ds; clauses = cs }) a.declarations (plain_if_same clauses clauses sh.clauses other.clauses f.clauses g.clauses a.clauses)

pub same_if_agree : (sh other : Sheet) → SameButForPlaces sh other → SheetsSameButForNames sh other
same_if_agree sh other e = record { declarations = ap (λ (x : Sheet). x.declarations) e; clauses = clauses_if_plain sh.clauses other.clauses (ap (λ (x : Sheet). x.clauses) e) }
