-- Laws of words that stand in a table, and of the terms and clauses that they are. Assumes nothing.
use Prim.Native.Nat.{ℕ, suc, ◌+◌, ◌≤◌, ◌<◌}
use native.Mathlib.Numerals.{add-one}
use native.Mathlib.Omega.{arith}
use mathlib.Core.Path.{◌≡◌, refl, sym, ap, ◌∙◌, subst}
use mathlib.Core.List.{List, [], ◌∷◌, ◌++◌}
use lib.ListN.{length, get_or, take, drop, length-drop, take-append-drop}
use lib.Seq.{drop-cons}
use Rattle.syntax.specs.Terms.{Term, variable, compound, Clause}
use Rattle.syntax.specs.Words.{node_words, clause_start, body_words, body_length, clause_words, term_words, terms_words, atom_words}
use Rattle.words.specs.Tables.{WordsAt, NodeInTable}

-- ---- words

not-nil : (v : ℕ) (ws : List ℕ) → v ∷ ws ≡ [] → ⊥
not-nil v ws e = let z : ◌≡◌ {A = ℕ} 0 1 = cc in omega arith

pub has_end : (table : List ℕ) (p : ℕ) (ws : List ℕ) → WordsAt table p ws → (ws ≡ [] → ⊥) → p + length ws ≤ length table
has_end table p [] h z = absurd (z refl)
has_end table p (w ∷ []) h z = let k : p < length table = h.0 in omega arith
has_end table p (w ∷ v ∷ ws) h z =
    let k : (p + 1) + length (v ∷ ws) ≤ length table = has_end table (p + 1) (v ∷ ws) h.2 (not-nil v ws) in
    omega arith

pub has-inside : (table : List ℕ) (p : ℕ) (ws : List ℕ) → WordsAt table p ws → 0 < length ws → p + length ws ≤ length table
has-inside table p [] h l = absurd (omega arith)
has-inside table p (w ∷ ws) h l = has_end table p (w ∷ ws) h (not-nil w ws)

pub has-append : (table : List ℕ) (p : ℕ) (xs ys : List ℕ) → WordsAt table p xs → WordsAt table (p + length xs) ys → WordsAt table p (xs ++ ys)
has-append table p [] ys h k = subst (λ (q : ℕ). WordsAt table q ys) (let e : p + 0 ≡ p = omega arith in e) k
has-append table p (x ∷ xs) ys h k =
    (h.0, h.1, has-append table (p + 1) xs ys h.2 (subst (λ (q : ℕ). WordsAt table q ys) (let e : p + length (x ∷ xs) ≡ (p + 1) + length xs = omega arith in e) k))

pub has_left : (table : List ℕ) (p : ℕ) (xs ys : List ℕ) → WordsAt table p (xs ++ ys) → WordsAt table p xs
has_left table p [] ys h = tt
has_left table p (x ∷ xs) ys h = (h.0, h.1, has_left table (p + 1) xs ys h.2)

pub has_right : (table : List ℕ) (p : ℕ) (xs ys : List ℕ) → WordsAt table p (xs ++ ys) → WordsAt table (p + length xs) ys
has_right table p [] ys h = subst (λ (q : ℕ). WordsAt table q ys) (let e : p ≡ p + 0 = omega arith in e) h
has_right table p (x ∷ xs) ys h =
    subst (λ (q : ℕ). WordsAt table q ys) (let e : (p + 1) + length xs ≡ p + length (x ∷ xs) = omega arith in e) (has_right table (p + 1) xs ys h.2)

has-from : (table : List ℕ) (p : ℕ) (ws rest : List ℕ) → drop p table ≡ ws ++ rest → WordsAt table p ws
has-from table p [] rest e = tt
has-from table p (w ∷ ws) rest e =
    let l : p < length table = omega (arith, length-drop p table, ap length e) in
    let c : drop p table ≡ get_or table p 0 ∷ drop (suc p) table = drop-cons table p 0 l in
    let f : get_or table p 0 ∷ drop (suc p) table ≡ w ∷ (ws ++ rest) = sym c ∙ e in
    let a : get_or table p 0 ≡ w = cc in
    let b : drop (suc p) table ≡ ws ++ rest = cc in
    (l, a, has-from table (p + 1) ws rest (ap (λ (k : ℕ). drop k table) (add-one p) ∙ b))

-- the words that a table begins with stand from 0 on
pub has-taken : (table : List ℕ) (n : ℕ) (ws : List ℕ) → take n table ≡ ws → WordsAt table 0 ws
has-taken table n ws e = has-from table 0 ws (drop n table) (sym (take-append-drop n table) ∙ ap (λ (x : List ℕ). x ++ drop n table) e)

-- the words of a node as read
pub record Node (table : List ℕ) (p a b c : ℕ) (ws : List ℕ) : Type 0 where
  pub inside : p + 2 < length table
  pub first : get_or table p 0 ≡ a
  pub second : get_or table (p + 1) 0 ≡ b
  pub third : get_or table (p + 2) 0 ≡ c
  pub rest : WordsAt table (p + node_words) ws

pub node : (table : List ℕ) (p a b c : ℕ) (ws : List ℕ) → WordsAt table p (a ∷ b ∷ c ∷ ws) → Node table p a b c ws
node table p a b c ws h =
    let e2 : p + 1 + 1 ≡ p + 2 = omega arith in
    let e3 : p + 1 + 1 + 1 ≡ p + 3 = omega arith in
    record {
      inside = subst (λ (k : ℕ). k < length table) e2 h.2.2.0;
      first = h.1;
      second = h.2.1;
      third = subst (λ (k : ℕ). get_or table k 0 ≡ c) e2 h.2.2.1;
      rest = subst (λ (k : ℕ). WordsAt table k ws) e3 h.2.2.2;
    }

-- ---- terms

pub long-term : (t : Term) → node_words ≤ length (term_words t)
unfolding term_words
long-term (variable n at) = omega arith
long-term (compound at f ts) = omega arith

pub size_is : (table : List ℕ) (p : ℕ) (t : Term) → WordsAt table p (term_words t) → get_or table (p + 1) 0 ≡ length (term_words t)
unfolding term_words
size_is table p (variable n at) h = h.2.1
size_is table p (compound at f ts) h = h.2.1 ∙ (let e : 3 + length (terms_words ts) ≡ suc (suc (suc (length (terms_words ts)))) = omega arith in e)

pub term_inside : (table : List ℕ) (p : ℕ) (t : Term) → WordsAt table p (term_words t) → NodeInTable table p
term_inside table p t h =
    let long : node_words ≤ length (term_words t) = long-term t in
    let size : get_or table (p + 1) 0 ≡ length (term_words t) = size_is table p t h in
    let inside : p + length (term_words t) ≤ length table = has-inside table p (term_words t) h (omega arith) in
    (omega arith, omega arith)

-- ---- clauses

-- what the words of a clause say
pub record ClauseSays (table : List ℕ) (p : ℕ) (x : Clause) : Type 0 where
  pub words : Node table p (clause_start + length (atom_words x.head ++ body_words x.body)) x.variables (body_length x.body) (atom_words x.head ++ body_words x.body)
  pub size : get_or table p 0 ≡ length (clause_words x)
  pub inside : p + get_or table p 0 ≤ length table

pub clause-says : (table : List ℕ) (p : ℕ) (x : Clause) → WordsAt table p (clause_words x) → ClauseSays table p x
unfolding clause_words
clause-says table p x h =
    let o : Node table p (clause_start + length (atom_words x.head ++ body_words x.body)) x.variables (body_length x.body) (atom_words x.head ++ body_words x.body) =
    node table p _ _ _ _ h in
    let e : get_or table p 0 ≡ length (clause_words x) = omega (arith, o.first) in
    record { words = o; size = e; inside = omega (arith, e, has-inside table p (clause_words x) h (omega arith)) }

pub past-clause : (table : List ℕ) (p size : ℕ) → size ≡ get_or table p 0 → (x : Clause) → WordsAt table p (clause_words x) → p + size ≡ p + length (clause_words x)
past-clause table p size e x h = omega (arith, (clause-says table p x h).size)
