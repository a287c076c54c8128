-- Laws of the node table: what stands at a place is what is read back from it. Assumes nothing.
use Prim.Native.Nat.{ℕ, zero, suc, max, ◌+◌, ◌-◌, ◌≤◌, ◌<◌}
use native.Mathlib.Omega.{arith}
use mathlib.Core.Path.{◌≡◌, refl, sym, ap, ap₂, ◌∙◌, subst, subst⁻¹}
use mathlib.Core.Bool.{Bool, true, false, ◌||◌}
use mathlib.Core.List.{List, [], ◌∷◌, ◌++◌, append_assoc, append-nil}
use mathlib.Core.Logic.{◌⊎◌, inl, inr}
use lib.Dec.{T, eqb, eqb→eq, ltb→lt}
use lib.ListN.{length, get_or, length-append}
use borrow.Author.Tests.{lt-ltb, le-ltb}
use Rattle.words.proofs.TablesLaws.{has_end, has-append, has_left, has_right}
use Rattle.syntax.specs.Limits.{brackets}
use Rattle.syntax.specs.Words.{first_name}
use Rattle.syntax.specs.Terms.{Term, Terms, variable, compound, nil, cons, arity, same_name}
use Rattle.machine.specs.Substitution.{RTerm, RTerms, var, app, rnil, rcons, copied, copied_all}
use Rattle.machine.proofs.Tests.{both, and, name-eq}
use Rattle.run_layout.specs.Regions.{loaded_node}
use Rattle.words.specs.Tables.{WordsAt}
use Rattle.run_layout.specs.Nodes.{Symbol, is_symbol, symbol_of, is_listed, name_of_symbol, loaded_words, loaded_all, is_loadable, are_loadable, brackets_of, brackets_all, TermLoaded, TermsLoaded, Node, Row, decoded, decoded_all, term_at, terms_at, followed, count}

-- ---- symbols

-- a listed symbol's number gives its name back
pub name_of : (ss : List Symbol) (f : List ℕ) (n : ℕ) → T (is_listed ss f n) → name_of_symbol ss (symbol_of ss f n) ≡ f
unfolding name_of_symbol symbol_of is_listed is_symbol
name_of [] f n h = absurd h
name_of (s ∷ ss) f n h = go (is_symbol f n s) refl h (λ k. name_of ss f n k)
  where
    go : (a : Bool) → is_symbol f n s ≡ a → T (a || is_listed ss f n) → (T (is_listed ss f n) → name_of_symbol ss (symbol_of ss f n) ≡ f) → name_of_symbol (s ∷ ss) (elim a [ true ↦ 0 | false ↦ suc (symbol_of ss f n) ]) ≡ f
    go true e k ih = name-eq s.name f (both (eqb s.arguments n) (same_name s.name f) (subst T (sym e) tt)).1
    go false e k ih = ih k

-- and its number of arguments
pub arguments-of : (ss : List Symbol) (f g : List ℕ) (n m : ℕ) → T (is_listed ss f n) → T (is_listed ss g m) → symbol_of ss f n ≡ symbol_of ss g m → n ≡ m
unfolding symbol_of is_listed is_symbol
arguments-of [] f g n m h k e = absurd h
arguments-of (s ∷ ss) f g n m h k e = go (is_symbol f n s) refl (is_symbol g m s) refl h k e (λ h1 k1 e1. arguments-of ss f g n m h1 k1 e1)
  where
    go : (a : Bool) → is_symbol f n s ≡ a → (b : Bool) → is_symbol g m s ≡ b → T (a || is_listed ss f n) → T (b || is_listed ss g m)
        → ◌≡◌ {A = ℕ} (elim a [ true ↦ 0 | false ↦ suc (symbol_of ss f n) ]) (elim b [ true ↦ 0 | false ↦ suc (symbol_of ss g m) ])
        → (T (is_listed ss f n) → T (is_listed ss g m) → symbol_of ss f n ≡ symbol_of ss g m → n ≡ m) → n ≡ m
    go true p true q h k e ih =
        sym (eqb→eq s.arguments n (both (eqb s.arguments n) (same_name s.name f) (subst T (sym p) tt)).0) ∙ eqb→eq s.arguments m (both (eqb s.arguments m) (same_name s.name g) (subst T (sym q) tt)).0
    go true p false q h k e ih = absurd (let z : 0 ≡ suc (symbol_of ss g m) = e in omega arith)
    go false p true q h k e ih = absurd (let z : suc (symbol_of ss f n) ≡ 0 = e in omega arith)
    go false p false q h k e ih = ih h k (let z : suc (symbol_of ss f n) ≡ suc (symbol_of ss g m) = e in omega arith)

-- ---- a term's words

pub words-some : (ss : List Symbol) (t : Term) → loaded_node ≤ length (loaded_words ss t)
unfolding loaded_words
words-some ss (variable n b) = omega arith
words-some ss (compound b f ts) = omega arith

words-not-nil : (ss : List Symbol) (t : Term) → loaded_words ss t ≡ [] → ⊥
words-not-nil ss t e = let k : loaded_node ≤ length (loaded_words ss t) = words-some ss t in let z : length (loaded_words ss t) ≡ 0 = ap length e in omega arith

-- the second word is how many there are
pub size_word : (ss : List Symbol) (nodes : List ℕ) (p : ℕ) (t : Term) → WordsAt nodes p (loaded_words ss t) → get_or nodes (p + 1) 0 ≡ length (loaded_words ss t)
unfolding loaded_words
size_word ss nodes p (variable n b) h = h.2.1
size_word ss nodes p (compound b f ts) h = h.2.1 ∙ (let e : loaded_node + length (loaded_all ss ts) ≡ suc (suc (length (loaded_all ss ts))) = omega arith in e)

-- the brackets of a name's arguments, of a list's first term and of its others
brackets-name : (b : ℕ) (f : List ℕ) (ts : Terms) → brackets_of (compound b f ts) ≤ brackets → brackets_all ts ≤ brackets + 1
unfolding brackets_of
brackets-name b f ts l = let k : brackets_all ts ≤ brackets = l in omega arith

brackets-cons : (t : Term) (ts : Terms) → brackets_all (cons t ts) ≤ brackets + 1 → (brackets_of t ≤ brackets) × (brackets_all ts ≤ brackets + 1)
unfolding brackets_all
brackets-cons t ts l = let k : max (suc (brackets_of t)) (brackets_all ts) ≤ brackets + 1 = l in (omega arith, omega arith)

brackets-one : (t : Term) → brackets_of t ≤ brackets → brackets_all (cons t nil) ≤ brackets + 1
unfolding brackets_all
brackets-one t l = omega arith

two : (p : ℕ) → (p + 1) + 1 ≡ p + loaded_node
two p = omega arith

-- ---- what is read back is the term in its copy

abbrev node-choice : List Symbol → List ℕ → ℕ → ℕ → ℕ → Bool → RTerm
node-choice ss nodes c k p b =
    elim b [
      | true ↦ var (record { copy = c; number = get_or nodes p 0 })
      | false ↦ app (name_of_symbol ss (get_or nodes p 0 - first_name)) (decoded_all ss nodes c k (p + loaded_node) (p + get_or nodes (p + 1) 0))
    ]

abbrev row-choice : List Symbol → List ℕ → ℕ → ℕ → ℕ → ℕ → Bool → RTerms
row-choice ss nodes c k p e b =
    elim b [ true ↦ rcons (decoded ss nodes c k p) (decoded_all ss nodes c k (p + get_or nodes (p + 1) 0) e) | false ↦ rnil ]

module _ (ss : List Symbol) (nodes : List ℕ) (c : ℕ) where
  mutual
    unfolding decoded loaded_words is_loadable

    pub decoded-is : (k p : ℕ) (t : Term) → TermLoaded ss nodes p t → length (loaded_words ss t) ≤ suc k → decoded ss nodes c k p ≡ copied c t
    decoded-is zero p t s l = absurd (let m : loaded_node ≤ length (loaded_words ss t) = words-some ss t in let z : length (loaded_words ss t) ≤ 1 = l in omega arith)
    decoded-is (suc k) p (variable n b) s l =
        let e : get_or nodes p 0 ≡ n = s.words.1 in
        let small : n < first_name = ltb→lt n first_name s.loadable in
        ap (node-choice ss nodes c k p) (lt-ltb (get_or nodes p 0) first_name (let r : get_or nodes p 0 < first_name = omega arith in r)) ∙ ap (λ (i : ℕ). var (record { copy = c; number = i })) e
    decoded-is (suc k) p (compound b f ts) s l =
        let w : get_or nodes p 0 ≡ first_name + symbol_of ss f (arity ts) = s.words.1 in
        let z : get_or nodes (p + 1) 0 ≡ loaded_node + length (loaded_all ss ts) = s.words.2.1 in
        let ok : T (is_listed ss f (arity ts)) × T (are_loadable ss ts) = both (is_listed ss f (arity ts)) (are_loadable ss ts) s.loadable in
        let inner : WordsAt nodes (p + loaded_node) (loaded_all ss ts) = subst (λ (q : ℕ). WordsAt nodes q (loaded_all ss ts)) (two p) s.words.2.2 in
        let ends : p + get_or nodes (p + 1) 0 ≡ (p + loaded_node) + length (loaded_all ss ts) = omega arith in
        let short : length (loaded_all ss ts) ≤ k = omega arith in
        let args : decoded_all ss nodes c k (p + loaded_node) ((p + loaded_node) + length (loaded_all ss ts)) ≡ copied_all c ts = decoded-all k (p + loaded_node) ts (record { words = inner; loadable = ok.1; shallow = brackets-name b f ts s.shallow }) short in
        let number : get_or nodes p 0 - first_name ≡ symbol_of ss f (arity ts) = omega arith in
        ap (node-choice ss nodes c k p) (le-ltb (get_or nodes p 0) first_name (let r : first_name ≤ get_or nodes p 0 = omega arith in r))
        ∙ ap₂ app (ap (name_of_symbol ss) number ∙ name_of ss f (arity ts) ok.0) (ap (λ (e : ℕ). decoded_all ss nodes c k (p + loaded_node) e) ends ∙ args)

    pub decoded-all : (k p : ℕ) (ts : Terms) → TermsLoaded ss nodes p ts → length (loaded_all ss ts) ≤ k → decoded_all ss nodes c k p (p + length (loaded_all ss ts)) ≡ copied_all c ts
    decoded-all zero p nil s l = refl
    decoded-all (suc k) p nil s l =
        ap (row-choice ss nodes c k p (p + 0)) (le-ltb p (p + 0) (let r : p + 0 ≤ p = omega arith in r))
    decoded-all zero p (cons t ts) s l =
        absurd (let m : loaded_node ≤ length (loaded_words ss t) = words-some ss t in let e : length (loaded_words ss t ++ loaded_all ss ts) ≡ length (loaded_words ss t) + length (loaded_all ss ts) = length-append (loaded_words ss t) (loaded_all ss ts) in let z : length (loaded_words ss t ++ loaded_all ss ts) ≤ 0 = l in omega arith)
    decoded-all (suc k) p (cons t ts) s l =
        let m : loaded_node ≤ length (loaded_words ss t) = words-some ss t in
        let e : length (loaded_words ss t ++ loaded_all ss ts) ≡ length (loaded_words ss t) + length (loaded_all ss ts) = length-append (loaded_words ss t) (loaded_all ss ts) in
        let short : length (loaded_words ss t ++ loaded_all ss ts) ≤ suc k = l in
        let ok : T (is_loadable ss t) × T (are_loadable ss ts) = both (is_loadable ss t) (are_loadable ss ts) s.loadable in
        let few : (brackets_of t ≤ brackets) × (brackets_all ts ≤ brackets + 1) = brackets-cons t ts s.shallow in
        let first : WordsAt nodes p (loaded_words ss t) = has_left nodes p (loaded_words ss t) (loaded_all ss ts) s.words in
        let rest : WordsAt nodes (p + length (loaded_words ss t)) (loaded_all ss ts) = has_right nodes p (loaded_words ss t) (loaded_all ss ts) s.words in
        let size : get_or nodes (p + 1) 0 ≡ length (loaded_words ss t) = size_word ss nodes p t first in
        let one : decoded ss nodes c k p ≡ copied c t = decoded-is k p t (record { words = first; loadable = ok.0; shallow = few.0 }) (let r : length (loaded_words ss t) ≤ suc k = omega arith in r) in
        let more : decoded_all ss nodes c k (p + length (loaded_words ss t)) ((p + length (loaded_words ss t)) + length (loaded_all ss ts)) ≡ copied_all c ts = decoded-all k (p + length (loaded_words ss t)) ts (record { words = rest; loadable = ok.1; shallow = few.1 }) (let r : length (loaded_all ss ts) ≤ k = omega arith in r) in
        let at : p + get_or nodes (p + 1) 0 ≡ p + length (loaded_words ss t) = omega arith in
        let ends : p + length (loaded_words ss t ++ loaded_all ss ts) ≡ (p + length (loaded_words ss t)) + length (loaded_all ss ts) = omega arith in
        ap (row-choice ss nodes c k p (p + length (loaded_words ss t ++ loaded_all ss ts))) (lt-ltb p (p + length (loaded_words ss t ++ loaded_all ss ts)) (let r : p < p + length (loaded_words ss t ++ loaded_all ss ts) = omega arith in r))
        ∙ ap₂ rcons one (ap₂ (λ (a z : ℕ). decoded_all ss nodes c k a z) at ends ∙ more)

-- A term that stands at p is what p means in a copy.
pub term-at : (ss : List Symbol) (nodes : List ℕ) (p c : ℕ) (t : Term) → TermLoaded ss nodes p t → term_at ss nodes p c ≡ copied c t
unfolding term_at
term-at ss nodes p c t s =
    decoded-is ss nodes c (length nodes) p t s (let k : p + length (loaded_words ss t) ≤ length nodes = has_end nodes p (loaded_words ss t) s.words (words-not-nil ss t) in omega arith)

-- the words of some terms end within the table
all_end : (ss : List Symbol) (nodes : List ℕ) (p : ℕ) (ts : Terms) → WordsAt nodes p (loaded_all ss ts) → length (loaded_all ss ts) ≤ length nodes
unfolding loaded_all
all_end ss nodes p nil h = omega arith
all_end ss nodes p (cons t ts) h =
    let k : p + length (loaded_words ss t ++ loaded_all ss ts) ≤ length nodes = has_end nodes p (loaded_words ss t ++ loaded_all ss ts) h (λ e. let m : loaded_node ≤ length (loaded_words ss t) = words-some ss t in let z : length (loaded_words ss t ++ loaded_all ss ts) ≡ 0 = ap length e in let y : length (loaded_words ss t ++ loaded_all ss ts) ≡ length (loaded_words ss t) + length (loaded_all ss ts) = length-append (loaded_words ss t) (loaded_all ss ts) in omega arith) in
    omega arith

pub terms-at : (ss : List Symbol) (nodes : List ℕ) (p e c : ℕ) (ts : Terms) → TermsLoaded ss nodes p ts → e ≡ p + length (loaded_all ss ts) → terms_at ss nodes p e c ≡ copied_all c ts
unfolding terms_at
terms-at ss nodes p e c ts s q =
    ap (λ (x : ℕ). decoded_all ss nodes c (length nodes) p x) q ∙ decoded-all ss nodes c (length nodes) p ts s (all_end ss nodes p ts s.words)

-- ---- nodes, as code meets them

module _ (ss : List Symbol) (nodes : List ℕ) (p : ℕ) where
  pub node-size : Node ss nodes p → loaded_node ≤ get_or nodes (p + 1) 0
  node-size n = let e : get_or nodes (p + 1) 0 ≡ length (loaded_words ss n.0) = size_word ss nodes p n.0 n.1.words in let k : loaded_node ≤ length (loaded_words ss n.0) = words-some ss n.0 in omega arith

  pub node_end : Node ss nodes p → p + get_or nodes (p + 1) 0 ≤ length nodes
  node_end n =
      let e : get_or nodes (p + 1) 0 ≡ length (loaded_words ss n.0) = size_word ss nodes p n.0 n.1.words in
      let k : p + length (loaded_words ss n.0) ≤ length nodes = has_end nodes p (loaded_words ss n.0) n.1.words (words-not-nil ss n.0) in
      omega arith

  pub node-inside : Node ss nodes p → p + loaded_node ≤ length nodes
  node-inside n = let a : loaded_node ≤ get_or nodes (p + 1) 0 = node-size n in let b : p + get_or nodes (p + 1) 0 ≤ length nodes = node_end n in omega arith

-- what a node is: a variable, or a name with its arguments
record VariableNode (ss : List Symbol) (nodes : List ℕ) (p : ℕ) : Type 0 where
  low : get_or nodes p 0 < first_name
  size : get_or nodes (p + 1) 0 ≡ loaded_node
  means : (c : ℕ) → term_at ss nodes p c ≡ var (record { copy = c; number = get_or nodes p 0 })

record CompoundNode (ss : List Symbol) (nodes : List ℕ) (p : ℕ) : Type 0 where
  name : List ℕ
  args : Terms
  word : get_or nodes p 0 ≡ first_name + symbol_of ss name (arity args)
  size : get_or nodes (p + 1) 0 ≡ loaded_node + length (loaded_all ss args)
  listed : T (is_listed ss name (arity args))
  stand : TermsLoaded ss nodes (p + loaded_node) args
  means : (c : ℕ) → term_at ss nodes p c ≡ app name (copied_all c args)

view : (ss : List Symbol) (nodes : List ℕ) (p : ℕ) (t : Term) → TermLoaded ss nodes p t → VariableNode ss nodes p ⊎ CompoundNode ss nodes p
unfolding loaded_words is_loadable
view ss nodes p (variable n b) s =
    let e : get_or nodes p 0 ≡ n = s.words.1 in
    let k : n < first_name = ltb→lt n first_name s.loadable in
    inl (record { low = omega arith; size = s.words.2.1; means = λ c. term-at ss nodes p c (variable n b) s ∙ ap (λ (i : ℕ). var (record { copy = c; number = i })) (sym e) })
view ss nodes p (compound b f ts) s =
    let ok : T (is_listed ss f (arity ts)) × T (are_loadable ss ts) = both (is_listed ss f (arity ts)) (are_loadable ss ts) s.loadable in
    inr (record {
      name = f;
      args = ts;
      word = s.words.1;
      size = s.words.2.1;
      listed = ok.0;
      stand = record { words = subst (λ (q : ℕ). WordsAt nodes q (loaded_all ss ts)) (two p) s.words.2.2; loadable = ok.1; shallow = brackets-name b f ts s.shallow };
      means = λ c. term-at ss nodes p c (compound b f ts) s;
    })

module _ (ss : List Symbol) (nodes : List ℕ) (p : ℕ) (n : Node ss nodes p) where
  variable-node : get_or nodes p 0 < first_name → VariableNode ss nodes p
  variable-node l = go (view ss nodes p n.0 n.1)
    where
      go : VariableNode ss nodes p ⊎ CompoundNode ss nodes p → VariableNode ss nodes p
      go (inl v) = v
      go (inr k) = absurd (let e : get_or nodes p 0 ≡ first_name + symbol_of ss k.name (arity k.args) = k.word in omega arith)

  compound-node : first_name ≤ get_or nodes p 0 → CompoundNode ss nodes p
  compound-node l = go (view ss nodes p n.0 n.1)
    where
      go : VariableNode ss nodes p ⊎ CompoundNode ss nodes p → CompoundNode ss nodes p
      go (inl v) = absurd (let e : get_or nodes p 0 < first_name = v.low in omega arith)
      go (inr k) = k

  pub variable-at : (c : ℕ) → get_or nodes p 0 < first_name → term_at ss nodes p c ≡ var (record { copy = c; number = get_or nodes p 0 })
  variable-at c l = (variable-node l).means c

  pub variable-size : get_or nodes p 0 < first_name → get_or nodes (p + 1) 0 ≡ loaded_node
  variable-size l = (variable-node l).size

  pub compound-row : first_name ≤ get_or nodes p 0 → Row ss nodes (p + loaded_node) (p + get_or nodes (p + 1) 0)
  compound-row l =
      let k : CompoundNode ss nodes p = compound-node l in
      record { terms = k.args; stand = k.stand; ends = (let e : get_or nodes (p + 1) 0 ≡ loaded_node + length (loaded_all ss k.args) = k.size in omega arith) }

  pub compound-at : (c : ℕ) → first_name ≤ get_or nodes p 0 → term_at ss nodes p c ≡ app (name_of_symbol ss (get_or nodes p 0 - first_name)) (terms_at ss nodes (p + loaded_node) (p + get_or nodes (p + 1) 0) c)
  compound-at c l =
      let k : CompoundNode ss nodes p = compound-node l in
      let ends : p + get_or nodes (p + 1) 0 ≡ (p + loaded_node) + length (loaded_all ss k.args) = (let e : get_or nodes (p + 1) 0 ≡ loaded_node + length (loaded_all ss k.args) = k.size in omega arith) in
      let w : get_or nodes p 0 ≡ first_name + symbol_of ss k.name (arity k.args) = k.word in
      let e : get_or nodes p 0 - first_name ≡ symbol_of ss k.name (arity k.args) = omega arith in
      k.means c ∙ sym (ap₂ app (ap (name_of_symbol ss) e ∙ name_of ss k.name (arity k.args) k.listed) (terms-at ss nodes (p + loaded_node) (p + get_or nodes (p + 1) 0) c k.args k.stand ends))

-- the row of one node
pub row_one : (ss : List Symbol) (nodes : List ℕ) (p : ℕ) → Node ss nodes p → Row ss nodes p (p + get_or nodes (p + 1) 0)
unfolding loaded_all are_loadable
row_one ss nodes p n =
    let e : get_or nodes (p + 1) 0 ≡ length (loaded_words ss n.0) = size_word ss nodes p n.0 n.1.words in
    let a : length (loaded_words ss n.0 ++ []) ≡ length (loaded_words ss n.0) = ap length (append-nil (loaded_words ss n.0)) in
    record {
      terms = cons n.0 nil;
      stand = record { words = subst⁻¹ (WordsAt nodes p) (append-nil (loaded_words ss n.0)) n.1.words; loadable = and (is_loadable ss n.0) true n.1.loadable tt; shallow = brackets-one n.0 n.1.shallow };
      ends = omega arith;
    }

-- ---- rows

all-some : (ss : List Symbol) (t : Term) (ts : Terms) → loaded_node ≤ length (loaded_all ss (cons t ts))
unfolding loaded_all
all-some ss t ts = let m : loaded_node ≤ length (loaded_words ss t) = words-some ss t in let e : length (loaded_words ss t ++ loaded_all ss ts) ≡ length (loaded_words ss t) + length (loaded_all ss ts) = length-append (loaded_words ss t) (loaded_all ss ts) in omega arith

record FirstOf (ss : List Symbol) (nodes : List ℕ) (p e : ℕ) : Type 0 where
  node : Node ss nodes p
  rest : Row ss nodes (p + get_or nodes (p + 1) 0) e
  means : (c : ℕ) → terms_at ss nodes p e c ≡ rcons (term_at ss nodes p c) (terms_at ss nodes (p + get_or nodes (p + 1) 0) e c)

row-view : (ss : List Symbol) (nodes : List ℕ) (p e : ℕ) (ts : Terms) → TermsLoaded ss nodes p ts → e ≡ p + length (loaded_all ss ts) → p < e → FirstOf ss nodes p e
unfolding loaded_all are_loadable
row-view ss nodes p e nil s q l = absurd (let z : e ≡ p + 0 = q in omega arith)
row-view ss nodes p e (cons t ts) s q l =
    let ok : T (is_loadable ss t) × T (are_loadable ss ts) = both (is_loadable ss t) (are_loadable ss ts) s.loadable in
    let few : (brackets_of t ≤ brackets) × (brackets_all ts ≤ brackets + 1) = brackets-cons t ts s.shallow in
    let one : TermLoaded ss nodes p t = record { words = has_left nodes p (loaded_words ss t) (loaded_all ss ts) s.words; loadable = ok.0; shallow = few.0 } in
    let size : get_or nodes (p + 1) 0 ≡ length (loaded_words ss t) = size_word ss nodes p t one.words in
    let at : p + length (loaded_words ss t) ≡ p + get_or nodes (p + 1) 0 = omega arith in
    let more : TermsLoaded ss nodes (p + get_or nodes (p + 1) 0) ts = record { words = subst (λ (x : ℕ). WordsAt nodes x (loaded_all ss ts)) at (has_right nodes p (loaded_words ss t) (loaded_all ss ts) s.words); loadable = ok.1; shallow = few.1 } in
    let both_long : length (loaded_words ss t ++ loaded_all ss ts) ≡ length (loaded_words ss t) + length (loaded_all ss ts) = length-append (loaded_words ss t) (loaded_all ss ts) in
    let q1 : e ≡ p + length (loaded_words ss t ++ loaded_all ss ts) = q in
    let ends : e ≡ (p + get_or nodes (p + 1) 0) + length (loaded_all ss ts) = omega arith in
    record {
      node = (t, one);
      rest = record { terms = ts; stand = more; ends = ends };
      means = λ c. terms-at ss nodes p e c (cons t ts) s q ∙ sym (ap₂ rcons (term-at ss nodes p c t one) (terms-at ss nodes (p + get_or nodes (p + 1) 0) e c ts more ends));
    }

-- two rows, one behind the other
unfoldable join_terms : Terms → Terms → Terms
join_terms nil us = us
join_terms (cons t ts) us = cons t (join_terms ts us)

loaded-join : (ss : List Symbol) (ts us : Terms) → loaded_all ss (join_terms ts us) ≡ loaded_all ss ts ++ loaded_all ss us
unfolding loaded_all join_terms
loaded-join ss nil us = refl
loaded-join ss (cons t ts) us = ap (λ (l : List ℕ). loaded_words ss t ++ l) (loaded-join ss ts us) ∙ sym (append_assoc (loaded_words ss t) (loaded_all ss ts) (loaded_all ss us))

loadable-join : (ss : List Symbol) (ts us : Terms) → T (are_loadable ss ts) → T (are_loadable ss us) → T (are_loadable ss (join_terms ts us))
unfolding are_loadable join_terms
loadable-join ss nil us h k = k
loadable-join ss (cons t ts) us h k =
    let ok : T (is_loadable ss t) × T (are_loadable ss ts) = both (is_loadable ss t) (are_loadable ss ts) h in
    and (is_loadable ss t) (are_loadable ss (join_terms ts us)) ok.0 (loadable-join ss ts us ok.1 k)

brackets-join : (ts us : Terms) → brackets_all ts ≤ brackets + 1 → brackets_all us ≤ brackets + 1 → brackets_all (join_terms ts us) ≤ brackets + 1
unfolding brackets_all join_terms
brackets-join nil us h k = k
brackets-join (cons t ts) us h k =
    let few : (brackets_of t ≤ brackets) × (brackets_all ts ≤ brackets + 1) = brackets-cons t ts h in
    let first : brackets_of t ≤ brackets = few.0 in
    let rest : brackets_all (join_terms ts us) ≤ brackets + 1 = brackets-join ts us few.1 k in
    omega arith

copied-join : (c : ℕ) (ts us : Terms) → copied_all c (join_terms ts us) ≡ followed (copied_all c ts) (copied_all c us)
unfolding join_terms followed
copied-join c nil us = refl
copied-join c (cons t ts) us = ap (rcons (copied c t)) (copied-join c ts us)

-- p to m and m to e are rows, and so is p to e
record JoinedRow (ss : List Symbol) (nodes : List ℕ) (p m e : ℕ) : Type 0 where
  row : Row ss nodes p e
  means : (c : ℕ) → terms_at ss nodes p e c ≡ followed (terms_at ss nodes p m c) (terms_at ss nodes m e c)

join-rows : (ss : List Symbol) (nodes : List ℕ) (p m e : ℕ) → Row ss nodes p m → Row ss nodes m e → JoinedRow ss nodes p m e
join-rows ss nodes p m e a b =
    let ends : e ≡ p + length (loaded_all ss (join_terms a.terms b.terms)) =
    (let x : m ≡ p + length (loaded_all ss a.terms) = a.ends in let y : e ≡ m + length (loaded_all ss b.terms) = b.ends in
    let z : length (loaded_all ss (join_terms a.terms b.terms)) ≡ length (loaded_all ss a.terms ++ loaded_all ss b.terms) = ap length (loaded-join ss a.terms b.terms) in
    let u : length (loaded_all ss a.terms ++ loaded_all ss b.terms) ≡ length (loaded_all ss a.terms) + length (loaded_all ss b.terms) = length-append (loaded_all ss a.terms) (loaded_all ss b.terms) in omega arith) in
    let stand : TermsLoaded ss nodes p (join_terms a.terms b.terms) = record {
      words = subst⁻¹ (WordsAt nodes p) (loaded-join ss a.terms b.terms) (has-append nodes p (loaded_all ss a.terms) (loaded_all ss b.terms) a.stand.words (subst (λ (x : ℕ). WordsAt nodes x (loaded_all ss b.terms)) a.ends b.stand.words));
      loadable = loadable-join ss a.terms b.terms a.stand.loadable b.stand.loadable;
      shallow = brackets-join a.terms b.terms a.stand.shallow b.stand.shallow;
    } in
    record {
      row = record { terms = join_terms a.terms b.terms; stand = stand; ends = ends };
      means = λ c. terms-at ss nodes p e c (join_terms a.terms b.terms) stand ends ∙ (copied-join c a.terms b.terms ∙ sym (ap₂ followed (terms-at ss nodes p m c a.terms a.stand a.ends) (terms-at ss nodes m e c b.terms b.stand b.ends)));
    }

module _ (ss : List Symbol) (nodes : List ℕ) (p e : ℕ) (r : Row ss nodes p e) where
  pub row-order : p ≤ e
  row-order = let z : e ≡ p + length (loaded_all ss r.terms) = r.ends in omega arith

  first-of : p < e → FirstOf ss nodes p e
  first-of l = row-view ss nodes p e r.terms r.stand r.ends l

  pub row-none : (c : ℕ) → e ≤ p → terms_at ss nodes p e c ≡ rnil
  row-none c l = terms-at ss nodes p e c r.terms r.stand r.ends ∙ go r.terms r.ends
    where
      go : (ts : Terms) → e ≡ p + length (loaded_all ss ts) → copied_all c ts ≡ rnil
      go nil q = refl
      go (cons t ts) q = absurd (let k : loaded_node ≤ length (loaded_all ss (cons t ts)) = all-some ss t ts in omega arith)

  pub row_first : p < e → Node ss nodes p
  row_first l = (first-of l).node

  pub row-rest : p < e → Row ss nodes (p + get_or nodes (p + 1) 0) e
  row-rest l = (first-of l).rest

  pub row_cons : (c : ℕ) → p < e → terms_at ss nodes p e c ≡ rcons (term_at ss nodes p c) (terms_at ss nodes (p + get_or nodes (p + 1) 0) e c)
  row_cons c l = (first-of l).means c

  -- a name's arguments, and then what stands behind them
  pub row_open : p < e → first_name ≤ get_or nodes p 0 → Row ss nodes (p + loaded_node) e
  row_open l h = (join-rows ss nodes (p + loaded_node) (p + get_or nodes (p + 1) 0) e (compound-row ss nodes p (row_first l) h) (row-rest l)).row

  pub row_opened : (c : ℕ) → p < e → first_name ≤ get_or nodes p 0 → terms_at ss nodes (p + loaded_node) e c ≡ followed (terms_at ss nodes (p + loaded_node) (p + get_or nodes (p + 1) 0) c) (terms_at ss nodes (p + get_or nodes (p + 1) 0) e c)
  row_opened c l h = (join-rows ss nodes (p + loaded_node) (p + get_or nodes (p + 1) 0) e (compound-row ss nodes p (row_first l) h) (row-rest l)).means c

pub row-one-is : (ss : List Symbol) (nodes : List ℕ) (p c : ℕ) (n : Node ss nodes p) → terms_at ss nodes p (p + get_or nodes (p + 1) 0) c ≡ rcons (term_at ss nodes p c) rnil
row-one-is ss nodes p c n =
    let r : Row ss nodes p (p + get_or nodes (p + 1) 0) = row_one ss nodes p n in
    let k : loaded_node ≤ get_or nodes (p + 1) 0 = node-size ss nodes p n in
    let l : p < p + get_or nodes (p + 1) 0 = omega arith in
    row_cons ss nodes p (p + get_or nodes (p + 1) 0) r c l ∙ ap (rcons (term_at ss nodes p c)) (row-none ss nodes (p + get_or nodes (p + 1) 0) (p + get_or nodes (p + 1) 0) (row-rest ss nodes p (p + get_or nodes (p + 1) 0) r l) c (omega arith))

-- ---- two nodes of names

count-copied : (c : ℕ) (ts : Terms) → count (copied_all c ts) ≡ arity ts
unfolding count
count-copied c nil = refl
count-copied c (cons t ts) = ap suc (count-copied c ts)

module _ (ss : List Symbol) (nodes : List ℕ) (p q c d : ℕ) (n : Node ss nodes p) (m : Node ss nodes q) (h : first_name ≤ get_or nodes p 0) (k : first_name ≤ get_or nodes q 0) where
  left : CompoundNode ss nodes p
  left = compound-node ss nodes p n h

  right : CompoundNode ss nodes q
  right = compound-node ss nodes q m k

  counts : count (terms_at ss nodes (p + loaded_node) (p + get_or nodes (p + 1) 0) c) ≡ arity left.args
  counts = ap count (terms-at ss nodes (p + loaded_node) (p + get_or nodes (p + 1) 0) c left.args left.stand (let e : get_or nodes (p + 1) 0 ≡ loaded_node + length (loaded_all ss left.args) = left.size in omega arith)) ∙ count-copied c left.args

  counts-right : count (terms_at ss nodes (q + loaded_node) (q + get_or nodes (q + 1) 0) d) ≡ arity right.args
  counts-right = ap count (terms-at ss nodes (q + loaded_node) (q + get_or nodes (q + 1) 0) d right.args right.stand (let e : get_or nodes (q + 1) 0 ≡ loaded_node + length (loaded_all ss right.args) = right.size in omega arith)) ∙ count-copied d right.args

  -- the same word: as many arguments
  pub same_count : get_or nodes p 0 ≡ get_or nodes q 0 → count (terms_at ss nodes (p + loaded_node) (p + get_or nodes (p + 1) 0) c) ≡ count (terms_at ss nodes (q + loaded_node) (q + get_or nodes (q + 1) 0) d)
  same_count e =
      let a : get_or nodes p 0 ≡ first_name + symbol_of ss left.name (arity left.args) = left.word in
      let b : get_or nodes q 0 ≡ first_name + symbol_of ss right.name (arity right.args) = right.word in
      let z : symbol_of ss left.name (arity left.args) ≡ symbol_of ss right.name (arity right.args) = omega arith in
      counts ∙ (arguments-of ss left.name right.name (arity left.args) (arity right.args) left.listed right.listed z ∙ sym counts-right)

  -- another word: another name or another number of arguments
  pub other-symbol : (get_or nodes p 0 ≡ get_or nodes q 0 → ⊥) → name_of_symbol ss (get_or nodes p 0 - first_name) ≡ name_of_symbol ss (get_or nodes q 0 - first_name) → count (terms_at ss nodes (p + loaded_node) (p + get_or nodes (p + 1) 0) c) ≡ count (terms_at ss nodes (q + loaded_node) (q + get_or nodes (q + 1) 0) d) → ⊥
  other-symbol z e f =
      let a : get_or nodes p 0 ≡ first_name + symbol_of ss left.name (arity left.args) = left.word in
      let b : get_or nodes q 0 ≡ first_name + symbol_of ss right.name (arity right.args) = right.word in
      let i : get_or nodes p 0 - first_name ≡ symbol_of ss left.name (arity left.args) = omega arith in
      let j : get_or nodes q 0 - first_name ≡ symbol_of ss right.name (arity right.args) = omega arith in
      let names : left.name ≡ right.name = sym (name_of ss left.name (arity left.args) left.listed) ∙ (sym (ap (name_of_symbol ss) i) ∙ (e ∙ (ap (name_of_symbol ss) j ∙ name_of ss right.name (arity right.args) right.listed))) in
      let arities : arity left.args ≡ arity right.args = sym counts ∙ (f ∙ counts-right) in
      let y : symbol_of ss left.name (arity left.args) ≡ symbol_of ss right.name (arity right.args) = ap₂ (symbol_of ss) names arities in
      z (omega arith)

-- ---- rows joined

pub row-join : (ss : List Symbol) (nodes : List ℕ) (p m e : ℕ) → Row ss nodes p m → Row ss nodes m e → Row ss nodes p e
row-join ss nodes p m e a b = (join-rows ss nodes p m e a b).row

pub row-joined : (ss : List Symbol) (nodes : List ℕ) (p m e c : ℕ) → Row ss nodes p m → Row ss nodes m e → terms_at ss nodes p e c ≡ followed (terms_at ss nodes p m c) (terms_at ss nodes m e c)
row-joined ss nodes p m e c a b = (join-rows ss nodes p m e a b).means c
