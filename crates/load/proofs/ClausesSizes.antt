-- Laws of items, bodies and clauses as they were read: how many words they take, and how many their nodes take. Assumes nothing.
use Prim.Native.Nat.{ℕ, ◌+◌, ◌*◌, ◌≤◌, ◌<◌}
use native.Mathlib.Omega.{arith}
use mathlib.Core.Path.{◌≡◌, refl, sym, ap, ap₂, ◌∙◌}
use mathlib.Core.List.{List, [], ◌∷◌, ◌++◌, append-nil, append_assoc}
use lib.ListN.{length, get_or, length-append}
use Rattle.syntax.specs.Terms.{Term, Terms, variable, compound, nil, cons, term_of, Literal, call, equation, truth, falsity, either, Body, done, also, Clause}
use Rattle.syntax.specs.Words.{term_words, terms_words, atom_words, body_words, body_length, clause_words}
use Rattle.words.specs.Tables.{WordsAt}
use Rattle.words.specs.Items.{Item, plain_call, plain_equation, plain_truth, plain_falsity, before_left, before_right, behind, item_words, items_words, literal_items, items}
use Rattle.words.proofs.TablesLaws.{has_left, has_right, clause-says}
use Rattle.words.proofs.Items.{body-words, body-many}
use Rattle.run_layout.specs.Nodes.{Symbol, loaded_words, loaded_all}
use Rattle.run_layout.specs.Program.{literal_nodes, body_nodes, clause_nodes}
use Rattle.load.specs.ItemsRecords.{item_nodes}

-- ---- how many words the nodes take

mutual
  unfolding term_words loaded_words

  pub term-nodes : (ss : List Symbol) (t : Term) → length (loaded_words ss t) * 3 ≡ length (term_words t) * 2
  term-nodes ss (variable n b) = refl
  term-nodes ss (compound b f ts) = omega (arith, terms-nodes ss ts)

  pub terms-nodes : (ss : List Symbol) (ts : Terms) → length (loaded_all ss ts) * 3 ≡ length (terms_words ts) * 2
  terms-nodes ss nil = refl
  terms-nodes ss (cons t ts) = simp length-append (omega (arith, term-nodes ss t, terms-nodes ss ts))

pub item-nodes : (ss : List Symbol) (x : Item) → length (item_nodes ss x) * 3 + 1 * 2 ≡ length (item_words x) * 2
unfolding item_nodes item_words
item-nodes ss plain_truth = refl
item-nodes ss plain_falsity = refl
item-nodes ss (plain_call a) = omega (arith, term-nodes ss (term_of a))
item-nodes ss (plain_equation t u) = simp length-append (omega (arith, term-nodes ss t, term-nodes ss u))
item-nodes ss (before_left n) = refl
item-nodes ss (before_right n) = refl
item-nodes ss behind = refl

-- ---- the nodes of a body are those of its items

unfoldable pub items_nodes : List Symbol → List Item → List ℕ
items_nodes ss [] = []
items_nodes ss (x ∷ xs) = item_nodes ss x ++ items_nodes ss xs

items-append : (ss : List Symbol) (xs ys : List Item) → items_nodes ss (xs ++ ys) ≡ items_nodes ss xs ++ items_nodes ss ys
unfolding items_nodes
items-append ss [] ys = refl
items-append ss (x ∷ xs) ys = ap (λ (l : List ℕ). item_nodes ss x ++ l) (items-append ss xs ys) ∙ sym (append_assoc (item_nodes ss x) (items_nodes ss xs) (items_nodes ss ys))

mutual
  unfolding literal_items items_nodes item_nodes literal_nodes

  pub literal-items : (ss : List Symbol) (x : Literal) → items_nodes ss (literal_items x) ≡ literal_nodes ss x
  literal-items ss (call a) = append-nil (loaded_words ss (term_of a))
  literal-items ss (equation t u) = append-nil (loaded_words ss t ++ loaded_words ss u)
  literal-items ss truth = refl
  literal-items ss falsity = refl
  literal-items ss (either y z) =
      items-append ss (before_left (body_length y) ∷ items y) ((before_right (body_length z) ∷ items z) ++ (behind ∷ []))
      ∙ ap₂ (λ (v w : List ℕ). v ++ w) (body-items ss y)
      (items-append ss (before_right (body_length z) ∷ items z) (behind ∷ []) ∙ (append-nil (items_nodes ss (items z)) ∙ body-items ss z))

  pub body-items : (ss : List Symbol) (b : Body) → items_nodes ss (items b) ≡ body_nodes ss b
  body-items ss done = refl
  body-items ss (also x b) = items-append ss (literal_items x) (items b) ∙ ap₂ (λ (v w : List ℕ). v ++ w) (literal-items ss x) (body-items ss b)

items-nodes : (ss : List Symbol) (xs : List Item) → length (items_nodes ss xs) * 3 + length xs * 2 ≡ length (items_words xs) * 2
unfolding items_nodes items_words
items-nodes ss [] = refl
items-nodes ss (x ∷ xs) = simp length-append (omega (arith, item-nodes ss x, items-nodes ss xs))

pub body-nodes : (ss : List Symbol) (b : Body) → length (body_nodes ss b) * 3 + body_length b * 2 ≡ length (body_words b) * 2
body-nodes ss b =
    let e : length (items_nodes ss (items b)) * 3 + length (items b) * 2 ≡ length (items_words (items b)) * 2 = items-nodes ss (items b) in
    let n : length (items_nodes ss (items b)) ≡ length (body_nodes ss b) = ap length (body-items ss b) in
    let w : length (items_words (items b)) ≡ length (body_words b) = ap length (body-words b) in
    omega (arith, body-many b)

-- ---- clauses

-- what the words of a clause say
pub record Says (ss : List Symbol) (table : List ℕ) (p : ℕ) (cl : Clause) : Type 0 where
  pub inside : p + 2 < length table
  pub size : get_or table p 0 ≡ length (clause_words cl)
  pub fits : p + get_or table p 0 ≤ length table
  pub literals : get_or table (p + 2) 0 ≡ body_length cl.body
  pub head : WordsAt table (p + 3) (atom_words cl.head)
  pub body : WordsAt table (p + 3 + length (atom_words cl.head)) (body_words cl.body)
  pub nodes : length (clause_nodes ss cl) * 3 + (body_length cl.body + 3) * 2 ≡ length (clause_words cl) * 2

pub says : (ss : List Symbol) (table : List ℕ) (p : ℕ) (cl : Clause) → WordsAt table p (clause_words cl) → Says ss table p cl
unfolding clause_words clause_nodes
says ss table p cl h =
    let o = clause-says table p cl h in
    record {
      inside = o.words.inside;
      size = o.size;
      fits = o.inside;
      literals = o.words.third;
      head = has_left table (p + 3) (atom_words cl.head) (body_words cl.body) o.words.rest;
      body = has_right table (p + 3) (atom_words cl.head) (body_words cl.body) o.words.rest;
      nodes = simp length-append (omega (arith, term-nodes ss (term_of cl.head), body-nodes ss cl.body));
    }
