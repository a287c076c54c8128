-- Laws of bodies and clauses with a bracket, one for each way out of the functions. Assumes nothing.
use Prim.Native.Nat.{ℕ, suc, ◌+◌, ◌-◌, ◌≤◌, ◌<◌}
use native.Mathlib.Numerals.{add-one}
use native.Mathlib.Omega.{arith}
use mathlib.Core.Path.{◌≡◌, refl, sym, ap, ◌∙◌, subst⁻¹}
use mathlib.Core.Bool.{Bool, true, false, not}
use mathlib.Core.List.{List, [], ◌∷◌, ◌++◌}
use mathlib.Core.Option.{Option, none, some}
use Rattle.std.specs.Prelude.{Some, None}
use lib.ListN.{length, get_or}
use borrow.Author.Tests.{not-true, not-false}
use Rattle.syntax.specs.Terms.{term_of, Literal, call, equation, truth, falsity, either, Body, done, also, Clause}
use Rattle.syntax.specs.Words.{equation_kind, atom_words, literal_length, body_length, literal_words, body_words, clause_words, clauses_words}
use Rattle.words.specs.Tables.{WordsAt, NodeInTable}
use Rattle.words.specs.Items.{Item, plain_call, plain_equation, plain_truth, plain_falsity, item_words, ItemsAt}
use Rattle.words.proofs.TablesLaws.{has_left, has_right, size_is, term_inside, clause-says}
use Rattle.words.proofs.Items.{item_room, on-begin, on-first}
use Rattle.machine.specs.Determinacy.{is_bracket, without_brackets, first_bracketed}
use Rattle.determinacy.specs.Clauses.{told_number, ClausesIn}
use Rattle.determinacy.proofs.Numbers.{number_is, number-nothing}

-- ---- a body

-- what is left of a body has a bracket exactly where the whole has
pub record BodyOn (table : List ℕ) (at left : ℕ) (whole : Body) : Type 0 where
  pub rest : Body
  pub here : ItemsAt table at left rest
  pub same : without_brackets whole ≡ without_brackets rest

pub body-begins : {table : List ℕ} {p items : ℕ} (b : Body) → ItemsAt table p items b → BodyOn table p items b
body-begins b w = record { rest = b; here = w; same = refl }

pub first-item : {table : List ℕ} {at left : ℕ} {b : Body} → 0 < left → BodyOn table at left b → (x : Item) × WordsAt table at (item_words x)
first-item {table} {at} {left} l o = on-first {i = 0} l (on-begin table at left o.rest o.here)

pub item-inside : {table : List ℕ} {at left : ℕ} {b : Body} → 0 < left → BodyOn table at left b → at < length table
item-inside {table} {at} l o = let x : (x : Item) × WordsAt table at (item_words x) = first-item l o in item_room table at x.0 x.1

module _ (table : List ℕ) (at left word : ℕ) (l : 0 < left) (e : word ≡ get_or table at 0) where
  is-by : equation_kind < word → (b : Body) → WordsAt table at (body_words b) → left ≡ body_length b → true ≡ not (without_brackets b)
  unfolding body_words literal_words body_length without_brackets is_bracket
  is-by g done h n = absurd (omega arith)
  is-by g (also (call a) b) h n = absurd (omega (arith, h.1))
  is-by g (also (equation t u) b) h n = absurd (omega (arith, h.1))
  is-by g (also truth b) h n = absurd (omega (arith, h.1))
  is-by g (also falsity b) h n = absurd (omega (arith, h.1))
  is-by g (also (either y z) b) h n = refl

  pub body-bracketed : equation_kind < word → {b : Body} → BodyOn table at left b → true ≡ not (without_brackets b)
  body-bracketed g o = is-by g o.rest o.here.has o.here.many ∙ ap not (sym o.same)

  module _ (m : word ≤ equation_kind) (next : ℕ) (n : (x : Item) → WordsAt table at (item_words x) → next ≡ at + length (item_words x)) where
    -- past an item, and past a literal that is no bracket
    past : (x : Item) (whole b : Body) → WordsAt table at (item_words x ++ body_words b) → left ≡ 1 + body_length b → without_brackets whole ≡ without_brackets b → BodyOn table next (left - 1) whole
    past x whole b h k s =
        record {
          rest = b;
          here = record { has = subst⁻¹ (λ (i : ℕ). WordsAt table i (body_words b)) (n x (has_left table at (item_words x) (body_words b) h)) (has_right table at (item_words x) (body_words b) h); many = omega arith };
          same = s;
        }

    on-by : (whole b : Body) → WordsAt table at (body_words b) → left ≡ body_length b → without_brackets whole ≡ without_brackets b → BodyOn table next (left - 1) whole
    unfolding body_words literal_words item_words body_length literal_length without_brackets is_bracket
    on-by whole done h k s = absurd (omega arith)
    on-by whole (also (call a) b) h k s = past (plain_call a) whole b h k s
    on-by whole (also (equation t u) b) h k s = past (plain_equation t u) whole b h k s
    on-by whole (also truth b) h k s = past plain_truth whole b h k s
    on-by whole (also falsity b) h k s = past plain_falsity whole b h k s
    on-by whole (also (either y z) b) h k s = absurd (omega (arith, h.1))

    pub body-on : {b : Body} → BodyOn table at left b → BodyOn table next (left - 1) b
    body-on {b} o = on-by b o.rest o.here.has o.here.many o.same

pub body-plain : {table : List ℕ} {at left : ℕ} {b : Body} → left ≤ 0 → BodyOn table at left b → false ≡ not (without_brackets b)
body-plain {table} {at} {left} {b} l o = by o.rest o.here.many ∙ ap not (sym o.same)
  where
    some-items : (x : Literal) → 1 ≤ literal_length x
    some-items (call a) = unfold literal_length in omega arith
    some-items (equation t u) = unfold literal_length in omega arith
    some-items truth = unfold literal_length in omega arith
    some-items falsity = unfold literal_length in omega arith
    some-items (either y z) = unfold literal_length in omega arith

    by : (r : Body) → left ≡ body_length r → false ≡ not (without_brackets r)
    by done n = unfold without_brackets in refl
    by (also x r) n = absurd (let z : left ≡ literal_length x + body_length r = unfold body_length in n in let y : 1 ≤ literal_length x = some-items x in omega arith)

-- ---- a clause

module _ (table : List ℕ) (p : ℕ) (x : Clause) (h : WordsAt table p (clause_words x)) where
  pub clause-inside : p + 2 < length table
  clause-inside = (clause-says table p x h).words.inside

  pub head-has : WordsAt table (p + 3) (atom_words x.head)
  head-has = has_left table (p + 3) (atom_words x.head) (body_words x.body) (clause-says table p x h).words.rest

  pub head-inside : NodeInTable table (p + 3)
  head-inside = term_inside table (p + 3) (term_of x.head) head-has

  pub body-here : {items first : ℕ} → items ≡ get_or table (p + 2) 0 → first ≡ p + 3 + get_or table (p + 3 + 1) 0 → ItemsAt table first items x.body
  body-here {items} {first} en ef =
      let z : get_or table (p + 3 + 1) 0 ≡ length (atom_words x.head) = size_is table (p + 3) (term_of x.head) head-has in
      let q : first ≡ p + 3 + length (atom_words x.head) = omega arith in
      record {
        has = subst⁻¹ (λ (i : ℕ). WordsAt table i (body_words x.body)) q (has_right table (p + 3) (atom_words x.head) (body_words x.body) (clause-says table p x h).words.rest);
        many = en ∙ (clause-says table p x h).words.third;
      }

-- ---- the clauses in turn

-- what is left of the clauses from the i-th on, at a place, gives the answer of the whole
pub record Ahead (table : List ℕ) (at i k : ℕ) (whole : Option ℕ) : Type 0 where
  pub list : List Clause
  pub has : WordsAt table at (clauses_words list)
  pub count : k ≡ i + length list
  pub same : whole ≡ first_bracketed (suc i) list

pub ahead-begins : {table : List ℕ} {k : ℕ} (w : ClausesIn table k) → Ahead table 0 0 k (first_bracketed 1 w.list)
ahead-begins {table} {k} w = record { list = w.list; has = w.has; count = (let e : k ≡ 0 + length w.list = omega (arith, w.count) in e); same = refl }

abbrev choice : ℕ → List Clause → Bool → Option ℕ
choice n cls b = elim b [ true ↦ first_bracketed (suc n) cls | false ↦ some n ]

first-by : (n : ℕ) (cl : Clause) (cls : List Clause) (b : Bool) → without_brackets cl.body ≡ b → first_bracketed n (cl ∷ cls) ≡ choice n cls b
unfolding first_bracketed
first-by n cl cls b e = ap (choice n cls) e

module _ {table : List ℕ} {at i k : ℕ} {whole : Option ℕ} (l : i < k) where
  pub ahead-clause : Ahead table at i k whole → (x : Clause) × WordsAt table at (clause_words x)
  ahead-clause o = by o.list o.has o.count
    where
      by : (cls : List Clause) → WordsAt table at (clauses_words cls) → k ≡ i + length cls → (x : Clause) × WordsAt table at (clause_words x)
      by [] h c = absurd (let z : k ≡ i + 0 = c in omega arith)
      by (x ∷ cls) h c = (x, has_left table at (clause_words x) (clauses_words cls) (unfold clauses_words in h))

  module _ {r : Bool} (er : (x : Clause) → WordsAt table at (clause_words x) → r ≡ not (without_brackets x.body)) where
    pub ahead-stops : r ≡ true → Ahead table at i k whole → Some (i + 1) ≡ told_number whole
    ahead-stops t o = by o.list o.has o.count o.same
      where
        by : (cls : List Clause) → WordsAt table at (clauses_words cls) → k ≡ i + length cls → whole ≡ first_bracketed (suc i) cls → Some (i + 1) ≡ told_number whole
        by [] h c s = absurd (let z : k ≡ i + 0 = c in omega arith)
        by (x ∷ cls) h c s =
            let q : without_brackets x.body ≡ false = not-true (without_brackets x.body) (sym (er x (has_left table at (clause_words x) (clauses_words cls) (unfold clauses_words in h))) ∙ t) in
            let v : whole ≡ some (suc i) = s ∙ first-by (suc i) x cls false q in
            ap Some (add-one i) ∙ sym (ap told_number v ∙ number_is (suc i))

    pub ahead-on : r ≡ false → {next : ℕ} → ((x : Clause) → WordsAt table at (clause_words x) → next ≡ at + length (clause_words x)) → Ahead table at i k whole → Ahead table next (i + 1) k whole
    ahead-on t {next} n o = by o.list o.has o.count o.same
      where
        by : (cls : List Clause) → WordsAt table at (clauses_words cls) → k ≡ i + length cls → whole ≡ first_bracketed (suc i) cls → Ahead table next (i + 1) k whole
        by [] h c s = absurd (let z : k ≡ i + 0 = c in omega arith)
        by (x ∷ cls) h c s =
            let here : WordsAt table at (clause_words x) = has_left table at (clause_words x) (clauses_words cls) (unfold clauses_words in h) in
            let q : without_brackets x.body ≡ true = not-false (without_brackets x.body) (sym (er x here) ∙ t) in
            let z : k ≡ i + suc (length cls) = c in
            record {
              list = cls;
              has = subst⁻¹ (λ (j : ℕ). WordsAt table j (clauses_words cls)) (n x here) (has_right table at (clause_words x) (clauses_words cls) (unfold clauses_words in h));
              count = omega arith;
              same = s ∙ first-by (suc i) x cls true q ∙ ap (λ (j : ℕ). first_bracketed (suc j) cls) (sym (add-one i));
            }

pub ahead-ends : {table : List ℕ} {at i k : ℕ} {whole : Option ℕ} → k ≤ i → Ahead table at i k whole → None ≡ told_number whole
ahead-ends {table} {at} {i} {k} {whole} l o = by o.list o.count o.same
  where
    by : (cls : List Clause) → k ≡ i + length cls → whole ≡ first_bracketed (suc i) cls → None ≡ told_number whole
    by [] c s = let z : first_bracketed (suc i) [] ≡ none = (unfold first_bracketed in refl) in sym (ap told_number (s ∙ z) ∙ number-nothing)
    by (x ∷ cls) c s = absurd (let z : k ≡ i + suc (length cls) = c in omega arith)
