-- Laws of terms written from a table, one for each way out of the functions. Assumes nothing.
use Prim.Native.Nat.{ℕ, suc, ◌+◌, ◌*◌, ◌≤◌, ◌<◌}
use native.Mathlib.Omega.{arith}
use mathlib.Core.Path.{◌≡◌, refl, sym, ap, ap₂, ◌∙◌, subst, subst⁻¹}
use mathlib.Core.List.{List, [], ◌∷◌, ◌++◌, append-nil}
use lib.ListN.{length, get_or, drop, length-append, length-take}
use Rattle.syntax.specs.Limits.{variables, word_bytes}
use Rattle.syntax.specs.Tokens.{spelling}
use Rattle.syntax.specs.Terms.{Term, Terms, variable, compound, nil, cons, arity}
use Rattle.syntax.specs.Words.{term_words, terms_words, first_name, functor, functor_length}
use Rattle.syntax.proofs.Words.{functor-length}
use Rattle.words.specs.Buffers.{Appended, decimal}
use Rattle.words.proofs.BuffersLaws.{then, spelt, decimal-few}
use Rattle.words.specs.Tables.{WordsAt, NodeInTable}
use Rattle.words.proofs.TablesLaws.{has_left, has_right, has-inside, node, long-term, size_is, term_inside}
use Rattle.marks.specs.Spelt.{NameAt, TermSpelt, TermsSpelt, stands_variable, stands_compound, stand_nil, stand_cons}
use Rattle.format_rules.specs.Writing.{variable_name, term_text, list_text, more_text}
use Rattle.formatter.specs.Tables.{SpeltTermAt, SpeltTermsAt, word_room}
use Rattle.formatter.specs.Texts.{terms_text}
use Rattle.formatter.proofs.Progress.{Before, in_turn, behind_bytes}

-- ---- what follows a term stands behind it

mutual
  unfolding term_text list_text more_text

  pub term_then : (t : Term) → Before (term_text t)
  term_then (variable i at) rest = ap (λ (w : List ℕ). w ++ rest) (sym (append-nil (variable_name i)))
  term_then (compound at f ts) rest = behind_bytes f (list_text ts) (list_then ts) rest

  list_then : (ts : Terms) → Before (list_text ts)
  list_then nil rest = refl
  list_then (cons t ts) rest = ap (λ (w : List ℕ). 40 ∷ w) (in_turn (term_text t) (more_text ts) (term_then t) (more_then ts) rest)

  more_then : (ts : Terms) → Before (more_text ts)
  more_then nil rest = refl
  more_then (cons t ts) rest = ap (λ (w : List ℕ). 44 ∷ w) (in_turn (term_text t) (more_text ts) (term_then t) (more_then ts) rest)

pub behind_term : (t : Term) (rest : List ℕ) → length (term_text t rest) ≡ length (term_text t []) + length rest
behind_term t rest = ap length (term_then t rest) ∙ length-append (term_text t []) rest

-- ---- one term

low_by : (s table : List ℕ) (p v : ℕ) (t : Term) → v ≡ get_or table p 0 → v < first_name → WordsAt table p (term_words t) → TermSpelt s t → v < variables
unfolding term_words
low_by s table p v (variable n at) e l h (stands_variable k) = omega (arith, h.1)
low_by s table p v (compound at f ts) e l h k = absurd (omega (arith, h.1))

variable_by : (s table : List ℕ) (p v : ℕ) {out new : List ℕ} {at past : ℕ} (t : Term) → v ≡ get_or table p 0 → v < first_name → Appended out at (variable_name v) new past
    → WordsAt table p (term_words t) → TermSpelt s t → Appended out at (term_text t []) new past
unfolding term_words term_text
variable_by s table p v (variable n b) e l q h (stands_variable k) = spelt (sym (ap variable_name (e ∙ h.1) ∙ sym (append-nil (variable_name n)))) q
variable_by s table p v (compound b f ts) e l q h k = absurd (omega (arith, h.1))

module _ {s table : List ℕ} {p : ℕ} where
  pub room_three : SpeltTermAt s table p → (p + 3 ≤ length table) × (3 ≤ get_or table (p + 1) 0)
  room_three w =
      let size : get_or table (p + 1) 0 ≡ length (term_words w.term) = size_is table p w.term w.has in
      let long : 3 ≤ length (term_words w.term) = long-term w.term in
      let inside : p + length (term_words w.term) ≤ length table = has-inside table p (term_words w.term) w.has (omega arith) in
      omega arith

  pub node_in : SpeltTermAt s table p → NodeInTable table p
  node_in w = term_inside table p w.term w.has

  pub low : (v : ℕ) → v ≡ get_or table p 0 → v < first_name → SpeltTermAt s table p → v < variables
  low v e l w = low_by s table p v w.term e l w.has w.stands

-- ---- a word of the table is room for so many bytes of the writing

module _ (s : List ℕ) where
  mutual
    unfolding term_words term_text list_text more_text variable_name

    pub term_short : (t : Term) → TermSpelt s t → length (term_text t []) + 8 ≤ word_room * length (term_words t)
    term_short (variable n at) (stands_variable k) =
        omega (arith, length-append (86 ∷ decimal (suc n)) [], decimal-few (suc n) (omega (arith, k)))
    term_short (compound at f ts) (stands_compound k few ks) =
        omega (arith, length-append f (list_text ts []), k.short, list_short ts ks)

    list_short : (ts : Terms) → TermsSpelt s ts → length (list_text ts []) ≤ word_room * length (terms_words ts)
    list_short nil stand_nil = omega arith
    list_short (cons t ts) (stand_cons k ks) =
        omega (arith, behind_term t (more_text ts []), term_short t k, more_short ts ks, length-append (term_words t) (terms_words ts))

    more_short : (ts : Terms) → TermsSpelt s ts → length (more_text ts []) ≤ 1 + word_room * length (terms_words ts)
    more_short nil stand_nil = omega arith
    more_short (cons t ts) (stand_cons k ks) =
        omega (arith, behind_term t (more_text ts []), term_short t k, more_short ts ks, length-append (term_words t) (terms_words ts))

pub near : {s table : List ℕ} {p : ℕ} (w : SpeltTermAt s table p) {out new : List ℕ} {at past : ℕ} → Appended out at (term_text w.term []) new past
    → past + 8 ≤ at + word_room * get_or table (p + 1) 0
near {s} {table} {p} w q = omega (arith, q.past, term_short s w.term w.stands, size_is table p w.term w.has)

-- so many bytes of a text are no more
pub part_short : (s : List ℕ) (place len : ℕ) → length (spelling s place len) ≤ len
part_short s place len = omega (arith, length-take len (drop place s))

-- a name with its arguments
pub record Opened (s table : List ℕ) (p : ℕ) (t : Term) : Type 0 where
  pub at : ℕ
  pub name : List ℕ
  pub args : Terms
  pub is : t ≡ compound at name args
  pub spelt : NameAt s at name
  pub what : get_or table p 0 ≡ functor (arity args) (length name)
  pub place : get_or table (p + 2) 0 ≡ at
  pub has : WordsAt table (p + 3) (terms_words args)
  pub stand : TermsSpelt s args
  pub size : length (term_words t) ≡ 3 + length (terms_words args)

opened_by : (s table : List ℕ) (p : ℕ) (t : Term) → WordsAt table p (term_words t) → TermSpelt s t → first_name ≤ get_or table p 0 → Opened s table p t
unfolding term_words
opened_by s table p (variable n at) h (stands_variable k) l = absurd (omega (arith, h.1))
opened_by s table p (compound at f ts) h (stands_compound k a ks) l =
    let o = node table p (functor (arity ts) (length f)) (3 + length (terms_words ts)) at (terms_words ts) h in
    record { at = at; name = f; args = ts; is = refl; spelt = k; what = o.first; place = o.third; has = o.rest; stand = ks; size = omega arith }

pub opened : {s table : List ℕ} {p : ℕ} (v : ℕ) → v ≡ get_or table p 0 → first_name ≤ v → (w : SpeltTermAt s table p) → Opened s table p w.term
opened {s} {table} {p} v e l w = opened_by s table p w.term w.has w.stands (omega arith)

no_terms : (ts : Terms) → length (terms_words ts) ≤ 0 → ts ≡ nil
unfolding term_words
no_terms nil h = refl
no_terms (cons t ts) h = absurd (omega (arith, length-append (term_words t) (terms_words ts), long-term t))

some_terms : (ts : Terms) → 0 < length (terms_words ts) → list_text ts [] ≡ 40 ∷ terms_text ts
unfolding term_words list_text
some_terms nil h = absurd (omega arith)
some_terms (cons t ts) h = refl

more_terms : (ts : Terms) → 0 < length (terms_words ts) → more_text ts [] ≡ 44 ∷ terms_text ts
unfolding term_words more_text
more_terms nil h = absurd (omega arith)
more_terms (cons t ts) h = refl

module _ {s table : List ℕ} {p : ℕ} (v : ℕ) (e : v ≡ get_or table p 0) where
  pub variable_written : {out new : List ℕ} {at past : ℕ} → v < first_name → Appended out at (variable_name v) new past → (w : SpeltTermAt s table p) → Appended out at (term_text w.term []) new past
  variable_written l q w = variable_by s table p v w.term e l q w.has w.stands

  module _ (l : first_name ≤ v) where
    -- the name's length and place, as the code takes them
    pub name_long : (len : ℕ) → len ≡ functor_length v → (w : SpeltTermAt s table p) → len ≡ length (opened v e l w).name
    name_long len f w =
        let o : Opened s table p w.term = opened v e l w in
        f ∙ ap functor_length (e ∙ o.what) ∙ functor-length (arity o.args) (length o.name) (omega (arith, o.spelt.short))

    pub name_inside : (len place : ℕ) → len ≡ functor_length v → place ≡ get_or table (p + 2) 0 → SpeltTermAt s table p → (place + len ≤ length s) × (len ≤ word_bytes)
    name_inside len place f g w =
        let o : Opened s table p w.term = opened v e l w in
        let n : len ≡ length o.name = name_long len f w in
        omega (arith, o.place, o.spelt.inside, o.spelt.short)

    name_is : (len place : ℕ) → len ≡ functor_length v → place ≡ get_or table (p + 2) 0 → (w : SpeltTermAt s table p) → spelling s place len ≡ (opened v e l w).name
    name_is len place f g w =
        let o : Opened s table p w.term = opened v e l w in
        ap₂ (λ (a n : ℕ). spelling s a n) (g ∙ o.place) (name_long len f w) ∙ sym o.spelt.spelt

    module _ (len place stop : ℕ) (f : len ≡ functor_length v) (g : place ≡ get_or table (p + 2) 0) (z : stop ≡ p + get_or table (p + 1) 0) where
      -- a name alone
      pub name_written : {out new : List ℕ} {at past : ℕ} → stop ≤ p + 3 → Appended out at (spelling s place len) new past → (w : SpeltTermAt s table p) → Appended out at (term_text w.term []) new past
      unfolding term_text list_text
      name_written k q w =
          let o : Opened s table p w.term = opened v e l w in
          let size : get_or table (p + 1) 0 ≡ length (term_words w.term) = size_is table p w.term w.has in
          let nothing : o.args ≡ nil = no_terms o.args (omega (arith, o.size)) in
          spelt (sym (name_is len place f g w ∙ sym (append-nil o.name) ∙ ap (λ (ts : Terms). o.name ++ list_text ts []) (sym nothing) ∙ ap (λ (t : Term). term_text t []) (sym o.is))) q

      pub inner : p + 3 < stop → SpeltTermAt s table p → SpeltTermsAt s table (p + 3) stop
      inner k w =
          let o : Opened s table p w.term = opened v e l w in
          let size : get_or table (p + 1) 0 ≡ length (term_words w.term) = size_is table p w.term w.has in
          record { terms = o.args; has = o.has; ends = omega (arith, o.size); stand = o.stand }

      -- and with its arguments
      pub list_written : {out one two new : List ℕ} {at past behind end : ℕ} → (k : p + 3 < stop) → Appended out at (spelling s place len) one past → Appended one past (40 ∷ []) two behind
          → ((u : SpeltTermsAt s table (p + 3) stop) → Appended two behind (terms_text u.terms) new end) → (w : SpeltTermAt s table p) → Appended out at (term_text w.term []) new end
      unfolding term_text list_text
      list_written k q r h w =
          let o : Opened s table p w.term = opened v e l w in
          let size : get_or table (p + 1) 0 ≡ length (term_words w.term) = size_is table p w.term w.has in
          let i : SpeltTermsAt s table (p + 3) stop = record { terms = o.args; has = o.has; ends = omega (arith, o.size); stand = o.stand } in
          let some : list_text o.args [] ≡ 40 ∷ terms_text o.args = some_terms o.args (omega (arith, o.size)) in
          spelt (sym (ap (λ (x : List ℕ). x ++ (40 ∷ terms_text o.args)) (name_is len place f g w) ∙ ap (λ (x : List ℕ). o.name ++ x) (sym some) ∙ ap (λ (t : Term). term_text t []) (sym o.is)))
          (then q (then r (h i)))

-- ---- terms

-- the first of them and the others
record Parted (s table : List ℕ) (p stop : ℕ) (ts : Terms) : Type 0 where
  first : SpeltTermAt s table p
  rest : SpeltTermsAt s table (p + length (term_words first.term)) stop
  is : ts ≡ cons first.term rest.terms

parted_by : (s table : List ℕ) (p stop : ℕ) (ts : Terms) → p < stop → WordsAt table p (terms_words ts) → stop ≡ p + length (terms_words ts) → TermsSpelt s ts → Parted s table p stop ts
unfolding term_words
parted_by s table p stop nil l h e k = absurd (omega arith)
parted_by s table p stop (cons t ts) l h e (stand_cons k ks) = record {
  first = record { term = t; has = has_left table p (term_words t) (terms_words ts) h; stands = k };
  rest = record {
    terms = ts;
    has = has_right table p (term_words t) (terms_words ts) h;
    ends = omega (arith, length-append (term_words t) (terms_words ts));
    stand = ks;
  };
  is = refl;
}

module _ {s table : List ℕ} {p stop : ℕ} (l : p < stop) where
  parted : (w : SpeltTermsAt s table p stop) → Parted s table p stop w.terms
  parted w = parted_by s table p stop w.terms l w.has w.ends w.stand

  pub first_of : SpeltTermsAt s table p stop → SpeltTermAt s table p
  first_of w = (parted w).first

  pub first_fits : SpeltTermsAt s table p stop → (p + get_or table (p + 1) 0 ≤ stop) × (3 ≤ get_or table (p + 1) 0)
  first_fits w =
      let q : Parted s table p stop w.terms = parted w in
      let size : get_or table (p + 1) 0 ≡ length (term_words q.first.term) = size_is table p q.first.term q.first.has in
      omega (arith, q.rest.ends, (room_three q.first).1)

  pub first_near : SpeltTermsAt s table p stop → {out new : List ℕ} {at past : ℕ} → ((u : SpeltTermAt s table p) → Appended out at (term_text u.term []) new past)
      → past + 8 ≤ at + word_room * get_or table (p + 1) 0
  first_near w q = near (first_of w) (q (first_of w))

  module _ (next : ℕ) (n : next ≡ p + get_or table (p + 1) 0) where
    next_is : (w : SpeltTermsAt s table p stop) → next ≡ p + length (term_words (parted w).first.term)
    next_is w = let size : get_or table (p + 1) 0 ≡ length (term_words (parted w).first.term) = size_is table p (parted w).first.term (parted w).first.has in omega arith

    pub rest_of : SpeltTermsAt s table p stop → SpeltTermsAt s table next stop
    rest_of w = subst⁻¹ (λ (k : ℕ). SpeltTermsAt s table k stop) (next_is w) (parted w).rest

    pub last_written : {out one new : List ℕ} {at past end : ℕ} → stop ≤ next → ((u : SpeltTermAt s table p) → Appended out at (term_text u.term []) one past) → Appended one past (41 ∷ []) new end
        → (w : SpeltTermsAt s table p stop) → Appended out at (terms_text w.terms) new end
    unfolding more_text
    last_written k h q w =
        let o : Parted s table p stop w.terms = parted w in
        let nothing : o.rest.terms ≡ nil = no_terms o.rest.terms (omega (arith, o.rest.ends, next_is w)) in
        spelt (sym (sym (term_then o.first.term (41 ∷ [])) ∙ ap (λ (ts : Terms). term_text o.first.term (more_text ts [])) (sym nothing) ∙ ap terms_text (sym o.is))) (then (h o.first) q)

    pub more_written : {out one two new : List ℕ} {at past behind end : ℕ} → next < stop → ((u : SpeltTermAt s table p) → Appended out at (term_text u.term []) one past) → Appended one past (44 ∷ []) two behind
        → ((u : SpeltTermsAt s table next stop) → Appended two behind (terms_text u.terms) new end) → (w : SpeltTermsAt s table p stop) → Appended out at (terms_text w.terms) new end
    unfolding more_text
    more_written {two = two} {new = new} {behind = behind} {end = end} k h q r w =
        let o : Parted s table p stop w.terms = parted w in
        let others : Appended two behind (terms_text o.rest.terms) new end = subst (λ (j : ℕ). (u : SpeltTermsAt s table j stop) → Appended two behind (terms_text u.terms) new end) (next_is w) r o.rest in
        let some : more_text o.rest.terms [] ≡ 44 ∷ terms_text o.rest.terms = more_terms o.rest.terms (omega (arith, o.rest.ends, next_is w)) in
        spelt (sym (ap (λ (x : List ℕ). term_text o.first.term [] ++ x) (sym some) ∙ sym (term_then o.first.term (more_text o.rest.terms [])) ∙ ap terms_text (sym o.is))) (then (h o.first) (then q others))
