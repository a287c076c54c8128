-- Laws of the arguments of two clauses, joined pair by pair: one for each way out of the functions. Assumes nothing.
use Prim.Native.Nat.{ℕ, suc, ◌+◌, ◌-◌, ◌≤◌, ◌<◌}
use native.Mathlib.Omega.{arith}
use mathlib.Core.Path.{◌≡◌, refl, sym, ap, ◌∙◌, subst⁻¹}
use mathlib.Core.Bool.{Bool, true, false}
use mathlib.Core.List.{List, [], ◌∷◌}
use mathlib.Core.Option.{Option, some}
use lib.Dec.{T, eqb}
use lib.ListN.{length, get_or, length-append}
use borrow.Author.Tests.{eq-eqb, ne_eqb}
use Rattle.syntax.specs.Limits.{brackets}
use Rattle.syntax.specs.Terms.{Term, Terms, nil, cons, arity, Mark, input, output, free}
use Rattle.syntax.specs.Words.{mark_number, marks_number, first_mark, other_marks}
use Rattle.syntax.proofs.Words.{marks-first, marks-others}
use Rattle.mode_rules.specs.Modes.{same_mark, list_of}
use Rattle.words.specs.Tables.{WordsAt, NodeInTable}
use Rattle.words.proofs.TablesLaws.{has_left, has_right}
use Rattle.machine.specs.Substitution.{Binding}
use Rattle.machine.specs.Determinacy.{kept_if, inputs_by, join_on, joined}
use Rattle.machine.proofs.Tests.{both}
use Rattle.run_layout.specs.Regions.{loaded_node}
use Rattle.run_layout.specs.Nodes.{Symbol, TermLoaded, TermsLoaded, loaded_words, loaded_all, is_loadable, are_loadable, brackets_all}
use Rattle.run_layout.specs.State.{bindings}
use Rattle.run_layout.proofs.Nodes.{words-some, size_word, node-size, node-inside, node_end}
use Rattle.bindings.specs.Scratch.{Roomy}
use Rattle.unify.specs.Turns.{answered, Unifiable, UnifyGives}
use Rattle.unify.specs.declared.solve.UnifyAnswer.{UnifyAnswer}
use Rattle.determinacy.specs.Joins.{left_copy, right_copy, unify_if, Paired, InputUnified, Joinable, InputsJoined}

-- ---- one pair of arguments

module _ {nodes state scratch : List ℕ} {p q n : ℕ} where
  abbrev pub unifiable : Paired nodes state scratch p q n → Unifiable nodes state scratch (record { node = p; copy = left_copy }) (record { node = q; copy = right_copy }) n
  unifiable w = record {
    ss = w.ss;
    top = right_copy;
    store = w.store;
    within = w.within;
    roomy = w.roomy;
    clean = w.clean;
    left = w.left;
    right = w.right;
    copy = omega arith;
    copy_right = omega arith;
    below = omega arith;
    below_right = omega arith;
  }

  module _ (marks : ℕ) {k : ℕ} (e : k ≡ first_mark marks) where
    pub meets-other : (k ≡ mark_number input → ⊥) → (w : Paired nodes state scratch p q n)
        → InputUnified w state scratch (eqb (first_mark marks) (mark_number input)) (record { equal = true; trail = n })
    meets-other d w = record {
      store = w.store;
      within = w.within;
      clean = w.clean;
      long = refl;
      answer = λ t u a b. ap (λ (x : Bool). unify_if x (bindings w.ss nodes state n) t u) (ne_eqb (first_mark marks) (mark_number input) (λ z. d (e ∙ z))) ∙ (unfold unify_if in unfold answered in refl);
    }

    pub meets-input : k ≡ mark_number input → {after later : List ℕ} {r : UnifyAnswer}
        → ((v : Unifiable nodes state scratch (record { node = p; copy = left_copy }) (record { node = q; copy = right_copy }) n) → UnifyGives v after later r)
        → (w : Paired nodes state scratch p q n) → InputUnified w after later (eqb (first_mark marks) (mark_number input)) r
    meets-input d f w =
        let u = f (unifiable w) in
        record {
          store = u.store;
          within = u.within;
          clean = u.clean;
          long = u.long;
          answer = λ t v a b. ap (λ (x : Bool). unify_if x (bindings w.ss nodes state n) t v) (eq-eqb (first_mark marks) (mark_number input) (sym e ∙ d)) ∙ (unfold unify_if in u.answer t v a b);
        }

-- ---- marks

-- the first of some marks is +
abbrev is_input : List Mark → Bool
is_input [] = false
is_input (k ∷ ks) = same_mark input k

abbrev others : List Mark → List Mark
others [] = []
others (k ∷ ks) = ks

mark-is : (k : Mark) → eqb (mark_number k) (mark_number input) ≡ same_mark input k
mark-is input = unfold same_mark in refl
mark-is output = unfold same_mark in refl
mark-is free = unfold same_mark in refl

first-is : (ks : List Mark) (marks : ℕ) → marks ≡ marks_number ks → eqb (first_mark marks) (mark_number input) ≡ is_input ks
first-is [] marks e =
    ne_eqb (first_mark marks) (mark_number input) (λ q. let z : marks ≡ 0 = (unfold marks_number in e) in omega arith)
first-is (k ∷ ks) marks e =
    ap (λ (m : ℕ). eqb (first_mark m) (mark_number input)) e ∙ ap (λ (m : ℕ). eqb m (mark_number input)) (marks-first k ks) ∙ mark-is k

others-are : (ks : List Mark) (marks : ℕ) → marks ≡ marks_number ks → other_marks marks ≡ marks_number (others ks)
others-are [] marks e = let z : marks ≡ 0 = (unfold marks_number in e) in let y : other_marks marks ≡ 0 = omega arith in y ∙ (unfold marks_number in refl)
others-are (k ∷ ks) marks e = ap other_marks e ∙ marks-others k ks

kept-joined : (k : Bool) (b : List Binding) (t u : Term) (ts us : List Term) → joined b (kept_if k t ts) (kept_if k u us) ≡ join_on (unify_if k b t u) (λ b1. joined b1 ts us)
unfolding kept_if unify_if join_on joined
kept-joined true b t u ts us = refl
kept-joined false b t u ts us = refl

pairs-joined : (ks : List Mark) (b : List Binding) (t u : Term) (ts us : List Term)
    → joined b (inputs_by ks (t ∷ ts)) (inputs_by ks (u ∷ us)) ≡ join_on (unify_if (is_input ks) b t u) (λ b1. joined b1 (inputs_by (others ks) ts) (inputs_by (others ks) us))
unfolding inputs_by unify_if join_on joined
pairs-joined [] b t u ts us = refl
pairs-joined (k ∷ ks) b t u ts us = kept-joined (same_mark input k) b t u (inputs_by ks ts) (inputs_by ks us)

none-joined : (ks : List Mark) (b : List Binding) → joined b (inputs_by ks []) (inputs_by ks []) ≡ some b
unfolding inputs_by joined
none-joined [] b = refl
none-joined (k ∷ ks) b = refl

-- ---- a row of arguments

cons-long : (ss : List Symbol) (t : Term) (ts : Terms) → length (loaded_all ss (cons t ts)) ≡ length (loaded_words ss t) + length (loaded_all ss ts)
unfolding loaded_all
cons-long ss t ts = length-append (loaded_words ss t) (loaded_all ss ts)

-- the first of some terms that stand, and the others
record Parted (ss : List Symbol) (nodes : List ℕ) (p : ℕ) (t : Term) (ts : Terms) : Type 0 where
  first : TermLoaded ss nodes p t
  rest : TermsLoaded ss nodes (p + get_or nodes (p + 1) 0) ts
  size : get_or nodes (p + 1) 0 ≡ length (loaded_words ss t)

parted : (ss : List Symbol) (nodes : List ℕ) (p : ℕ) (t : Term) (ts : Terms) → TermsLoaded ss nodes p (cons t ts) → Parted ss nodes p t ts
unfolding loaded_all are_loadable brackets_all
parted ss nodes p t ts s =
    let ok : T (is_loadable ss t) × T (are_loadable ss ts) = both (is_loadable ss t) (are_loadable ss ts) s.loadable in
    let few : brackets_all (cons t ts) ≤ brackets + 1 = s.shallow in
    let one : WordsAt nodes p (loaded_words ss t) = has_left nodes p (loaded_words ss t) (loaded_all ss ts) s.words in
    let e : get_or nodes (p + 1) 0 ≡ length (loaded_words ss t) = size_word ss nodes p t one in
    record {
      first = record { words = one; loadable = ok.0; shallow = omega arith };
      rest = record {
        words = subst⁻¹ (λ (i : ℕ). WordsAt nodes (p + i) (loaded_all ss ts)) e (has_right nodes p (loaded_words ss t) (loaded_all ss ts) s.words);
        loadable = ok.1;
        shallow = omega arith;
      };
      size = e;
    }

-- ---- the arguments of two heads

-- the first pair, and the rows behind it
pub record Split (ss : List Symbol) (nodes : List ℕ) (p stop q marks : ℕ) (listed : List Mark) (left right : Terms) : Type 0 where
  pub t : Term
  pub u : Term
  ts : Terms
  us : Terms
  pub one : TermLoaded ss nodes p t
  pub two : TermLoaded ss nodes q u
  left_stand : TermsLoaded ss nodes (p + get_or nodes (p + 1) 0) ts
  right_stand : TermsLoaded ss nodes (q + get_or nodes (q + 1) 0) us
  ends : stop ≡ p + get_or nodes (p + 1) 0 + length (loaded_all ss ts)
  alike : arity ts ≡ arity us
  joined_is : (b : List Binding) → joined b (inputs_by listed (list_of left)) (inputs_by listed (list_of right))
      ≡ join_on (unify_if (eqb (first_mark marks) (mark_number input)) b t u) (λ b1. joined b1 (inputs_by (others listed) (list_of ts)) (inputs_by (others listed) (list_of us)))

split_by : (ss : List Symbol) (nodes : List ℕ) (p stop q marks : ℕ) (listed : List Mark) (left right : Terms) → p < stop → TermsLoaded ss nodes p left → TermsLoaded ss nodes q right
    → stop ≡ p + length (loaded_all ss left) → arity left ≡ arity right → marks ≡ marks_number listed → Split ss nodes p stop q marks listed left right
split_by ss nodes p stop q marks listed nil right l a b e k m = absurd (let z : stop ≡ p + 0 = (unfold loaded_all in e) in omega arith)
split_by ss nodes p stop q marks listed (cons t ts) nil l a b e k m = absurd (let z : suc (arity ts) ≡ 0 = k in omega arith)
split_by ss nodes p stop q marks listed (cons t ts) (cons u us) l a b e k m =
    let x : Parted ss nodes p t ts = parted ss nodes p t ts a in
    let y : Parted ss nodes q u us = parted ss nodes q u us b in
    let z : length (loaded_all ss (cons t ts)) ≡ length (loaded_words ss t) + length (loaded_all ss ts) = cons-long ss t ts in
    let s : get_or nodes (p + 1) 0 ≡ length (loaded_words ss t) = x.size in
    let n : suc (arity ts) ≡ suc (arity us) = k in
    record {
      t = t;
      u = u;
      ts = ts;
      us = us;
      one = x.first;
      two = y.first;
      left_stand = x.rest;
      right_stand = y.rest;
      ends = omega arith;
      alike = omega arith;
      joined_is = λ c. pairs-joined listed c t u (list_of ts) (list_of us)
          ∙ ap (λ (f : Bool). join_on (unify_if f c t u) (λ b1. joined b1 (inputs_by (others listed) (list_of ts)) (inputs_by (others listed) (list_of us)))) (sym (first-is listed marks m));
    }

module _ {nodes state scratch : List ℕ} {p stop q marks n : ℕ} where
  pub join-none : stop ≤ p → (w : Joinable nodes state scratch p stop q marks n) → InputsJoined w state scratch (record { equal = true; trail = n })
  join-none l w = record { store = w.store; clean = w.clean; long = refl; answer = by w.left w.right w.ends w.alike ∙ (unfold answered in refl) }
    where
      by : (left right : Terms) → stop ≡ p + length (loaded_all w.ss left) → arity left ≡ arity right
          → joined (bindings w.ss nodes state n) (inputs_by w.listed (list_of left)) (inputs_by w.listed (list_of right)) ≡ some (bindings w.ss nodes state n)
      by nil nil e k = none-joined w.listed (bindings w.ss nodes state n)
      by nil (cons u us) e k = absurd (let z : 0 ≡ suc (arity us) = k in omega arith)
      by (cons t ts) right e k =
          absurd (let z : length (loaded_all w.ss (cons t ts)) ≡ length (loaded_words w.ss t) + length (loaded_all w.ss ts) = cons-long w.ss t ts in
          let y : loaded_node ≤ length (loaded_words w.ss t) = words-some w.ss t in omega arith)

  module _ (l : p < stop) where
    pub split : (w : Joinable nodes state scratch p stop q marks n) → Split w.ss nodes p stop q marks w.listed w.left w.right
    split w = split_by w.ss nodes p stop q marks w.listed w.left w.right l w.left_stand w.right_stand w.ends w.alike w.number

    abbrev pub join_first : Joinable nodes state scratch p stop q marks n → Paired nodes state scratch p q n
    join_first w = record {
      ss = w.ss;
      left = ((split w).t, (split w).one);
      right = ((split w).u, (split w).two);
      store = w.store;
      within = w.within;
      roomy = w.roomy;
      clean = w.clean;
    }

    pub join-inside : Joinable nodes state scratch p stop q marks n → NodeInTable nodes p × NodeInTable nodes q
    join-inside w =
        let a : p + loaded_node ≤ length nodes = node-inside w.ss nodes p ((split w).t, (split w).one) in
        let b : q + loaded_node ≤ length nodes = node-inside w.ss nodes q ((split w).u, (split w).two) in
        ((omega arith, node_end w.ss nodes p ((split w).t, (split w).one)), (omega arith, node_end w.ss nodes q ((split w).u, (split w).two)))

    -- the measure falls
    pub join-further : {next : ℕ} → next ≡ p + get_or nodes (p + 1) 0 → Joinable nodes state scratch p stop q marks n → stop - next < stop - p
    join-further {next} e w =
        let s : loaded_node ≤ get_or nodes (p + 1) 0 = node-size w.ss nodes p ((split w).t, (split w).one) in
        omega arith

    module _ {state1 scratch1 : List ℕ} {u : UnifyAnswer}
        (m : (v : Paired nodes state scratch p q n) → InputUnified v state1 scratch1 (eqb (first_mark marks) (mark_number input)) u) where
      met : (w : Joinable nodes state scratch p stop q marks n) → InputUnified (join_first w) state1 scratch1 (eqb (first_mark marks) (mark_number input)) u
      met w = m (join_first w)

      met-is : (w : Joinable nodes state scratch p stop q marks n) (b : Bool) → u.equal ≡ b
          → joined (bindings w.ss nodes state n) (inputs_by w.listed (list_of w.left)) (inputs_by w.listed (list_of w.right))
          ≡ join_on (answered b (bindings w.ss nodes state1 u.trail)) (λ b1. joined b1 (inputs_by (others w.listed) (list_of (split w).ts)) (inputs_by (others w.listed) (list_of (split w).us)))
      met-is w b e =
          (split w).joined_is (bindings w.ss nodes state n)
          ∙ ap (λ (o : Option (List Binding)). join_on o (λ b1. joined b1 (inputs_by (others w.listed) (list_of (split w).ts)) (inputs_by (others w.listed) (list_of (split w).us))))
          ((met w).answer (split w).t (split w).u (split w).one (split w).two ∙ ap (λ (x : Bool). answered x (bindings w.ss nodes state1 u.trail)) e)

      pub join-stops : u.equal ≡ false → (w : Joinable nodes state scratch p stop q marks n) → InputsJoined w state1 scratch1 (record { equal = false; trail = u.trail })
      join-stops e w = record {
        store = (met w).store;
        clean = (met w).clean;
        long = (met w).long;
        answer = met-is w false e ∙ (unfold answered in unfold join_on in refl);
      }

      module _ {next other rest : ℕ} (en : next ≡ p + get_or nodes (p + 1) 0) (eo : other ≡ q + get_or nodes (q + 1) 0) (er : rest ≡ other_marks marks) where
        pub join-rest : Joinable nodes state scratch p stop q marks n → Joinable nodes state1 scratch1 next stop other rest u.trail
        join-rest w =
            let x : Split w.ss nodes p stop q marks w.listed w.left w.right = split w in
            let y : stop ≡ p + get_or nodes (p + 1) 0 + length (loaded_all w.ss x.ts) = x.ends in
            let v : length scratch1 ≡ length scratch = (met w).long in
            let r : Roomy scratch = w.roomy in
            record {
              ss = w.ss;
              left = x.ts;
              right = x.us;
              left_stand = subst⁻¹ (λ (i : ℕ). TermsLoaded w.ss nodes i x.ts) en x.left_stand;
              right_stand = subst⁻¹ (λ (i : ℕ). TermsLoaded w.ss nodes i x.us) eo x.right_stand;
              ends = omega arith;
              alike = x.alike;
              listed = others w.listed;
              number = er ∙ others-are w.listed marks w.number;
              store = (met w).store;
              within = (met w).within;
              roomy = omega arith;
              clean = (met w).clean;
            }

        pub join-on : u.equal ≡ true → {state2 scratch2 : List ℕ} {r : UnifyAnswer}
            → ((v : Joinable nodes state1 scratch1 next stop other rest u.trail) → InputsJoined v state2 scratch2 r)
            → (w : Joinable nodes state scratch p stop q marks n) → InputsJoined w state2 scratch2 r
        unfolding join-rest
        join-on e f w =
            let j = f (join-rest w) in
            record {
              store = j.store;
              clean = j.clean;
              long = j.long ∙ (met w).long;
              answer = met-is w true e ∙ (unfold answered in unfold join_on in j.answer);
            }
