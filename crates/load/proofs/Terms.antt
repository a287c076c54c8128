-- Copied and numbered nodes are the nodes of the terms. Assumes nothing.
use Prim.Native.Nat.{ℕ, suc, ◌+◌, ◌*◌, ◌/◌, ◌≤◌, ◌<◌}
use native.Mathlib.Omega.{arith}
use mathlib.Core.Path.{◌≡◌, refl, sym, ap, ap₂, ◌∙◌, subst}
use mathlib.Core.Bool.{Bool, ◌&&◌}
use mathlib.Core.List.{List, [], ◌∷◌, ◌++◌}
use lib.Dec.{T, lt→ltb}
use lib.ListN.{length}
use Rattle.syntax.specs.Limits.{lengths, arguments, variables}
use Rattle.syntax.specs.Terms.{Term, Terms, variable, compound, nil, cons, arity, term_of, Literal, Body, call, equation, truth, falsity, either, done, also, Clause}
use Rattle.syntax.specs.Words.{functor, terms_words, first_name}
use Rattle.syntax.proofs.Words.{functor-arity, functor-length}
use Rattle.marks.specs.Spelt.{NameAt, TermSpelt, TermsSpelt, stands_variable, stands_compound, stand_nil, stand_cons, LiteralSpelt, call_stands, equation_stands, truth_stands, falsity_stands, either_stands, BodySpelt, done_stands, also_stands, ClauseSpelt, ClausesSpelt, no_clauses, clause_stands}
use Rattle.machine.proofs.Tests.{and}
use Rattle.run_layout.specs.Nodes.{Symbol, symbol_of, is_listed, loaded_words, loaded_all, is_loadable, are_loadable}
use Rattle.run_layout.specs.Program.{literal_nodes, body_nodes, clause_nodes, clauses_nodes, literal_loadable, body_loadable, clauses_loadable}
use Rattle.run_layout.specs.SymbolNames.{text_of}
use Rattle.syntax.specs.Spans.{span_length}
use Rattle.run_layout.specs.Symbols.{symbol_word, symbol_place, symbol_text}
use Rattle.run_layout.proofs.RunLayoutSymbols.{word-length, word-text, word-place}
use Rattle.load.specs.Flat.{NodeAsRead, parsed_words, term_parsed, terms_parsed, literal_parsed, body_parsed, clause_parsed, clauses_parsed, Flat, flat_words, flat_name, flat_symbol, flat_arity, flat_what, flat_all}
use Rattle.load.specs.Symbols.{word_name, SymbolInside}
use Rattle.load.specs.Listing.{with_node, with_all, numbered_what, numbered_all, AllInside}
use Rattle.load.proofs.Words.{flat-variable, flat-name}
use Rattle.load.proofs.Parsed.{terms-words}
use Rattle.load.proofs.Spelt.{Part, word-name}
use Rattle.load.proofs.Finding.{stays-listed}
use Rattle.load.proofs.Numbered.{number-variable, number-name, with-all-more, name-listed}

-- ---- lists of nodes, one behind the other

pub flat-all-append : (text : ℕ) (xs ys : List NodeAsRead) → flat_all text (xs ++ ys) ≡ flat_all text xs ++ flat_all text ys
unfolding flat_all
flat-all-append text [] ys = refl
flat-all-append text (x ∷ xs) ys = ap (λ (l : List Flat). record { what = flat_what text x.what x.byte; size = x.size / 3 * 2 } ∷ l) (flat-all-append text xs ys)

pub words_append : (xs ys : List Flat) → flat_words (xs ++ ys) ≡ flat_words xs ++ flat_words ys
unfolding flat_words
words_append [] ys = refl
words_append (x ∷ xs) ys = ap (λ (l : List ℕ). x.what ∷ x.size ∷ l) (words_append xs ys)

parsed-long : (xs : List NodeAsRead) → length (parsed_words xs) ≡ length xs * 3
unfolding parsed_words
parsed-long [] = refl
parsed-long (x ∷ xs) = let e : length (parsed_words xs) ≡ length xs * 3 = parsed-long xs in let z : suc (suc (suc (length (parsed_words xs)))) ≡ suc (length xs) * 3 = omega arith in z

module _ (sheet goal : List ℕ) where
  pub inside-append : (xs ys : List Flat) → AllInside sheet goal xs → AllInside sheet goal ys → AllInside sheet goal (xs ++ ys)
  inside-append [] ys f g = g
  inside-append (x ∷ xs) ys f g = (f.0, inside-append xs ys f.1 g)

  pub numbered-append : (ss : List Symbol) (xs ys : List Flat) → numbered_all sheet goal ss (xs ++ ys) ≡ numbered_all sheet goal ss xs ++ numbered_all sheet goal ss ys
  unfolding numbered_all
  numbered-append ss [] ys = refl
  numbered-append ss (x ∷ xs) ys = ap (λ (l : List Flat). record { what = numbered_what sheet goal ss x.what; size = x.size } ∷ l) (numbered-append ss xs ys)

  -- every name of the nodes is among the symbols
  abbrev pub AllListed : List Symbol → List Flat → Type 0
  AllListed ss [] = Unit {0}
  AllListed ss (x ∷ xs) = (first_name ≤ x.what → T (is_listed ss (word_name sheet goal (flat_symbol x.what)) (flat_arity x.what))) × AllListed ss xs

  pub all_listed : (ss : List Symbol) (xs : List Flat) → AllListed (with_all sheet goal ss xs) xs
  unfolding with_all
  all_listed ss [] = tt
  all_listed ss (x ∷ xs) = (
    λ l. subst (λ (k : List Symbol). T (is_listed k (word_name sheet goal (flat_symbol x.what)) (flat_arity x.what))) (sym (with-all-more sheet goal (with_node sheet goal ss x.what) xs).1)
        (stays-listed (with_node sheet goal ss x.what) (with-all-more sheet goal (with_node sheet goal ss x.what) xs).0 (word_name sheet goal (flat_symbol x.what)) (flat_arity x.what) (name-listed sheet goal ss x.what l)),
    all_listed (with_node sheet goal ss x.what) xs,
  )

  pub listed-left : (ss : List Symbol) (xs ys : List Flat) → AllListed ss (xs ++ ys) → AllListed ss xs
  listed-left ss [] ys h = tt
  listed-left ss (x ∷ xs) ys h = (h.0, listed-left ss xs ys h.1)

  pub listed-right : (ss : List Symbol) (xs ys : List Flat) → AllListed ss (xs ++ ys) → AllListed ss ys
  listed-right ss [] ys h = h
  listed-right ss (x ∷ xs) ys h = listed-right ss xs ys h.1

  -- the words of numbered nodes
  abbrev pub loaded_of : List Symbol → ℕ → List NodeAsRead → List ℕ
  loaded_of ss text xs = flat_words (numbered_all sheet goal ss (flat_all text xs))

  pub loaded-append : (ss : List Symbol) (text : ℕ) (xs ys : List NodeAsRead) → loaded_of ss text (xs ++ ys) ≡ loaded_of ss text xs ++ loaded_of ss text ys
  loaded-append ss text xs ys =
      ap (λ (l : List Flat). flat_words (numbered_all sheet goal ss l)) (flat-all-append text xs ys)
      ∙ (ap flat_words (numbered-append ss (flat_all text xs) (flat_all text ys)) ∙ words_append (numbered_all sheet goal ss (flat_all text xs)) (numbered_all sheet goal ss (flat_all text ys)))

  loaded-long : (ss : List Symbol) (text : ℕ) (xs : List NodeAsRead) → length (loaded_of ss text xs) ≡ length xs * 2
  unfolding flat_words numbered_all flat_all
  loaded-long ss text [] = refl
  loaded-long ss text (x ∷ xs) = let e : length (loaded_of ss text xs) ≡ length xs * 2 = loaded-long ss text xs in let z : suc (suc (length (loaded_of ss text xs))) ≡ suc (length xs) * 2 = omega arith in z

  -- ---- a name of a text

  module _ (ss : List Symbol) (text : ℕ) (s : List ℕ) (one : text ≤ 1) (reads : (w : ℕ) → symbol_text w ≡ text → text_of w sheet goal ≡ s) where
    -- what the word of a name says
    record Word (b n : ℕ) (f : List ℕ) (v : ℕ) : Type 0 where
      high : first_name ≤ v
      name : word_name sheet goal (flat_symbol v) ≡ f
      arguments : flat_arity v ≡ n
      inside : SymbolInside sheet goal (flat_symbol v)

    symbol-is : (x n : ℕ) → n ≤ arguments → flat_symbol (flat_name x n) ≡ x
    symbol-is x n m = omega arith

    arity-is : (x n : ℕ) → n ≤ arguments → flat_arity (flat_name x n) ≡ n
    arity-is x n m = omega arith

    word-by : (b n : ℕ) (f : List ℕ) (v : ℕ) → NameAt s b f → n ≤ arguments → v ≡ flat_name (symbol_word b text (length f)) n → Word b n f v
    unfolding SymbolInside
    word-by b n f v k m e =
        let short : length f < lengths = omega (arith, k.short) in
        let at : flat_symbol v ≡ symbol_word b text (length f) = ap flat_symbol e ∙ symbol-is (symbol_word b text (length f)) n m in
        let place : b ≡ symbol_place (flat_symbol v) = sym (ap symbol_place at ∙ word-place b text (length f) short (omega arith)) in
        let long : length f ≡ span_length (flat_symbol v) = sym (ap span_length at ∙ word-length b text (length f) short) in
        let which : symbol_text (flat_symbol v) ≡ text = ap symbol_text at ∙ word-text b text (length f) short (omega arith) in
        let source : text_of (flat_symbol v) sheet goal ≡ s = reads (flat_symbol v) which in
        let part : Part s sheet goal (flat_symbol v) b (length f) = record { text = source; place = place; long = long } in
        let room : length (text_of (flat_symbol v) sheet goal) ≡ length s = ap length source in
        let i : b + length f ≤ length s = k.inside in
        let z : symbol_place (flat_symbol v) + span_length (flat_symbol v) ≤ length (text_of (flat_symbol v) sheet goal) = omega (arith, place, long, room, i) in
        record {
          high = omega arith;
          name = sym (word-name part) ∙ sym k.spelt;
          arguments = ap flat_arity e ∙ arity-is (symbol_word b text (length f)) n m;
          inside = z;
        }

    word : (b n : ℕ) (f : List ℕ) → NameAt s b f → n ≤ arguments → Word b n f (flat_what text (functor n (length f)) b)
    word b n f k m =
        let short : length f < lengths = omega (arith, k.short) in
        word-by b n f (flat_what text (functor n (length f)) b) k m
        (sym (flat-name text (functor n (length f)) b (omega arith))
        ∙ ap₂ (λ (l a : ℕ). flat_name (symbol_word b text l) a) (functor-length n (length f) short) (functor-arity n (length f) short))

    -- ---- the names are in the text

    mutual
      unfolding term_parsed flat_all

      pub term_inside : (t : Term) → TermSpelt s t → AllInside sheet goal (flat_all text (term_parsed t))
      term_inside (variable n b) (stands_variable k) =
          (λ l. absurd (let z : n < variables = k in let e : n ≡ flat_what text n b = flat-variable text n b (omega arith) in omega arith), tt)
      term_inside (compound b f ts) (stands_compound n k a) = (λ l. (word b (arity ts) f n k).inside, terms_inside ts a)

      pub terms_inside : (ts : Terms) → TermsSpelt s ts → AllInside sheet goal (flat_all text (terms_parsed ts))
      terms_inside nil stand_nil = tt
      terms_inside (cons t ts) (stand_cons a b) =
          subst (AllInside sheet goal) (sym (flat-all-append text (term_parsed t) (terms_parsed ts)))
          (inside-append (flat_all text (term_parsed t)) (flat_all text (terms_parsed ts)) (term_inside t a) (terms_inside ts b))

    inside_both : (xs ys : List NodeAsRead) → AllInside sheet goal (flat_all text xs) → AllInside sheet goal (flat_all text ys) → AllInside sheet goal (flat_all text (xs ++ ys))
    inside_both xs ys a b = subst (AllInside sheet goal) (sym (flat-all-append text xs ys)) (inside-append (flat_all text xs) (flat_all text ys) a b)

    mutual
      unfolding literal_parsed flat_all

      literal_inside : (l : Literal) → LiteralSpelt s l → AllInside sheet goal (flat_all text (literal_parsed l))
      literal_inside (call a) (call_stands k) = term_inside (term_of a) k
      literal_inside (equation t u) (equation_stands j k) = inside_both (term_parsed t) (term_parsed u) (term_inside t j) (term_inside u k)
      literal_inside truth truth_stands = tt
      literal_inside falsity falsity_stands = tt
      literal_inside (either y z) (either_stands j k) = inside_both (body_parsed y) (body_parsed z) (body_inside y j) (body_inside z k)

      pub body_inside : (b : Body) → BodySpelt s b → AllInside sheet goal (flat_all text (body_parsed b))
      body_inside done done_stands = tt
      body_inside (also x b) (also_stands j k) = inside_both (literal_parsed x) (body_parsed b) (literal_inside x j) (body_inside b k)

    clause-inside : (c : Clause) → ClauseSpelt s c → AllInside sheet goal (flat_all text (clause_parsed c))
    unfolding clause_parsed
    clause-inside c k = inside_both (term_parsed (term_of c.head)) (body_parsed c.body) (term_inside (term_of c.head) k.head) (body_inside c.body k.body)

    pub clauses-inside : (cs : List Clause) → ClausesSpelt s cs → AllInside sheet goal (flat_all text (clauses_parsed cs))
    unfolding clauses_parsed flat_all
    clauses-inside [] no_clauses = tt
    clauses-inside (c ∷ cs) (clause_stands j k) = inside_both (clause_parsed c) (clauses_parsed cs) (clause-inside c j) (clauses-inside cs k)

    -- ---- the nodes are the terms', and these are loadable

    abbrev Fine : Bool → List ℕ → List NodeAsRead → Type 0
    Fine b ws xs = T b × (ws ≡ loaded_of ss text xs)

    fine-both : (a b : Bool) (us vs : List ℕ) (xs ys : List NodeAsRead) → Fine a us xs → Fine b vs ys → Fine (a && b) (us ++ vs) (xs ++ ys)
    fine-both a b us vs xs ys j k = (and a b j.0 k.0, ap₂ (λ (l m : List ℕ). l ++ m) j.1 k.1 ∙ sym (loaded-append ss text xs ys))

    left-of : (xs ys : List NodeAsRead) → AllListed ss (flat_all text (xs ++ ys)) → AllListed ss (flat_all text xs)
    left-of xs ys h = listed-left ss (flat_all text xs) (flat_all text ys) (subst (AllListed ss) (flat-all-append text xs ys) h)

    right-of : (xs ys : List NodeAsRead) → AllListed ss (flat_all text (xs ++ ys)) → AllListed ss (flat_all text ys)
    right-of xs ys h = listed-right ss (flat_all text xs) (flat_all text ys) (subst (AllListed ss) (flat-all-append text xs ys) h)

    size_is : (ts : Terms) (ws : List ℕ) → ws ≡ loaded_of ss text (terms_parsed ts) → 2 + length ws ≡ (3 + length (terms_words ts)) / 3 * 2
    size_is ts ws e =
        let a : length ws ≡ length (terms_parsed ts) * 2 = ap length e ∙ loaded-long ss text (terms_parsed ts) in
        let b : length (terms_words ts) ≡ length (terms_parsed ts) * 3 = ap length (terms-words ts) ∙ parsed-long (terms_parsed ts) in
        let c : (3 + length (terms_parsed ts) * 3) / 3 ≡ 1 + length (terms_parsed ts) = omega arith in
        let d : (3 + length (terms_words ts)) / 3 ≡ 1 + length (terms_parsed ts) = ap (λ (k : ℕ). (3 + k) / 3) b ∙ c in
        omega arith

    mutual
      unfolding term_parsed flat_all numbered_all flat_words loaded_words is_loadable

      pub term_fine : (t : Term) → TermSpelt s t → AllListed ss (flat_all text (term_parsed t)) → Fine (is_loadable ss t) (loaded_words ss t) (term_parsed t)
      term_fine (variable n b) (stands_variable k) h =
          let small : n < first_name = (let z : n < variables = k in omega arith) in
          let e : flat_what text n b ≡ n = sym (flat-variable text n b small) in (
            lt→ltb n first_name small,
            ap (λ (v : ℕ). v ∷ 2 ∷ []) (sym (ap (numbered_what sheet goal ss) e ∙ number-variable sheet goal ss n small)),
          )
      term_fine (compound b f ts) (stands_compound n k a) h =
          let w : Word b (arity ts) f (flat_what text (functor (arity ts) (length f)) b) = word b (arity ts) f n k in
          let inner : Fine (are_loadable ss ts) (loaded_all ss ts) (terms_parsed ts) = terms_fine ts a h.1 in
          let listed : T (is_listed ss f (arity ts)) =
          subst (λ (g : List ℕ). T (is_listed ss g (arity ts))) w.name
          (subst (λ (m : ℕ). T (is_listed ss (word_name sheet goal (flat_symbol (flat_what text (functor (arity ts) (length f)) b))) m)) w.arguments (h.0 w.high)) in
          let number : first_name + symbol_of ss f (arity ts) ≡ numbered_what sheet goal ss (flat_what text (functor (arity ts) (length f)) b) =
          sym (number-name sheet goal ss (flat_what text (functor (arity ts) (length f)) b) w.high ∙ ap₂ (λ (g : List ℕ) (m : ℕ). first_name + symbol_of ss g m) w.name w.arguments) in (
            and (is_listed ss f (arity ts)) (are_loadable ss ts) listed inner.0,
            (ap₂ (λ (x y : ℕ). x ∷ y ∷ loaded_all ss ts) number (size_is ts (loaded_all ss ts) inner.1)
                ∙ ap (λ (l : List ℕ). numbered_what sheet goal ss (flat_what text (functor (arity ts) (length f)) b) ∷ ((3 + length (terms_words ts)) / 3 * 2) ∷ l) inner.1),
          )

      pub terms_fine : (ts : Terms) → TermsSpelt s ts → AllListed ss (flat_all text (terms_parsed ts)) → Fine (are_loadable ss ts) (loaded_all ss ts) (terms_parsed ts)
      terms_fine nil stand_nil h = (tt, refl)
      terms_fine (cons t ts) (stand_cons a b) h =
          fine-both (is_loadable ss t) (are_loadable ss ts) (loaded_words ss t) (loaded_all ss ts) (term_parsed t) (terms_parsed ts)
          (term_fine t a (left-of (term_parsed t) (terms_parsed ts) h)) (terms_fine ts b (right-of (term_parsed t) (terms_parsed ts) h))

    mutual
      unfolding literal_parsed literal_loadable literal_nodes flat_all numbered_all flat_words

      literal_fine : (l : Literal) → LiteralSpelt s l → AllListed ss (flat_all text (literal_parsed l)) → Fine (literal_loadable ss l) (literal_nodes ss l) (literal_parsed l)
      literal_fine (call a) (call_stands k) h = term_fine (term_of a) k h
      literal_fine (equation t u) (equation_stands j k) h =
          fine-both (is_loadable ss t) (is_loadable ss u) (loaded_words ss t) (loaded_words ss u) (term_parsed t) (term_parsed u)
          (term_fine t j (left-of (term_parsed t) (term_parsed u) h)) (term_fine u k (right-of (term_parsed t) (term_parsed u) h))
      literal_fine truth truth_stands h = (tt, refl)
      literal_fine falsity falsity_stands h = (tt, refl)
      literal_fine (either y z) (either_stands j k) h =
          fine-both (body_loadable ss y) (body_loadable ss z) (body_nodes ss y) (body_nodes ss z) (body_parsed y) (body_parsed z)
          (body_fine y j (left-of (body_parsed y) (body_parsed z) h)) (body_fine z k (right-of (body_parsed y) (body_parsed z) h))

      pub body_fine : (b : Body) → BodySpelt s b → AllListed ss (flat_all text (body_parsed b)) → Fine (body_loadable ss b) (body_nodes ss b) (body_parsed b)
      body_fine done done_stands h = (tt, refl)
      body_fine (also x b) (also_stands j k) h =
          fine-both (literal_loadable ss x) (body_loadable ss b) (literal_nodes ss x) (body_nodes ss b) (literal_parsed x) (body_parsed b)
          (literal_fine x j (left-of (literal_parsed x) (body_parsed b) h)) (body_fine b k (right-of (literal_parsed x) (body_parsed b) h))

    clause-fine : (c : Clause) → ClauseSpelt s c → AllListed ss (flat_all text (clause_parsed c)) → Fine (is_loadable ss (term_of c.head) && body_loadable ss c.body) (clause_nodes ss c) (clause_parsed c)
    unfolding clause_parsed clause_nodes
    clause-fine c k h =
        fine-both (is_loadable ss (term_of c.head)) (body_loadable ss c.body) (loaded_words ss (term_of c.head)) (body_nodes ss c.body) (term_parsed (term_of c.head)) (body_parsed c.body)
        (term_fine (term_of c.head) k.head (left-of (term_parsed (term_of c.head)) (body_parsed c.body) h)) (body_fine c.body k.body (right-of (term_parsed (term_of c.head)) (body_parsed c.body) h))

    pub clauses-fine : (cs : List Clause) → ClausesSpelt s cs → AllListed ss (flat_all text (clauses_parsed cs)) → Fine (clauses_loadable ss cs) (clauses_nodes ss cs) (clauses_parsed cs)
    unfolding clauses_parsed clauses_loadable clauses_nodes flat_all numbered_all flat_words
    clauses-fine [] no_clauses h = (tt, refl)
    clauses-fine (c ∷ cs) (clause_stands j k) h =
        fine-both (is_loadable ss (term_of c.head) && body_loadable ss c.body) (clauses_loadable ss cs) (clause_nodes ss c) (clauses_nodes ss cs) (clause_parsed c) (clauses_parsed cs)
        (clause-fine c j (left-of (clause_parsed c) (clauses_parsed cs) h)) (clauses-fine cs k (right-of (clause_parsed c) (clauses_parsed cs) h))
