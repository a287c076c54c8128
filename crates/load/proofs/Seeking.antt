-- Laws of the search for clauses: it finds what it seeks, and by first words it finds the clauses of a predicate. Assumes nothing.
use Prim.Native.Nat.{ℕ, zero, suc, ◌+◌, ◌-◌, ◌≤◌, ◌<◌}
use native.Mathlib.Numerals.{add-one}
use native.Mathlib.Omega.{arith}
use mathlib.Core.Path.{◌≡◌, refl, sym, ap, ap₂, ◌∙◌, subst}
use mathlib.Core.Bool.{Bool, true, false}
use mathlib.Core.List.{List, [], ◌∷◌}
use mathlib.Core.Option.{some}
use Rattle.std.specs.Prelude.{Option, None, Some, MatchOption, unwrap_or}
use lib.Dec.{T, eqb, eqb→eq, eqb_refl}
use lib.ListN.{length, get_or, drop, length-drop}
use Rattle.syntax.specs.Words.{first_name}
use Rattle.syntax.specs.Terms.{arity, Atom, term_of, same_name, same_predicate, Clause}
use Rattle.run_layout.specs.Regions.{code_words}
use Rattle.machine.specs.Machine.{is_for, first_for, next_for, nth_clause}
use Rattle.machine.proofs.Tests.{both, and, name-eq, name-refl, some-eq, some-none}
use Rattle.words.specs.Tables.{WordsAt}
use Rattle.run_layout.specs.Nodes.{Symbol, symbol_of, is_listed, name_of_symbol, loaded_words, is_loadable, are_loadable, TermLoaded}
use Rattle.run_layout.specs.Program.{head_at}
use Rattle.run_layout.proofs.Nodes.{name_of, arguments-of}
use Rattle.load.specs.declared.next_clauses.Heads.{Heads}
use Rattle.load.specs.Search.{sought, HeadsPlaced, HeadsLoaded, Meant, Headed}

-- ---- the loop

abbrev choice : List ℕ → List ℕ → ℕ → ℕ → ℕ → Bool → ℕ
choice nodes code word j n b = elim b [ true ↦ j | false ↦ sought nodes code word (j + 1) n ]

bool_eq : (a b : Bool) → (T a → T b) → (T b → T a) → a ≡ b
bool_eq true true f g = refl
bool_eq true false f g = absurd (f tt)
bool_eq false true f g = absurd (g tt)
bool_eq false false f g = refl

eqb_same : (m n : ℕ) → m ≡ n → eqb m n ≡ true
eqb_same m n e = bool_eq (eqb m n) true (λ t. tt) (λ t. subst (λ (k : ℕ). T (eqb m k)) e (eqb_refl m))

eqb-other : (m n : ℕ) → (m ≡ n → ⊥) → eqb m n ≡ false
eqb-other m n d = bool_eq (eqb m n) false (λ t. absurd (d (eqb→eq m n t))) (λ t. absurd t)

module _ (nodes code : List ℕ) (word : ℕ) where
  hit : (j n : ℕ) → get_or nodes (head_at code j) 0 ≡ word → sought nodes code word j (suc n) ≡ j
  unfolding sought
  hit j n e = ap (choice nodes code word j n) (eqb_same (get_or nodes (head_at code j) 0) word e)

  miss : (j n : ℕ) → (get_or nodes (head_at code j) 0 ≡ word → ⊥) → sought nodes code word j (suc n) ≡ sought nodes code word (j + 1) n
  unfolding sought
  miss j n d = ap (choice nodes code word j n) (eqb-other (get_or nodes (head_at code j) 0) word d)

  abbrev Miss : ℕ → Type 0
  Miss j = get_or nodes (head_at code j) 0 ≡ word → ⊥

  skip : (n m j : ℕ) → ((i : ℕ) → j ≤ i → i < j + n → Miss i) → sought nodes code word j (n + m) ≡ sought nodes code word (j + n) m
  skip zero m j d = ap₂ (sought nodes code word) (let e : j ≡ j + 0 = omega arith in e) (let e : 0 + m ≡ m = omega arith in e)
  skip (suc n) m j d =
      ap (sought nodes code word j) (let e : suc n + m ≡ suc (n + m) = omega arith in e) ∙ (miss j (n + m) (d j (omega arith) (omega arith))
      ∙ (skip n m (j + 1) (λ i a b. d i (omega arith) (omega arith)) ∙ ap (λ (i : ℕ). sought nodes code word i m) (let e : j + 1 + n ≡ j + suc n = omega arith in e)))

  -- what `find` over the numbers of the clauses gives is what the search gives
  pub seek-first : (k clauses : ℕ) → k ≤ clauses → (r : Option ℕ)
      → MatchOption r ((i : ℕ) → k + 1 ≤ i → i < clauses + 1 → get_or nodes (head_at code i) 0 ≡ word → ⊥)
      (λ j. (k + 1 ≤ j) × (j < clauses + 1) × (get_or nodes (head_at code j) 0 ≡ word) × ((i : ℕ) → k + 1 ≤ i → i < j → get_or nodes (head_at code i) 0 ≡ word → ⊥))
      → unwrap_or r 0 ≡ sought nodes code word (k + 1) (clauses - k)
  unfolding sought
  seek-first k clauses l None d =
      sym (ap (sought nodes code word (k + 1)) (let e : clauses - k ≡ clauses - k + 0 = omega arith in e) ∙ skip (clauses - k) 0 (k + 1) (λ i a b. d i a (omega arith)))
  seek-first k clauses l (Some j) d =
      let low : k + 1 ≤ j = d.0 in
      let high : j < clauses + 1 = d.1 in
      sym (ap (sought nodes code word (k + 1)) (let e : clauses - k ≡ j - (k + 1) + suc (clauses - j) = omega arith in e)
      ∙ (skip (j - (k + 1)) (suc (clauses - j)) (k + 1) (λ i a b. d.3 i a (omega arith))
      ∙ (ap (λ (i : ℕ). sought nodes code word i (suc (clauses - j))) (let e : k + 1 + (j - (k + 1)) ≡ j = omega arith in e) ∙ hit j (clauses - j) d.2)))

-- ---- predicates by words

-- two listed names have the same number exactly if they are the same predicate
same-symbol : (ss : List Symbol) (f g : List ℕ) (n m : ℕ) → T (is_listed ss f n) → T (is_listed ss g m)
    → eqb (first_name + symbol_of ss f n) (first_name + symbol_of ss g m) ≡ same_predicate f n g m
same-symbol ss f g n m h k =
    bool_eq (eqb (first_name + symbol_of ss f n) (first_name + symbol_of ss g m)) (same_predicate f n g m)
    (λ t.
    let z : first_name + symbol_of ss f n ≡ first_name + symbol_of ss g m = eqb→eq (first_name + symbol_of ss f n) (first_name + symbol_of ss g m) t in
    let y : symbol_of ss f n ≡ symbol_of ss g m = omega arith in
    let arities : n ≡ m = arguments-of ss f g n m h k y in
    let names : f ≡ g = sym (name_of ss f n h) ∙ (ap (name_of_symbol ss) y ∙ name_of ss g m k) in
    and (eqb n m) (same_name f g) (subst (λ (i : ℕ). T (eqb n i)) arities (eqb_refl n)) (subst (λ (i : List ℕ). T (same_name f i)) names (name-refl f)))
    (λ t.
    let o : T (eqb n m) × T (same_name f g) = both (eqb n m) (same_name f g) t in
    let arities : n ≡ m = eqb→eq n m o.0 in
    let names : f ≡ g = name-eq f g o.1 in
    subst (λ (i : ℕ). T (eqb (first_name + symbol_of ss f n) i)) (ap (λ (i : ℕ). first_name + i) (ap₂ (symbol_of ss) names arities)) (eqb_refl (first_name + symbol_of ss f n)))

-- the first word of an atom's node
abbrev pub word_of : List Symbol → Atom → ℕ
word_of ss a = first_name + symbol_of ss a.name (arity a.args)

abbrev pub Listed : List Symbol → Atom → Type 0
Listed ss a = T (is_listed ss a.name (arity a.args))

pub atom-word : (ss : List Symbol) (nodes : List ℕ) (p : ℕ) (a : Atom) → WordsAt nodes p (loaded_words ss (term_of a)) → (p < length nodes) × (get_or nodes p 0 ≡ word_of ss a)
unfolding loaded_words
atom-word ss nodes p a h = (h.0, h.1)

pub atom-listed : (ss : List Symbol) (a : Atom) → T (is_loadable ss (term_of a)) → Listed ss a
unfolding is_loadable
atom-listed ss a t = (both (is_listed ss a.name (arity a.args)) (are_loadable ss a.args) t).0

module _ (ss : List Symbol) (nodes code : List ℕ) where
  pub sought-is : (a : Atom) → Listed ss a → (j : ℕ) (cls : List Clause) → HeadsLoaded ss nodes code j cls → sought nodes code (word_of ss a) j (length cls) ≡ first_for a j cls
  unfolding sought first_for
  sought-is a k j [] h = refl
  sought-is a k j (cl ∷ cls) h =
      let w : get_or nodes (head_at code j) 0 ≡ word_of ss cl.head = (atom-word ss nodes (head_at code j) cl.head h.0.words).1 in
      let e : eqb (get_or nodes (head_at code j) 0) (word_of ss a) ≡ is_for a cl = ap (λ (i : ℕ). eqb i (word_of ss a)) w ∙ same-symbol ss cl.head.name a.name (arity cl.head.args) (arity a.args) (atom-listed ss cl.head h.0.loadable) k in
      let ih : sought nodes code (word_of ss a) (j + 1) (length cls) ≡ first_for a (suc j) cls = sought-is a k (j + 1) cls h.1 ∙ ap (λ (i : ℕ). first_for a i cls) (add-one j) in
      ap₂ (λ (b : Bool) (r : ℕ). elim b [ true ↦ j | false ↦ r ]) e ih

  pub heads-drop : (n j : ℕ) (cls : List Clause) → HeadsLoaded ss nodes code j cls → HeadsLoaded ss nodes code (j + n) (drop n cls)
  heads-drop zero j cls h = subst (λ (i : ℕ). HeadsLoaded ss nodes code i cls) (let e : j ≡ j + 0 = omega arith in e) h
  heads-drop (suc n) j [] h = tt
  heads-drop (suc n) j (cl ∷ cls) h = subst (λ (i : ℕ). HeadsLoaded ss nodes code i (drop n cls)) (let e : j + 1 + n ≡ j + suc n = omega arith in e) (heads-drop n (j + 1) cls h.1)

  pub heads-inside : (n j : ℕ) (cls : List Clause) → n < length cls → HeadsLoaded ss nodes code j cls → head_at code (j + n) < length nodes
  heads-inside n j [] l h = absurd (let z : n < 0 = l in omega arith)
  heads-inside zero j (cl ∷ cls) l h =
      subst (λ (i : ℕ). head_at code i < length nodes) (let e : j ≡ j + 0 = omega arith in e) (atom-word ss nodes (head_at code j) cl.head h.0.words).0
  heads-inside (suc n) j (cl ∷ cls) l h =
      subst (λ (i : ℕ). head_at code i < length nodes) (let e : j + 1 + n ≡ j + suc n = omega arith in e) (heads-inside n (j + 1) cls (let z : suc n < suc (length cls) = l in omega arith) h.1)

  pub heads-at : (n j : ℕ) (cls : List Clause) (cl : Clause) → nth_clause cls n ≡ some cl → HeadsLoaded ss nodes code j cls → TermLoaded ss nodes (head_at code (j + n)) (term_of cl.head)
  unfolding nth_clause
  heads-at n j [] cl e h = absurd (some-none cl (sym e))
  heads-at zero j (c ∷ cls) cl e h =
      subst (λ (x : Clause). TermLoaded ss nodes (head_at code (j + 0)) (term_of x.head)) (some-eq c cl e)
      (subst (λ (i : ℕ). TermLoaded ss nodes (head_at code i) (term_of c.head)) (let q : j ≡ j + 0 = omega arith in q) h.0)
  heads-at (suc n) j (c ∷ cls) cl e h =
      subst (λ (i : ℕ). TermLoaded ss nodes (head_at code i) (term_of cl.head)) (let q : j + 1 + n ≡ j + suc n = omega arith in q) (heads-at n (j + 1) cls cl e h.1)

-- ---- as the code asks

module _ {m : Meant} {h : Heads} {code : List ℕ} (w : Headed m h code) where
  pub searchable : HeadsPlaced h.nodes.now code h.clauses
  searchable =
      let e : h.clauses ≡ length m.sh.clauses = w.count in
      let r : code_words ≤ length code = w.room in
      record {
        few = w.few;
        long = omega arith;
        inside = λ j a b. subst (λ (i : ℕ). head_at code i < length h.nodes.now) (let q : 1 + (j - 1) ≡ j = omega arith in q) (heads-inside m.ss h.nodes.now code (j - 1) 1 m.sh.clauses (let z : j - 1 < length m.sh.clauses = omega arith in z) w.heads);
      }

  -- the search finds the next clause of the atom's predicate
  pub next_is : (a : Atom) → Listed m.ss a → (word k r : ℕ) → word ≡ word_of m.ss a → r ≡ sought h.nodes.now code word (k + 1) (h.clauses - k) → r ≡ next_for m.sh a k
  unfolding next_for
  next_is a l word k r e s =
      let many : h.clauses - k ≡ length (drop k m.sh.clauses) = sym (length-drop k m.sh.clauses ∙ ap (λ (i : ℕ). i - k) (sym w.count)) in
      let z : sought h.nodes.now code (word_of m.ss a) (1 + k) (length (drop k m.sh.clauses)) ≡ first_for a (1 + k) (drop k m.sh.clauses) = sought-is m.ss h.nodes.now code a l (1 + k) (drop k m.sh.clauses) (heads-drop m.ss h.nodes.now code k 1 m.sh.clauses w.heads) in
      s ∙ (ap (λ (i : ℕ). sought h.nodes.now code i (k + 1) (h.clauses - k)) e
      ∙ (ap₂ (λ (i n : ℕ). sought h.nodes.now code (word_of m.ss a) i n) (let q : k + 1 ≡ 1 + k = omega arith in q) many
      ∙ (z ∙ ap (λ (i : ℕ). first_for a i (drop k m.sh.clauses)) (let q : 1 + k ≡ suc k = omega arith in q))))
