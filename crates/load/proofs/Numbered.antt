-- Laws of numbering copied nodes, one for each way out of the functions. Assumes nothing.
use Prim.Native.Nat.{ℕ, suc, ◌+◌, ◌≤◌, ◌<◌}
use native.Mathlib.Omega.{arith}
use mathlib.Core.Path.{◌≡◌, refl, sym, ap, ◌∙◌, subst}
use mathlib.Core.Bool.{Bool, false, cond, ◌||◌}
use mathlib.Core.List.{List, [], ◌∷◌, ◌++◌, append_assoc, append-nil}
use mathlib.Core.Logic.{◌⊎◌, inl, inr}
use lib.Dec.{T}
use lib.ListN.{length, get_or, set, length-set}
use lib.Seq.{get_or-set_other, set-get_or}
use borrow.Author.Tests.{lt-ltb, le-ltb}
use Rattle.syntax.specs.Words.{first_name}
use Rattle.run_layout.specs.Regions.{nodes_words}
use Rattle.machine.proofs.Tests.{or_right}
use Rattle.words.specs.Tables.{WordsAt}
use Rattle.run_layout.specs.Nodes.{Symbol, symbol_of, is_listed}
use Rattle.load.specs.Flat.{Flat, flat_words, flat_symbol, flat_arity, put_all}
use Rattle.load.specs.Symbols.{word_name, symbols_of, SymbolsListed}
use Rattle.load.specs.Interning.{with_symbol, SymbolCount, Interned}
use Rattle.load.specs.Listing.{with_node, with_all, numbered_what, numbered_all, NodeInside, AllInside, Copied, NodeNumbered, NodesNumbered}
use Rattle.load.proofs.NodesWriting.{written-nil, written-two}
use Rattle.load.proofs.Finding.{decide, below_or, listed-append, listed-one, self-symbol, symbol-stays}
use Rattle.load.proofs.InterningLaws.{with-old, with-new}

module _ (sheet goal : List ℕ) where
  -- ---- one node

  abbrev with-choice : List Symbol → ℕ → Bool → List Symbol
  with-choice ss v b = cond b ss (with_symbol ss (word_name sheet goal (flat_symbol v)) (flat_arity v))

  pub with_variable : (ss : List Symbol) (v : ℕ) → v < first_name → with_node sheet goal ss v ≡ ss
  unfolding with_node
  with_variable ss v l = ap (with-choice ss v) (lt-ltb v first_name l)

  pub with-name : (ss : List Symbol) (v : ℕ) → first_name ≤ v → with_node sheet goal ss v ≡ with_symbol ss (word_name sheet goal (flat_symbol v)) (flat_arity v)
  unfolding with_node
  with-name ss v l = ap (with-choice ss v) (le-ltb v first_name l)

  abbrev number-choice : List Symbol → ℕ → Bool → ℕ
  number-choice ss v b = cond b v (first_name + symbol_of ss (word_name sheet goal (flat_symbol v)) (flat_arity v))

  pub number-variable : (ss : List Symbol) (v : ℕ) → v < first_name → numbered_what sheet goal ss v ≡ v
  unfolding numbered_what
  number-variable ss v l = ap (number-choice ss v) (lt-ltb v first_name l)

  pub number-name : (ss : List Symbol) (v : ℕ) → first_name ≤ v → numbered_what sheet goal ss v ≡ first_name + symbol_of ss (word_name sheet goal (flat_symbol v)) (flat_arity v)
  unfolding numbered_what
  number-name ss v l = ap (number-choice ss v) (le-ltb v first_name l)

  -- ---- the symbols only grow

  with-symbol-more : (ss : List Symbol) (f : List ℕ) (n : ℕ) → (more : List Symbol) × (with_symbol ss f n ≡ ss ++ more)
  with-symbol-more ss f n = go (decide (is_listed ss f n))
    where
      go : T (is_listed ss f n) ⊎ (is_listed ss f n ≡ false) → (more : List Symbol) × (with_symbol ss f n ≡ ss ++ more)
      go (inl h) = ([], with-old ss f n h ∙ sym (append-nil ss))
      go (inr e) = (record { name = f; arguments = n } ∷ [], with-new ss f n e)

  with-node-more : (ss : List Symbol) (v : ℕ) → (more : List Symbol) × (with_node sheet goal ss v ≡ ss ++ more)
  with-node-more ss v = go (below_or v first_name)
    where
      go : (v < first_name) ⊎ (first_name ≤ v) → (more : List Symbol) × (with_node sheet goal ss v ≡ ss ++ more)
      go (inl l) = ([], with_variable ss v l ∙ sym (append-nil ss))
      go (inr l) = ((with-symbol-more ss (word_name sheet goal (flat_symbol v)) (flat_arity v)).0, with-name ss v l ∙ (with-symbol-more ss (word_name sheet goal (flat_symbol v)) (flat_arity v)).1)

  pub with-all-more : (ss : List Symbol) (xs : List Flat) → (more : List Symbol) × (with_all sheet goal ss xs ≡ ss ++ more)
  unfolding with_all
  with-all-more ss [] = ([], sym (append-nil ss))
  with-all-more ss (x ∷ xs) =
      let a : (more : List Symbol) × (with_node sheet goal ss x.what ≡ ss ++ more) = with-node-more ss x.what in
      let b : (more : List Symbol) × (with_all sheet goal (with_node sheet goal ss x.what) xs ≡ with_node sheet goal ss x.what ++ more) = with-all-more (with_node sheet goal ss x.what) xs in
      (a.0 ++ b.0, b.1 ∙ (ap (λ (l : List Symbol). l ++ b.0) a.1 ∙ append_assoc ss a.0 b.0))

  symbol-listed : (ss : List Symbol) (f : List ℕ) (n : ℕ) → T (is_listed (with_symbol ss f n) f n)
  symbol-listed ss f n = go (decide (is_listed ss f n))
    where
      go : T (is_listed ss f n) ⊎ (is_listed ss f n ≡ false) → T (is_listed (with_symbol ss f n) f n)
      go (inl h) = subst (λ (l : List Symbol). T (is_listed l f n)) (sym (with-old ss f n h)) h
      go (inr e) =
          subst (λ (l : List Symbol). T (is_listed l f n)) (sym (with-new ss f n e))
          (subst T (sym (listed-append ss (record { name = f; arguments = n } ∷ []) f n))
          (or_right (is_listed ss f n) (is_listed (record { name = f; arguments = n } ∷ []) f n)
          (subst T (sym (listed-one (record { name = f; arguments = n }) f n ∙ ap (λ (b : Bool). b || false) (self-symbol f n))) tt)))

  pub name-listed : (ss : List Symbol) (v : ℕ) → first_name ≤ v → T (is_listed (with_node sheet goal ss v) (word_name sheet goal (flat_symbol v)) (flat_arity v))
  name-listed ss v l =
      subst (λ (k : List Symbol). T (is_listed k (word_name sheet goal (flat_symbol v)) (flat_arity v))) (sym (with-name ss v l))
      (symbol-listed ss (word_name sheet goal (flat_symbol v)) (flat_arity v))

  number-stays : (ss : List Symbol) (xs : List Flat) (v : ℕ) → numbered_what sheet goal (with_all sheet goal (with_node sheet goal ss v) xs) v ≡ numbered_what sheet goal (with_node sheet goal ss v) v
  number-stays ss xs v = go (below_or v first_name)
    where
      go : (v < first_name) ⊎ (first_name ≤ v) → numbered_what sheet goal (with_all sheet goal (with_node sheet goal ss v) xs) v ≡ numbered_what sheet goal (with_node sheet goal ss v) v
      go (inl l) = number-variable (with_all sheet goal (with_node sheet goal ss v) xs) v l ∙ sym (number-variable (with_node sheet goal ss v) v l)
      go (inr l) =
          number-name (with_all sheet goal (with_node sheet goal ss v) xs) v l
          ∙ (ap (λ (k : List Symbol). first_name + symbol_of k (word_name sheet goal (flat_symbol v)) (flat_arity v)) (with-all-more (with_node sheet goal ss v) xs).1
          ∙ (ap (λ (k : ℕ). first_name + k) (symbol-stays (with_node sheet goal ss v) (with-all-more (with_node sheet goal ss v) xs).0 (word_name sheet goal (flat_symbol v)) (flat_arity v) (name-listed ss v l))
          ∙ sym (number-name (with_node sheet goal ss v) v l)))

  -- ---- a node's turn

  pub node-variable : (nodes : List ℕ) (p : ℕ) (symbols : List ℕ) (count : ℕ) → get_or nodes p 0 < first_name → SymbolsListed sheet goal symbols count → NodeNumbered sheet goal nodes p symbols count nodes symbols count
  node-variable nodes p symbols count l h =
      let same : with_node sheet goal (symbols_of sheet goal symbols count) (get_or nodes p 0) ≡ symbols_of sheet goal symbols count = with_variable (symbols_of sheet goal symbols count) (get_or nodes p 0) l in
      let is : numbered_what sheet goal (with_node sheet goal (symbols_of sheet goal symbols count) (get_or nodes p 0)) (get_or nodes p 0) ≡ get_or nodes p 0 = number-variable (with_node sheet goal (symbols_of sheet goal symbols count) (get_or nodes p 0)) (get_or nodes p 0) l in
      record {
        nodes_are = sym (ap (set nodes p) is ∙ set-get_or nodes p 0);
        symbols_are = sym same;
        listed = h;
        few = omega arith;
      }

  pub node-name : (nodes : List ℕ) (p : ℕ) (symbols : List ℕ) (count k r : ℕ) (after : List ℕ) → first_name ≤ get_or nodes p 0
      → Interned sheet goal symbols count (flat_symbol (get_or nodes p 0)) (flat_arity (get_or nodes p 0)) after k → SymbolCount count k r
      → NodeNumbered sheet goal nodes p symbols count (set nodes p (k + first_name)) after r
  node-name nodes p symbols count k r after l i c =
      let same : with_node sheet goal (symbols_of sheet goal symbols count) (get_or nodes p 0) ≡ with_symbol (symbols_of sheet goal symbols count) (word_name sheet goal (flat_symbol (get_or nodes p 0))) (flat_arity (get_or nodes p 0)) = with-name (symbols_of sheet goal symbols count) (get_or nodes p 0) l in
      let n : k ≡ symbol_of (with_symbol (symbols_of sheet goal symbols count) (word_name sheet goal (flat_symbol (get_or nodes p 0))) (flat_arity (get_or nodes p 0))) (word_name sheet goal (flat_symbol (get_or nodes p 0))) (flat_arity (get_or nodes p 0)) = i.number in
      let e : k + first_name ≡ first_name + symbol_of (with_symbol (symbols_of sheet goal symbols count) (word_name sheet goal (flat_symbol (get_or nodes p 0))) (flat_arity (get_or nodes p 0))) (word_name sheet goal (flat_symbol (get_or nodes p 0))) (flat_arity (get_or nodes p 0)) = omega arith in
      record {
        nodes_are = ap (set nodes p)
            (e ∙ (ap (λ (ss : List Symbol). first_name + symbol_of ss (word_name sheet goal (flat_symbol (get_or nodes p 0))) (flat_arity (get_or nodes p 0))) (sym same)
            ∙ sym (number-name (with_node sheet goal (symbols_of sheet goal symbols count) (get_or nodes p 0)) (get_or nodes p 0) l)));
        symbols_are = i.symbols_are r c ∙ sym same;
        listed = i.listed r c;
        few = few-by (below_or k count);
      }
    where
      few-by : (k < count) ⊎ (count ≤ k) → r ≤ count + 1
      few-by (inl m) = let z : r ≡ count = c.old m in omega arith
      few-by (inr m) = let z : r ≡ count + 1 = c.new m in omega arith

  -- ---- the loop

  -- What is left of the nodes, numbered by the symbols of all, gives the whole.
  pub record Numbering (flats : List Flat) (before nodes : List ℕ) (stop p : ℕ) (ss : List Symbol) : Type 0 where
    pub rest : List Flat
    pub has : WordsAt nodes p (flat_words rest)
    pub ends : stop ≡ p + length (flat_words rest)
    pub inside : AllInside sheet goal rest
    pub all : with_all sheet goal ss rest ≡ with_all sheet goal [] flats
    pub same : put_all nodes p (flat_words (numbered_all sheet goal (with_all sheet goal [] flats) rest)) ≡ put_all before 0 (flat_words (numbered_all sheet goal (with_all sheet goal [] flats) flats))

  pub none-listed : (symbols : List ℕ) → nodes_words ≤ length symbols → SymbolsListed sheet goal symbols 0
  none-listed symbols l = record { room = omega arith; inside = λ k z. absurd (let y : k < 0 = z in omega arith) }

  pub number-begin : (nodes symbols : List ℕ) (stop : ℕ) (w : Copied sheet goal nodes stop) → Numbering w.flats nodes nodes stop 0 (symbols_of sheet goal symbols 0)
  unfolding symbols_of
  number-begin nodes symbols stop w = record {
    rest = w.flats;
    has = w.has;
    ends = (let e : stop ≡ length (flat_words w.flats) = w.ends in let z : stop ≡ 0 + length (flat_words w.flats) = omega arith in z);
    inside = w.inside;
    all = refl;
    same = refl;
  }

  pub record NumberTurn (flats : List Flat) (before nodes : List ℕ) (stop p : ℕ) (ss : List Symbol) : Type 0 where
    pub room : p + 2 ≤ length nodes
    pub within : p + 2 ≤ stop
    pub inside : NodeInside sheet goal (get_or nodes p 0)
    pub on : (after : List ℕ) (us : List Symbol) → after ≡ set nodes p (numbered_what sheet goal (with_node sheet goal ss (get_or nodes p 0)) (get_or nodes p 0)) → us ≡ with_node sheet goal ss (get_or nodes p 0)
        → Numbering flats before after stop (p + 2) us

has-frame : (nodes : List ℕ) (p u q : ℕ) (ws : List ℕ) → p < q → WordsAt nodes q ws → WordsAt (set nodes p u) q ws
has-frame nodes p u q [] l h = tt
has-frame nodes p u q (w ∷ ws) l h = (
  subst (λ (k : ℕ). q < k) (sym (length-set nodes p u)) h.0,
  get_or-set_other nodes p q u 0 (λ e. let z : q ≡ p = e in omega arith) ∙ h.1,
  has-frame nodes p u (q + 1) ws (omega arith) h.2,
)

written-number : (nodes : List ℕ) (p u size : ℕ) (ws : List ℕ) → get_or nodes (p + 1) 0 ≡ size → put_all (set nodes p u) (p + 2) ws ≡ put_all nodes p (u ∷ size ∷ ws)
written-number nodes p u size ws e =
    let other : get_or (set nodes p u) (p + 1) 0 ≡ size = get_or-set_other nodes p (p + 1) u 0 (λ q. let z : p + 1 ≡ p = q in omega arith) ∙ e in
    ap (λ (l : List ℕ). put_all l (p + 2) ws) (sym (ap (set (set nodes p u) (p + 1)) (sym other) ∙ set-get_or (set nodes p u) (p + 1) 0))
    ∙ written-two nodes p u size ws

module _ (sheet goal : List ℕ) (flats : List Flat) (before nodes : List ℕ) (stop p : ℕ) (ss : List Symbol) where
  abbrev whole : List Symbol
  whole = with_all sheet goal [] flats

  turn_by : (rest : List Flat) → WordsAt nodes p (flat_words rest) → stop ≡ p + length (flat_words rest) → AllInside sheet goal rest → with_all sheet goal ss rest ≡ whole
      → put_all nodes p (flat_words (numbered_all sheet goal whole rest)) ≡ put_all before 0 (flat_words (numbered_all sheet goal whole flats))
      → p < stop → NumberTurn sheet goal flats before nodes stop p ss
  unfolding flat_words numbered_all with_all
  turn_by [] h e i a s l = absurd (let z : stop ≡ p + 0 = e in omega arith)
  turn_by (x ∷ xs) h e i a s l =
      let v : get_or nodes p 0 ≡ x.what = h.1 in
      let size : get_or nodes (p + 1) 0 ≡ x.size = h.2.1 in
      let far : p + 1 < length nodes = h.2.0 in
      let ends : stop ≡ p + suc (suc (length (flat_words xs))) = e in
      let two : (p + 1) + 1 ≡ p + 2 = omega arith in
      let more : WordsAt nodes (p + 2) (flat_words xs) = subst (λ (k : ℕ). WordsAt nodes k (flat_words xs)) two h.2.2 in
      record {
        room = omega arith;
        within = omega arith;
        inside = subst (NodeInside sheet goal) (sym v) i.0;
        on = λ after us ea eu.
            let all : with_all sheet goal us xs ≡ whole = ap (λ (k : List Symbol). with_all sheet goal k xs) (eu ∙ ap (with_node sheet goal ss) v) ∙ a in
            let word : numbered_what sheet goal (with_node sheet goal ss (get_or nodes p 0)) (get_or nodes p 0) ≡ numbered_what sheet goal whole x.what =
            ap (λ (k : ℕ). numbered_what sheet goal (with_node sheet goal ss k) k) v
            ∙ (sym (number-stays sheet goal ss xs x.what) ∙ ap (λ (k : List Symbol). numbered_what sheet goal k x.what) a) in
            record {
              rest = xs;
              has = subst (λ (l : List ℕ). WordsAt l (p + 2) (flat_words xs)) (sym ea) (has-frame nodes p (numbered_what sheet goal (with_node sheet goal ss (get_or nodes p 0)) (get_or nodes p 0)) (p + 2) (flat_words xs) (omega arith) more);
              ends = (let z : stop ≡ (p + 2) + length (flat_words xs) = omega arith in z);
              inside = i.1;
              all = all;
              same = ap (λ (l : List ℕ). put_all l (p + 2) (flat_words (numbered_all sheet goal whole xs))) ea
                  ∙ (written-number nodes p (numbered_what sheet goal (with_node sheet goal ss (get_or nodes p 0)) (get_or nodes p 0)) x.size (flat_words (numbered_all sheet goal whole xs)) size
                  ∙ (ap (λ (k : ℕ). put_all nodes p (k ∷ x.size ∷ flat_words (numbered_all sheet goal whole xs))) word ∙ s));
            };
      }

  pub number-turn : p < stop → Numbering sheet goal flats before nodes stop p ss → NumberTurn sheet goal flats before nodes stop p ss
  number-turn l n = turn_by n.rest n.has n.ends n.inside n.all n.same l

  end-by : (rest : List Flat) → stop ≡ p + length (flat_words rest) → with_all sheet goal ss rest ≡ whole
      → put_all nodes p (flat_words (numbered_all sheet goal whole rest)) ≡ put_all before 0 (flat_words (numbered_all sheet goal whole flats))
      → stop ≤ p → (nodes ≡ put_all before 0 (flat_words (numbered_all sheet goal whole flats))) × (ss ≡ whole)
  unfolding flat_words numbered_all with_all
  end-by [] e a s l = (sym (written-nil nodes p) ∙ s, a)
  end-by (x ∷ xs) e a s l = absurd (let z : stop ≡ p + suc (suc (length (flat_words xs))) = e in omega arith)

  pub number-end : (symbols : List ℕ) (count : ℕ) → ss ≡ symbols_of sheet goal symbols count → stop ≤ p → Numbering sheet goal flats before nodes stop p ss → SymbolsListed sheet goal symbols count
      → NodesNumbered sheet goal flats before nodes symbols count
  number-end symbols count e l n h =
      let r : (nodes ≡ put_all before 0 (flat_words (numbered_all sheet goal whole flats))) × (ss ≡ whole) = end-by n.rest n.ends n.all n.same l in
      record { nodes_are = r.0; symbols_are = sym e ∙ r.1; listed = h }
