-- Laws of the walk: what a row, a name and an unbound variable leave to spell. Assumes nothing.
use Prim.Native.Nat.{ℕ, zero, suc, max, ◌+◌, ◌-◌, ◌*◌, ◌%◌, ◌≤◌, ◌<◌, ◌^◌}
use native.Mathlib.Numerals.{add-one}
use native.Mathlib.Omega.{arith}
use mathlib.Core.Path.{◌≡◌, refl, sym, ap, ap₂, ◌∙◌, subst}
use mathlib.Core.Bool.{Bool, true, false, ◌||◌, true≢false}
use mathlib.Core.List.{List, [], ◌∷◌, ◌++◌, append_assoc}
use lib.Dec.{T, eqb, ltb→lt}
use lib.ListN.{length, get_or, set, length-set, length-append}
use lib.Seq.{get_or-set_same, get_or-set_other}
use borrow.Author.Tests.{eqb-true, eqb-false, eq-eqb, ne_eqb}
use Rattle.syntax.specs.Words.{first_name}
use Rattle.run_layout.specs.Regions.{copies, copy_cells, places, deepest, open_size, loaded_node}
use Rattle.syntax.specs.Terms.{Term, variable, compound, arity}
use Rattle.words.specs.Buffers.{Appended}
use Rattle.words.proofs.BuffersLaws.{then, nothing}
use Rattle.machine.specs.Substitution.{Variable, RTerm, RTerms, var, app, rnil, rcons, Binding, resolve}
use Rattle.machine.specs.Answers.{Piece, byte, unbound, bytes_then, spelt, spelt_args, spelt_more, bytes_of}
use Rattle.machine_theorems.proofs.Terms.{resolve_all, resolve-app, resolve-nil, resolve-cons}
use Rattle.machine.proofs.Tests.{both}
use Rattle.run_layout.specs.Nodes.{Symbol, is_symbol, symbol_of, is_listed, name_of_symbol, Node, TermLoaded, Row, loaded_words, is_loadable, are_loadable, term_at, terms_at}
use Rattle.run_layout.specs.State.{cell_of, variable_of}
use Rattle.run_layout.proofs.Nodes.{node-inside, node-size, node_end, variable-at, compound-row, compound-at, row-none, row_cons, row_first, row-rest, row-order}
use Rattle.run_layout.proofs.State.{variable-cell, cell-small, resolve-unbound}
use Rattle.bindings.specs.Cells.{StoredTerm, Dereferences}
use Rattle.run_layout.specs.SymbolNames.{NamePlaced, name_at}
use Rattle.answers.specs.Words.{Numbers, resolved_all, depth, depth_all, spelt_row, row_terms, left_to_spell, RowPending, Rows, row_word, end_word, new_row, moved_row, row_place, row_more, span_word, row_last, row_copy}
use Rattle.answers.specs.Telling.{bindings_of, separator_of, Written, SpeltSoFar, Ample, Counting, Heading, Setting, SomeSetting, Facing, Walk, Spelling, SpeltToLimit}
use Rattle.answers.specs.declared.Solution.{Solution}

-- ---- resolved lists and depths

resolved-all : (b : List Binding) (ts : RTerms) → resolve_all b ts ≡ resolved_all b ts
unfolding resolved_all
resolved-all b rnil = resolve-nil b
resolved-all b (rcons t ts) = resolve-cons b t ts ∙ ap (rcons (resolve b t)) (resolved-all b ts)

pub resolved-name : (b : List Binding) (f : List ℕ) (ts : RTerms) → resolve b (app f ts) ≡ app f (resolved_all b ts)
resolved-name b f ts = resolve-app b f ts ∙ ap (app f) (resolved-all b ts)

pub depth-name : (f : List ℕ) (ts : RTerms) → depth (app f ts) ≡ depth_all ts
unfolding depth
depth-name f ts = refl

pub depth-cons : (b : List Binding) (t : RTerm) (ts : RTerms) → depth_all (resolved_all b (rcons t ts)) ≡ max (suc (depth (resolve b t))) (depth_all (resolved_all b ts))
unfolding depth_all resolved_all
depth-cons b t ts = refl

-- ---- symbols

symbol-small : (ss : List Symbol) (f : List ℕ) (n : ℕ) → T (is_listed ss f n) → symbol_of ss f n < length ss
unfolding is_listed symbol_of
symbol-small [] f n h = absurd h
symbol-small (s ∷ ss) f n h = go (is_symbol f n s) refl h (symbol-small ss f n)
  where
    go : (b : Bool) → is_symbol f n s ≡ b → T (b || is_listed ss f n) → (T (is_listed ss f n) → symbol_of ss f n < length ss) → elim b [ true ↦ 0 | false ↦ suc (symbol_of ss f n) ] < suc (length ss)
    go true e k ih = omega arith
    go false e k ih = let q : symbol_of ss f n < length ss = ih k in omega arith

symbol-listed : (ss : List Symbol) (nodes : List ℕ) (p : ℕ) → Node ss nodes p → first_name ≤ get_or nodes p 0 → get_or nodes p 0 - first_name < length ss
unfolding loaded_words is_loadable
symbol-listed ss nodes p n h = go n.0 n.1
  where
    go : (t : Term) → TermLoaded ss nodes p t → get_or nodes p 0 - first_name < length ss
    go (variable k a) s = absurd (let e : get_or nodes p 0 ≡ k = s.words.1 in let l : k < first_name = ltb→lt k first_name s.loadable in omega arith)
    go (compound a f ts) s =
        let ok : T (is_listed ss f (arity ts)) × T (are_loadable ss ts) = both (is_listed ss f (arity ts)) (are_loadable ss ts) s.loadable in
        let e : get_or nodes p 0 ≡ first_name + symbol_of ss f (arity ts) = s.words.1 in
        let l : symbol_of ss f (arity ts) < length ss = symbol-small ss f (arity ts) ok.0 in
        omega arith

-- ---- rows

-- a row laid or moved at height h
pub record Pushed (stack : List ℕ) (h v w : ℕ) (after : List ℕ) : Type 0 where
  pub long : length after ≡ length stack
  pub first : row_word after h ≡ v
  pub second : end_word after h ≡ w
  pub below : (i : ℕ) → i < h * open_size → get_or after i 0 ≡ get_or stack i 0

pub put-pushed : (stack after : List ℕ) (h v w : ℕ) → h * open_size + open_size ≤ length stack → after ≡ set (set stack (h * open_size) v) (h * open_size + 1) w → Pushed stack h v w after
put-pushed stack after h v w l e =
    let n : length (set stack (h * open_size) v) ≡ length stack = simp length-set in
    record {
      long = ap length e ∙ simp length-set;
      first = ap (λ (s : List ℕ). row_word s h) e ∙ (get_or-set_other (set stack (h * open_size) v) (h * open_size + 1) (h * open_size) w 0 (λ q. omega arith) ∙ get_or-set_same stack (h * open_size) v 0 (omega arith));
      second = ap (λ (s : List ℕ). end_word s h) e ∙ get_or-set_same (set stack (h * open_size) v) (h * open_size + 1) w 0 (omega arith);
      below = λ i k. ap (λ (s : List ℕ). get_or s i 0) e ∙ (get_or-set_other (set stack (h * open_size) v) (h * open_size + 1) i w 0 (λ q. omega arith) ∙ get_or-set_other stack (h * open_size) i v 0 (λ q. omega arith));
    }

pub move-pushed : (stack after : List ℕ) (h v : ℕ) → h * open_size + open_size ≤ length stack → after ≡ set stack (h * open_size) v → Pushed stack h v (end_word stack h) after
move-pushed stack after h v l e =
    record {
      long = ap length e ∙ simp length-set;
      first = ap (λ (s : List ℕ). row_word s h) e ∙ get_or-set_same stack (h * open_size) v 0 (omega arith);
      second = ap (λ (s : List ℕ). end_word s h) e ∙ get_or-set_other stack (h * open_size) (h * open_size + 1) v 0 (λ q. omega arith);
      below = λ i k. ap (λ (s : List ℕ). get_or s i 0) e ∙ get_or-set_other stack (h * open_size) i v 0 (λ q. omega arith);
    }

module _ (ss : List Symbol) (nodes : List ℕ) (b : List Binding) (stack after : List ℕ) where
  left-same : (h : ℕ) → ((i : ℕ) → i < h * open_size → get_or after i 0 ≡ get_or stack i 0) → (rest : List Piece) → left_to_spell ss nodes b after h rest ≡ left_to_spell ss nodes b stack h rest
  unfolding left_to_spell
  left-same zero z rest = refl
  left-same (suc h) z rest =
      let v : row_word after h ≡ row_word stack h = z (h * open_size) (omega arith) in
      let w : end_word after h ≡ end_word stack h = z (h * open_size + 1) (omega arith) in
      let r : left_to_spell ss nodes b after h rest ≡ left_to_spell ss nodes b stack h rest = left-same h (λ i l. z i (omega arith)) rest in
      rw (v, w, r)

  pub left-pushed : (h v w : ℕ) → Pushed stack h v w after → (rest : List Piece)
      → left_to_spell ss nodes b after (suc h) rest ≡ spelt_row (row_more v) (resolved_all b (row_terms ss nodes v w)) (left_to_spell ss nodes b stack h rest)
  unfolding left_to_spell
  left-pushed h v w p rest = let r : left_to_spell ss nodes b after h rest ≡ left_to_spell ss nodes b stack h rest = left-same h p.below rest in rw (p.first, p.second, r)

  pub rows_pushed : (h v w : ℕ) → Rows ss nodes b stack h → Pushed stack h v w after → h * open_size + open_size ≤ length stack → RowPending ss nodes b h v w → Rows ss nodes b after (suc h)
  rows_pushed h v w r p l s = record { high = (let e : length after ≡ length stack = p.long in omega arith); each = λ i k. go i k (eqb i h) refl }
    where
      go : (i : ℕ) → i < suc h → (d : Bool) → eqb i h ≡ d → RowPending ss nodes b i (row_word after i) (end_word after i)
      go i k true e =
          let q : i ≡ h = eqb-true i h e in
          subst (λ (j : ℕ). RowPending ss nodes b j (row_word after j) (end_word after j)) (sym q) (rw (p.first, p.second) s)
      go i k false e =
          let d : i ≡ h → ⊥ = eqb-false i h e in
          let x : i < h = omega (arith, d) in
          let f : row_word after i ≡ row_word stack i = p.below (i * open_size) (omega arith) in
          let g : end_word after i ≡ end_word stack i = p.below (i * open_size + 1) (omega arith) in
          rw (f, g) (r.each i x)

-- ---- bytes of pieces

bytes-byte : (met : List Variable) (a : ℕ) (ps : List Piece) → bytes_of met (byte a ∷ ps) ≡ a ∷ bytes_of met ps
unfolding bytes_of
bytes-byte met a ps = refl

pub bytes-written : (met : List Variable) (f : List ℕ) (ps : List Piece) → bytes_of met (bytes_then f ps) ≡ f ++ bytes_of met ps
unfolding bytes_then
bytes-written met [] ps = refl
bytes-written met (a ∷ f) ps = bytes-byte met a (bytes_then f ps) ∙ ap (λ (l : List ℕ). a ∷ l) (bytes-written met f ps)

spelt-var : (v : Variable) (ps : List Piece) → spelt (var v) ps ≡ unbound v ∷ ps
unfolding spelt
spelt-var v ps = refl

spelt-name : (f : List ℕ) (ts : RTerms) (ps : List Piece) → spelt (app f ts) ps ≡ bytes_then f (spelt_args ts ps)
unfolding spelt
spelt-name f ts ps = refl

-- some bytes of the whole told
pub told-words : (met : List Variable) (ws : List ℕ) {whole : List ℕ} {from to : Written} {ps : List Piece} → Numbers to.numbers met
    → Appended from.out from.at ws to.out to.at → whole ≡ ws ++ bytes_of met ps → SpeltSoFar whole from to ps
told-words met ws n p e = record { words = ws; put = p; met = met; numbers_are = n; is = e }

-- one part of the whole after another
pub told-then : {whole : List ℕ} {from mid to : Written} {ps qs : List Piece} → (t : SpeltSoFar whole from mid ps) → SpeltSoFar (bytes_of t.met ps) mid to qs → SpeltSoFar whole from to qs
told-then t u =
    record {
      words = t.words ++ u.words;
      put = then t.put u.put;
      met = u.met;
      numbers_are = u.numbers_are;
      is = t.is ∙ (ap (λ (l : List ℕ). t.words ++ l) u.is ∙ sym (append_assoc t.words u.words (bytes_of u.met _)));
    }

pub told-whole : {whole other : List ℕ} {from to : Written} {ps : List Piece} → other ≡ whole → SpeltSoFar whole from to ps → SpeltSoFar other from to ps
told-whole e t = rw e t

pub told-rest : {whole : List ℕ} {from to : Written} {ps qs : List Piece} → ps ≡ qs → SpeltSoFar whole from to ps → SpeltSoFar whole from to qs
told-rest e t = rw e at t

-- ---- a name or an unbound variable

module _ {ss : List Symbol} {b : List Binding} {sol : Solution} {stack : List ℕ} {p c height : ℕ} (h : Heading ss b sol stack p c height) where
  pub head-inside : p + loaded_node ≤ length sol.nodes.now
  head-inside = node-inside ss sol.nodes.now p h.node

  pub head_small : p + get_or sol.nodes.now (p + 1) 0 ≤ places
  head_small = let a : p + get_or sol.nodes.now (p + 1) 0 ≤ length sol.nodes.now = node_end ss sol.nodes.now p h.node in let d : length sol.nodes.now ≤ places = h.small in omega arith

  pub head-placed : {k : ℕ} → first_name ≤ get_or sol.nodes.now p 0 → k ≡ get_or sol.nodes.now p 0 - first_name → NamePlaced sol.symbols.now sol.sheet.now sol.goal.now k
  head-placed l e = subst (λ (x : ℕ). NamePlaced sol.symbols.now sol.sheet.now sol.goal.now x) (sym e) (h.names.placed (get_or sol.nodes.now p 0 - first_name) (symbol-listed ss sol.nodes.now p h.node l))

  head-name : (k : ℕ) → first_name ≤ get_or sol.nodes.now p 0 → k ≡ get_or sol.nodes.now p 0 - first_name → name_at sol.symbols.now sol.sheet.now sol.goal.now k ≡ name_of_symbol ss (get_or sol.nodes.now p 0 - first_name)
  head-name k l e = ap (name_at sol.symbols.now sol.sheet.now sol.goal.now) e ∙ h.names.name (get_or sol.nodes.now p 0 - first_name) (symbol-listed ss sol.nodes.now p h.node l)

  args : RTerms
  args = terms_at ss sol.nodes.now (p + loaded_node) (p + get_or sol.nodes.now (p + 1) 0) c

  head-is : first_name ≤ get_or sol.nodes.now p 0 → resolve b (term_at ss sol.nodes.now p c) ≡ app (name_of_symbol ss (get_or sol.nodes.now p 0 - first_name)) (resolved_all b args)
  unfolding args
  head-is l = ap (resolve b) (compound-at ss sol.nodes.now p h.node c l) ∙ resolved-name b (name_of_symbol ss (get_or sol.nodes.now p 0 - first_name)) (terms_at ss sol.nodes.now (p + loaded_node) (p + get_or sol.nodes.now (p + 1) 0) c)

  args-shallow : first_name ≤ get_or sol.nodes.now p 0 → depth_all (resolved_all b args) + height ≤ deepest
  args-shallow l =
      let e : depth (resolve b (term_at ss sol.nodes.now p c)) ≡ depth_all (resolved_all b args) = ap depth (head-is l) ∙ depth-name (name_of_symbol ss (get_or sol.nodes.now p 0 - first_name)) (resolved_all b args) in
      let k : depth (resolve b (term_at ss sol.nodes.now p c)) + height ≤ deepest = h.shallow in
      omega arith

  opens : (get_or sol.nodes.now (p + 1) 0 ≡ loaded_node → ⊥) → p + loaded_node < p + get_or sol.nodes.now (p + 1) 0
  opens z = let a : 2 ≤ get_or sol.nodes.now (p + 1) 0 = node-size ss sol.nodes.now p h.node in omega (arith, z)

  pub head-room : first_name ≤ get_or sol.nodes.now p 0 → (get_or sol.nodes.now (p + 1) 0 ≡ loaded_node → ⊥) → height * open_size + open_size ≤ length stack
  unfolding args
  head-room l z =
      let o : p + loaded_node < p + get_or sol.nodes.now (p + 1) 0 = opens z in
      let r : Row ss sol.nodes.now (p + loaded_node) (p + get_or sol.nodes.now (p + 1) 0) = compound-row ss sol.nodes.now p h.node l in
      let e : depth_all (resolved_all b args) ≡ max (suc (depth (resolve b (term_at ss sol.nodes.now (p + loaded_node) c)))) (depth_all (resolved_all b (terms_at ss sol.nodes.now (p + loaded_node + get_or sol.nodes.now (p + loaded_node + 1) 0) (p + get_or sol.nodes.now (p + 1) 0) c))) =
      ap (λ (ts : RTerms). depth_all (resolved_all b ts)) (row_cons ss sol.nodes.now (p + loaded_node) (p + get_or sol.nodes.now (p + 1) 0) r c o)
      ∙ depth-cons b (term_at ss sol.nodes.now (p + loaded_node) c) (terms_at ss sol.nodes.now (p + loaded_node + get_or sol.nodes.now (p + loaded_node + 1) 0) (p + get_or sol.nodes.now (p + 1) 0) c) in
      let k : depth_all (resolved_all b args) + height ≤ deepest = args-shallow l in
      let a : Ample stack (height * open_size + open_size) = h.room in
      omega arith

  -- an unbound variable
  pub head-variable : (met : List Variable) {w x : ℕ} {from to : Written} {rest : List Piece} → w ≡ get_or sol.nodes.now p 0 → w < first_name → x ≡ c * copy_cells + w
      → ((ps : List Piece) → SpeltSoFar (bytes_of met (unbound (variable_of x) ∷ ps)) from to ps)
      → Spelling ss sol.nodes.now b (bytes_of met (spelt (resolve b (term_at ss sol.nodes.now p c)) (left_to_spell ss sol.nodes.now b stack height rest))) from (record { text = to; stack = stack; height = height }) rest
  head-variable met {w} {x} {rest = rest} e l q t =
      let low : get_or sol.nodes.now p 0 < first_name = omega arith in
      let cell : x ≡ cell_of c (get_or sol.nodes.now p 0) = q ∙ ap (λ (k : ℕ). c * copy_cells + k) e in
      let term : resolve b (term_at ss sol.nodes.now p c) ≡ var (variable_of x) = h.free low ∙ (variable-at ss sol.nodes.now p h.node c low ∙ (ap var (sym (variable-cell c (get_or sol.nodes.now p 0) low)) ∙ ap (λ (k : ℕ). var (variable_of k)) (sym cell))) in
      record {
        told = told-whole (ap (λ (s : RTerm). bytes_of met (spelt s (left_to_spell ss sol.nodes.now b stack height rest))) term ∙ ap (bytes_of met) (spelt-var (variable_of x) (left_to_spell ss sol.nodes.now b stack height rest))) (t (left_to_spell ss sol.nodes.now b stack height rest));
        rows = h.rows;
      }

  -- a name: its bytes, and its arguments are left
  name-told : (met : List Variable) (k : ℕ) {from to : Written} (ps : List Piece) → first_name ≤ get_or sol.nodes.now p 0 → k ≡ get_or sol.nodes.now p 0 - first_name → Numbers to.numbers met
      → Appended from.out from.at (name_at sol.symbols.now sol.sheet.now sol.goal.now k) to.out to.at → SpeltSoFar (bytes_of met (spelt (resolve b (term_at ss sol.nodes.now p c)) ps)) from to (spelt_args (resolved_all b args) ps)
  name-told met k ps l e n put =
      told-words met (name_at sol.symbols.now sol.sheet.now sol.goal.now k) n put
      (ap (λ (s : RTerm). bytes_of met (spelt s ps)) (head-is l)
      ∙ (ap (bytes_of met) (spelt-name (name_of_symbol ss (get_or sol.nodes.now p 0 - first_name)) (resolved_all b args) ps)
      ∙ (bytes-written met (name_of_symbol ss (get_or sol.nodes.now p 0 - first_name)) (spelt_args (resolved_all b args) ps)
      ∙ ap (λ (f : List ℕ). f ++ bytes_of met (spelt_args (resolved_all b args) ps)) (sym (head-name k l e)))))

  pub head-leaf : {met : List Variable} {k : ℕ} {from to : Written} {rest : List Piece} → first_name ≤ get_or sol.nodes.now p 0 → k ≡ get_or sol.nodes.now p 0 - first_name → get_or sol.nodes.now (p + 1) 0 ≡ 2 → Numbers to.numbers met
      → Appended from.out from.at (name_at sol.symbols.now sol.sheet.now sol.goal.now k) to.out to.at
      → Spelling ss sol.nodes.now b (bytes_of met (spelt (resolve b (term_at ss sol.nodes.now p c)) (left_to_spell ss sol.nodes.now b stack height rest))) from (record { text = to; stack = stack; height = height }) rest
  unfolding args resolved_all spelt_args
  head-leaf {met} {k} {rest = rest} l e z n put =
      let r : Row ss sol.nodes.now (p + loaded_node) (p + get_or sol.nodes.now (p + 1) 0) = compound-row ss sol.nodes.now p h.node l in
      let none : args ≡ rnil = row-none ss sol.nodes.now (p + loaded_node) (p + get_or sol.nodes.now (p + 1) 0) r c (omega arith) in
      record {
        told = told-rest (ap (λ (ts : RTerms). spelt_args (resolved_all b ts) (left_to_spell ss sol.nodes.now b stack height rest)) none) (name-told met k (left_to_spell ss sol.nodes.now b stack height rest) l e n put);
        rows = h.rows;
      }

  row-standing : first_name ≤ get_or sol.nodes.now p 0 → (get_or sol.nodes.now (p + 1) 0 ≡ loaded_node → ⊥) → RowPending ss sol.nodes.now b height (new_row (p + loaded_node)) (span_word (p + get_or sol.nodes.now (p + 1) 0) c)
  unfolding args
  row-standing l z =
      let x : row_place (new_row (p + loaded_node)) ≡ p + loaded_node = omega arith in
      let small : c < copies = h.copy in
      let y : row_last (span_word (p + get_or sol.nodes.now (p + 1) 0) c) ≡ p + get_or sol.nodes.now (p + 1) 0 = omega arith in
      let w : row_copy (span_word (p + get_or sol.nodes.now (p + 1) 0) c) ≡ c = omega arith in
      record { row = rw (x, y) (compound-row ss sol.nodes.now p h.node l); opened = λ q. rw (x, y) (opens z); shallow = rw (x, y, w) (args-shallow l) }

  pub head-open : {met : List Variable} {k last : ℕ} {from to : Written} {after : List ℕ} {rest : List Piece} → first_name ≤ get_or sol.nodes.now p 0 → k ≡ get_or sol.nodes.now p 0 - first_name → (get_or sol.nodes.now (p + 1) 0 ≡ loaded_node → ⊥) → Numbers to.numbers met
      → Appended from.out from.at (name_at sol.symbols.now sol.sheet.now sol.goal.now k) to.out to.at → last ≡ p + get_or sol.nodes.now (p + 1) 0 → after ≡ set (set stack (height * open_size) (new_row (p + loaded_node))) (height * open_size + 1) (span_word last c)
      → Spelling ss sol.nodes.now b (bytes_of met (spelt (resolve b (term_at ss sol.nodes.now p c)) (left_to_spell ss sol.nodes.now b stack height rest))) from (record { text = to; stack = after; height = height + 1 }) rest
  unfolding args
  head-open {met} {k} {after = after} {rest} l e z n put m s =
      let pushed : Pushed stack height (new_row (p + loaded_node)) (span_word (p + get_or sol.nodes.now (p + 1) 0) c) after = put-pushed stack after height (new_row (p + loaded_node)) (span_word (p + get_or sol.nodes.now (p + 1) 0) c) (head-room l z) (s ∙ ap (λ (j : ℕ). set (set stack (height * open_size) (new_row (p + loaded_node))) (height * open_size + 1) (span_word j c)) m) in
      let x : row_place (new_row (p + loaded_node)) ≡ p + loaded_node = omega arith in
      let x0 : row_more (new_row (p + loaded_node)) ≡ false = ne_eqb (new_row (p + loaded_node) % 2) 1 (λ e. omega arith) in
      let small : c < copies = h.copy in
      let y : row_last (span_word (p + get_or sol.nodes.now (p + 1) 0) c) ≡ p + get_or sol.nodes.now (p + 1) 0 = omega arith in
      let w : row_copy (span_word (p + get_or sol.nodes.now (p + 1) 0) c) ≡ c = omega arith in
      let rows : Rows ss sol.nodes.now b after (suc height) = rows_pushed ss sol.nodes.now b stack after height (new_row (p + loaded_node)) (span_word (p + get_or sol.nodes.now (p + 1) 0) c) h.rows pushed (head-room l z) (row-standing l z) in
      let is : left_to_spell ss sol.nodes.now b after (suc height) rest ≡ spelt_args (resolved_all b args) (left_to_spell ss sol.nodes.now b stack height rest) = left-pushed ss sol.nodes.now b stack after height (new_row (p + loaded_node)) (span_word (p + get_or sol.nodes.now (p + 1) 0) c) pushed rest ∙ rw (x, x0, y, w) in
      rw (add-one height) (record { told = told-rest (sym is) (name-told met k (left_to_spell ss sol.nodes.now b stack height rest) l e n put); rows = rows })

-- ---- a term, where it leads

module _ {ss : List Symbol} {n : ℕ} {sol : Solution} {stack : List ℕ} {p c height : ℕ} (f : Facing ss n sol stack p c height) where
  -- what `deref` asks
  abbrev pub facing-stored : StoredTerm sol.nodes.now sol.state.now p c
  facing-stored = record { ss = ss; n = n; store = f.setting.store.raw; known = true; acyclic = λ t. f.setting.store.acyclic; node = f.node; copy = f.copy }

  pub facing-head : {q d : ℕ} → Dereferences true ss sol.nodes.now sol.state.now n p c q d → Heading ss (bindings_of ss n sol) sol stack q d height
  facing-head {q} {d} l =
      record {
        node = l.leads.node;
        copy = l.leads.copy;
        small = f.setting.store.raw.small;
        names = f.setting.names;
        free = λ low. free low;
        rows = f.setting.rows;
        shallow = (let e : depth (resolve (bindings_of ss n sol) (term_at ss sol.nodes.now p c)) ≡ depth (resolve (bindings_of ss n sol) (term_at ss sol.nodes.now q d)) = ap depth (sym (l.leads.means tt)) in let k : depth (resolve (bindings_of ss n sol) (term_at ss sol.nodes.now p c)) + height ≤ deepest = f.shallow in omega arith);
        room = f.room;
      }
    where
      free : get_or sol.nodes.now q 0 < first_name → resolve (bindings_of ss n sol) (term_at ss sol.nodes.now q d) ≡ term_at ss sol.nodes.now q d
      free low =
          let is : term_at ss sol.nodes.now q d ≡ var (variable_of (cell_of d (get_or sol.nodes.now q 0))) = variable-at ss sol.nodes.now q l.leads.node d low ∙ ap var (sym (variable-cell d (get_or sol.nodes.now q 0) low)) in
          rw is (resolve-unbound ss sol.nodes.now sol.state.now n (cell_of d (get_or sol.nodes.now q 0)) f.setting.store.raw (cell-small d (get_or sol.nodes.now q 0) l.leads.copy low) (l.stops low))

  pub facing-spelt : {q d : ℕ} (met : List Variable) {from : Written} {to : Walk} (rest : List Piece) → Dereferences true ss sol.nodes.now sol.state.now n p c q d
      → Spelling ss sol.nodes.now (bindings_of ss n sol) (bytes_of met (spelt (resolve (bindings_of ss n sol) (term_at ss sol.nodes.now q d)) (left_to_spell ss sol.nodes.now (bindings_of ss n sol) stack height rest))) from to rest
      → Spelling ss sol.nodes.now (bindings_of ss n sol) (bytes_of met (spelt (resolve (bindings_of ss n sol) (term_at ss sol.nodes.now p c)) (left_to_spell ss sol.nodes.now (bindings_of ss n sol) stack height rest))) from to rest
  facing-spelt met rest l s =
      record { told = told-whole (ap (λ (t : RTerm). bytes_of met (spelt t (left_to_spell ss sol.nodes.now (bindings_of ss n sol) stack height rest))) (sym (l.leads.means tt))) s.told; rows = s.rows }

-- bytes before a part that is told
pub told-after : {whole ws : List ℕ} {from mid to : Written} (met : List Variable) (ps : List Piece) {qs : List Piece} → Appended from.out from.at ws mid.out mid.at → whole ≡ ws ++ bytes_of met ps → SpeltSoFar (bytes_of met ps) mid to qs → SpeltSoFar whole from to qs
told-after {ws = ws} met ps {qs} p e u =
    record {
      words = ws ++ u.words;
      put = then p u.put;
      met = u.met;
      numbers_are = u.numbers_are;
      is = e ∙ (ap (λ (l : List ℕ). ws ++ l) u.is ∙ sym (append_assoc ws u.words (bytes_of u.met qs)));
    }

-- ---- a turn

row-closed : (m : Bool) → (m ≡ false → ⊥) → (ps : List Piece) → spelt_row m rnil ps ≡ byte 41 ∷ ps
unfolding spelt_more
row-closed false z ps = absurd (z refl)
row-closed true z ps = refl

row_next : (m : Bool) (t : RTerm) (ts : RTerms) (ps : List Piece) → spelt_row m (rcons t ts) ps ≡ byte (separator_of m) ∷ spelt t (spelt_more ts ps)
unfolding spelt_more spelt_args
row_next false t ts ps = refl
row_next true t ts ps = refl

resolved-cons : (b : List Binding) (t : RTerm) (ts : RTerms) → resolved_all b (rcons t ts) ≡ rcons (resolve b t) (resolved_all b ts)
unfolding resolved_all
resolved-cons b t ts = refl

resolved-nil : (b : List Binding) → resolved_all b rnil ≡ rnil
unfolding resolved_all
resolved-nil b = refl

module _ {ss : List Symbol} {n : ℕ} {sol : Solution} {stack : List ℕ} {height top : ℕ} (s : Setting ss n sol stack height) (pos : 0 < height) (is-top : top ≡ height - 1) where
  upper : height ≡ suc top
  upper = omega arith

  pub top-room : top * open_size + open_size ≤ length stack
  top-room = let h : height * open_size ≤ length stack = s.rows.high in let u : height ≡ suc top = upper in omega arith

  standing : RowPending ss sol.nodes.now (bindings_of ss n sol) top (row_word stack top) (end_word stack top)
  standing = s.rows.each top (let u : height ≡ suc top = upper in omega arith)

  lower : Rows ss sol.nodes.now (bindings_of ss n sol) stack top
  lower = record { high = (let h : top * open_size + open_size ≤ length stack = top-room in omega arith); each = λ i k. s.rows.each i (let u : height ≡ suc top = upper in omega arith) }

  left-top : (rest : List Piece) → left_to_spell ss sol.nodes.now (bindings_of ss n sol) stack height rest
      ≡ spelt_row (row_more (row_word stack top)) (resolved_all (bindings_of ss n sol) (row_terms ss sol.nodes.now (row_word stack top) (end_word stack top))) (left_to_spell ss sol.nodes.now (bindings_of ss n sol) stack top rest)
  unfolding left_to_spell
  left-top rest = ap (λ (h : ℕ). left_to_spell ss sol.nodes.now (bindings_of ss n sol) stack h rest) upper

  -- the closing bracket
  pub turn-close : {place last : ℕ} → place ≡ row_place (row_word stack top) → last ≡ row_last (end_word stack top) → place ≡ last
      → (met : List Variable) {from to : Written} (rest : List Piece) → Numbers to.numbers met → Appended from.out from.at (41 ∷ []) to.out to.at
      → Spelling ss sol.nodes.now (bindings_of ss n sol) (bytes_of met (left_to_spell ss sol.nodes.now (bindings_of ss n sol) stack height rest)) from (record { text = to; stack = stack; height = top }) rest
  turn-close {place} {last} ep el e met rest num put =
      let same : row_place (row_word stack top) ≡ row_last (end_word stack top) = omega arith in
      let some : row_more (row_word stack top) ≡ false → ⊥ = (λ z. let k : row_place (row_word stack top) < row_last (end_word stack top) = standing.opened z in omega arith) in
      let none : row_terms ss sol.nodes.now (row_word stack top) (end_word stack top) ≡ rnil = row-none ss sol.nodes.now (row_place (row_word stack top)) (row_last (end_word stack top)) standing.row (row_copy (end_word stack top)) (omega arith) in
      let is : left_to_spell ss sol.nodes.now (bindings_of ss n sol) stack height rest ≡ byte 41 ∷ left_to_spell ss sol.nodes.now (bindings_of ss n sol) stack top rest =
      left-top rest
      ∙ (ap (λ (ts : RTerms). spelt_row (row_more (row_word stack top)) ts (left_to_spell ss sol.nodes.now (bindings_of ss n sol) stack top rest)) (ap (resolved_all (bindings_of ss n sol)) none ∙ resolved-nil (bindings_of ss n sol))
      ∙ row-closed (row_more (row_word stack top)) some (left_to_spell ss sol.nodes.now (bindings_of ss n sol) stack top rest)) in
      record {
        told = told-words met (41 ∷ []) num put (ap (bytes_of met) is ∙ bytes-byte met 41 (left_to_spell ss sol.nodes.now (bindings_of ss n sol) stack top rest));
        rows = lower;
      }

  module _ {place last copy : ℕ} (ep : place ≡ row_place (row_word stack top)) (el : last ≡ row_last (end_word stack top)) (ec : copy ≡ row_copy (end_word stack top)) (ne : place ≡ last → ⊥) where
    row : Row ss sol.nodes.now place last
    row = rw (ep, el) standing.row

    before_last : place < last
    before_last = let k : place ≤ last = row-order ss sol.nodes.now place last row in omega (arith, ne)

    pub turn-node : Node ss sol.nodes.now place
    turn-node = row_first ss sol.nodes.now place last row before_last

    pub turn_inside : place + 2 ≤ length sol.nodes.now
    turn_inside = node-inside ss sol.nodes.now place turn-node

    pub turn_end : place + get_or sol.nodes.now (place + 1) 0 ≤ length sol.nodes.now
    turn_end = node_end ss sol.nodes.now place turn-node

    pub turn_small : place + get_or sol.nodes.now (place + 1) 0 ≤ places
    turn_small = let a : place + get_or sol.nodes.now (place + 1) 0 ≤ length sol.nodes.now = node_end ss sol.nodes.now place turn-node in let d : length sol.nodes.now ≤ places = s.store.raw.small in omega arith

    terms-are : row_terms ss sol.nodes.now (row_word stack top) (end_word stack top) ≡ rcons (term_at ss sol.nodes.now place copy) (terms_at ss sol.nodes.now (place + get_or sol.nodes.now (place + 1) 0) last copy)
    terms-are = rw (← ep, ← el, ← ec) (row_cons ss sol.nodes.now place last row copy before_last)

    deep : max (suc (depth (resolve (bindings_of ss n sol) (term_at ss sol.nodes.now place copy)))) (depth_all (resolved_all (bindings_of ss n sol) (terms_at ss sol.nodes.now (place + get_or sol.nodes.now (place + 1) 0) last copy))) + top ≤ deepest
    deep =
        let e : depth_all (resolved_all (bindings_of ss n sol) (row_terms ss sol.nodes.now (row_word stack top) (end_word stack top))) ≡ max (suc (depth (resolve (bindings_of ss n sol) (term_at ss sol.nodes.now place copy)))) (depth_all (resolved_all (bindings_of ss n sol) (terms_at ss sol.nodes.now (place + get_or sol.nodes.now (place + 1) 0) last copy))) =
        ap (λ (ts : RTerms). depth_all (resolved_all (bindings_of ss n sol) ts)) terms-are ∙ depth-cons (bindings_of ss n sol) (term_at ss sol.nodes.now place copy) (terms_at ss sol.nodes.now (place + get_or sol.nodes.now (place + 1) 0) last copy) in
        let k : depth_all (resolved_all (bindings_of ss n sol) (row_terms ss sol.nodes.now (row_word stack top) (end_word stack top))) + top ≤ deepest = standing.shallow in
        omega arith

    module _ {next : ℕ} {after : List ℕ} (en : next ≡ place + get_or sol.nodes.now (place + 1) 0) (ea : after ≡ set stack (top * open_size) (moved_row next)) where
      pushed : Pushed stack top (moved_row next) (end_word stack top) after
      pushed = move-pushed stack after top (moved_row next) top-room ea

      half : row_place (moved_row next) ≡ place + get_or sol.nodes.now (place + 1) 0
      half = omega arith

      odd : row_more (moved_row next) ≡ true
      odd = eq-eqb (moved_row next % 2) 1 (omega arith)

      moved : RowPending ss sol.nodes.now (bindings_of ss n sol) top (moved_row next) (end_word stack top)
      moved =
          record {
            row = rw (half, ← el) (row-rest ss sol.nodes.now place last row before_last);
            opened = λ z. absurd (true≢false (sym odd ∙ z));
            shallow = rw (half, ← el, ← ec) (let k : max (suc (depth (resolve (bindings_of ss n sol) (term_at ss sol.nodes.now place copy)))) (depth_all (resolved_all (bindings_of ss n sol) (terms_at ss sol.nodes.now (place + get_or sol.nodes.now (place + 1) 0) last copy))) + top ≤ deepest = deep in omega arith);
          }

      pub turn-facing : Ample stack (height * open_size + open_size) → Facing ss n sol after place copy height
      turn-facing room =
          record {
            setting = record { store = s.store; names = s.names; rows = rw upper (rows_pushed ss sol.nodes.now (bindings_of ss n sol) stack after top (moved_row next) (end_word stack top) lower pushed top-room moved) };
            node = turn-node;
            copy = (omega arith);
            shallow = (let k : max (suc (depth (resolve (bindings_of ss n sol) (term_at ss sol.nodes.now place copy)))) (depth_all (resolved_all (bindings_of ss n sol) (terms_at ss sol.nodes.now (place + get_or sol.nodes.now (place + 1) 0) last copy))) + top ≤ deepest = deep in let u : height ≡ suc top = upper in omega arith);
            room = (let l : length after ≡ length stack = pushed.long in let a : Ample stack (height * open_size + open_size) = room in omega arith);
          }

      left_after : (rest : List Piece) → left_to_spell ss sol.nodes.now (bindings_of ss n sol) after height rest ≡ spelt_more (resolved_all (bindings_of ss n sol) (terms_at ss sol.nodes.now (place + get_or sol.nodes.now (place + 1) 0) last copy)) (left_to_spell ss sol.nodes.now (bindings_of ss n sol) stack top rest)
      left_after rest =
          ap (λ (h : ℕ). left_to_spell ss sol.nodes.now (bindings_of ss n sol) after h rest) upper
          ∙ (left-pushed ss sol.nodes.now (bindings_of ss n sol) stack after top (moved_row next) (end_word stack top) pushed rest
          ∙ rw (odd, half, ← el, ← ec))

      pub turn-spelt : (met : List Variable) {from mid : Written} {to : Walk} {more : Bool} {mark : ℕ} (rest : List Piece) → more ≡ row_more (row_word stack top) → mark ≡ separator_of more → Appended from.out from.at (mark ∷ []) mid.out mid.at
          → Spelling ss sol.nodes.now (bindings_of ss n sol) (bytes_of met (spelt (resolve (bindings_of ss n sol) (term_at ss sol.nodes.now place copy)) (left_to_spell ss sol.nodes.now (bindings_of ss n sol) after height rest))) mid to rest
          → Spelling ss sol.nodes.now (bindings_of ss n sol) (bytes_of met (left_to_spell ss sol.nodes.now (bindings_of ss n sol) stack height rest)) from to rest
      turn-spelt met {mark = mark} rest em es put sp =
          let is : left_to_spell ss sol.nodes.now (bindings_of ss n sol) stack height rest ≡ byte mark ∷ spelt (resolve (bindings_of ss n sol) (term_at ss sol.nodes.now place copy)) (left_to_spell ss sol.nodes.now (bindings_of ss n sol) after height rest) =
          left-top rest
          ∙ (ap (λ (ts : RTerms). spelt_row (row_more (row_word stack top)) ts (left_to_spell ss sol.nodes.now (bindings_of ss n sol) stack top rest)) (ap (resolved_all (bindings_of ss n sol)) terms-are ∙ resolved-cons (bindings_of ss n sol) (term_at ss sol.nodes.now place copy) (terms_at ss sol.nodes.now (place + get_or sol.nodes.now (place + 1) 0) last copy))
          ∙ (row_next (row_more (row_word stack top)) (resolve (bindings_of ss n sol) (term_at ss sol.nodes.now place copy)) (resolved_all (bindings_of ss n sol) (terms_at ss sol.nodes.now (place + get_or sol.nodes.now (place + 1) 0) last copy)) (left_to_spell ss sol.nodes.now (bindings_of ss n sol) stack top rest)
          ∙ ap₂ (λ (x : ℕ) (ps : List Piece). byte x ∷ spelt (resolve (bindings_of ss n sol) (term_at ss sol.nodes.now place copy)) ps) (ap separator_of (sym em) ∙ sym es) (sym (left_after rest)))) in
          record {
            told = told-after met (spelt (resolve (bindings_of ss n sol) (term_at ss sol.nodes.now place copy)) (left_to_spell ss sol.nodes.now (bindings_of ss n sol) after height rest)) put (ap (bytes_of met) is ∙ bytes-byte met mark (spelt (resolve (bindings_of ss n sol) (term_at ss sol.nodes.now place copy)) (left_to_spell ss sol.nodes.now (bindings_of ss n sol) after height rest))) sp.told;
            rows = sp.rows;
          }

-- one byte on
pub counting-on : {numbers : List ℕ} {at m : ℕ} → Counting numbers at → at + 200 < 2 ^ 64 → at ≤ m → m ≤ at + 100 → Counting numbers m
counting-on {at = at} k l a d = record { met = k.met; numbers_are = k.numbers_are; near = omega arith }

-- ---- turns, one after another

-- whatever the words mean, what was to be spelt is partly spelt, and the rest is on the stack
abbrev pub Going : Solution → Walk → Walk → Type 0
Going sol from to =
    (ss : List Symbol) (n : ℕ) (met : List Variable) (rest : List Piece) → Setting ss n sol from.stack from.height → Numbers from.text.numbers met
    → Spelling ss sol.nodes.now (bindings_of ss n sol) (bytes_of met (left_to_spell ss sol.nodes.now (bindings_of ss n sol) from.stack from.height rest)) from.text to rest

module _ {sol : Solution} where
  pub going-none : {from : Walk} → Going sol from from
  going-none {from} ss n met rest s h = record { told = told-words met [] h (nothing from.text.out from.text.at) refl; rows = s.rows }

  module _ {from to : Walk} (g : Going sol from to) where
    pub going-then : {last : Walk} → Going sol to last → Going sol from last
    going-then f ss n met rest s h =
        let x = g ss n met rest s h in
        let y = f ss n x.told.met rest (record { store = s.store; names = s.names; rows = x.rows }) x.told.numbers_are in
        record { told = told-then x.told y.told; rows = y.rows }

    pub some-on : SomeSetting sol from.stack from.height → Counting from.text.numbers from.text.at → SomeSetting sol to.stack to.height
    some-on s k = record { ss = s.ss; n = s.n; is = record { store = s.is.store; names = s.is.names; rows = (g s.ss s.n k.met [] s.is k.numbers_are).rows } }

    pub count-on : SomeSetting sol from.stack from.height → Counting from.text.numbers from.text.at → to.text.at + 100 < 2 ^ 64 → Counting to.text.numbers to.text.at
    count-on s k l =
        let told = (g s.ss s.n k.met [] s.is k.numbers_are).told in
        record { met = told.met; numbers_are = told.numbers_are; near = l }

told_over : {whole : List ℕ} {from to : Written} {ps : List Piece} (limit : ℕ) → SpeltSoFar whole from to ps → limit < to.at → limit < from.at + length whole
told_over {whole} {from} {to} {ps} limit t l =
    let a : to.at ≡ from.at + length t.words = t.put.past in
    let b : length whole ≡ length (t.words ++ bytes_of t.met ps) = ap length t.is in
    let c : length (t.words ++ bytes_of t.met ps) ≡ length t.words + length (bytes_of t.met ps) = length-append t.words (bytes_of t.met ps) in
    omega arith

-- all is told, or the limit is passed
pub walked-told : {whole : List ℕ} {from to : Written} {ps : List Piece} (limit : ℕ) → SpeltSoFar whole from to ps → SpeltToLimit limit whole from to ps
walked-told limit t = record { done = λ l. t; over = told_over limit t; numbers_are = record { met = t.met; numbers_are = t.numbers_are } }

pub walked-over : {whole : List ℕ} {from to : Written} {ps qs : List Piece} (limit : ℕ) → limit < to.at → SpeltSoFar whole from to ps → SpeltToLimit limit whole from to qs
walked-over limit l t = record { done = λ k. absurd (omega arith); over = told_over limit t; numbers_are = record { met = t.met; numbers_are = t.numbers_are } }

left-none : (ss : List Symbol) (nodes : List ℕ) (b : List Binding) (stack : List ℕ) (rows : ℕ) (rest : List Piece) → rows ≡ 0 → left_to_spell ss nodes b stack rows rest ≡ rest
unfolding left_to_spell
left-none ss nodes b stack rows rest e = ap (λ (h : ℕ). left_to_spell ss nodes b stack h rest) e

abbrev pub Ended : Solution → Walk → ℕ → Written → Type 0
Ended sol from limit to =
    (ss : List Symbol) (n : ℕ) (met : List Variable) (rest : List Piece) → Setting ss n sol from.stack from.height → Numbers from.text.numbers met
    → SpeltToLimit limit (bytes_of met (left_to_spell ss sol.nodes.now (bindings_of ss n sol) from.stack from.height rest)) from.text to rest

module _ {sol : Solution} {limit : ℕ} {from to : Walk} (g : Going sol from to) where
  pub going_done : to.height ≡ 0 → Ended sol from limit to.text
  going_done e ss n met rest s h =
      walked-told limit (told-rest (left-none ss sol.nodes.now (bindings_of ss n sol) to.stack to.height rest e) (g ss n met rest s h).told)

  pub going-over : limit < to.text.at → Ended sol from limit to.text
  going-over l ss n met rest s h = walked-over limit l (g ss n met rest s h).told
