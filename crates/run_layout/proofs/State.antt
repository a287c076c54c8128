-- Laws of the state's words: cells, the trail and the bindings. Assumes nothing.
use Prim.Native.Nat.{ℕ, zero, suc, ◌+◌, ◌*◌, ◌/◌, ◌%◌, ◌≤◌, ◌<◌}
use native.Mathlib.Omega.{arith}
use mathlib.Core.Path.{◌≡◌, refl, sym, ap, ap₂, ◌∙◌, subst, subst⁻¹}
use mathlib.Core.Bool.{Bool, true, false, cond}
use mathlib.Core.List.{List, ◌∷◌}
use lib.Dec.{T, eqb}
use lib.ListN.{length, get_or, set, length-set}
use lib.Seq.{get_or-set_same, get_or-set_other}
use borrow.Author.Tests.{eqb-true, eqb-false}
use Rattle.syntax.specs.Words.{first_name}
use Rattle.machine.specs.Substitution.{Variable, same_variable, RTerm, RTerms, var, app, rnil, rcons, occurs, occurs_in, replace, replace_all, Binding, resolve}
use Rattle.machine.proofs.Tests.{variable-eq, variable-refl, or_left, or_right}
use Rattle.run_layout.specs.Regions.{copies, copy_cells, places, cells, trail, store_words}
use Rattle.run_layout.specs.Rooms.{Clean}
use Rattle.run_layout.specs.Nodes.{Symbol, Node, term_at}
use Rattle.run_layout.specs.State.{cell_of, variable_of, word_of, node_of, copy_of, cell_at, trail_at, value_of, bindings, TrailEntry, ClosesCycle, Acyclic, RawStore, Store, WithinCopies, SameBindings, BindingsKept, bound_words}
use Rattle.run_layout.proofs.Pigeonhole.{pigeonhole}

-- ---- cells and their words

pub variable-cell : (c v : ℕ) → v < first_name → variable_of (cell_of c v) ≡ record { copy = c; number = v }
variable-cell c v l =
    let a : (c * copy_cells + v) / copy_cells ≡ c = omega arith in
    let b : (c * copy_cells + v) % copy_cells ≡ v = omega arith in
    λ i. record { copy = a i; number = b i }

pub cell-eq : (x y : ℕ) → variable_of x ≡ variable_of y → x ≡ y
cell-eq x y e =
    let a : x / copy_cells ≡ y / copy_cells = ap (λ (v : Variable). v.copy) e in
    let b : x % copy_cells ≡ y % copy_cells = ap (λ (v : Variable). v.number) e in
    omega arith

pub cell-small : (c v : ℕ) → c < copies → v < first_name → cell_of c v < cells
cell-small c v l h = omega arith

pub node-word : (p c : ℕ) → c < copies → node_of (word_of p c) ≡ p
node-word p c l = omega arith

pub copy-word : (p c : ℕ) → c < copies → copy_of (word_of p c) ≡ c
copy-word p c l = omega arith

pub word_some : (p c : ℕ) → word_of p c ≡ 0 → ⊥
word_some p c e = omega arith

pub copy-small : (w : ℕ) → copy_of w < copies
copy-small w = omega arith

-- ---- the bindings depend only on the first n entries and their cells

pub bindings-agree : (ss : List Symbol) (nodes before after : List ℕ) (m n : ℕ) → m ≤ n → SameBindings n before after → bindings ss nodes after m ≡ bindings ss nodes before m
unfolding bindings
bindings-agree ss nodes before after zero n l k = refl
bindings-agree ss nodes before after (suc m) n l k =
    let older : bindings ss nodes after m ≡ bindings ss nodes before m = bindings-agree ss nodes before after m n (omega arith) k in
    let e : trail_at after m ≡ trail_at before m = k.entry m (omega arith) in
    let c : cell_at after (trail_at before m) ≡ cell_at before (trail_at before m) = k.cell m (omega arith) in
    let w : cell_at after (trail_at after m) ≡ cell_at before (trail_at before m) = ap (cell_at after) e ∙ c in
    λ i. record { variable = variable_of (e i); term = resolve (older i) (value_of ss nodes (w i)) } ∷ older i

pub agrees : (n : ℕ) (before after : List ℕ) → BindingsKept n before after → SameBindings n before after
agrees n before after k = record { entry = k.entry; cell = k.cell }

pub bindings-keep : (ss : List Symbol) (nodes before after : List ℕ) (m n : ℕ) → m ≤ n → BindingsKept n before after → bindings ss nodes after m ≡ bindings ss nodes before m
bindings-keep ss nodes before after m n l k = bindings-agree ss nodes before after m n l (agrees n before after k)

pub keeps-refl : (n : ℕ) (state : List ℕ) → BindingsKept n state state
keeps-refl n state = record { long = refl; entry = λ i l. refl; cell = λ i l. refl; others = λ j l. refl }

pub keeps-trans : (m n : ℕ) (a b c : List ℕ) → m ≤ n → BindingsKept m a b → BindingsKept n b c → BindingsKept m a c
keeps-trans m n a b c l h k =
    record {
      long = k.long ∙ h.long;
      entry = λ i q. k.entry i (omega arith) ∙ h.entry i q;
      cell = λ i q. sym (ap (cell_at c) (h.entry i q)) ∙ (k.cell i (omega arith) ∙ (ap (cell_at b) (h.entry i q) ∙ h.cell i q));
      others = λ j q. k.others j q ∙ h.others j q;
    }

pub keeps-less : (m n : ℕ) (a b : List ℕ) → m ≤ n → BindingsKept n a b → BindingsKept m a b
keeps-less m n a b l k =
    record { long = k.long; entry = λ i q. k.entry i (omega arith); cell = λ i q. k.cell i (omega arith); others = k.others }

pub within-agrees : (k m n : ℕ) (a b : List ℕ) → m ≤ n → SameBindings m a b → WithinCopies k a n → WithinCopies k b m
within-agrees k m n a b l h w =
    record {
      cell = λ i q. (let e : trail_at b i ≡ trail_at a i = h.entry i q in let z : trail_at a i < (k + 1) * copy_cells = w.cell i (omega arith) in omega arith);
      copy = λ i q. (let e : cell_at b (trail_at b i) ≡ cell_at a (trail_at a i) = ap (cell_at b) (h.entry i q) ∙ h.cell i q in
          let z : copy_of (cell_at a (trail_at a i)) ≤ k = w.copy i (omega arith) in subst⁻¹ (λ (x : ℕ). copy_of x ≤ k) e z);
    }

-- ---- what the bindings make of a variable

-- a variable that does not stand in a term is replaced nowhere
replace-variable : (v w : Variable) (s : RTerm) (test : Bool) → (test ≡ true → ⊥) → cond test s (var w) ≡ var w
replace-variable v w s true z = absurd (z refl)
replace-variable v w s false z = refl

mutual
  pub replace-away : (v : Variable) (s t : RTerm) → (T (occurs v t) → ⊥) → replace v s t ≡ t
  replace-away v s (var w) z = replace-variable v w s (same_variable v w) (λ e. z (subst T (sym e) tt))
  replace-away v s (app f ts) z = ap (app f) (replace-all-away v s ts z)

  pub replace-all-away : (v : Variable) (s : RTerm) (ts : RTerms) → (T (occurs_in v ts) → ⊥) → replace_all v s ts ≡ ts
  replace-all-away v s rnil z = refl
  replace-all-away v s (rcons t ts) z =
      λ i. rcons (replace-away v s t (λ h. z (or_left (occurs v t) (occurs_in v ts) h)) i) (replace-all-away v s ts (λ h. z (or_right (occurs v t) (occurs_in v ts) h)) i)

replace-self : (v : Variable) (s : RTerm) → replace v s (var v) ≡ s
replace-self v s = go (same_variable v v) (variable-refl v)
  where
    go : (b : Bool) → T b → cond b s (var v) ≡ s
    go true h = refl
    go false h = absurd h

module _ (ss : List Symbol) (nodes state : List ℕ) where
  none_of : (n x : ℕ) → ((i : ℕ) → i < n → trail_at state i ≡ x → ⊥) → resolve (bindings ss nodes state n) (var (variable_of x)) ≡ var (variable_of x)
  unfolding bindings resolve
  none_of zero x z = refl
  none_of (suc n) x z =
      ap (replace (variable_of (trail_at state n)) (resolve (bindings ss nodes state n) (value_of ss nodes (cell_at state (trail_at state n))))) (none_of n x (λ i l. z i (omega arith)))
      ∙ replace-away (variable_of (trail_at state n)) (resolve (bindings ss nodes state n) (value_of ss nodes (cell_at state (trail_at state n)))) (var (variable_of x)) (λ h. z n (omega arith) (cell-eq (trail_at state n) x (variable-eq (variable_of (trail_at state n)) (variable_of x) h)))

  -- an entry's variable stands for its term
  entry-is : (n i : ℕ) → i < n → Acyclic ss nodes state n → ((j k : ℕ) → j < k → k < n → trail_at state j ≡ trail_at state k → ⊥)
      → resolve (bindings ss nodes state n) (var (variable_of (trail_at state i))) ≡ resolve (bindings ss nodes state n) (value_of ss nodes (cell_at state (trail_at state i)))
  unfolding bindings resolve
  entry-is zero i l f a = absurd (let z : i < 0 = l in omega arith)
  entry-is (suc n) i l f a = go (eqb i n) refl (λ h. entry-is n i h (λ j q. f j (omega arith)) (λ j k q r. a j k q (omega arith)))
    where
      put : RTerm → RTerm
      put t = replace (variable_of (trail_at state n)) (resolve (bindings ss nodes state n) (value_of ss nodes (cell_at state (trail_at state n)))) t

      here : put (resolve (bindings ss nodes state n) (var (variable_of (trail_at state n)))) ≡ put (resolve (bindings ss nodes state n) (value_of ss nodes (cell_at state (trail_at state n))))
      here =
          ap put (none_of n (trail_at state n) (λ j q. a j n q (omega arith)))
          ∙ (replace-self (variable_of (trail_at state n)) (resolve (bindings ss nodes state n) (value_of ss nodes (cell_at state (trail_at state n))))
          ∙ sym (replace-away (variable_of (trail_at state n)) (resolve (bindings ss nodes state n) (value_of ss nodes (cell_at state (trail_at state n)))) (resolve (bindings ss nodes state n) (value_of ss nodes (cell_at state (trail_at state n)))) (f n (omega arith))))

      go : (b : Bool) → eqb i n ≡ b
          → (i < n → resolve (bindings ss nodes state n) (var (variable_of (trail_at state i))) ≡ resolve (bindings ss nodes state n) (value_of ss nodes (cell_at state (trail_at state i))))
          → put (resolve (bindings ss nodes state n) (var (variable_of (trail_at state i)))) ≡ put (resolve (bindings ss nodes state n) (value_of ss nodes (cell_at state (trail_at state i))))
      go true e ih = subst (λ (k : ℕ). put (resolve (bindings ss nodes state n) (var (variable_of (trail_at state k)))) ≡ put (resolve (bindings ss nodes state n) (value_of ss nodes (cell_at state (trail_at state k))))) (sym (eqb-true i n e)) here
      go false e ih = ap put (ih (let z : i ≡ n → ⊥ = eqb-false i n e in omega (arith, z)))

module _ (ss : List Symbol) (nodes state : List ℕ) (n x : ℕ) (store : RawStore ss nodes state n) (small : x < cells) where
  -- dereferencing keeps the resolved term
  pub resolve-bound : Acyclic ss nodes state n → (cell_at state x ≡ 0 → ⊥) → resolve (bindings ss nodes state n) (var (variable_of x)) ≡ resolve (bindings ss nodes state n) (value_of ss nodes (cell_at state x))
  resolve-bound acyclic z =
      let o : (i : ℕ) × (i < n) × (trail_at state i ≡ x) = store.only x small z in
      subst (λ (y : ℕ). resolve (bindings ss nodes state n) (var (variable_of y)) ≡ resolve (bindings ss nodes state n) (value_of ss nodes (cell_at state y))) o.2 (entry-is ss nodes state n o.0 o.1 acyclic store.apart)

  unbound-apart : cell_at state x ≡ 0 → (i : ℕ) → i < n → trail_at state i ≡ x → ⊥
  unbound-apart z i l e = (store.entry i l).bound (ap (cell_at state) e ∙ z)

  -- an unbound variable stays
  pub resolve-unbound : cell_at state x ≡ 0 → resolve (bindings ss nodes state n) (var (variable_of x)) ≡ var (variable_of x)
  resolve-unbound z = none_of ss nodes state n x (unbound-apart z)

  -- while a cell is unbound there is room on the trail
  pub room : cell_at state x ≡ 0 → n < cells
  room z = let k : suc n ≤ cells = pigeonhole cells (suc n) at at_small at-apart in omega arith
    where
      pick : Bool → ℕ → ℕ
      pick true i = x
      pick false i = trail_at state i

      at : ℕ → ℕ
      at i = pick (eqb i n) i

      at_small : (i : ℕ) → i < suc n → at i < cells
      at_small i l = go (eqb i n) refl
        where
          go : (b : Bool) → eqb i n ≡ b → pick b i < cells
          go true e = small
          go false e = (store.entry i (let q : i ≡ n → ⊥ = eqb-false i n e in omega (arith, q))).cell

      ordered : (i j : ℕ) → i < n → j < n → trail_at state i ≡ trail_at state j → i < j → ⊥
      ordered i j l h e q = store.apart i j q h e

      same-entry : (i j : ℕ) → i < n → j < n → trail_at state i ≡ trail_at state j → i ≡ j
      same-entry i j l h e = let a : i < j → ⊥ = ordered i j l h e in let b : j < i → ⊥ = ordered j i h l (sym e) in omega (arith, a, b)

      at-apart : (i j : ℕ) → i < suc n → j < suc n → at i ≡ at j → i ≡ j
      at-apart i j l h e = go (eqb i n) refl (eqb j n) refl e
        where
          go : (a : Bool) → eqb i n ≡ a → (b : Bool) → eqb j n ≡ b → pick a i ≡ pick b j → i ≡ j
          go true p true q r = eqb-true i n p ∙ sym (eqb-true j n q)
          go true p false q r = absurd (unbound-apart z j (let w : j ≡ n → ⊥ = eqb-false j n q in omega (arith, w)) (sym r))
          go false p true q r = absurd (unbound-apart z i (let w : i ≡ n → ⊥ = eqb-false i n p in omega (arith, w)) r)
          go false p false q r = same-entry i j (let w : i ≡ n → ⊥ = eqb-false i n p in omega (arith, w)) (let w : j ≡ n → ⊥ = eqb-false j n q in omega (arith, w)) r

-- ---- binding a cell is one binding more

module _ (state : List ℕ) (n x w : ℕ) (long : store_words ≤ length state) (space : n < cells) (small : x < cells) where
  first-long : length (set state x w) ≡ length state
  first-long = length-set state x w

  pub bound-entry : trail_at (bound_words state n x w) n ≡ x
  unfolding bound_words
  bound-entry = get_or-set_same (set state x w) (trail + n) x 0 (let e : length (set state x w) ≡ length state = first-long in omega arith)

  pub bound-entries : (i : ℕ) → i < n → trail_at (bound_words state n x w) i ≡ trail_at state i
  unfolding bound_words
  bound-entries i l = get_or-set_other (set state x w) (trail + n) (trail + i) x 0 (λ e. omega arith) ∙ get_or-set_other state x (trail + i) w 0 (λ e. omega arith)

  pub bound-cell : cell_at (bound_words state n x w) x ≡ w
  unfolding bound_words
  bound-cell = get_or-set_other (set state x w) (trail + n) x x 0 (λ e. omega arith) ∙ get_or-set_same state x w 0 (omega arith)

  pub bound-cells : (y : ℕ) → y < cells → (y ≡ x → ⊥) → cell_at (bound_words state n x w) y ≡ cell_at state y
  unfolding bound_words
  bound-cells y l z = get_or-set_other (set state x w) (trail + n) y x 0 (λ e. omega arith) ∙ get_or-set_other state x y w 0 z

  pub bound-others : (j : ℕ) → store_words ≤ j → get_or (bound_words state n x w) j 0 ≡ get_or state j 0
  unfolding bound_words
  bound-others j l = get_or-set_other (set state x w) (trail + n) j x 0 (λ e. omega arith) ∙ get_or-set_other state x j w 0 (λ e. omega arith)

  pub bound-long : length (bound_words state n x w) ≡ length state
  unfolding bound_words
  bound-long = length-set (set state x w) (trail + n) x ∙ first-long

-- an entry that stays: its words and the bindings before it are as they were
entry-agrees : (ss : List Symbol) (nodes before after : List ℕ) (i n : ℕ) → i < n → SameBindings n before after → TrailEntry ss nodes before i → TrailEntry ss nodes after i
entry-agrees ss nodes before after i n l k e =
    let t : trail_at after i ≡ trail_at before i = k.entry i l in
    let c : cell_at after (trail_at after i) ≡ cell_at before (trail_at before i) = ap (cell_at after) t ∙ k.cell i l in
    record {
      cell = subst⁻¹ (λ (y : ℕ). y < cells) t e.cell;
      bound = λ z. e.bound (sym c ∙ z);
      node = subst⁻¹ (λ (y : ℕ). Node ss nodes (node_of y)) c e.node;
      down = subst⁻¹ (λ (y : ℕ). get_or nodes (node_of y) 0 < first_name → cell_of (copy_of y) (get_or nodes (node_of y) 0) < trail_at after i) c (subst⁻¹ (λ (y : ℕ). get_or nodes (node_of (cell_at before (trail_at before i))) 0 < first_name → cell_of (copy_of (cell_at before (trail_at before i))) (get_or nodes (node_of (cell_at before (trail_at before i))) 0) < y) t e.down);
    }

-- it closes a cycle if it did before
pub closing-agrees : (ss : List Symbol) (nodes before after : List ℕ) (i n : ℕ) → i < n → SameBindings n before after → ClosesCycle ss nodes after i → ClosesCycle ss nodes before i
closing-agrees ss nodes before after i n l k h =
    let t : trail_at after i ≡ trail_at before i = k.entry i l in
    let c : cell_at after (trail_at after i) ≡ cell_at before (trail_at before i) = ap (cell_at after) t ∙ k.cell i l in
    let b : bindings ss nodes after i ≡ bindings ss nodes before i = bindings-agree ss nodes before after i n (omega arith) k in
    subst (λ (o : RTerm). T (occurs (variable_of (trail_at before i)) o)) (ap₂ (λ (x : List Binding) (y : ℕ). resolve x (value_of ss nodes y)) b c)
    (subst (λ (y : ℕ). T (occurs (variable_of y) (resolve (bindings ss nodes after i) (value_of ss nodes (cell_at after (trail_at after i)))))) t h)

pub acyclic-agrees : (ss : List Symbol) (nodes before after : List ℕ) (n : ℕ) → SameBindings n before after → Acyclic ss nodes before n → Acyclic ss nodes after n
acyclic-agrees ss nodes before after n k f i l h = f i l (closing-agrees ss nodes before after i n l k h)

module _ (ss : List Symbol) (nodes state : List ℕ) (n x q d : ℕ) (store : RawStore ss nodes state n) (small : x < cells) (unbound : cell_at state x ≡ 0) (copy : d < copies) where
  space : n < cells
  space = room ss nodes state n x store small unbound

  other : (i : ℕ) → i < n → trail_at state i ≡ x → ⊥
  other = unbound-apart ss nodes state n x store small unbound

  pub bind-keeps : BindingsKept n state (bound_words state n x (word_of q d))
  bind-keeps =
      record {
        long = bound-long state n x (word_of q d) store.long space small;
        entry = bound-entries state n x (word_of q d) store.long space small;
        cell = λ i l. bound-cells state n x (word_of q d) store.long space small (trail_at state i) (store.entry i l).cell (other i l);
        others = bound-others state n x (word_of q d) store.long space small;
      }

  value : value_of ss nodes (word_of q d) ≡ term_at ss nodes q d
  unfolding value_of
  value = ap₂ (term_at ss nodes) (node-word q d copy) (copy-word q d copy)

  new-cell : cell_at (bound_words state n x (word_of q d)) (trail_at (bound_words state n x (word_of q d)) n) ≡ word_of q d
  new-cell = ap (cell_at (bound_words state n x (word_of q d))) (bound-entry state n x (word_of q d) store.long space small) ∙ bound-cell state n x (word_of q d) store.long space small

  pub bind-means : bindings ss nodes (bound_words state n x (word_of q d)) (suc n) ≡ record { variable = variable_of x; term = resolve (bindings ss nodes state n) (term_at ss nodes q d) } ∷ bindings ss nodes state n
  unfolding bindings
  bind-means =
      let t : trail_at (bound_words state n x (word_of q d)) n ≡ x = bound-entry state n x (word_of q d) store.long space small in
      let b : bindings ss nodes (bound_words state n x (word_of q d)) n ≡ bindings ss nodes state n = bindings-keep ss nodes state (bound_words state n x (word_of q d)) n n (omega arith) bind-keeps in
      let c : value_of ss nodes (cell_at (bound_words state n x (word_of q d)) (trail_at (bound_words state n x (word_of q d)) n)) ≡ term_at ss nodes q d = ap (value_of ss nodes) new-cell ∙ value in
      λ i. record { variable = variable_of (t i); term = resolve (b i) (c i) } ∷ b i

  -- the new entry closes a cycle where the variable stands in the term
  pub bind-closing : occurs (variable_of (trail_at (bound_words state n x (word_of q d)) n))
      (resolve (bindings ss nodes (bound_words state n x (word_of q d)) n) (value_of ss nodes (cell_at (bound_words state n x (word_of q d)) (trail_at (bound_words state n x (word_of q d)) n))))
      ≡ occurs (variable_of x) (resolve (bindings ss nodes state n) (term_at ss nodes q d))
  bind-closing =
      let t : trail_at (bound_words state n x (word_of q d)) n ≡ x = bound-entry state n x (word_of q d) store.long space small in
      let b : bindings ss nodes (bound_words state n x (word_of q d)) n ≡ bindings ss nodes state n = bindings-keep ss nodes state (bound_words state n x (word_of q d)) n n (omega arith) bind-keeps in
      let c : value_of ss nodes (cell_at (bound_words state n x (word_of q d)) (trail_at (bound_words state n x (word_of q d)) n)) ≡ term_at ss nodes q d = ap (value_of ss nodes) new-cell ∙ value in
      λ i. occurs (variable_of (t i)) (resolve (b i) (c i))

  -- the entries before are as they were
  pub bind-closed : (i : ℕ) → i < n → ClosesCycle ss nodes (bound_words state n x (word_of q d)) i → ClosesCycle ss nodes state i
  bind-closed i l = closing-agrees ss nodes state (bound_words state n x (word_of q d)) i n l (agrees n state (bound_words state n x (word_of q d)) bind-keeps)

  pub bind-earlier : Acyclic ss nodes (bound_words state n x (word_of q d)) (suc n) → Acyclic ss nodes state n
  bind-earlier f i l h =
      f i (omega arith) (closing-agrees ss nodes (bound_words state n x (word_of q d)) state i n l back h)
    where
      back : SameBindings n (bound_words state n x (word_of q d)) state
      back =
          record {
            entry = λ j o. sym (bind-keeps.entry j o);
            cell = λ j o. ap (cell_at state) (bind-keeps.entry j o) ∙ (sym (bind-keeps.cell j o) ∙ ap (cell_at (bound_words state n x (word_of q d))) (sym (bind-keeps.entry j o)));
          }

  pub bind-acyclic : Acyclic ss nodes state n → (T (occurs (variable_of x) (resolve (bindings ss nodes state n) (term_at ss nodes q d))) → ⊥) → Acyclic ss nodes (bound_words state n x (word_of q d)) (suc n)
  bind-acyclic f z i l h = go (eqb i n) refl
    where
      go : (b : Bool) → eqb i n ≡ b → ⊥
      go true e = z (subst T bind-closing (subst (ClosesCycle ss nodes (bound_words state n x (word_of q d))) (eqb-true i n e) h))
      go false e = let o : i < n = (let q1 : i ≡ n → ⊥ = eqb-false i n e in omega (arith, q1)) in f i o (bind-closed i o h)

  module _ (node : Node ss nodes q) (down : get_or nodes q 0 < first_name → cell_of d (get_or nodes q 0) < x) where
    new-entry : TrailEntry ss nodes (bound_words state n x (word_of q d)) n
    new-entry =
        let t : trail_at (bound_words state n x (word_of q d)) n ≡ x = bound-entry state n x (word_of q d) store.long space small in
        let c : cell_at (bound_words state n x (word_of q d)) (trail_at (bound_words state n x (word_of q d)) n) ≡ word_of q d = new-cell in
        let nd : node_of (cell_at (bound_words state n x (word_of q d)) (trail_at (bound_words state n x (word_of q d)) n)) ≡ q = ap node_of c ∙ node-word q d copy in
        let cp : copy_of (cell_at (bound_words state n x (word_of q d)) (trail_at (bound_words state n x (word_of q d)) n)) ≡ d = ap copy_of c ∙ copy-word q d copy in
        record {
          cell = subst⁻¹ (λ (y : ℕ). y < cells) t small;
          bound = λ z. word_some q d (sym c ∙ z);
          node = subst⁻¹ (Node ss nodes) nd node;
          down = subst⁻¹ (λ (y : ℕ). get_or nodes y 0 < first_name → cell_of (copy_of (cell_at (bound_words state n x (word_of q d)) (trail_at (bound_words state n x (word_of q d)) n))) (get_or nodes y 0) < trail_at (bound_words state n x (word_of q d)) n) nd
              (subst⁻¹ (λ (y : ℕ). get_or nodes q 0 < first_name → cell_of y (get_or nodes q 0) < trail_at (bound_words state n x (word_of q d)) n) cp
              (subst⁻¹ (λ (y : ℕ). get_or nodes q 0 < first_name → cell_of d (get_or nodes q 0) < y) t down));
        }

    pub bind-raw : RawStore ss nodes (bound_words state n x (word_of q d)) (suc n)
    bind-raw =
        record {
          long = (let e : length (bound_words state n x (word_of q d)) ≡ length state = bound-long state n x (word_of q d) store.long space small in let l : store_words ≤ length state = store.long in omega arith);
          small = store.small;
          entry = λ i l. entry_at i l (eqb i n) refl;
          apart = λ i j l h e. apart-at i j l h e (eqb j n) refl;
          only = λ y l z. only_at y l z (eqb y x) refl;
        }
      where
        entry_at : (i : ℕ) → i < suc n → (b : Bool) → eqb i n ≡ b → TrailEntry ss nodes (bound_words state n x (word_of q d)) i
        entry_at i l true e = subst⁻¹ (TrailEntry ss nodes (bound_words state n x (word_of q d))) (eqb-true i n e) new-entry
        entry_at i l false e = let h : i < n = (let z : i ≡ n → ⊥ = eqb-false i n e in omega (arith, z)) in entry-agrees ss nodes state (bound_words state n x (word_of q d)) i n h (agrees n state (bound_words state n x (word_of q d)) bind-keeps) (store.entry i h)

        apart-at : (i j : ℕ) → i < j → j < suc n → trail_at (bound_words state n x (word_of q d)) i ≡ trail_at (bound_words state n x (word_of q d)) j → (b : Bool) → eqb j n ≡ b → ⊥
        apart-at i j l h e true w =
            let k : j ≡ n = eqb-true j n w in
            other i (omega arith) (sym (bind-keeps.entry i (omega arith)) ∙ (e ∙ (ap (trail_at (bound_words state n x (word_of q d))) k ∙ bound-entry state n x (word_of q d) store.long space small)))
        apart-at i j l h e false w =
            let k : j < n = (let z : j ≡ n → ⊥ = eqb-false j n w in omega (arith, z)) in
            store.apart i j l k (sym (bind-keeps.entry i (omega arith)) ∙ (e ∙ bind-keeps.entry j k))

        only_at : (y : ℕ) → y < cells → (cell_at (bound_words state n x (word_of q d)) y ≡ 0 → ⊥) → (b : Bool) → eqb y x ≡ b → (i : ℕ) × (i < suc n) × (trail_at (bound_words state n x (word_of q d)) i ≡ y)
        only_at y l z true e = (n, omega arith, bound-entry state n x (word_of q d) store.long space small ∙ sym (eqb-true y x e))
        only_at y l z false e =
            let o : (i : ℕ) × (i < n) × (trail_at state i ≡ y) = store.only y l (λ h. z (bound-cells state n x (word_of q d) store.long space small y l (eqb-false y x e) ∙ h)) in
            (o.0, (let h : o.0 < n = o.1 in omega arith), bind-keeps.entry o.0 o.1 ∙ o.2)

  pub bind-within : (k : ℕ) → WithinCopies k state n → x < (k + 1) * copy_cells → d ≤ k → WithinCopies k (bound_words state n x (word_of q d)) (suc n)
  bind-within k w l h =
      record { cell = λ i q1. cell-at i q1 (eqb i n) refl; copy = λ i q1. copy_at i q1 (eqb i n) refl }
    where
      cell-at : (i : ℕ) → i < suc n → (b : Bool) → eqb i n ≡ b → trail_at (bound_words state n x (word_of q d)) i < (k + 1) * copy_cells
      cell-at i q1 true e = subst⁻¹ (λ (y : ℕ). trail_at (bound_words state n x (word_of q d)) y < (k + 1) * copy_cells) (eqb-true i n e) (subst⁻¹ (λ (y : ℕ). y < (k + 1) * copy_cells) (bound-entry state n x (word_of q d) store.long space small) l)
      cell-at i q1 false e = let r : i < n = (let z : i ≡ n → ⊥ = eqb-false i n e in omega (arith, z)) in subst⁻¹ (λ (y : ℕ). y < (k + 1) * copy_cells) (bind-keeps.entry i r) (w.cell i r)

      copy_at : (i : ℕ) → i < suc n → (b : Bool) → eqb i n ≡ b → copy_of (cell_at (bound_words state n x (word_of q d)) (trail_at (bound_words state n x (word_of q d)) i)) ≤ k
      copy_at i q1 true e = subst⁻¹ (λ (y : ℕ). copy_of (cell_at (bound_words state n x (word_of q d)) (trail_at (bound_words state n x (word_of q d)) y)) ≤ k) (eqb-true i n e) (subst⁻¹ (λ (y : ℕ). y ≤ k) (ap copy_of new-cell ∙ copy-word q d copy) h)
      copy_at i q1 false e = let r : i < n = (let z : i ≡ n → ⊥ = eqb-false i n e in omega (arith, z)) in subst⁻¹ (λ (y : ℕ). copy_of y ≤ k) (ap (cell_at (bound_words state n x (word_of q d))) (bind-keeps.entry i r) ∙ bind-keeps.cell i r) (w.copy i r)

-- ---- undoing is the newest dropped

module _ (ss : List Symbol) (nodes state : List ℕ) (n : ℕ) (store : RawStore ss nodes state (suc n)) where
  last-cell : trail_at state n < cells
  last-cell = (store.entry n (omega arith)).cell

  pub undo-keeps : BindingsKept n state (set state (trail_at state n) 0)
  undo-keeps =
      let small : trail_at state n < cells = last-cell in
      record {
        long = length-set state (trail_at state n) 0;
        entry = λ i l. get_or-set_other state (trail_at state n) (trail + i) 0 0 (λ e. omega arith);
        cell = λ i l. get_or-set_other state (trail_at state n) (trail_at state i) 0 0 (λ e. store.apart i n l (omega arith) e);
        others = λ j l. get_or-set_other state (trail_at state n) j 0 0 (λ e. omega arith);
      }

  pub undo-raw : RawStore ss nodes (set state (trail_at state n) 0) n
  undo-raw =
      record {
        long = (let e : length (set state (trail_at state n) 0) ≡ length state = length-set state (trail_at state n) 0 in let l : store_words ≤ length state = store.long in omega arith);
        small = store.small;
        entry = λ i l. entry-agrees ss nodes state (set state (trail_at state n) 0) i n l (agrees n state (set state (trail_at state n) 0) undo-keeps) (store.entry i (omega arith));
        apart = λ i j l h e. store.apart i j l (omega arith) (sym (undo-keeps.entry i (omega arith)) ∙ (e ∙ undo-keeps.entry j h));
        only = λ y l z. only_at y l z (eqb y (trail_at state n)) refl;
      }
    where
      only_at : (y : ℕ) → y < cells → (cell_at (set state (trail_at state n) 0) y ≡ 0 → ⊥) → (b : Bool) → eqb y (trail_at state n) ≡ b → (i : ℕ) × (i < n) × (trail_at (set state (trail_at state n) 0) i ≡ y)
      only_at y l z true e = absurd (z (ap (cell_at (set state (trail_at state n) 0)) (eqb-true y (trail_at state n) e) ∙ get_or-set_same state (trail_at state n) 0 0 (let s : trail_at state n < cells = last-cell in let h : store_words ≤ length state = store.long in omega arith)))
      only_at y l z false e =
          let o : (i : ℕ) × (i < suc n) × (trail_at state i ≡ y) = store.only y l (λ h. z (get_or-set_other state (trail_at state n) y 0 0 (eqb-false y (trail_at state n) e) ∙ h)) in
          let r : o.0 < n = (let q : o.0 < suc n = o.1 in let d : o.0 ≡ n → ⊥ = (λ w. eqb-false y (trail_at state n) e (sym o.2 ∙ ap (trail_at state) w)) in omega (arith, d)) in
          (o.0, r, undo-keeps.entry o.0 r ∙ o.2)

-- ---- stores elsewhere

-- n entries are no more than there are cells
pub few : (ss : List Symbol) (nodes state : List ℕ) (n : ℕ) → RawStore ss nodes state n → n ≤ cells
few ss nodes state n store = pigeonhole cells n (trail_at state) (λ i l. (store.entry i l).cell) same-entry
  where
    same-entry : (i j : ℕ) → i < n → j < n → trail_at state i ≡ trail_at state j → i ≡ j
    same-entry i j l h e = let a : i < j → ⊥ = (λ q. store.apart i j q h e) in let b : j < i → ⊥ = (λ q. store.apart j i q l (sym e)) in omega (arith, a, b)

-- a store stays one where the cells and the first entries of the trail stay
pub raw-agrees : (ss : List Symbol) (nodes before after : List ℕ) (n : ℕ) → length after ≡ length before → ((y : ℕ) → y < cells → cell_at after y ≡ cell_at before y) → SameBindings n before after → RawStore ss nodes before n → RawStore ss nodes after n
raw-agrees ss nodes before after n e same k store =
    record {
      long = (let l : store_words ≤ length before = store.long in omega (arith, e));
      small = store.small;
      entry = λ i l. entry-agrees ss nodes before after i n l k (store.entry i l);
      apart = λ i j l h z. store.apart i j l h (sym (k.entry i (omega arith)) ∙ (z ∙ k.entry j h));
      only = λ y l z. go y (store.only y l (λ h. z (same y l ∙ h)));
    }
  where
    go : (y : ℕ) → (i : ℕ) × (i < n) × (trail_at before i ≡ y) → (i : ℕ) × (i < n) × (trail_at after i ≡ y)
    go y o = (o.0, o.1, k.entry o.0 o.1 ∙ o.2)

-- two states with the same cells and the same trail
abbrev pub SameStore : List ℕ → List ℕ → Type 0
SameStore before after = (length after ≡ length before) × ((j : ℕ) → j < store_words → get_or after j 0 ≡ get_or before j 0)

pub elsewhere : (state : List ℕ) (j v : ℕ) → store_words ≤ j → SameStore state (set state j v)
elsewhere state j v l = (length-set state j v, λ i h. get_or-set_other state j i v 0 (λ e. omega arith))

module _ (ss : List Symbol) (nodes before after : List ℕ) (n : ℕ) (store : Store ss nodes before n) (same : SameStore before after) where
  pub same-agrees : SameBindings n before after
  same-agrees =
      record {
        entry = λ i l. same.1 (trail + i) (let k : n ≤ cells = few ss nodes before n store.raw in omega arith);
        cell = λ i l. same.1 (trail_at before i) (let k : trail_at before i < cells = (store.raw.entry i l).cell in omega arith);
      }

  pub store_same : Store ss nodes after n
  store_same = record { raw = raw-agrees ss nodes before after n same.0 (λ y l. same.1 y (omega arith)) same-agrees store.raw; acyclic = acyclic-agrees ss nodes before after n same-agrees store.acyclic }

  pub bindings-same : bindings ss nodes after n ≡ bindings ss nodes before n
  bindings-same = bindings-agree ss nodes before after n n (omega arith) same-agrees

-- ---- a store without entries

pub no-entries : (ss : List Symbol) (nodes state : List ℕ) → store_words ≤ length state → length nodes ≤ places → ((x : ℕ) → x < cells → cell_at state x ≡ 0) → RawStore ss nodes state 0
no-entries ss nodes state l h z =
    record { long = l; small = h; entry = λ i q. absurd (let k : i < 0 = q in omega arith); apart = λ i j a b e. absurd (let k : j < 0 = b in omega arith); only = λ x q k. absurd (k (z x q)) }

pub no-bindings : (ss : List Symbol) (nodes state : List ℕ) → store_words ≤ length state → length nodes ≤ places → ((x : ℕ) → x < cells → cell_at state x ≡ 0) → Store ss nodes state 0
no-bindings ss nodes state l h z = record { raw = no-entries ss nodes state l h z; acyclic = λ i q. absurd (let k : i < 0 = q in omega arith) }

-- and where the trail has no entry, no cell is bound
pub none-bound : (ss : List Symbol) (nodes state : List ℕ) → RawStore ss nodes state 0 → Clean state
none-bound ss nodes state r = record { long = r.long; zero = λ x l. go x l (eqb (cell_at state x) 0) refl }
  where
    go : (x : ℕ) → x < cells → (b : Bool) → eqb (cell_at state x) 0 ≡ b → cell_at state x ≡ 0
    go x l true e = eqb-true (cell_at state x) 0 e
    go x l false e = absurd (let q : (i : ℕ) × (i < 0) × (trail_at state i ≡ x) = r.only x l (eqb-false (cell_at state x) 0 e) in omega (arith, q.1))
