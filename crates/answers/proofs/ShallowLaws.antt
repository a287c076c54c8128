-- How many brackets a resolved term opens at once: at most a term's own, and as many for each binding. Assumes nothing.
--
-- A clause's term opens at most `brackets` brackets before it comes to a variable, and what stands for that variable opens fewer than the whole does. So
-- the bound variables that are passed one inside the other are distinct.
use Prim.Native.Nat.{ℕ, zero, suc, max, ◌+◌, ◌*◌, ◌≤◌, ◌<◌}
use native.Mathlib.Omega.{arith}
use mathlib.Core.Path.{◌≡◌, refl, sym, ap, ◌∙◌, subst}
use mathlib.Core.Bool.{Bool, true, false}
use mathlib.Core.List.{List}
use mathlib.Core.Logic.{◌⊎◌, inl, inr}
use lib.Dec.{T, ltb, eqb, ltb→lt}
use lib.ListN.{get_or}
use borrow.Author.Tests.{ltb-true, ltb-false, lt-ltb, le-ltb, eqb-true, eqb-false}
use Rattle.syntax.specs.Limits.{brackets}
use Rattle.syntax.specs.Words.{first_name}
use Rattle.run_layout.specs.Regions.{copies, cells, deepest}
use Rattle.syntax.specs.Terms.{Term, Terms, variable, compound, nil, cons, arity}
use Rattle.machine.specs.Substitution.{Variable, RTerm, var, app, Binding, resolve, copied, copied_all}
use Rattle.machine.proofs.Tests.{both}
use Rattle.run_layout.specs.Nodes.{Symbol, is_listed, loaded_words, is_loadable, are_loadable, brackets_of, brackets_all, TermLoaded, Node, term_at}
use Rattle.run_layout.specs.State.{cell_of, variable_of, node_of, copy_of, cell_at, trail_at, value_of, bindings, TrailEntry, Store}
use Rattle.run_layout.proofs.Nodes.{term-at}
use Rattle.run_layout.proofs.State.{variable-cell, cell-small, copy-small, resolve-bound, resolve-unbound, few}
use Rattle.answers.specs.Words.{resolved_all, depth, depth_all}
use Rattle.answers.specs.Telling.{value_in}
use Rattle.answers.proofs.WalkLaws.{resolved-name, depth-name, depth-cons}

-- ---- how many of the first n numbers are below a bound

abbrev counted : Bool → ℕ
counted true = 1
counted false = 0

unfoldable below : (ℕ → ℕ) → ℕ → ℕ → ℕ
below f zero s = 0
below f (suc n) s = counted (ltb (f n) s) + below f n s

below-few : (f : ℕ → ℕ) (n s : ℕ) → below f n s ≤ n
unfolding below
below-few f zero s = omega arith
below-few f (suc n) s = go (ltb (f n) s) (below-few f n s)
  where
    go : (t : Bool) → below f n s ≤ n → counted t + below f n s ≤ suc n
    go true k = omega arith
    go false k = omega arith

one-more : (x a s : ℕ) → a ≤ s → counted (ltb x a) ≤ counted (ltb x s)
one-more x a s l = go (ltb x a) refl (ltb x s) refl
  where
    go : (t : Bool) → ltb x a ≡ t → (u : Bool) → ltb x s ≡ u → counted t ≤ counted u
    go false e u q = omega arith
    go true e true q = omega arith
    go true e false q = absurd (let h : x < a = ltb-true x a e in let k : s ≤ x = ltb-false x s q in omega arith)

below_more : (f : ℕ → ℕ) (n a s : ℕ) → a ≤ s → below f n a ≤ below f n s
unfolding below
below_more f zero a s l = omega arith
below_more f (suc n) a s l =
    let h : below f n a ≤ below f n s = below_more f n a s l in
    let k : counted (ltb (f n) a) ≤ counted (ltb (f n) s) = one-more (f n) a s l in
    omega arith

-- a number between two bounds is below only one of them
below_one : (f : ℕ → ℕ) (n a s i : ℕ) → i < n → a ≤ f i → f i < s → below f n a < below f n s
unfolding below
below_one f zero a s i l h k = absurd (let z : i < 0 = l in omega arith)
below_one f (suc n) a s i l h k = go (eqb i n) refl (λ q. below_one f n a s i q h k)
  where
    go : (t : Bool) → eqb i n ≡ t → (i < n → below f n a < below f n s) → counted (ltb (f n) a) + below f n a < counted (ltb (f n) s) + below f n s
    go true e ih =
        let q : f i ≡ f n = ap f (eqb-true i n e) in
        let x : counted (ltb (f n) a) ≡ 0 = ap counted (le-ltb (f n) a (let r : a ≤ f n = omega arith in r)) in
        let y : counted (ltb (f n) s) ≡ 1 = ap counted (lt-ltb (f n) s (let r : f n < s = omega arith in r)) in
        let z : below f n a ≤ below f n s = below_more f n a s (omega arith) in
        omega arith
    go false e ih =
        let q : below f n a < below f n s = ih (let d : i ≡ n → ⊥ = eqb-false i n e in omega (arith, d)) in
        let z : counted (ltb (f n) a) ≤ counted (ltb (f n) s) = one-more (f n) a s (omega arith) in
        omega arith

-- ---- a clause's term, with what is known of its variables

module _ (ss : List Symbol) (b : List Binding) (c s m : ℕ) (known : (v : ℕ) → v < first_name → depth (resolve b (var (record { copy = c; number = v }))) < s → depth (resolve b (var (record { copy = c; number = v }))) ≤ m) where
  mutual
    unfolding is_loadable brackets_of depth resolved_all

    inside : (t : Term) → T (is_loadable ss t) → depth (resolve b (copied c t)) < s → depth (resolve b (copied c t)) ≤ brackets_of t + m
    inside (variable v at) h l = let k : depth (resolve b (var (record { copy = c; number = v }))) ≤ m = known v (ltb→lt v first_name h) l in omega arith
    inside (compound at f ts) h l =
        let e : depth (resolve b (app f (copied_all c ts))) ≡ depth_all (resolved_all b (copied_all c ts)) = ap depth (resolved-name b f (copied_all c ts)) ∙ depth-name f (resolved_all b (copied_all c ts)) in
        let k : depth_all (resolved_all b (copied_all c ts)) ≤ brackets_all ts + m = inside-all ts (both (is_listed ss f (arity ts)) (are_loadable ss ts) h).1 (omega arith) in
        omega arith

    inside-all : (ts : Terms) → T (are_loadable ss ts) → depth_all (resolved_all b (copied_all c ts)) ≤ s → depth_all (resolved_all b (copied_all c ts)) ≤ brackets_all ts + m
    inside-all nil h l = omega arith
    inside-all (cons t ts) h l =
        let ok : T (is_loadable ss t) × T (are_loadable ss ts) = both (is_loadable ss t) (are_loadable ss ts) h in
        let e : depth_all (resolved_all b (copied_all c (cons t ts))) ≡ max (suc (depth (resolve b (copied c t)))) (depth_all (resolved_all b (copied_all c ts))) = depth-cons b (copied c t) (copied_all c ts) in
        let first : depth (resolve b (copied c t)) ≤ brackets_of t + m = inside t ok.0 (omega arith) in
        let rest : depth_all (resolved_all b (copied_all c ts)) ≤ brackets_all ts + m = inside-all ts ok.1 (omega arith) in
        omega arith

-- ---- the entries of the trail

-- how many brackets are open at once in what stands for the variable of entry i
unfoldable entry_depth : List Symbol → List ℕ → List ℕ → ℕ → ℕ → ℕ
entry_depth ss nodes state n i = depth (resolve (bindings ss nodes state n) (var (variable_of (trail_at state i))))

-- a term's brackets, and as many for each entry that opens fewer
abbrev Shallow : List Symbol → List ℕ → List ℕ → ℕ → ℕ → Type 0
Shallow ss nodes state n s = s ≤ brackets * (below (entry_depth ss nodes state n) n s + 1)

none-shallow : (ss : List Symbol) (nodes state : List ℕ) (n s : ℕ) → s ≡ 0 → Shallow ss nodes state n s
none-shallow ss nodes state n s e = omega arith

-- a variable is unbound, or it is that of an entry
record Entered (ss : List Symbol) (nodes state : List ℕ) (n c v : ℕ) : Type 0 where
  i : ℕ
  inside : i < n
  cell : trail_at state i ≡ cell_of c v
  same : entry_depth ss nodes state n i ≡ depth (resolve (bindings ss nodes state n) (var (record { copy = c; number = v })))

module _ (ss : List Symbol) (nodes state : List ℕ) (n : ℕ) (store : Store ss nodes state n) where
  entered : (c v : ℕ) → c < copies → v < first_name → (depth (resolve (bindings ss nodes state n) (var (record { copy = c; number = v }))) ≡ 0) ⊎ Entered ss nodes state n c v
  unfolding entry_depth depth
  entered c v l h = go (eqb (cell_at state (cell_of c v)) 0) refl
    where
      small : cell_of c v < cells
      small = cell-small c v l h

      go : (t : Bool) → eqb (cell_at state (cell_of c v)) 0 ≡ t → (depth (resolve (bindings ss nodes state n) (var (record { copy = c; number = v }))) ≡ 0) ⊎ Entered ss nodes state n c v
      go true e =
          inl (ap (λ (x : Variable). depth (resolve (bindings ss nodes state n) (var x))) (sym (variable-cell c v h)) ∙ ap depth (resolve-unbound ss nodes state n (cell_of c v) store.raw small (eqb-true (cell_at state (cell_of c v)) 0 e)))
      go false e =
          let o : (i : ℕ) × (i < n) × (trail_at state i ≡ cell_of c v) = store.raw.only (cell_of c v) small (eqb-false (cell_at state (cell_of c v)) 0 e) in
          inr (record { i = o.0; inside = o.1; cell = o.2; same = ap (λ (x : Variable). depth (resolve (bindings ss nodes state n) (var x))) (ap variable_of o.2 ∙ variable-cell c v h) })

  -- a name with its arguments, where all entries that open fewer brackets are shallow
  name-shallow : (c at : ℕ) (f : List ℕ) (ts : Terms) → c < copies → T (are_loadable ss ts) → brackets_all ts ≤ brackets
      → ((i : ℕ) → i < n → entry_depth ss nodes state n i < depth (resolve (bindings ss nodes state n) (copied c (compound at f ts))) → Shallow ss nodes state n (entry_depth ss nodes state n i))
      → Shallow ss nodes state n (depth (resolve (bindings ss nodes state n) (copied c (compound at f ts))))
  name-shallow c at f ts l h k ih =
      let e : whole ≡ depth_all (resolved_all (bindings ss nodes state n) (copied_all c ts)) = ap depth (resolved-name (bindings ss nodes state n) f (copied_all c ts)) ∙ depth-name f (resolved_all (bindings ss nodes state n) (copied_all c ts)) in
      let q : depth_all (resolved_all (bindings ss nodes state n) (copied_all c ts)) ≤ brackets_all ts + brackets * below (entry_depth ss nodes state n) n whole =
      inside-all ss (bindings ss nodes state n) c whole (brackets * below (entry_depth ss nodes state n) n whole) (λ v r less. known v less (entered c v l r)) ts h (omega arith) in
      let z : whole ≤ brackets * (below (entry_depth ss nodes state n) n whole + 1) = omega arith in
      z
    where
      whole : ℕ
      whole = depth (resolve (bindings ss nodes state n) (copied c (compound at f ts)))

      known : (v : ℕ) → depth (resolve (bindings ss nodes state n) (var (record { copy = c; number = v }))) < whole
          → (depth (resolve (bindings ss nodes state n) (var (record { copy = c; number = v }))) ≡ 0) ⊎ Entered ss nodes state n c v
          → depth (resolve (bindings ss nodes state n) (var (record { copy = c; number = v }))) ≤ brackets * below (entry_depth ss nodes state n) n whole
      known v less (inl z) = omega arith
      known v less (inr o) =
          let q : entry_depth ss nodes state n o.i ≡ depth (resolve (bindings ss nodes state n) (var (record { copy = c; number = v }))) = o.same in
          let r : entry_depth ss nodes state n o.i ≤ brackets * (below (entry_depth ss nodes state n) n (entry_depth ss nodes state n o.i) + 1) = ih o.i o.inside (omega arith) in
          let x : below (entry_depth ss nodes state n) n (entry_depth ss nodes state n o.i) < below (entry_depth ss nodes state n) n whole = below_one (entry_depth ss nodes state n) n (entry_depth ss nodes state n o.i) whole o.i o.inside (omega arith) (omega arith) in
          omega arith

  -- the term of a node, where all entries are shallow that open fewer brackets, or as many and stand for an earlier cell than x
  node-shallow : (p c x : ℕ) (t : Term) → TermLoaded ss nodes p t → c < copies
      → ((i : ℕ) → i < n → entry_depth ss nodes state n i < depth (resolve (bindings ss nodes state n) (copied c t)) → Shallow ss nodes state n (entry_depth ss nodes state n i))
      → (get_or nodes p 0 < first_name → cell_of c (get_or nodes p 0) < x)
      → ((i : ℕ) → i < n → entry_depth ss nodes state n i ≡ depth (resolve (bindings ss nodes state n) (copied c t)) → trail_at state i < x → Shallow ss nodes state n (entry_depth ss nodes state n i))
      → Shallow ss nodes state n (depth (resolve (bindings ss nodes state n) (copied c t)))
  unfolding loaded_words is_loadable brackets_of
  node-shallow p c x (variable v at) s l fewer down earlier = go (entered c v l low)
    where
      low : v < first_name
      low = ltb→lt v first_name s.loadable

      is : get_or nodes p 0 ≡ v
      is = s.words.1

      go : (depth (resolve (bindings ss nodes state n) (var (record { copy = c; number = v }))) ≡ 0) ⊎ Entered ss nodes state n c v → Shallow ss nodes state n (depth (resolve (bindings ss nodes state n) (var (record { copy = c; number = v }))))
      go (inl z) = none-shallow ss nodes state n (depth (resolve (bindings ss nodes state n) (var (record { copy = c; number = v })))) z
      go (inr o) =
          let r : v < first_name = low in
          let w : get_or nodes p 0 ≡ v = is in
          let k : cell_of c (get_or nodes p 0) < x = down (omega arith) in
          let e : trail_at state o.i ≡ cell_of c (get_or nodes p 0) = o.cell ∙ ap (cell_of c) (sym is) in
          subst (Shallow ss nodes state n) o.same (earlier o.i o.inside o.same (omega arith))
  node-shallow p c x (compound at f ts) s l fewer down earlier =
      name-shallow c at f ts l (both (is_listed ss f (arity ts)) (are_loadable ss ts) s.loadable).1 s.shallow fewer

  -- every entry is shallow: by how many brackets it opens, and then by its cell
  entry-shallow : (k i : ℕ) → i < n → entry_depth ss nodes state n i * cells + trail_at state i < k → Shallow ss nodes state n (entry_depth ss nodes state n i)
  unfolding entry_depth value_of
  entry-shallow zero i l h = absurd (let z : entry_depth ss nodes state n i * cells + trail_at state i < 0 = h in omega arith)
  entry-shallow (suc k) i l h =
      subst (Shallow ss nodes state n) (sym same)
      (node-shallow place copy (trail_at state i) entry.node.0 entry.node.1 (copy-small word)
      (λ j q less. entry-shallow k j q (let a : trail_at state j < cells = (store.raw.entry j q).cell in let m : entry_depth ss nodes state n i * cells + trail_at state i < suc k = h in let e : entry_depth ss nodes state n i ≡ depth (resolve (bindings ss nodes state n) (copied copy entry.node.0)) = same in omega arith))
      entry.down
      (λ j q equal less. entry-shallow k j q (let m : entry_depth ss nodes state n i * cells + trail_at state i < suc k = h in let e : entry_depth ss nodes state n i ≡ depth (resolve (bindings ss nodes state n) (copied copy entry.node.0)) = same in omega arith)))
    where
      entry : TrailEntry ss nodes state i
      entry = store.raw.entry i l

      word : ℕ
      word = cell_at state (trail_at state i)

      place : ℕ
      place = node_of word

      copy : ℕ
      copy = copy_of word

      same : entry_depth ss nodes state n i ≡ depth (resolve (bindings ss nodes state n) (copied copy entry.node.0))
      same = ap depth (resolve-bound ss nodes state n (trail_at state i) store.raw entry.cell store.acyclic entry.bound ∙ ap (resolve (bindings ss nodes state n)) (term-at ss nodes place copy entry.node.0 entry.node.1))

  each-shallow : (i : ℕ) → i < n → Shallow ss nodes state n (entry_depth ss nodes state n i)
  each-shallow i l = entry-shallow (suc (entry_depth ss nodes state n i * cells + trail_at state i)) i l (omega arith)

  at_most : (s : ℕ) → Shallow ss nodes state n s → s ≤ brackets * (n + 1)
  at_most s h = let k : below (entry_depth ss nodes state n) n s ≤ n = below-few (entry_depth ss nodes state n) n s in omega arith

  -- the term of a node in a copy
  pub shallow-term : (p c : ℕ) → Node ss nodes p → c < copies → depth (resolve (bindings ss nodes state n) (term_at ss nodes p c)) ≤ brackets * (n + 1)
  shallow-term p c node l =
      let e : depth (resolve (bindings ss nodes state n) (term_at ss nodes p c)) ≡ depth (resolve (bindings ss nodes state n) (copied c node.0)) = ap (λ (t : RTerm). depth (resolve (bindings ss nodes state n) t)) (term-at ss nodes p c node.0 node.1) in
      at_most (depth (resolve (bindings ss nodes state n) (term_at ss nodes p c)))
      (subst (Shallow ss nodes state n) (sym e) (node-shallow p c (suc (cell_of c (get_or nodes p 0))) node.0 node.1 l (λ i q less. each-shallow i q) (λ low. omega arith) (λ i q equal less. each-shallow i q)))

  -- the value of a variable of the goal
  pub shallow-value : (i : ℕ) → i < first_name → depth (value_in (bindings ss nodes state n) i) ≤ brackets * (n + 1)
  shallow-value i l = go (entered 0 i (omega arith) l)
    where
      go : (depth (value_in (bindings ss nodes state n) i) ≡ 0) ⊎ Entered ss nodes state n 0 i → depth (value_in (bindings ss nodes state n) i) ≤ brackets * (n + 1)
      go (inl z) = omega arith
      go (inr o) = at_most (depth (value_in (bindings ss nodes state n) i)) (subst (Shallow ss nodes state n) o.same (each-shallow o.i o.inside))

  -- `deepest` brackets are room enough: no more cells can be bound than there are
  pub shallow-terms : (p c : ℕ) → Node ss nodes p → c < copies → depth (resolve (bindings ss nodes state n) (term_at ss nodes p c)) ≤ deepest
  shallow-terms p c node l = let a : depth (resolve (bindings ss nodes state n) (term_at ss nodes p c)) ≤ brackets * (n + 1) = shallow-term p c node l in let b : n ≤ cells = few ss nodes state n store.raw in omega arith

  pub shallow-values : (i : ℕ) → i < first_name → depth (value_in (bindings ss nodes state n) i) ≤ deepest
  shallow-values i l = let a : depth (value_in (bindings ss nodes state n) i) ≤ brackets * (n + 1) = shallow-value i l in let b : n ≤ cells = few ss nodes state n store.raw in omega arith
