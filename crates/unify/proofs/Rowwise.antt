-- Laws of the walk over two rows. Assumes nothing.
use Prim.Native.Nat.{ℕ, suc, ◌+◌, ◌-◌, ◌≤◌, ◌<◌}
use native.Mathlib.Omega.{arith}
use mathlib.Core.Path.{◌≡◌, refl, sym, ap, ap₂, ◌∙◌, subst}
use mathlib.Core.Bool.{Bool, true, false}
use mathlib.Core.List.{List}
use lib.Dec.{ltb}
use lib.ListN.{length, get_or}
use borrow.Author.Tests.{ltb-true, ltb-false}
use Rattle.syntax.specs.Words.{first_name}
use Rattle.machine.specs.Substitution.{RTerm, RTerms, app, rnil, rcons, Binding, resolve}
use Rattle.machine_theorems.proofs.Terms.{resolve_all, resolve-app, resolve-nil, resolve-cons}
use Rattle.run_layout.specs.Regions.{loaded_node}
use Rattle.run_layout.specs.Nodes.{Symbol, name_of_symbol, Row, term_at, terms_at, followed, count}
use Rattle.run_layout.proofs.Nodes.{node-inside, node_end, node-size, compound-at, compound-row, row_one, row-one-is, row-order, row-none, row_first, row-rest, row_cons, same_count, other-symbol, row-join, row-joined}
use Rattle.unify.specs.Rows.{unify_rows, nodes_of, nodes_of_all, rows_size}
use Rattle.unify.specs.Walks.{RowsBeside, Walkable, TwoNodes, StopsAt, RowsWalked, Walks, WalksTerms, WalksRows}
use Rattle.std.proofs.Common.{Ok, Err}
use Rattle.std.specs.Prelude.{is_err}
use Rattle.unify.specs.declared.walk.WalkStop.{WalkStop}
use Rattle.unify.specs.declared.walk.WalkStop.TheVariants.{Clash, Met}
use Rattle.unify.proofs.Rules.{rows-open, rows-clash, count-resolve}

-- ---- rows behind each other

followed-nil : (ts : RTerms) → followed ts rnil ≡ ts
unfolding followed
followed-nil rnil = refl
followed-nil (rcons t ts) = ap (rcons t) (followed-nil ts)

pub followed-assoc : (a b c : RTerms) → followed (followed a b) c ≡ followed a (followed b c)
unfolding followed
followed-assoc rnil b c = refl
followed-assoc (rcons t a) b c = ap (rcons t) (followed-assoc a b c)

pub count-followed : (a b : RTerms) → count (followed a b) ≡ count a + count b
unfolding followed count
count-followed rnil b = (let e : count b ≡ 0 + count b = omega arith in e)
count-followed (rcons t a) b = let e : count (followed a b) ≡ count a + count b = count-followed a b in omega arith

pub size-followed : (x : List Binding) (a b : RTerms) → rows_size x (followed a b) ≡ rows_size x a + rows_size x b
unfolding followed rows_size
size-followed x rnil b = (let e : rows_size x b ≡ 0 + rows_size x b = omega arith in e)
size-followed x (rcons t a) b = let e : rows_size x (followed a b) ≡ rows_size x a + rows_size x b = size-followed x a b in omega arith

pub size-cons : (x : List Binding) (t : RTerm) (a : RTerms) → rows_size x (rcons t a) ≡ nodes_of (resolve x t) + rows_size x a
unfolding rows_size
size-cons x t a = refl

resolved-size : (x : List Binding) (ts : RTerms) → nodes_of_all (resolve_all x ts) ≡ rows_size x ts
unfolding nodes_of_all rows_size
resolved-size x rnil = ap nodes_of_all (resolve-nil x)
resolved-size x (rcons t ts) = ap nodes_of_all (resolve-cons x t ts) ∙ ap (λ (k : ℕ). nodes_of (resolve x t) + k) (resolved-size x ts)

pub size-app : (x : List Binding) (f : List ℕ) (ts : RTerms) → nodes_of (resolve x (app f ts)) ≡ suc (rows_size x ts)
unfolding nodes_of
size-app x f ts = ap nodes_of (resolve-app x f ts) ∙ ap suc (resolved-size x ts)

count_none : (ts : RTerms) → count ts ≡ 0 → ts ≡ rnil
unfolding count
count_none rnil e = refl
count_none (rcons t ts) e = absurd (let z : suc (count ts) ≡ 0 = e in omega arith)

no_terms : count rnil ≡ 0
unfolding count
no_terms = refl

pub count-one : (t : RTerm) (ts : RTerms) → count (rcons t ts) ≡ suc (count ts)
unfolding count
count-one t ts = refl

pub one-followed : (t : RTerm) (ts us : RTerms) → followed (rcons t ts) us ≡ rcons t (followed ts us)
unfolding followed
one-followed t ts us = refl

pub none-followed : (us : RTerms) → followed rnil us ≡ us
unfolding followed
none-followed us = refl

-- ---- on from a place

-- a walk from i and j on is one from p and q, where what lies between changes nothing
walks-on : (ss : List Symbol) (nodes : List ℕ) (p e q f i j : ℕ) → p ≤ i → ((b : List Binding) (c d : ℕ) (l r : RTerms) → unify_rows b (followed (terms_at ss nodes p e c) l) (followed (terms_at ss nodes q f d) r) ≡ unify_rows b (followed (terms_at ss nodes i e c) l) (followed (terms_at ss nodes j f d) r))
    → ((b : List Binding) (c : ℕ) → rows_size b (terms_at ss nodes i e c) ≤ rows_size b (terms_at ss nodes p e c)) → ((b : List Binding) (d : ℕ) → rows_size b (terms_at ss nodes j f d) ≤ rows_size b (terms_at ss nodes q f d))
    → (o : RowsWalked) → Walks ss nodes i e j f o → Walks ss nodes p e q f o
walks-on ss nodes p e q f i j on means less right (Ok u) k = λ b c d l r. means b c d l r ∙ k b c d l r
walks-on ss nodes p e q f i j on means less right (Err Clash) k = λ b c d l r. means b c d l r ∙ k b c d l r
walks-on ss nodes p e q f i j on means less right (Err (Met m n)) k =
    record {
      beside = k.beside;
      some = k.some;
      means = λ b c d l r. means b c d l r ∙ k.means b c d l r;
      forward = omega (arith, k.forward, on);
      less = λ b c. omega (arith, k.less b c, less b c);
      less_right = λ b d. omega (arith, k.less_right b d, right b d);
    }

-- ---- two terms

module _ (nodes : List ℕ) (p q : ℕ) (g : TwoNodes nodes p q) where
  pub pair_inside : (p + loaded_node ≤ length nodes) × ((q + loaded_node ≤ length nodes) × ((p + get_or nodes (p + 1) 0 ≤ length nodes) × (loaded_node ≤ get_or nodes (p + 1) 0)))
  pair_inside = (node-inside g.ss nodes p g.left, (node-inside g.ss nodes q g.right, (node_end g.ss nodes p g.left, node-size g.ss nodes p g.left)))

  one-beside : RowsBeside g.ss nodes p (p + get_or nodes (p + 1) 0) q (q + get_or nodes (q + 1) 0)
  one-beside =
      record {
        left = row_one g.ss nodes p g.left;
        right = row_one g.ss nodes q g.right;
        same = λ c d. ap count (row-one-is g.ss nodes p c g.left) ∙ (count-one (term_at g.ss nodes p c) rnil ∙ (sym (count-one (term_at g.ss nodes q d) rnil) ∙ sym (ap count (row-one-is g.ss nodes q d g.right))));
      }

  pub term-met : Walks g.ss nodes p (p + get_or nodes (p + 1) 0) q (q + get_or nodes (q + 1) 0) (Err (Met p q))
  term-met =
      let k : loaded_node ≤ get_or nodes (p + 1) 0 = node-size g.ss nodes p g.left in
      record { beside = one-beside; some = omega arith; means = λ b c d l r. refl; forward = omega arith; less = λ b c. omega arith; less_right = λ b d. omega arith }

  -- the row of one term, with others behind it
  row_is : (c : ℕ) (l : RTerms) → followed (terms_at g.ss nodes p (p + get_or nodes (p + 1) 0) c) l ≡ rcons (term_at g.ss nodes p c) l
  row_is c l = ap (λ (ts : RTerms). followed ts l) (row-one-is g.ss nodes p c g.left) ∙ (one-followed (term_at g.ss nodes p c) rnil l ∙ ap (rcons (term_at g.ss nodes p c)) (none-followed l))

  row-is-right : (d : ℕ) (r : RTerms) → followed (terms_at g.ss nodes q (q + get_or nodes (q + 1) 0) d) r ≡ rcons (term_at g.ss nodes q d) r
  row-is-right d r = ap (λ (ts : RTerms). followed ts r) (row-one-is g.ss nodes q d g.right) ∙ (one-followed (term_at g.ss nodes q d) rnil r ∙ ap (rcons (term_at g.ss nodes q d)) (none-followed r))

  module _ (hp : first_name ≤ get_or nodes p 0) (hq : first_name ≤ get_or nodes q 0) where
    abbrev args : ℕ → RTerms
    args c = terms_at g.ss nodes (p + loaded_node) (p + get_or nodes (p + 1) 0) c

    abbrev args-right : ℕ → RTerms
    args-right d = terms_at g.ss nodes (q + loaded_node) (q + get_or nodes (q + 1) 0) d

    pub term-clash : (get_or nodes p 0 ≡ get_or nodes q 0 → ⊥) → Walks g.ss nodes p (p + get_or nodes (p + 1) 0) q (q + get_or nodes (q + 1) 0) (Err Clash)
    term-clash z = λ b c d l r.
        ap₂ (unify_rows b) (row_is c l) (row-is-right d r)
        ∙ rows-clash b (term_at g.ss nodes p c) (term_at g.ss nodes q d) l r (name_of_symbol g.ss (get_or nodes p 0 - first_name)) (name_of_symbol g.ss (get_or nodes q 0 - first_name)) (resolve_all b (args c)) (resolve_all b (args-right d))
        (ap (resolve b) (compound-at g.ss nodes p g.left c hp) ∙ resolve-app b (name_of_symbol g.ss (get_or nodes p 0 - first_name)) (args c))
        (ap (resolve b) (compound-at g.ss nodes q g.right d hq) ∙ resolve-app b (name_of_symbol g.ss (get_or nodes q 0 - first_name)) (args-right d))
        (λ n k. other-symbol g.ss nodes p q c d g.left g.right hp hq z n (sym (count-resolve b (args c)) ∙ (k ∙ count-resolve b (args-right d))))

    module _ (w : get_or nodes p 0 ≡ get_or nodes q 0) where
      pub term-list : Walkable nodes (p + loaded_node) (p + get_or nodes (p + 1) 0) (q + loaded_node)
      term-list =
          record {
            ss = g.ss;
            f = q + get_or nodes (q + 1) 0;
            beside = record { left = compound-row g.ss nodes p g.left hp; right = compound-row g.ss nodes q g.right hq; same = λ c d. same_count g.ss nodes p q c d g.left g.right hp hq w };
          }

      opened : (b : List Binding) (c d : ℕ) (l r : RTerms) → unify_rows b (followed (terms_at g.ss nodes p (p + get_or nodes (p + 1) 0) c) l) (followed (terms_at g.ss nodes q (q + get_or nodes (q + 1) 0) d) r) ≡ unify_rows b (followed (args c) l) (followed (args-right d) r)
      opened b c d l r =
          ap₂ (unify_rows b) (row_is c l) (row-is-right d r)
          ∙ rows-open b (term_at g.ss nodes p c) (term_at g.ss nodes q d) l r (name_of_symbol g.ss (get_or nodes p 0 - first_name)) (args c) (args-right d)
          (ap (resolve b) (compound-at g.ss nodes p g.left c hp))
          (ap (resolve b) (compound-at g.ss nodes q g.right d hq ∙ ap (λ (k : ℕ). app (name_of_symbol g.ss (k - first_name)) (args-right d)) (sym w)))
          (same_count g.ss nodes p q c d g.left g.right hp hq w)

      bigger : (b : List Binding) (c : ℕ) → rows_size b (args c) ≤ rows_size b (terms_at g.ss nodes p (p + get_or nodes (p + 1) 0) c)
      bigger b c =
          let s : rows_size b (terms_at g.ss nodes p (p + get_or nodes (p + 1) 0) c) ≡ nodes_of (resolve b (term_at g.ss nodes p c)) + rows_size b rnil = ap (rows_size b) (row-one-is g.ss nodes p c g.left) ∙ size-cons b (term_at g.ss nodes p c) rnil in
          let t : nodes_of (resolve b (term_at g.ss nodes p c)) ≡ suc (rows_size b (args c)) = ap (λ (x : RTerm). nodes_of (resolve b x)) (compound-at g.ss nodes p g.left c hp) ∙ size-app b (name_of_symbol g.ss (get_or nodes p 0 - first_name)) (args c) in
          omega arith

      bigger-right : (b : List Binding) (d : ℕ) → rows_size b (args-right d) ≤ rows_size b (terms_at g.ss nodes q (q + get_or nodes (q + 1) 0) d)
      bigger-right b d =
          let s : rows_size b (terms_at g.ss nodes q (q + get_or nodes (q + 1) 0) d) ≡ nodes_of (resolve b (term_at g.ss nodes q d)) + rows_size b rnil = ap (rows_size b) (row-one-is g.ss nodes q d g.right) ∙ size-cons b (term_at g.ss nodes q d) rnil in
          let t : nodes_of (resolve b (term_at g.ss nodes q d)) ≡ suc (rows_size b (args-right d)) = ap (λ (x : RTerm). nodes_of (resolve b x)) (compound-at g.ss nodes q g.right d hq) ∙ size-app b (name_of_symbol g.ss (get_or nodes q 0 - first_name)) (args-right d) in
          omega arith

      pub term-open : (o : RowsWalked) → WalksRows nodes (p + loaded_node) (p + get_or nodes (p + 1) 0) (q + loaded_node) o → Walks g.ss nodes p (p + get_or nodes (p + 1) 0) q (q + get_or nodes (q + 1) 0) o
      unfolding term-list
      term-open o k = walks-on _ _ _ _ _ _ _ _ (let o1 : p ≤ p + loaded_node = omega arith in o1) opened bigger bigger-right o (k term-list)

-- ---- two rows

module _ (nodes : List ℕ) (p e q : ℕ) (g : Walkable nodes p e q) where
  pub list-end : e ≤ p → Walks g.ss nodes p e q g.f (Ok tt)
  list-end l = λ b c d ls rs.
      (let left : terms_at g.ss nodes p e c ≡ rnil = row-none g.ss nodes p e g.beside.left c l in
      let right : terms_at g.ss nodes q g.f d ≡ rnil = count_none (terms_at g.ss nodes q g.f d) (sym (g.beside.same c d) ∙ (ap count left ∙ no_terms)) in
      ap₂ (unify_rows b) (ap (λ (ts : RTerms). followed ts ls) left ∙ none-followed ls) (ap (λ (ts : RTerms). followed ts rs) right ∙ none-followed rs))

  module _ (l : p < e) where
    pub right-some : q < g.f
    right-some = go (ltb q g.f) refl
      where
        go : (b : Bool) → ltb q g.f ≡ b → q < g.f
        go true h = ltb-true q g.f h
        go false h =
            absurd (let left : count (terms_at g.ss nodes p e 0) ≡ suc (count (terms_at g.ss nodes (p + get_or nodes (p + 1) 0) e 0)) = ap count (row_cons g.ss nodes p e g.beside.left 0 l) ∙ count-one (term_at g.ss nodes p 0) (terms_at g.ss nodes (p + get_or nodes (p + 1) 0) e 0) in
            let right : count (terms_at g.ss nodes q g.f 0) ≡ 0 = ap count (row-none g.ss nodes q g.f g.beside.right 0 (ltb-false q g.f h)) ∙ no_terms in
            let same : count (terms_at g.ss nodes p e 0) ≡ count (terms_at g.ss nodes q g.f 0) = g.beside.same 0 0 in
            omega arith)

    pub list-pair : TwoNodes nodes p q
    list-pair = record { ss = g.ss; left = row_first g.ss nodes p e g.beside.left l; right = row_first g.ss nodes q g.f g.beside.right right-some }

    pub list_inside : ((p + 1 < length nodes) × (q + 1 < length nodes)) × ((p + get_or nodes (p + 1) 0 ≤ e) × ((q + get_or nodes (q + 1) 0 ≤ length nodes) × ((p + get_or nodes (p + 1) 0 ≤ length nodes) × (loaded_node ≤ get_or nodes (p + 1) 0))))
    list_inside =
        let a : p + loaded_node ≤ length nodes = node-inside g.ss nodes p (row_first g.ss nodes p e g.beside.left l) in
        let b : q + loaded_node ≤ length nodes = node-inside g.ss nodes q (row_first g.ss nodes q g.f g.beside.right right-some) in
        ((omega arith, omega arith), (row-order g.ss nodes (p + get_or nodes (p + 1) 0) e (row-rest g.ss nodes p e g.beside.left l), (node_end g.ss nodes q (row_first g.ss nodes q g.f g.beside.right right-some), (node_end g.ss nodes p (row_first g.ss nodes p e g.beside.left l), node-size g.ss nodes p (row_first g.ss nodes p e g.beside.left l)))))

    rest : Row g.ss nodes (p + get_or nodes (p + 1) 0) e
    rest = row-rest g.ss nodes p e g.beside.left l

    rest-right : Row g.ss nodes (q + get_or nodes (q + 1) 0) g.f
    rest-right = row-rest g.ss nodes q g.f g.beside.right right-some

    one : Row g.ss nodes p (p + get_or nodes (p + 1) 0)
    one = row_one g.ss nodes p (row_first g.ss nodes p e g.beside.left l)

    one_right : Row g.ss nodes q (q + get_or nodes (q + 1) 0)
    one_right = row_one g.ss nodes q (row_first g.ss nodes q g.f g.beside.right right-some)

    same_rest : (c d : ℕ) → count (terms_at g.ss nodes (p + get_or nodes (p + 1) 0) e c) ≡ count (terms_at g.ss nodes (q + get_or nodes (q + 1) 0) g.f d)
    same_rest c d =
        let left : count (terms_at g.ss nodes p e c) ≡ suc (count (terms_at g.ss nodes (p + get_or nodes (p + 1) 0) e c)) = ap count (row_cons g.ss nodes p e g.beside.left c l) ∙ count-one (term_at g.ss nodes p c) (terms_at g.ss nodes (p + get_or nodes (p + 1) 0) e c) in
        let right : count (terms_at g.ss nodes q g.f d) ≡ suc (count (terms_at g.ss nodes (q + get_or nodes (q + 1) 0) g.f d)) = ap count (row_cons g.ss nodes q g.f g.beside.right d right-some) ∙ count-one (term_at g.ss nodes q d) (terms_at g.ss nodes (q + get_or nodes (q + 1) 0) g.f d) in
        let same : count (terms_at g.ss nodes p e c) ≡ count (terms_at g.ss nodes q g.f d) = g.beside.same c d in
        omega arith

    -- the first terms, and then the others
    left_is : (c : ℕ) (ls : RTerms) → followed (terms_at g.ss nodes p e c) ls ≡ followed (terms_at g.ss nodes p (p + get_or nodes (p + 1) 0) c) (followed (terms_at g.ss nodes (p + get_or nodes (p + 1) 0) e c) ls)
    left_is c ls = ap (λ (ts : RTerms). followed ts ls) (row-joined g.ss nodes p (p + get_or nodes (p + 1) 0) e c one rest) ∙ followed-assoc (terms_at g.ss nodes p (p + get_or nodes (p + 1) 0) c) (terms_at g.ss nodes (p + get_or nodes (p + 1) 0) e c) ls

    right_is : (d : ℕ) (rs : RTerms) → followed (terms_at g.ss nodes q g.f d) rs ≡ followed (terms_at g.ss nodes q (q + get_or nodes (q + 1) 0) d) (followed (terms_at g.ss nodes (q + get_or nodes (q + 1) 0) g.f d) rs)
    right_is d rs = ap (λ (ts : RTerms). followed ts rs) (row-joined g.ss nodes q (q + get_or nodes (q + 1) 0) g.f d one_right rest-right) ∙ followed-assoc (terms_at g.ss nodes q (q + get_or nodes (q + 1) 0) d) (terms_at g.ss nodes (q + get_or nodes (q + 1) 0) g.f d) rs

    first-term : (o : RowsWalked) → WalksTerms nodes p q o → Walks g.ss nodes p (p + get_or nodes (p + 1) 0) q (q + get_or nodes (q + 1) 0) o
    unfolding list-pair
    first-term o k = k list-pair

    pub list_clash : WalksTerms nodes p q (Err Clash) → Walks g.ss nodes p e q g.f (Err Clash)
    list_clash k = λ b c d ls rs. ap₂ (unify_rows b) (left_is c ls) (right_is d rs) ∙ first-term (Err Clash) k b c d (followed (terms_at g.ss nodes (p + get_or nodes (p + 1) 0) e c) ls) (followed (terms_at g.ss nodes (q + get_or nodes (q + 1) 0) g.f d) rs)

    pub list-met : (i j : ℕ) → WalksTerms nodes p q (Err (Met i j)) → Walks g.ss nodes p e q g.f (Err (Met i j))
    list-met i j k =
        let m : StopsAt g.ss nodes p (p + get_or nodes (p + 1) 0) q (q + get_or nodes (q + 1) 0) i j = first-term (Err (Met i j)) k in
        let some : i < p + get_or nodes (p + 1) 0 = m.some in
        let order : p + get_or nodes (p + 1) 0 ≤ e = row-order g.ss nodes (p + get_or nodes (p + 1) 0) e rest in
        record {
          beside = record {
            left = row-join g.ss nodes i (p + get_or nodes (p + 1) 0) e m.beside.left rest;
            right = row-join g.ss nodes j (q + get_or nodes (q + 1) 0) g.f m.beside.right rest-right;
            same = λ c d. (let x : count (terms_at g.ss nodes i (p + get_or nodes (p + 1) 0) c) ≡ count (terms_at g.ss nodes j (q + get_or nodes (q + 1) 0) d) = m.beside.same c d in
                let y : count (terms_at g.ss nodes (p + get_or nodes (p + 1) 0) e c) ≡ count (terms_at g.ss nodes (q + get_or nodes (q + 1) 0) g.f d) = same_rest c d in
                let u : count (terms_at g.ss nodes i e c) ≡ count (terms_at g.ss nodes i (p + get_or nodes (p + 1) 0) c) + count (terms_at g.ss nodes (p + get_or nodes (p + 1) 0) e c) = ap count (row-joined g.ss nodes i (p + get_or nodes (p + 1) 0) e c m.beside.left rest) ∙ count-followed (terms_at g.ss nodes i (p + get_or nodes (p + 1) 0) c) (terms_at g.ss nodes (p + get_or nodes (p + 1) 0) e c) in
                let v : count (terms_at g.ss nodes j g.f d) ≡ count (terms_at g.ss nodes j (q + get_or nodes (q + 1) 0) d) + count (terms_at g.ss nodes (q + get_or nodes (q + 1) 0) g.f d) = ap count (row-joined g.ss nodes j (q + get_or nodes (q + 1) 0) g.f d m.beside.right rest-right) ∙ count-followed (terms_at g.ss nodes j (q + get_or nodes (q + 1) 0) d) (terms_at g.ss nodes (q + get_or nodes (q + 1) 0) g.f d) in
                omega arith);
          };
          some = omega arith;
          means = λ b c d ls rs.
              ap₂ (unify_rows b) (left_is c ls) (right_is d rs)
              ∙ (m.means b c d (followed (terms_at g.ss nodes (p + get_or nodes (p + 1) 0) e c) ls) (followed (terms_at g.ss nodes (q + get_or nodes (q + 1) 0) g.f d) rs)
              ∙ ap₂ (unify_rows b)
              (sym (ap (λ (ts : RTerms). followed ts ls) (row-joined g.ss nodes i (p + get_or nodes (p + 1) 0) e c m.beside.left rest) ∙ followed-assoc (terms_at g.ss nodes i (p + get_or nodes (p + 1) 0) c) (terms_at g.ss nodes (p + get_or nodes (p + 1) 0) e c) ls))
              (sym (ap (λ (ts : RTerms). followed ts rs) (row-joined g.ss nodes j (q + get_or nodes (q + 1) 0) g.f d m.beside.right rest-right) ∙ followed-assoc (terms_at g.ss nodes j (q + get_or nodes (q + 1) 0) d) (terms_at g.ss nodes (q + get_or nodes (q + 1) 0) g.f d) rs)));
          forward = m.forward;
          less = λ b c. (let x : rows_size b (terms_at g.ss nodes i (p + get_or nodes (p + 1) 0) c) ≤ rows_size b (terms_at g.ss nodes p (p + get_or nodes (p + 1) 0) c) = m.less b c in
              let u : rows_size b (terms_at g.ss nodes i e c) ≡ rows_size b (terms_at g.ss nodes i (p + get_or nodes (p + 1) 0) c) + rows_size b (terms_at g.ss nodes (p + get_or nodes (p + 1) 0) e c) = ap (rows_size b) (row-joined g.ss nodes i (p + get_or nodes (p + 1) 0) e c m.beside.left rest) ∙ size-followed b (terms_at g.ss nodes i (p + get_or nodes (p + 1) 0) c) (terms_at g.ss nodes (p + get_or nodes (p + 1) 0) e c) in
              let v : rows_size b (terms_at g.ss nodes p e c) ≡ rows_size b (terms_at g.ss nodes p (p + get_or nodes (p + 1) 0) c) + rows_size b (terms_at g.ss nodes (p + get_or nodes (p + 1) 0) e c) = ap (rows_size b) (row-joined g.ss nodes p (p + get_or nodes (p + 1) 0) e c one rest) ∙ size-followed b (terms_at g.ss nodes p (p + get_or nodes (p + 1) 0) c) (terms_at g.ss nodes (p + get_or nodes (p + 1) 0) e c) in
              omega arith);
          less_right = λ b d. (let x : rows_size b (terms_at g.ss nodes j (q + get_or nodes (q + 1) 0) d) ≤ rows_size b (terms_at g.ss nodes q (q + get_or nodes (q + 1) 0) d) = m.less_right b d in
              let u : rows_size b (terms_at g.ss nodes j g.f d) ≡ rows_size b (terms_at g.ss nodes j (q + get_or nodes (q + 1) 0) d) + rows_size b (terms_at g.ss nodes (q + get_or nodes (q + 1) 0) g.f d) = ap (rows_size b) (row-joined g.ss nodes j (q + get_or nodes (q + 1) 0) g.f d m.beside.right rest-right) ∙ size-followed b (terms_at g.ss nodes j (q + get_or nodes (q + 1) 0) d) (terms_at g.ss nodes (q + get_or nodes (q + 1) 0) g.f d) in
              let v : rows_size b (terms_at g.ss nodes q g.f d) ≡ rows_size b (terms_at g.ss nodes q (q + get_or nodes (q + 1) 0) d) + rows_size b (terms_at g.ss nodes (q + get_or nodes (q + 1) 0) g.f d) = ap (rows_size b) (row-joined g.ss nodes q (q + get_or nodes (q + 1) 0) g.f d one_right rest-right) ∙ size-followed b (terms_at g.ss nodes q (q + get_or nodes (q + 1) 0) d) (terms_at g.ss nodes (q + get_or nodes (q + 1) 0) g.f d) in
              omega arith);
        }

    pub list_stop : (x : WalkStop) → WalksTerms nodes p q (Err x) → Walks g.ss nodes p e q g.f (Err x)
    list_stop Clash k = list_clash k
    list_stop (Met i j) k = list-met i j k

    pub list-rest : Walkable nodes (p + get_or nodes (p + 1) 0) e (q + get_or nodes (q + 1) 0)
    list-rest = record { ss = g.ss; f = g.f; beside = record { left = rest; right = rest-right; same = same_rest } }

    module _ (k : WalksTerms nodes p q (Ok tt)) where
      passed : (b : List Binding) (c d : ℕ) (ls rs : RTerms) → unify_rows b (followed (terms_at g.ss nodes p e c) ls) (followed (terms_at g.ss nodes q g.f d) rs) ≡ unify_rows b (followed (terms_at g.ss nodes (p + get_or nodes (p + 1) 0) e c) ls) (followed (terms_at g.ss nodes (q + get_or nodes (q + 1) 0) g.f d) rs)
      passed b c d ls rs = ap₂ (unify_rows b) (left_is c ls) (right_is d rs) ∙ first-term (Ok tt) k b c d (followed (terms_at g.ss nodes (p + get_or nodes (p + 1) 0) e c) ls) (followed (terms_at g.ss nodes (q + get_or nodes (q + 1) 0) g.f d) rs)

      shorter : (b : List Binding) (c : ℕ) → rows_size b (terms_at g.ss nodes (p + get_or nodes (p + 1) 0) e c) ≤ rows_size b (terms_at g.ss nodes p e c)
      shorter b c = let v : rows_size b (terms_at g.ss nodes p e c) ≡ rows_size b (terms_at g.ss nodes p (p + get_or nodes (p + 1) 0) c) + rows_size b (terms_at g.ss nodes (p + get_or nodes (p + 1) 0) e c) = ap (rows_size b) (row-joined g.ss nodes p (p + get_or nodes (p + 1) 0) e c one rest) ∙ size-followed b (terms_at g.ss nodes p (p + get_or nodes (p + 1) 0) c) (terms_at g.ss nodes (p + get_or nodes (p + 1) 0) e c) in omega arith

      shorter-right : (b : List Binding) (d : ℕ) → rows_size b (terms_at g.ss nodes (q + get_or nodes (q + 1) 0) g.f d) ≤ rows_size b (terms_at g.ss nodes q g.f d)
      shorter-right b d = let v : rows_size b (terms_at g.ss nodes q g.f d) ≡ rows_size b (terms_at g.ss nodes q (q + get_or nodes (q + 1) 0) d) + rows_size b (terms_at g.ss nodes (q + get_or nodes (q + 1) 0) g.f d) = ap (rows_size b) (row-joined g.ss nodes q (q + get_or nodes (q + 1) 0) g.f d one_right rest-right) ∙ size-followed b (terms_at g.ss nodes q (q + get_or nodes (q + 1) 0) d) (terms_at g.ss nodes (q + get_or nodes (q + 1) 0) g.f d) in omega arith

      pub list-next : (o : RowsWalked) → WalksRows nodes (p + get_or nodes (p + 1) 0) e (q + get_or nodes (q + 1) 0) o → Walks g.ss nodes p e q g.f o
      unfolding list-rest
      list-next o m = walks-on _ _ _ _ _ _ _ _ (let o1 : p ≤ p + get_or nodes (p + 1) 0 = omega arith in o1) passed shorter shorter-right o (m list-rest)

-- the same with the sizes as they are read
pub list_on : (nodes : List ℕ) (p e q : ℕ) (g : Walkable nodes p e q) (l : p < e) (first : RowsWalked) → first ≡ Ok tt → WalksTerms nodes p q first
    → (s z : ℕ) → s ≡ get_or nodes (p + 1) 0 → z ≡ get_or nodes (q + 1) 0 → (o : RowsWalked) → WalksRows nodes (p + s) e (q + z) o → Walks g.ss nodes p e q g.f o
list_on nodes p e q g l first d k s z a b o m =
    list-next nodes p e q g l (subst (λ (x : RowsWalked). WalksTerms nodes p q x) d k) o
    (subst (λ (y : ℕ). WalksRows nodes (p + get_or nodes (p + 1) 0) e (q + y) o) b (subst (λ (y : ℕ). WalksRows nodes (p + y) e (q + z) o) a m))

-- a walk that stopped, and one that came to the end
pub list-stopped : (nodes : List ℕ) (p e q : ℕ) (g : Walkable nodes p e q) (l : p < e) (first : RowsWalked) → is_err first ≡ true → WalksTerms nodes p q first → Walks g.ss nodes p e q g.f first
list-stopped nodes p e q g l (Err x) i k = list_stop nodes p e q g l x k
list-stopped nodes p e q g l (Ok tt) i k = absurd (cc)

pub walked-on : (first : RowsWalked) → is_err first ≡ false → first ≡ Ok tt
walked-on (Ok tt) i = refl
walked-on (Err x) i = absurd (cc)

pub term-on : (nodes : List ℕ) (p q : ℕ) (g : TwoNodes nodes p q) (w z s : ℕ) → w ≡ get_or nodes p 0 → z ≡ get_or nodes q 0 → first_name ≤ w → first_name ≤ z → w ≡ z → s ≡ get_or nodes (p + 1) 0 → (o : RowsWalked)
    → WalksRows nodes (p + loaded_node) (p + s) (q + loaded_node) o → Walks g.ss nodes p (p + get_or nodes (p + 1) 0) q (q + get_or nodes (q + 1) 0) o
term-on nodes p q g w z s a b hw hz e c o m =
    term-open nodes p q g (subst (λ (k : ℕ). first_name ≤ k) a hw) (subst (λ (k : ℕ). first_name ≤ k) b hz) (sym a ∙ (e ∙ b)) o (subst (λ (y : ℕ). WalksRows nodes (p + loaded_node) (p + y) (q + loaded_node) o) c m)
