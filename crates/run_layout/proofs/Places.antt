-- The records of a body: what stands in each, and what goes on from there. Assumes nothing.
use Prim.Native.Nat.{ℕ, suc, ◌+◌, ◌-◌, ◌≤◌, ◌<◌}
use native.Mathlib.Omega.{arith}
use mathlib.Core.Path.{◌≡◌, refl, sym, ap, ◌∙◌, subst}
use mathlib.Core.Bool.{Bool, true, false}
use mathlib.Core.List.{List}
use lib.Dec.{ltb}
use borrow.Author.Tests.{ltb-true, ltb-false, lt-ltb, le-ltb, le-leb, lt-leb}
use Rattle.syntax.specs.Terms.{Literal, call, equation, truth, falsity, either, Body, done, also, Sheet}
use Rattle.syntax.specs.Words.{literal_length, body_length, truth_kind, falsity_kind, call_kind, equation_kind}
use Rattle.run_layout.specs.Regions.{body_end_kind, split_kind, jump_kind, literal_from}
use Rattle.run_layout.specs.Nodes.{Symbol}
use Rattle.run_layout.specs.Program.{record_kind, RefersTo, right_of, PlainLoaded, LiteralLoaded, ItemsLoaded, BodyLoaded}
use Rattle.run_layout.specs.Pile.{body_then, from_literal, from_body, drop_body, NoJump}

-- ---- tests

-- by whether a number is below another
split_at : {P : Type 0} (i k : ℕ) → (i < k → P) → (k ≤ i → P) → P
split_at {P} i k under over = go (ltb i k) refl
  where
    go : (b : Bool) → ltb i k ≡ b → P
    go true e = under (ltb-true i k e)
    go false e = over (ltb-false i k e)

-- ---- bodies one behind the other

pub joined-done : (b : Body) → body_then b done ≡ b
unfolding body_then
joined-done done = refl
joined-done (also x b) = ap (also x) (joined-done b)

-- ---- the definition, by where a record is

here-is : (x : Literal) (b r : Body) (i : ℕ) → i < literal_length x → from_body (also x b) i r ≡ from_literal x i (body_then b r)
unfolding from_body
here-is x b r i l = ap (λ (t : Bool). elim t as (λ _. Body) [ true ↦ from_literal x i (body_then b r) | false ↦ from_body b (i - literal_length x) r ]) (lt-ltb i (literal_length x) l)

behind_is : (x : Literal) (b r : Body) (i : ℕ) → from_body (also x b) (literal_length x + i) r ≡ from_body b i r
unfolding from_body
behind_is x b r i =
    ap (λ (t : Bool). elim t as (λ _. Body) [ true ↦ from_literal x (literal_length x + i) (body_then b r) | false ↦ from_body b (literal_length x + i - literal_length x) r ])
    (le-ltb (literal_length x + i) (literal_length x) (omega arith))
    ∙ ap (λ (k : ℕ). from_body b k r) (let e : literal_length x + i - literal_length x ≡ i = omega arith in e)

left_is : (y z r : Body) (i : ℕ) → i ≤ body_length y → from_literal (either y z) (suc i) r ≡ from_body y i r
unfolding from_literal
left_is y z r i l = ap (λ (t : Bool). elim t as (λ _. Body) [ true ↦ from_body y i r | false ↦ from_body z (i - (body_length y + 1)) r ]) (le-leb i (body_length y) l)

right_is : (y z r : Body) (i : ℕ) → from_literal (either y z) (suc (body_length y + 1 + i)) r ≡ from_body z i r
unfolding from_literal
right_is y z r i =
    ap (λ (t : Bool). elim t as (λ _. Body) [ true ↦ from_body y (body_length y + 1 + i) r | false ↦ from_body z (body_length y + 1 + i - (body_length y + 1)) r ])
    (lt-leb (body_length y + 1 + i) (body_length y) (omega arith))
    ∙ ap (λ (k : ℕ). from_body z k r) (let e : body_length y + 1 + i - (body_length y + 1) ≡ i = omega arith in e)

-- ---- the records from one on

-- f gives what goes on from the records of a literal, and of a body, which begin with record n and have r behind them
abbrev mutual
  GoesLiteral : (ℕ → Body) → ℕ → Literal → Body → Type 0
  GoesLiteral f n (call a) r = f n ≡ also (call a) r
  GoesLiteral f n (equation t u) r = f n ≡ also (equation t u) r
  GoesLiteral f n truth r = f n ≡ also truth r
  GoesLiteral f n falsity r = f n ≡ also falsity r
  GoesLiteral f n (either y z) r = (f n ≡ also (either y z) r) × Goes f (n + 1) y r × Goes f (n + right_of y) z r

  Goes : (ℕ → Body) → ℕ → Body → Body → Type 0
  Goes f n done r = f n ≡ r
  Goes f n (also x b) r = GoesLiteral f n x (body_then b r) × Goes f (n + literal_length x) b r

module _ (f : ℕ → Body) where
  goes-literal : (n : ℕ) (x : Literal) (r : Body) → GoesLiteral f n x r → f n ≡ also x r
  goes-literal n (call a) r g = g
  goes-literal n (equation t u) r g = g
  goes-literal n truth r g = g
  goes-literal n falsity r g = g
  goes-literal n (either y z) r g = g.0

  -- from the first record, all of it; from the end, what is behind
  goes_first : (n : ℕ) (b r : Body) → Goes f n b r → f n ≡ body_then b r
  unfolding body_then
  goes_first n done r g = g
  goes_first n (also x b) r g = goes-literal n x (body_then b r) g.0

  goes_end : (n : ℕ) (b r : Body) → Goes f n b r → f (n + body_length b) ≡ r
  unfolding body_length
  goes_end n done r g = ap f (let e : n + 0 ≡ n = omega arith in e) ∙ g
  goes_end n (also x b) r g =
      ap f (let e : n + (literal_length x + body_length b) ≡ n + literal_length x + body_length b = omega arith in e) ∙ goes_end (n + literal_length x) b r g.1

  mutual
    unfolding literal_length from_literal

    goes_in : (x : Literal) (n : ℕ) (r : Body) → ((i : ℕ) → i < literal_length x → f (n + i) ≡ from_literal x i r) → GoesLiteral f n x r
    goes_in (call a) n r h = ap f (let e : n ≡ n + 0 = omega arith in e) ∙ h 0 (omega arith)
    goes_in (equation t u) n r h = ap f (let e : n ≡ n + 0 = omega arith in e) ∙ h 0 (omega arith)
    goes_in truth n r h = ap f (let e : n ≡ n + 0 = omega arith in e) ∙ h 0 (omega arith)
    goes_in falsity n r h = ap f (let e : n ≡ n + 0 = omega arith in e) ∙ h 0 (omega arith)
    goes_in (either y z) n r h = (
      ap f (let e : n ≡ n + 0 = omega arith in e) ∙ h 0 (omega arith),
      goes-on y (n + 1) r (λ i l. ap f (let e : n + 1 + i ≡ n + suc i = omega arith in e) ∙ (h (suc i) (omega (arith, l)) ∙ left_is y z r i l)),
      goes-on z (n + right_of y) r
          (λ i l. ap f (let e : n + right_of y + i ≡ n + suc (body_length y + 1 + i) = omega arith in e) ∙ (h (suc (body_length y + 1 + i)) (omega (arith, l)) ∙ right_is y z r i)),
    )

    goes-on : (b : Body) (n : ℕ) (r : Body) → ((i : ℕ) → i ≤ body_length b → f (n + i) ≡ from_body b i r) → Goes f n b r
    goes-on done n r h = ap f (let e : n ≡ n + 0 = omega arith in e) ∙ h 0 (omega arith)
    goes-on (also x b) n r h = (
      goes_in x n (body_then b r) (λ i l. h i (omega (arith, l)) ∙ here-is x b r i l),
      goes-on b (n + literal_length x) r
          (λ i l. ap f (let e : n + literal_length x + i ≡ n + (literal_length x + i) = omega arith in e) ∙ (h (literal_length x + i) (omega (arith, l)) ∙ behind_is x b r i)),
    )

-- ---- what stands in each record

-- record i of a body that begins at `start` and has its end as record `stop`
pub data Item (ss : List Symbol) (sh : Sheet) (nodes code : List ℕ) (start stop : ℕ) (f : ℕ → Body) (i : ℕ) : Type 0 where
  the_end : record_kind code (literal_from start i) ≡ body_end_kind → f i ≡ done → Item ss sh nodes code start stop f i
  a_literal : (x : Literal) → PlainLoaded ss sh nodes code (literal_from start i) x → i < stop → f i ≡ also x (f (suc i)) → Item ss sh nodes code start stop f i
  a_split : (y z r : Body) (m : ℕ) → RefersTo code split_kind (literal_from start i) (literal_from start m) → i < stop → m ≤ stop → f i ≡ also (either y z) r
      → f (suc i) ≡ body_then y r → f m ≡ body_then z r → Item ss sh nodes code start stop f i
  a_jump : (m : ℕ) → RefersTo code jump_kind (literal_from start i) (literal_from start m) → i < m → m ≤ stop → f m ≡ f i → Item ss sh nodes code start stop f i

module _ (ss : List Symbol) (sh : Sheet) (nodes code : List ℕ) (start stop : ℕ) (f : ℕ → Body) where
  -- a literal that is no bracket
  literal-item : (x : Literal) (n i : ℕ) (r : Body) → PlainLoaded ss sh nodes code (literal_from start n) x → f n ≡ also x r → f (n + 1) ≡ r → n + 1 ≤ stop
      → n ≤ i → i < n + 1 → Item ss sh nodes code start stop f i
  literal-item x n i r s g e l p q =
      let same : n ≡ i = omega arith in
      let next : n + 1 ≡ suc n = omega arith in
      subst (Item ss sh nodes code start stop f) same (a_literal x s (omega (arith, l)) (g ∙ ap (also x) (sym e ∙ ap f next)))

  -- the end of a side
  jump-item : (n m i : ℕ) (r : Body) → RefersTo code jump_kind (literal_from start n) (literal_from start m) → f n ≡ r → f m ≡ r → n < m → m ≤ stop → n ≤ i → i ≤ n
      → Item ss sh nodes code start stop f i
  jump-item n m i r s g e k l p q =
      let same : n ≡ i = omega arith in
      subst (Item ss sh nodes code start stop f) same (a_jump m s k l (e ∙ sym g))

  mutual
    unfolding literal_length

    literal-items : (x : Literal) (n : ℕ) (r : Body) → LiteralLoaded ss sh nodes code start n x → GoesLiteral f n x r → f (n + literal_length x) ≡ r
        → n + literal_length x ≤ stop → (i : ℕ) → n ≤ i → i < n + literal_length x → Item ss sh nodes code start stop f i
    literal-items (call a) n r s g e l i p q = literal-item (call a) n i r s g e l p q
    literal-items (equation t u) n r s g e l i p q = literal-item (equation t u) n i r s g e l p q
    literal-items truth n r s g e l i p q = literal-item truth n i r s g e l p q
    literal-items falsity n r s g e l i p q = literal-item falsity n i r s g e l p q
    literal-items (either y z) n r s g e l i p q =
        split_at i (n + 1)
        (λ k. subst (Item ss sh nodes code start stop f) (let same : n ≡ i = omega (arith, k) in same)
        (a_split y z r (n + right_of y) s.0 (omega (arith, l)) (omega (arith, l)) g.0
        (ap f (let next : suc n ≡ n + 1 = omega arith in next) ∙ goes_first f (n + 1) y r g.1) (goes_first f (n + right_of y) z r g.2)))
        (λ k. split_at i (n + 1 + body_length y) (λ j. body-items y (n + 1) r s.1 g.1 (omega (arith, l)) i k j)
        (λ j. split_at i (n + right_of y) (λ m. jump-item (n + 1 + body_length y) (n + (3 + (body_length y + body_length z))) i r s.2 (goes_end f (n + 1) y r g.1) e (omega arith) l j (omega (arith, m)))
        (λ m. split_at i (n + right_of y + body_length z) (λ o. body-items z (n + right_of y) r s.3 g.2 (omega (arith, l)) i m o)
        (λ o. jump-item (n + right_of y + body_length z) (n + (3 + (body_length y + body_length z))) i r s.4 (goes_end f (n + right_of y) z r g.2) e (omega arith) l o (omega (arith, q))))))

    body-items : (b : Body) (n : ℕ) (r : Body) → ItemsLoaded ss sh nodes code start n b → Goes f n b r → n + body_length b ≤ stop → (i : ℕ) → n ≤ i
        → i < n + body_length b → Item ss sh nodes code start stop f i
    body-items done n r s g l i p q = absurd (omega (arith, p, q))
    body-items (also x b) n r s g l i p q =
        split_at i (n + literal_length x)
        (λ k. literal-items x n (body_then b r) s.0 g.0 (goes_first f (n + literal_length x) b r g.1) (omega (arith, l)) i p k)
        (λ k. body-items b (n + literal_length x) r s.1 g.1 (omega (arith, l)) i k (omega (arith, q)))

-- each record of a body that stands, and its end
none_more : (i : ℕ) → 0 + i ≡ i
none_more i = omega arith

pub item-at : (ss : List Symbol) (sh : Sheet) (nodes code : List ℕ) (l : ℕ) (b : Body) (f : ℕ → Body) → BodyLoaded ss sh nodes code l b
    → ((i : ℕ) → f i ≡ drop_body i b) → (i : ℕ) → i ≤ body_length b → Item ss sh nodes code l (body_length b) f i
unfolding drop_body
item-at ss sh nodes code l b f s h i low =
    let goes : Goes f 0 b done = goes-on f b 0 done (λ j q. ap f (none_more j) ∙ h j) in
    split_at i (body_length b) (λ k. body-items ss sh nodes code l (body_length b) f b 0 done s.items goes (omega arith) i (omega arith) (omega (arith, k)))
    (λ k. let same : body_length b ≡ i = omega (arith, k, low) in
    subst (Item ss sh nodes code l (body_length b) f) same (the_end s.ends (ap f (sym (none_more (body_length b))) ∙ goes_end f 0 b done goes)))

-- from the first record, all of the body
pub drop-none : (b : Body) → drop_body 0 b ≡ b
unfolding drop_body
drop-none b =
    goes_first (λ i. from_body b i done) 0 b done (goes-on (λ i. from_body b i done) b 0 done (λ i l. ap (λ (k : ℕ). from_body b k done) (none_more i))) ∙ joined-done b

-- no body begins with the end of a side
other-kind : (code : List ℕ) (l k : ℕ) → record_kind code (literal_from l 0) ≡ k → (k ≡ jump_kind → ⊥) → NoJump code l
other-kind code l k q z e =
    let here : literal_from l 0 ≡ l = omega arith in
    z (sym q ∙ (ap (record_kind code) here ∙ e))

first_kind : (ss : List Symbol) (sh : Sheet) (nodes code : List ℕ) (l : ℕ) (x : Literal) → LiteralLoaded ss sh nodes code l 0 x → NoJump code l
first_kind ss sh nodes code l (call a) q = other-kind code l call_kind q.0 (λ z. omega (arith, z))
first_kind ss sh nodes code l (equation t u) q = other-kind code l equation_kind q.0 (λ z. omega (arith, z))
first_kind ss sh nodes code l truth q = other-kind code l truth_kind q (λ z. omega (arith, z))
first_kind ss sh nodes code l falsity q = other-kind code l falsity_kind q (λ z. omega (arith, z))
first_kind ss sh nodes code l (either y z) q = other-kind code l split_kind q.0.0 (λ k. omega (arith, k))

pub body-first : (ss : List Symbol) (sh : Sheet) (nodes code : List ℕ) (l : ℕ) (b : Body) → BodyLoaded ss sh nodes code l b → NoJump code l
unfolding body_length
body-first ss sh nodes code l done s = other-kind code l body_end_kind s.ends (λ z. omega (arith, z))
body-first ss sh nodes code l (also x b) s = first_kind ss sh nodes code l x s.items.0
