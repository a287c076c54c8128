-- Laws of the goal's variables. Assumes nothing.
use Prim.Native.Nat.{ℕ, suc, ◌+◌, ◌-◌, ◌*◌, ◌/◌, ◌%◌, ◌≤◌, ◌<◌, ◌^◌}
use native.Mathlib.Numerals.{add-one}
use native.Mathlib.Omega.{arith}
use mathlib.Core.Path.{◌≡◌, refl, sym, ap, ◌∙◌, subst, subst⁻¹}
use mathlib.Core.Logic.{◌⊎◌, inl, inr}
use mathlib.Core.Bool.{Bool, true, false, ◌&&◌}
use mathlib.Core.List.{List, [], ◌∷◌, ◌++◌, append_assoc}
use lib.Dec.{eqb, leb}
use borrow.Author.Tests.{leb-true, leb-false}
use lib.ListN.{length, get_or, take, drop, length-take, length-drop, length-append}
use lib.Seq.{drop-cons}
use Rattle.syntax.specs.Limits.{variables, word_bytes}
use Rattle.syntax.specs.Spans.{span_at, span_length, spanned, SpanInside, names_from}
use Rattle.run_layout.specs.Regions.{copies, copy_cells, cells, deepest, open_size}
use Rattle.syntax.specs.Quote.{bytes}
use Rattle.syntax.specs.Terms.{same_bytes}
use Rattle.words.specs.Buffers.{Appended}
use Rattle.words.proofs.BuffersLaws.{then, nothing}
use Rattle.machine.specs.Substitution.{Variable, RTerm, var, Binding, resolve}
use Rattle.machine.specs.Answers.{Piece, unbound, bytes_then, spelt, bytes_of, is_anonymous, all_anonymous, values_from}
use Rattle.run_layout.specs.Nodes.{Symbol, Node, term_at}
use Rattle.run_layout.specs.declared.terms.At.{At}
use Rattle.run_layout.specs.State.{at_of, variable_of, node_of, copy_of, cell_at, trail_at, value_of, TrailEntry}
use Rattle.run_layout.proofs.State.{copy-small, resolve-bound, resolve-unbound}
use Rattle.answers.specs.Words.{Numbers, left_to_spell, depth, Named}
use Rattle.answers.specs.Telling.{Written, written, SpeltSoFar, Ample, Counting, SomeNumbers, Setting, SomeSetting, Facing, Walk, Spelling, SpeltToLimit, Lined, Valued, SomeValued, Values, SomeValues, value_in, gap, bindings_of, names_of}
use Rattle.answers.specs.declared.Solution.{Solution}
use Rattle.answers.specs.declared.values.SpeltVariable.{SpeltVariable}
use Rattle.answers.proofs.WalkLaws.{told-whole, told-words, told-after, told-then, bytes-written, walked-told}

-- ---- `_`

and-false : (b : Bool) → (b && false) ≡ false
and-false true = refl
and-false false = refl

and-true : (b : Bool) → (b && true) ≡ b
and-true true = refl
and-true false = refl

not-one : (l : List ℕ) → (length l ≡ 1 → ⊥) → same_bytes l (95 ∷ []) ≡ false
unfolding same_bytes
not-one [] z = refl
not-one (a ∷ []) z = absurd (z refl)
not-one (a ∷ x ∷ l) z = and-false (eqb a 95)

one_byte : (a : ℕ) → same_bytes (a ∷ []) (95 ∷ []) ≡ eqb a 95
unfolding same_bytes
one_byte a = and-true (eqb a 95)

pub anonymous-long : (goal : List ℕ) (w : ℕ) → SpanInside goal w → (span_length w ≡ 1 → ⊥) → false ≡ is_anonymous (spanned goal w)
unfolding is_anonymous
anonymous-long goal w h z =
    let e : length (take (span_length w) (drop (span_at w) goal)) ≡ span_length w = rw (length-take, length-drop) (omega arith) in
    sym (not-one (take (span_length w) (drop (span_at w) goal)) (λ q. z (sym e ∙ q)))

pub anonymous-one : (goal : List ℕ) (w b : ℕ) → SpanInside goal w → span_length w ≡ 1 → b ≡ get_or goal (span_at w) 0 → eqb b 95 ≡ is_anonymous (spanned goal w)
unfolding is_anonymous
anonymous-one goal w b h z e =
    let k : span_at w < length goal = omega arith in
    let d : take (span_length w) (drop (span_at w) goal) ≡ get_or goal (span_at w) 0 ∷ [] = rw (z, drop-cons goal (span_at w) 0 k) refl in
    ap (λ (x : ℕ). eqb x 95) e ∙ (sym (one_byte (get_or goal (span_at w) 0)) ∙ ap (λ (l : List ℕ). same_bytes l (95 ∷ [])) (sym d))

-- ---- whether there is a variable to give

names_more : (goal names : List ℕ) (i k : ℕ) → i < k → names_from goal names i (k - i) ≡ spanned goal (get_or names i 0) ∷ names_from goal names (i + 1) (k - (i + 1))
unfolding names_from
names_more goal names i k l =
    let e : k - i ≡ suc (k - (i + 1)) = omega arith in
    ap (names_from goal names i) e ∙ ap (λ (j : ℕ). spanned goal (get_or names i 0) ∷ names_from goal names j (k - (i + 1))) (sym (add-one i))

names-none : (goal names : List ℕ) (i k : ℕ) → k ≤ i → names_from goal names i (k - i) ≡ []
unfolding names_from
names-none goal names i k l = let e : k - i ≡ 0 = omega arith in ap (names_from goal names i) e

abbrev pub AllFrom : List ℕ → List ℕ → ℕ → ℕ → Type 0
AllFrom goal names k i = all_anonymous (names_from goal names 0 k) ≡ all_anonymous (names_from goal names i (k - i))

pub all_start : (goal names : List ℕ) (k : ℕ) → AllFrom goal names k 0
all_start goal names k = let e : k ≡ k - 0 = omega arith in ap (λ (j : ℕ). all_anonymous (names_from goal names 0 j)) e

all_cons : (x : List ℕ) (xs : List (List ℕ)) → all_anonymous (x ∷ xs) ≡ (is_anonymous x && all_anonymous xs)
unfolding all_anonymous
all_cons x xs = refl

all_here : (goal names : List ℕ) (k i : ℕ) (b : Bool) → i < k → b ≡ is_anonymous (spanned goal (get_or names i 0)) → AllFrom goal names k i → all_anonymous (names_from goal names 0 k) ≡ (b && all_anonymous (names_from goal names (i + 1) (k - (i + 1))))
all_here goal names k i b l e a =
    a ∙ (ap all_anonymous (names_more goal names i k l) ∙ (all_cons (spanned goal (get_or names i 0)) (names_from goal names (i + 1) (k - (i + 1))) ∙ ap (λ (x : Bool). x && all_anonymous (names_from goal names (i + 1) (k - (i + 1)))) (sym e)))

pub all_more : (goal names : List ℕ) (k i w : ℕ) (b : Bool) → i < k → w ≡ get_or names i 0 → b ≡ is_anonymous (spanned goal w) → b ≡ true → AllFrom goal names k i → AllFrom goal names k (i + 1)
all_more goal names k i w b l ew e t a =
    all_here goal names k i b l (e ∙ ap (λ (x : ℕ). is_anonymous (spanned goal x)) ew) a ∙ ap (λ (x : Bool). x && all_anonymous (names_from goal names (i + 1) (k - (i + 1)))) t

pub all-not : (goal names : List ℕ) (k i w : ℕ) (b : Bool) → i < k → w ≡ get_or names i 0 → b ≡ is_anonymous (spanned goal w) → b ≡ false → AllFrom goal names k i → false ≡ all_anonymous (names_from goal names 0 k)
all-not goal names k i w b l ew e t a =
    sym (all_here goal names k i b l (e ∙ ap (λ (x : ℕ). is_anonymous (spanned goal x)) ew) a ∙ ap (λ (x : Bool). x && all_anonymous (names_from goal names (i + 1) (k - (i + 1)))) t)

pub all_end : (goal names : List ℕ) (k i : ℕ) → k ≤ i → AllFrom goal names k i → true ≡ all_anonymous (names_from goal names 0 k)
unfolding all_anonymous
all_end goal names k i l a = sym (a ∙ ap all_anonymous (names-none goal names i k l))

-- a part told, and then a walk
walked-after : {whole : List ℕ} {from mid to : Written} {ps qs : List Piece} (limit : ℕ) → (t : SpeltSoFar whole from mid ps) → SpeltToLimit limit (bytes_of t.met ps) mid to qs → SpeltToLimit limit whole from to qs
walked-after {whole} {from} {mid} {ps = ps} limit t w =
    record {
      done = λ l. told-then t (w.done l);
      over = λ l. let a : limit < mid.at + length (bytes_of t.met ps) = w.over l in let b : mid.at ≡ from.at + length t.words = t.put.past in let c : length whole ≡ length (t.words ++ bytes_of t.met ps) = ap length t.is in let d : length (t.words ++ bytes_of t.met ps) ≡ length t.words + length (bytes_of t.met ps) = length-append t.words (bytes_of t.met ps) in omega arith;
      numbers_are = w.numbers_are;
    }

-- ---- a variable's value

module _ {ss : List Symbol} {n : ℕ} {sol : Solution} {stack : List ℕ} {i w : ℕ} (v : Valued ss n sol stack i) (e : w ≡ get_or sol.state.now i 0) where
  as-cell : value_in (bindings_of ss n sol) i ≡ resolve (bindings_of ss n sol) (var (variable_of i))
  as-cell =
      let l : i < variables = v.low in
      let a : 0 ≡ i / copy_cells = omega arith in
      let d : i ≡ i % copy_cells = omega arith in
      ap (λ (x : Variable). resolve (bindings_of ss n sol) (var x)) (λ j. record { copy = a j; number = d j })

  small : i < cells
  small = let l : i < variables = v.low in omega arith

  pub value-free : w ≡ 0 → value_in (bindings_of ss n sol) i ≡ var (variable_of i)
  value-free z = as-cell ∙ resolve-unbound ss sol.nodes.now sol.state.now n i v.setting.store.raw small (sym e ∙ z)

  -- an unbound variable
  pub value-unbound : (limit : ℕ) (met : List Variable) {from to : Written} {rest : List Piece} → w ≡ 0 → SpeltSoFar (bytes_of met (unbound (variable_of i) ∷ rest)) from to rest
      → SpeltToLimit limit (bytes_of met (spelt (value_in (bindings_of ss n sol) i) rest)) from to rest
  unfolding spelt
  value-unbound limit met {rest = rest} z t =
      walked-told limit (told-whole (ap (λ (x : RTerm). bytes_of met (spelt x rest)) (value-free z)) t)

  -- a bound one, whose word was taken apart
  module _ (z : w ≡ 0 → ⊥) {t : At} (et : t ≡ at_of w) where
    pub value-bound : value_in (bindings_of ss n sol) i ≡ resolve (bindings_of ss n sol) (term_at ss sol.nodes.now t.node t.copy)
    unfolding value_of
    value-bound =
        as-cell
        ∙ (resolve-bound ss sol.nodes.now sol.state.now n i v.setting.store.raw small v.setting.store.acyclic (λ q. z (e ∙ q))
        ∙ (ap (λ (x : ℕ). resolve (bindings_of ss n sol) (term_at ss sol.nodes.now (node_of x) (copy_of x))) (sym e)
        ∙ ap (λ (a : At). resolve (bindings_of ss n sol) (term_at ss sol.nodes.now a.node a.copy)) (sym et)))

    pub value-facing : Ample stack open_size → Facing ss n sol stack t.node t.copy 0
    value-facing room =
        let b : cell_at sol.state.now i ≡ 0 → ⊥ = (λ q. z (e ∙ q)) in
        let o : (j : ℕ) × (j < n) × (trail_at sol.state.now j ≡ i) = v.setting.store.raw.only i small b in
        let entry : TrailEntry ss sol.nodes.now sol.state.now o.0 = v.setting.store.raw.entry o.0 o.1 in
        record {
          setting = v.setting;
          node = subst⁻¹ (λ (a : At). Node ss sol.nodes.now a.node) et (subst (λ (x : ℕ). Node ss sol.nodes.now (node_of x)) (ap (cell_at sol.state.now) o.2 ∙ sym e) entry.node);
          copy = subst⁻¹ (λ (a : At). a.copy < copies) et (copy-small w);
          shallow = (let k : depth (value_in (bindings_of ss n sol) i) ≤ deepest = v.shallow in let q : depth (value_in (bindings_of ss n sol) i) ≡ depth (resolve (bindings_of ss n sol) (term_at ss sol.nodes.now t.node t.copy)) = ap depth value-bound in omega arith);
          room = room;
        }

    -- the term, and then the rows that it laid
    pub value-walked : (limit : ℕ) (met : List Variable) {from to : Written} {mid : Walk} {rest : List Piece}
        → Spelling ss sol.nodes.now (bindings_of ss n sol) (bytes_of met (spelt (resolve (bindings_of ss n sol) (term_at ss sol.nodes.now t.node t.copy)) (left_to_spell ss sol.nodes.now (bindings_of ss n sol) stack 0 rest))) from mid rest
        → ((met' : List Variable) → Setting ss n sol mid.stack mid.height → Numbers mid.text.numbers met' → SpeltToLimit limit (bytes_of met' (left_to_spell ss sol.nodes.now (bindings_of ss n sol) mid.stack mid.height rest)) mid.text to rest)
        → SpeltToLimit limit (bytes_of met (spelt (value_in (bindings_of ss n sol) i) rest)) from to rest
    unfolding left_to_spell
    value-walked limit met {from} {to} {mid} {rest} s f =
        let x : SpeltSoFar (bytes_of met (spelt (value_in (bindings_of ss n sol) i) rest)) from mid.text (left_to_spell ss sol.nodes.now (bindings_of ss n sol) mid.stack mid.height rest) = told-whole (ap (λ (r : RTerm). bytes_of met (spelt r rest)) value-bound) s.told in
        let y : SpeltToLimit limit (bytes_of x.met (left_to_spell ss sol.nodes.now (bindings_of ss n sol) mid.stack mid.height rest)) mid.text to rest = f x.met (record { store = v.setting.store; names = v.setting.names; rows = s.rows }) x.numbers_are in
        walked-after limit x y

-- ---- what stands before a value

pub gap-none : {more : Bool} (out : List ℕ) (at : ℕ) → more ≡ false → Appended out at (gap more) out at
gap-none out at e = rw e (nothing out at)

pub gap-some : {more : Bool} {out new : List ℕ} {at next : ℕ} → more ≡ true → Appended out at (bytes ", ") new next → Appended out at (gap more) new next
gap-some e p = rw e p

pub gap-short : (more : Bool) → length (gap more) ≤ 2
gap-short false = omega arith
gap-short true = omega arith

-- ---- between a term and its rows

module _ {sol : Solution} {stack : List ℕ} {i w : ℕ} {from : Written} (v : SomeValued sol stack i) (k : Counting from.numbers from.at) (e : w ≡ get_or sol.state.now i 0) (z : w ≡ 0 → ⊥) {t : At} (et : t ≡ at_of w) (room : Ample stack open_size)
    {to : Walk}
    (f : (ss : List Symbol) (n : ℕ) (met : List Variable) (rest : List Piece) → Facing ss n sol stack t.node t.copy 0 → Numbers from.numbers met
    → Spelling ss sol.nodes.now (bindings_of ss n sol) (bytes_of met (spelt (resolve (bindings_of ss n sol) (term_at ss sol.nodes.now t.node t.copy)) (left_to_spell ss sol.nodes.now (bindings_of ss n sol) stack 0 rest))) from to rest) where
  first : Spelling v.ss sol.nodes.now (bindings_of v.ss v.n sol) (bytes_of k.met (spelt (resolve (bindings_of v.ss v.n sol) (term_at v.ss sol.nodes.now t.node t.copy)) (left_to_spell v.ss sol.nodes.now (bindings_of v.ss v.n sol) stack 0 []))) from to []
  first = f v.ss v.n k.met [] (value-facing v.is e z et room) k.numbers_are

  pub value-setting : SomeSetting sol to.stack to.height
  value-setting = record { ss = v.ss; n = v.n; is = record { store = v.is.setting.store; names = v.is.setting.names; rows = first.rows } }

  pub value-counting : to.text.at + 100 < 2 ^ 64 → Counting to.text.numbers to.text.at
  value-counting l = record { met = first.told.met; numbers_are = first.told.numbers_are; near = l }

pub nearer : (limit : ℕ) {at m r : ℕ} → (at ≤ m) × (m ≤ at + word_bytes) → (m ≤ r) × ((r ≤ limit + (word_bytes + 1)) ⊎ (r ≡ m)) → (at ≤ r) × ((r ≤ limit + (word_bytes + 1)) ⊎ (r ≤ at + word_bytes))
nearer limit {at} {m} {r} a b = (omega (arith, a.0, b.0), go b.1)
  where
    go : (r ≤ limit + (word_bytes + 1)) ⊎ (r ≡ m) → (r ≤ limit + (word_bytes + 1)) ⊎ (r ≤ at + word_bytes)
    go (inl x) = inl x
    go (inr x) = inr (omega (arith, a.1))

pub word-inside : {goal names : List ℕ} {k i w : ℕ} → Named goal names k → i < k → w ≡ get_or names i 0 → SpanInside goal w
word-inside {goal} {i = i} n l e = subst (λ (x : ℕ). SpanInside goal x) (sym e) (n.inside i l)

-- ---- a variable with its value

values-skip : (b : List Binding) (i : ℕ) (gap : List ℕ) (x : List ℕ) (xs : List (List ℕ)) → is_anonymous x ≡ true → values_from b i gap (x ∷ xs) ≡ values_from b (suc i) gap xs
unfolding values_from
values-skip b i gap x xs e = rw (e, values_from)

values-give : (b : List Binding) (i : ℕ) (gap : List ℕ) (x : List ℕ) (xs : List (List ℕ)) → is_anonymous x ≡ false
    → values_from b i gap (x ∷ xs) ≡ bytes_then gap (bytes_then x (bytes_then (bytes " = ") (spelt (value_in b i) (values_from b (suc i) (bytes ", ") xs))))
unfolding values_from
values-give b i gap x xs e = rw (e, values_from)

bytes-three : (met : List Variable) (f g h : List ℕ) (ps : List Piece) → bytes_of met (bytes_then f (bytes_then g (bytes_then h ps))) ≡ (f ++ (g ++ h)) ++ bytes_of met ps
bytes-three met f g h ps =
    bytes-written met f (bytes_then g (bytes_then h ps))
    ∙ (ap (λ (l : List ℕ). f ++ l) (bytes-written met g (bytes_then h ps) ∙ ap (λ (l : List ℕ). g ++ l) (bytes-written met h ps))
    ∙ (ap (λ (l : List ℕ). f ++ l) (sym (append_assoc g h (bytes_of met ps))) ∙ sym (append_assoc f (g ++ h) (bytes_of met ps))))

pub binding-skip : (b : List Binding) (i : ℕ) (more : Bool) (w limit : ℕ) (goal : List ℕ) (xs : List (List ℕ)) (met : List Variable) {from : Written} {r : Bool}
    → r ≡ is_anonymous (spanned goal w) → r ≡ true → Numbers from.numbers met
    → SpeltToLimit limit (bytes_of met (values_from b i (gap more) (spanned goal w ∷ xs))) from from (values_from b (suc i) (gap more) xs)
binding-skip b i more w limit goal xs met {from} e t n =
    walked-told limit (told-words met [] n (nothing from.out from.at) (ap (bytes_of met) (values-skip b i (gap more) (spanned goal w) xs (sym e ∙ t))))

pub binding-give : (b : List Binding) (i : ℕ) (more : Bool) (w limit : ℕ) (goal : List ℕ) (xs : List (List ℕ)) (met : List Variable) {from mid to : Written} {r : Bool} → r ≡ is_anonymous (spanned goal w) → r ≡ false
    → Appended from.out from.at (gap more ++ (spanned goal w ++ bytes " = ")) mid.out mid.at
    → SpeltToLimit limit (bytes_of met (spelt (value_in b i) (values_from b (suc i) (bytes ", ") xs))) mid to (values_from b (suc i) (bytes ", ") xs)
    → SpeltToLimit limit (bytes_of met (values_from b i (gap more) (spanned goal w ∷ xs))) from to (values_from b (suc i) (gap true) xs)
binding-give b i more w limit goal xs met {from} {mid} e t p v =
    let is : bytes_of met (values_from b i (gap more) (spanned goal w ∷ xs)) ≡ (gap more ++ (spanned goal w ++ bytes " = ")) ++ bytes_of met (spelt (value_in b i) (values_from b (suc i) (bytes ", ") xs)) =
    ap (bytes_of met) (values-give b i (gap more) (spanned goal w) xs (sym e ∙ t)) ∙ bytes-three met (gap more) (spanned goal w) (bytes " = ") (spelt (value_in b i) (values_from b (suc i) (bytes ", ") xs)) in
    record {
      done = λ l. told-after met (spelt (value_in b i) (values_from b (suc i) (bytes ", ") xs)) p is (v.done l);
      over = λ l. let a : limit < mid.at + length (bytes_of met (spelt (value_in b i) (values_from b (suc i) (bytes ", ") xs))) = v.over l in let d : mid.at ≡ from.at + length (gap more ++ (spanned goal w ++ bytes " = ")) = p.past in let f : length (bytes_of met (values_from b i (gap more) (spanned goal w ∷ xs))) ≡ length ((gap more ++ (spanned goal w ++ bytes " = ")) ++ bytes_of met (spelt (value_in b i) (values_from b (suc i) (bytes ", ") xs))) = ap length is in let g : length ((gap more ++ (spanned goal w ++ bytes " = ")) ++ bytes_of met (spelt (value_in b i) (values_from b (suc i) (bytes ", ") xs))) ≡ length (gap more ++ (spanned goal w ++ bytes " = ")) + length (bytes_of met (spelt (value_in b i) (values_from b (suc i) (bytes ", ") xs))) = length-append (gap more ++ (spanned goal w ++ bytes " = ")) (bytes_of met (spelt (value_in b i) (values_from b (suc i) (bytes ", ") xs))) in omega arith;
      numbers_are = v.numbers_are;
    }

pub nearer-value : (limit : ℕ) {at m r : ℕ} → (at ≤ m) × (m ≤ at + (word_bytes + 5)) → (m ≤ r) × ((r ≤ limit + (word_bytes + 1)) ⊎ (r ≤ m + word_bytes)) → (at ≤ r) × ((r ≤ limit + (word_bytes + 1)) ⊎ (r ≤ at + (2 * word_bytes + 5)))
nearer-value limit {at} {m} {r} a b = (omega (arith, a.0, b.0), go b.1)
  where
    go : (r ≤ limit + (word_bytes + 1)) ⊎ (r ≤ m + word_bytes) → (r ≤ limit + (word_bytes + 1)) ⊎ (r ≤ at + (2 * word_bytes + 5))
    go (inl x) = inl x
    go (inr x) = inr (omega (arith, a.1))

-- ---- all variables, one after another

-- the names from variable i on
abbrev names_after : Solution → ℕ → List (List ℕ)
names_after sol i = names_from sol.goal.now sol.names.now i (sol.count - i)

-- all values, and what is left of them from variable i on
abbrev pieces : List Symbol → ℕ → Solution → List Piece
pieces ss n sol = values_from (bindings_of ss n sol) 0 [] (names_of sol)

abbrev pieces_after : List Symbol → ℕ → Solution → ℕ → Bool → List Piece
pieces_after ss n sol i more = values_from (bindings_of ss n sol) i (gap more) (names_after sol i)

-- whatever the words mean, the variables before i are given, unless the limit is passed
abbrev pub Listing : Solution → List ℕ → Written → ℕ → List ℕ → List ℕ → SpeltVariable → ℕ → Type 0
Listing sol stack₀ from limit numbers out listed i =
    (ss : List Symbol) (n : ℕ) (met : List Variable) → Values ss n sol stack₀ → Numbers from.numbers met
    → SpeltToLimit limit (bytes_of met (pieces ss n sol)) from (written numbers out listed.at) (pieces_after ss n sol i listed.more)

valued : {ss : List Symbol} {n : ℕ} {sol : Solution} {stack₀ stack : List ℕ} {i : ℕ} → Values ss n sol stack₀ → length stack ≡ length stack₀ → i < sol.count → Valued ss n sol stack i
valued {sol = sol} {i = i} v e l =
    record {
      setting = record { store = v.setting.store; names = v.setting.names; rows = record { high = omega arith; each = λ j k. absurd (let z : j < 0 = k in omega arith) } };
      low = (let f : sol.count ≤ variables = v.named.few in omega arith);
      shallow = v.shallow i l;
    }

module _ {sol : Solution} {stack₀ : List ℕ} {from : Written} {limit : ℕ} where
  pub listing_none : Listing sol stack₀ from limit from.numbers from.out (record { at = from.at; more = false }) 0
  listing_none ss n met v h =
      let e : sol.count - 0 ≡ sol.count = omega arith in
      walked-told limit (told-words met [] h (nothing from.out from.at)
      (ap (λ (j : ℕ). bytes_of met (values_from (bindings_of ss n sol) 0 [] (names_from sol.goal.now sol.names.now 0 j))) (sym e)))

  module _ (listed : SpeltVariable) (i : ℕ) {numbers out : List ℕ} (g : Listing sol stack₀ from limit numbers out listed i) where
    pub some-valued : {stack : List ℕ} → SomeValues sol stack₀ → length stack ≡ length stack₀ → i < sol.count → SomeValued sol stack i
    some-valued s e l = record { ss = s.ss; n = s.n; is = valued s.is e l }

    pub listing-counting : SomeValues sol stack₀ → Counting from.numbers from.at → listed.at ≤ limit → listed.at + 100 < 2 ^ 64 → Counting numbers listed.at
    listing-counting s k l f =
        let t = (g s.ss s.n k.met s.is k.numbers_are).done l in
        record { met = t.met; numbers_are = t.numbers_are; near = f }

    pub listing-numbers : SomeValues sol stack₀ → Counting from.numbers from.at → SomeNumbers numbers
    listing-numbers s k = (g s.ss s.n k.met s.is k.numbers_are).numbers_are

    pub listing-next : {stack numbers₁ out₁ : List ℕ} (listed₁ : SpeltVariable) {w : ℕ} → length stack ≡ length stack₀ → i < sol.count → w ≡ get_or sol.names.now i 0 → listed.at ≤ limit
        → ((ss : List Symbol) (n : ℕ) (met : List Variable) (xs : List (List ℕ)) → Valued ss n sol stack i → Numbers numbers met
        → SpeltToLimit limit (bytes_of met (values_from (bindings_of ss n sol) i (gap listed.more) (spanned sol.goal.now w ∷ xs))) (written numbers out listed.at) (written numbers₁ out₁ listed₁.at) (values_from (bindings_of ss n sol) (suc i) (gap listed₁.more) xs))
        → Listing sol stack₀ from limit numbers₁ out₁ listed₁ (i + 1)
    listing-next {stack} {numbers₁} {out₁} listed₁ {w} e l ew p f ss n met v h =
        let t : SpeltSoFar (bytes_of met (pieces ss n sol)) from (written numbers out listed.at) (pieces_after ss n sol i listed.more) = (g ss n met v h).done p in
        let is : names_after sol i ≡ spanned sol.goal.now w ∷ names_after sol (i + 1) = names_more sol.goal.now sol.names.now i sol.count l ∙ ap (λ (x : ℕ). spanned sol.goal.now x ∷ names_after sol (i + 1)) (sym ew) in
        let u : SpeltToLimit limit (bytes_of t.met (values_from (bindings_of ss n sol) i (gap listed.more) (spanned sol.goal.now w ∷ names_after sol (i + 1)))) (written numbers out listed.at) (written numbers₁ out₁ listed₁.at) (values_from (bindings_of ss n sol) (suc i) (gap listed₁.more) (names_after sol (i + 1))) =
        f ss n t.met (names_after sol (i + 1)) (valued v e l) t.numbers_are in
        let y : SpeltToLimit limit (bytes_of t.met (pieces_after ss n sol i listed.more)) (written numbers out listed.at) (written numbers₁ out₁ listed₁.at) (pieces_after ss n sol (i + 1) listed₁.more) =
        subst (λ (j : ℕ). SpeltToLimit limit (bytes_of t.met (pieces_after ss n sol i listed.more)) (written numbers out listed.at) (written numbers₁ out₁ listed₁.at) (values_from (bindings_of ss n sol) j (gap listed₁.more) (names_after sol (i + 1)))) (sym (add-one i))
        (subst (λ (zs : List (List ℕ)). SpeltToLimit limit (bytes_of t.met (values_from (bindings_of ss n sol) i (gap listed.more) zs)) (written numbers out listed.at) (written numbers₁ out₁ listed₁.at) (values_from (bindings_of ss n sol) (suc i) (gap listed₁.more) (names_after sol (i + 1)))) (sym is) u) in
        walked-after limit t y

    pub listing-over : limit < listed.at → (ss : List Symbol) (n : ℕ) (met : List Variable) → Values ss n sol stack₀ → Numbers from.numbers met → Lined limit (bytes_of met (pieces ss n sol)) from.out from.at out listed.at
    listing-over l ss n met v h = record { done = λ k. absurd (omega arith); over = λ k. (g ss n met v h).over k }

    pub listing-end : {new : List ℕ} {next : ℕ} → sol.count ≤ i → Appended out listed.at (10 ∷ []) new next → (ss : List Symbol) (n : ℕ) (met : List Variable) → Values ss n sol stack₀ → Numbers from.numbers met → Lined limit (bytes_of met (pieces ss n sol)) from.out from.at new next
    unfolding values_from bytes_of
    listing-end {new} {next} l p ss n met v h = record { done = λ k. ended (let a : next ≡ listed.at + 1 = p.past in omega arith); over = λ k. past-it k (leb listed.at limit) refl }
      where
        ended : listed.at ≤ limit → Appended from.out from.at (bytes_of met (pieces ss n sol)) new next
        ended q =
            let t : SpeltSoFar (bytes_of met (pieces ss n sol)) from (written numbers out listed.at) (pieces_after ss n sol i listed.more) = (g ss n met v h).done q in
            let e : bytes_of met (pieces ss n sol) ≡ t.words ++ (10 ∷ []) = t.is ∙ ap (λ (zs : List (List ℕ)). t.words ++ bytes_of t.met (values_from (bindings_of ss n sol) i (gap listed.more) zs)) (names-none sol.goal.now sol.names.now i sol.count l) in
            rw e (then t.put p)

        past-it : limit < next → (b : Bool) → leb listed.at limit ≡ b → limit < from.at + length (bytes_of met (pieces ss n sol))
        past-it k true q = let a : next ≡ from.at + length (bytes_of met (pieces ss n sol)) = (ended (leb-true listed.at limit q)).past in omega arith
        past-it k false q = (g ss n met v h).over (leb-false listed.at limit q)

pub near_on : {past r limit : ℕ} → past ≤ limit → limit + 400 < 2 ^ 64 → (past ≤ r) × ((r ≤ limit + (word_bytes + 1)) ⊎ (r ≤ past + (2 * word_bytes + 5))) → r + 300 < 2 ^ 64
near_on {past} {r} {limit} l f h = go h.1
  where
    go : (r ≤ limit + (word_bytes + 1)) ⊎ (r ≤ past + (2 * word_bytes + 5)) → r + 300 < 2 ^ 64
    go (inl x) = omega arith
    go (inr x) = omega arith
