-- Laws of the numbers of unbound variables, and of the names of symbols. Assumes nothing.
use Prim.Native.Nat.{ℕ, suc, ◌+◌, ◌≤◌, ◌<◌, ◌^◌}
use native.Mathlib.Nat.{add-zero}
use native.Mathlib.Omega.{arith}
use mathlib.Core.Path.{◌≡◌, refl, sym, ap, ◌∙◌, subst, subst⁻¹, ap₂}
use mathlib.Core.Bool.{Bool, true, false}
use mathlib.Core.List.{List, [], ◌∷◌, ◌++◌}
use mathlib.Core.Option.{Option, none, some}
use lib.Dec.{T, eqb}
use lib.ListN.{length, get_or, set, take, drop, length-set, length-append, length-take}
use lib.Seq.{get_or-set_same, get_or-set_other}
use borrow.Author.Tests.{eqb-true, eqb-false}
use Rattle.syntax.specs.Limits.{word_bytes}
use Rattle.run_layout.specs.Regions.{cells}
use Rattle.syntax.specs.Tokens.{spelling}
use Rattle.words.specs.Buffers.{Appended, decimal}
use Rattle.words.proofs.BuffersLaws.{then, decimal-few}
use Rattle.machine.specs.Substitution.{Variable, same_variable}
use Rattle.machine.specs.Answers.{Piece, unbound, place_of, numbered, bytes_of}
use Rattle.machine.proofs.Tests.{variable-eq, variable-refl}
use Rattle.run_layout.specs.State.{variable_of}
use Rattle.run_layout.proofs.Pigeonhole.{pigeonhole}
use Rattle.run_layout.proofs.State.{cell-eq}
use Rattle.run_layout.specs.Rooms.{Clean}
use Rattle.run_layout.specs.SymbolNames.{name_at, NamePlaced, symbol_name, text_of}
use Rattle.answers.specs.Words.{number_among, number_list, count_word, numbered_cell, Numbers}
use Rattle.syntax.specs.Spans.{span_length}
use Rattle.run_layout.specs.Symbols.{symbol_place}
use Rattle.answers.specs.Telling.{SomeNumbers, VariableNumbered, Written, SpeltSoFar}

-- ---- a part of a text, by its place and length as they were taken out of a word

pub put-part : (text : List ℕ) {out out' : List ℕ} {at a b l m r : ℕ} → a ≡ b → l ≡ m → Appended out at (spelling text a l) out' r → Appended out at (spelling text b m) out' r
put-part text {out} {out'} {at} {r = r} e f p = subst (λ (x : List ℕ). Appended out at x out' r) (ap₂ (spelling text) e f) p

-- ---- names

-- the name of symbol k is the part of a text that its word gives
module _ (symbols sheet goal : List ℕ) (k w : ℕ) {text : List ℕ} {at len : ℕ} (is : text ≡ text_of w sheet goal) (listed : w ≡ get_or symbols k 0) (place : at ≡ symbol_place w) (long : len ≡ span_length w) where
  pub name-inside : NamePlaced symbols sheet goal k → at + len ≤ length text
  name-inside h =
      let i : symbol_place (get_or symbols k 0) + span_length (get_or symbols k 0) ≤ length (text_of (get_or symbols k 0) sheet goal) = h.inside in
      let e : symbol_place w + span_length w ≤ length (text_of w sheet goal) = subst⁻¹ (λ (x : ℕ). symbol_place x + span_length x ≤ length (text_of x sheet goal)) listed i in
      rw (is, place, long) e

  pub name-is : {out out' : List ℕ} {from r : ℕ} → Appended out from (spelling text at len) out' r → Appended out from (name_at symbols sheet goal k) out' r
  unfolding name_at
  name-is {out} {out'} {from} {r} p =
      subst (λ (v : ℕ). Appended out from (symbol_name sheet goal v) out' r) listed (rw (← is, ← place, ← long) p)

-- ---- places among the variables met

last_one : Bool → ℕ → Option ℕ
last_one true n = some n
last_one false n = none

or_else : Option ℕ → Option ℕ → Option ℕ
or_else none o = o
or_else (some k) o = some k

place_here : (w u : Variable) (n : ℕ) (met : List Variable) → same_variable w u ≡ true → place_of w n (u ∷ met) ≡ some n
unfolding place_of
place_here w u n met e = rw (e, place_of)

place-later : (w u : Variable) (n : ℕ) (met : List Variable) → same_variable w u ≡ false → place_of w n (u ∷ met) ≡ place_of w (suc n) met
unfolding place_of
place-later w u n met e = rw (e, place_of)

place_none : (w : Variable) (n : ℕ) → place_of w n [] ≡ none
unfolding place_of
place_none w n = refl

place-append : (w v : Variable) (n : ℕ) (met : List Variable) → place_of w n (met ++ (v ∷ [])) ≡ or_else (place_of w n met) (last_one (same_variable w v) (n + length met))
unfolding or_else last_one
place-append w v n [] = go (same_variable w v) refl
  where
    go : (b : Bool) → same_variable w v ≡ b → place_of w n (v ∷ []) ≡ or_else (place_of w n []) (last_one b (n + 0))
    go true e = rw (place_none w n, place_here w v n [] e, add-zero)
    go false e = rw (place_none w n, place-later w v n [] e, place_none w (suc n))
place-append w v n (u ∷ met) = go (same_variable w u) refl (place-append w v (suc n) met)
  where
    go : (b : Bool) → same_variable w u ≡ b → place_of w (suc n) (met ++ (v ∷ [])) ≡ or_else (place_of w (suc n) met) (last_one (same_variable w v) (suc n + length met))
        → place_of w n (u ∷ (met ++ (v ∷ []))) ≡ or_else (place_of w n (u ∷ met)) (last_one (same_variable w v) (n + suc (length met)))
    go true e ih = rw (place_here w u n (met ++ (v ∷ [])) e, place_here w u n met e)
    go false e ih =
        place-later w u n (met ++ (v ∷ [])) e
        ∙ (ih ∙ ap (λ (k : ℕ). or_else (place_of w (suc n) met) (last_one (same_variable w v) k)) (let q : suc n + length met ≡ n + suc (length met) = omega arith in q))
        ∙ ap (λ (o : Option ℕ). or_else o (last_one (same_variable w v) (n + suc (length met)))) (sym (place-later w u n met e))

-- a place is at least where counting begins
AtLeast : ℕ → Option ℕ → Type 0
AtLeast n none = Unit {0}
AtLeast n (some k) = n ≤ k

place-least : (w : Variable) (n : ℕ) (met : List Variable) → AtLeast n (place_of w n met)
unfolding AtLeast
place-least w n [] = rw (place_none w n) tt
place-least w n (u ∷ met) = go (same_variable w u) refl (place-least w (suc n) met)
  where
    less : (o : Option ℕ) → AtLeast (suc n) o → AtLeast n o
    less none h = tt
    less (some k) h = omega arith

    go : (b : Bool) → same_variable w u ≡ b → AtLeast (suc n) (place_of w (suc n) met) → AtLeast n (place_of w n (u ∷ met))
    go true e h = rw (place_here w u n met e) (omega arith)
    go false e h = rw (place-later w u n met e) (less (place_of w (suc n) met) h)

-- ---- numbers

number-none : (v : Variable) (met : List Variable) → place_of v 1 met ≡ none → number_among v met ≡ 0
unfolding number_among
number-none v met e = rw (e, number_among)

number-some : (v : Variable) (met : List Variable) (k : ℕ) → place_of v 1 met ≡ some k → number_among v met ≡ k
unfolding number_among
number-some v met k e = rw (e, number_among)

bytes-known : (v : Variable) (met : List Variable) (k : ℕ) (ps : List Piece) → place_of v 1 met ≡ some k → bytes_of met (unbound v ∷ ps) ≡ numbered k (bytes_of met ps)
unfolding bytes_of
bytes-known v met k ps e = rw (e, bytes_of)

bytes-new : (v : Variable) (met : List Variable) (ps : List Piece) → place_of v 1 met ≡ none → bytes_of met (unbound v ∷ ps) ≡ numbered (suc (length met)) (bytes_of (met ++ (v ∷ [])) ps)
unfolding bytes_of
bytes-new v met ps e = rw (e, bytes_of)

-- it has a number
pub number-known : (met : List Variable) (x : ℕ) (numbers : List ℕ) {w : ℕ} → w ≡ get_or numbers x 0 → x < cells → (w ≡ 0 → ⊥) → Numbers numbers met
    → VariableNumbered met x numbers w
number-known met x numbers {w} q l z h = go (place_of (variable_of x) 1 met) refl
  where
    go : (o : Option ℕ) → place_of (variable_of x) 1 met ≡ o → VariableNumbered met x numbers w
    go none e = absurd (z (q ∙ (h.number x l ∙ number-none (variable_of x) met e)))
    go (some k) e =
        let is_k : w ≡ k = q ∙ (h.number x l ∙ number-some (variable_of x) met k e) in
        record {
          met_after = met;
          numbers_after = h;
          is = λ ps. bytes-known (variable_of x) met k ps e ∙ ap (λ (j : ℕ). numbered j (bytes_of met ps)) (sym is_k);
        }

true-if : (b : Bool) → T b → b ≡ true
true-if true h = refl
true-if false h = absurd h

-- the number of another cell stays
other-stays : (x y : ℕ) (met : List Variable) → (y ≡ x → ⊥) → number_among (variable_of y) (met ++ (variable_of x ∷ [])) ≡ number_among (variable_of y) met
unfolding or_else last_one
other-stays x y met d = go (place_of (variable_of y) 1 met) refl
  where
    differ : (b : Bool) → same_variable (variable_of y) (variable_of x) ≡ b → same_variable (variable_of y) (variable_of x) ≡ false
    differ true e = absurd (d (cell-eq y x (variable-eq (variable_of y) (variable_of x) (rw e tt))))
    differ false e = e

    go : (o : Option ℕ) → place_of (variable_of y) 1 met ≡ o → number_among (variable_of y) (met ++ (variable_of x ∷ [])) ≡ number_among (variable_of y) met
    go none e =
        number-none (variable_of y) (met ++ (variable_of x ∷ [])) (place-append (variable_of y) (variable_of x) 1 met ∙ rw (e, differ (same_variable (variable_of y) (variable_of x)) refl))
        ∙ sym (number-none (variable_of y) met e)
    go (some k) e =
        number-some (variable_of y) (met ++ (variable_of x ∷ [])) k (place-append (variable_of y) (variable_of x) 1 met ∙ rw e)
        ∙ sym (number-some (variable_of y) met k e)

-- the number of the cell itself
own-number : (x : ℕ) (met : List Variable) → place_of (variable_of x) 1 met ≡ none → number_among (variable_of x) (met ++ (variable_of x ∷ [])) ≡ suc (length met)
unfolding or_else last_one
own-number x met e =
    let same : same_variable (variable_of x) (variable_of x) ≡ true = true-if (same_variable (variable_of x) (variable_of x)) (variable-refl (variable_of x)) in
    number-some (variable_of x) (met ++ (variable_of x ∷ [])) (1 + length met) (place-append (variable_of x) (variable_of x) 1 met ∙ rw (e, same))
    ∙ (let q : 1 + length met ≡ suc (length met) = omega arith in q)

-- ---- one more cell with a number

module _ (numbers : List ℕ) (met : List Variable) (h : Numbers numbers met) where
  same-place : (i j : ℕ) → i < length met → j < length met → numbered_cell numbers i ≡ numbered_cell numbers j → i ≡ j
  same-place i j l k e =
      let a : get_or numbers (numbered_cell numbers i) 0 ≡ suc i = h.listed i l in
      let b : get_or numbers (numbered_cell numbers j) 0 ≡ suc j = h.listed j k in
      let c : get_or numbers (numbered_cell numbers i) 0 ≡ get_or numbers (numbered_cell numbers j) 0 = ap (λ (y : ℕ). get_or numbers y 0) e in
      omega arith

  few-numbered : length met ≤ cells
  few-numbered = pigeonhole cells (length met) (numbered_cell numbers) h.cell same-place

-- the table with cell x listed behind n others, and its number
abbrev numbered_words : List ℕ → ℕ → ℕ → List ℕ
numbered_words numbers x n = set (set (set numbers (number_list + n) x) x (n + 1)) count_word (n + 1)

module _ (numbers : List ℕ) (met : List Variable) (x : ℕ) (small : x < cells) (z : get_or numbers x 0 ≡ 0) (h : Numbers numbers met) where
  abbrev n : ℕ
  n = length met

  unlisted : (j : ℕ) → j < n → numbered_cell numbers j ≡ x → ⊥
  unlisted j l e =
      let a : get_or numbers (numbered_cell numbers j) 0 ≡ suc j = h.listed j l in
      let b : get_or numbers (numbered_cell numbers j) 0 ≡ 0 = ap (λ (y : ℕ). get_or numbers y 0) e ∙ z in
      omega arith

  -- while a cell has no number there is room on the list
  numbers-room : n < cells
  numbers-room = let k : suc n ≤ cells = pigeonhole cells (suc n) at at-small at-apart in omega arith
    where
      pick : Bool → ℕ → ℕ
      pick true j = x
      pick false j = numbered_cell numbers j

      at : ℕ → ℕ
      at j = pick (eqb j n) j

      before : (j : ℕ) → j < suc n → eqb j n ≡ false → j < n
      before j l e = let q : j ≡ n → ⊥ = eqb-false j n e in omega (arith, q)

      at-small : (j : ℕ) → j < suc n → at j < cells
      at-small j l = go (eqb j n) refl
        where
          go : (b : Bool) → eqb j n ≡ b → pick b j < cells
          go true e = small
          go false e = h.cell j (before j l e)

      at-apart : (i j : ℕ) → i < suc n → j < suc n → at i ≡ at j → i ≡ j
      at-apart i j l k e = go (eqb i n) refl (eqb j n) refl e
        where
          go : (a : Bool) → eqb i n ≡ a → (b : Bool) → eqb j n ≡ b → pick a i ≡ pick b j → i ≡ j
          go true p true q r = eqb-true i n p ∙ sym (eqb-true j n q)
          go true p false q r = absurd (unlisted j (before j k q) (sym r))
          go false p true q r = absurd (unlisted i (before i l p) r)
          go false p false q r = same-place numbers met h i j (before i l p) (before j k q) r

  abbrev listing : List ℕ
  listing = set numbers (number_list + n) x

  abbrev marking : List ℕ
  marking = set listing x (n + 1)

  abbrev after : List ℕ
  after = numbered_words numbers x n

  listing-long : length listing ≡ length numbers
  listing-long = simp length-set refl

  marking-long : length marking ≡ length numbers
  marking-long = simp length-set refl

  after-long : length after ≡ length numbers
  after-long = simp length-set refl

  after-count : get_or after count_word 0 ≡ n + 1
  after-count = get_or-set_same marking count_word (n + 1) 0 (omega (arith, marking-long, h.long))

  own-mark : get_or after x 0 ≡ n + 1
  own-mark = get_or-set_other marking count_word x (n + 1) 0 (λ q. omega arith) ∙ get_or-set_same listing x (n + 1) 0 (omega (arith, listing-long, h.long))

  other-mark : (y : ℕ) → y < cells → (y ≡ x → ⊥) → get_or after y 0 ≡ get_or numbers y 0
  other-mark y l d =
      get_or-set_other marking count_word y (n + 1) 0 (λ q. omega arith)
      ∙ (get_or-set_other listing x y (n + 1) 0 d ∙ get_or-set_other numbers (number_list + n) y x 0 (λ q. omega arith))

  own-place : numbered_cell after n ≡ x
  own-place =
      get_or-set_other marking count_word (number_list + n) (n + 1) 0 (λ q. omega (arith, numbers-room))
      ∙ (get_or-set_other listing x (number_list + n) (n + 1) 0 (λ q. omega arith)
      ∙ get_or-set_same numbers (number_list + n) x 0 (omega (arith, numbers-room, h.long)))

  other-place : (j : ℕ) → j < n → numbered_cell after j ≡ numbered_cell numbers j
  other-place j l =
      get_or-set_other marking count_word (number_list + j) (n + 1) 0 (λ q. omega (arith, numbers-room))
      ∙ (get_or-set_other listing x (number_list + j) (n + 1) 0 (λ q. omega arith)
      ∙ get_or-set_other numbers (number_list + n) (number_list + j) x 0 (λ q. omega arith))

  -- of the first n + 1 cells listed, the last or another
  last-or : (P : ℕ → Type 0) → P n → ((j : ℕ) → j < n → P j) → (j : ℕ) → j < n + 1 → P j
  last-or P last others j l = go (eqb j n) refl
    where
      go : (b : Bool) → eqb j n ≡ b → P j
      go true e = subst P (sym (eqb-true j n e)) last
      go false e = let d : j ≡ n → ⊥ = eqb-false j n e in others j (omega (arith, d))

  after-cell : (j : ℕ) → j < n + 1 → numbered_cell after j < cells
  after-cell = last-or (λ (i : ℕ). numbered_cell after i < cells) (rw own-place small) (λ i k. rw (other-place i k) (h.cell i k))

  after-listed : (j : ℕ) → j < n + 1 → get_or after (numbered_cell after j) 0 ≡ suc j
  after-listed = last-or (λ (i : ℕ). get_or after (numbered_cell after i) 0 ≡ suc i) last others
    where
      last : get_or after (numbered_cell after n) 0 ≡ suc n
      last = ap (λ (y : ℕ). get_or after y 0) own-place ∙ (own-mark ∙ (let q : n + 1 ≡ suc n = omega arith in q))

      others : (i : ℕ) → i < n → get_or after (numbered_cell after i) 0 ≡ suc i
      others i k =
          ap (λ (y : ℕ). get_or after y 0) (other-place i k)
          ∙ (other-mark (numbered_cell numbers i) (h.cell i k) (unlisted i k) ∙ h.listed i k)

  after-only : (m : ℕ) → m ≡ n + 1 → (y : ℕ) → y < cells → (get_or after y 0 ≡ 0 → ⊥) → (j : ℕ) × (j < m) × (numbered_cell after j ≡ y)
  after-only m f y l s = go (eqb y x) refl
    where
      go : (b : Bool) → eqb y x ≡ b → (j : ℕ) × (j < m) × (numbered_cell after j ≡ y)
      go true e = (n, omega arith, own-place ∙ sym (eqb-true y x e))
      go false e =
          let d : y ≡ x → ⊥ = eqb-false y x e in
          let o : (j : ℕ) × (j < n) × (numbered_cell numbers j ≡ y) = h.only y l (λ q. s (other-mark y l d ∙ q)) in
          (o.0, omega (arith, o.1), other-place o.0 o.1 ∙ o.2)

  module _ (free : place_of (variable_of x) 1 met ≡ none) where
    abbrev met-after : List Variable
    met-after = met ++ (variable_of x ∷ [])

    one-longer : length met-after ≡ n + 1
    one-longer = length-append met (variable_of x ∷ [])

    after-number : (y : ℕ) → y < cells → get_or after y 0 ≡ number_among (variable_of y) met-after
    after-number y l = go (eqb y x) refl
      where
        go : (b : Bool) → eqb y x ≡ b → get_or after y 0 ≡ number_among (variable_of y) met-after
        go true e =
            subst (λ (k : ℕ). get_or after k 0 ≡ number_among (variable_of k) met-after) (sym (eqb-true y x e))
            (own-mark ∙ ((let q : n + 1 ≡ suc n = omega arith in q) ∙ sym (own-number x met free)))
        go false e = let d : y ≡ x → ⊥ = eqb-false y x e in other-mark y l d ∙ (h.number y l ∙ sym (other-stays x y met d))

    one-more : Numbers after met-after
    one-more =
        record {
          long = omega (arith, after-long, h.long);
          counted = after-count ∙ sym one-longer;
          number = after-number;
          cell = λ j l. after-cell j (omega (arith, one-longer));
          listed = λ j l. after-listed j (omega (arith, one-longer));
          only = after-only (length met-after) one-longer;
        }

abbrev NextNumbered : List Variable → ℕ → List ℕ → ℕ → Type 0
NextNumbered met x numbers n = VariableNumbered met x (numbered_words numbers x n) (n + 1)

-- it gets the next one
pub number-new : (met : List Variable) (x : ℕ) (numbers : List ℕ) {w n : ℕ} → w ≡ get_or numbers x 0 → n ≡ get_or numbers count_word 0 → x < cells → w ≡ 0
    → Numbers numbers met → NextNumbered met x numbers n
unfolding AtLeast
number-new met x numbers {w} {n} q c l z h =
    subst⁻¹ (NextNumbered met x numbers) (c ∙ h.counted) (go (place_of (variable_of x) 1 met) refl (place-least (variable_of x) 1 met))
  where
    go : (o : Option ℕ) → place_of (variable_of x) 1 met ≡ o → AtLeast 1 (place_of (variable_of x) 1 met) → NextNumbered met x numbers (length met)
    go (some k) e s =
        let a : 1 ≤ k = rw e at s in
        let b : get_or numbers x 0 ≡ k = h.number x l ∙ number-some (variable_of x) met k e in
        absurd (omega arith)
    go none e s =
        let next : length met + 1 ≡ suc (length met) = omega arith in
        record {
          met_after = met ++ (variable_of x ∷ []);
          numbers_after = one-more numbers met x l (sym q ∙ z) h e;
          is = λ ps. bytes-new (variable_of x) met ps e ∙ ap (λ (j : ℕ). numbered j (bytes_of (met ++ (variable_of x ∷ [])) ps)) (sym next);
        }

-- a cell without a number finds room on the list
pub number-room : {numbers : List ℕ} {x w n : ℕ} → SomeNumbers numbers → w ≡ get_or numbers x 0 → n ≡ get_or numbers count_word 0 → x < cells → w ≡ 0
    → n < cells
number-room {numbers} {x} s q c l z =
    let a : get_or numbers count_word 0 ≡ length s.met = s.numbers_are.counted in
    let d : length s.met < cells = numbers-room numbers s.met x l (sym q ∙ z) s.numbers_are in
    omega arith

-- ---- the numbers taken back

-- Of so many cells listed the first i have no mark; the list is as it was.
pub record Unmarked (before : List ℕ) (count i : ℕ) (now : List ℕ) : Type 0 where
  pub list : (j : ℕ) → j < count → numbered_cell now j ≡ numbered_cell before j
  pub only : (x : ℕ) → x < cells → (get_or now x 0 ≡ 0 → ⊥) → (j : ℕ) × (i ≤ j) × (j < count) × (numbered_cell before j ≡ x)

module _ {before : List ℕ} {count : ℕ} (s : SomeNumbers before) (c : count ≡ get_or before count_word 0) where
  as-many : count ≡ length s.met
  as-many = c ∙ s.numbers_are.counted

  pub unmark-few : count ≤ cells
  unmark-few = omega (arith, few-numbered before s.met s.numbers_are, as-many)

  pub unmark-start : Unmarked before count 0 before
  unmark-start = record { list = λ j l. refl; only = λ x l z. from (s.numbers_are.only x l z) }
    where
      from : {x : ℕ} → ((j : ℕ) × (j < length s.met) × (numbered_cell before j ≡ x)) → (j : ℕ) × (0 ≤ j) × (j < count) × (numbered_cell before j ≡ x)
      from o = (o.0, omega arith, omega (arith, o.1, as-many), o.2)

  module _ {i x : ℕ} {now : List ℕ} (low : i < count) (u : Unmarked before count i now) (at : x ≡ numbered_cell now i) where
    at-before : x ≡ numbered_cell before i
    at-before = at ∙ u.list i low

    pub unmark-cell : x < cells
    unmark-cell = omega (arith, s.numbers_are.cell i (omega (arith, as-many)), at-before)

    pub unmark-next : count_word < length now → Unmarked before count (i + 1) (set now x 0)
    unmark-next long =
        record {
          list = λ j l. get_or-set_other now x (number_list + j) 0 0 (λ q. omega (arith, unmark-cell)) ∙ u.list j l;
          only = λ y l z. go y l z (eqb y x) refl;
        }
      where
        own : get_or (set now x 0) x 0 ≡ 0
        own = get_or-set_same now x 0 0 (omega (arith, unmark-cell))

        go : (y : ℕ) → y < cells → (get_or (set now x 0) y 0 ≡ 0 → ⊥) → (b : Bool) → eqb y x ≡ b
            → (j : ℕ) × (i + 1 ≤ j) × (j < count) × (numbered_cell before j ≡ y)
        go y l z true e = absurd (z (ap (λ (k : ℕ). get_or (set now x 0) k 0) (eqb-true y x e) ∙ own))
        go y l z false e =
            let d : y ≡ x → ⊥ = eqb-false y x e in
            let o : (j : ℕ) × (i ≤ j) × (j < count) × (numbered_cell before j ≡ y) = u.only y l (λ q. z (get_or-set_other now x y 0 0 d ∙ q)) in
            let apart : o.0 ≡ i → ⊥ = (λ q. d (sym o.3 ∙ (ap (numbered_cell before) q ∙ sym at-before))) in
            (o.0, omega (arith, o.1, apart), o.2, o.3)

  pub unmark-end : {i : ℕ} {now : List ℕ} → count_word < length now → count ≤ i → Unmarked before count i now → Clean now
  unmark-end {i} {now} long h u = record { long = omega arith; zero = λ y l. go y l (eqb (get_or now y 0) 0) refl }
    where
      go : (y : ℕ) → y < cells → (b : Bool) → eqb (get_or now y 0) 0 ≡ b → get_or now y 0 ≡ 0
      go y l true e = eqb-true (get_or now y 0) 0 e
      go y l false e =
          let o : (j : ℕ) × (i ≤ j) × (j < count) × (numbered_cell before j ≡ y) = u.only y l (eqb-false (get_or now y 0) 0 e) in
          absurd (omega (arith, o.1, o.2))

-- ---- marks without a number

number-zero : (v : Variable) → number_among v [] ≡ 0
unfolding number_among place_of
number-zero v = refl

none-before : (j : ℕ) → j < 0 → ⊥
none-before j l = omega arith

pub numbers-none : {marks : List ℕ} → Clean marks → count_word < length marks → Numbers (set marks count_word 0) []
numbers-none {marks} c l =
    record {
      long = (let e : length (set marks count_word 0) ≡ length marks = simp length-set refl in omega arith);
      counted = get_or-set_same marks count_word 0 0 l;
      number = λ x k. zero x k ∙ sym (number-zero (variable_of x));
      cell = λ j k. absurd (none-before j k);
      listed = λ j k. absurd (none-before j k);
      only = λ x k z. absurd (z (zero x k));
    }
  where
    zero : (x : ℕ) → x < cells → get_or (set marks count_word 0) x 0 ≡ 0
    zero x k = get_or-set_other marks count_word x 0 0 (λ q. omega arith) ∙ c.zero x k

-- ---- decimals

-- an unbound variable: an underscore, then its number
pub unbound-told : (met : List Variable) (x : ℕ) {r m : ℕ} {mid : List ℕ} {from to : Written} → VariableNumbered met x to.numbers r
    → Appended from.out from.at (95 ∷ []) mid m → Appended mid m (decimal r) to.out to.at
    → (ps : List Piece) → SpeltSoFar (bytes_of met (unbound (variable_of x) ∷ ps)) from to ps
unfolding numbered
unbound-told met x {r} n p q ps =
    record {
      words = (95 ∷ []) ++ decimal r;
      put = then p q;
      met = n.met_after;
      numbers_are = n.numbers_after;
      is = n.is ps;
    }

pub unbound-near : (at m next r : ℕ) (old mid new : List ℕ) → r < 2 ^ 64 → Appended old at (95 ∷ []) mid m → Appended mid m (decimal r) new next → (at ≤ next) × (next ≤ at + word_bytes)
unbound-near at m next r old mid new h p q = let a : m ≡ at + 1 = p.past in let b : next ≡ m + length (decimal r) = q.past in let k : length (decimal r) ≤ 20 = decimal-few r h in (omega arith, omega arith)

pub name-near : (text out out' : List ℕ) (from len at r : ℕ) → len ≤ word_bytes → Appended out at (spelling text from len) out' r → r ≤ at + word_bytes
name-near text out out' from len at r h p =
    let a : r ≡ at + length (spelling text from len) = p.past in
    let b : length (take len (drop from text)) ≤ len = rw length-take (omega arith) in
    omega arith
