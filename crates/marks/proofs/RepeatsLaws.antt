-- Laws of refusal 7: one for each way out of the functions that look for it. Assumes nothing.
use Prim.Native.Nat.{ℕ, zero, suc, ◌+◌, ◌*◌, ◌≤◌, ◌<◌}
use native.Mathlib.Numerals.{add-one}
use native.Mathlib.Nat.{le_of_suc-le-suc}
use native.Mathlib.Omega.{arith}
use mathlib.Core.Path.{◌≡◌, refl, sym, ap, ap₂, ◌∙◌, subst}
use mathlib.Core.Bool.{Bool, true, false, ◌||◌}
use mathlib.Core.List.{List, [], ◌∷◌, ◌++◌, append_assoc}
use mathlib.Core.Option.{Option, some}
use Rattle.std.specs.Prelude.{Option as Place, Some, None, is_some, option_map}
use lib.ListN.{length, get_or, take, drop, length-take}
use lib.Seq.{split_at, take-suc, drop-cons}
use borrow.Author.Tests.{eq-eqb, ne_eqb}
use Rattle.syntax.specs.Tokens.{spelling}
use Rattle.syntax.specs.Terms.{Declaration, same_name, same_predicate, true_name, fail_name}
use Rattle.syntax.specs.Reading.{declares, repeats, first_repeat}
use Rattle.syntax.specs.Words.{declaration_words, declarations_words}
use Rattle.marks.specs.Spelt.{DeclarationSpelt, DeclarationsSpelt, no_declarations, declaration_stands}
use Rattle.words.specs.Tables.{WordsAt}
use Rattle.marks.specs.Tables.{DeclarationsAt}
use Rattle.marks.specs.Answers.{position}
use Rattle.words.proofs.TablesLaws.{has_left, has_right}
use Rattle.marks.specs.Repeating.{repeat_of, nth_declaration}

-- ---- a list of declarations taken apart at a place

words_append : (a b : List Declaration) → declarations_words (a ++ b) ≡ declarations_words a ++ declarations_words b
unfolding declarations_words
words_append [] b = refl
words_append (d ∷ a) b = ap (λ (w : List ℕ). declaration_words d ++ w) (words_append a b) ∙ sym (append_assoc (declaration_words d) (declarations_words a) (declarations_words b))

words-four : (a : List Declaration) → length (declarations_words a) ≡ 4 * length a
unfolding declarations_words declaration_words
words-four [] = refl
words-four (d ∷ a) = let h : length (declarations_words a) ≡ 4 * length a = words-four a in omega arith

stand-left : {s : List ℕ} (a b : List Declaration) → DeclarationsSpelt s (a ++ b) → DeclarationsSpelt s a
stand-left [] b h = no_declarations
stand-left (d ∷ a) b (declaration_stands k h) = declaration_stands k (stand-left a b h)

stand-right : {s : List ℕ} (a b : List Declaration) → DeclarationsSpelt s (a ++ b) → DeclarationsSpelt s b
stand-right [] b h = h
stand-right (d ∷ a) b (declaration_stands k h) = stand-right a b h

stand-first : {s : List ℕ} {d : Declaration} {b : List Declaration} → DeclarationsSpelt s (d ∷ b) → DeclarationSpelt s d
stand-first (declaration_stands k h) = k

-- the search finds a declaration exactly where there is one
counted : (o : Place ℕ) → is_some (option_map suc o) ≡ is_some o
counted None = refl
counted (Some i) = refl

declared-is : (ds : List Declaration) (name : List ℕ) (n : ℕ) → declares ds name n ≡ is_some (position ds name n)
unfolding declares position
declared-is [] name n = refl
declared-is (d ∷ ds) name n = by (same_predicate d.name (length d.marks) name n) (declared-is ds name n)
  where
    by : (b : Bool) → declares ds name n ≡ is_some (position ds name n)
        → (b || declares ds name n) ≡ is_some (elim b as (λ _. Place ℕ) [ true ↦ Some 0 | false ↦ option_map suc (position ds name n) ])
    by true e = refl
    by false e = e ∙ sym (counted (position ds name n))

past : (i : ℕ) (l : List Declaration) → length l ≤ i → drop i l ≡ []
past zero [] h = refl
past zero (x ∷ l) h = absurd (omega arith)
past (suc i) [] h = refl
past (suc i) (x ∷ l) h = past i l (le_of_suc-le-suc h)

module _ (s declared : List ℕ) (n : ℕ) (w : DeclarationsAt s declared n) (i : ℕ) (h : i < n) where
  abbrev earlier : List Declaration
  earlier = take i w.list

  abbrev one : Declaration
  one = nth_declaration w.list i

  i-in : i < length w.list
  i-in = let c : n ≡ length w.list = w.count in omega arith

  whole : w.list ≡ earlier ++ (one ∷ drop (suc i) w.list)
  whole = split_at w.list i (record { at = 0; name = []; marks = [] }) i-in

  earlier-long : length earlier ≡ i
  earlier-long = let c : i < length w.list = i-in in simp length-take (omega arith)

  words : WordsAt declared 0 (declarations_words earlier ++ declarations_words (one ∷ drop (suc i) w.list))
  words = subst (WordsAt declared 0) (ap declarations_words whole ∙ words_append earlier (one ∷ drop (suc i) w.list)) w.has

  -- the four words of the declaration at the place
  pub one_has : WordsAt declared (4 * i) (declaration_words one)
  unfolding declarations_words
  one_has =
      let p : 0 + length (declarations_words earlier) ≡ 4 * i = (let f : length (declarations_words earlier) ≡ 4 * length earlier = words-four earlier in let e : length earlier ≡ i = earlier-long in omega arith) in
      has_left declared (4 * i) (declaration_words one) (declarations_words (drop (suc i) w.list))
      (subst (λ (k : ℕ). WordsAt declared k (declaration_words one ++ declarations_words (drop (suc i) w.list))) p (has_right declared 0 (declarations_words earlier) (declaration_words one ++ declarations_words (drop (suc i) w.list)) words))

  pub one-stands : DeclarationSpelt s one
  one-stands = stand-first (stand-right earlier (one ∷ drop (suc i) w.list) (subst (DeclarationsSpelt s) whole w.stand))

  pub earlier-at : DeclarationsAt s declared i
  earlier-at = record {
    list = earlier;
    has = has_left declared 0 (declarations_words earlier) (declarations_words (one ∷ drop (suc i) w.list)) words;
    count = sym earlier-long;
    stand = stand-left earlier (one ∷ drop (suc i) w.list) (subst (DeclarationsSpelt s) whole w.stand);
  }

  -- what the words say
  pub place_in : 4 * i + 2 < length declared
  unfolding declaration_words
  place_in = let q : 4 * i + 1 + 1 < length declared = one_has.2.2.0 in omega arith

  pub at_is : get_or declared (4 * i) 0 ≡ one.at
  unfolding declaration_words
  at_is = one_has.1

  len_is : get_or declared (4 * i + 1) 0 ≡ length one.name
  unfolding declaration_words
  len_is = one_has.2.1

  marks-is : get_or declared (4 * i + 2) 0 ≡ length one.marks
  unfolding declaration_words
  marks-is = (let q : 4 * i + 2 ≡ 4 * i + 1 + 1 = omega arith in ap (λ (k : ℕ). get_or declared k 0) q) ∙ one_has.2.2.1

  module _ (at len marks : ℕ) (ea : at ≡ get_or declared (4 * i) 0) (el : len ≡ get_or declared (4 * i + 1) 0) (em : marks ≡ get_or declared (4 * i + 2) 0) where
    pub name-inside : at + len ≤ length s
    name-inside = let inside : one.at + length one.name ≤ length s = one-stands.name.inside in let a : at ≡ one.at = ea ∙ at_is in let l : len ≡ length one.name = el ∙ len_is in omega arith

    pub name-is : spelling s at len ≡ one.name
    name-is = ap₂ (λ (a l : ℕ). spelling s a l) (ea ∙ at_is) (el ∙ len_is) ∙ sym one-stands.name.spelt

    pub arity-is : marks ≡ length one.marks
    arity-is = em ∙ marks-is

    module _ (bytes : List ℕ) (eb : bytes ≡ spelling s at len) (j : Place ℕ) (found : (v : DeclarationsAt s declared i) → j ≡ position v.list bytes marks) where
      earlier-is : declares earlier one.name (length one.marks) ≡ is_some j
      unfolding earlier-at
      earlier-is = declared-is earlier one.name (length one.marks) ∙ sym (ap (λ (o : Place ℕ). is_some o) (found earlier-at ∙ ap₂ (position earlier) (eb ∙ name-is) arity-is))

      pub repeat-earlier : is_some j ≡ true → true ≡ repeats earlier one
      unfolding repeats
      repeat-earlier l = simp (earlier-is ∙ l)

      module _ (l : is_some j ≡ false) where
        not_earlier : declares earlier one.name (length one.marks) ≡ false
        not_earlier = earlier-is ∙ l

        pub repeat-marked : (marks ≡ 0 → ⊥) → false ≡ repeats earlier one
        unfolding repeats
        repeat-marked z = simp (not_earlier, ne_eqb (length one.marks) 0 (λ e. z (arity-is ∙ e)))

        module _ (z : marks ≡ 0) (b : Bool) (et : b ≡ same_name (spelling s at len) true_name) where
          pub repeat-true : b ≡ true → true ≡ repeats earlier one
          unfolding repeats
          repeat-true e = simp (not_earlier, eq-eqb (length one.marks) 0 (sym arity-is ∙ z), ap (λ (x : List ℕ). same_name x true_name) (sym name-is) ∙ sym et ∙ e)

          pub repeat-fail : b ≡ false → (c : Bool) → c ≡ same_name (spelling s at len) fail_name → c ≡ repeats earlier one
          unfolding repeats
          repeat-fail e c ec = ec ∙ ap (λ (x : List ℕ). same_name x fail_name) name-is ∙ simp (not_earlier, eq-eqb (length one.marks) 0 (sym arity-is ∙ z), ap (λ (x : List ℕ). same_name x true_name) (sym name-is) ∙ sym et ∙ e)

  -- ---- the loop
  module _ (so_far : first_repeat [] w.list ≡ first_repeat (take i w.list) (drop i w.list)) where
    first-here : drop i w.list ≡ one ∷ drop (suc i) w.list
    first-here = drop-cons w.list i (record { at = 0; name = []; marks = [] }) i-in

    turn : first_repeat [] w.list ≡ first_repeat earlier (one ∷ drop (suc i) w.list)
    turn = so_far ∙ ap (first_repeat earlier) first-here

    pub found_here : (b : Bool) (byte : ℕ) → b ≡ repeats earlier one → b ≡ true → byte ≡ get_or declared (4 * i) 0 → Some byte ≡ repeat_of (first_repeat [] w.list)
    unfolding first_repeat
    found_here b byte eb e ey =
        ap (λ (k : ℕ). repeat_of (some k)) (ey ∙ at_is)
        ∙ sym (ap repeat_of (turn ∙ ap (λ (t : Bool). elim t as (λ _. Option ℕ) [ true ↦ some one.at | false ↦ first_repeat (earlier ++ (one ∷ [])) (drop (suc i) w.list) ]) (sym eb ∙ e)))

    pub not-here : (b : Bool) → b ≡ repeats earlier one → b ≡ false → first_repeat [] w.list ≡ first_repeat (take (i + 1) w.list) (drop (i + 1) w.list)
    unfolding first_repeat
    not-here b eb e =
        turn
        ∙ ap (λ (t : Bool). elim t as (λ _. Option ℕ) [ true ↦ some one.at | false ↦ first_repeat (earlier ++ (one ∷ [])) (drop (suc i) w.list) ]) (sym eb ∙ e)
        ∙ ap (λ (l : List Declaration). first_repeat l (drop (suc i) w.list)) (sym (take-suc w.list i (record { at = 0; name = []; marks = [] }) i-in))
        ∙ ap (λ (k : ℕ). first_repeat (take k w.list) (drop k w.list)) (sym (add-one i))

pub none_left : (s declared : List ℕ) (n : ℕ) (w : DeclarationsAt s declared n) (i : ℕ) → n ≤ i → first_repeat [] w.list ≡ first_repeat (take i w.list) (drop i w.list) → None ≡ repeat_of (first_repeat [] w.list)
unfolding first_repeat
none_left s declared n w i h so_far = sym (ap repeat_of (so_far ∙ ap (first_repeat (take i w.list)) (past i w.list (let c : n ≡ length w.list = w.count in omega arith))))
