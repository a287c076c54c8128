-- Laws of the search, one for each way out of the functions. Assumes nothing.
use Prim.Native.Nat.{ℕ, zero, suc, ◌+◌, ◌-◌, ◌*◌, ◌≤◌, ◌<◌}
use native.Mathlib.Numerals.{add-one}
use native.Mathlib.Omega.{arith}
use mathlib.Core.Path.{◌≡◌, refl, sym, ap, ap₂, ◌∙◌}
use mathlib.Core.Bool.{Bool, true, false, ◌&&◌}
use mathlib.Core.List.{List, [], ◌∷◌}
use lib.Dec.{eqb, leb}
use lib.ListN.{length, get_or, take, drop, length-drop}
use lib.Seq.{length-take-le, take-length}
use borrow.Author.Tests.{eq-eqb, ne_eqb, le-leb, lt-leb, leb-true}
use Rattle.words.proofs.TextsLaws.{alike-on, alike-differ, alike_end}
use Rattle.syntax.specs.Terms.{same_bytes, same_predicate}
use Rattle.syntax.specs.Tokens.{spelling}
use Rattle.syntax.specs.Words.{declaration_size}
use Rattle.syntax.specs.declared.Entry.{Entry}
use Rattle.std.specs.Prelude.{Some}
use Rattle.marks.specs.declared.lookup.Lookup.{Lookup}
use Rattle.marks.specs.Searching.{matches, found, missing, look_from, look_up, stored_entry, stored_entries}

-- ---- a name at a place

abbrev pub name_at : List ℕ → List ℕ → ℕ → Bool
name_at text name place = leb (place + length name) (length text) && same_bytes (spelling text place (length name)) name

module _ (text name : List ℕ) (place : ℕ) where
  at-past : length text < place + length name → false ≡ name_at text name place
  at-past l = sym (ap (λ (t : Bool). t && same_bytes (spelling text place (length name)) name) (lt-leb (place + length name) (length text) l))

  pub at_long : length text < length name → false ≡ name_at text name place
  at_long l = at-past (omega arith)

  module _ (l : length name ≤ length text) where
    pub at_end : length text - length name < place → false ≡ name_at text name place
    at_end m = at-past (omega arith)

    module _ (m : place ≤ length text - length name) where
      -- the name is compared as the part of itself from byte 0 on
      at-inside : (r : Bool) → r ≡ same_bytes (spelling text place (length name)) (spelling name 0 (length name)) → r ≡ name_at text name place
      at-inside r e =
          let k : place + length name ≤ length text = omega arith in
          e ∙ ap (λ (x : List ℕ). same_bytes (spelling text place (length name)) x) (take-length name)
          ∙ sym (ap (λ (t : Bool). t && same_bytes (spelling text place (length name)) name) (le-leb (place + length name) (length text) k))

      pub at-empty : length name ≡ 0 → true ≡ name_at text name place
      at-empty z = at-inside true (alike_end text place name 0 (length name) (length name) (omega arith) refl)

      module _ (z : length name ≡ 0 → ⊥) where
        both : (place + length name ≤ length text) × (0 + length name ≤ length name)
        both = (omega arith, omega arith)

        some : 0 < length name
        some = omega arith

        last : get_or name (length name - 1) 0 ≡ get_or name (0 + (length name - 1)) 0
        last = let k : length name - 1 ≡ 0 + (length name - 1) = omega arith in ap (λ (j : ℕ). get_or name j 0) k

        pub at-differs : (get_or text (place + (length name - 1)) 0 ≡ get_or name (length name - 1) 0 → ⊥) → false ≡ name_at text name place
        at-differs d = at-inside false (alike-differ text place name 0 (length name) (length name) some (omega arith) both (λ e. d (e ∙ sym last)) refl)

        pub at_rest : get_or text (place + (length name - 1)) 0 ≡ get_or name (length name - 1) 0 → (r : Bool)
            → r ≡ same_bytes (spelling text place (length name - 1)) (spelling name 0 (length name - 1)) → r ≡ name_at text name place
        at_rest d r e = at-inside r (e ∙ sym (alike-on text place name 0 (length name) (length name) some (omega arith) both (d ∙ last) refl))

-- ---- one entry

and-false : (t : Bool) → (t && false) ≡ false
and-false true = refl
and-false false = refl

-- names of different lengths differ
pub lengths_differ : (a b : List ℕ) → (length a ≡ length b → ⊥) → same_bytes a b ≡ false
unfolding same_bytes
lengths_differ [] [] n = absurd (n refl)
lengths_differ [] (y ∷ b) n = refl
lengths_differ (x ∷ a) [] n = refl
lengths_differ (x ∷ a) (y ∷ b) n = ap (λ (t : Bool). eqb x y && t) (lengths_differ a b (λ e. n (ap suc e))) ∙ and-false (eqb x y)

pub spelling-long : (g : List ℕ) (at len : ℕ) → at + len ≤ length g → length (spelling g at len) ≡ len
spelling-long g at len h = length-take-le len (drop at g) (omega (arith, length-drop at g))

-- an entry that reaches past the text's end matches nothing
pub past_end : (text name : List ℕ) (n : ℕ) (e : Entry) → length text < e.at + e.len → matches text name n e ≡ false
unfolding matches
past_end text name n e l = ap (λ (t : Bool). t && same_predicate (spelling text e.at e.len) e.arguments name n) (lt-leb (e.at + e.len) (length text) l)

-- one inside it matches where it is of the predicate
pub inside-text : (text name : List ℕ) (n : ℕ) (e : Entry) → e.at + e.len ≤ length text
    → matches text name n e ≡ same_predicate (spelling text e.at e.len) e.arguments name n
unfolding matches
inside-text text name n e l = ap (λ (t : Bool). t && same_predicate (spelling text e.at e.len) e.arguments name n) (le-leb (e.at + e.len) (length text) l)

other-arity : (text name : List ℕ) (n : ℕ) (e : Entry) → (e.arguments ≡ n → ⊥) → matches text name n e ≡ false
unfolding matches
other-arity text name n e d =
    ap (λ (t : Bool). leb (e.at + e.len) (length text) && (t && same_bytes (spelling text e.at e.len) name)) (ne_eqb e.arguments n d)
    ∙ and-false (leb (e.at + e.len) (length text))

other_length : (text name : List ℕ) (n : ℕ) (e : Entry) (b : Bool) → leb (e.at + e.len) (length text) ≡ b → (e.len ≡ length name → ⊥) → matches text name n e ≡ false
unfolding matches
other_length text name n e true h d =
    let l : e.at + e.len ≤ length text = leb-true (e.at + e.len) (length text) h in
    let long : length (spelling text e.at e.len) ≡ e.len = spelling-long text e.at e.len l in
    inside-text text name n e l
    ∙ ap (λ (t : Bool). eqb e.arguments n && t) (lengths_differ (spelling text e.at e.len) name (λ k. d (sym long ∙ k)))
    ∙ and-false (eqb e.arguments n)
other_length text name n e false h d = ap (λ (t : Bool). t && same_predicate (spelling text e.at e.len) e.arguments name n) h

module _ (text entries name : List ℕ) (p arguments bytes : ℕ) (eb : bytes ≡ get_or entries (p + 1) 0) where
  pub by_length : (bytes ≡ length name → ⊥) → false ≡ matches text name arguments (stored_entry entries p)
  by_length d = sym (other_length text name arguments (stored_entry entries p) _ refl (λ e. d (eb ∙ e)))

  module _ (count : ℕ) (ec : count ≡ get_or entries (p + 2) 0) where
    pub by-arguments : (count ≡ arguments → ⊥) → false ≡ matches text name arguments (stored_entry entries p)
    by-arguments d = sym (other-arity text name arguments (stored_entry entries p) (λ e. d (ec ∙ e)))

    pub by_name : bytes ≡ length name → count ≡ arguments → (place : ℕ) → place ≡ get_or entries p 0 → (r : Bool) → r ≡ name_at text name place
        → r ≡ matches text name arguments (stored_entry entries p)
    unfolding matches
    by_name el ea place ep r e =
        let es : eqb (get_or entries (p + 2) 0) arguments ≡ true = eq-eqb (get_or entries (p + 2) 0) arguments (sym ec ∙ ea) in
        e
        ∙ ap₂ (λ (a l : ℕ). leb (a + l) (length text) && same_bytes (take l (drop a text)) name) ep (sym el ∙ eb)
        ∙ ap (λ (t : Bool). leb (get_or entries p 0 + get_or entries (p + 1) 0) (length text)
        && (t && same_bytes (spelling text (get_or entries p 0) (get_or entries (p + 1) 0)) name)) (sym es)

-- ---- the search

pub look-by : (text name : List ℕ) (n k : ℕ) (e : Entry) (es : List Entry) (b : Bool) → matches text name n e ≡ b
    → look_from text name n k (e ∷ es) ≡ elim b as (λ _. Lookup) [ true ↦ found k | false ↦ look_from text name n (suc k) es ]
unfolding look_from
look-by text name n k e es b h = ap (λ (t : Bool). elim t as (λ _. Lookup) [ true ↦ found k | false ↦ look_from text name n (suc k) es ]) h

-- a place, and how many entries were compared
abbrev answer : ℕ → ℕ → Lookup
answer i k = record { place = Some i; compared = k }

-- what is left of the search from entry i on
pub record Rest (text entries : List ℕ) (n : ℕ) (name : List ℕ) (arguments i : ℕ) : Type 0 where
  pub left : ℕ
  pub count : n ≡ i + left
  pub same : look_up text name arguments (stored_entries entries 0 n) ≡ look_from text name arguments i (stored_entries entries (i * declaration_size) left)

pub rest-first : {text entries : List ℕ} {n : ℕ} {name : List ℕ} {arguments : ℕ} → Rest text entries n name arguments 0
rest-first {text} {entries} {n} = record { left = n; count = omega arith; same = refl }

module _ {text entries : List ℕ} {n : ℕ} {name : List ℕ} {arguments i : ℕ} where
  none_left : n ≤ i → (r : Rest text entries n name arguments i) (left : ℕ) → r.left ≡ left → missing n ≡ look_up text name arguments (stored_entries entries 0 n)
  unfolding look_from stored_entries
  none_left l r zero e =
      let k : n ≡ i = omega (arith, r.count) in
      ap missing k ∙ sym (r.same ∙ ap (λ (m : ℕ). look_from text name arguments i (stored_entries entries (i * declaration_size) m)) e)
  none_left l r (suc left) e = absurd (omega (arith, r.count))

  pub rest-missing : n ≤ i → Rest text entries n name arguments i → missing n ≡ look_up text name arguments (stored_entries entries 0 n)
  rest-missing l r = none_left l r r.left refl

  -- with one entry at least left, the search looks at it
  record Turn (r : Rest text entries n name arguments i) : Type 0 where
    others : ℕ
    count : n ≡ i + suc others
    same : look_up text name arguments (stored_entries entries 0 n)
        ≡ look_from text name arguments i (stored_entry entries (i * declaration_size) ∷ stored_entries entries (i * declaration_size + declaration_size) others)

  turn_by : i < n → (r : Rest text entries n name arguments i) (left : ℕ) → r.left ≡ left → Turn r
  unfolding stored_entries
  turn_by l r zero e = absurd (omega (arith, r.count))
  turn_by l r (suc others) e = record {
    others = others;
    count = omega (arith, r.count);
    same = r.same ∙ ap (λ (m : ℕ). look_from text name arguments i (stored_entries entries (i * declaration_size) m)) e;
  }

  turn : i < n → (r : Rest text entries n name arguments i) → Turn r
  turn l r = turn_by l r r.left refl

  module _ (l : i < n) {b : Bool} (eb : b ≡ matches text name arguments (stored_entry entries (i * declaration_size))) where
    pub rest_found : b ≡ true → Rest text entries n name arguments i → record { place = Some i; compared = i + 1 } ≡ look_up text name arguments (stored_entries entries 0 n)
    rest_found t r =
        let w : Turn r = turn l r in
        ap (answer i) (add-one i)
        ∙ sym (w.same ∙ look-by text name arguments i (stored_entry entries (i * declaration_size)) (stored_entries entries (i * declaration_size + declaration_size) w.others) true (sym eb ∙ t))

    pub rest_on : b ≡ false → Rest text entries n name arguments i → Rest text entries n name arguments (i + 1)
    rest_on f r =
        let w : Turn r = turn l r in
        let next : i * declaration_size + declaration_size ≡ (i + 1) * declaration_size = omega arith in
        record {
          left = w.others;
          count = omega (arith, w.count);
          same =
              w.same ∙ look-by text name arguments i (stored_entry entries (i * declaration_size)) (stored_entries entries (i * declaration_size + declaration_size) w.others) false (sym eb ∙ f)
              ∙ ap₂ (λ (k p : ℕ). look_from text name arguments k (stored_entries entries p w.others)) (sym (add-one i)) next;
        }
