-- Laws of declarations and of arguments with a mark, one for each way out of the functions. Assumes nothing.
use Prim.Native.Nat.{ℕ, zero, suc, ◌+◌, ◌-◌, ◌*◌, ◌≤◌, ◌<◌}
use native.Mathlib.Omega.{arith}
use mathlib.Core.Path.{◌≡◌, refl, sym, ap, ap₂, ◌∙◌, subst, subst⁻¹}
use mathlib.Core.Bool.{Bool, true, false}
use mathlib.Core.List.{List, [], ◌∷◌}
use mathlib.Core.Option.{Option, none, some}
use Rattle.std.proofs.Common.{slice_range}
use Rattle.std.specs.Prelude.{Option as Place, Some, None, Ok, Err, is_some, option_map}
use lib.ListN.{length, get_or, take, drop, length-append}
use Rattle.syntax.specs.Limits.{arguments}
use Rattle.syntax.specs.Terms.{arity, Atom, term_of, Mark, Declaration, same_predicate}
use Rattle.syntax.specs.Tokens.{spelling}
use Rattle.syntax.specs.Words.{declaration_words, declarations_words, marks_number, first_name, functor_arity, functor_length, declaration_size}
use Rattle.syntax.specs.declared.Refusal.TheVariants.{Undeclared}
use Rattle.mode_rules.specs.Modes.{marks_of, or_no_marks, marks_for, undeclared, undeclared_atom}
use Rattle.marks.specs.Spelt.{NameAt, TermSpelt, TermsSpelt, stands_compound, DeclarationsSpelt, declaration_stands}
use Rattle.words.specs.Tables.{WordsAt}
use Rattle.marks.specs.Tables.{DeclarationAt, DeclarationsAt, AtomAt, NamedAt}
use Rattle.marks.specs.Answers.{checked_of, atom_name, position}
use Rattle.syntax.specs.declared.Entry.{Entry}
use Rattle.words.proofs.TablesLaws.{Node, node, has_left, has_right, has-inside}
use Rattle.marks.proofs.Places.{Says, says as atom-words}
use Rattle.marks.specs.declared.lookup.Lookup.{Lookup}
use Rattle.marks.specs.Searching.{matches, look_from, look_up, stored_entry, stored_entries}
use Rattle.marks.proofs.LookupLaws.{inside-text, look-by}

-- ---- one declaration

says : (s declared : List ℕ) (p : ℕ) (w : DeclarationAt s declared p)
    → Node declared p w.declaration.at (length w.declaration.name) (length w.declaration.marks) (marks_number w.declaration.marks ∷ [])
unfolding declaration_words
says s declared p w = node declared p _ _ _ _ w.has

pub declaration-room : (s declared : List ℕ) (p : ℕ) → DeclarationAt s declared p → p + 2 < length declared
declaration-room s declared p w = (says s declared p w).inside

-- the entry of a declaration's words matches where the declaration is of the predicate
pub matches-declared : (s declared : List ℕ) (p : ℕ) (name : List ℕ) (n : ℕ) (w : DeclarationAt s declared p)
    → matches s name n (stored_entry declared p) ≡ same_predicate w.declaration.name (length w.declaration.marks) name n
matches-declared s declared p name n w =
    let o : Node declared p w.declaration.at (length w.declaration.name) (length w.declaration.marks) (marks_number w.declaration.marks ∷ []) = says s declared p w in
    let k : get_or declared p 0 + get_or declared (p + 1) 0 ≤ length s = omega (arith, o.first, o.second, w.stands.name.inside) in
    inside-text s name n (stored_entry declared p) k
    ∙ ap₂ (λ (x : List ℕ) (m : ℕ). same_predicate x m name n) (ap₂ (λ (l a : ℕ). take l (drop a s)) o.second o.first ∙ sym w.stands.name.spelt) o.third

-- ---- the search

-- none is no place
apart : {A : Type 0} {i : ℕ} → ◌≡◌ {A = Place ℕ} None (Some i) → A
apart e = let y : ◌≡◌ {A = ℕ} 0 1 = cc in absurd (omega arith)

position-by : (b : Bool) (d : Declaration) (ds : List Declaration) (name : List ℕ) (n : ℕ) → same_predicate d.name (length d.marks) name n ≡ b
    → position (d ∷ ds) name n ≡ elim b as (λ _. Place ℕ) [ true ↦ Some 0 | false ↦ option_map suc (position ds name n) ]
unfolding position
position-by b d ds name n e = ap (λ (t : Bool). elim t as (λ _. Place ℕ) [ true ↦ Some 0 | false ↦ option_map suc (position ds name n) ]) e

position-none : (name : List ℕ) (n : ℕ) → position [] name n ≡ None
unfolding position
position-none name n = refl

-- a place behind k others
abbrev behind : ℕ → Place ℕ → Place ℕ
behind k o = option_map (λ i. k + i) o

behind-one : (k : ℕ) (o : Place ℕ) → behind (suc k) o ≡ behind k (option_map suc o)
behind-one k None = refl
behind-one k (Some i) = let e : suc k + i ≡ k + suc i = omega arith in ap (λ (j : ℕ). Some j) e

behind-none : (o : Place ℕ) → behind 0 o ≡ o
behind-none None = refl
behind-none (Some i) = let e : 0 + i ≡ i = omega arith in ap (λ (j : ℕ). Some j) e

abbrev place_of : Lookup → Place ℕ
place_of r = r.place

searched-by : (s declared : List ℕ) (p k : ℕ) (d : Declaration) (ds : List Declaration) (name : List ℕ) (n : ℕ) (b : Bool)
    → same_predicate d.name (length d.marks) name n ≡ b → matches s name n (stored_entry declared p) ≡ same_predicate d.name (length d.marks) name n
    → place_of (look_from s name n (suc k) (stored_entries declared (p + declaration_size) (length ds))) ≡ behind (suc k) (position ds name n)
    → place_of (look_from s name n k (stored_entries declared p (suc (length ds)))) ≡ behind k (position (d ∷ ds) name n)
unfolding stored_entries
searched-by s declared p k d ds name n true e m on =
    let i : k ≡ k + 0 = omega arith in
    ap place_of (look-by s name n k (stored_entry declared p) (stored_entries declared (p + declaration_size) (length ds)) true (m ∙ e))
    ∙ ap (λ (j : ℕ). Some j) i
    ∙ sym (ap (behind k) (position-by true d ds name n e))
searched-by s declared p k d ds name n false e m on =
    ap place_of (look-by s name n k (stored_entry declared p) (stored_entries declared (p + declaration_size) (length ds)) false (m ∙ e))
    ∙ on
    ∙ behind-one k (position ds name n)
    ∙ sym (ap (behind k) (position-by false d ds name n e))

-- the search over the words of declarations comes to the first one of the predicate
searched : (s declared : List ℕ) (p k : ℕ) (ds : List Declaration) (name : List ℕ) (n : ℕ) → WordsAt declared p (declarations_words ds) → DeclarationsSpelt s ds
    → place_of (look_from s name n k (stored_entries declared p (length ds))) ≡ behind k (position ds name n)
unfolding look_from stored_entries declarations_words declaration_words
searched s declared p k [] name n h st = sym (ap (behind k) (position-none name n))
searched s declared p k (d ∷ ds) name n h (declaration_stands st sts) =
    searched-by s declared p k d ds name n _ refl
    (matches-declared s declared p name n record { declaration = d; has = has_left declared p (declaration_words d) (declarations_words ds) h; stands = st })
    (searched s declared (p + declaration_size) (suc k) ds name n (has_right declared p (declaration_words d) (declarations_words ds) h) sts)

declared-words : (ds : List Declaration) → length (declarations_words ds) ≡ length ds * declaration_size
unfolding declarations_words declaration_words
declared-words [] = refl
declared-words (d ∷ ds) = let e : length (declarations_words ds) ≡ length ds * declaration_size = declared-words ds in omega (arith, length-append (declaration_words d) (declarations_words ds))

room_by : (declared : List ℕ) (n : ℕ) (ds : List Declaration) → n ≡ length ds → WordsAt declared 0 (declarations_words ds) → n * declaration_size ≤ length declared
room_by declared n [] e h = omega arith
room_by declared n (d ∷ ds) e h =
    let l : length (declarations_words (d ∷ ds)) ≡ length (d ∷ ds) * declaration_size = declared-words (d ∷ ds) in
    omega (arith, has-inside declared 0 (declarations_words (d ∷ ds)) h (omega arith))

pub declarations-room : {s declared : List ℕ} {n : ℕ} → DeclarationsAt s declared n → n * declaration_size ≤ length declared
declarations-room {s} {declared} {n} w = room_by declared n w.list w.count w.has

pub place_is : (s declared : List ℕ) (n : ℕ) (name : List ℕ) (arguments : ℕ) (r : Lookup) → r ≡ look_up s name arguments (stored_entries declared 0 n)
    → (w : DeclarationsAt s declared n) → r.place ≡ position w.list name arguments
place_is s declared n name arguments r er w =
    ap place_of (er ∙ ap (λ (m : ℕ). look_up s name arguments (stored_entries declared 0 m)) w.count)
    ∙ searched s declared 0 0 w.list name arguments w.has w.stand
    ∙ behind-none (position w.list name arguments)

-- ---- atoms

-- the bytes of a text between two places, by the first and how many they are
pub part_is : (s : List ℕ) (a n : ℕ) → slice_range s a (a + n) ≡ spelling s a n
part_is s a n = let e : (a + n) - a ≡ n = omega arith in ap (λ (m : ℕ). take m (drop a s)) e

pub name-room : {table : List ℕ} {p : ℕ} → NamedAt table p → p + 2 < length table
name-room {table} {p} w = (atom-words table p w.atom w.has).inside

pub name-least : {table : List ℕ} {p : ℕ} (v : ℕ) → v ≡ get_or table p 0 → NamedAt table p → first_name ≤ v
name-least {table} {p} v e w = omega (arith, (atom-words table p w.atom w.has).what)

pub name-is : {table : List ℕ} {p v at len n : ℕ} → v ≡ get_or table p 0 → at ≡ get_or table (p + 2) 0 → len ≡ functor_length v → n ≡ functor_arity v → (w : NamedAt table p)
    → record { at = at; len = len; arguments = n } ≡ atom_name w.atom
name-is {table} {p} {v} {at} {len} {n} ev ea el en w =
    let o : Says table p w.atom = atom-words table p w.atom w.has in
    let place : at ≡ w.atom.at = ea ∙ o.place in
    let long : len ≡ length w.atom.name = omega (arith, o.what, w.short) in
    let count : n ≡ arity w.atom.args = omega (arith, o.what, w.short) in
    cc

-- an atom of a text has a short name, and arguments that stand in the text
pub record InText (g : List ℕ) (a : Atom) : Type 0 where
  pub name-at : NameAt g a.at a.name
  pub stand : TermsSpelt g a.args

in-by : (g : List ℕ) (a : Atom) → TermSpelt g (term_of a) → InText g a
in-by g a (stands_compound n k ks) = record { name-at = n; stand = ks }

pub in-text : {g table : List ℕ} {p : ℕ} (w : AtomAt g table p) → InText g w.atom
in-text {g} w = in-by g w.atom w.stands

abbrev pub atom-name : {g table : List ℕ} {p : ℕ} → AtomAt g table p → NamedAt table p
atom-name w = record { atom = w.atom; has = w.has; short = (in-text w).name-at.short }

module _ (g table : List ℕ) (p : ℕ) (name : Entry) (en : (w : NamedAt table p) → name ≡ atom_name w.atom) where
  at_is : (w : AtomAt g table p) → name.at ≡ w.atom.at
  at_is w = ap (λ (x : Entry). x.at) (en (atom-name w))

  len_is : (w : AtomAt g table p) → name.len ≡ length w.atom.name
  len_is w = ap (λ (x : Entry). x.len) (en (atom-name w))

  pub atom-inside : AtomAt g table p → name.at + name.len ≤ length g
  atom-inside w = omega (arith, at_is w, len_is w, (in-text w).name-at.inside)

  pub atom-position : (ds : List Declaration) (w : AtomAt g table p)
      → position ds (spelling g name.at name.len) name.arguments ≡ position ds w.atom.name (arity w.atom.args)
  atom-position ds w =
      ap₂ (position ds) (ap₂ (λ (a l : ℕ). spelling g a l) (at_is w) (len_is w) ∙ sym (in-text w).name-at.spelt) (ap (λ (x : Entry). x.arguments) (en (atom-name w)))

  pub atom-found : (s declared : List ℕ) (n : ℕ) (bytes : List ℕ) → bytes ≡ spelling g name.at name.len
      → (r : Place ℕ) → ((d : DeclarationsAt s declared n) → r ≡ position d.list bytes name.arguments)
      → (d : DeclarationsAt s declared n) (w : AtomAt g table p) → r ≡ position d.list w.atom.name (arity w.atom.args)
  atom-found s declared n bytes eb r h d w = h d ∙ ap (λ (x : List ℕ). position d.list x name.arguments) eb ∙ atom-position d.list w

  -- so it is declared, if that is so by the bytes
  pub atom-known : (s declared : List ℕ) (n : ℕ) (bytes : List ℕ) → bytes ≡ spelling g name.at name.len
      → ((d : DeclarationsAt s declared n) → is_some (position d.list bytes name.arguments) ≡ true)
      → (d : DeclarationsAt s declared n) (w : AtomAt g table p) → is_some (position d.list w.atom.name (arity w.atom.args)) ≡ true
  atom-known s declared n bytes eb h d w =
      ap (λ (o : Place ℕ). is_some o) (sym (ap (λ (x : List ℕ). position d.list x name.arguments) eb ∙ atom-position d.list w)) ∙ h d

  -- the fault of an atom without declaration
  pub undeclared-is : (ds : List Declaration) (c l : ℕ) (w : AtomAt g table p) → marks_of ds w.atom ≡ none
      → Err (Undeclared c l name.at name.len) ≡ checked_of (undeclared_atom ds c l w.atom)
  unfolding undeclared_atom undeclared
  undeclared-is ds c l w e =
      ap₂ (λ (a k : ℕ). Err (Undeclared c l a k)) (at_is w) (len_is w) ∙ sym (ap (λ (o : Option (List Mark)). checked_of (undeclared c l w.atom o)) e)

-- ---- one declaration by its number

pub far : {A : Type 0} → false ≡ true → A
far e = let y : ◌≡◌ {A = ℕ} 0 1 = cc in absurd (omega arith)

-- where the i-th of some declarations stands, and what it says of the search if it is the one looked for
record Near (s declared : List ℕ) (p : ℕ) (ds : List Declaration) (name : List ℕ) (arguments : ℕ) : Type 0 where
  it : DeclarationAt s declared p
  found : same_predicate it.declaration.name (length it.declaration.marks) name arguments ≡ true → is_some (position ds name arguments) ≡ true

counted : (o : Place ℕ) → is_some (option_map suc o) ≡ is_some o
counted None = refl
counted (Some i) = refl

later-by : (b : Bool) (d : Declaration) (ds : List Declaration) (name : List ℕ) (n : ℕ) → same_predicate d.name (length d.marks) name n ≡ b
    → is_some (position ds name n) ≡ true → is_some (position (d ∷ ds) name n) ≡ true
later-by true d ds name n e l = ap (λ (o : Place ℕ). is_some o) (position-by true d ds name n e)
later-by false d ds name n e l = ap (λ (o : Place ℕ). is_some o) (position-by false d ds name n e) ∙ counted (position ds name n) ∙ l

near_by : (s declared : List ℕ) (p : ℕ) (ds : List Declaration) (i : ℕ) (name : List ℕ) (arguments : ℕ) → i < length ds
    → WordsAt declared p (declarations_words ds) → DeclarationsSpelt s ds → Near s declared (p + i * declaration_size) ds name arguments
unfolding declarations_words declaration_words
near_by s declared p [] i name arguments l h k = absurd (omega arith)
near_by s declared p (d ∷ ds) zero name arguments l h (declaration_stands k ks) =
    let e : p ≡ p + 0 * declaration_size = omega arith in
    subst (λ (j : ℕ). Near s declared j (d ∷ ds) name arguments) e record {
      it = record { declaration = d; has = has_left declared p (declaration_words d) (declarations_words ds) h; stands = k };
      found = λ b. ap (λ (o : Place ℕ). is_some o) (position-by true d ds name arguments b);
    }
near_by s declared p (d ∷ ds) (suc i) name arguments l h (declaration_stands k ks) =
    let e : p + declaration_size + i * declaration_size ≡ p + suc i * declaration_size = omega arith in
    let o : Near s declared (p + suc i * declaration_size) ds name arguments =
    subst (λ (j : ℕ). Near s declared j ds name arguments) e
    (near_by s declared (p + declaration_size) ds i name arguments (omega arith) (has_right declared p (declaration_words d) (declarations_words ds) h) ks) in
    record { it = o.it; found = λ b. later-by _ d ds name arguments refl (o.found b) }

module _ (s declared : List ℕ) (n near : ℕ) (l : near < n) where
  near_of : (name : List ℕ) (arguments : ℕ) (d : DeclarationsAt s declared n) → Near s declared (near * declaration_size) d.list name arguments
  near_of name arguments d =
      let e : 0 + near * declaration_size ≡ near * declaration_size = omega arith in
      subst (λ (j : ℕ). Near s declared j d.list name arguments) e
      (near_by s declared 0 d.list near name arguments (omega (arith, d.count)) d.has d.stand)

  pub near-at : DeclarationsAt s declared n → DeclarationAt s declared (near * declaration_size)
  near-at d = (near_of [] 0 d).it

  pub near-known : (q : ℕ) → q ≡ near * declaration_size → (bytes : List ℕ) (arguments : ℕ) (b : Bool) → b ≡ matches s bytes arguments (stored_entry declared q)
      → b ≡ true → (d : DeclarationsAt s declared n) → is_some (position d.list bytes arguments) ≡ true
  near-known q eq bytes arguments b eb t d =
      let o : Near s declared q d.list bytes arguments = subst⁻¹ (λ (j : ℕ). Near s declared j d.list bytes arguments) eq (near_of bytes arguments d) in
      o.found (sym (matches-declared s declared q bytes arguments o.it) ∙ sym eb ∙ t)

-- ---- the marks of a predicate

-- what the search says of the marks
pub record MarksFound (declared : List ℕ) (p : ℕ) (ds : List Declaration) (a : Atom) (i : ℕ) : Type 0 where
  pub marks : List Mark
  pub is : marks_of ds a ≡ some marks
  pub inside : p + i * declaration_size + 3 < length declared
  pub word : get_or declared (p + i * declaration_size + 3) 0 ≡ marks_number marks

marks-by : (b : Bool) (d : Declaration) (ds : List Declaration) (a : Atom) → same_predicate d.name (length d.marks) a.name (arity a.args) ≡ b
    → marks_of (d ∷ ds) a ≡ elim b as (λ _. Option (List Mark)) [ true ↦ some d.marks | false ↦ marks_of ds a ]
unfolding marks_of
marks-by b d ds a e = ap (λ (t : Bool). elim t as (λ _. Option (List Mark)) [ true ↦ some d.marks | false ↦ marks_of ds a ]) e

four : (declared : List ℕ) (p a b c m : ℕ) → WordsAt declared p (a ∷ b ∷ c ∷ m ∷ []) → (p + 3 < length declared) × (get_or declared (p + 3) 0 ≡ m)
four declared p a b c m h =
    let r : WordsAt declared (p + 3) (m ∷ []) = (node declared p a b c (m ∷ []) h).rest in
    (r.0, r.1)

-- what a place behind the first one says of the others
earlier : (o : Place ℕ) (i : ℕ) → option_map suc o ≡ Some i → (j : ℕ) × ((o ≡ Some j) × (i ≡ suc j))
earlier None i e = apart e
earlier (Some j) i e = let z : i ≡ suc j = cc in (j, (refl, z))

found-by : (declared : List ℕ) (p : ℕ) (d : Declaration) (ds : List Declaration) (a : Atom) (i : ℕ) (b : Bool)
    → same_predicate d.name (length d.marks) a.name (arity a.args) ≡ b → WordsAt declared p (declarations_words (d ∷ ds))
    → position (d ∷ ds) a.name (arity a.args) ≡ Some i
    → ((j : ℕ) → WordsAt declared (p + declaration_size) (declarations_words ds) → position ds a.name (arity a.args) ≡ Some j → MarksFound declared (p + declaration_size) ds a j)
    → MarksFound declared p (d ∷ ds) a i
unfolding declarations_words declaration_words
found-by declared p d ds a i true e h l more =
    let q : (p + 3 < length declared) × (get_or declared (p + 3) 0 ≡ marks_number d.marks) = four declared p _ _ _ _ (has_left declared p (declaration_words d) (declarations_words ds) h) in
    let z : ◌≡◌ {A = Place ℕ} (Some 0) (Some i) = sym (position-by true d ds a.name (arity a.args) e) ∙ l in
    let y : i ≡ 0 = cc in
    let k : p + 3 ≡ p + i * declaration_size + 3 = omega arith in
    record {
      marks = d.marks;
      is = marks-by true d ds a e;
      inside = omega (arith, q.0);
      word = subst (λ (j : ℕ). get_or declared j 0 ≡ marks_number d.marks) k q.1;
    }
found-by declared p d ds a i false e h l more =
    let o : (j : ℕ) × ((position ds a.name (arity a.args) ≡ Some j) × (i ≡ suc j)) = earlier (position ds a.name (arity a.args)) i (sym (position-by false d ds a.name (arity a.args) e) ∙ l) in
    let q : MarksFound declared (p + declaration_size) ds a o.0 = more o.0 (has_right declared p (declaration_words d) (declarations_words ds) h) o.1.0 in
    let f : i ≡ suc o.0 = o.1.1 in
    let k : p + declaration_size + o.0 * declaration_size + 3 ≡ p + i * declaration_size + 3 = omega arith in
    record {
      marks = q.marks;
      is = marks-by false d ds a e ∙ q.is;
      inside = omega (arith, q.inside);
      word = subst (λ (j : ℕ). get_or declared j 0 ≡ marks_number q.marks) k q.word;
    }

found_at : (declared : List ℕ) (p : ℕ) (ds : List Declaration) (a : Atom) (i : ℕ) → WordsAt declared p (declarations_words ds)
    → position ds a.name (arity a.args) ≡ Some i → MarksFound declared p ds a i
found_at declared p [] a i h l = apart (sym (position-none a.name (arity a.args)) ∙ l)
found_at declared p (d ∷ ds) a i h l = found-by declared p d ds a i _ refl h l (λ j h1 l1. found_at declared (p + declaration_size) ds a j h1 l1)

marks-empty : (a : Atom) → marks_of [] a ≡ none
unfolding marks_of
marks-empty a = refl

none-earlier : (o : Place ℕ) → option_map suc o ≡ None → o ≡ None
none-earlier None e = refl
none-earlier (Some j) e = apart (sym e)

none-by : (d : Declaration) (ds : List Declaration) (a : Atom) (b : Bool) → same_predicate d.name (length d.marks) a.name (arity a.args) ≡ b
    → position (d ∷ ds) a.name (arity a.args) ≡ None → (position ds a.name (arity a.args) ≡ None → marks_of ds a ≡ none)
    → marks_of (d ∷ ds) a ≡ none
none-by d ds a true e l more = apart (sym l ∙ position-by true d ds a.name (arity a.args) e)
none-by d ds a false e l more = marks-by false d ds a e ∙ more (none-earlier (position ds a.name (arity a.args)) (sym (position-by false d ds a.name (arity a.args) e) ∙ l))

none_found : (ds : List Declaration) (a : Atom) → position ds a.name (arity a.args) ≡ None → marks_of ds a ≡ none
none_found [] a l = marks-empty a
none_found (d ∷ ds) a l = none-by d ds a _ refl l (λ l1. none_found ds a l1)

-- whether there is a place says which of the two
place-some : (o : Place ℕ) → is_some o ≡ true → (i : ℕ) × (o ≡ Some i)
place-some None e = far e
place-some (Some i) e = (i, refl)

pub place-none : (o : Place ℕ) → is_some o ≡ false → o ≡ None
place-none None e = refl
place-none (Some i) e = far (sym e)

pub near-fine : (s declared : List ℕ) (n : ℕ) (g table : List ℕ) (p c k : ℕ) (d : DeclarationsAt s declared n) (w : AtomAt g table p)
    → is_some (position d.list w.atom.name (arity w.atom.args)) ≡ true → Ok tt ≡ checked_of (undeclared_atom d.list c k w.atom)
unfolding undeclared_atom undeclared
near-fine s declared n g table p c k d w l =
    let o : (i : ℕ) × (position d.list w.atom.name (arity w.atom.args) ≡ Some i) = place-some (position d.list w.atom.name (arity w.atom.args)) l in
    sym
    (ap (λ (m : Option (List Mark)). checked_of (undeclared c k w.atom m))
    (found_at declared 0 d.list w.atom o.0 d.has o.1).is)

module _ (s declared : List ℕ) (n : ℕ) (g table : List ℕ) (p : ℕ) (r : Place ℕ)
    (ei : (d : DeclarationsAt s declared n) (w : AtomAt g table p) → r ≡ position d.list w.atom.name (arity w.atom.args)) where
  module _ {i : ℕ} (l : r ≡ Some i) where
    found : (d : DeclarationsAt s declared n) (w : AtomAt g table p) → MarksFound declared 0 d.list w.atom i
    found d w = found_at declared 0 d.list w.atom i d.has (sym (ei d w) ∙ l)

    pub marks-inside : DeclarationsAt s declared n → AtomAt g table p → i * declaration_size + 3 < length declared
    marks-inside d w = omega (arith, (found d w).inside)

    pub marks-word : (m : ℕ) → m ≡ get_or declared (i * declaration_size + 3) 0 → (d : DeclarationsAt s declared n) (w : AtomAt g table p) → m ≡ marks_number (marks_for d.list w.atom)
    unfolding marks_for or_no_marks
    marks-word m h d w =
        let k : i * declaration_size + 3 ≡ 0 + i * declaration_size + 3 = omega arith in
        h ∙ ap (λ (j : ℕ). get_or declared j 0) k ∙ (found d w).word ∙ sym (ap (λ (o : Option (List Mark)). marks_number (or_no_marks o)) (found d w).is)

  pub declared-fine : is_some r ≡ true → (c k : ℕ) (d : DeclarationsAt s declared n) (w : AtomAt g table p) → Ok tt ≡ checked_of (undeclared_atom d.list c k w.atom)
  declared-fine t c k d w = near-fine s declared n g table p c k d w (ap (λ (o : Place ℕ). is_some o) (sym (ei d w)) ∙ t)

  module _ (l : r ≡ None) where
    pub not_found : (d : DeclarationsAt s declared n) (w : AtomAt g table p) → marks_of d.list w.atom ≡ none
    not_found d w = none_found d.list w.atom (sym (ei d w) ∙ l)

    pub marks-none : (d : DeclarationsAt s declared n) (w : AtomAt g table p) → 0 ≡ marks_number (marks_for d.list w.atom)
    unfolding marks_for or_no_marks marks_number
    marks-none d w = sym (ap (λ (o : Option (List Mark)). marks_number (or_no_marks o)) (not_found d w))
