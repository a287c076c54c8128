-- Laws of refusal 16 and of the tests of a sheet in their order, one for each way out of the functions. Assumes nothing.
use Prim.Native.Nat.{ℕ, zero, suc, ◌+◌, ◌*◌, ◌≤◌, ◌<◌}
use native.Mathlib.Numerals.{add-one}
use native.Mathlib.Omega.{arith}
use mathlib.Core.Path.{◌≡◌, refl, sym, ap, ◌∙◌}
use mathlib.Core.Bool.{Bool, true, false, ◌&&◌, ◌||◌}
use mathlib.Core.List.{List, [], ◌∷◌}
use mathlib.Core.Option.{Option, none, some}
use lib.ListN.{length, get_or, drop}
use lib.Seq.{drop-cons}
use borrow.Author.Tests.{eq-eqb, ne_eqb}
use Rattle.syntax.specs.Reading.{first_repeat}
use Rattle.syntax.specs.Terms.{arity, Declaration, Clause, Sheet, same_bytes, same_name, seen_name, seen_arguments}
use Rattle.syntax.specs.Tokens.{spelling}
use Rattle.syntax.specs.declared.Refusal.{Refusal}
use Rattle.syntax.specs.declared.Refusal.TheVariants.{Unwritten}
use Rattle.mode_rules.specs.Modes.{undeclared_clauses, undeclared_in_sheet, clauses_fault, first_of, sheet_fault}
use Rattle.mode_rules.specs.Written.{is_written, is_exempt, first_unwritten, unwritten}
use Rattle.marks.specs.Searching.{matches, stored_entry}
use Rattle.std.specs.Prelude.{Some, Ok, Err}
use Rattle.marks.specs.Answers.{Checked, checked_of, atom_name}
use Rattle.words.specs.Tables.{entry_from}
use Rattle.marks.specs.Tables.{DeclarationsAt, AtomAt, NamedAt, ClausesAt}
use Rattle.syntax.specs.declared.Entry.{Entry}
use Rattle.marks.proofs.Marking.{matches-declared, atom-name, in-text}
use Rattle.marks.proofs.ClausesSheets.{sheet-declarations, sheet-clauses}
use Rattle.marks.proofs.Faults.{fault-stays, fine-goes}
use Rattle.marks.specs.Repeating.{nth_declaration}
use Rattle.marks.proofs.RepeatsLaws.{one_has, one-stands, at_is, name-inside, name-is, arity-is}
use Rattle.marks.specs.Flags.{DeclaredOnce, OnlyDeclaration, Flagged}
use Rattle.marks.proofs.Once.{of, near-finds}

-- ---- the declaration of a head

-- the entry of declaration i matches where the declaration is of the predicate
matches-one : (s declared : List ℕ) (n : ℕ) (d : DeclarationsAt s declared n) (i : ℕ) (h : i < n) (name : List ℕ) (m : ℕ)
    → matches s name m (stored_entry declared (4 * i)) ≡ of (nth_declaration d.list i) name m
matches-one s declared n d i h name m =
    matches-declared s declared (4 * i) name m (record { declaration = nth_declaration d.list i; has = one_has s declared n d i h; stands = one-stands s declared n d i h })

pub declares-it : (s declared : List ℕ) (n i : ℕ) (h : i < n) (name : List ℕ) (m : ℕ) (r : Bool) → r ≡ matches s name m (stored_entry declared (4 * i))
    → r ≡ true → (d : DeclarationsAt s declared n) → (i < n) × (of (nth_declaration d.list i) name m ≡ true)
declares-it s declared n i h name m r e t d = (h, sym (matches-one s declared n d i h name m) ∙ sym e ∙ t)

module _ (g table : List ℕ) (p : ℕ) (name : Entry) (en : (v : NamedAt table p) → name ≡ atom_name v.atom) where
  of-atom : (w : AtomAt g table p) (d : Declaration) → of d (spelling g name.at name.len) name.arguments ≡ of d w.atom.name (arity w.atom.args)
  of-atom w d =
      ap (λ (x : Entry). of d (spelling g x.at x.len) x.arguments) (en (atom-name w))
      ∙ ap (λ (x : List ℕ). of d x (arity w.atom.args)) (sym (in-text w).name-at.spelt)

  pub near-found : (s declared : List ℕ) (n near : ℕ) (bytes : List ℕ) → bytes ≡ spelling g name.at name.len
      → ((d : DeclarationsAt s declared n) → (near < n) × (of (nth_declaration d.list near) bytes name.arguments ≡ true))
      → (d : DeclarationsAt s declared n) (w : AtomAt g table p) → first_repeat [] d.list ≡ none → OnlyDeclaration d.list w.atom (Some near)
  near-found s declared n near bytes eb h d w once =
      near-finds d.list once w.atom near (omega (arith, (h d).0, d.count))
      (sym (of-atom w (nth_declaration d.list near)) ∙ sym (ap (λ (x : List ℕ). of (nth_declaration d.list near) x name.arguments) eb) ∙ (h d).1)

-- ---- the predicate that needs no clause

module _ {s declared : List ℕ} {n : ℕ} (d : DeclarationsAt s declared n) {i : ℕ} (h : i < n) {name : Entry} (en : name ≡ entry_from declared i) where
  at : name.at ≡ get_or declared (4 * i) 0
  at = ap (λ (x : Entry). x.at) en

  len : name.len ≡ get_or declared (4 * i + 1) 0
  len = ap (λ (x : Entry). x.len) en

  marks : name.arguments ≡ get_or declared (4 * i + 2) 0
  marks = ap (λ (x : Entry). x.arguments) en

  counted : name.arguments ≡ length (nth_declaration d.list i).marks
  counted = arity-is s declared n d i h name.at name.len name.arguments at len marks

  spelt : spelling s name.at name.len ≡ (nth_declaration d.list i).name
  spelt = name-is s declared n d i h name.at name.len name.arguments at len marks

  pub inside : name.at + name.len ≤ length s
  inside = name-inside s declared n d i h name.at name.len name.arguments at len marks

  abbrev by : Bool → Bool
  by b = b && same_name (nth_declaration d.list i).name seen_name

  pub other-arguments : (name.arguments ≡ seen_arguments → ⊥) → false ≡ is_exempt (nth_declaration d.list i)
  other-arguments m = sym (ap by (ne_eqb (length (nth_declaration d.list i).marks) seen_arguments (λ q. m (counted ∙ q))))

  pub by_bytes : name.arguments ≡ seen_arguments → {bytes : List ℕ} → bytes ≡ spelling s name.at name.len → same_bytes bytes seen_name ≡ is_exempt (nth_declaration d.list i)
  by_bytes m eb = ap (λ (x : List ℕ). same_bytes x seen_name) (eb ∙ spelt) ∙ sym (ap by (eq-eqb (length (nth_declaration d.list i).marks) seen_arguments (sym counted ∙ m)))

-- ---- one declaration

pub has-clause : {w : Bool} (b : Bool) → w ≡ true → w ≡ (w || b)
has-clause b e = e ∙ sym (ap (λ (x : Bool). x || b) e)

pub stands_by : {w b r : Bool} → w ≡ false → r ≡ b → r ≡ (w || b)
stands_by {w} {b} {r} e er = er ∙ sym (ap (λ (x : Bool). x || b) e)

-- ---- the first one without a clause

module _ {s declared : List ℕ} {n : ℕ} {table : List ℕ} {clauses : ℕ} (w : DeclaredOnce s declared n table clauses) where
  abbrev ds : List Declaration
  ds = w.stands.sheet.declarations

  abbrev cs : List Clause
  cs = w.stands.sheet.clauses

  -- what is left from declaration i on decides
  abbrev pub Decides : ℕ → Type 0
  Decides i = first_unwritten cs ds ≡ first_unwritten cs (drop i ds)

  module _ (i : ℕ) (h : i < n) (so_far : Decides i) (flags : List Bool) (ef : Flagged flags ds cs) (r : Bool)
      (er : (d : DeclarationsAt s declared n) → r ≡ (get_or flags i false || is_exempt (nth_declaration d.list i))) where
    low : i < length ds
    low = omega (arith, w.stands.declarations_count)

    tested : (is_written cs (nth_declaration ds i) || is_exempt (nth_declaration ds i)) ≡ r
    tested = ap (λ (b : Bool). b || is_exempt (nth_declaration ds i)) (sym (ef i low)) ∙ sym (er (sheet-declarations w.stands))

    turn : first_unwritten cs ds ≡ elim r as (λ _. Option Refusal) [ true ↦ first_unwritten cs (drop (suc i) ds) | false ↦ some (Unwritten (nth_declaration ds i).at) ]
    unfolding first_unwritten
    turn =
        so_far ∙ ap (first_unwritten cs) (drop-cons ds i (record { at = 0; name = []; marks = [] }) low)
        ∙ ap (λ (b : Bool). elim b as (λ _. Option Refusal) [ true ↦ first_unwritten cs (drop (suc i) ds) | false ↦ some (Unwritten (nth_declaration ds i).at) ]) tested

    pub found_here : r ≡ false → (byte : ℕ) → byte ≡ get_or declared (4 * i) 0 → Err (Unwritten byte) ≡ checked_of (first_unwritten cs ds)
    found_here e byte eb =
        ap (λ (k : ℕ). Err (Unwritten k)) (eb ∙ at_is s declared n (sheet-declarations w.stands) i h)
        ∙ sym (ap checked_of (turn ∙ ap (λ (b : Bool). elim b as (λ _. Option Refusal) [ true ↦ first_unwritten cs (drop (suc i) ds) | false ↦ some (Unwritten (nth_declaration ds i).at) ]) e))

    pub not-here : r ≡ true → Decides (i + 1)
    not-here e =
        turn ∙ ap (λ (b : Bool). elim b as (λ _. Option Refusal) [ true ↦ first_unwritten cs (drop (suc i) ds) | false ↦ some (Unwritten (nth_declaration ds i).at) ]) e
        ∙ ap (λ (k : ℕ). first_unwritten cs (drop k ds)) (sym (add-one i))

  past : (i : ℕ) (l : List Declaration) → length l ≤ i → drop i l ≡ []
  past zero [] h = refl
  past zero (x ∷ l) h = absurd (omega arith)
  past (suc i) [] h = refl
  past (suc i) (x ∷ l) h = past i l (omega arith)

  pub nowhere : (i : ℕ) → n ≤ i → Decides i → Ok tt ≡ checked_of (first_unwritten cs ds)
  unfolding first_unwritten
  nowhere i h so_far = sym (ap checked_of (so_far ∙ ap (first_unwritten cs) (past i ds (omega (arith, w.stands.declarations_count)))))

-- ---- the mark

pub passed_over : {stored : Bool} → stored ≡ true → (sh : Sheet) → Ok tt ≡ checked_of (unwritten stored sh)
unfolding unwritten
passed_over {stored = true} e sh = refl
passed_over {stored = false} e sh = absurd (let z : ◌≡◌ {A = ℕ} 0 1 = cc in omega arith)

pub asked : {stored : Bool} → stored ≡ false → (sh : Sheet) {r : Checked} → r ≡ checked_of (first_unwritten sh.clauses sh.declarations) → r ≡ checked_of (unwritten stored sh)
unfolding unwritten
asked {stored = true} e sh h = absurd (let z : ◌≡◌ {A = ℕ} 0 1 = cc in omega arith)
asked {stored = false} e sh h = h

-- ---- the tests in their order

module _ (stored : Bool) {s declared : List ℕ} {n : ℕ} {table : List ℕ} {clauses : ℕ} {f : Checked}
    (ef : (d : DeclarationsAt s declared n) (w : ClausesAt s table 0 clauses) → f ≡ checked_of (undeclared_clauses d.list 1 w.list)) where
  eight : (w : DeclaredOnce s declared n table clauses) → f ≡ checked_of (undeclared_in_sheet w.stands.sheet)
  unfolding undeclared_in_sheet
  eight w = ef (sheet-declarations w.stands) (sheet-clauses w.stands)

  abbrev later : Sheet → Option Refusal
  later sh = first_of (unwritten stored sh) (clauses_fault sh.declarations 1 sh.clauses)

  pub undeclared-first : {r : Refusal} → f ≡ Err r → (w : DeclaredOnce s declared n table clauses) → Err r ≡ checked_of (sheet_fault stored w.stands.sheet)
  unfolding sheet_fault
  undeclared-first t w = fault-stays (undeclared_in_sheet w.stands.sheet) (later w.stands.sheet) (eight w) t

  module _ (fine : f ≡ Ok tt) {g : Checked} (eg : (w : DeclaredOnce s declared n table clauses) → g ≡ checked_of (unwritten stored w.stands.sheet)) where
    past-eight : (w : DeclaredOnce s declared n table clauses) → sheet_fault stored w.stands.sheet ≡ later w.stands.sheet
    unfolding sheet_fault
    past-eight w = fine-goes (undeclared_in_sheet w.stands.sheet) (later w.stands.sheet) (eight w) fine

    pub unwritten-next : {r : Refusal} → g ≡ Err r → (w : DeclaredOnce s declared n table clauses) → Err r ≡ checked_of (sheet_fault stored w.stands.sheet)
    unwritten-next t w =
        fault-stays (unwritten stored w.stands.sheet) (clauses_fault w.stands.sheet.declarations 1 w.stands.sheet.clauses) (eg w) t
        ∙ sym (ap checked_of (past-eight w))

    pub marks-last : g ≡ Ok tt → {r : Checked}
        → ((d : DeclarationsAt s declared n) (w : ClausesAt s table 0 clauses) → r ≡ checked_of (clauses_fault d.list 1 w.list))
        → (w : DeclaredOnce s declared n table clauses) → r ≡ checked_of (sheet_fault stored w.stands.sheet)
    marks-last t h w =
        h (sheet-declarations w.stands) (sheet-clauses w.stands)
        ∙ sym (ap checked_of (past-eight w ∙ fine-goes (unwritten stored w.stands.sheet) (clauses_fault w.stands.sheet.declarations 1 w.stands.sheet.clauses) (eg w) t))
