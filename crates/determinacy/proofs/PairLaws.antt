-- Laws of the clauses of a sheet in turn, each with those behind it: one for each way out of `first_pair`. Assumes nothing.
use Prim.Native.Nat.{ℕ, suc, ◌+◌, ◌≤◌, ◌<◌}
use native.Mathlib.Numerals.{add-one}
use native.Mathlib.Omega.{arith}
use mathlib.Core.Path.{◌≡◌, refl, sym, ap, ◌∙◌, subst⁻¹}
use mathlib.Core.List.{List, [], ◌∷◌}
use mathlib.Core.Option.{Option, none, some}
use Rattle.std.specs.Prelude.{Option as Told, Some, None}
use lib.ListN.{length, drop}
use Rattle.syntax.specs.Terms.{Declaration, Clause, Sheet}
use Rattle.syntax.specs.Words.{marks_number, clause_words, clauses_words}
use Rattle.mode_rules.specs.Modes.{marks_for}
use Rattle.words.specs.Tables.{WordsAt}
use Rattle.words.proofs.TablesLaws.{has_left, has_right}
use Rattle.marks.specs.Spelt.{ClauseSpelt, ClausesSpelt, clause_stands}
use Rattle.marks.specs.Tables.{AtomAt}
use Rattle.marks.specs.InTables.{DeclarationsIn}
use Rattle.marks.specs.declared.declarations.Declarations.{Declarations}
use Rattle.machine.specs.Machine.{clause_at}
use Rattle.run_layout.specs.Rooms.{Clean}
use Rattle.run_layout.specs.Nodes.{Symbol}
use Rattle.run_layout.proofs.State.{none-bound}
use Rattle.load.specs.declared.records.Compiled.{Compiled}
use Rattle.machine.specs.Determinacy.{first_overlap, Pair, first_pair, judged_by}
use Rattle.determinacy.specs.Told.{told}
use Rattle.determinacy.specs.Clauses.{told_number}
use Rattle.determinacy.specs.declared.Determinacy.TheVariants.{Yes, No}
use Rattle.determinacy.specs.Overlaps.{NothingBound, ClauseOf, FirstBehind}
use Rattle.determinacy.specs.Tables.{PairsReady}
use Rattle.determinacy.proofs.BracketLaws.{clause-inside, head-has}
use Rattle.determinacy.proofs.Clauses.{drop-tail, drop_nth}
use Rattle.determinacy.proofs.Numbers.{number-none, number-some}

-- words without bindings are clean
blank-clean : {ss : List Symbol} {nodes state scratch : List ℕ} → NothingBound ss nodes state scratch → Clean state × Clean scratch
blank-clean {ss} {nodes} {state} b = (none-bound ss nodes state b.store.raw, b.clean)

abbrev pair-choice : List Declaration → ℕ → List Clause → Option ℕ → Option Pair
pair-choice ds n cls o = elim o [ none ↦ first_pair ds (suc n) cls | some m ↦ some (record { first = n; second = m }) ]

pair-by : (ds : List Declaration) (n : ℕ) (cl : Clause) (cls : List Clause) (o : Option ℕ) → first_overlap ds cl (suc n) cls ≡ o → first_pair ds n (cl ∷ cls) ≡ pair-choice ds n cls o
unfolding first_pair
pair-by ds n cl cls o e = ap (pair-choice ds n cls) e

told-yes : told (judged_by none) ≡ Yes
unfolding told judged_by
told-yes = refl

pub told-no : (m n : ℕ) → told (judged_by (some (record { first = m; second = n }))) ≡ No m n
unfolding told judged_by
told-no m n = refl

module _ {declared : Declarations} {table : List ℕ} {k : ℕ} {program : Compiled} {before scratch : List ℕ} (w : PairsReady declared table k program before scratch) where
  abbrev sheet : Sheet
  sheet = w.linked.stands.sheet

  -- What is left of the clauses from the i-th on stands at a place and gives the answer of the whole; there are no bindings.
  pub record Ranging (state later : List ℕ) (at i : ℕ) : Type 0 where
    pub list : List Clause
    pub is : list ≡ drop i sheet.clauses
    pub has : WordsAt table at (clauses_words list)
    pub count : k ≡ i + length list
    pub stand : ClausesSpelt declared.text.now list
    pub blank : NothingBound w.linked.ss program.nodes.now state later
    pub same : first_pair sheet.declarations 1 sheet.clauses ≡ first_pair sheet.declarations (suc i) list

  pub declarations-at : DeclarationsIn declared
  declarations-at = record {
    list = sheet.declarations;
    has = w.linked.stands.has_declarations;
    count = w.linked.stands.declarations_count;
    stand = w.linked.stands.stands.declarations;
  }

  pub range-begins : Ranging before scratch 0 0
  range-begins = record {
    list = sheet.clauses;
    is = refl;
    has = w.linked.stands.has_clauses;
    count = (let e : k ≡ 0 + length sheet.clauses = omega (arith, w.linked.stands.clauses_count) in e);
    stand = w.linked.stands.stands.clauses;
    blank = w.blank;
    same = refl;
  }

  pub range-ends : {state later : List ℕ} {at i : ℕ} → k ≤ i → Ranging state later at i → Yes ≡ told (judged_by (first_pair sheet.declarations 1 sheet.clauses))
  range-ends {i = i} l o = by o.list o.count o.same
    where
      by : (cls : List Clause) → k ≡ i + length cls → first_pair sheet.declarations 1 sheet.clauses ≡ first_pair sheet.declarations (suc i) cls
          → Yes ≡ told (judged_by (first_pair sheet.declarations 1 sheet.clauses))
      by [] c e = let z : first_pair sheet.declarations (suc i) [] ≡ none = (unfold first_pair in refl) in sym (ap (λ (p : Option Pair). told (judged_by p)) (e ∙ z) ∙ told-yes)
      by (x ∷ cls) c e = absurd (let z : k ≡ i + suc (length cls) = c in omega arith)

  pub range-leaves : {state later : List ℕ} {at i : ℕ} → Ranging state later at i → Clean state × Clean later
  range-leaves o = blank-clean o.blank

  -- the first of what is left, and the others
  record Turn (at i : ℕ) : Type 0 where
    clause : Clause
    left : List Clause
    here : WordsAt table at (clause_words clause)
    behind : WordsAt table (at + length (clause_words clause)) (clauses_words left)
    stands : ClauseSpelt declared.text.now clause
    stand : ClausesSpelt declared.text.now left
    count : k ≡ i + suc (length left)
    is : left ≡ drop (suc i) sheet.clauses
    there : clause_at sheet (suc i) ≡ some clause
    same : first_pair sheet.declarations 1 sheet.clauses ≡ first_pair sheet.declarations (suc i) (clause ∷ left)

  module _ {state later : List ℕ} {at i : ℕ} (l : i < k) (o : Ranging state later at i) where
    turn : Turn at i
    turn = by o.list o.is o.has o.count o.stand o.same
      where
        by : (cls : List Clause) → cls ≡ drop i sheet.clauses → WordsAt table at (clauses_words cls) → k ≡ i + length cls → ClausesSpelt declared.text.now cls
            → first_pair sheet.declarations 1 sheet.clauses ≡ first_pair sheet.declarations (suc i) cls → Turn at i
        by [] d h c t e = absurd (let z : k ≡ i + 0 = c in omega arith)
        by (x ∷ cls) d h c (clause_stands t ts) e = record {
          clause = x;
          left = cls;
          here = has_left table at (clause_words x) (clauses_words cls) (unfold clauses_words in h);
          behind = has_right table at (clause_words x) (clauses_words cls) (unfold clauses_words in h);
          stands = t;
          stand = ts;
          count = c;
          is = drop-tail i sheet.clauses x cls d;
          there = unfold clause_at in drop_nth i sheet.clauses x cls d;
          same = e;
        }

    pub range_clause : (x : Clause) × WordsAt table at (clause_words x)
    range_clause = (turn.clause, turn.here)

    pub range_inside : at + 2 < length table
    range_inside = clause-inside table at turn.clause turn.here

    pub range_head : AtomAt declared.text.now table (at + 3)
    range_head = record { atom = turn.clause.head; has = head-has table at turn.clause turn.here; stands = turn.stands.head }

    module _ {marks : ℕ} (em : (d : DeclarationsIn declared) (a : AtomAt declared.text.now table (at + 3)) → marks ≡ marks_number (marks_for d.list a.atom)) where
      pub range_of : ClauseOf program.nodes.now program.code.now state later (i + 1) marks
      unfolding range_head declarations-at
      range_of = record {
        ss = w.linked.ss;
        sh = sheet;
        g = w.linked.g;
        program = w.linked.program;
        blank = o.blank;
        clause = turn.clause;
        there = ap (clause_at sheet) (add-one i) ∙ turn.there;
        number = em declarations-at range_head;
      }

      module _ {state1 later1 : List ℕ} {r : Told ℕ} (f : (v : ClauseOf program.nodes.now program.code.now state later (i + 1) marks) → FirstBehind v state1 later1 r) where
        behind_is : r ≡ told_number (first_overlap sheet.declarations turn.clause (suc (suc i)) turn.left)
        unfolding range_of
        behind_is =
            (f range_of).is
            ∙ ap (λ (m : ℕ). told_number (first_overlap sheet.declarations turn.clause (suc m) (drop m sheet.clauses))) (add-one i)
            ∙ ap (λ (cls : List Clause). told_number (first_overlap sheet.declarations turn.clause (suc (suc i)) cls)) (sym turn.is)

        blank_after : NothingBound w.linked.ss program.nodes.now state1 later1
        unfolding range_of
        blank_after = (f range_of).blank

        pub range-left : Clean state1 × Clean later1
        range-left = blank-clean blank_after

        pub range_stops : {m : ℕ} → r ≡ Some m → No (i + 1) m ≡ told (judged_by (first_pair sheet.declarations 1 sheet.clauses))
        range_stops {m} d =
            let a : first_overlap sheet.declarations turn.clause (suc (suc i)) turn.left ≡ some m =
            number-some (first_overlap sheet.declarations turn.clause (suc (suc i)) turn.left) m (sym d ∙ behind_is) in
            let b : first_pair sheet.declarations 1 sheet.clauses ≡ some (record { first = suc i; second = m }) =
            turn.same ∙ pair-by sheet.declarations (suc i) turn.clause turn.left (some m) a in
            ap (λ (j : ℕ). No j m) (add-one i) ∙ sym (ap (λ (p : Option Pair). told (judged_by p)) b ∙ told-no (suc i) m)

        pub range_on : r ≡ None → {next : ℕ} → ((x : Clause) → WordsAt table at (clause_words x) → next ≡ at + length (clause_words x)) → Ranging state1 later1 next (i + 1)
        range_on d {next} en =
            let a : first_overlap sheet.declarations turn.clause (suc (suc i)) turn.left ≡ none =
            number-none (first_overlap sheet.declarations turn.clause (suc (suc i)) turn.left) (sym d ∙ behind_is) in
            let c : k ≡ i + suc (length turn.left) = turn.count in
            record {
              list = turn.left;
              is = turn.is ∙ ap (λ (m : ℕ). drop m sheet.clauses) (sym (add-one i));
              has = subst⁻¹ (λ (j : ℕ). WordsAt table j (clauses_words turn.left)) (en turn.clause turn.here) turn.behind;
              count = omega arith;
              stand = turn.stand;
              blank = blank_after;
              same = turn.same ∙ pair-by sheet.declarations (suc i) turn.clause turn.left none a
                  ∙ ap (λ (m : ℕ). first_pair sheet.declarations (suc m) turn.left) (sym (add-one i));
            }
