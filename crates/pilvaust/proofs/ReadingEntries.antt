-- Laws of the entries of a sheet, and of reading a goal: one for each way out of the functions. Assumes nothing.
use Prim.Native.Nat.{ℕ, zero, suc, ◌+◌, ◌*◌, ◌≤◌, ◌<◌}
use native.Mathlib.Omega.{arith}
use mathlib.Core.Path.{◌≡◌, refl, sym, ap, ap₂, ◌∙◌, subst}
use mathlib.Core.Bool.{Bool, true, false, cond}
use mathlib.Core.List.{List, [], ◌∷◌}
use lib.ListN.{length, get_or}
use Rattle.std.specs.Prelude.{Result, Ok, Err, Some, None}
use Rattle.std.specs.Prelude.{Option as OptionOf}
use lib.Dec.{leb, leb-suc-suc}
use borrow.Author.Tests.{le-leb, lt-leb}
use Rattle.syntax.specs.Terms.{Sheet, Goal, Declaration}
use Rattle.syntax.specs.Reading.{Cursor, Read, fault, ok, read_goal}
use Rattle.syntax.specs.Words.{declarations_words, declaration_words, body_words, declaration_size}
use Rattle.syntax.specs.Verdicts.{Outcome, refused, accepted, goal_from, goal_outcome, goal_verdict, sheet_of, sheet_verdict, read_verdict, read_goal_verdict, nth_entry, outcome_entry, entry_at}
use Rattle.syntax.specs.Limits.{variables, goal_bytes}
use Rattle.syntax.proofs.Spans.{met-length}
use Rattle.syntax.specs.declared.Text.{Text}
use Rattle.syntax.specs.declared.Text.TheVariants.{Sheet as in_sheet, Goal as in_goal}
use Rattle.syntax.specs.declared.Refusal.{Refusal}
use Rattle.syntax.specs.declared.Refusal.TheVariants.{TooLong}
use Rattle.syntax.specs.Verdicts.{Verdict}
use Rattle.syntax.specs.Verdicts.{Accepted, Refused}
use Rattle.syntax.specs.declared.Entry.{Entry}
use Rattle.syntax.specs.declared.Counts.{Counts}
use Rattle.syntax.specs.declared.Fault.{Fault}
use Rattle.parse.specs.declared.Parsed.{Parsed}
use Rattle.parse.specs.Sheets.{GoalGiven, GoalParses}
use Rattle.words.specs.Tables.{WordsAt}
use Rattle.words.proofs.TablesLaws.{has_left, has_right, has-inside, has-taken}
use Rattle.pilvaust.specs.Tables.{Tabled, GoalTabled}
use Rattle.output.specs.Listings.{entry_words}
use Rattle.pilvaust.specs.declared.reading.GoalRead.{GoalRead}
use Rattle.pilvaust.proofs.ReadingLaws.{four-words}
use Rattle.marks.proofs.Accepted.{goal_stands}

-- ---- the entries of a sheet

abbrev entry : ℕ → ℕ → ℕ → OptionOf Entry
entry a l m = Some (record { at = a; len = l; arguments = m })

one_entry : (declared : List ℕ) (d : Declaration) (n p q : ℕ) → q ≡ p → WordsAt declared p (declaration_words d) → entry (d.at) (length d.name) (length d.marks) ≡ cond (leb (suc n) 0) None (entry (get_or declared q 0) (get_or declared (q + 1) 0) (get_or declared (q + 2) 0))
unfolding declaration_words
one_entry declared d n p q e h =
    let p1 : q + 1 ≡ p + 1 = omega arith in
    let p2 : q + 2 ≡ p + 1 + 1 = omega arith in
    let a : get_or declared q 0 ≡ d.at = ap (λ (k : ℕ). get_or declared k 0) e ∙ h.1 in
    let l : get_or declared (q + 1) 0 ≡ length d.name = ap (λ (k : ℕ). get_or declared k 0) p1 ∙ h.2.1 in
    let m : get_or declared (q + 2) 0 ≡ length d.marks = ap (λ (k : ℕ). get_or declared k 0) p2 ∙ h.2.2.1 in
    sym (simp (lt-leb (suc n) 0 (omega arith)) (ap (λ (x : ℕ). entry (x) (get_or declared (q + 1) 0) (get_or declared (q + 2) 0)) a ∙ ap₂ (λ (x y : ℕ). entry (d.at) (x) (y)) l m))

later : (declared : List ℕ) (n i q : ℕ) → cond (leb (suc n) (suc i)) None (entry (get_or declared q 0) (get_or declared (q + 1) 0) (get_or declared (q + 2) 0)) ≡ cond (leb n i) None (entry (get_or declared q 0) (get_or declared (q + 1) 0) (get_or declared (q + 2) 0))
later declared n i q = ap (λ (b : Bool). cond b None (entry (get_or declared q 0) (get_or declared (q + 1) 0) (get_or declared (q + 2) 0))) (leb-suc-suc n i)

pub entry-from : (declared : List ℕ) (ds : List Declaration) (p i q : ℕ) → q ≡ p + declaration_size * i → WordsAt declared p (declarations_words ds) → nth_entry ds i ≡ cond (leb (length ds) i) None (entry (get_or declared q 0) (get_or declared (q + 1) 0) (get_or declared (q + 2) 0))
unfolding nth_entry declarations_words declaration_words
entry-from declared [] p i q e h = simp (le-leb 0 i (omega arith))
entry-from declared (d ∷ ds) p zero q e h =
    let first : WordsAt declared p (declaration_words d) = has_left declared p (declaration_words d) (declarations_words ds) h in
    let here : q ≡ p = omega arith in
    one_entry declared d (length ds) p q here first
entry-from declared (d ∷ ds) p (suc i) q e h =
    let next : p + declaration_size ≡ p + length (declaration_words d) = refl in
    entry-from declared ds (p + declaration_size) i q (omega arith) (has_right declared p (declaration_words d) (declarations_words ds) h) ∙ sym (later declared (length ds) i q)

-- words that stand in a table are no longer than it
pub long-by : (declared ws : List ℕ) → WordsAt declared 0 ws → length ws ≤ length declared
long-by declared [] h = omega arith
long-by declared (w ∷ ws) h = let i : 0 + length (w ∷ ws) ≤ length declared = has-inside declared 0 (w ∷ ws) h (omega arith) in omega arith

-- an answer that counts declarations is that of a sheet
pub counted-by : (o : Outcome Sheet) (n k : ℕ) → sheet_verdict o ≡ Accepted n k → (sh : Sheet) × (o ≡ accepted sh) × (n ≡ length sh.declarations) × (k ≡ length sh.clauses)
unfolding sheet_verdict
counted-by (refused r) n k e = absurd (let z : ◌≡◌ {A = ℕ} 0 1 = cc in omega arith)
counted-by (accepted sh) n k e =
    let z : ◌≡◌ {A = Counts} (record { declarations = length sh.declarations; clauses = length sh.clauses }) (record { declarations = n; clauses = k }) = cc in
    (sh, refl, sym (ap (λ (x : Counts). x.declarations) z), sym (ap (λ (x : Counts). x.clauses) z))

pub counted-sheet : (s : List ℕ) (v : Verdict) (n k : ℕ) → v ≡ read_verdict s → v ≡ Accepted n k → (sh : Sheet) × (sheet_of s ≡ accepted sh) × (n ≡ length sh.declarations) × (k ≡ length sh.clauses)
unfolding read_verdict
counted-sheet s v n k e f = counted-by (sheet_of s) n k (sym e ∙ f)

pub refused-by : (o : Outcome Sheet) (t : Text) (q : Refusal) → sheet_verdict o ≡ Refused t q → (o ≡ refused q) × (t ≡ in_sheet)
unfolding sheet_verdict
refused-by (refused r) t q e =
    let z : ◌≡◌ {A = Fault} (record { text = in_sheet; refusal = r }) (record { text = t; refusal = q }) = cc in
    (ap refused (ap (λ (x : Fault). x.refusal) z), sym (ap (λ (x : Fault). x.text) z))
refused-by (accepted sh) t q e = absurd (let z : ◌≡◌ {A = ℕ} 0 1 = cc in omega arith)

pub refused-sheet : (s : List ℕ) (v : Verdict) (t : Text) (q : Refusal) → v ≡ read_verdict s → v ≡ Refused t q → (sheet_of s ≡ refused q) × (t ≡ in_sheet)
unfolding read_verdict
refused-sheet s v t q e f = refused-by (sheet_of s) t q (sym e ∙ f)

module _ (s declared table : List ℕ) (v : Verdict) (e : v ≡ read_verdict s) (holds : (sh : Sheet) → sheet_of s ≡ accepted sh → Tabled s declared table sh) where
  module _ (n k : ℕ) (f : v ≡ Accepted n k) where
    of : (sh : Sheet) × (sheet_of s ≡ accepted sh) × (n ≡ length sh.declarations) × (k ≡ length sh.clauses)
    of = counted-sheet s v n k e f

    tabled : Tabled s declared table of.0
    tabled = holds of.0 of.1

    words-has : WordsAt declared 0 (declarations_words of.0.declarations)
    words-has = subst (λ (x : Sheet). WordsAt declared 0 (declarations_words x.declarations)) tabled.is tabled.stands.has_declarations

    pub entries-long : declaration_size * n ≤ length declared
    entries-long = let l : length (declarations_words of.0.declarations) ≤ length declared = long-by declared (declarations_words of.0.declarations) words-has in let f4 : length (declarations_words of.0.declarations) ≡ declaration_size * length of.0.declarations = four-words of.0.declarations in let c : n ≡ length of.0.declarations = of.2 in omega arith

    pub entry-is : (i : ℕ) (d : OptionOf Entry) → d ≡ entry_words declared n i → d ≡ entry_at s i
    unfolding entry_at outcome_entry
    entry-is i d ed = ed ∙ ap (λ (m : ℕ). entry_words declared m i) of.2 ∙ sym (entry-from declared of.0.declarations 0 i (declaration_size * i) (omega arith) words-has) ∙ ap (λ (o : Outcome Sheet). outcome_entry o i) (sym of.1)

  pub entry-refused : (t : Text) (q : Refusal) → v ≡ Refused t q → (i : ℕ) → None ≡ entry_at s i
  unfolding entry_at outcome_entry
  entry-refused t q f i = ap (λ (o : Outcome Sheet). outcome_entry o i) (sym (refused-sheet s v t q e f).0)

-- ---- goals

goal-answer : (s table : List ℕ) (q : Refusal) (f : Fault) → goal_outcome s ≡ refused q → f ≡ record { text = in_goal; refusal = q } → GoalTabled s table (Err f)
unfolding goal_verdict
goal-answer s table q f e h = ap (λ (x : Fault). Err x) h ∙ ap goal_verdict (sym e)

pub goal-long : (s table : List ℕ) (f : Fault) → goal_bytes < length s → f ≡ record { text = in_goal; refusal = TooLong } → GoalTabled s table (Err f)
goal-long s table f h e = goal-answer s table TooLong f is e
  where
    is : goal_outcome s ≡ refused TooLong
    is = unfold goal_outcome in ap (λ (b : Bool). elim b as (λ _. Outcome Goal) [ true ↦ goal_from (read_goal s) | false ↦ refused TooLong ]) (lt-leb (length s) goal_bytes h)

module _ (s table : List ℕ) (short : length s ≤ goal_bytes) where
  goal-from : goal_outcome s ≡ goal_from (read_goal s)
  unfolding goal_outcome
  goal-from = ap (λ (b : Bool). elim b as (λ _. Outcome Goal) [ true ↦ goal_from (read_goal s) | false ↦ refused TooLong ]) (le-leb (length s) goal_bytes short)

  pub goal-faults : (q : Refusal) → GoalParses s table (Err q) (read_goal s) → (f : Fault) → f ≡ record { text = in_goal; refusal = q } → GoalTabled s table (Err f)
  unfolding goal_from
  goal-faults q g f h = goal-answer s table q f (by (read_goal s) refl g) h
    where
      by : (d : Read Goal) → read_goal s ≡ d → GoalParses s table (Err q) d → goal_outcome s ≡ refused q
      by (fault k b) e h = goal-from ∙ ap goal_from e ∙ ap refused (sym h)
      by (ok x end) e h = absurd h

  goal-read-by : (p : Parsed) (d : Read Goal) → read_goal s ≡ d → GoalParses s table (Ok p) d → (x : Goal) × (end : Cursor) × (read_goal s ≡ ok x end) × GoalGiven s table p x
  goal-read-by p (fault k b) e h = absurd h
  goal-read-by p (ok x end) e h = (x, end, e, h)

  pub goal_accepted : (p : Parsed) → GoalParses s table (Ok p) (read_goal s) → variables ≤ length table → GoalTabled s table (Ok (record { literals = p.items; count = p.state.count }))
  unfolding goal_from
  goal_accepted p g long =
      let o : (x : Goal) × (end : Cursor) × (read_goal s ≡ ok x end) × GoalGiven s table p x = goal-read-by p (read_goal s) refl g in (
        o.0,
        goal-from ∙ ap goal_from o.2,
        record {
          has = has-taken table p.used (body_words o.0.body) o.3.table_is;
          count = o.3.items_is;
          stands = goal_stands s o.0 o.1 o.2;
          named = record { listed = omega (arith, o.3.few, met-length table long); few = o.3.few; inside = o.3.held.inside };
          names_are = o.3.names_are;
        },
      )

same-goal : (a b : Goal) → ◌≡◌ {A = Outcome Goal} (accepted a) (accepted b) → a ≡ b
same-goal a b e = cc

goal-none : (f : Fault) (g : Goal) → ◌≡◌ {A = Verdict} (Err f) (goal_verdict (accepted g)) → ⊥
unfolding goal_verdict
goal-none f g e = let z : ◌≡◌ {A = ℕ} 0 1 = cc in omega arith

-- the answer, whatever it is: the definition's, and a goal that is accepted stands in the table
abbrev pub verdict_of : Result GoalRead Fault → Verdict
verdict_of (Err f) = Err f
verdict_of (Ok r) = Accepted 0 0

pub goal-verdict : (s table : List ℕ) (r : Result GoalRead Fault) → GoalTabled s table r → verdict_of r ≡ read_goal_verdict s
unfolding read_goal_verdict goal_verdict
goal-verdict s table (Err f) h = h
goal-verdict s table (Ok r) h = ap goal_verdict (sym h.1)

pub goal-held : (s table : List ℕ) (r : Result GoalRead Fault) → GoalTabled s table r → (g : Goal) → goal_outcome s ≡ accepted g → WordsAt table 0 (body_words g.body)
goal-held s table (Err f) h g e = absurd (goal-none f g (h ∙ ap goal_verdict e))
goal-held s table (Ok r) h g e = subst (λ (x : Goal). WordsAt table 0 (body_words x.body)) (same-goal h.0 g (sym h.1 ∙ e)) h.2.has
