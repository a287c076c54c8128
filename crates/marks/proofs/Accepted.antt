-- What reading accepts stands in its text, by the induction over reading. Assumes nothing.
use Prim.Native.Nat.{ℕ, ◌+◌, ◌≤◌, ◌<◌, ◌-◌}
use native.Mathlib.Omega.{arith}
use mathlib.Core.Path.{◌≡◌, sym, ap, ◌∙◌}
use mathlib.Core.List.{List, [], ◌∷◌}
use lib.ListN.{length, drop, length-drop, length-append}
use lib.Seq.{length-take-le}
use Rattle.syntax.specs.Limits.{variables, word_bytes, declarations}
use Rattle.syntax.specs.Tokens.{spelling, kind_place, numeral_kind}
use Rattle.syntax.specs.Terms.{Terms, nil, arity, Sheet, Goal}
use Rattle.syntax.specs.Numerals.{trimmed, dropped}
use Rattle.syntax.proofs.Numerals.{trimmed-short, trimmed-spelling}
use Rattle.syntax.specs.Reading.{Cursor, spelt, ok, cursor_at, next, with_new, one_literal_more, fresh, at_start, read_sheet, read_goal}
use Rattle.syntax.specs.declared.Token.{Token}
use Rattle.syntax.proofs.Induction.{Kept, sheet-read, goal_read}
use Rattle.lex.proofs.Placed.{Placed, placed_first, placed-ends, placed-next, placed-short}
use Rattle.marks.specs.Spelt.{NameAt, TermSpelt, TermsSpelt, stands_variable, stands_compound, stand_nil, stand_cons, LiteralSpelt, call_stands, equation_stands, truth_stands, falsity_stands, either_stands, BodySpelt, done_stands, also_stands, ClauseSpelt, no_clauses, clause_stands, DeclarationSpelt, no_declarations, declaration_stands, SheetSpelt, GoalSpelt}

-- the token at hand is one of the text, and the variables are within their limit
record Reader (s : List ℕ) (st : Cursor) : Type 0 where
  placed : Placed s st.token
  few : length st.names ≤ variables

reader-start : (s : List ℕ) → Reader s (at_start s)
unfolding at_start
reader-start s = record { placed = placed_first s; few = omega arith }

reader-next : {s : List ℕ} {st : Cursor} → Reader s st → Reader s (next s st)
unfolding next cursor_at
reader-next r = record { placed = placed-next r.placed; few = r.few }

reader-new : {s : List ℕ} {st : Cursor} → Reader s st → length st.names < variables → Reader s (with_new s st)
unfolding with_new
reader-new {s} {st} r low = record { placed = r.placed; few = omega (arith, low, length-append st.names (spelt s st ∷ [])) }

reader-counted : {s : List ℕ} {st : Cursor} → Reader s st → Reader s (one_literal_more st)
reader-counted r = record { placed = r.placed; few = r.few }

reader-fresh : {s : List ℕ} {st : Cursor} → Reader s st → Reader s (fresh st)
reader-fresh r = record { placed = r.placed; few = omega arith }

met-below : {s : List ℕ} {st : Cursor} {i : ℕ} → Reader s st → i < length st.names → i < variables
met-below r low = omega (arith, r.few)

-- a word at hand is a name of the text
name-here : {s : List ℕ} {t : Token} → Placed s t → kind_place t.kind ≤ kind_place numeral_kind → NameAt s t.at (spelling s t.at t.len)
name-here {s} {t} p l =
    let ends : t.at + t.len ≤ length s = placed-ends p in
    let short : t.len ≤ word_bytes = placed-short p l in
    let long : length (spelling s t.at t.len) ≡ t.len = length-take-le t.len (drop t.at s) (omega (arith, length-drop t.at s)) in
    record { spelt = ap (spelling s t.at) (sym long); inside = omega arith; short = omega arith }

-- and so is a numeral, without its leading zeros
numeral-here : {s : List ℕ} {t : Token} → Placed s t → kind_place t.kind ≤ kind_place numeral_kind → NameAt s (t.at + dropped (spelling s t.at t.len)) (trimmed (spelling s t.at t.len))
numeral-here {s} {t} p l =
    let ends : t.at + t.len ≤ length s = placed-ends p in
    let short : t.len ≤ word_bytes = placed-short p l in
    let long : length (spelling s t.at t.len) ≡ t.len = length-take-le t.len (drop t.at s) (omega (arith, length-drop t.at s)) in
    let less : length (trimmed (spelling s t.at t.len)) ≤ length (spelling s t.at t.len) = trimmed-short (spelling s t.at t.len) in
    let left : t.len - dropped (spelling s t.at t.len) ≡ length (trimmed (spelling s t.at t.len)) = omega arith in
    record {
      spelt = trimmed-spelling s t.at t.len ∙ ap (spelling s (t.at + dropped (spelling s t.at t.len))) left;
      inside = omega arith;
      short = omega arith;
    }

-- a list of terms of at most k
abbrev Listed : List ℕ → ℕ → Terms → Type 0
Listed s k ts = TermsSpelt s ts × (arity ts ≤ k)

-- a sheet of at most k declarations
abbrev Within : List ℕ → ℕ → Sheet → Type 0
Within s k sh = SheetSpelt s sh × (length sh.declarations ≤ k)

kept : (s : List ℕ)
    → Kept s (Reader s) (λ left. TermSpelt s) (λ left k. Listed s k) (λ n m. LiteralSpelt s) (λ n m. BodySpelt s) (ClauseSpelt s) (DeclarationSpelt s)
    (λ ds cs. Within s ds) (λ g st. GoalSpelt s g)
kept s =
    record {
      at-start = reader-start s;
      past-token = reader-next;
      with_variable = reader-new;
      with-literal = reader-counted;
      without_variables = reader-fresh;
      new-variable = λ r low. stands_variable low;
      old-variable = λ r low. stands_variable (met-below r low);
      numeral = λ r e. stands_compound {ts = nil} (numeral-here r.placed (omega (arith, ap kind_place e))) (omega arith) stand_nil;
      named = λ r e h. stands_compound (name-here r.placed (omega (arith, ap kind_place e))) h.1 h.0;
      no_terms = (stand_nil, omega arith);
      one_term = λ h hs. (stand_cons h hs.0, omega (arith, hs.1));
      called = λ few low h. call_stands h;
      equated = λ few low h k. equation_stands h k;
      true_literal = λ low. truth_stands;
      false_literal = λ low. falsity_stands;
      two_sides = λ some others h k. either_stands h k;
      no_literals = done_stands;
      one_literal = also_stands;
      clause = λ h b r. record { head = h; body = b };
      declaration = λ r e l. record { name = name-here r.placed (omega (arith, ap kind_place e)); few = l };
      no_items = (record { declarations = no_declarations; clauses = no_clauses }, omega arith);
      one_declaration = λ d h. (record { declarations = declaration_stands d h.0.declarations; clauses = h.0.clauses }, omega (arith, h.1));
      one_clause = λ c h. (record { declarations = h.0.declarations; clauses = clause_stands c h.0.clauses }, h.1);
      goal = λ b r. b;
    }

-- what the definition of reading accepts of a sheet stands in its text
pub read-stands : (s : List ℕ) (sh : Sheet) (st : Cursor) → read_sheet s ≡ ok sh st → SheetSpelt s sh
read-stands s sh st e = (sheet-read (kept s) sh st e).0

-- and has no more declarations than a sheet may have
pub read-few : (s : List ℕ) (sh : Sheet) (st : Cursor) → read_sheet s ≡ ok sh st → length sh.declarations ≤ declarations
read-few s sh st e = (sheet-read (kept s) sh st e).1

-- the same of a goal
pub goal_stands : (s : List ℕ) (g : Goal) (st : Cursor) → read_goal s ≡ ok g st → GoalSpelt s g
goal_stands s g st e = goal_read (kept s) g st e
