-- Clauses, declarations and a whole sheet that were written are read back. Assumes nothing.
use Prim.Native.Nat.{ℕ, zero, suc, ◌+◌, ◌-◌, ◌≤◌, ◌<◌}
use native.Mathlib.Omega.{arith}
use mathlib.Core.Path.{◌≡◌, refl, sym, ap, ap₂, ◌∙◌}
use mathlib.Core.Bool.{Bool, false, cond, ◌&&◌}
use mathlib.Core.List.{List, [], ◌∷◌, ◌++◌}
use lib.Dec.{eqb}
use borrow.Author.Tests.{ne_eqb}
use lib.ListN.{length}
use Rattle.syntax.specs.Limits.{brackets, arguments, declarations, clauses}
use Rattle.syntax.specs.Bytes.{class_of, in_word, in_numeral}
use Rattle.syntax.specs.declared.TokenKind.{TokenKind}
use Rattle.syntax.specs.Tokens.{run_length, dash_first, token_of_class, same_kind, name_kind, neck_kind, open_kind, close_kind, comma_kind, stop_kind, plus_kind, minus_kind, star_kind}
use Rattle.syntax.specs.Terms.{Terms, Atom, Body, done, also, Mark, input, output, free, Declaration, Clause, Sheet, same_bytes, same_name, mode_name}
use Rattle.syntax.specs.Reading.{Cursor, Read, ok, and_then, token_kind, is, next, read_body, fresh, tail_of, clause_of, clause_after, read_clause, Sign, mark, sign_of, marks_after, marks_with, read_marks, marks_read, declaration_of, declaration_end, declaration_from, is_mode, after_neck, read_declaration, past_limit, a_clause as a_clause_item, a_declaration as a_declaration_item, item_of, with_declaration, with_clause, item_with, read_items, at_start, read_sheet, after_of}
use Rattle.format_rules.specs.Writing.{list_text, atom_text, body_text, tail_text, end_text, clause_text, mark_byte, more_marks, marks_text, declaration_text, declarations_text, clauses_text, formatted}
use Rattle.format_rules.specs.Plain.{plain_atom, plain_body, plain_clause, plain_clauses, plain_declaration, plain_declarations, plain}
use Rattle.format_theorems.proofs.Tokens.{ReaderBefore, TokenInHand, past_feed, past_space, sign, neck, ended, IsName, Stops, name_here}
use Rattle.format_theorems.proofs.Variables.{names_to, names-none, names-long}
use Rattle.format_theorems.proofs.Grammar.{FitsTail, no_tail, a_tail, FitsClause, FitsDeclaration, FitsDeclarations, a_declaration, FitsClauses, a_clause, FitsSheet}
use Rattle.format_theorems.proofs.Terms.{Ends, list_stops, Back, back_by, back_then, atom_is_back}
use Rattle.format_theorems.proofs.Literals.{by_stop, body_to_back}

-- ---- clauses

ends_neck : (r : List ℕ) → Ends (58 ∷ 45 ∷ r)
unfolding run_length in_word in_numeral class_of token_of_class dash_first
ends_neck r = record { byte = 58; others = 45 ∷ r; whole = refl; begins = refl; closed = λ at. refl; stops = record { word = refl; numeral = refl } }

-- what stands behind a head ends it
tail_ends : (b : Body) (rest : List ℕ) → Ends (tail_text b (46 ∷ rest))
unfolding tail_text
tail_ends done rest = (by_stop.ends rest).ends
tail_ends (also l b) rest = ends_neck (body_text (also l b) (46 ∷ rest))

-- A clause that is as it should be, and the reader behind it, which begins afresh.
record ClauseBack (s rest : List ℕ) (target : Clause) (r : Read Clause) : Type 0 where
  item : Clause
  after : Cursor
  read : r ≡ ok item after
  same : plain_clause item ≡ target
  stands : ReaderBefore s rest (names_to 0) 0 (fresh after)

clause_by : {s rest : List ℕ} {target : Clause} {r q : Read Clause} → r ≡ q → ClauseBack s rest target q → ClauseBack s rest target r
clause_by e b = record { item = b.item; after = b.after; read = e ∙ b.read; same = b.same; stands = b.stands }

clause_then : {A : Type 0} {Same : A → Type 0} {s mid rest : List ℕ} {names : List (List ℕ)} {n : ℕ} {r : Read A} {f : A → Cursor → Read Clause} {target : Clause}
    → Back Same s mid names n r → ((a : A) (st : Cursor) → Same a → ReaderBefore s mid names n st → ClauseBack s rest target (f a st)) → ClauseBack s rest target (and_then r f)
unfolding and_then
clause_then {f = f} b k = clause_by (ap (λ r. and_then r f) b.read) (k b.item b.after b.same b.stands)

-- behind the line feed, with no variable and no literal met
afresh : {s rest : List ℕ} {names : List (List ℕ)} {n : ℕ} {st : Cursor} → ReaderBefore s (10 ∷ rest) names n st → ReaderBefore s rest (names_to 0) 0 (fresh st)
afresh p = let q = past_feed p in record { at = q.at; left = q.left; token = q.token; named = sym names-none; counted = refl }

module _ {s : List ℕ} where
  tail_back : (b : Body) (head h : Atom) (m n : ℕ) (rest : List ℕ) (st : Cursor) → FitsTail m b n → plain_atom h ≡ plain_atom head
      → ReaderBefore s (tail_text b (end_text rest)) (names_to m) 0 st
      → ClauseBack s rest (record { head = plain_atom head; body = plain_body b; variables = n }) (clause_after s h st (tail_of (token_kind st)))
  unfolding clause_after tail_text plain_body read_body class_of
  tail_back done head h m n rest st no_tail e p =
      let x : TokenInHand s stop_kind (46 ∷ []) (10 ∷ rest) (names_to m) 0 st = sign refl refl p in
      let count : length st.names ≡ m = ap length p.named ∙ names-long m in
      record {
        item = clause_of h done st;
        after = next s st;
        read = ap (λ (k : TokenKind). clause_after s h st (tail_of k)) x.kind;
        same = ap₂ (λ (a : Atom) (k : ℕ). record { head = a; body = done; variables = k }) e count;
        stands = afresh x.behind;
      }
  tail_back (also l b) head h m n rest st (a_tail {d = d} f) e p =
      let x : TokenInHand s neck_kind (58 ∷ 45 ∷ []) (body_text (also l b) (end_text rest)) (names_to m) 0 st = neck p in
      clause_by (ap (λ (k : TokenKind). clause_after s h st (tail_of k)) x.kind)
      (clause_then (body_to_back brackets 46 stop_kind by_stop d m n (also l b) (10 ∷ rest) (next s st) f x.behind)
      (λ y after i q.
      let count : length after.names ≡ n = ap length q.named ∙ names-long n in
      record {
        item = clause_of h y after;
        after = after;
        read = refl;
        same = ap₂ (λ (a : Atom) (z : Body). record { head = a; body = z; variables = length after.names }) e i ∙ ap (λ (k : ℕ). record { head = plain_atom head; body = plain_body (also l b); variables = k }) count;
        stands = afresh q;
      }))

  clause_named : (c : Clause) (rest : List ℕ) (st : Cursor) → FitsClause c → ReaderBefore s (clause_text c rest) (names_to 0) 0 st
      → TokenInHand s name_kind c.head.name (list_text c.head.args (tail_text c.body (end_text rest))) (names_to 0) 0 st
  unfolding clause_text atom_text
  clause_named c rest st f p = name_here f.head.name (list_stops c.head.args (tail_text c.body (end_text rest)) (tail_ends c.body (10 ∷ rest))) p

  clause_back : (c : Clause) (rest : List ℕ) (st : Cursor) → FitsClause c → ReaderBefore s (clause_text c rest) (names_to 0) 0 st
      → ClauseBack s rest (plain_clause c) (read_clause s st)
  unfolding read_clause
  clause_back c rest st f p =
      clause_then (atom_is_back brackets c.head.name c.head.args 0 f.met (tail_text c.body (end_text rest)) st f.head.list (tail_ends c.body (10 ∷ rest)) (clause_named c rest st f p))
      (λ h after e q. tail_back c.body c.head h f.met c.variables rest after f.tail (ap₂ (λ (w : List ℕ) (ts : Terms). record { at = 0; name = w; args = ts }) e.0 e.1) q)

-- ---- declarations

mark_kind : Mark → TokenKind
mark_kind input = plus_kind
mark_kind output = minus_kind
mark_kind free = star_kind

marks_stop : (ms : List Mark) (rest : List ℕ) → Stops (marks_text ms (46 ∷ rest))
unfolding marks_text run_length in_word in_numeral
marks_stop [] rest = record { word = refl; numeral = refl }
marks_stop (m ∷ ms) rest = record { word = refl; numeral = refl }

mode_word : IsName mode_name
unfolding class_of run_length in_word
mode_word = record { first = 109; others = 111 ∷ 100 ∷ 101 ∷ []; whole = refl; begins = refl; class = refl; run = refl; short = omega arith }

mode_stops : (r : List ℕ) → Stops (32 ∷ r)
unfolding run_length in_word in_numeral
mode_stops r = record { word = refl; numeral = refl }

module _ {s : List ℕ} {names : List (List ℕ)} {n : ℕ} where
  mark_here : (m : Mark) (rest : List ℕ) (st : Cursor) → ReaderBefore s (mark_byte m ∷ rest) names n st
      → (sign_of (token_kind st) ≡ mark m) × ReaderBefore s rest names n (next s st)
  unfolding class_of
  mark_here input rest st p = let x : TokenInHand s plus_kind (43 ∷ []) rest names n st = sign refl refl p in (ap sign_of x.kind, x.behind)
  mark_here output rest st p = let x : TokenInHand s minus_kind (45 ∷ []) rest names n st = sign refl refl p in (ap sign_of x.kind, x.behind)
  mark_here free rest st p = let x : TokenInHand s star_kind (42 ∷ []) rest names n st = sign refl refl p in (ap sign_of x.kind, x.behind)

  marks_back : (k : ℕ) (m : Mark) (ms : List Mark) (rest : List ℕ) (st : Cursor) → length (m ∷ ms) ≤ k → ReaderBefore s (mark_byte m ∷ more_marks ms rest) names n st
      → Back (λ xs. xs ≡ m ∷ ms) s rest names n (read_marks s k st)
  unfolding read_marks marks_with marks_after more_marks class_of
  marks_back zero m ms rest st l p = absurd (omega arith)
  marks_back (suc k) m [] rest st l p =
      let x = mark_here m (41 ∷ rest) st p in
      let y : TokenInHand s close_kind (41 ∷ []) rest names n (next s st) = sign refl refl x.1 in
      record {
        item = m ∷ [];
        after = next s (next s st);
        read = ap (λ (z : Sign). marks_with (λ st1. read_marks s k st1) s st z) x.0 ∙ ap (λ (z : TokenKind). marks_after (λ st1. read_marks s k st1) s m (next s st) (after_of close_kind z)) y.kind;
        same = refl;
        stands = y.behind;
      }
  marks_back (suc k) m (o ∷ ms) rest st l p =
      let x = mark_here m (44 ∷ mark_byte o ∷ more_marks ms rest) st p in
      let y : TokenInHand s comma_kind (44 ∷ []) (mark_byte o ∷ more_marks ms rest) names n (next s st) = sign refl refl x.1 in
      back_by (ap (λ (z : Sign). marks_with (λ st1. read_marks s k st1) s st z) x.0 ∙ ap (λ (z : TokenKind). marks_after (λ st1. read_marks s k st1) s m (next s st) (after_of close_kind z)) y.kind)
      (back_then (marks_back k o ms rest (next s (next s st)) (omega arith) y.behind)
      (λ xs after e q. record { item = m ∷ xs; after = after; read = refl; same = ap (λ (v : List Mark). m ∷ v) e; stands = q }))

  -- the marks behind a name, or none
  some_marks : (ms : List Mark) (rest : List ℕ) (st : Cursor) → length ms ≤ arguments → ReaderBefore s (marks_text ms (46 ∷ rest)) names n st
      → Back (λ xs. xs ≡ ms) s (46 ∷ rest) names n (marks_read s st (is open_kind st))
  unfolding marks_read marks_text class_of
  some_marks [] rest st l p =
      let x : TokenInHand s stop_kind (46 ∷ []) rest names n st = sign refl refl p in
      record { item = []; after = st; read = ap (λ (k : TokenKind). marks_read s st (same_kind k open_kind)) x.kind; same = refl; stands = p }
  some_marks (m ∷ ms) rest st l p =
      let x : TokenInHand s open_kind (40 ∷ []) (mark_byte m ∷ more_marks ms (46 ∷ rest)) names n st = sign refl refl p in
      back_by (ap (λ (k : TokenKind). marks_read s st (same_kind k open_kind)) x.kind) (marks_back arguments m ms (46 ∷ rest) (next s st) l x.behind)

  declaration_necked : (d : Declaration) (rest : List ℕ) (st : Cursor) → ReaderBefore s (declaration_text d rest) names n st
      → TokenInHand s neck_kind (58 ∷ 45 ∷ []) (32 ∷ (mode_name ++ (32 ∷ (d.name ++ marks_text d.marks (end_text rest))))) names n st
  unfolding declaration_text
  declaration_necked d rest st p = neck p

  declaration_back : (d : Declaration) (rest : List ℕ) (st : Cursor) → FitsDeclaration d → ReaderBefore s (declaration_text d rest) names n st
      → Back (λ x. plain_declaration x ≡ plain_declaration d) s rest names n (read_declaration s st)
  unfolding read_declaration after_neck is_mode declaration_from declaration_end class_of same_bytes
  declaration_back d rest st f p =
      let x = declaration_necked d rest st p in
      let y : TokenInHand s name_kind mode_name (32 ∷ (d.name ++ marks_text d.marks (end_text rest))) names n (next s st) =
      name_here mode_word (mode_stops (d.name ++ marks_text d.marks (end_text rest))) (past_space x.behind) in
      let z : TokenInHand s name_kind d.name (marks_text d.marks (end_text rest)) names n (next s (next s st)) =
      name_here f.name (marks_stop d.marks (10 ∷ rest)) (past_space y.behind) in
      back_by (ap₂ (λ (k : TokenKind) (w : List ℕ). after_neck s (next s st) (same_kind k name_kind && same_name w mode_name)) y.kind y.word
      ∙ ap (λ (k : TokenKind). declaration_from s (next s (next s st)) (same_kind k name_kind)) z.kind)
      (back_then (some_marks d.marks (10 ∷ rest) (next s (next s (next s st))) f.few z.behind)
      (λ ms after e q.
      let v : TokenInHand s stop_kind (46 ∷ []) (10 ∷ rest) names n after = sign refl refl q in
      record {
        item = declaration_of s (next s (next s st)) ms;
        after = next s after;
        read = ap (λ (k : TokenKind). declaration_end s (declaration_of s (next s (next s st)) ms) after (same_kind k stop_kind)) v.kind;
        same = ap₂ (λ (w : List ℕ) (xs : List Mark). record { at = 0; name = w; marks = xs }) z.word e;
        stands = past_feed v.behind;
      }))

-- ---- sheets

-- A sheet that is as it should be.
record SheetBack (target : Sheet) (r : Read Sheet) : Type 0 where
  item : Sheet
  after : Cursor
  read : r ≡ ok item after
  same : plain item ≡ target

sheet_by : {target : Sheet} {r q : Read Sheet} → r ≡ q → SheetBack target q → SheetBack target r
sheet_by e b = record { item = b.item; after = b.after; read = e ∙ b.read; same = b.same }

not_zero : (k : ℕ) → eqb (suc k) 0 ≡ false
not_zero k = ne_eqb (suc k) 0 (λ e. omega arith)

less_one : (k : ℕ) → suc k - 1 ≡ k
less_one k = omega arith

-- one clause, and the items behind it
with_clause_back : {s : List ℕ} (c : Clause) (target : Sheet) (rest : List ℕ) (items : Cursor → Read Sheet) (r : Read Clause) → ClauseBack s rest (plain_clause c) r
    → ((st : Cursor) → ReaderBefore s rest (names_to 0) 0 st → SheetBack target (items st))
    → SheetBack (with_clause (plain_clause c) target) (and_then r (λ x after. and_then (items (fresh after)) (λ sh end. ok (with_clause x sh) end)))
unfolding and_then plain_clauses
with_clause_back c target rest items r b k =
    let i = k (fresh b.after) b.stands in
    record {
      item = with_clause b.item i.item;
      after = i.after;
      read = ap (λ r. and_then r (λ x after. and_then (items (fresh after)) (λ sh end. ok (with_clause x sh) end))) b.read ∙ ap (λ r. and_then r (λ sh end. ok (with_clause b.item sh) end)) i.read;
      same = ap₂ (λ (x : Clause) (sh : Sheet). with_clause x sh) b.same i.same;
    }

with_declaration_back : {s : List ℕ} (d : Declaration) (target : Sheet) (rest : List ℕ) (items : Cursor → Read Sheet) (r : Read Declaration)
    → Back (λ x. plain_declaration x ≡ plain_declaration d) s rest (names_to 0) 0 r
    → ((st : Cursor) → ReaderBefore s rest (names_to 0) 0 st → SheetBack target (items st))
    → SheetBack (with_declaration (plain_declaration d) target) (and_then r (λ x after. and_then (items after) (λ sh end. ok (with_declaration x sh) end)))
unfolding and_then plain_declarations
with_declaration_back d target rest items r b k =
    let i = k b.after b.stands in
    record {
      item = with_declaration b.item i.item;
      after = i.after;
      read = ap (λ r. and_then r (λ x after. and_then (items after) (λ sh end. ok (with_declaration x sh) end))) b.read ∙ ap (λ r. and_then r (λ sh end. ok (with_declaration b.item sh) end)) i.read;
      same = ap₂ (λ (x : Declaration) (sh : Sheet). with_declaration x sh) b.same i.same;
    }

module _ {s : List ℕ} where
  clauses_back : (n ds cs : ℕ) (cls : List Clause) (st : Cursor) → FitsClauses cs cls → length cls < n → ReaderBefore s (clauses_text cls) (names_to 0) 0 st
      → SheetBack (record { declarations = []; clauses = plain_clauses cls }) (read_items s n ds cs st)
  unfolding read_items item_with clauses_text plain_clauses plain_declarations
  clauses_back zero ds cs cls st f l p = absurd (omega arith)
  clauses_back (suc n) ds cs [] st f l p =
      record {
        item = record { declarations = []; clauses = [] };
        after = st;
        read = ap (λ (k : TokenKind). item_with (λ ds1 cs1 st1. read_items s n ds1 cs1 st1) s ds cs st (item_of k ds cs)) (ended p);
        same = refl;
      }
  clauses_back (suc n) ds zero (c ∷ cls) st f l p = elim f [ ]
  clauses_back (suc n) ds (suc cs) (c ∷ cls) st (a_clause f g) l p =
      let x = clause_named c (clauses_text cls) st f p in
      sheet_by (ap (λ (k : TokenKind). item_with (λ ds1 cs1 st1. read_items s n ds1 cs1 st1) s ds (suc cs) st (item_of k ds (suc cs))) x.kind
      ∙ ap (λ (b : Bool). item_with (λ ds1 cs1 st1. read_items s n ds1 cs1 st1) s ds (suc cs) st (cond b past_limit a_clause_item)) (not_zero cs))
      (with_clause_back c (record { declarations = []; clauses = plain_clauses cls }) (clauses_text cls) (λ st1. read_items s n ds (suc cs - 1) st1) (read_clause s st)
      (clause_back c (clauses_text cls) st f p)
      (λ st1 q. sheet_by (ap (λ (j : ℕ). read_items s n ds j st1) (less_one cs)) (clauses_back n ds cs cls st1 g (omega arith) q)))

  items_back : (n ds cs : ℕ) (decls : List Declaration) (cls : List Clause) (st : Cursor) → FitsDeclarations ds decls → FitsClauses cs cls
      → length decls + length cls < n → ReaderBefore s (declarations_text decls (clauses_text cls)) (names_to 0) 0 st
      → SheetBack (record { declarations = plain_declarations decls; clauses = plain_clauses cls }) (read_items s n ds cs st)
  unfolding read_items item_with declarations_text plain_declarations
  items_back n ds cs [] cls st f g l p = clauses_back n ds cs cls st g (omega arith) p
  items_back zero ds cs (d ∷ decls) cls st f g l p = absurd (omega arith)
  items_back (suc n) zero cs (d ∷ decls) cls st f g l p = elim f [ ]
  items_back (suc n) (suc ds) cs (d ∷ decls) cls st (a_declaration f h) g l p =
      let x = declaration_necked d (declarations_text decls (clauses_text cls)) st p in
      sheet_by (ap (λ (k : TokenKind). item_with (λ ds1 cs1 st1. read_items s n ds1 cs1 st1) s (suc ds) cs st (item_of k (suc ds) cs)) x.kind
      ∙ ap (λ (b : Bool). item_with (λ ds1 cs1 st1. read_items s n ds1 cs1 st1) s (suc ds) cs st (cond b past_limit a_declaration_item)) (not_zero ds))
      (with_declaration_back d (record { declarations = plain_declarations decls; clauses = plain_clauses cls }) (declarations_text decls (clauses_text cls))
      (λ st1. read_items s n (suc ds - 1) cs st1) (read_declaration s st)
      (declaration_back d (declarations_text decls (clauses_text cls)) st f p)
      (λ st1 q. sheet_by (ap (λ (j : ℕ). read_items s n j cs st1) (less_one ds)) (items_back n ds cs decls cls st1 h g (omega arith) q)))

few_declarations : (k : ℕ) (ds : List Declaration) → FitsDeclarations k ds → length ds ≤ k
few_declarations k [] f = omega arith
few_declarations zero (d ∷ ds) f = elim f [ ]
few_declarations (suc k) (d ∷ ds) (a_declaration g h) = omega (arith, few_declarations k ds h)

few_clauses : (k : ℕ) (cs : List Clause) → FitsClauses k cs → length cs ≤ k
few_clauses k [] f = omega arith
few_clauses zero (c ∷ cs) f = elim f [ ]
few_clauses (suc k) (c ∷ cs) (a_clause g h) = omega (arith, few_clauses k cs h)

-- The writing of a sheet that can be read is read back, but for places.
pub record ReadBack (sh : Sheet) : Type 0 where
  pub item : Sheet
  pub after : Cursor
  pub read : read_sheet (formatted sh) ≡ ok item after
  pub same : plain item ≡ plain sh

pub sheet_back : (sh : Sheet) → FitsSheet sh → ReadBack sh
unfolding read_sheet at_start formatted
sheet_back sh f =
    let d : length sh.declarations ≤ declarations = few_declarations declarations sh.declarations f.declarations in
    let c : length sh.clauses ≤ clauses = few_clauses clauses sh.clauses f.clauses in
    let start : ReaderBefore (formatted sh) (formatted sh) (names_to 0) 0 (at_start (formatted sh)) = record { at = 0; left = refl; token = refl; named = sym names-none; counted = refl } in
    let b = items_back (declarations + clauses + 1) declarations clauses sh.declarations sh.clauses (at_start (formatted sh)) f.declarations f.clauses (omega arith) start in
    record { item = b.item; after = b.after; read = b.read; same = b.same }
