-- Laws of reading a sheet item by item: the tables hold what was read so far, and the whole is that and the rest. Assumes nothing.
use Prim.Native.Nat.{ℕ, suc, ◌+◌, ◌-◌, ◌*◌, ◌≤◌, ◌<◌, ◌^◌}
use native.Mathlib.Omega.{arith}
use mathlib.Core.Path.{◌≡◌, refl, sym, ap, ap₂, ◌∙◌, subst, subst⁻¹}
use mathlib.Core.Bool.{Bool, true, false, cond}
use mathlib.Core.List.{List, [], ◌∷◌, ◌++◌, append_assoc, append-nil}
use lib.ListN.{length, take, length-append}
use lib.Dec.{eqb}
use borrow.Author.Tests.{eq-eqb, ne_eqb, eqb-false}
use Rattle.std.specs.Prelude.{Result, Ok, Err}
use Rattle.syntax.proofs.SameKind.{eq-kind, ne_kind}
use Rattle.syntax.specs.Limits.{word_bytes, variables, sheet_bytes, declarations, clauses}
use Rattle.syntax.specs.Spans.{names_from, met, SpansInside}
use Rattle.syntax.proofs.Spans.{held_none}
use Rattle.syntax.specs.Tokens.{token_at, same_kind, variable_kind, name_kind, neck_kind, end_kind}
use Rattle.syntax.specs.Terms.{Declaration, Clause, Sheet, Body}
use Rattle.syntax.specs.Reading.{Cursor, begin, fresh, Read, fault, ok, and_then, wrong, wrong_number, beyond, read_declaration, read_clause, with_declaration, with_clause, item_with, item_of, no_item, a_declaration, a_clause, past_limit, misplaced, read_items, read_sheet, at_start, read_body, read_goal, goal_end}
use Rattle.syntax.specs.Words.{node_words, declaration_words, declarations_words, clause_words, clauses_words, body_words, body_length, declaration_size, sheet_words}
use Rattle.syntax.specs.Verdicts.{fault_of}
use Rattle.syntax.specs.declared.ParserState.{ParserState}
use Rattle.syntax.specs.declared.Refusal.{Refusal}
use Rattle.syntax.specs.declared.Token.{Token}
use Rattle.lex.proofs.TokensLaws.{token-inside, token-some, token-word-short}
use Rattle.parse.specs.Gives.{cursor_of, bytes_left, CursorInside, RoomToRead, Given, Gives, Refused, body_form, clause_form}
use Rattle.parse.specs.declared.Parsed.{Parsed}
use Rattle.parse.proofs.Reading.{refused-beyond}
use Rattle.parse.proofs.Sequence.{seq-ok}
use Rattle.parse.specs.Marks.{DeclarationGiven, DeclarationGives}
use Rattle.parse.specs.Sheets.{declaration_next, clause_next, items_before, SheetInTables, Loading, ItemFault, Parses, GoalParses}

-- ---- the first token

pub started : (s : List ℕ) (t : Token) → length s ≤ sheet_bytes → t ≡ token_at s 0 → (◌≡◌ {A = ParserState} (record { token = t; count = 0; literals = 0 }) (record { token = token_at s 0; count = 0; literals = 0 })) × CursorInside s (record { token = t; count = 0; literals = 0 })
started s t h e = (
  ap (λ (x : Token). record { token = x; count = 0; literals = 0 }) e,
  record {
    inside = subst⁻¹ (λ (x : Token). x.at + x.len ≤ length s) e (token-inside s 0 (omega arith));
    some = subst⁻¹ (λ (x : Token). (x.kind ≡ end_kind → ⊥) → 0 < x.len) e (token-some s 0);
    brief = subst⁻¹ (λ (x : Token). x.kind ≡ variable_kind → x.len ≤ word_bytes) e (λ k. token-word-short s 0 variable_kind k tt);
    few = omega arith;
    short = h;
  },
)

-- ---- one more, with so many left

module _ (s : List ℕ) (st : ParserState) (entry exit : List ℕ) (n : ℕ) where
  pub declaration-full : (r : Refusal) (ds : ℕ) → ds ≡ declarations → Refused st 6 r → DeclarationGives s st entry entry n (Err r) (declaration_next s (declarations - ds) (begin st.token))
  unfolding declaration_next beyond
  declaration-full r ds e f = subst⁻¹ (λ (b : Bool). DeclarationGives s st entry entry n (Err r) (elim b as (λ _. Read Declaration) [ true ↦ beyond (begin st.token) | false ↦ read_declaration s (begin st.token) ])) (eq-eqb (declarations - ds) 0 (omega arith)) (record { is = f; kept = refl })

  pub declaration-one : (r : Result Parsed Refusal) (ds : ℕ) → ds ≤ declarations → (ds ≡ declarations → ⊥) → DeclarationGives s st entry exit n r (read_declaration s (begin st.token)) → DeclarationGives s st entry exit n r (declaration_next s (declarations - ds) (begin st.token))
  unfolding declaration_next
  declaration-one r ds m e g = subst⁻¹ (λ (b : Bool). DeclarationGives s st entry exit n r (elim b as (λ _. Read Declaration) [ true ↦ beyond (begin st.token) | false ↦ read_declaration s (begin st.token) ])) (ne_eqb (declarations - ds) 0 (λ z. e (omega arith))) g

  pub clause-full : (r : Refusal) (cs : ℕ) → cs ≡ clauses → Refused st 6 r → Gives clause_form s st entry entry n (Err r) (clause_next s (clauses - cs) (begin st.token))
  unfolding clause_next
  clause-full r cs e f = subst⁻¹ (λ (b : Bool). Gives clause_form s st entry entry n (Err r) (elim b as (λ _. Read Clause) [ true ↦ beyond (begin st.token) | false ↦ read_clause s (begin st.token) ])) (eq-eqb (clauses - cs) 0 (omega arith)) (refused-beyond clause_form s st st entry entry n r (begin st.token) refl f refl)

  pub clause-one : (r : Result Parsed Refusal) (cs : ℕ) → cs ≤ clauses → (cs ≡ clauses → ⊥) → Gives clause_form s st entry exit n r (read_clause s (begin st.token)) → Gives clause_form s st entry exit n r (clause_next s (clauses - cs) (begin st.token))
  unfolding clause_next
  clause-one r cs m e g = subst⁻¹ (λ (b : Bool). Gives clause_form s st entry exit n r (elim b as (λ _. Read Clause) [ true ↦ beyond (begin st.token) | false ↦ read_clause s (begin st.token) ])) (ne_eqb (clauses - cs) 0 (λ z. e (omega arith))) g

-- where one more was read, one was left
module _ {A : Type 0} {x : A} {end : Cursor} where
  fault-ok : {k b : ℕ} → ◌≡◌ {A = Read A} (fault k b) (ok x end) → ⊥
  fault-ok p = subst (λ (d : Read A). elim d as (λ _. Type 0) [ fault k b ↦ Unit {0} | ok y after ↦ ⊥ ]) p tt

  one-left : {n most : ℕ} (st : Cursor) (r : Read A) (b : Bool) → eqb (most - n) 0 ≡ b → elim b as (λ _. Read A) [ true ↦ beyond st | false ↦ r ] ≡ ok x end → n ≤ most → n < most
  unfolding beyond
  one-left st r true e p m = absurd (fault-ok p)
  one-left {n} {most} st r false e p m = omega (arith, eqb-false (most - n) 0 e)

-- ---- items

-- the definition, by what the token at hand begins
module _ (rest : ℕ → ℕ → Cursor → Read Sheet) (s : List ℕ) (ds cs : ℕ) (st : Cursor) where
  abbrev item : Read Sheet
  item = item_with rest s ds cs st (item_of st.token.kind ds cs)

  item-end : st.token.kind ≡ end_kind → item ≡ ok (record { declarations = []; clauses = [] }) st
  unfolding item_with
  item-end e = let i : item_of st.token.kind ds cs ≡ no_item = simp (eq-kind st.token.kind end_kind e) in ap (item_with rest s ds cs st) i

  item-misplaced : (st.token.kind ≡ end_kind → ⊥) → (st.token.kind ≡ neck_kind → ⊥) → (st.token.kind ≡ name_kind → ⊥) → item ≡ wrong st
  unfolding item_with
  item-misplaced e f g =
      let i : item_of st.token.kind ds cs ≡ misplaced = simp (ne_kind st.token.kind end_kind e, ne_kind st.token.kind neck_kind f, ne_kind st.token.kind name_kind g) in
      ap (item_with rest s ds cs st) i

  -- what reading a declaration, or a clause, leads to
  abbrev after-declaration : Read Declaration → Read Sheet
  after-declaration r = and_then r (λ d after. and_then (rest (ds - 1) cs after) (λ sh end. ok (with_declaration d sh) end))

  abbrev after-clause : Read Clause → Read Sheet
  after-clause r = and_then r (λ c after. and_then (rest ds (cs - 1) (fresh after)) (λ sh end. ok (with_clause c sh) end))

  by-declaration : (b : Bool) → item_with rest s ds cs st (cond b past_limit a_declaration) ≡ after-declaration (elim b as (λ _. Read Declaration) [ true ↦ beyond st | false ↦ read_declaration s st ])
  unfolding item_with and_then beyond
  by-declaration true = refl
  by-declaration false = refl

  item-declaration : (st.token.kind ≡ end_kind → ⊥) → st.token.kind ≡ neck_kind → item ≡ after-declaration (declaration_next s ds st)
  unfolding declaration_next
  item-declaration e f = ap (item_with rest s ds cs st) (simp (ne_kind st.token.kind end_kind e, eq-kind st.token.kind neck_kind f)) ∙ by-declaration (eqb ds 0)

  by-clause : (b : Bool) → item_with rest s ds cs st (cond b past_limit a_clause) ≡ after-clause (elim b as (λ _. Read Clause) [ true ↦ beyond st | false ↦ read_clause s st ])
  unfolding item_with and_then beyond
  by-clause true = refl
  by-clause false = refl

  item-clause : (st.token.kind ≡ end_kind → ⊥) → (st.token.kind ≡ neck_kind → ⊥) → st.token.kind ≡ name_kind → item ≡ after-clause (clause_next s cs st)
  unfolding clause_next
  item-clause e f g =
      ap (item_with rest s ds cs st) (simp (ne_kind st.token.kind end_kind e, ne_kind st.token.kind neck_kind f, eq-kind st.token.kind name_kind g)) ∙ by-clause (eqb cs 0)

-- the items from here on are the one at hand and the others
items : (s : List ℕ) (n ds cs : ℕ) (st : Cursor) → read_items s (suc n) ds cs st ≡ item (λ ds1 cs1 st1. read_items s n ds1 cs1 st1) s ds cs st
unfolding read_items
items s n ds cs st = refl

-- what was read before is put in front
before-nothing : (d : Read Sheet) → d ≡ items_before [] [] d
unfolding items_before
before-nothing (fault k b) = refl
before-nothing (ok sh end) = refl

before-declaration : (dl : List Declaration) (cl : List Clause) (x : Declaration) (d : Read Sheet) → items_before dl cl (and_then d (λ sh end. ok (with_declaration x sh) end)) ≡ items_before (dl ++ (x ∷ [])) cl d
unfolding items_before and_then
before-declaration dl cl x (fault k b) = refl
before-declaration dl cl x (ok sh end) = ap (λ (l : List Declaration). ok (record { declarations = l; clauses = cl ++ sh.clauses }) end) (sym (append_assoc dl (x ∷ []) sh.declarations))

before-clause : (dl : List Declaration) (cl : List Clause) (x : Clause) (d : Read Sheet) → items_before dl cl (and_then d (λ sh end. ok (with_clause x sh) end)) ≡ items_before dl (cl ++ (x ∷ [])) d
unfolding items_before and_then
before-clause dl cl x (fault k b) = refl
before-clause dl cl x (ok sh end) = ap (λ (l : List Clause). ok (record { declarations = dl ++ sh.declarations; clauses = l }) end) (sym (append_assoc cl (x ∷ []) sh.clauses))

declarations-more : (dl : List Declaration) (x : Declaration) → declarations_words (dl ++ (x ∷ [])) ≡ declarations_words dl ++ declaration_words x
unfolding declarations_words
declarations-more [] x = append-nil (declaration_words x)
declarations-more (d ∷ dl) x = ap (λ (w : List ℕ). declaration_words d ++ w) (declarations-more dl x) ∙ sym (append_assoc (declaration_words d) (declarations_words dl) (declaration_words x))

clauses-more : (cl : List Clause) (x : Clause) → clauses_words (cl ++ (x ∷ [])) ≡ clauses_words cl ++ clause_words x
unfolding clauses_words
clauses-more [] x = append-nil (clause_words x)
clauses-more (c ∷ cl) x = ap (λ (w : List ℕ). clause_words c ++ w) (clauses-more cl x) ∙ sym (append_assoc (clause_words c) (clauses_words cl) (clause_words x))

-- ---- the loop

pub loading-start : (s declared table : List ℕ) (st : ParserState) → length s ≤ sheet_bytes → sheet_words ≤ length table → st ≡ record { token = token_at s 0; count = 0; literals = 0 } → CursorInside s st → Loading s declared table 0 0 0 st
unfolding read_sheet declarations_words clauses_words at_start
loading-start s declared table st short long e stands = record {
  dl = [];
  cl = [];
  holds = record { ds_is = refl; cs_is = refl; used_is = refl; declared_is = refl; table_is = refl };
  whole = before-nothing (read_items s (declarations + clauses + 1) declarations clauses (at_start s)) ∙ ap (λ (x : ParserState). items_before [] [] (read_items s (declarations + clauses + 1) declarations clauses (begin x.token))) (sym e);
  ds_most = omega arith;
  cs_most = omega arith;
  standing = stands;
  room = omega arith;
}

module _ (s declared table : List ℕ) (ds cs used : ℕ) (st : ParserState) (l : Loading s declared table ds cs used st) where
  more : declarations + clauses + 1 - (ds + cs) ≡ suc (declarations + clauses + 1 - (ds + cs) - 1)
  more = let a : ds ≤ declarations = l.ds_most in let b : cs ≤ clauses = l.cs_most in omega arith

  whole-suc : read_sheet s ≡ items_before l.dl l.cl (read_items s (suc (declarations + clauses + 1 - (ds + cs) - 1)) (declarations - ds) (clauses - cs) (begin st.token))
  whole-suc = l.whole ∙ ap (λ (k : ℕ). items_before l.dl l.cl (read_items s k (declarations - ds) (clauses - cs) (begin st.token))) more

  -- the items behind the one at hand
  abbrev others : ℕ → ℕ → Cursor → Read Sheet
  others ds1 cs1 st1 = read_items s (declarations + clauses + 1 - (ds + cs) - 1) ds1 cs1 st1

  here : read_items s (suc (declarations + clauses + 1 - (ds + cs) - 1)) (declarations - ds) (clauses - cs) (begin st.token) ≡ item others s (declarations - ds) (clauses - cs) (begin st.token)
  here = items s (declarations + clauses + 1 - (ds + cs) - 1) (declarations - ds) (clauses - cs) (begin st.token)

  pub loading-end : st.token.kind ≡ end_kind → Parses s declared table (Ok (record { declarations = ds; clauses = cs; used = used })) (read_sheet s)
  unfolding items_before
  loading-end e =
      subst⁻¹ (Parses s declared table (Ok (record { declarations = ds; clauses = cs; used = used })))
      (whole-suc ∙ ap (items_before l.dl l.cl) (here ∙ item-end others s (declarations - ds) (clauses - cs) (begin st.token) e) ∙ ap₂ (λ (a : List Declaration) (b : List Clause). ok (record { declarations = a; clauses = b }) (begin st.token)) (append-nil l.dl) (append-nil l.cl))
      (record { holds = l.holds; few = l.ds_most })

  -- a fault of the rest is the whole's
  halt : (k b : ℕ) (q : Refusal) → read_sheet s ≡ fault k b → q ≡ fault_of k b → (declared2 table2 : List ℕ) → SheetInTables declared2 table2 ds cs used l.dl l.cl → ItemFault s (declarations - ds) (clauses - cs) (begin st.token) k b → Parses s declared2 table2 (Err (record { refusal = q; before = record { declarations = ds; clauses = cs; used = used } })) (read_sheet s)
  halt k b q e is declared2 table2 h faulty =
      subst⁻¹ (Parses s declared2 table2 (Err (record { refusal = q; before = record { declarations = ds; clauses = cs; used = used } }))) e
      (record { is = is; dl = l.dl; cl = l.cl; holds = h; from = begin st.token; whole = l.whole; faulty = faulty })

  pub loading-wrong : (q : Refusal) → (st.token.kind ≡ end_kind → ⊥) → (st.token.kind ≡ neck_kind → ⊥) → (st.token.kind ≡ name_kind → ⊥) → Refused st (wrong_number st.token.kind) q → Parses s declared table (Err (record { refusal = q; before = record { declarations = ds; clauses = cs; used = used } })) (read_sheet s)
  unfolding items_before wrong
  loading-wrong q e f g h = halt (wrong_number st.token.kind) st.token.at q (whole-suc ∙ ap (items_before l.dl l.cl) (here ∙ item-misplaced others s (declarations - ds) (clauses - cs) (begin st.token) e f g)) h declared table l.holds
      (λ rest. item-misplaced rest s (declarations - ds) (clauses - cs) (begin st.token) e f g)

  -- ---- a declaration
  module _ (e : st.token.kind ≡ end_kind → ⊥) (f : st.token.kind ≡ neck_kind) (declared2 : List ℕ) where
    at-declaration : read_sheet s ≡ items_before l.dl l.cl (and_then (declaration_next s (declarations - ds) (begin st.token)) (λ d after. and_then (read_items s (declarations + clauses + 1 - (ds + cs) - 1) (declarations - ds - 1) (clauses - cs) after) (λ sh end. ok (with_declaration d sh) end)))
    at-declaration = whole-suc ∙ ap (items_before l.dl l.cl) (here ∙ item-declaration others s (declarations - ds) (clauses - cs) (begin st.token) e f)

    declaration-fault-by : (q : Refusal) (d : Read Declaration) → DeclarationGives s st declared declared2 (declaration_size * ds) (Err q) d → declaration_next s (declarations - ds) (begin st.token) ≡ d → Parses s declared2 table (Err (record { refusal = q; before = record { declarations = ds; clauses = cs; used = used } })) (read_sheet s)
    unfolding items_before and_then
    declaration-fault-by q (fault k b) h ed =
        halt k b q (at-declaration ∙ ap (λ (d : Read Declaration). items_before l.dl l.cl (and_then d (λ d after. and_then (read_items s (declarations + clauses + 1 - (ds + cs) - 1) (declarations - ds - 1) (clauses - cs) after) (λ sh end. ok (with_declaration d sh) end)))) ed) h.is declared2 table
        (record { ds_is = l.holds.ds_is; cs_is = l.holds.cs_is; used_is = l.holds.used_is; declared_is = h.kept ∙ l.holds.declared_is; table_is = l.holds.table_is })
        (λ rest. item-declaration rest s (declarations - ds) (clauses - cs) (begin st.token) e f ∙ ap (after-declaration rest s (declarations - ds) (clauses - cs) (begin st.token)) ed)
    declaration-fault-by q (ok d after) h ed = absurd h

    pub loading-declaration-fault : (q : Refusal) → DeclarationGives s st declared declared2 (declaration_size * ds) (Err q) (declaration_next s (declarations - ds) (begin st.token)) → Parses s declared2 table (Err (record { refusal = q; before = record { declarations = ds; clauses = cs; used = used } })) (read_sheet s)
    loading-declaration-fault q g = declaration-fault-by q (declaration_next s (declarations - ds) (begin st.token)) g refl

    module _ (r : Parsed) (g : DeclarationGives s st declared declared2 (declaration_size * ds) (Ok r) (declaration_next s (declarations - ds) (begin st.token))) where
      one-by : (d : Read Declaration) → DeclarationGives s st declared declared2 (declaration_size * ds) (Ok r) d → (x : Declaration) × (d ≡ ok x (begin r.state.token)) × DeclarationGiven s st declared declared2 (declaration_size * ds) r x (begin r.state.token)
      one-by (fault k b) h = absurd h
      one-by (ok d after) h = (d, ap (ok d) (sym h.state_is), subst⁻¹ (DeclarationGiven s st declared declared2 (declaration_size * ds) r d) h.state_is h)

      one-read : (d : Declaration) × (declaration_next s (declarations - ds) (begin st.token) ≡ ok d (begin r.state.token)) × DeclarationGiven s st declared declared2 (declaration_size * ds) r d (begin r.state.token)
      one-read = one-by (declaration_next s (declarations - ds) (begin st.token)) g

      some_left : ds < declarations
      unfolding declaration_next
      some_left = one-left _ _ (eqb (declarations - ds) 0) refl one-read.1 l.ds_most

      pub declaration-less : bytes_left s r.state < bytes_left s st
      declaration-less = one-read.2.less

      pub loading-declaration : Loading s declared2 table (ds + 1) cs used r.state
      unfolding and_then
      loading-declaration =
          let low : ds < declarations = some_left in
          let k4 : declaration_size * (ds + 1) ≡ declaration_size * ds + declaration_size = omega arith in
          let n1 : declarations + clauses + 1 - (ds + cs) - 1 ≡ declarations + clauses + 1 - ((ds + 1) + cs) = omega arith in
          let n2 : declarations - ds - 1 ≡ declarations - (ds + 1) = omega arith in
          let less : bytes_left s r.state < bytes_left s st = one-read.2.less in
          let room' : used + node_words * bytes_left s st + 4 + variables ≤ length table = l.room in
          let ds_is : ds ≡ length l.dl = l.holds.ds_is in
          record {
            dl = l.dl ++ (one-read.0 ∷ []);
            cl = l.cl;
            holds = record {
              ds_is = simp length-append (omega arith);
              cs_is = l.holds.cs_is;
              used_is = l.holds.used_is;
              declared_is = ap (λ (k : ℕ). take k declared2) k4 ∙ one-read.2.table_is ∙ ap (λ (w : List ℕ). w ++ declaration_words one-read.0) l.holds.declared_is ∙ sym (declarations-more l.dl one-read.0);
              table_is = l.holds.table_is;
            };
            whole = at-declaration
                ∙ ap (λ (d : Read Declaration). items_before l.dl l.cl (and_then d (λ d after. and_then (read_items s (declarations + clauses + 1 - (ds + cs) - 1) (declarations - ds - 1) (clauses - cs) after) (λ sh end. ok (with_declaration d sh) end)))) one-read.1
                ∙ before-declaration l.dl l.cl one-read.0 (read_items s (declarations + clauses + 1 - (ds + cs) - 1) (declarations - ds - 1) (clauses - cs) (begin r.state.token))
                ∙ ap₂ (λ (a b : ℕ). items_before (l.dl ++ (one-read.0 ∷ [])) l.cl (read_items s a b (clauses - cs) (begin r.state.token))) n1 n2;
            ds_most = omega arith;
            cs_most = l.cs_most;
            standing = one-read.2.standing;
            room = omega arith;
          }

  -- ---- a clause
  pub clause-ready : length table < 2 ^ 31 → (st.token.kind ≡ end_kind → ⊥) → RoomToRead s (Rattle.parse.specs.Gives.fresh st) table used 4
  clause-ready small e = record { standing = record { inside = l.standing.inside; some = l.standing.some; brief = l.standing.brief; few = omega arith; short = l.standing.short }; held = held_none s (met table); room = l.room; small = small }

  module _ (e : st.token.kind ≡ end_kind → ⊥) (f : st.token.kind ≡ neck_kind → ⊥) (c : st.token.kind ≡ name_kind) (table2 : List ℕ) (same : length table2 ≡ length table) where
    at-clause : read_sheet s ≡ items_before l.dl l.cl (and_then (clause_next s (clauses - cs) (begin st.token)) (λ x after. and_then (read_items s (declarations + clauses + 1 - (ds + cs) - 1) (declarations - ds) (clauses - cs - 1) (fresh after)) (λ sh end. ok (with_clause x sh) end)))
    at-clause = whole-suc ∙ ap (items_before l.dl l.cl) (here ∙ item-clause others s (declarations - ds) (clauses - cs) (begin st.token) e f c)

    clause-fault-by : (q : Refusal) (d : Read Clause) → Gives clause_form s st table table2 used (Err q) d → clause_next s (clauses - cs) (begin st.token) ≡ d → Parses s declared table2 (Err (record { refusal = q; before = record { declarations = ds; clauses = cs; used = used } })) (read_sheet s)
    unfolding items_before and_then
    clause-fault-by q (fault k b) h ed =
        halt k b q (at-clause ∙ ap (λ (d : Read Clause). items_before l.dl l.cl (and_then d (λ x after. and_then (read_items s (declarations + clauses + 1 - (ds + cs) - 1) (declarations - ds) (clauses - cs - 1) (fresh after)) (λ sh end. ok (with_clause x sh) end)))) ed) h.is declared table2
        (record { ds_is = l.holds.ds_is; cs_is = l.holds.cs_is; used_is = l.holds.used_is; declared_is = l.holds.declared_is; table_is = h.kept ∙ l.holds.table_is })
        (λ rest. item-clause rest s (declarations - ds) (clauses - cs) (begin st.token) e f c ∙ ap (after-clause rest s (declarations - ds) (clauses - cs) (begin st.token)) ed)
    clause-fault-by q (ok x after) h ed = absurd h

    pub loading-clause-fault : (q : Refusal) → Gives clause_form s st table table2 used (Err q) (clause_next s (clauses - cs) (begin st.token)) → Parses s declared table2 (Err (record { refusal = q; before = record { declarations = ds; clauses = cs; used = used } })) (read_sheet s)
    loading-clause-fault q g = clause-fault-by q (clause_next s (clauses - cs) (begin st.token)) g refl

    module _ (r : Parsed) (g : Gives clause_form s st table table2 used (Ok r) (clause_next s (clauses - cs) (begin st.token))) where
      clause-read : (x : Clause) × (clause_next s (clauses - cs) (begin st.token) ≡ ok x (cursor_of s table2 r.state)) × Given s st table table2 used r (clause_words x) 1 (cursor_of s table2 r.state)
      clause-read = seq-ok clause_form s st table table2 used r (clause_next s (clauses - cs) (begin st.token)) g

      clause-left : cs < clauses
      unfolding clause_next
      clause-left = one-left _ _ (eqb (clauses - cs) 0) refl clause-read.1 l.cs_most

      pub clause-less : bytes_left s r.state < bytes_left s st
      unfolding clause_words
      clause-less = let room : length (clause_words clause-read.0) + node_words * bytes_left s r.state + 1 ≤ node_words * bytes_left s st + 1 = clause-read.2.room in omega arith

      pub loading-clause : Loading s declared table2 ds (cs + 1) r.used r.state
      unfolding and_then
      loading-clause =
          let low : cs < clauses = clause-left in
          let ul : r.used ≡ used + length (clause_words clause-read.0) = clause-read.2.used_is in
          let n1 : declarations + clauses + 1 - (ds + cs) - 1 ≡ declarations + clauses + 1 - (ds + (cs + 1)) = omega arith in
          let n2 : clauses - cs - 1 ≡ clauses - (cs + 1) = omega arith in
          let room : length (clause_words clause-read.0) + node_words * bytes_left s r.state + 1 ≤ node_words * bytes_left s st + 1 = clause-read.2.room in
          let room' : used + node_words * bytes_left s st + 4 + variables ≤ length table = l.room in
          let cs_is : cs ≡ length l.cl = l.holds.cs_is in
          let words : clauses_words (l.cl ++ (clause-read.0 ∷ [])) ≡ clauses_words l.cl ++ clause_words clause-read.0 = clauses-more l.cl clause-read.0 in
          let lw : length (clauses_words l.cl ++ clause_words clause-read.0) ≡ length (clauses_words l.cl) + length (clause_words clause-read.0) = length-append (clauses_words l.cl) (clause_words clause-read.0) in
          let used-was : used ≡ length (clauses_words l.cl) = l.holds.used_is in
          record {
            dl = l.dl;
            cl = l.cl ++ (clause-read.0 ∷ []);
            holds = record {
              ds_is = l.holds.ds_is;
              cs_is = simp length-append (omega arith);
              used_is = (let q : r.used ≡ length (clauses_words l.cl ++ clause_words clause-read.0) = omega arith in q) ∙ ap length (sym words);
              declared_is = l.holds.declared_is;
              table_is = ap (λ (k : ℕ). take k table2) ul ∙ clause-read.2.table_is ∙ ap (λ (w : List ℕ). w ++ clause_words clause-read.0) l.holds.table_is ∙ sym words;
            };
            whole = at-clause
                ∙ ap (λ (d : Read Clause). items_before l.dl l.cl (and_then d (λ x after. and_then (read_items s (declarations + clauses + 1 - (ds + cs) - 1) (declarations - ds) (clauses - cs - 1) (fresh after)) (λ sh end. ok (with_clause x sh) end)))) clause-read.1
                ∙ before-clause l.dl l.cl clause-read.0 (read_items s (declarations + clauses + 1 - (ds + cs) - 1) (declarations - ds) (clauses - cs - 1) (begin r.state.token))
                ∙ ap₂ (λ (a b : ℕ). items_before l.dl (l.cl ++ (clause-read.0 ∷ [])) (read_items s a (declarations - ds) b (begin r.state.token))) n1 n2;
            ds_most = l.ds_most;
            cs_most = omega arith;
            standing = clause-read.2.standing;
            room = omega arith;
          }

-- ---- goals

pub goal-ready : (s table : List ℕ) (st : ParserState) → st ≡ record { token = token_at s 0; count = 0; literals = 0 } → CursorInside s st → node_words * length s + 1 + variables ≤ length table → length table < 2 ^ 31 → RoomToRead s st table 0 1
goal-ready s table st e stands long small = record { standing = stands; held = subst⁻¹ (λ (x : ParserState). SpansInside s (met table) x.count) e (held_none s (met table)); room = omega arith; small = small }

module _ (s : List ℕ) (entry exit : List ℕ) (st : ParserState) (is : st ≡ record { token = token_at s 0; count = 0; literals = 0 }) where
  goal-whole : read_goal s ≡ and_then (read_body s (cursor_of s entry st)) (λ b after. goal_end s b after (same_kind after.token.kind end_kind))
  unfolding read_goal at_start names_from
  goal-whole = ap (λ (x : ParserState). and_then (read_body s (cursor_of s entry x)) (λ b after. goal_end s b after (same_kind after.token.kind end_kind))) (sym is)

  goal-fault-by : (q : Refusal) (d : Read Body) → Gives body_form s st entry exit 0 (Err q) d → GoalParses s exit (Err q) (and_then d (λ b after. goal_end s b after (same_kind after.token.kind end_kind)))
  unfolding and_then
  goal-fault-by q (fault k b) h = h.is
  goal-fault-by q (ok b after) h = absurd h

  pub goal-fault : (q : Refusal) → Gives body_form s st entry exit 0 (Err q) (read_body s (cursor_of s entry st)) → GoalParses s exit (Err q) (read_goal s)
  goal-fault q g = subst⁻¹ (GoalParses s exit (Err q)) goal-whole (goal-fault-by q (read_body s (cursor_of s entry st)) g)

  module _ (r : Parsed) (g : Gives body_form s st entry exit 0 (Ok r) (read_body s (cursor_of s entry st))) where
    goal_read : (b : Body) × (read_body s (cursor_of s entry st) ≡ ok b (cursor_of s exit r.state)) × Given s st entry exit 0 r (body_words b) (body_length b) (cursor_of s exit r.state)
    goal_read = seq-ok body_form s st entry exit 0 r (read_body s (cursor_of s entry st)) g

    goal-by : (b : Bool) → same_kind r.state.token.kind end_kind ≡ b → read_goal s ≡ goal_end s goal_read.0 (cursor_of s exit r.state) b
    unfolding and_then
    goal-by b e = goal-whole ∙ ap (λ (d : Read Body). and_then d (λ b after. goal_end s b after (same_kind after.token.kind end_kind))) goal_read.1 ∙ ap (goal_end s goal_read.0 (cursor_of s exit r.state)) e

    pub goal-end : r.state.token.kind ≡ end_kind → GoalParses s exit (Ok r) (read_goal s)
    unfolding goal_end
    goal-end e =
        let u : r.used ≡ 0 + length (body_words goal_read.0) = goal_read.2.used_is in
        let v : 0 + length (body_words goal_read.0) ≡ length (body_words goal_read.0) = omega arith in
        subst⁻¹ (GoalParses s exit (Ok r)) (goal-by true (eq-kind r.state.token.kind end_kind e))
        (record { few = goal_read.2.standing.few; held = goal_read.2.held; names_are = refl; items_is = goal_read.2.items_is; used_is = u ∙ v; table_is = ap (λ (k : ℕ). take k exit) u ∙ goal_read.2.table_is })

    pub goal-wrong : (q : Refusal) → (r.state.token.kind ≡ end_kind → ⊥) → Refused r.state (wrong_number r.state.token.kind) q → GoalParses s exit (Err q) (read_goal s)
    unfolding goal_end wrong
    goal-wrong q e f =
        subst⁻¹ (GoalParses s exit (Err q)) (goal-by false (ne_kind r.state.token.kind end_kind e)) f
