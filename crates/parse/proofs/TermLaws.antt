-- Laws of reading atoms, terms and lists of terms: one for each way out of the functions that read them. Assumes nothing.
use Prim.Native.Nat.{ℕ, suc, ◌+◌, ◌-◌, ◌*◌, ◌≤◌, ◌<◌, ◌^◌}
use native.Mathlib.Nat.{add-zero}
use native.Mathlib.Omega.{arith}
use mathlib.Core.Path.{◌≡◌, refl, sym, ap, ap₂, ◌∙◌, subst, subst⁻¹}
use mathlib.Core.Bool.{Bool, true, false}
use mathlib.Core.List.{List, [], ◌∷◌, ◌++◌, append-nil}
use lib.ListN.{length, set, take, length-append}
use Rattle.std.specs.Prelude.{Result, Ok, Err}
use Rattle.syntax.proofs.SameKind.{eq-kind, ne_kind}
use Rattle.syntax.specs.Terms.{Term, Terms, Atom, variable, compound, nil, cons, arity, term_of}
use Rattle.syntax.specs.Tokens.{spelling, same_kind, comma_kind, end_kind, name_kind, variable_kind, numeral_kind, open_kind, close_kind}
use Rattle.syntax.specs.Numerals.{trimmed, dropped}
use Rattle.syntax.proofs.Numerals.{trimmed-short}
use Rattle.syntax.specs.Reading.{Cursor, numeral_at, spelt, Read, fault, ok, and_then, next, wrong_number, beyond, full, read_variable, read_term, read_term_with, term_with, read_atom, read_atom_with, atom_with, atom_at, read_list, read_arguments, arguments_after, start_of, begins, after_of, After, more, last, neither, Start, a_variable, a_numeral, a_name, nothing}
use Rattle.syntax.specs.Words.{node_words, term_words, terms_words, atom_words, functor}
use Rattle.syntax.specs.Limits.{sheet_bytes, variables, arguments}
use Rattle.syntax.specs.Spans.{met, SpansInside}
use Rattle.syntax.proofs.Spans.{met-three}
use Rattle.syntax.specs.declared.ParserState.{ParserState}
use Rattle.syntax.specs.declared.Refusal.{Refusal}
use Rattle.syntax.specs.declared.TokenKind.{TokenKind}
use Rattle.parse.specs.Gives.{cursor_of, bytes_left, CursorInside, PastToken, RoomToRead, Given, Gives, GivenWith, Refused, ItemCount, full_number, one, term_form, terms_form, atom_form, Form, form}
use Rattle.parse.specs.declared.Parsed.{Parsed}
use Rattle.words.proofs.TextsLaws.{length-spelling}
use Rattle.parse.proofs.Reading.{refused-beyond, refused-wrong, next_of, held_of, cursor-kept, held_kept}
use Rattle.parse.proofs.Starts.{start-variable, start-numeral, start-name, start-nothing, after_more, after_last, after-neither}
use Rattle.parse.proofs.Sequence.{seq-fault, seq-ok, shorter, kept-before, joined, header}

-- the words of a name without arguments
leaf-words : (s : List ℕ) (st : Cursor) (what : ℕ) → st.token.at + st.token.len ≤ length s → what ≡ functor 0 st.token.len → what ∷ node_words ∷ st.token.at ∷ [] ≡ term_words (term_of (atom_at s st nil))
unfolding term_words
leaf-words s st what h is = ap (λ (k : ℕ). k ∷ node_words ∷ st.token.at ∷ []) (is ∙ sym (ap (functor 0) (length-spelling s st.token.at st.token.len h)))

-- the words of a name with arguments
atom-words : (s : List ℕ) (st : Cursor) (ts : Terms) → st.token.at + st.token.len ≤ length s → functor (arity ts) st.token.len ∷ (node_words + length (terms_words ts)) ∷ st.token.at ∷ terms_words ts ≡ atom_words (atom_at s st ts)
unfolding term_words
atom-words s st ts h = ap (λ (k : ℕ). functor (arity ts) k ∷ (node_words + length (terms_words ts)) ∷ st.token.at ∷ terms_words ts) (sym (length-spelling s st.token.at st.token.len h))

-- the node of a name whose arguments were read
pub closed-words : (entry exit : List ℕ) (n what w size at : ℕ) → exit ≡ set (set (set entry n what) (n + 1) size) (n + 2) at → what ≡ w → exit ≡ set (set (set entry n w) (n + 1) size) (n + 2) at
closed-words entry exit n what w size at e q = e ∙ ap (λ (k : ℕ). set (set (set entry n k) (n + 1) size) (n + 2) at) q

-- a term takes a word at least
mutual
  unfolding term_words

  pub term-some : (t : Term) → 1 ≤ length (term_words t)
  term-some (variable v b) = omega arith
  term-some (compound b name ts) = omega arith

  pub arity-words : (ts : Terms) → arity ts ≤ length (terms_words ts)
  arity-words nil = omega arith
  arity-words (cons t ts) = let a : 1 ≤ length (term_words t) = term-some t in let b : arity ts ≤ length (terms_words ts) = arity-words ts in simp length-append (omega arith)

-- none of these kinds is the end
pub name-no_end : {k : TokenKind} → k ≡ name_kind → k ≡ end_kind → ⊥
name-no_end e f = cc

numeral-no_end : {k : TokenKind} → k ≡ numeral_kind → k ≡ end_kind → ⊥
numeral-no_end e f = cc

pub open-no_end : {k : TokenKind} → k ≡ open_kind → k ≡ end_kind → ⊥
open-no_end e f = cc

pub close-no_end : {k : TokenKind} → k ≡ close_kind → k ≡ end_kind → ⊥
close-no_end e f = cc

pub comma-no_end : {k : TokenKind} → k ≡ comma_kind → k ≡ end_kind → ⊥
comma-no_end e f = cc

pub close-no_comma : {k : TokenKind} → k ≡ close_kind → k ≡ comma_kind → ⊥
close-no_comma e f = cc

-- a name's first word fits
pub name-fits : (s : List ℕ) (st : ParserState) (table : List ℕ) (n : ℕ) → RoomToRead s st table n 0 → functor 0 st.token.len < 2 ^ 32
name-fits s st table n ready =
    let inside : st.token.at + st.token.len ≤ length s = ready.standing.inside in
    let short : length s ≤ sheet_bytes = ready.standing.short in
    omega arith

-- what `leaf` asks for a name
pub leaf-asked : (s : List ℕ) (st : ParserState) (table : List ℕ) (n what : ℕ) → RoomToRead s st table n 0 → st.token.kind ≡ name_kind → what ≡ functor 0 st.token.len → RoomToRead s st table n 0 × ((what < 2 ^ 32) × (st.token.kind ≡ end_kind → ⊥))
leaf-asked s st table n what ready k e = (ready, (omega (arith, name-fits s st table n ready), λ q. name-no_end k q))

-- ---- numerals

-- the byte of the first digit kept, and how many digits are kept
module _ (s : List ℕ) (st : ParserState) (table : List ℕ) (n p : ℕ) (ready : RoomToRead s st table n 0) (e : p ≡ st.token.at + dropped (spelling s st.token.at st.token.len)) where
  abbrev kept : ℕ
  kept = st.token.at + st.token.len - p

  pub numeral-low : p ≤ st.token.at + st.token.len
  numeral-low =
      let inside : st.token.at + st.token.len ≤ length s = ready.standing.inside in
      let long : length (spelling s st.token.at st.token.len) ≡ st.token.len = length-spelling s st.token.at st.token.len inside in
      omega arith

  pub numeral-fits : functor 0 kept < 2 ^ 32
  numeral-fits = omega (arith, name-fits s st table n ready)

  -- what `leaf_at` asks for a numeral
  pub numeral-asked : (what : ℕ) → st.token.kind ≡ numeral_kind → what ≡ functor 0 kept → RoomToRead s st table n 0 × ((what < 2 ^ 32) × ((p < 2 ^ 32) × (st.token.kind ≡ end_kind → ⊥)))
  numeral-asked what k is =
      let inside : st.token.at + st.token.len ≤ length s = ready.standing.inside in
      let short : length s ≤ sheet_bytes = ready.standing.short in
      (ready, (omega (arith, numeral-fits), (omega (arith, numeral-low), λ q. numeral-no_end k q)))

numeral-words : (s : List ℕ) (st : Cursor) (p what : ℕ) → st.token.at + st.token.len ≤ length s → p ≡ st.token.at + dropped (spelt s st) → what ≡ functor 0 (st.token.at + st.token.len - p)
    → what ∷ node_words ∷ p ∷ [] ≡ term_words (term_of (numeral_at s st))
unfolding term_words
numeral-words s st p what inside e is =
    let long : length (spelt s st) ≡ st.token.len = length-spelling s st.token.at st.token.len inside in
    let less : length (trimmed (spelt s st)) ≤ length (spelt s st) = trimmed-short (spelt s st) in
    let bytes_left : what ≡ functor 0 (length (trimmed (spelt s st))) = omega (arith, long, less, e, is) in
    ap₂ (λ (k b : ℕ). k ∷ node_words ∷ b ∷ []) bytes_left e

pub numeral-given : (s : List ℕ) (st : ParserState) (entry exit : List ℕ) (n p what : ℕ) (r : Parsed) → RoomToRead s st entry n 0 → p ≡ st.token.at + dropped (spelling s st.token.at st.token.len) → what ≡ functor 0 (st.token.at + st.token.len - p)
    → Given s st entry exit n r (what ∷ node_words ∷ p ∷ []) 1 (next s (cursor_of s entry st)) → Given s st entry exit n r (term_words (term_of (numeral_at s (cursor_of s entry st)))) 1 (next s (cursor_of s entry st))
numeral-given s st entry exit n p what r ready e is g =
    subst (λ (w : List ℕ). Given s st entry exit n r w 1 (next s (cursor_of s entry st))) (numeral-words s (cursor_of s entry st) p what ready.standing.inside e is) g

-- ---- atoms

module _ (most : ℕ) (s : List ℕ) (st : Cursor) where
  -- the definition, by what stands behind the name
  atom-open : (past : Cursor) → past ≡ next s st → past.token.kind ≡ open_kind → read_atom most s st ≡ and_then (read_list most s past) (λ ts after. ok (atom_at s st ts) after)
  unfolding read_atom read_atom_with atom_with
  atom-open past e k = ap (λ (b : Bool). atom_with (λ x. read_list most s x) s st b) (ap (λ (x : Cursor). same_kind x.token.kind open_kind) (sym e) ∙ eq-kind past.token.kind open_kind k) ∙ ap (λ (x : Cursor). and_then (read_list most s x) (λ ts after. ok (atom_at s st ts) after)) (sym e)

  atom-alone : (past : Cursor) → past ≡ next s st → (past.token.kind ≡ open_kind → ⊥) → read_atom most s st ≡ ok (atom_at s st nil) (next s st)
  unfolding read_atom read_atom_with atom_with
  atom-alone past e k = ap (λ (b : Bool). atom_with (λ x. read_list most s x) s st b) (ap (λ (x : Cursor). same_kind x.token.kind open_kind) (sym e) ∙ ne_kind past.token.kind open_kind k)

  list-down : (past inner : Cursor) → (most ≡ 0 → ⊥) → inner ≡ next s past → read_list most s past ≡ read_arguments (λ x. read_term (most - 1) s x) s arguments inner
  unfolding read_list read_term
  list-down past inner z e =
      let d : most ≡ suc (most - 1) = omega (arith, z) in
      ap (λ (l : ℕ). read_list l s past) d ∙ ap (read_arguments (λ x. read_term (most - 1) s x) s arguments) (sym e)

module _ (most : ℕ) (s : List ℕ) (st : ParserState) where
  module _ (entry : List ℕ) (n : ℕ) (ready : RoomToRead s st entry n 0) where
    pub atom-bare : (r : Parsed) (exit : List ℕ) (past : ParserState) (what : ℕ) → PastToken s st past → (past.token.kind ≡ open_kind → ⊥) → what ≡ functor 0 st.token.len
        → Given s st entry exit n r (what ∷ node_words ∷ st.token.at ∷ []) 1 (next s (cursor_of s entry st)) → Gives atom_form s st entry exit n (Ok r) (read_atom most s (cursor_of s entry st))
    atom-bare r exit past what m k is g =
        subst⁻¹ (Gives atom_form s st entry exit n (Ok r)) (atom-alone most s (cursor_of s entry st) (cursor_of s entry past) (next_of entry m) k)
        (subst (λ (w : List ℕ). Given s st entry exit n r w 1 (next s (cursor_of s entry st))) (leaf-words s (cursor_of s entry st) what ready.standing.inside is) g)

    pub atom-deep : (r : Refusal) (past : ParserState) → PastToken s st past → past.token.kind ≡ open_kind → most ≡ 0 → Refused past 6 r → Gives atom_form s st entry entry n (Err r) (read_atom most s (cursor_of s entry st))
    unfolding read_list and_then beyond
    atom-deep r past m k z f =
        subst⁻¹ (Gives atom_form s st entry entry n (Err r)) (atom-open most s (cursor_of s entry st) (cursor_of s entry past) (next_of entry m) k ∙ ap (λ (l : ℕ). and_then (read_list l s (cursor_of s entry past)) (λ ts after. ok (atom_at s (cursor_of s entry st) ts) after)) z)
        (refused-beyond atom_form s st past entry entry n r (cursor_of s entry past) refl f refl)

  module _ (entry exit mid : List ℕ) (n : ℕ) (past inner : ParserState) (ready : RoomToRead s st entry n 0) (name : st.token.kind ≡ name_kind) (m : PastToken s st past) (k : past.token.kind ≡ open_kind) (z : most ≡ 0 → ⊥) (m' : PastToken s past inner) where
    whole : read_atom most s (cursor_of s entry st) ≡ and_then (read_arguments (λ x. read_term (most - 1) s x) s arguments (cursor_of s entry inner)) (λ ts after. ok (atom_at s (cursor_of s entry st) ts) after)
    whole = atom-open most s (cursor_of s entry st) (cursor_of s entry past) (next_of entry m) k ∙ ap (λ (d : Read Terms). and_then d (λ ts after. ok (atom_at s (cursor_of s entry st) ts) after)) (list-down most s (cursor_of s entry st) (cursor_of s entry past) (cursor_of s entry inner) z (next_of entry m'))

    -- the name takes a byte and the bracket another
    space : 2 * node_words + node_words * bytes_left s inner ≤ node_words * bytes_left s st
    space =
        let a : 0 < st.token.len = ready.standing.some (name-no_end name) in
        let b : 0 < past.token.len = m.standing.some (open-no_end k) in
        let i : past.token.at + past.token.len ≤ length s = m.standing.inside in
        let f : st.token.at + st.token.len ≤ past.token.at = m.forward in
        let g : past.token.at + past.token.len ≤ inner.token.at = m'.forward in
        let h : inner.token.at + inner.token.len ≤ length s = m'.standing.inside in
        omega arith

    pub list-ready : RoomToRead s inner entry (n + node_words) 0
    list-ready =
        let room : n + node_words * bytes_left s st + 0 + variables ≤ length entry = ready.room in
        let sp : 2 * node_words + node_words * bytes_left s inner ≤ node_words * bytes_left s st = space in
        record { standing = m'.standing; held = held_of m' (held_of m ready.held); room = omega arith; small = ready.small }

    pub atom-fault : (r : Refusal) → Gives terms_form s inner entry exit (n + node_words) (Err r) (read_arguments (λ x. read_term (most - 1) s x) s arguments (cursor_of s entry inner)) → Gives atom_form s st entry exit n (Err r) (read_atom most s (cursor_of s entry st))
    atom-fault r g = subst⁻¹ (Gives atom_form s st entry exit n (Err r)) whole (seq-fault terms_form atom_form s st inner entry exit n (n + node_words) r (read_arguments (λ x. read_term (most - 1) s x) s arguments (cursor_of s entry inner)) (λ ts after. ok (atom_at s (cursor_of s entry st) ts) after) (omega arith) g)

    module _ (r : Parsed) (g : Gives terms_form s inner entry mid (n + node_words) (Ok r) (read_arguments (λ x. read_term (most - 1) s x) s arguments (cursor_of s entry inner))) where
      -- what `close` asks
      pub close-ready : length mid ≡ length entry → (n + node_words ≤ length mid) × ((st.token.at < 2 ^ 31) × ((st.token.len < 2 ^ 15) × ((r.items < 2 ^ 20) × ((n ≤ r.used) × (r.used < 2 ^ 31)))))
      close-ready l =
          let o : (ts : Terms) × (read_arguments (λ x. read_term (most - 1) s x) s arguments (cursor_of s entry inner) ≡ ok ts (cursor_of s mid r.state)) × Given s inner entry mid (n + node_words) r (terms_words ts) (arity ts) (cursor_of s mid r.state) = seq-ok terms_form s inner entry mid (n + node_words) r (read_arguments (λ x. read_term (most - 1) s x) s arguments (cursor_of s entry inner)) g in
          let room : n + node_words * bytes_left s st + 0 + variables ≤ length entry = ready.room in
          let inside : st.token.at + st.token.len ≤ length s = ready.standing.inside in
          let short : length s ≤ sheet_bytes = ready.standing.short in
          let small : length entry < 2 ^ 31 = ready.small in
          let used : r.used ≡ (n + node_words) + length (terms_words o.0) = o.2.used_is in
          let items : r.items ≡ arity o.0 = o.2.items_is in
          let fits : length (terms_words o.0) + node_words * bytes_left s r.state + 1 ≤ node_words * bytes_left s inner + 1 = o.2.room in
          let sp : 2 * node_words + node_words * bytes_left s inner ≤ node_words * bytes_left s st = space in
          let few : arity o.0 ≤ length (terms_words o.0) = arity-words o.0 in
          (omega arith, (omega arith, (omega arith, (omega arith, (omega arith, omega arith)))))

      pub atom-list : length mid ≡ length entry → (q : Parsed) → q ≡ record { used = r.used; items = 1; state = r.state } → exit ≡ set (set (set mid n (functor r.items st.token.len)) (n + 1) (r.used - n)) (n + 2) st.token.at → Gives atom_form s st entry exit n (Ok q) (read_atom most s (cursor_of s entry st))
      unfolding and_then
      atom-list l q eq ex =
          let o : (ts : Terms) × (read_arguments (λ x. read_term (most - 1) s x) s arguments (cursor_of s entry inner) ≡ ok ts (cursor_of s mid r.state)) × Given s inner entry mid (n + node_words) r (terms_words ts) (arity ts) (cursor_of s mid r.state) = seq-ok terms_form s inner entry mid (n + node_words) r (read_arguments (λ x. read_term (most - 1) s x) s arguments (cursor_of s entry inner)) g in
          let ts : Terms = o.0 in
          let given : Given s inner entry mid (n + node_words) r (terms_words ts) (arity ts) (cursor_of s mid r.state) = o.2 in
          let room : n + node_words * bytes_left s st + 0 + variables ≤ length entry = ready.room in
          let sp : 2 * node_words + node_words * bytes_left s inner ≤ node_words * bytes_left s st = space in
          let used : r.used ≡ (n + node_words) + length (terms_words ts) = given.used_is in
          let fits : length (terms_words ts) + node_words * bytes_left s r.state + 1 ≤ node_words * bytes_left s inner + 1 = given.room in
          let size : r.used - n ≡ node_words + length (terms_words ts) = omega arith in
          let words : List ℕ = functor (arity ts) st.token.len ∷ (node_words + length (terms_words ts)) ∷ st.token.at ∷ terms_words ts in
          let stored : exit ≡ set (set (set mid n (functor (arity ts) st.token.len)) (n + 1) (node_words + length (terms_words ts))) (n + 2) st.token.at =
          ex ∙ ap₂ (λ (i z : ℕ). set (set (set mid n (functor i st.token.len)) (n + 1) z) (n + 2) st.token.at) given.items_is size in
          let same : met exit ≡ met mid = ap met ex ∙ met-three mid n (functor r.items st.token.len) (r.used - n) st.token.at (omega arith) in
          let result : Given s st entry exit n (record { used = r.used; items = 1; state = r.state }) words 1 (cursor_of s mid r.state) = record {
            state_is = cursor-kept s mid exit r.state same;
            items_is = refl;
            used_is = omega arith;
            table_is = header entry mid exit (terms_words ts) n (functor (arity ts) st.token.len) (node_words + length (terms_words ts)) st.token.at (omega arith) given.table_is stored;
            standing = given.standing;
            held = held_kept same given.held;
            room = omega arith;
          } in
          subst⁻¹ (λ (d : Read Atom). Gives atom_form s st entry exit n (Ok q) d) (whole ∙ ap (λ (d : Read Terms). and_then d (λ ts after. ok (atom_at s (cursor_of s entry st) ts) after)) o.1)
          (subst⁻¹ (λ (x : Parsed). Given s st entry exit n x (atom_words (atom_at s (cursor_of s entry st) ts)) 1 (cursor_of s mid r.state)) eq
          (subst (λ (w : List ℕ). Given s st entry exit n (record { used = r.used; items = 1; state = r.state }) w 1 (cursor_of s mid r.state)) (atom-words s (cursor_of s entry st) ts ready.standing.inside) result))

-- ---- terms

module _ (most : ℕ) (s : List ℕ) (st : Cursor) where
  term-by : (x : Start) → start_of st.token.kind ≡ x → read_term most s st ≡ term_with (λ st1. read_list most s st1) s st x
  unfolding read_term read_term_with
  term-by x e = ap (term_with (λ st1. read_list most s st1) s st) e

module _ (most : ℕ) (s : List ℕ) (st : ParserState) where
  module _ (entry exit : List ℕ) (n : ℕ) where
    pub term-variable : (r : Result Parsed Refusal) → st.token.kind ≡ variable_kind → Gives term_form s st entry exit n r (read_variable s (cursor_of s entry st)) → Gives term_form s st entry exit n r (read_term most s (cursor_of s entry st))
    unfolding term_with
    term-variable r e g = subst⁻¹ (Gives term_form s st entry exit n r) (term-by most s (cursor_of s entry st) a_variable (start-variable st.token.kind e)) g

    pub term-numeral : (r : Parsed) → st.token.kind ≡ numeral_kind → Given s st entry exit n r (term_words (term_of (numeral_at s (cursor_of s entry st)))) 1 (next s (cursor_of s entry st)) → Gives term_form s st entry exit n (Ok r) (read_term most s (cursor_of s entry st))
    unfolding term_with
    term-numeral r e g = subst⁻¹ (Gives term_form s st entry exit n (Ok r)) (term-by most s (cursor_of s entry st) a_numeral (start-numeral st.token.kind e)) g

    atom-term : (r : Result Parsed Refusal) (d : Read Atom) → Gives atom_form s st entry exit n r d → Gives term_form s st entry exit n r (and_then d (λ a after. ok (term_of a) after))
    unfolding and_then
    atom-term (Err q) (fault k b) g = g
    atom-term (Err q) (ok a after) g = g
    atom-term (Ok r) (fault k b) g = g
    atom-term (Ok r) (ok a after) g = g

    pub term-name : (r : Result Parsed Refusal) → st.token.kind ≡ name_kind → Gives atom_form s st entry exit n r (read_atom most s (cursor_of s entry st)) → Gives term_form s st entry exit n r (read_term most s (cursor_of s entry st))
    unfolding term_with read_atom
    term-name r e g =
        subst⁻¹ (Gives term_form s st entry exit n r)
        (term-by most s (cursor_of s entry st) a_name (start-name st.token.kind e))
        (atom-term r (read_atom most s (cursor_of s entry st)) g)

    -- a term that begins with no name is read the same whatever brackets are left
    pub term-simple : (r : Result Parsed Refusal) → ((k : ℕ) → Gives term_form s st entry exit n r (read_term k s (cursor_of s entry st))) → Gives term_form s st entry exit n r (read_term most s (cursor_of s entry st))
    term-simple r g = g most

    pub term-other : (r : Refusal) → (st.token.kind ≡ variable_kind → ⊥) → (st.token.kind ≡ numeral_kind → ⊥) → (st.token.kind ≡ name_kind → ⊥) → Refused st (wrong_number st.token.kind) r → Gives term_form s st entry entry n (Err r) (read_term most s (cursor_of s entry st))
    unfolding term_with
    term-other r f h e g = subst⁻¹ (Gives term_form s st entry entry n (Err r)) (term-by most s (cursor_of s entry st) nothing (start-nothing st.token.kind f h e)) (refused-wrong term_form s st st entry entry n r (cursor_of s entry st) refl g refl)

-- ---- lists

-- a list or body that is full
module _ {A : Type 0} (f : Form A) (s : List ℕ) (from st : ParserState) (entry : List ℕ) (n : ℕ) (r : Refusal) (c : Cursor) (t : c.token ≡ st.token) where
  full_by : (b : Bool) → Refused st (full_number b st.token.kind) r → Gives f s from entry entry n (Err r) (full b c)
  unfolding full
  full_by true g = refused-beyond f s from st entry entry n r c t g refl
  full_by false g = refused-wrong f s from st entry entry n r c t g refl

  pub list_full : Refused st (full_number (begins (start_of st.token.kind)) st.token.kind) r → Gives f s from entry entry n (Err r) (full (begins (start_of st.token.kind)) c)
  list_full g = full_by (begins (start_of st.token.kind)) g

-- One of a list was read; a list behind it is read by `rest`. The lists are `Terms` or a body, made by `put` from a thing and a list.
module _ {A L : Type 0} (over : ℕ) (wa : A → List ℕ) (ia : A → ℕ) (wl : L → List ℕ) (il : L → ℕ) (put : A → L → L) (empty : L) (words-put : (a : A) (l : L) → wl (put a l) ≡ wa a ++ wl l) (items-put : (a : A) (l : L) → il (put a l) ≡ ia a + il l) (words-empty : wl empty ≡ []) (items-empty : il empty ≡ 0) (s : List ℕ) (st : ParserState) (entry mid : List ℕ) (n : ℕ) (r : Parsed) (a : A) (g : GivenWith over s st entry mid n r (wa a) (ia a) (cursor_of s mid r.state)) where
  -- the token behind it takes a byte
  past-less : (after : ParserState) → (r.state.token.kind ≡ end_kind → ⊥) → PastToken s r.state after → node_words + node_words * bytes_left s after ≤ node_words * bytes_left s r.state
  past-less after z m =
      let some : 0 < r.state.token.len = g.standing.some z in
      let inside : r.state.token.at + r.state.token.len ≤ length s = g.standing.inside in
      let f : r.state.token.at + r.state.token.len ≤ after.token.at = m.forward in
      omega arith

  pub behind-ready : (spare : ℕ) → RoomToRead s st entry n spare → (after : ParserState) → (r.state.token.kind ≡ end_kind → ⊥) → PastToken s r.state after → length mid ≡ length entry → RoomToRead s after mid r.used spare
  behind-ready spare ready after z m l =
      let less : node_words + node_words * bytes_left s after ≤ node_words * bytes_left s r.state = past-less after z m in
      let room : n + node_words * bytes_left s st + spare + variables ≤ length entry = ready.room in
      let small : length entry < 2 ^ 31 = ready.small in
      let used : r.used ≡ n + length (wa a) = g.used_is in
      let fits : length (wa a) + node_words * bytes_left s r.state + over ≤ node_words * bytes_left s st + 1 = g.room in
      record { standing = m.standing; held = held_of m g.held; room = omega arith; small = omega arith }

  -- a fault behind the comma is the whole's
  pub more-fault : (exit : List ℕ) (after : ParserState) (q : Refusal) (d : Read L) → Gives (form wl il) s after mid exit r.used (Err q) d → n ≤ length entry → Gives (form wl il) s st entry exit n (Err q) (and_then d (λ l end. ok (put a l) end))
  unfolding and_then
  more-fault exit after q (fault f b) h k =
      let used : r.used ≡ n + length (wa a) = g.used_is in
      record { is = h.is; kept = shorter n r.used mid exit (omega arith) h.kept ∙ kept-before n n (length (wa a)) entry mid (wa a) (omega arith) k g.table_is }
  more-fault exit after q (ok l end) h k = absurd h

  pub one-more : (exit : List ℕ) (after : ParserState) (q p : Parsed) (d : Read L) → (r.state.token.kind ≡ end_kind → ⊥) → PastToken s r.state after → Gives (form wl il) s after mid exit r.used (Ok q) d → ItemCount q r.items p → Gives (form wl il) s st entry exit n (Ok p) (and_then d (λ l end. ok (put a l) end))
  unfolding and_then
  one-more exit after q p (fault f b) z m h e = absurd h
  one-more exit after q p (ok l end) z m h e =
      let less : node_words + node_words * bytes_left s after ≤ node_words * bytes_left s r.state = past-less after z m in
      let used : r.used ≡ n + length (wa a) = g.used_is in
      let used' : q.used ≡ r.used + length (wl l) = h.used_is in
      let used'' : p.used ≡ q.used = e.used_is in
      let items : q.items ≡ il l = h.items_is in
      let items' : p.items ≡ q.items + r.items = e.items_is in
      let items'' : r.items ≡ ia a = g.items_is in
      let fits : length (wa a) + node_words * bytes_left s r.state + over ≤ node_words * bytes_left s st + 1 = g.room in
      let fits' : length (wl l) + node_words * bytes_left s q.state + 1 ≤ node_words * bytes_left s after + 1 = h.room in
      let both : length (wa a ++ wl l) ≡ length (wa a) + length (wl l) = length-append (wa a) (wl l) in
      let ends : take ((n + length (wa a)) + length (wl l)) exit ≡ take (n + length (wa a)) mid ++ wl l = subst (λ (u : ℕ). take (u + length (wl l)) exit ≡ take u mid ++ wl l) used h.table_is in
      let result : Given s st entry exit n p (wa a ++ wl l) (ia a + il l) end = record {
        state_is = ap (cursor_of s exit) e.state_is ∙ h.state_is;
        items_is = omega arith;
        used_is = omega arith;
        table_is = joined entry mid exit (wa a) (wl l) n g.table_is ends;
        standing = subst⁻¹ (CursorInside s) e.state_is h.standing;
        held = subst⁻¹ (λ (x : ParserState). SpansInside s (met exit) x.count) e.state_is h.held;
        room = subst⁻¹ (λ (x : ParserState). length (wa a ++ wl l) + node_words * bytes_left s x + 1 ≤ node_words * bytes_left s st + 1) e.state_is (omega arith);
      } in
      subst⁻¹ (λ (w : List ℕ). Given s st entry exit n p w (il (put a l)) end) (words-put a l)
      (subst⁻¹ (λ (i : ℕ). Given s st entry exit n p (wa a ++ wl l) i end) (items-put a l) result)

  -- the things of a list that was read are few
  pub few-items : ((l : L) → il l ≤ length (wl l)) → (exit : List ℕ) (after : ParserState) (q : Parsed) (d : Read L) (m : ℕ) → CursorInside s after → Gives (form wl il) s after mid exit m (Ok q) d → q.items < 2 ^ 31
  few-items few exit after q d m stands h =
      let o : (l : L) × (d ≡ ok l (cursor_of s exit q.state)) × Given s after mid exit m q (wl l) (il l) (cursor_of s exit q.state) = seq-ok (form wl il) s after mid exit m q d h in
      let items : q.items ≡ il o.0 = o.2.items_is in
      let fits : length (wl o.0) + node_words * bytes_left s q.state + 1 ≤ node_words * bytes_left s after + 1 = o.2.room in
      let short : length s ≤ sheet_bytes = stands.short in
      let b : il o.0 ≤ length (wl o.0) = few o.0 in
      omega arith

  pub one_last : (after : ParserState) → (r.state.token.kind ≡ end_kind → ⊥) → PastToken s r.state after → Given s st entry mid n (record { used = r.used; items = r.items; state = after }) (wl (put a empty)) (il (put a empty)) (next s (cursor_of s mid r.state))
  one_last after z m =
      let less : node_words + node_words * bytes_left s after ≤ node_words * bytes_left s r.state = past-less after z m in
      let fits : length (wa a) + node_words * bytes_left s r.state + over ≤ node_words * bytes_left s st + 1 = g.room in
      let result : Given s st entry mid n (record { used = r.used; items = r.items; state = after }) (wa a) (ia a) (cursor_of s mid after) = record {
        state_is = refl;
        items_is = g.items_is;
        used_is = g.used_is;
        table_is = g.table_is;
        standing = m.standing;
        held = held_of m g.held;
        room = omega arith;
      } in
      subst (λ (x : Cursor). Given s st entry mid n (record { used = r.used; items = r.items; state = after }) (wl (put a empty)) (il (put a empty)) x) (next_of mid m)
      (subst⁻¹ (λ (w : List ℕ). Given s st entry mid n (record { used = r.used; items = r.items; state = after }) w (il (put a empty)) (cursor_of s mid after)) (words-put a empty ∙ ap (λ (w : List ℕ). wa a ++ w) words-empty ∙ append-nil (wa a))
      (subst⁻¹ (λ (i : ℕ). Given s st entry mid n (record { used = r.used; items = r.items; state = after }) (wa a) i (cursor_of s mid after)) (items-put a empty ∙ ap (λ (i : ℕ). ia a + i) items-empty ∙ add-zero (ia a)) result))

  pub one_kept : n ≤ length entry → take n mid ≡ take n entry
  one_kept k = kept-before n n (length (wa a)) entry mid (wa a) (omega arith) k g.table_is

-- the lists are `Terms`
module _ (most : ℕ) (s : List ℕ) (k : ℕ) (st : Cursor) where
  abbrev term : Cursor → Read Term
  term x = read_term most s x

  abbrev whole-list : Read Terms
  whole-list = read_arguments (λ x. read_term most s x) s k st

  abbrev go_on : Term → Cursor → Read Terms
  go_on t after = arguments_after (λ st1. read_arguments (λ x. read_term most s x) s (k - 1) st1) s t after (after_of close_kind after.token.kind)

  arguments-some : (k ≡ 0 → ⊥) → whole-list ≡ and_then (read_term most s st) go_on
  unfolding read_arguments
  arguments-some z =
      let d : k ≡ suc (k - 1) = omega (arith, z) in
      ap (λ (j : ℕ). read_arguments (λ x. read_term most s x) s j st) d

module _ (most : ℕ) (s : List ℕ) (k : ℕ) (st : ParserState) where
  pub arguments-full : (entry : List ℕ) (n : ℕ) (r : Refusal) → k ≡ 0 → Refused st (full_number (begins (start_of st.token.kind)) st.token.kind) r → Gives terms_form s st entry entry n (Err r) (read_arguments (λ x. read_term most s x) s k (cursor_of s entry st))
  unfolding read_arguments
  arguments-full entry n r z g = subst⁻¹ (λ (j : ℕ). Gives terms_form s st entry entry n (Err r) (read_arguments (λ x. read_term most s x) s j (cursor_of s entry st))) z (list_full terms_form s st st entry n r (cursor_of s entry st) refl g)

  module _ (entry mid : List ℕ) (n : ℕ) (z : k ≡ 0 → ⊥) where
    pub arguments-fault : (q : Refusal) → Gives term_form s st entry mid n (Err q) (read_term most s (cursor_of s entry st)) → Gives terms_form s st entry mid n (Err q) (read_arguments (λ x. read_term most s x) s k (cursor_of s entry st))
    arguments-fault q g = subst⁻¹ (Gives terms_form s st entry mid n (Err q)) (arguments-some most s k (cursor_of s entry st) z) (seq-fault term_form terms_form s st st entry mid n n q (read_term most s (cursor_of s entry st)) (go_on most s k (cursor_of s entry st)) (omega arith) g)

    module _ (r : Parsed) (ready : RoomToRead s st entry n 0) (g : Gives term_form s st entry mid n (Ok r) (read_term most s (cursor_of s entry st))) where
      read : (t : Term) × (read_term most s (cursor_of s entry st) ≡ ok t (cursor_of s mid r.state)) × Given s st entry mid n r (term_words t) 1 (cursor_of s mid r.state)
      read = seq-ok term_form s st entry mid n r (read_term most s (cursor_of s entry st)) g

      n-in : n ≤ length entry
      n-in = let room : n + node_words * bytes_left s st + 0 + variables ≤ length entry = ready.room in omega arith

      -- the whole, by what stands behind the term
      behind : (x : After) → after_of close_kind r.state.token.kind ≡ x → whole-list most s k (cursor_of s entry st) ≡ arguments_after (λ st1. read_arguments (λ y. read_term most s y) s (k - 1) st1) s read.0 (cursor_of s mid r.state) x
      unfolding and_then
      behind x a = arguments-some most s k (cursor_of s entry st) z ∙ ap (λ (d : Read Term). and_then d (go_on most s k (cursor_of s entry st))) read.1 ∙ ap (arguments_after (λ st1. read_arguments (λ y. read_term most s y) s (k - 1) st1) s read.0 (cursor_of s mid r.state)) a

      pub arguments-standing : CursorInside s r.state
      arguments-standing = read.2.standing

      words-cons : (t : Term) (ts : Terms) → terms_words (cons t ts) ≡ term_words t ++ terms_words ts
      unfolding term_words
      words-cons t ts = refl

      items-cons : (t : Term) (ts : Terms) → arity (cons t ts) ≡ 1 + arity ts
      items-cons t ts = omega arith

      words-nil : terms_words nil ≡ []
      unfolding term_words
      words-nil = refl

      pub arguments-ready : (after : ParserState) → r.state.token.kind ≡ comma_kind → PastToken s r.state after → length mid ≡ length entry → RoomToRead s after mid r.used 0
      arguments-ready after a m l = behind-ready 1 term_words one terms_words arity cons nil words-cons items-cons words-nil refl s st entry mid n r read.0 read.2 0 ready after (comma-no_end a) m l

      -- the whole, by the list behind a comma
      with-more : (after : ParserState) → r.state.token.kind ≡ comma_kind → PastToken s r.state after → whole-list most s k (cursor_of s entry st) ≡ and_then (read_arguments (λ y. read_term most s y) s (k - 1) (cursor_of s mid after)) (λ ts end. ok (cons read.0 ts) end)
      unfolding arguments_after
      with-more after a m = behind more (after_more close_kind r.state.token.kind a) ∙ ap (λ (x : Cursor). and_then (read_arguments (λ y. read_term most s y) s (k - 1) x) (λ ts end. ok (cons read.0 ts) end)) (sym (next_of mid m))

      pub arguments-behind : (exit : List ℕ) (after : ParserState) (q : Refusal) → r.state.token.kind ≡ comma_kind → PastToken s r.state after → Gives terms_form s after mid exit r.used (Err q) (read_arguments (λ x. read_term most s x) s (k - 1) (cursor_of s mid after)) → Gives terms_form s st entry exit n (Err q) (read_arguments (λ x. read_term most s x) s k (cursor_of s entry st))
      arguments-behind exit after q a m h =
          subst⁻¹ (Gives terms_form s st entry exit n (Err q)) (with-more after a m)
          (more-fault 1 term_words one terms_words arity cons nil words-cons items-cons words-nil refl s st entry mid n r read.0 read.2 exit after q (read_arguments (λ x. read_term most s x) s (k - 1) (cursor_of s mid after)) h n-in)

      pub arguments-more : (exit : List ℕ) (after : ParserState) (q p : Parsed) → r.state.token.kind ≡ comma_kind → PastToken s r.state after → Gives terms_form s after mid exit r.used (Ok q) (read_arguments (λ x. read_term most s x) s (k - 1) (cursor_of s mid after)) → ItemCount q 1 p → Gives terms_form s st entry exit n (Ok p) (read_arguments (λ x. read_term most s x) s k (cursor_of s entry st))
      arguments-more exit after q p a m h ep =
          subst⁻¹ (Gives terms_form s st entry exit n (Ok p)) (with-more after a m)
          (one-more 1 term_words one terms_words arity cons nil words-cons items-cons words-nil refl s st entry mid n r read.0 read.2 exit after q p (read_arguments (λ x. read_term most s x) s (k - 1) (cursor_of s mid after)) (comma-no_end a) m h (subst⁻¹ (λ (i : ℕ). ItemCount q i p) read.2.items_is ep))

      pub arguments-few : (exit : List ℕ) (after : ParserState) (q : Parsed) → PastToken s r.state after → Gives terms_form s after mid exit r.used (Ok q) (read_arguments (λ x. read_term most s x) s (k - 1) (cursor_of s mid after)) → q.items < 2 ^ 31
      arguments-few exit after q m h = few-items 1 term_words one terms_words arity cons nil words-cons items-cons words-nil refl s st entry mid n r read.0 read.2 arity-words exit after q (read_arguments (λ x. read_term most s x) s (k - 1) (cursor_of s mid after)) r.used m.standing h

      pub arguments-last : (after : ParserState) → r.state.token.kind ≡ close_kind → PastToken s r.state after → Gives terms_form s st entry mid n (Ok (record { used = r.used; items = 1; state = after })) (read_arguments (λ x. read_term most s x) s k (cursor_of s entry st))
      unfolding arguments_after
      arguments-last after a m =
          subst⁻¹ (Gives terms_form s st entry mid n (Ok (record { used = r.used; items = 1; state = after }))) (behind last (after_last close_kind r.state.token.kind (close-no_comma a) a))
          (subst (λ (i : ℕ). Given s st entry mid n (record { used = r.used; items = i; state = after }) (terms_words (cons read.0 nil)) (arity (cons read.0 nil)) (next s (cursor_of s mid r.state))) read.2.items_is
          (one_last 1 term_words one terms_words arity cons nil words-cons items-cons words-nil refl s st entry mid n r read.0 read.2 after (close-no_end a) m))

      pub arguments-wrong : (q : Refusal) → (r.state.token.kind ≡ comma_kind → ⊥) → (r.state.token.kind ≡ close_kind → ⊥) → Refused r.state (wrong_number r.state.token.kind) q → Gives terms_form s st entry mid n (Err q) (read_arguments (λ x. read_term most s x) s k (cursor_of s entry st))
      unfolding arguments_after
      arguments-wrong q f a h =
          subst⁻¹ (Gives terms_form s st entry mid n (Err q)) (behind neither (after-neither close_kind r.state.token.kind f a))
          (refused-wrong terms_form s st r.state entry mid n q (cursor_of s mid r.state) refl h (one_kept 1 term_words one terms_words arity cons nil words-cons items-cons words-nil refl s st entry mid n r read.0 read.2 n-in))
