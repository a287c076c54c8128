-- Laws of readers and of what was read, which the functions that read cite. Assumes nothing.
use Prim.Native.Nat.{ℕ, zero, suc, ◌+◌, ◌-◌, ◌*◌, ◌≤◌, ◌<◌, ◌^◌}
use native.Mathlib.Numerals.{add-one}
use native.Mathlib.Omega.{arith}
use mathlib.Core.Path.{◌≡◌, refl, sym, ap, ap₂, ◌∙◌, subst, subst⁻¹}
use mathlib.Core.Bool.{Bool, true, false}
use mathlib.Core.List.{List, [], ◌∷◌, ◌++◌, append_assoc}
use mathlib.Core.Option.{Option, none, some}
use Rattle.std.specs.Prelude.{Result, Ok, Err, Some, None}
use Rattle.std.specs.Prelude.{Option as OptionOf}
use lib.ListN.{length, get_or, set, take, drop, length-set}
use lib.Seq.{take-suc-set, take-set-le}
use borrow.Author.Tests.{lt-ltb, le-ltb}
use Rattle.syntax.specs.Tokens.{token_at, spelling, variable_kind, end_kind}
use Rattle.syntax.specs.Verdicts.{fault_of}
use Rattle.syntax.specs.declared.Refusal.{Refusal}
use Rattle.syntax.specs.declared.TokenKind.{TokenKind}
use Rattle.syntax.specs.Limits.{sheet_bytes, word_bytes, variables}
use Rattle.syntax.specs.Spans.{packed, spanned, SpanInside, names_from, met, SpansInside}
use Rattle.syntax.proofs.Spans.{packed-inside, packed-spelt, names-length, names-new, held_new, met-three, met-new, met-length}
use Rattle.syntax.specs.Reading.{Cursor, Read, ok, cursor_at, next, variable_number, is_anonymous, with_new, new_variable, old_variable, read_variable, wrong, wrong_number, beyond}
use Rattle.syntax.specs.Terms.{Term, variable, same_name}
use Rattle.syntax.specs.declared.Token.{Token}
use Rattle.syntax.specs.declared.ParserState.{ParserState}
use Rattle.parse.specs.Gives.{cursor_of, state_onward, found, CursorInside, PastToken, FoundAs, MetAs, RoomToRead, Given, Gives, bytes_left, Refused, term_form, Form}
use Rattle.syntax.specs.Words.{node_words, term_words}
use Rattle.parse.specs.declared.Parsed.{Parsed}
use Rattle.lex.proofs.TokensLaws.{token-inside, token-at-from, token-some, token-word-short}

-- ---- the reader past a token

pub moved : (s : List ℕ) (st : ParserState) (t : Token) → CursorInside s st → t ≡ token_at s (st.token.at + st.token.len) → PastToken s st (record { token = t; count = st.count; literals = st.literals })
moved s st t h e = record {
  is = ap (λ (u : Token). record { token = u; count = st.count; literals = st.literals }) e;
  standing = record {
    inside = subst⁻¹ (λ (u : Token). u.at + u.len ≤ length s) e (token-inside s (st.token.at + st.token.len) h.inside);
    some = subst⁻¹ (λ (u : Token). (u.kind ≡ end_kind → ⊥) → 0 < u.len) e (token-some s (st.token.at + st.token.len));
    brief = subst⁻¹ (λ (u : Token). u.kind ≡ variable_kind → u.len ≤ word_bytes) e (λ k. token-word-short s (st.token.at + st.token.len) variable_kind k tt);
    few = h.few;
    short = h.short;
  };
  forward = subst⁻¹ (λ (u : Token). st.token.at + st.token.len ≤ u.at) e (token-at-from s (st.token.at + st.token.len));
}

-- the same of the state past the token
pub moved-onward : (s : List ℕ) (st : ParserState) → CursorInside s st → PastToken s st (state_onward s st)
moved-onward s st h = moved s st (token_at s (st.token.at + st.token.len)) h refl

-- the reader that it stands for
pub next_of : {s : List ℕ} {st r : ParserState} (table : List ℕ) → PastToken s st r → cursor_of s table r ≡ next s (cursor_of s table st)
unfolding next cursor_at
next_of {s} table m = ap (cursor_of s table) m.is

-- the words of the variables met stay where a state has moved, and where only words before them were stored
pub held_of : {s : List ℕ} {st r : ParserState} {words : List ℕ} → PastToken s st r → SpansInside s words st.count → SpansInside s words r.count
held_of {s} {st} {r} {words} m h = subst⁻¹ (λ (x : ParserState). SpansInside s words x.count) m.is h

pub cursor-kept : (s entry exit : List ℕ) (st : ParserState) → met exit ≡ met entry → cursor_of s exit st ≡ cursor_of s entry st
cursor-kept s entry exit st e = ap (λ (m : List ℕ). record { token = st.token; names = names_from s m 0 st.count; literals = st.literals }) e

pub held_kept : {s a b : List ℕ} {k : ℕ} → b ≡ a → SpansInside s a k → SpansInside s b k
held_kept {s} {k = k} e h = subst⁻¹ (λ (m : List ℕ). SpansInside s m k) e h

-- there is room past a token too
pub past-ready : {s : List ℕ} {st past : ParserState} {table : List ℕ} {n spare : ℕ} → RoomToRead s st table n spare → PastToken s st past → RoomToRead s past table n spare
past-ready {s} {st} {past} {table} {n} {spare} ready m =
    let room : n + node_words * bytes_left s st + spare + variables ≤ length table = ready.room in
    let forward : st.token.at + st.token.len ≤ past.token.at = m.forward in
    record { standing = m.standing; held = held_of m ready.held; room = omega arith; small = ready.small }

-- ---- the number of a variable

-- a word of the last ones
get_d_drop : (k : ℕ) (l : List ℕ) (i : ℕ) → get_or l (k + i) 0 ≡ get_or (drop k l) i 0
get_d_drop zero l i = let e : 0 + i ≡ i = omega arith in ap (λ (j : ℕ). get_or l j 0) e
get_d_drop (suc k) [] i = refl
get_d_drop (suc k) (x ∷ l) i = let e : suc k + i ≡ suc (k + i) = omega arith in ap (λ (j : ℕ). get_or (x ∷ l) j 0) e ∙ get_d_drop k l i

-- the search for a variable, from number i on
abbrev pub searched : List ℕ → Token → ℕ → List ℕ → ℕ → Option ℕ
searched s t count table i = variable_number (spelling s t.at t.len) i (names_from s (met table) i (count - i))

number-start : (s : List ℕ) (t : Token) (count : ℕ) (table : List ℕ) → variable_number (spelling s t.at t.len) 0 (names_from s (met table) 0 count) ≡ searched s t count table 0
number-start s t count table = let z : count - 0 ≡ count = omega arith in ap (λ (k : ℕ). variable_number (spelling s t.at t.len) 0 (names_from s (met table) 0 k)) (sym z)

module _ (s : List ℕ) (t : Token) (count : ℕ) (table : List ℕ) (from i w : ℕ) (h : i < count) (ef : from ≡ length table - variables) (ew : w ≡ get_or table (from + i) 0) where
  word-is : w ≡ get_or (met table) i 0
  word-is = ew ∙ ap (λ (k : ℕ). get_or table (k + i) 0) ef ∙ get_d_drop (length table - variables) table i

  pub span-inside : SpansInside s (met table) count → SpanInside s w
  span-inside held = subst⁻¹ (SpanInside s) word-is (held.inside i h)

  rest : List (List ℕ)
  rest = names_from s (met table) (i + 1) (count - (i + 1))

  by-same : Bool → Option ℕ
  by-same u = elim u as (λ _. Option ℕ) [ true ↦ some i | false ↦ variable_number (spelling s t.at t.len) (suc i) rest ]

  number-unfold : searched s t count table i ≡ by-same (same_name (spanned s w) (spelling s t.at t.len))
  unfolding names_from variable_number by-same rest
  number-unfold =
      let k : count - i ≡ suc (count - (i + 1)) = omega arith in
      ap (λ (j : ℕ). variable_number (spelling s t.at t.len) i (names_from s (met table) i j)) k
      ∙ ap₂ (λ (x j : ℕ). variable_number (spelling s t.at t.len) i (spanned s x ∷ names_from s (met table) j (count - (i + 1)))) (sym word-is) (sym (add-one i))

  module _ (b : Bool) (eb : b ≡ same_name (spanned s w) (spelling s t.at t.len)) (so_far : searched s t count table 0 ≡ searched s t count table i) where
    pub number-found : b ≡ true → FoundAs (variable_number (spelling s t.at t.len) 0 (names_from s (met table) 0 count)) count (Some i)
    unfolding by-same
    number-found e = subst⁻¹ (λ (o : Option ℕ). FoundAs o count (Some i)) (number-start s t count table ∙ so_far ∙ number-unfold ∙ ap by-same (sym eb ∙ e)) (refl, h)

    pub number_step : b ≡ false → searched s t count table 0 ≡ searched s t count table (i + 1)
    unfolding by-same rest
    number_step e = so_far ∙ number-unfold ∙ ap by-same (sym eb ∙ e) ∙ ap (λ (n : ℕ). variable_number (spelling s t.at t.len) n (names_from s (met table) (i + 1) (count - (i + 1)))) (sym (add-one i))

pub number-none : (s : List ℕ) (t : Token) (count : ℕ) (table : List ℕ) (i : ℕ) → count ≤ i → searched s t count table 0 ≡ searched s t count table i → FoundAs (variable_number (spelling s t.at t.len) 0 (names_from s (met table) 0 count)) count None
unfolding variable_number names_from
number-none s t count table i h so_far =
    let z : count - i ≡ 0 = omega arith in
    subst⁻¹ (λ (o : Option ℕ). FoundAs o count None) (number-start s t count table ∙ so_far ∙ ap (λ (k : ℕ). variable_number (spelling s t.at t.len) i (names_from s (met table) i k)) z) refl

-- ---- words

-- three stores in a row
pub three : (l : List ℕ) (n a b c : ℕ) → n + 3 ≤ length l → take (n + 3) (set (set (set l n a) (n + 1) b) (n + 2) c) ≡ take n l ++ (a ∷ b ∷ c ∷ [])
three l n a b c h =
    ap (λ (k : ℕ). take k (set (set (set l n a) (n + 1) b) (n + 2) c)) e3
    ∙ take-suc-set (set (set l n a) (n + 1) b) (n + 2) c (simp length-set (omega arith))
    ∙ ap (λ (x : List ℕ). x ++ (c ∷ [])) (ap (λ (k : ℕ). take k (set (set l n a) (n + 1) b)) e2 ∙ take-suc-set (set l n a) (n + 1) b (simp length-set (omega arith)))
    ∙ ap (λ (x : List ℕ). (x ++ (b ∷ [])) ++ (c ∷ [])) (ap (λ (k : ℕ). take k (set l n a)) (add-one n) ∙ take-suc-set l n a (omega arith))
    ∙ simp append_assoc
  where
    e3 : n + 3 ≡ suc (n + 2)
    e3 = omega arith

    e2 : n + 2 ≡ suc (n + 1)
    e2 = omega arith

pub leaf-given : (s : List ℕ) (st : ParserState) (entry exit : List ℕ) (n what b : ℕ) (after : ParserState) → RoomToRead s st entry n 0 → (st.token.kind ≡ end_kind → ⊥) → exit ≡ set (set (set entry n what) (n + 1) node_words) (n + 2) b → PastToken s st after → Given s st entry exit n (record { used = n + node_words; items = 1; state = after }) (what ∷ node_words ∷ b ∷ []) 1 (next s (cursor_of s entry st))
leaf-given s st entry exit n what b after ready k e m =
    let some : 0 < st.token.len = ready.standing.some k in
    let inside : st.token.at + st.token.len ≤ length s = ready.standing.inside in
    let room : n + node_words * bytes_left s st + 0 + variables ≤ length entry = ready.room in
    let forward : st.token.at + st.token.len ≤ after.token.at = m.forward in
    let kept : met exit ≡ met entry = ap met e ∙ met-three entry n what node_words b (omega arith) in
    record {
      state_is = cursor-kept s entry exit after kept ∙ next_of entry m;
      items_is = refl;
      used_is = refl;
      table_is = ap (take (n + node_words)) e ∙ three entry n what node_words b (omega arith);
      standing = m.standing;
      held = held_kept kept (held_of m ready.held);
      room = omega arith;
    }

-- a token's node has room, and its place fits a word
pub node-room : (s : List ℕ) (st : ParserState) (table : List ℕ) (n : ℕ) → RoomToRead s st table n 0 → (st.token.kind ≡ end_kind → ⊥) → (n + node_words ≤ length table) × (st.token.at < 2 ^ 32)
node-room s st table n ready k =
    let some : 0 < st.token.len = ready.standing.some k in
    let inside : st.token.at + st.token.len ≤ length s = ready.standing.inside in
    let short : length s ≤ sheet_bytes = ready.standing.short in
    let room : n + node_words * bytes_left s st + 0 + variables ≤ length table = ready.room in
    omega arith

-- ---- faults

-- The fault of a reader that stands for the state.
module _ {A : Type 0} (f : Form A) (s : List ℕ) (from st : ParserState) (entry exit : List ℕ) (n : ℕ) (q : Refusal) (c : Cursor) (t : c.token ≡ st.token) where
  refused-at : (k : TokenKind → ℕ) → Refused st (k st.token.kind) q → q ≡ fault_of (k c.token.kind) c.token.at
  refused-at k e = e ∙ ap (λ (x : Token). fault_of (k x.kind) x.at) (sym t)

  pub refused-beyond : Refused st 6 q → take n exit ≡ take n entry → Gives f s from entry exit n (Err q) (beyond c)
  unfolding beyond
  refused-beyond e k = record { is = refused-at (λ _. 6) e; kept = k }

  pub refused-wrong : Refused st (wrong_number st.token.kind) q → take n exit ≡ take n entry → Gives f s from entry exit n (Err q) (wrong c)
  unfolding wrong
  refused-wrong e k = record { is = refused-at wrong_number e; kept = k }

-- ---- variables

new_ok : (s : List ℕ) (c : Cursor) → length c.names < variables → new_variable s c ≡ ok (variable (length c.names) c.token.at) (next s (with_new s c))
unfolding new_variable
new_ok s c h = rw (lt-ltb (length c.names) variables h, new_variable)

new-beyond : (s : List ℕ) (c : Cursor) → variables ≤ length c.names → new_variable s c ≡ beyond c
unfolding new_variable
new-beyond s c h = rw (le-ltb (length c.names) variables h, new_variable)

not_end : {k : TokenKind} → k ≡ variable_kind → k ≡ end_kind → ⊥
not_end e f = cc

pub new-stored : (table : List ℕ) (p w at len : ℕ) → w ≡ packed at len → set table p w ≡ set table p (packed at len)
new-stored table p w at len e = ap (set table p) e

-- one variable more: the state and the table with its word
module _ (s : List ℕ) (st new : ParserState) (entry mid : List ℕ) (n : ℕ) (e : new ≡ record { token = st.token; count = st.count + 1; literals = st.literals }) (em : mid ≡ set entry (length entry - variables + st.count) (packed st.token.at st.token.len)) (h : st.count < variables) (k : st.token.kind ≡ variable_kind) (ready : RoomToRead s st entry n 0) where
  long : length mid ≡ length entry
  long = ap length em ∙ length-set entry (length entry - variables + st.count) (packed st.token.at st.token.len)

  table-room : n + node_words * bytes_left s st + 0 + variables ≤ length entry
  table-room = ready.room

  met-is : met mid ≡ set (met entry) st.count (packed st.token.at st.token.len)
  met-is = ap met em ∙ met-new entry st.count (packed st.token.at st.token.len)

  count-in : st.count < length (met entry)
  count-in = let room : n + node_words * bytes_left s st + 0 + variables ≤ length entry = table-room in let l : length (met entry) ≡ variables = met-length entry (omega arith) in omega arith

  pub new-ready : RoomToRead s new mid n 0 × ((st.count < 2 ^ 32) × (new.token.kind ≡ end_kind → ⊥))
  new-ready =
      let room : n + node_words * bytes_left s st + 0 + variables ≤ length entry = table-room in
      let small : length entry < 2 ^ 31 = ready.small in
      let l : length mid ≡ length entry = long in (
        subst⁻¹ (λ (x : ParserState). RoomToRead s x mid n 0) e (record {
          standing = record { inside = ready.standing.inside; some = ready.standing.some; brief = ready.standing.brief; few = omega arith; short = ready.standing.short };
          held = subst⁻¹ (λ (m : List ℕ). SpansInside s m (st.count + 1)) met-is (held_new s (met entry) st.count (packed st.token.at st.token.len) count-in (packed-inside s st.token.at st.token.len ready.standing.inside) ready.held);
          room = omega arith;
          small = omega arith;
        }),
        (omega arith, subst⁻¹ (λ (x : ParserState). x.token.kind ≡ end_kind → ⊥) e (not_end k)),
      )

  cursor-new : cursor_of s mid new ≡ with_new s (cursor_of s entry st)
  unfolding with_new
  cursor-new =
      let brief : st.token.len ≤ word_bytes = ready.standing.brief k in
      ap (cursor_of s mid) e
      ∙ ap (λ (l : List (List ℕ)). record { token = st.token; names = l; literals = st.literals })
      (ap (λ (m : List ℕ). names_from s m 0 (st.count + 1)) met-is
      ∙ names-new s (met entry) st.count (packed st.token.at st.token.len) count-in
      ∙ ap (λ (x : List ℕ). names_from s (met entry) 0 st.count ++ (x ∷ [])) (packed-spelt s st.token.at st.token.len (omega arith)))

  pub new-given : (exit : List ℕ) (r : Parsed) → Given s new mid exit n r (st.count ∷ node_words ∷ new.token.at ∷ []) 1 (next s (cursor_of s mid new)) → Gives term_form s st entry exit n (Ok r) (new_variable s (cursor_of s entry st))
  unfolding term_words
  new-given exit r g =
      let room : n + node_words * bytes_left s st + 0 + variables ≤ length entry = table-room in
      let c : Cursor = cursor_of s entry st in
      let count : length (names_from s (met entry) 0 st.count) ≡ st.count = names-length s (met entry) 0 st.count in
      let token : new.token ≡ st.token = ap (λ (x : ParserState). x.token) e in
      let words : st.count ∷ node_words ∷ new.token.at ∷ [] ≡ length (names_from s (met entry) 0 st.count) ∷ node_words ∷ st.token.at ∷ [] = ap₂ (λ (x : ℕ) (t : Token). x ∷ node_words ∷ t.at ∷ []) (sym count) token in
      let front : take n mid ≡ take n entry = ap (take n) em ∙ take-set-le n entry (length entry - variables + st.count) (packed st.token.at st.token.len) (omega arith) in
      let room' : node_words + node_words * bytes_left s r.state + 1 ≤ node_words * (length s - st.token.at) + 1 = subst (λ (t : Token). node_words + node_words * bytes_left s r.state + 1 ≤ node_words * (length s - t.at) + 1) token g.room in
      subst⁻¹ (Gives term_form s st entry exit n (Ok r)) (new_ok s (cursor_of s entry st) (omega arith))
      (record {
        state_is = g.state_is ∙ ap (next s) cursor-new;
        items_is = g.items_is;
        used_is = g.used_is;
        table_is = g.table_is ∙ ap₂ (λ (a b : List ℕ). a ++ b) front words;
        standing = g.standing;
        held = g.held;
        room = room';
      })

pub new-refused : (s : List ℕ) (st : ParserState) (entry : List ℕ) (n : ℕ) (q : Refusal) → variables ≤ st.count → Refused st 6 q → Gives term_form s st entry entry n (Err q) (new_variable s (cursor_of s entry st))
new-refused s st entry n q h f =
    let count : length (names_from s (met entry) 0 st.count) ≡ st.count = names-length s (met entry) 0 st.count in
    subst⁻¹ (Gives term_form s st entry entry n (Err q)) (new-beyond s (cursor_of s entry st) (omega arith)) (refused-beyond term_form s st st entry entry n q (cursor_of s entry st) refl f refl)

module _ (s : List ℕ) (st : ParserState) (entry exit : List ℕ) (n : ℕ) where
  by-name : Bool → Read Term
  by-name b = elim b as (λ _. Read Term) [ true ↦ new_variable s (cursor_of s entry st) | false ↦ old_variable s (cursor_of s entry st) (found s entry st) ]

  read-by : (b : Bool) → is_anonymous s st.token ≡ b → read_variable s (cursor_of s entry st) ≡ by-name b
  unfolding read_variable by-name
  read-by b e = ap by-name e

  module _ (o : OptionOf ℕ) (f : MetAs (is_anonymous s st.token) (found s entry st) st.count o) where
    pub variable-met : (r : Parsed) (v : ℕ) → o ≡ Some v → Given s st entry exit n r (v ∷ node_words ∷ st.token.at ∷ []) 1 (next s (cursor_of s entry st)) → Gives term_form s st entry exit n (Ok r) (read_variable s (cursor_of s entry st))
    unfolding old_variable term_words by-name
    variable-met r v h g = by (is_anonymous s st.token) refl f
      where
        old-by : (d : Option ℕ) → FoundAs d st.count o → Gives term_form s st entry exit n (Ok r) (old_variable s (cursor_of s entry st) d)
        old-by none k = absurd (let z : ◌≡◌ {A = OptionOf ℕ} (Some v) None = sym h ∙ k in cc)
        old-by (some i) k = let z : v ≡ i = (let w : ◌≡◌ {A = OptionOf ℕ} (Some v) (Some i) = sym h ∙ k.0 in cc) in subst (λ (x : ℕ). Given s st entry exit n r (x ∷ node_words ∷ st.token.at ∷ []) 1 (next s (cursor_of s entry st))) z g

        by : (b : Bool) → is_anonymous s st.token ≡ b → MetAs b (found s entry st) st.count o → Gives term_form s st entry exit n (Ok r) (read_variable s (cursor_of s entry st))
        by true e k = absurd (let z : ◌≡◌ {A = OptionOf ℕ} (Some v) None = sym h ∙ k in cc)
        by false e k = subst⁻¹ (Gives term_form s st entry exit n (Ok r)) (read-by false e) (old-by (found s entry st) k)

    -- what `leaf` asks
    pub leaf-ready : (v : ℕ) → o ≡ Some v → RoomToRead s st entry n 0 → st.token.kind ≡ variable_kind → RoomToRead s st entry n 0 × ((v < 2 ^ 32) × (st.token.kind ≡ end_kind → ⊥))
    leaf-ready v h ready k = (ready, (low, not_end k))
      where
        low-by : (d : Option ℕ) → FoundAs d st.count o → v < 2 ^ 32
        low-by none w = absurd (let z : ◌≡◌ {A = OptionOf ℕ} (Some v) None = sym h ∙ w in cc)
        low-by (some i) w =
            let few : st.count ≤ variables = ready.standing.few in
            let z : v ≡ i = (let w : ◌≡◌ {A = OptionOf ℕ} (Some v) (Some i) = sym h ∙ w.0 in cc) in
            let b : i < st.count = w.1 in
            omega arith

        by : (b : Bool) → MetAs b (found s entry st) st.count o → v < 2 ^ 32
        by true w = absurd (let z : ◌≡◌ {A = OptionOf ℕ} (Some v) None = sym h ∙ w in cc)
        by false w = low-by (found s entry st) w

        low : v < 2 ^ 32
        low = by (is_anonymous s st.token) f

    pub variable-unmet : (r : Result Parsed Refusal) → o ≡ None → Gives term_form s st entry exit n r (new_variable s (cursor_of s entry st)) → Gives term_form s st entry exit n r (read_variable s (cursor_of s entry st))
    unfolding old_variable by-name
    variable-unmet r h g = by (is_anonymous s st.token) refl f
      where
        new-by : (d : Option ℕ) → FoundAs d st.count o → Gives term_form s st entry exit n r (old_variable s (cursor_of s entry st) d)
        new-by none k = g
        new-by (some i) k = absurd (let z : ◌≡◌ {A = OptionOf ℕ} None (Some i) = sym h ∙ k.0 in cc)

        by : (b : Bool) → is_anonymous s st.token ≡ b → MetAs b (found s entry st) st.count o → Gives term_form s st entry exit n r (read_variable s (cursor_of s entry st))
        by true e k = subst⁻¹ (Gives term_form s st entry exit n r) (read-by true e) g
        by false e k = subst⁻¹ (Gives term_form s st entry exit n r) (read-by false e) (new-by (found s entry st) k)

-- which variable the token at hand is
module _ (s : List ℕ) (st : ParserState) (b : Bool) (eb : b ≡ is_anonymous s st.token) (found : Option ℕ) where
  pub met-anonymous : b ≡ true → MetAs (is_anonymous s st.token) found st.count None
  met-anonymous e = subst (λ (u : Bool). MetAs u found st.count None) (sym e ∙ eb) refl

  pub met-named : b ≡ false → (v : OptionOf ℕ) → FoundAs found st.count v → MetAs (is_anonymous s st.token) found st.count v
  met-named e v f = subst (λ (u : Bool). MetAs u found st.count v) (sym e ∙ eb) f
