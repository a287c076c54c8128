-- Laws of reading literals: one for each way out of the functions that read them. Assumes nothing.
use Prim.Native.Nat.{ℕ, suc, ◌+◌, ◌-◌, ◌*◌, ◌≤◌, ◌<◌, ◌^◌}
use native.Mathlib.Numerals.{add-one}
use native.Mathlib.Omega.{arith}
use mathlib.Core.Path.{◌≡◌, refl, sym, ap, ap₂, ◌∙◌, subst, subst⁻¹}
use mathlib.Core.Bool.{Bool, true, false, cond, ◌&&◌}
use mathlib.Core.List.{List, [], ◌∷◌, ◌++◌, append_assoc}
use lib.ListN.{length, set, take, length-append, length-take, length-set}
use lib.Seq.{take-set-lt, take-set-le, set-append_left, take-suc-set, take-take, take_all}
use lib.Dec.{eqb, lit<}
use borrow.Author.Tests.{eq-eqb, ne_eqb, eqb-true, eqb-false}
use Rattle.std.specs.Prelude.{Result, Ok, Err}
use Rattle.syntax.proofs.SameKind.{eq-kind, ne_kind}
use Rattle.syntax.specs.Terms.{Term, Terms, Atom, nil, cons, arity, term_of, Literal, call, equation, truth, falsity, literal_of, same_name, true_name, fail_name}
use Rattle.syntax.specs.Limits.{variables}
use Rattle.syntax.specs.Spans.{met}
use Rattle.syntax.proofs.Spans.{met-kept}
use Rattle.syntax.specs.Tokens.{spelling, same_kind, equals_kind, end_kind, name_kind, open_kind}
use Rattle.syntax.specs.declared.Refusal.{Refusal}
use Rattle.syntax.specs.declared.TokenKind.{TokenKind}
use Rattle.syntax.specs.Reading.{Cursor, Read, fault, ok, and_then, next, wrong_number, read_term, read_atom, atom_at, read_right, after_atom, after_term, literal_with, read_atom_with, atom_with, read_list}
use Rattle.syntax.specs.Words.{node_words, term_words, terms_words, atom_words, literal_words, literal_length, truth_kind, falsity_kind, call_kind, equation_kind}
use Rattle.syntax.specs.declared.ParserState.{ParserState}
use Rattle.parse.specs.Gives.{cursor_of, state_onward, bytes_left, PastToken, RoomToRead, Faulted, Given, Gives, GivenWith, Refused, Form, form, one, term_form, atom_form, literal_form}
use Rattle.parse.specs.declared.Parsed.{Parsed}
use Rattle.parse.proofs.Reading.{refused-wrong, moved-onward, next_of, held_of, cursor-kept, held_kept}
use Rattle.parse.proofs.TermLaws.{term-some}
use Rattle.parse.proofs.Sequence.{seq-fault, seq-ok, shorter, kept-before, joined}
use Rattle.parse.specs.Atoms.{atom_number, alone_number, Alone}

-- ---- one word stored in front of a run

pub front : (entry mid exit w : List ℕ) (n a : ℕ) → n + 1 ≤ length entry → take ((n + 1) + length w) mid ≡ take (n + 1) entry ++ w → exit ≡ set mid n a → take (n + length (a ∷ w)) exit ≡ take n entry ++ (a ∷ w)
front entry mid exit w n a h e f =
    let k : n + length (a ∷ w) ≡ (n + 1) + length w = omega arith in
    let l : length (take (n + 1) entry) ≡ n + 1 = simp length-take (omega arith) in
    ap₂ (λ (i : ℕ) (x : List ℕ). take i x) k f
    ∙ take-set-lt ((n + 1) + length w) mid n a (omega arith)
    ∙ ap (λ (x : List ℕ). set x n a) e
    ∙ set-append_left (take (n + 1) entry) w n a (omega arith)
    ∙ ap (λ (x : List ℕ). x ++ w)
    (sym (take_all (n + 1) (set (take (n + 1) entry) n a) (simp length-set (omega arith)))
    ∙ ap (λ (j : ℕ). take j (set (take (n + 1) entry) n a)) (add-one n)
    ∙ take-suc-set (take (n + 1) entry) n a (omega arith)
    ∙ ap (λ (x : List ℕ). x ++ (a ∷ [])) (take-take n (n + 1) entry (omega arith)))
    ∙ append_assoc (take n entry) (a ∷ []) w

-- ---- the right side of an equation

-- an equals sign is not the end
equals-no_end : {k : TokenKind} → k ≡ equals_kind → k ≡ end_kind → ⊥
equals-no_end e f = cc

pub right_given : (most : ℕ) (s : List ℕ) (st past : ParserState) (entry mid exit : List ℕ) (n used : ℕ) (r : Result Parsed Refusal) → PastToken s st past → mid ≡ set entry n equation_kind → Gives term_form s past mid exit used r (read_term most s (cursor_of s mid past)) → Gives term_form s (state_onward s st) (set entry n equation_kind) exit used r (read_term most s (cursor_of s (set entry n equation_kind) (state_onward s st)))
right_given most s st past entry mid exit n used r m e g =
    subst (λ (x : ParserState). Gives term_form s x (set entry n equation_kind) exit used r (read_term most s (cursor_of s (set entry n equation_kind) x))) m.is
    (subst (λ (x : List ℕ). Gives term_form s past x exit used r (read_term most s (cursor_of s x past))) e g)

-- its first word is stored before the words of the variables
pub right-asked : {s : List ℕ} {st past : ParserState} {entry mid : List ℕ} {n used : ℕ} → RoomToRead s st entry used 0 → n < used → mid ≡ set entry n equation_kind → PastToken s st past → RoomToRead s past mid used 0
right-asked {s} {st} {past} {entry} {mid} {n} {used} ready low e m =
    let room : used + node_words * bytes_left s st + 0 + variables ≤ length entry = ready.room in
    let small : length entry < 2 ^ 31 = ready.small in
    let l : length mid ≡ length entry = ap length e ∙ length-set entry n equation_kind in
    let f : st.token.at + st.token.len ≤ past.token.at = m.forward in
    let same : met mid ≡ met entry = ap met e ∙ met-kept entry n equation_kind (omega arith) in
    record { standing = m.standing; held = held_kept same (held_of m ready.held); room = omega arith; small = omega arith }

-- ---- what an atom alone stands for

pub number-long : (size : ℕ) (name : List ℕ) → (size ≡ node_words → ⊥) → call_kind ≡ atom_number (eqb size node_words) name
number-long size name n = simp (ne_eqb size node_words n)

module _ (size : ℕ) (name : List ℕ) (e : size ≡ node_words) (b : Bool) (eb : b ≡ same_name name true_name) where
  pub number-true : b ≡ true → truth_kind ≡ atom_number (eqb size node_words) name
  number-true f = simp (eq-eqb size node_words e, sym eb ∙ f)

  module _ (nb : b ≡ false) (c : Bool) (ec : c ≡ same_name name fail_name) where
    pub number-fail : c ≡ true → falsity_kind ≡ atom_number (eqb size node_words) name
    number-fail f = simp (eq-eqb size node_words e, sym eb ∙ nb, sym ec ∙ f)

    pub number-call : c ≡ false → call_kind ≡ atom_number (eqb size node_words) name
    number-call f = simp (eq-eqb size node_words e, sym eb ∙ nb, sym ec ∙ f)

-- ---- what an atom alone is

numbered : Bool → Bool → ℕ
numbered x y = cond x 0 (cond y 1 2)

two-call : (a : Atom) (x y : Bool) → numbered x y ≡ 2 → cond x truth (cond y falsity (call a)) ≡ call a
unfolding numbered
two-call a true y e = absurd (omega (arith, e))
two-call a false true e = absurd (omega (arith, e))
two-call a false false e = refl

other-words : (a : Atom) (x y : Bool) → (numbered x y ≡ 2 → ⊥) → literal_words (cond x truth (cond y falsity (call a))) ≡ numbered x y ∷ []
unfolding literal_words numbered
other-words a true y e = refl
other-words a false true e = refl
other-words a false false e = absurd (e refl)

call_by : (a : Atom) → atom_number (eqb (arity a.args) 0) a.name ≡ 2 → literal_of a ≡ call a
unfolding numbered literal_of
call_by a e = two-call a (eqb (arity a.args) 0 && same_name a.name true_name) (eqb (arity a.args) 0 && same_name a.name fail_name) e

other-by : (a : Atom) (number : ℕ) → number ≡ atom_number (eqb (arity a.args) 0) a.name → (number ≡ 2 → ⊥) → literal_words (literal_of a) ≡ number ∷ []
unfolding numbered literal_of
other-by a number e z = other-words a (eqb (arity a.args) 0 && same_name a.name true_name) (eqb (arity a.args) 0 && same_name a.name fail_name) (λ q. z (e ∙ q)) ∙ ap (λ (k : ℕ). k ∷ []) (sym e)

-- an atom alone is one item
alone-length : (a : Atom) → literal_length (literal_of a) ≡ 1
unfolding literal_of literal_length
alone-length a = by (eqb (arity a.args) 0 && same_name a.name true_name) (eqb (arity a.args) 0 && same_name a.name fail_name)
  where
    by : (x y : Bool) → literal_length (cond x truth (cond y falsity (call a))) ≡ 1
    by true y = refl
    by false true = refl
    by false false = refl

-- an atom of three words has no arguments, and only such a one
bare-test : (ts : Terms) → eqb (node_words + length (terms_words ts)) node_words ≡ eqb (arity ts) 0
unfolding term_words
bare-test nil = refl
bare-test (cons t ts) =
    let some : 1 ≤ length (term_words t) = term-some t in
    let sum : length (term_words t ++ terms_words ts) ≡ length (term_words t) + length (terms_words ts) = length-append (term_words t) (terms_words ts) in
    ne_eqb (node_words + length (term_words t ++ terms_words ts)) node_words (λ e. omega arith) ∙ sym (ne_eqb (suc (arity ts)) 0 (λ e. omega arith))

atom-length : (a : Atom) → length (atom_words a) ≡ node_words + length (terms_words a.args)
unfolding term_words
atom-length a = omega arith

-- what holds of whatever is read
AllOk : {A : Type 0} → (A → Type 0) → Read A → Type 0
AllOk P (fault k b) = Unit {0}
AllOk P (ok a st) = P a

named-list : (s : List ℕ) (st : Cursor) (d : Read Terms) → AllOk (λ (a : Atom). a.name ≡ spelling s st.token.at st.token.len) (and_then d (λ ts after. ok (atom_at s st ts) after))
unfolding AllOk and_then
named-list s st (fault k b) = tt
named-list s st (ok ts after) = refl

named-all : (bytes_left : ℕ) (s : List ℕ) (st : Cursor) → AllOk (λ (a : Atom). a.name ≡ spelling s st.token.at st.token.len) (read_atom bytes_left s st)
unfolding AllOk read_atom read_atom_with atom_with
named-all bytes_left s st = by (same_kind (next s st).token.kind open_kind)
  where
    by : (b : Bool) → AllOk (λ (a : Atom). a.name ≡ spelling s st.token.at st.token.len) (atom_with (λ x. read_list bytes_left s x) s st b)
    by true = named-list s st (read_list bytes_left s (next s st))
    by false = refl

atom-named : (bytes_left : ℕ) (s : List ℕ) (st end : Cursor) (a : Atom) → read_atom bytes_left s st ≡ ok a end → a.name ≡ spelling s st.token.at st.token.len
unfolding AllOk
atom-named bytes_left s st end a e = subst (AllOk (λ (a : Atom). a.name ≡ spelling s st.token.at st.token.len)) e (named-all bytes_left s st)

-- ---- a literal by its first term

module _ {s : List ℕ} {st : ParserState} {entry : List ℕ} {n : ℕ} (ready : RoomToRead s st entry n 1) where
  abbrev LiteralGives : List ℕ → Result Parsed Refusal → Read Literal → Type 0
  LiteralGives exit q d = Gives literal_form s st entry exit n q d

  n-in : n + 1 ≤ length entry
  n-in = let room : n + node_words * bytes_left s st + 1 + variables ≤ length entry = ready.room in omega arith

  -- a fault of what is read first
  pub first-fault : {A : Type 0} (f : Form A) (d : Read A) (after : A → Cursor → Bool → Read Literal) (mid : List ℕ) (q : Refusal) → Gives f s st entry mid (n + 1) (Err q) d
      → LiteralGives mid (Err q) (and_then d (λ a end. after a end (same_kind end.token.kind equals_kind)))
  first-fault f d after mid q g = seq-fault f literal_form s st st entry mid n (n + 1) q d (λ a end. after a end (same_kind end.token.kind equals_kind)) (omega arith) g

  -- what was read first, which is a term
  module _ {A : Type 0} (term : A → Term) (d : Read A) (mid : List ℕ) (r : Parsed) (l : length mid ≡ length entry) (g : Gives (form (λ (a : A). term_words (term a)) one) s st entry mid (n + 1) (Ok r) d) where
    first : (a : A) × (d ≡ ok a (cursor_of s mid r.state)) × Given s st entry mid (n + 1) r (term_words (term a)) 1 (cursor_of s mid r.state)
    first = seq-ok (form (λ (a : A). term_words (term a)) one) s st entry mid (n + 1) r d g

    abbrev t : Term
    t = term first.0

    left-kept : take n mid ≡ take n entry
    left-kept = kept-before n (n + 1) (length (term_words t)) entry mid (term_words t) (omega arith) n-in first.2.table_is

    -- the literal by what stands behind it
    behind : (after : A → Cursor → Bool → Read Literal) (b : Bool) → same_kind r.state.token.kind equals_kind ≡ b → and_then d (λ a end. after a end (same_kind end.token.kind equals_kind)) ≡ after first.0 (cursor_of s mid r.state) b
    unfolding and_then
    behind after b e = ap (λ (x : Read A). and_then x (λ a end. after a end (same_kind end.token.kind equals_kind))) first.1 ∙ ap (after first.0 (cursor_of s mid r.state)) e

    pub first-ready : r.state.token.kind ≡ equals_kind → RoomToRead s r.state mid r.used 0 × ((r.state.token.kind ≡ equals_kind) × (n < r.used))
    first-ready e =
        let room : n + node_words * bytes_left s st + 1 + variables ≤ length entry = ready.room in
        let small : length entry < 2 ^ 31 = ready.small in
        let used : r.used ≡ (n + 1) + length (term_words t) = first.2.used_is in
        let fits : length (term_words t) + node_words * bytes_left s r.state + 1 ≤ node_words * bytes_left s st + 1 = first.2.room in
        (record { standing = first.2.standing; held = first.2.held; room = omega arith; small = omega arith }, (e, omega arith))

    right-fault : (exit : List ℕ) (q : Refusal) (k b : ℕ) → Faulted (set mid n equation_kind) exit r.used q k b → Faulted entry exit n q k b
    right-fault exit q k b h =
        let used : r.used ≡ (n + 1) + length (term_words t) = first.2.used_is in
        record { is = h.is; kept = shorter n r.used (set mid n equation_kind) exit (omega arith) h.kept ∙ take-set-le n mid n equation_kind (omega arith) ∙ left-kept }

    right-words : (exit : List ℕ) (q : Parsed) (u : Term) (end : Cursor) → r.state.token.kind ≡ equals_kind → Given s (state_onward s r.state) (set mid n equation_kind) exit r.used q (term_words u) 1 end → GivenWith 0 s st entry exit n q (literal_words (equation t u)) (literal_length (equation t u)) end
    unfolding literal_words literal_length
    right-words exit q u end e h =
        let m : PastToken s r.state (state_onward s r.state) = moved-onward s r.state first.2.standing in
        let some : 0 < r.state.token.len = first.2.standing.some (equals-no_end e) in
        let inside : r.state.token.at + r.state.token.len ≤ length s = first.2.standing.inside in
        let used : r.used ≡ (n + 1) + length (term_words t) = first.2.used_is in
        let used' : q.used ≡ r.used + length (term_words u) = h.used_is in
        let fits : length (term_words t) + node_words * bytes_left s r.state + 1 ≤ node_words * bytes_left s st + 1 = first.2.room in
        let fits' : length (term_words u) + node_words * bytes_left s q.state + 1 ≤ node_words * bytes_left s (state_onward s r.state) + 1 = h.room in
        let f : r.state.token.at + r.state.token.len ≤ (state_onward s r.state).token.at = m.forward in
        let both : length (term_words t ++ term_words u) ≡ length (term_words t) + length (term_words u) = length-append (term_words t) (term_words u) in
        let bytes_left' : take (n + length (equation_kind ∷ term_words t)) (set mid n equation_kind) ≡ take n entry ++ (equation_kind ∷ term_words t) = front entry mid (set mid n equation_kind) (term_words t) n equation_kind n-in first.2.table_is refl in
        let k : r.used ≡ n + length (equation_kind ∷ term_words t) = omega arith in
        let ends : take ((n + length (equation_kind ∷ term_words t)) + length (term_words u)) exit ≡ take (n + length (equation_kind ∷ term_words t)) (set mid n equation_kind) ++ term_words u = subst (λ (x : ℕ). take (x + length (term_words u)) exit ≡ take x (set mid n equation_kind) ++ term_words u) k h.table_is in
        record {
          state_is = h.state_is;
          items_is = h.items_is;
          used_is = omega arith;
          table_is = joined entry (set mid n equation_kind) exit (equation_kind ∷ term_words t) (term_words u) n bytes_left' ends;
          standing = h.standing;
          held = h.held;
          room = omega arith;
        }

    right_by : (exit : List ℕ) (q : Result Parsed Refusal) (x : Read Term) → r.state.token.kind ≡ equals_kind → Gives term_form s (state_onward s r.state) (set mid n equation_kind) exit r.used q x → LiteralGives exit q (and_then x (λ u after. ok (equation t u) after))
    unfolding and_then
    right_by exit (Err q) (fault k b) e h = right-fault exit q k b h
    right_by exit (Err q) (ok u end) e h = h
    right_by exit (Ok q) (fault k b) e h = h
    right_by exit (Ok q) (ok u end) e h = right-words exit q u end e h

    -- the reader past the equals sign, over the table with the literal's first word
    behind-equals : cursor_of s (set mid n equation_kind) (state_onward s r.state) ≡ next s (cursor_of s mid r.state)
    behind-equals =
        let room : n + node_words * bytes_left s st + 1 + variables ≤ length entry = ready.room in
        cursor-kept s mid (set mid n equation_kind) (state_onward s r.state) (met-kept mid n equation_kind (omega arith)) ∙ next_of mid (moved-onward s r.state first.2.standing)

    pub first-equation : (most : ℕ) (after : A → Cursor → Bool → Read Literal) → ((a : A) (end : Cursor) → after a end true ≡ read_right most s (term a) end) → (exit : List ℕ) (q : Result Parsed Refusal) → r.state.token.kind ≡ equals_kind
        → Gives term_form s (state_onward s r.state) (set mid n equation_kind) exit r.used q (read_term most s (cursor_of s (set mid n equation_kind) (state_onward s r.state)))
        → LiteralGives exit q (and_then d (λ a end. after a end (same_kind end.token.kind equals_kind)))
    unfolding read_right
    first-equation most after right exit q e h =
        subst⁻¹ (LiteralGives exit q) (behind after true (eq-kind r.state.token.kind equals_kind e) ∙ right first.0 (cursor_of s mid r.state))
        (right_by exit q (read_term most s (next s (cursor_of s mid r.state))) e (subst (λ (x : Cursor). Gives term_form s (state_onward s r.state) (set mid n equation_kind) exit r.used q (read_term most s x)) behind-equals h))

  -- a term that is no atom
  pub equation-wrong : (most : ℕ) (mid : List ℕ) (r : Parsed) → length mid ≡ length entry → Gives term_form s st entry mid (n + 1) (Ok r) (read_term most s (cursor_of s entry st)) → (q : Refusal) → (r.state.token.kind ≡ equals_kind → ⊥) → Refused r.state (wrong_number r.state.token.kind) q
      → LiteralGives mid (Err q) (literal_with most s (cursor_of s entry st) false)
  unfolding literal_with after_term
  equation-wrong most mid r l g q ne f =
      subst⁻¹ (LiteralGives mid (Err q)) (behind (λ (t : Term). t) (read_term most s (cursor_of s entry st)) mid r l g (after_term most s) false (ne_kind r.state.token.kind equals_kind ne))
      (refused-wrong literal_form s st r.state entry mid n q (cursor_of s mid r.state) refl f (left-kept (λ (t : Term). t) (read_term most s (cursor_of s entry st)) mid r l g))

  -- an atom alone
  module _ (most : ℕ) (mid : List ℕ) (r : Parsed) (l : length mid ≡ length entry) (g : Gives atom_form s st entry mid (n + 1) (Ok r) (read_atom most s (cursor_of s entry st))) where
    abbrev atom : (a : Atom) × (read_atom most s (cursor_of s entry st) ≡ ok a (cursor_of s mid r.state)) × Given s st entry mid (n + 1) r (atom_words a) 1 (cursor_of s mid r.state)
    atom = first term_of (read_atom most s (cursor_of s entry st)) mid r l g

    atom-used : r.used ≡ (n + 1) + length (atom_words atom.0)
    atom-used = atom.2.used_is

    pub alone-asked : (n + 1 ≤ r.used) × (n + 1 ≤ length mid)
    alone-asked = (omega (arith, atom-used), omega (arith, n-in))

    -- the number that is stored is the atom's
    size_is : r.used - (n + 1) ≡ node_words + length (terms_words atom.0.args)
    size_is = omega (arith, atom-used, atom-length atom.0)

    number_is : alone_number s st r n ≡ atom_number (eqb (arity atom.0.args) 0) atom.0.name
    number_is = ap₂ (λ (b : Bool) (x : List ℕ). atom_number b x) (ap (λ (k : ℕ). eqb k node_words) size_is ∙ bare-test atom.0.args) (sym (atom-named most s (cursor_of s entry st) (cursor_of s mid r.state) atom.0 atom.1))

    module _ (exit : List ℕ) (q : Parsed) (ne : r.state.token.kind ≡ equals_kind → ⊥) (w : Alone s st r mid exit n q) where
      same : met exit ≡ met mid
      same =
          let room : n + node_words * bytes_left s st + 1 + variables ≤ length entry = ready.room in
          ap met w.stored ∙ met-kept mid n (alone_number s st r n) (omega arith)

      alone-gives : (used : ℕ) (words : List ℕ) → literal_words (literal_of atom.0) ≡ words → used ≡ n + length words → length words ≤ length (atom_words atom.0) + 1 → take (n + length words) exit ≡ take n entry ++ words
          → LiteralGives exit (Ok (record { used = used; items = 1; state = r.state })) (literal_with most s (cursor_of s entry st) true)
      unfolding literal_with after_atom
      alone-gives used words words_are long few table_is =
          let fits : length (atom_words atom.0) + node_words * bytes_left s r.state + 1 ≤ node_words * bytes_left s st + 1 = atom.2.room in
          let result : GivenWith 0 s st entry exit n (record { used = used; items = 1; state = r.state }) words 1 (cursor_of s mid r.state) = record {
            state_is = cursor-kept s mid exit r.state same;
            items_is = refl;
            used_is = long;
            table_is = table_is;
            standing = atom.2.standing;
            held = held_kept same atom.2.held;
            room = omega arith;
          } in
          subst⁻¹ (LiteralGives exit (Ok (record { used = used; items = 1; state = r.state }))) (behind term_of (read_atom most s (cursor_of s entry st)) mid r l g (after_atom most s) false (ne_kind r.state.token.kind equals_kind ne))
          (subst⁻¹ (λ (x : List ℕ). GivenWith 0 s st entry exit n (record { used = used; items = 1; state = r.state }) x (literal_length (literal_of atom.0)) (cursor_of s mid r.state)) words_are
          (subst⁻¹ (λ (i : ℕ). GivenWith 0 s st entry exit n (record { used = used; items = 1; state = r.state }) words i (cursor_of s mid r.state)) (alone-length atom.0) result))

      alone-by : (b : Bool) → eqb (alone_number s st r n) 2 ≡ b → LiteralGives exit (Ok (record { used = cond b r.used (n + 1); items = 1; state = r.state })) (literal_with most s (cursor_of s entry st) true)
      unfolding literal_words
      alone-by true e =
          let two : alone_number s st r n ≡ 2 = eqb-true (alone_number s st r n) 2 e in
          alone-gives r.used (2 ∷ atom_words atom.0) (ap literal_words (call_by atom.0 (sym number_is ∙ two))) (omega (arith, atom-used)) (omega arith) (front entry mid exit (atom_words atom.0) n 2 n-in atom.2.table_is (w.stored ∙ ap (set mid n) two))
      alone-by false e =
          alone-gives (n + 1) (alone_number s st r n ∷ []) (other-by atom.0 (alone_number s st r n) number_is (eqb-false (alone_number s st r n) 2 e)) refl (omega arith)
          (ap (take (n + 1)) w.stored
          ∙ ap (λ (j : ℕ). take j (set mid n (alone_number s st r n))) (add-one n)
          ∙ take-suc-set mid n (alone_number s st r n) (omega (arith, n-in))
          ∙ ap (λ (x : List ℕ). x ++ (alone_number s st r n ∷ [])) (left-kept term_of (read_atom most s (cursor_of s entry st)) mid r l g))

      pub named-alone : LiteralGives exit (Ok q) (literal_with most s (cursor_of s entry st) true)
      named-alone = subst⁻¹ (λ (x : Parsed). LiteralGives exit (Ok x) (literal_with most s (cursor_of s entry st) true)) w.is (alone-by (eqb (alone_number s st r n) 2) refl)

-- ---- by what begins it

module _ (most : ℕ) (s : List ℕ) (st : ParserState) (entry exit : List ℕ) (n : ℕ) (r : Result Parsed Refusal) where
  abbrev Begun : Bool → Type 0
  Begun named = Gives literal_form s st entry exit n r (literal_with most s (cursor_of s entry st) named)

  pub one-named : st.token.kind ≡ name_kind → Begun true → Begun (same_kind st.token.kind name_kind)
  one-named e g = subst⁻¹ Begun (eq-kind st.token.kind name_kind e) g

  pub one-other : (st.token.kind ≡ name_kind → ⊥) → Begun false → Begun (same_kind st.token.kind name_kind)
  one-other e g = subst⁻¹ Begun (ne_kind st.token.kind name_kind e) g

-- ---- an atom alone, stored

pub number_small : (b : Bool) (name : List ℕ) → atom_number b name < 2 ^ 32
number_small b name = small (b && same_name name true_name) (b && same_name name fail_name)
  where
    small : (x y : Bool) → cond x 0 (cond y 1 2) < 2 ^ 32
    small true y = lit< tt
    small false true = lit< tt
    small false false = lit< tt

module _ (s : List ℕ) (st : ParserState) (r : Parsed) (entry exit : List ℕ) (n number : ℕ) (en : number ≡ alone_number s st r n) (ex : exit ≡ set entry n number) where
  pub alone-call : number ≡ 2 → Alone s st r entry exit n (record { used = r.used; items = 1; state = r.state })
  alone-call e = record {
    is = ap (λ (b : Bool). record { used = cond b r.used (n + 1); items = 1; state = r.state }) (sym (eq-eqb (alone_number s st r n) 2 (sym en ∙ e)));
    stored = ex ∙ ap (set entry n) en;
  }

  pub alone-other : (number ≡ 2 → ⊥) → Alone s st r entry exit n (record { used = n + 1; items = 1; state = r.state })
  alone-other e = record {
    is = ap (λ (b : Bool). record { used = cond b r.used (n + 1); items = 1; state = r.state }) (sym (ne_eqb (alone_number s st r n) 2 (λ q. e (en ∙ q))));
    stored = ex ∙ ap (set entry n) en;
  }

pub number-asked : (b : Bool) (name : List ℕ) (k : ℕ) → k ≡ atom_number b name → k < 2 ^ 32
number-asked b name k e = subst⁻¹ (λ (x : ℕ). x < 2 ^ 32) e (number_small b name)
