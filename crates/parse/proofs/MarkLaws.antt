-- Laws of reading marks and declarations: one for each way out of the functions that read them. Assumes nothing.
use Prim.Native.Nat.{ℕ, zero, suc, ◌+◌, ◌-◌, ◌*◌, ◌≤◌, ◌<◌, ◌^◌}
use native.Mathlib.Nat.{mul-suc}
use native.Mathlib.Omega.{arith}
use mathlib.Core.Path.{◌≡◌, refl, sym, ap, ap₂, ◌∙◌, subst, subst⁻¹}
use mathlib.Core.Bool.{Bool, true, false}
use mathlib.Core.List.{List, [], ◌∷◌, ◌++◌, append_assoc}
use lib.ListN.{length, set, take, length-set}
use lib.Seq.{take-suc-set}
use lib.Dec.{lit≤}
use lib.Pow.{pow-add}
use Rattle.std.specs.Prelude.{Result, Ok, Err, Option, Some, None}
use Rattle.std.specs.Option.{unwrap_or}
use Rattle.std.proofs.lemmas.Option.{none-some}
use Rattle.syntax.proofs.SameKind.{eq-kind, ne_kind}
use Rattle.syntax.specs.Limits.{sheet_bytes, arguments}
use Rattle.syntax.specs.Terms.{Mark, Declaration, same_name, mode_name}
use Rattle.syntax.specs.Tokens.{spelling, same_kind, name_kind, open_kind, close_kind, comma_kind, stop_kind, end_kind}
use Rattle.syntax.specs.Reading.{Cursor, begin, cursor_at, Read, fault, ok, and_then, next, wrong, wrong_number, beyond, full, Sign, mark, no_mark, sign_of, is_mark, read_marks, marks_with, marks_after, marks_read, After, more, last, neither, after_of, declaration_of, declaration_end, declaration_from, is_mode, after_neck, read_declaration}
use Rattle.words.specs.Signs.{number_of_sign}
use Rattle.syntax.specs.Words.{mark_number, marks_number, declaration_words, mark_numbers, with_mark, declaration_size}
use Rattle.syntax.proofs.Words.{mark-small as number_small}
use Rattle.syntax.specs.declared.ParserState.{ParserState}
use Rattle.syntax.specs.declared.Refusal.{Refusal}
use Rattle.syntax.specs.declared.TokenKind.{TokenKind}
use Rattle.parse.specs.Gives.{bytes_left, CursorInside, PastToken, Refused}
use Rattle.parse.specs.declared.Parsed.{Parsed}
use Rattle.words.proofs.TextsLaws.{length-spelling}
use Rattle.parse.proofs.Reading.{three}
use Rattle.parse.proofs.TermLaws.{name-no_end, close-no_comma}
use Rattle.parse.proofs.Starts.{after_more, after_last, after-neither}
use Rattle.parse.specs.declared.declarations.MarkList.{MarkList}
use Rattle.parse.specs.Marks.{Marked, MarksGive, DeclarationGives}

-- ---- the number of a mark

-- a number says which mark it is, if any
no_sign : (x : Sign) → number_of_sign x ≡ None → x ≡ no_mark
no_sign (mark m) e = absurd (none-some (mark_number m) (sym e))
no_sign no_mark e = refl

some-sign : (x : Sign) (n : ℕ) → number_of_sign x ≡ Some n → (m : Mark) × (x ≡ mark m) × (n ≡ mark_number m)
some-sign (mark m) n e = (m, refl, sym (ap (λ (o : Option ℕ). unwrap_or o 0) e))
some-sign no_mark n e = absurd (none-some n e)

-- ---- powers of four

four-more : (k : ℕ) → (k ≡ 0 → ⊥) → mark_numbers ^ k ≡ mark_numbers * mark_numbers ^ (k - 1)
four-more k z = let d : k ≡ 1 + (k - 1) = omega (arith, z) in ap (λ (j : ℕ). mark_numbers ^ j) d ∙ pow-add mark_numbers 1 (k - 1)

four-least : (k : ℕ) → 1 ≤ mark_numbers ^ k
four-least zero = lit≤ tt
four-least (suc k) = let h : 1 ≤ mark_numbers ^ k = four-least k in let e : mark_numbers ^ suc k ≡ mark_numbers * mark_numbers ^ k = ap (λ (j : ℕ). mark_numbers ^ j) (let d : suc k ≡ 1 + k = omega arith in d) ∙ pow-add mark_numbers 1 k in omega arith

four-most : (d k : ℕ) → k + d ≡ arguments → mark_numbers ^ k ≤ mark_numbers ^ arguments
four-most d k e = let p : mark_numbers ^ (k + d) ≡ mark_numbers ^ k * mark_numbers ^ d = pow-add mark_numbers k d in let q : mark_numbers ^ (k + d) ≡ mark_numbers ^ arguments = ap (λ (j : ℕ). mark_numbers ^ j) e in times-le (mark_numbers ^ k) (mark_numbers ^ d) (sym p ∙ q) (four-least d)
  where
    times-le : (a b : ℕ) → a * b ≡ mark_numbers ^ arguments → 1 ≤ b → a ≤ mark_numbers ^ arguments
    times-le a zero e h = absurd (omega arith)
    times-le a (suc b) e h = let x : a * suc b ≡ a * b + a = mul-suc a b in omega arith

-- ---- lists of marks

-- the reader past a token, where no variable is met
pub next-begin : {s : List ℕ} {st r : ParserState} → PastToken s st r → begin r.token ≡ next s (begin st.token)
unfolding next cursor_at
next-begin m = ap (λ (x : ParserState). begin x.token) m.is

module _ (s : List ℕ) (k : ℕ) (st : ParserState) where
  stopped-wrong : (x : ParserState) (q : Refusal) → Refused x (wrong_number x.token.kind) q → MarksGive s st k (Err q) (wrong (begin x.token))
  unfolding wrong
  stopped-wrong x q f = f

  none-by : (j : ℕ) (r : Refusal) → sign_of st.token.kind ≡ no_mark → Refused st (wrong_number st.token.kind) r → MarksGive s st k (Err r) (read_marks s j (begin st.token))
  unfolding read_marks full marks_with
  none-by zero r e f = subst⁻¹ (λ (x : Sign). MarksGive s st k (Err r) (full (is_mark x) (begin st.token))) e (stopped-wrong st r f)
  none-by (suc j) r e f = subst⁻¹ (λ (x : Sign). MarksGive s st k (Err r) (marks_with (λ st1. read_marks s j st1) s (begin st.token) x)) e (stopped-wrong st r f)

  pub marks-none : (r : Refusal) → number_of_sign (sign_of st.token.kind) ≡ None → Refused st (wrong_number st.token.kind) r → MarksGive s st k (Err r) (read_marks s k (begin st.token))
  marks-none r z f = none-by k r (no_sign (sign_of st.token.kind) z) f

  module _ (m : ℕ) (em : number_of_sign (sign_of st.token.kind) ≡ Some m) where
    sign : (x : Mark) × (sign_of st.token.kind ≡ mark x) × (m ≡ mark_number x)
    sign = some-sign (sign_of st.token.kind) m em

    mark-is : m ≡ mark_number sign.0
    mark-is = sign.2

    pub mark-small : m < mark_numbers
    mark-small = subst⁻¹ (λ (x : ℕ). x < mark_numbers) mark-is (number_small sign.0)

    pub marks-full : (r : Refusal) → k ≡ 0 → Refused st 6 r → MarksGive s st k (Err r) (read_marks s k (begin st.token))
    unfolding read_marks full beyond
    marks-full r e f =
        subst⁻¹ (λ (j : ℕ). MarksGive s st k (Err r) (read_marks s j (begin st.token))) e
        (subst⁻¹ (λ (x : Sign). MarksGive s st k (Err r) (full (is_mark x) (begin st.token))) sign.1
        f)

    module _ (nz : k ≡ 0 → ⊥) (after : ParserState) (stands : CursorInside s st) (mv : PastToken s st after) where
      behind : (x : After) → after_of close_kind after.token.kind ≡ x → read_marks s k (begin st.token) ≡ marks_after (λ st1. read_marks s (k - 1) st1) s sign.0 (begin after.token) x
      unfolding read_marks marks_with
      behind x e =
          let d : k ≡ suc (k - 1) = omega (arith, nz) in
          ap (λ (j : ℕ). read_marks s j (begin st.token)) d
          ∙ ap (marks_with (λ st1. read_marks s (k - 1) st1) s (begin st.token)) sign.1
          ∙ ap (λ (y : Cursor). marks_after (λ st1. read_marks s (k - 1) st1) s sign.0 y (after_of close_kind y.token.kind)) (sym (next-begin mv))
          ∙ ap (marks_after (λ st1. read_marks s (k - 1) st1) s sign.0 (begin after.token)) e

      pub marks-wrong : (r : Refusal) → (after.token.kind ≡ comma_kind → ⊥) → (after.token.kind ≡ close_kind → ⊥) → Refused after (wrong_number after.token.kind) r → MarksGive s st k (Err r) (read_marks s k (begin st.token))
      unfolding marks_after
      marks-wrong r f e g = subst⁻¹ (MarksGive s st k (Err r)) (behind neither (after-neither close_kind after.token.kind f e)) (stopped-wrong after r g)

      pub marks-last : (past : ParserState) → after.token.kind ≡ close_kind → PastToken s after past → MarksGive s st k (Ok (record { marks = m; items = 1; state = past })) (read_marks s k (begin st.token))
      unfolding marks_after marks_number
      marks-last past e p =
          let four : mark_numbers ^ k ≡ mark_numbers * mark_numbers ^ (k - 1) = four-more k nz in
          let least : 1 ≤ mark_numbers ^ (k - 1) = four-least (k - 1) in
          let small : m < mark_numbers = mark-small in
          let is : m ≡ mark_number sign.0 = mark-is in
          let a : st.token.at + st.token.len ≤ after.token.at = mv.forward in
          let b : after.token.at + after.token.len ≤ past.token.at = p.forward in
          subst⁻¹ (MarksGive s st k (Ok (record { marks = m; items = 1; state = past }))) (behind last (after_last close_kind after.token.kind (close-no_comma e) e))
          (subst (λ (y : Cursor). Marked s st k (record { marks = m; items = 1; state = past }) (sign.0 ∷ []) y) (next-begin p)
          (record { state_is = refl; items_is = refl; used_is = omega arith; few = omega (arith, nz); small = omega arith; standing = p.standing; forward = omega arith }))

      module _ (past : ParserState) (eight : k ≤ arguments) (comma : after.token.kind ≡ comma_kind) (p : PastToken s after past) where
        with-more : read_marks s k (begin st.token) ≡ and_then (read_marks s (k - 1) (begin past.token)) (λ ms end. ok (sign.0 ∷ ms) end)
        unfolding marks_after
        with-more = behind more (after_more close_kind after.token.kind comma) ∙ ap (λ (y : Cursor). and_then (read_marks s (k - 1) y) (λ ms end. ok (sign.0 ∷ ms) end)) (sym (next-begin p))

        pub marks-behind : (q : Refusal) → MarksGive s past (k - 1) (Err q) (read_marks s (k - 1) (begin past.token)) → MarksGive s st k (Err q) (read_marks s k (begin st.token))
        marks-behind q h = subst⁻¹ (MarksGive s st k (Err q)) with-more (by (read_marks s (k - 1) (begin past.token)) h)
          where
            by : (d : Read (List Mark)) → MarksGive s past (k - 1) (Err q) d → MarksGive s st k (Err q) (and_then d (λ ms end. ok (sign.0 ∷ ms) end))
            by (fault f b) g = unfold and_then in g
            by (ok ms end) g = absurd g

        module _ (q : MarkList) (h : MarksGive s past (k - 1) (Ok q) (read_marks s (k - 1) (begin past.token))) where
          pub marks-small : (q.marks < 2 ^ 20) × (q.items < 2 ^ 20)
          marks-small = by (read_marks s (k - 1) (begin past.token)) h
            where
              by : (d : Read (List Mark)) → MarksGive s past (k - 1) (Ok q) d → (q.marks < 2 ^ 20) × (q.items < 2 ^ 20)
              by (fault f b) g = absurd g
              by (ok ms end) g =
                  let u : q.marks ≡ marks_number ms = g.used_is in
                  let i : q.items ≡ length ms = g.items_is in
                  let s1 : marks_number ms + 1 ≤ mark_numbers ^ (k - 1) = g.small in
                  let f : length ms ≤ k - 1 = g.few in
                  let most : mark_numbers ^ (k - 1) ≤ mark_numbers ^ arguments = four-most (arguments - (k - 1)) (k - 1) (omega arith) in
                  (omega arith, omega arith)

          more_by : (d : Read (List Mark)) (r : MarkList) → MarksGive s past (k - 1) (Ok q) d → (r.state ≡ q.state) × ((r.marks ≡ with_mark m q.marks) × (r.items ≡ q.items + 1)) → MarksGive s st k (Ok r) (and_then d (λ ms end. ok (sign.0 ∷ ms) end))
          unfolding and_then marks_number
          more_by (fault f b) r g e = absurd g
          more_by (ok ms end) r g e =
              let o : (r.marks ≡ with_mark m q.marks) × (r.items ≡ q.items + 1) = e.1 in
              let used : r.marks ≡ with_mark m q.marks = o.0 in
              let items : r.items ≡ q.items + 1 = o.1 in
              let u : q.marks ≡ marks_number ms = g.used_is in
              let i : q.items ≡ length ms = g.items_is in
              let s1 : marks_number ms + 1 ≤ mark_numbers ^ (k - 1) = g.small in
              let f : length ms ≤ k - 1 = g.few in
              let four : mark_numbers ^ k ≡ mark_numbers * mark_numbers ^ (k - 1) = four-more k nz in
              let small : m < mark_numbers = mark-small in
              let is : m ≡ mark_number sign.0 = mark-is in
              let a : st.token.at + st.token.len ≤ after.token.at = mv.forward in
              let b : after.token.at + after.token.len ≤ past.token.at = p.forward in
              let c : past.token.at ≤ q.state.token.at = g.forward in
              record {
                state_is = ap (λ (y : ParserState). begin y.token) e.0 ∙ g.state_is;
                items_is = omega arith;
                used_is = omega arith;
                few = omega (arith, nz);
                small = omega arith;
                standing = subst⁻¹ (CursorInside s) e.0 g.standing;
                forward = subst⁻¹ (λ (y : ParserState). st.token.at ≤ y.token.at) e.0 (omega arith);
              }

          pub marks-more : (r : MarkList) → (r.state ≡ q.state) × ((r.marks ≡ with_mark m q.marks) × (r.items ≡ q.items + 1)) → MarksGive s st k (Ok r) (read_marks s k (begin st.token))
          marks-more r e = subst⁻¹ (MarksGive s st k (Ok r)) with-more (more_by (read_marks s (k - 1) (begin past.token)) r h e)

-- ---- the marks behind a name, or none

some-by : (s : List ℕ) (st inner : ParserState) (r : Result MarkList Refusal) (d : Read (List Mark)) → PastToken s st inner → MarksGive s inner arguments r d → MarksGive s st arguments r d
some-by s st inner (Err q) (fault f b) m g = g
some-by s st inner (Err q) (ok ms after) m g = g
some-by s st inner (Ok r) (fault f b) m g = g
some-by s st inner (Ok r) (ok ms after) m g =
    let a : st.token.at + st.token.len ≤ inner.token.at = m.forward in
    let b : inner.token.at ≤ r.state.token.at = g.forward in
    record { state_is = g.state_is; items_is = g.items_is; used_is = g.used_is; few = g.few; small = g.small; standing = g.standing; forward = omega arith }

pub some-open : (s : List ℕ) (st inner : ParserState) (r : Result MarkList Refusal) → st.token.kind ≡ open_kind → PastToken s st inner → MarksGive s inner arguments r (read_marks s arguments (begin inner.token)) → MarksGive s st arguments r (marks_read s (begin st.token) (same_kind st.token.kind open_kind))
unfolding marks_read
some-open s st inner r e m g =
    subst⁻¹ (λ (b : Bool). MarksGive s st arguments r (marks_read s (begin st.token) b)) (eq-kind st.token.kind open_kind e)
    (subst (λ (y : Cursor). MarksGive s st arguments r (read_marks s arguments y)) (next-begin m) (some-by s st inner r (read_marks s arguments (begin inner.token)) m g))

pub some-none : (s : List ℕ) (st : ParserState) → CursorInside s st → (st.token.kind ≡ open_kind → ⊥) → MarksGive s st arguments (Ok (record { marks = 0; items = 0; state = st })) (marks_read s (begin st.token) (same_kind st.token.kind open_kind))
unfolding marks_read marks_number
some-none s st h e =
    subst⁻¹ (λ (b : Bool). MarksGive s st arguments (Ok (record { marks = 0; items = 0; state = st })) (marks_read s (begin st.token) b)) (ne_kind st.token.kind open_kind e)
    (record { state_is = refl; items_is = refl; used_is = refl; few = lit≤ tt; small = lit≤ tt; standing = h; forward = omega arith })

-- ---- declarations

-- four stores in a row
four : (l : List ℕ) (n a b c d : ℕ) → n + 4 ≤ length l → take (n + 4) (set (set (set (set l n a) (n + 1) b) (n + 2) c) (n + 3) d) ≡ take n l ++ (a ∷ b ∷ c ∷ d ∷ [])
four l n a b c d h =
    let k : n + 4 ≡ suc (n + 3) = omega arith in
    ap (λ (i : ℕ). take i (set (set (set (set l n a) (n + 1) b) (n + 2) c) (n + 3) d)) k
    ∙ take-suc-set (set (set (set l n a) (n + 1) b) (n + 2) c) (n + 3) d (simp length-set (omega arith))
    ∙ ap (λ (x : List ℕ). x ++ (d ∷ [])) (three l n a b c (omega arith))
    ∙ append_assoc (take n l) (a ∷ b ∷ c ∷ []) (d ∷ [])

-- a token that cannot stand, or goes past a limit
pub declaration-refused : (s : List ℕ) (from st : ParserState) (entry : List ℕ) (n : ℕ) (q : Refusal) → Refused st (wrong_number st.token.kind) q → DeclarationGives s from entry entry n (Err q) (wrong (begin st.token))
unfolding wrong
declaration-refused s from st entry n q f = record { is = f; kept = refl }

-- a full stop is not the end
stop-no_end : {k : TokenKind} → k ≡ stop_kind → k ≡ end_kind → ⊥
stop-no_end e f = cc

module _ (s : List ℕ) (st : ParserState) (entry : List ℕ) (n : ℕ) (stands : CursorInside s st) where
  pub declared-wrong : (r : Refusal) → (st.token.kind ≡ name_kind → ⊥) → Refused st (wrong_number st.token.kind) r → DeclarationGives s st entry entry n (Err r) (declaration_from s (begin st.token) (same_kind st.token.kind name_kind))
  unfolding declaration_from
  declared-wrong r e f = subst⁻¹ (λ (b : Bool). DeclarationGives s st entry entry n (Err r) (declaration_from s (begin st.token) b)) (ne_kind st.token.kind name_kind e) (declaration-refused s st st entry n r f)

  module _ (past : ParserState) (name : st.token.kind ≡ name_kind) (m : PastToken s st past) where
    abbrev ended : List Mark → Cursor → Read Declaration
    ended ms after = declaration_end s (declaration_of s (begin st.token) ms) after (same_kind after.token.kind stop_kind)

    whole : declaration_from s (begin st.token) (same_kind st.token.kind name_kind) ≡ and_then (marks_read s (begin past.token) (same_kind past.token.kind open_kind)) ended
    unfolding declaration_from
    whole = ap (declaration_from s (begin st.token)) (eq-kind st.token.kind name_kind name) ∙ ap (λ (y : Cursor). and_then (marks_read s y (same_kind y.token.kind open_kind)) ended) (sym (next-begin m))

    fault-by : (q : Refusal) (d : Read (List Mark)) → MarksGive s past arguments (Err q) d → DeclarationGives s st entry entry n (Err q) (and_then d ended)
    unfolding and_then
    fault-by q (fault k b) h = record { is = h; kept = refl }
    fault-by q (ok ms after) h = absurd h

    pub declared-fault : (q : Refusal) → MarksGive s past arguments (Err q) (marks_read s (begin past.token) (same_kind past.token.kind open_kind)) → DeclarationGives s st entry entry n (Err q) (declaration_from s (begin st.token) (same_kind st.token.kind name_kind))
    declared-fault q g = subst⁻¹ (DeclarationGives s st entry entry n (Err q)) whole (fault-by q (marks_read s (begin past.token) (same_kind past.token.kind open_kind)) g)

    module _ (r : MarkList) (g : MarksGive s past arguments (Ok r) (marks_read s (begin past.token) (same_kind past.token.kind open_kind))) where
      read_by : (d : Read (List Mark)) → MarksGive s past arguments (Ok r) d → (ms : List Mark) × (d ≡ ok ms (begin r.state.token)) × Marked s past arguments r ms (begin r.state.token)
      read_by (fault k b) h = absurd h
      read_by (ok ms after) h = (ms, ap (ok ms) (sym h.state_is), subst⁻¹ (Marked s past arguments r ms) h.state_is h)

      read : (ms : List Mark) × (marks_read s (begin past.token) (same_kind past.token.kind open_kind) ≡ ok ms (begin r.state.token)) × Marked s past arguments r ms (begin r.state.token)
      read = read_by (marks_read s (begin past.token) (same_kind past.token.kind open_kind)) g

      pub declared-standing : CursorInside s r.state
      declared-standing = read.2.standing

      by-stop : (b : Bool) → same_kind r.state.token.kind stop_kind ≡ b → declaration_from s (begin st.token) (same_kind st.token.kind name_kind) ≡ declaration_end s (declaration_of s (begin st.token) read.0) (begin r.state.token) b
      unfolding and_then
      by-stop b e = whole ∙ ap (λ (d : Read (List Mark)). and_then d ended) read.1 ∙ ap (declaration_end s (declaration_of s (begin st.token) read.0) (begin r.state.token)) e

      pub declared-stop : (q : Refusal) → (r.state.token.kind ≡ stop_kind → ⊥) → Refused r.state (wrong_number r.state.token.kind) q → DeclarationGives s st entry entry n (Err q) (declaration_from s (begin st.token) (same_kind st.token.kind name_kind))
      unfolding declaration_end
      declared-stop q e f = subst⁻¹ (DeclarationGives s st entry entry n (Err q)) (by-stop false (ne_kind r.state.token.kind stop_kind e)) (declaration-refused s st r.state entry n q f)

      pub declared-asked : n + declaration_size ≤ length entry → ((n + 3 ≤ length entry) × ((st.token.at < 2 ^ 32) × ((st.token.len < 2 ^ 32) × (r.items < 2 ^ 32)))) × (r.marks < 2 ^ 32)
      declared-asked h =
          let inside : st.token.at + st.token.len ≤ length s = stands.inside in
          let short : length s ≤ sheet_bytes = stands.short in
          let u : r.marks ≡ marks_number read.0 = read.2.used_is in
          let i : r.items ≡ length read.0 = read.2.items_is in
          let few : length read.0 ≤ arguments = read.2.few in
          let small : marks_number read.0 + 1 ≤ mark_numbers ^ arguments = read.2.small in
          ((omega arith, (omega arith, (omega arith, omega arith))), omega arith)

      pub declared-end : (end : ParserState) (mid exit : List ℕ) → n + declaration_size ≤ length entry → r.state.token.kind ≡ stop_kind → PastToken s r.state end → mid ≡ set (set (set entry n st.token.at) (n + 1) st.token.len) (n + 2) r.items → exit ≡ set mid (n + 3) r.marks → DeclarationGives s st entry exit n (Ok (record { used = n + declaration_size; items = 1; state = end })) (declaration_from s (begin st.token) (same_kind st.token.kind name_kind))
      unfolding declaration_end declaration_words
      declared-end end mid exit h e p em ex =
          let a : 0 < st.token.len = stands.some (name-no_end name) in
          let b : 0 < r.state.token.len = read.2.standing.some (stop-no_end e) in
          let f1 : st.token.at + st.token.len ≤ past.token.at = m.forward in
          let f2 : past.token.at ≤ r.state.token.at = read.2.forward in
          let f3 : r.state.token.at + r.state.token.len ≤ end.token.at = p.forward in
          let inside : r.state.token.at + r.state.token.len ≤ length s = read.2.standing.inside in
          let lens : length (spelling s st.token.at st.token.len) ≡ st.token.len = length-spelling s st.token.at st.token.len stands.inside in
          let stored : exit ≡ set (set (set (set entry n st.token.at) (n + 1) (length (spelling s st.token.at st.token.len))) (n + 2) (length read.0)) (n + 3) (marks_number read.0) =
          ex ∙ ap₂ (λ (x : List ℕ) (u : ℕ). set x (n + 3) u) em read.2.used_is ∙ ap₂ (λ (x i : ℕ). set (set (set (set entry n st.token.at) (n + 1) x) (n + 2) i) (n + 3) (marks_number read.0)) (sym lens) read.2.items_is in
          subst⁻¹ (DeclarationGives s st entry exit n (Ok (record { used = n + declaration_size; items = 1; state = end }))) (by-stop true (eq-kind r.state.token.kind stop_kind e))
          (record {
            state_is = next-begin p;
            table_is = ap (take (n + declaration_size)) stored ∙ four entry n st.token.at (length (spelling s st.token.at st.token.len)) (length read.0) (marks_number read.0) h;
            standing = p.standing;
            less = omega arith;
          })

-- a declaration from its :- on
module _ (s : List ℕ) (st past : ParserState) (entry : List ℕ) (n : ℕ) (m : PastToken s st past) where
  by_mode : (b : Bool) → is_mode s (begin past.token) ≡ b → read_declaration s (begin st.token) ≡ after_neck s (begin past.token) b
  unfolding read_declaration
  by_mode b e = ap (λ (y : Cursor). after_neck s y (is_mode s y)) (sym (next-begin m)) ∙ ap (after_neck s (begin past.token)) e

  pub declaration-wrong : (r : Refusal) → (past.token.kind ≡ name_kind → ⊥) → Refused past (wrong_number past.token.kind) r → DeclarationGives s st entry entry n (Err r) (read_declaration s (begin st.token))
  unfolding after_neck is_mode
  declaration-wrong r e f = subst⁻¹ (DeclarationGives s st entry entry n (Err r)) (by_mode false (simp (ne_kind past.token.kind name_kind e))) (declaration-refused s st past entry n r f)

  module _ (name : past.token.kind ≡ name_kind) (b : Bool) (eb : b ≡ same_name (spelling s past.token.at past.token.len) mode_name) where
    pub declaration-other : (r : Refusal) → b ≡ false → Refused past (wrong_number past.token.kind) r → DeclarationGives s st entry entry n (Err r) (read_declaration s (begin st.token))
    unfolding after_neck is_mode
    declaration-other r e f = subst⁻¹ (DeclarationGives s st entry entry n (Err r)) (by_mode false (simp (eq-kind past.token.kind name_kind name, sym eb ∙ e))) (declaration-refused s st past entry n r f)

    further : (behind : ParserState) (exit : List ℕ) (r : Result Parsed Refusal) (d : Read Declaration) → PastToken s past behind → DeclarationGives s behind entry exit n r d → DeclarationGives s st entry exit n r d
    further behind exit (Err q) (fault k x) p g = g
    further behind exit (Err q) (ok d after) p g = g
    further behind exit (Ok r) (fault k x) p g = g
    further behind exit (Ok r) (ok d after) p g =
        let f1 : st.token.at + st.token.len ≤ past.token.at = m.forward in
        let f2 : past.token.at + past.token.len ≤ behind.token.at = p.forward in
        let less : bytes_left s r.state < bytes_left s behind = g.less in
        record { state_is = g.state_is; table_is = g.table_is; standing = g.standing; less = omega arith }

    pub declaration-mode : (behind : ParserState) (exit : List ℕ) (r : Result Parsed Refusal) → b ≡ true → PastToken s past behind → DeclarationGives s behind entry exit n r (declaration_from s (begin behind.token) (same_kind behind.token.kind name_kind)) → DeclarationGives s st entry exit n r (read_declaration s (begin st.token))
    unfolding after_neck is_mode
    declaration-mode behind exit r e p g =
        subst⁻¹ (DeclarationGives s st entry exit n r) (by_mode true (simp (eq-kind past.token.kind name_kind name, sym eb ∙ e)) ∙ ap (λ (y : Cursor). declaration_from s y (same_kind y.token.kind name_kind)) (sym (next-begin p)))
        (further behind exit r (declaration_from s (begin behind.token) (same_kind behind.token.kind name_kind)) p g)
