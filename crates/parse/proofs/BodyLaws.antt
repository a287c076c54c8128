-- Laws of reading bodies and clauses: one for each way out of the functions that read them. Assumes nothing.
use Prim.Native.Nat.{ℕ, suc, ◌+◌, ◌-◌, ◌*◌, ◌≤◌, ◌<◌, ◌^◌}
use native.Mathlib.Omega.{arith}
use mathlib.Core.Path.{◌≡◌, refl, sym, ap, ◌∙◌, subst, subst⁻¹}
use mathlib.Core.List.{List, [], ◌++◌}
use lib.ListN.{length, length-append}
use Rattle.std.specs.Prelude.{Result, Ok, Err}
use Rattle.syntax.specs.Terms.{Literal, call, equation, truth, falsity, either, Body, done, also}
use Rattle.syntax.specs.Reading.{Cursor, Read, ok, and_then, wrong_number, read_literal, read_to, read_body_with, read_body, body_after, after_of, After, more, last, neither}
use Rattle.syntax.specs.Limits.{variables, sheet_bytes, brackets, literals}
use Rattle.syntax.specs.Tokens.{comma_kind, stop_kind, end_kind}
use Rattle.syntax.specs.Words.{node_words, literal_words, literal_length, body_words, body_length}
use Rattle.syntax.specs.declared.ParserState.{ParserState}
use Rattle.syntax.specs.declared.Refusal.{Refusal}
use Rattle.syntax.specs.declared.TokenKind.{TokenKind}
use Rattle.parse.specs.Gives.{cursor_of, bytes_left, CursorInside, PastToken, RoomToRead, Gives, GivenWith, Refused, ItemCount, literal_form, body_form}
use Rattle.parse.specs.declared.Parsed.{Parsed}
use Rattle.parse.proofs.Reading.{refused-wrong, next_of}
use Rattle.parse.proofs.Starts.{after_more, after_last, after-neither}
use Rattle.parse.proofs.Sequence.{seq-fault, seq-ok}
use Rattle.parse.proofs.TermLaws.{comma-no_end, behind-ready, more-fault, one-more, few-items, one_last, one_kept}

-- each item takes a word at least
mutual
  unfolding literal_words literal_length

  pub literal-words : (l : Literal) → literal_length l ≤ length (literal_words l)
  literal-words (call a) = omega arith
  literal-words (equation t u) = omega arith
  literal-words truth = omega arith
  literal-words falsity = omega arith
  literal-words (either y z) =
      let a : body_length y ≤ length (body_words y) = body-words y in
      let b : body_length z ≤ length (body_words z) = body-words z in
      simp length-append (omega arith)

  pub body-words : (b : Body) → body_length b ≤ length (body_words b)
  body-words done = omega arith
  body-words (also l b) =
      let a : literal_length l ≤ length (literal_words l) = literal-words l in
      let h : body_length b ≤ length (body_words b) = body-words b in
      simp length-append (omega arith)

module _ (most : ℕ) (s : List ℕ) (end : TokenKind) (k : ℕ) (st : Cursor) where
  abbrev go_on : Literal → Cursor → Read Body
  go_on l after = body_after (λ st1. read_to most s end (k - 1) st1) s l after (after_of end after.token.kind)

  body-some : (k ≡ 0 → ⊥) → read_to most s end k st ≡ and_then (read_literal most s st) go_on
  unfolding read_to read_body_with
  body-some z = let d : k ≡ suc (k - 1) = omega (arith, z) in ap (λ (j : ℕ). read_to most s end j st) d

pub body-none : (most : ℕ) (s : List ℕ) (end : TokenKind) (k : ℕ) (st : ParserState) (entry : List ℕ) (n : ℕ) (r : Refusal) → k ≡ 0 → Refused st (wrong_number st.token.kind) r
    → Gives body_form s st entry entry n (Err r) (read_to most s end k (cursor_of s entry st))
unfolding read_to read_body_with
body-none most s end k st entry n r z g =
    subst⁻¹ (λ (j : ℕ). Gives body_form s st entry entry n (Err r) (read_to most s end j (cursor_of s entry st))) z
    (refused-wrong body_form s st st entry entry n r (cursor_of s entry st) refl g refl)

-- what was read of the first literal
module _ (most : ℕ) (end : TokenKind) (k : ℕ) (s : List ℕ) (st : ParserState) (entry : List ℕ) (n : ℕ) (mid : List ℕ) (z : k ≡ 0 → ⊥) where
  abbrev whole : Read Body
  whole = read_to most s end k (cursor_of s entry st)

  pub body-fault : (q : Refusal) → Gives literal_form s st entry mid n (Err q) (read_literal most s (cursor_of s entry st))
      → Gives body_form s st entry mid n (Err q) (read_to most s end k (cursor_of s entry st))
  body-fault q g = subst⁻¹ (Gives body_form s st entry mid n (Err q)) (body-some most s end k (cursor_of s entry st) z)
      (seq-fault literal_form body_form s st st entry mid n n q (read_literal most s (cursor_of s entry st))
      (go_on most s end k (cursor_of s entry st)) (omega arith) g)

  module _ (r : Parsed) (ready : RoomToRead s st entry n 1)
      (g : Gives literal_form s st entry mid n (Ok r) (read_literal most s (cursor_of s entry st))) where
    read : (l : Literal) × (read_literal most s (cursor_of s entry st) ≡ ok l (cursor_of s mid r.state))
        × GivenWith 0 s st entry mid n r (literal_words l) (literal_length l) (cursor_of s mid r.state)
    read = seq-ok literal_form s st entry mid n r (read_literal most s (cursor_of s entry st)) g

    n-in : n ≤ length entry
    n-in = let room : n + node_words * bytes_left s st + 1 + variables ≤ length entry = ready.room in omega arith

    behind : (x : After) → after_of end r.state.token.kind ≡ x
        → whole ≡ body_after (λ st1. read_to most s end (k - 1) st1) s read.0 (cursor_of s mid r.state) x
    unfolding and_then
    behind x a = body-some most s end k (cursor_of s entry st) z ∙ ap (λ (d : Read Literal). and_then d (go_on most s end k (cursor_of s entry st))) read.1
        ∙ ap (body_after (λ st1. read_to most s end (k - 1) st1) s read.0 (cursor_of s mid r.state)) a

    pub body-standing : CursorInside s r.state
    body-standing = read.2.standing

    words-also : (l : Literal) (b : Body) → body_words (also l b) ≡ literal_words l ++ body_words b
    unfolding body_words
    words-also l b = refl

    items-also : (l : Literal) (b : Body) → body_length (also l b) ≡ literal_length l + body_length b
    unfolding body_length
    items-also l b = refl

    words-done : body_words done ≡ []
    unfolding body_words
    words-done = refl

    items-done : body_length done ≡ 0
    unfolding body_length
    items-done = refl

    pub body-ready : (after : ParserState) → r.state.token.kind ≡ comma_kind → PastToken s r.state after → length mid ≡ length entry → RoomToRead s after mid r.used 1
    body-ready after a m l = behind-ready 0 literal_words literal_length body_words body_length also done words-also items-also words-done items-done s st entry mid n r read.0 read.2 1 ready after (comma-no_end a) m l

    pub items-few : r.items < 2 ^ 31
    items-few =
        let items : r.items ≡ literal_length read.0 = read.2.items_is in
        let few : literal_length read.0 ≤ length (literal_words read.0) = literal-words read.0 in
        let fits : length (literal_words read.0) + node_words * bytes_left s r.state + 0 ≤ node_words * bytes_left s st + 1 = read.2.room in
        let short : length s ≤ sheet_bytes = ready.standing.short in
        omega arith

    pub body-few : (exit : List ℕ) (after : ParserState) (q : Parsed) → PastToken s r.state after
        → Gives body_form s after mid exit r.used (Ok q) (read_to most s end (k - 1) (cursor_of s mid after)) → (q.items < 2 ^ 31)
        × (r.items < 2 ^ 31)
    body-few exit after q m h = (
      few-items 0 literal_words literal_length body_words body_length also done words-also items-also words-done items-done s st entry mid n r read.0
          read.2 body-words exit after q (read_to most s end (k - 1) (cursor_of s mid after)) r.used m.standing h,
      items-few,
    )

    -- the whole, by the body behind a comma
    with-more : (after : ParserState) → r.state.token.kind ≡ comma_kind → PastToken s r.state after
        → whole ≡ and_then (read_to most s end (k - 1) (cursor_of s mid after)) (λ b end. ok (also read.0 b) end)
    unfolding body_after
    with-more after a m = behind more (after_more end r.state.token.kind a)
        ∙ ap (λ (x : Cursor). and_then (read_to most s end (k - 1) x) (λ b end. ok (also read.0 b) end)) (sym (next_of mid m))

    pub body-behind : (exit : List ℕ) (after : ParserState) (q : Refusal) → r.state.token.kind ≡ comma_kind → PastToken s r.state after
        → Gives body_form s after mid exit r.used (Err q) (read_to most s end (k - 1) (cursor_of s mid after))
        → Gives body_form s st entry exit n (Err q) (read_to most s end k (cursor_of s entry st))
    body-behind exit after q a m h =
        subst⁻¹ (Gives body_form s st entry exit n (Err q)) (with-more after a m)
        (more-fault 0 literal_words literal_length body_words body_length also done words-also items-also words-done items-done s st entry mid n r read.0
        read.2 exit after q (read_to most s end (k - 1) (cursor_of s mid after)) h n-in)

    pub body_more : (exit : List ℕ) (after : ParserState) (q p : Parsed) → r.state.token.kind ≡ comma_kind → PastToken s r.state after
        → Gives body_form s after mid exit r.used (Ok q) (read_to most s end (k - 1) (cursor_of s mid after)) → ItemCount q r.items p
        → Gives body_form s st entry exit n (Ok p) (read_to most s end k (cursor_of s entry st))
    body_more exit after q p a m h ep =
        subst⁻¹ (Gives body_form s st entry exit n (Ok p)) (with-more after a m)
        (one-more 0 literal_words literal_length body_words body_length also done words-also items-also words-done items-done s st entry mid n r read.0
        read.2 exit after q p (read_to most s end (k - 1) (cursor_of s mid after)) (comma-no_end a) m h ep)

    pub body-last : (end ≡ end_kind → ⊥) → (after : ParserState) → (r.state.token.kind ≡ comma_kind → ⊥) → r.state.token.kind ≡ end → PastToken s r.state after
        → Gives body_form s st entry mid n (Ok (record { used = r.used; items = r.items; state = after })) (read_to most s end k (cursor_of s entry st))
    unfolding body_after
    body-last ends after f a m =
        subst⁻¹ (Gives body_form s st entry mid n (Ok (record { used = r.used; items = r.items; state = after })))
        (behind last (after_last end r.state.token.kind f a))
        (one_last 0 literal_words literal_length body_words body_length also done words-also items-also words-done items-done s st entry mid n r read.0
        read.2 after (λ q. ends (sym a ∙ q)) m)

    pub body-wrong : (q : Refusal) → (r.state.token.kind ≡ comma_kind → ⊥) → (r.state.token.kind ≡ end → ⊥)
        → Refused r.state (wrong_number r.state.token.kind) q → Gives body_form s st entry mid n (Err q) (read_to most s end k (cursor_of s entry st))
    unfolding body_after
    body-wrong q f a h =
        subst⁻¹ (Gives body_form s st entry mid n (Err q)) (behind neither (after-neither end r.state.token.kind f a))
        (refused-wrong body_form s st r.state entry mid n q (cursor_of s mid r.state) refl h
        (one_kept 0 literal_words literal_length body_words body_length also done words-also items-also words-done items-done s st entry mid n r read.0
        read.2 n-in))

-- the whole body of a clause or goal
pub whole-given : (s : List ℕ) (st : ParserState) (entry exit : List ℕ) (n : ℕ) (r : Result Parsed Refusal)
    → Gives body_form s st entry exit n r (read_to brackets s stop_kind (suc literals) (cursor_of s entry st))
    → Gives body_form s st entry exit n r (read_body s (cursor_of s entry st))
unfolding read_body
whole-given s st entry exit n r g = g
