-- Laws of reading one literal and the sides of a bracket: one for each way out of the functions that read them. Assumes nothing.
use Prim.Native.Nat.{ℕ, zero, suc, ◌+◌, ◌-◌, ◌*◌, ◌≤◌, ◌<◌, ◌^◌}
use native.Mathlib.Numerals.{add-one}
use native.Mathlib.Omega.{arith}
use mathlib.Core.Path.{◌≡◌, refl, sym, ap, ◌∙◌, subst, subst⁻¹}
use mathlib.Core.Bool.{Bool, true, false}
use mathlib.Core.List.{List, [], ◌∷◌, ◌++◌}
use lib.ListN.{length, set, take, length-append}
use lib.Seq.{take-suc-set}
use Rattle.std.specs.Prelude.{Result, Ok, Err}
use Rattle.syntax.proofs.SameKind.{eq-kind, ne_kind}
use Rattle.syntax.specs.Limits.{sheet_bytes, variables}
use Rattle.syntax.specs.Terms.{Literal, Body, either}
use Rattle.syntax.specs.Tokens.{same_kind, open_kind, close_kind, semicolon_kind, stop_kind, end_kind}
use Rattle.syntax.specs.Spans.{met}
use Rattle.syntax.proofs.Spans.{met-kept}
use Rattle.syntax.specs.Reading.{Cursor, Read, fault, ok, and_then, beyond, read_plain, read_literal, read_to, read_sides}
use Rattle.syntax.specs.Words.{node_words, left_kind, right_kind, behind_kind, item_kinds, marker, literal_words, literal_length, body_words, body_length, side_words, side_length}
use Rattle.syntax.specs.declared.ParserState.{ParserState}
use Rattle.syntax.specs.declared.Refusal.{Refusal}
use Rattle.syntax.specs.declared.TokenKind.{TokenKind}
use Rattle.parse.specs.Gives.{cursor_of, bytes_left, PastToken, RoomToRead, Given, Gives, GivenWith, Refused, literal_form, body_form, side_form}
use Rattle.parse.specs.declared.Parsed.{Parsed}
use Rattle.parse.proofs.Reading.{refused-beyond, next_of, held_of, cursor-kept, held_kept}
use Rattle.parse.proofs.TermLaws.{open-no_end}
use Rattle.parse.proofs.Sequence.{seq-fault, seq-ok, shorter, kept-before, joined}
use Rattle.parse.specs.Brackets.{read_side, bracket_at}
use Rattle.parse.proofs.LiteralLaws.{front}
use Rattle.parse.proofs.BodyLaws.{body-words}

-- ---- one literal

plain-is : (most : ℕ) (s : List ℕ) (c : Cursor) → same_kind c.token.kind open_kind ≡ false → read_literal most s c ≡ read_plain most s c
unfolding read_literal read_to
plain-is zero s c e = ap (λ (b : Bool). elim b as (λ _. Read Literal) [ true ↦ beyond c | false ↦ read_plain zero s c ]) e
plain-is (suc most) s c e = ap (λ (b : Bool). elim b as (λ _. Read Literal) [ true ↦ bracket_at most s c | false ↦ read_plain (suc most) s c ]) e

deep_is : (s : List ℕ) (c : Cursor) → same_kind c.token.kind open_kind ≡ true → read_literal zero s c ≡ beyond c
unfolding read_literal
deep_is s c e = ap (λ (b : Bool). elim b as (λ _. Read Literal) [ true ↦ beyond c | false ↦ read_plain zero s c ]) e

bracket-is : (most : ℕ) (s : List ℕ) (c : Cursor) → same_kind c.token.kind open_kind ≡ true → read_literal (suc most) s c ≡ bracket_at most s c
unfolding read_literal read_to
bracket-is most s c e = ap (λ (b : Bool). elim b as (λ _. Read Literal) [ true ↦ bracket_at most s c | false ↦ read_plain (suc most) s c ]) e

module _ (most : ℕ) (s : List ℕ) (st : ParserState) (entry exit : List ℕ) (n : ℕ) where
  pub literal-plain : (r : Result Parsed Refusal) → (st.token.kind ≡ open_kind → ⊥) → Gives literal_form s st entry exit n r (read_plain most s (cursor_of s entry st))
      → Gives literal_form s st entry exit n r (read_literal most s (cursor_of s entry st))
  literal-plain r e g = subst⁻¹ (Gives literal_form s st entry exit n r)
      (plain-is most s (cursor_of s entry st) (ne_kind st.token.kind open_kind e)) g

  pub literal-deep : (r : Refusal) → st.token.kind ≡ open_kind → most ≡ 0 → Refused st 6 r
      → Gives literal_form s st entry entry n (Err r) (read_literal most s (cursor_of s entry st))
  literal-deep r e z f =
      subst⁻¹ (Gives literal_form s st entry entry n (Err r))
      (ap (λ (m : ℕ). read_literal m s (cursor_of s entry st)) z ∙ deep_is s (cursor_of s entry st) (eq-kind st.token.kind open_kind e))
      (refused-beyond literal_form s st st entry entry n r (cursor_of s entry st) refl f refl)

  pub literal-sides : (r : Result Parsed Refusal) → st.token.kind ≡ open_kind → (most ≡ 0 → ⊥)
      → Gives literal_form s st entry exit n r (bracket_at (most - 1) s (cursor_of s entry st))
      → Gives literal_form s st entry exit n r (read_literal most s (cursor_of s entry st))
  literal-sides r e z g =
      let d : most ≡ suc (most - 1) = omega (arith, z) in
      subst⁻¹ (Gives literal_form s st entry exit n r)
      (ap (λ (m : ℕ). read_literal m s (cursor_of s entry st)) d ∙ bracket-is (most - 1) s (cursor_of s entry st) (eq-kind st.token.kind open_kind e)) g

-- none of the tokens that end a side or a body is the end of the text
pub no_end : ((semicolon_kind ≡ end_kind → ⊥) × ((close_kind ≡ end_kind → ⊥) × (stop_kind ≡ end_kind → ⊥)))
no_end = ((λ e. cc), ((λ e. cc), (λ e. cc)))

-- ---- one side

-- a word stored, by what it is
pub stored : (entry exit : List ℕ) (n w v : ℕ) → exit ≡ set entry n w → w ≡ v → exit ≡ set entry n v
stored entry exit n w v e q = e ∙ ap (set entry n) q

module _ (most : ℕ) (end : TokenKind) (kind : ℕ) {s : List ℕ} {st : ParserState} {entry : List ℕ} {n : ℕ} (ready : RoomToRead s st entry n 2) (low : kind < item_kinds) where
  side-in : n + 1 ≤ length entry
  side-in = let room : n + node_words * bytes_left s st + 2 + variables ≤ length entry = ready.room in omega arith

  pub side-ready : RoomToRead s st entry (n + 1) 1
  side-ready =
      let room : n + node_words * bytes_left s st + 2 + variables ≤ length entry = ready.room in
      record { standing = ready.standing; held = ready.held; room = omega arith; small = ready.small }

  module _ (mid : List ℕ) where
    side-by : (q : Refusal) (d : Read Body) → Gives body_form s st entry mid (n + 1) (Err q) d
        → Gives (side_form kind) s st entry mid n (Err q) d
    side-by q (fault k b) h = record { is = h.is; kept = shorter n (n + 1) entry mid (omega arith) h.kept }
    side-by q (ok b after) h = absurd h

    pub side-fault : (q : Refusal) → Gives body_form s st entry mid (n + 1) (Err q) (read_side most s end (cursor_of s entry st))
        → Gives (side_form kind) s st entry mid n (Err q) (read_side most s end (cursor_of s entry st))
    side-fault q g = side-by q (read_side most s end (cursor_of s entry st)) g

    module _ (r : Parsed) (l : length mid ≡ length entry)
        (g : Gives body_form s st entry mid (n + 1) (Ok r) (read_side most s end (cursor_of s entry st))) where
      side-read : (b : Body) × (read_side most s end (cursor_of s entry st) ≡ ok b (cursor_of s mid r.state))
          × Given s st entry mid (n + 1) r (body_words b) (body_length b) (cursor_of s mid r.state)
      side-read = seq-ok body_form s st entry mid (n + 1) r (read_side most s end (cursor_of s entry st)) g

      -- what `open_side` asks
      pub side-asked : (n < length mid) × ((kind < item_kinds) × (r.items < 2 ^ 28))
      side-asked =
          let inn : n + 1 ≤ length entry = side-in in
          let items : r.items ≡ body_length side-read.0 = side-read.2.items_is in
          let few : body_length side-read.0 ≤ length (body_words side-read.0) = body-words side-read.0 in
          let fits : length (body_words side-read.0) + node_words * bytes_left s r.state + 1 ≤ node_words * bytes_left s st + 1 = side-read.2.room in
          let short : length s ≤ sheet_bytes = ready.standing.short in
          (omega arith, (low, omega arith))

      side-words : (exit : List ℕ) → exit ≡ set mid n (marker kind r.items)
          → GivenWith 0 s st entry exit n (record { used = r.used; items = r.items + 1; state = r.state })
          (side_words kind side-read.0) (side_length side-read.0) (cursor_of s mid r.state)
      side-words exit ex =
          let given : Given s st entry mid (n + 1) r (body_words side-read.0) (body_length side-read.0) (cursor_of s mid r.state) = side-read.2 in
          let room : n + node_words * bytes_left s st + 2 + variables ≤ length entry = ready.room in
          let used : r.used ≡ (n + 1) + length (body_words side-read.0) = given.used_is in
          let items : r.items ≡ body_length side-read.0 = given.items_is in
          let fits : length (body_words side-read.0) + node_words * bytes_left s r.state + 1 ≤ node_words * bytes_left s st + 1 = given.room in
          let same : met exit ≡ met mid = ap met ex ∙ met-kept mid n (marker kind r.items) (omega arith) in
          record {
            state_is = cursor-kept s mid exit r.state same;
            items_is = omega arith;
            used_is = omega arith;
            table_is = front entry mid exit (body_words side-read.0) n (marker kind (body_length side-read.0)) side-in given.table_is
                (ex ∙ ap (λ (i : ℕ). set mid n (marker kind i)) items);
            standing = given.standing;
            held = held_kept same given.held;
            room = omega arith;
          }

      pub side-given : (exit : List ℕ) (q : Parsed) → q ≡ record { used = r.used; items = r.items + 1; state = r.state }
          → exit ≡ set mid n (marker kind r.items)
          → Gives (side_form kind) s st entry exit n (Ok q) (read_side most s end (cursor_of s entry st))
      side-given exit q eq ex =
          subst⁻¹ (Gives (side_form kind) s st entry exit n (Ok q)) side-read.1
          (subst⁻¹ (λ (x : Parsed). GivenWith 0 s st entry exit n x (side_words kind side-read.0) (side_length side-read.0) (cursor_of s mid r.state)) eq
          (side-words exit ex))

-- ---- a bracket

module _ (most : ℕ) {s : List ℕ} {st past : ParserState} {entry : List ℕ} {n : ℕ} (ready : RoomToRead s st entry n 1) (opens : st.token.kind ≡ open_kind)
    (m : PastToken s st past) where
  abbrev right-of : Body → Cursor → Read Literal
  right-of y after = and_then (read_side most s close_kind after) (λ z end. ok (either y z) end)

  bracket-from : bracket_at most s (cursor_of s entry st) ≡ and_then (read_side most s semicolon_kind (cursor_of s entry past)) right-of
  unfolding read_sides
  bracket-from = ap (λ (c : Cursor). and_then (read_side most s semicolon_kind c) right-of) (sym (next_of entry m))

  -- the bracket takes a byte
  past-less : node_words + node_words * bytes_left s past ≤ node_words * bytes_left s st
  past-less =
      let some : 0 < st.token.len = ready.standing.some (open-no_end opens) in
      let inside : st.token.at + st.token.len ≤ length s = ready.standing.inside in
      let f : st.token.at + st.token.len ≤ past.token.at = m.forward in
      omega arith

  pub left-ready : RoomToRead s past entry n 2
  left-ready =
      let room : n + node_words * bytes_left s st + 1 + variables ≤ length entry = ready.room in
      let less : node_words + node_words * bytes_left s past ≤ node_words * bytes_left s st = past-less in
      record { standing = m.standing; held = held_of m ready.held; room = omega arith; small = ready.small }

  module _ (mid : List ℕ) where
    pub left-fault : (y : Refusal)
        → Gives (side_form left_kind) s past entry mid n (Err y) (read_side most s semicolon_kind (cursor_of s entry past))
        → Gives literal_form s st entry mid n (Err y) (bracket_at most s (cursor_of s entry st))
    left-fault y g =
        subst⁻¹ (Gives literal_form s st entry mid n (Err y)) bracket-from
        (seq-fault (side_form left_kind) literal_form s st past entry mid n n y
        (read_side most s semicolon_kind (cursor_of s entry past)) right-of (omega arith) g)

    module _ (y : Parsed) (l : length mid ≡ length entry)
        (g : Gives (side_form left_kind) s past entry mid n (Ok y) (read_side most s semicolon_kind (cursor_of s entry past))) where
      left-read : (b : Body) × (read_side most s semicolon_kind (cursor_of s entry past) ≡ ok b (cursor_of s mid y.state))
          × GivenWith 0 s past entry mid n y (side_words left_kind b) (side_length b) (cursor_of s mid y.state)
      left-read = seq-ok (side_form left_kind) s past entry mid n y (read_side most s semicolon_kind (cursor_of s entry past)) g

      abbrev left-side : Body
      left-side = left-read.0

      left-used : y.used ≡ n + (1 + length (body_words left-side))
      left-used = let used : y.used ≡ n + length (side_words left_kind left-side) = left-read.2.used_is in omega arith

      left-fits : 1 + length (body_words left-side) + node_words * bytes_left s y.state ≤ node_words * bytes_left s past + 1
      left-fits =
          let fits : length (side_words left_kind left-side) + node_words * bytes_left s y.state + 0 ≤ node_words * bytes_left s past + 1 = left-read.2.room in
          omega arith

      pub right-ready : RoomToRead s y.state mid y.used 2
      right-ready =
          let room : n + node_words * bytes_left s st + 1 + variables ≤ length entry = ready.room in
          let less : node_words + node_words * bytes_left s past ≤ node_words * bytes_left s st = past-less in
          let small : length entry < 2 ^ 31 = ready.small in
          let used : y.used ≡ n + (1 + length (body_words left-side)) = left-used in
          let fits : 1 + length (body_words left-side) + node_words * bytes_left s y.state ≤ node_words * bytes_left s past + 1 = left-fits in
          record { standing = left-read.2.standing; held = left-read.2.held; room = omega arith; small = omega arith }

      bracket-behind : bracket_at most s (cursor_of s entry st) ≡ right-of left-side (cursor_of s mid y.state)
      unfolding and_then
      bracket-behind = bracket-from ∙ ap (λ (d : Read Body). and_then d right-of) left-read.1

      left-kept : take n mid ≡ take n entry
      left-kept =
          let room : n + node_words * bytes_left s st + 1 + variables ≤ length entry = ready.room in
          kept-before n n (length (side_words left_kind left-side)) entry mid (side_words left_kind left-side) (omega arith) (omega arith)
          left-read.2.table_is

      module _ (after : List ℕ) where
        right_by : (q : Refusal) (d : Read Body) → Gives (side_form right_kind) s y.state mid after y.used (Err q) d
            → Gives literal_form s st entry after n (Err q) (and_then d (λ z end. ok (either left-side z) end))
        unfolding and_then
        right_by q (fault k b) f =
            let used : y.used ≡ n + (1 + length (body_words left-side)) = left-used in
            record { is = f.is; kept = shorter n y.used mid after (omega arith) f.kept ∙ left-kept }
        right_by q (ok b end) f = absurd f

        pub right-fault : (q : Refusal)
            → Gives (side_form right_kind) s y.state mid after y.used (Err q) (read_side most s close_kind (cursor_of s mid y.state))
            → Gives literal_form s st entry after n (Err q) (bracket_at most s (cursor_of s entry st))
        right-fault q h = subst⁻¹ (Gives literal_form s st entry after n (Err q)) bracket-behind
            (right_by q (read_side most s close_kind (cursor_of s mid y.state)) h)

        module _ (q : Parsed) (l2 : length after ≡ length mid)
            (h : Gives (side_form right_kind) s y.state mid after y.used (Ok q) (read_side most s close_kind (cursor_of s mid y.state))) where
          right-read : (b : Body) × (read_side most s close_kind (cursor_of s mid y.state) ≡ ok b (cursor_of s after q.state))
              × GivenWith 0 s y.state mid after y.used q (side_words right_kind b) (side_length b) (cursor_of s after q.state)
          right-read = seq-ok (side_form right_kind) s y.state mid after y.used q (read_side most s close_kind (cursor_of s mid y.state)) h

          abbrev right_side : Body
          right_side = right-read.0

          abbrev bracket : Literal
          bracket = either left-side right_side

          -- the right side and the last word
          abbrev behind-left : List ℕ
          behind-left = side_words right_kind right_side ++ (behind_kind ∷ [])

          right-used : q.used ≡ y.used + (1 + length (body_words right_side))
          right-used = let used : q.used ≡ y.used + length (side_words right_kind right_side) = right-read.2.used_is in omega arith

          right-fits : 1 + length (body_words right_side) + node_words * bytes_left s q.state ≤ node_words * bytes_left s y.state + 1
          right-fits =
              let fits : length (side_words right_kind right_side) + node_words * bytes_left s q.state + 0 ≤ node_words * bytes_left s y.state + 1 = right-read.2.room in
              omega arith

          -- room for the last word before those of the variables
          last-in : q.used + 1 + variables ≤ length after
          last-in =
              let room : n + node_words * bytes_left s st + 1 + variables ≤ length entry = ready.room in
              let less : node_words + node_words * bytes_left s past ≤ node_words * bytes_left s st = past-less in
              let a : y.used ≡ n + (1 + length (body_words left-side)) = left-used in
              let b : 1 + length (body_words left-side) + node_words * bytes_left s y.state ≤ node_words * bytes_left s past + 1 = left-fits in
              let c : q.used ≡ y.used + (1 + length (body_words right_side)) = right-used in
              let d : 1 + length (body_words right_side) + node_words * bytes_left s q.state ≤ node_words * bytes_left s y.state + 1 = right-fits in
              omega arith

          -- what `close_sides` asks
          pub close-asked : (q.used < length after) × ((length after < 2 ^ 31) × ((q.items < 2 ^ 31) × (y.items < 2 ^ 31)))
          close-asked =
              let room : q.used + 1 + variables ≤ length after = last-in in
              let small : length entry < 2 ^ 31 = ready.small in
              let a : y.used ≡ n + (1 + length (body_words left-side)) = left-used in
              let c : q.used ≡ y.used + (1 + length (body_words right_side)) = right-used in
              let i : y.items ≡ side_length left-side = left-read.2.items_is in
              let j : q.items ≡ side_length right_side = right-read.2.items_is in
              let few : body_length left-side ≤ length (body_words left-side) = body-words left-side in
              let few' : body_length right_side ≤ length (body_words right_side) = body-words right_side in
              (omega arith, (omega arith, (omega arith, omega arith)))

          module _ (exit : List ℕ) (ex : exit ≡ set after q.used behind_kind) where
            last-words : take (y.used + length behind-left) exit ≡ take y.used mid ++ behind-left
            last-words =
                let room : q.used + 1 + variables ≤ length after = last-in in
                let used : q.used ≡ y.used + length (side_words right_kind right_side) = right-read.2.used_is in
                let end : take (q.used + 1) exit ≡ take q.used after ++ (behind_kind ∷ []) =
                ap (take (q.used + 1)) ex
                ∙ ap (λ (j : ℕ). take j (set after q.used behind_kind)) (add-one q.used) ∙ take-suc-set after q.used behind_kind (omega arith) in
                joined mid after exit (side_words right_kind right_side) (behind_kind ∷ []) y.used right-read.2.table_is
                (subst (λ (u : ℕ). take (u + 1) exit ≡ take u after ++ (behind_kind ∷ [])) used end)

            whole_words : take (n + length (literal_words bracket)) exit ≡ take n entry ++ literal_words bracket
            unfolding literal_words
            whole_words =
                let used : y.used ≡ n + length (side_words left_kind left-side) = left-read.2.used_is in
                joined entry mid exit (side_words left_kind left-side) behind-left n left-read.2.table_is
                (subst (λ (u : ℕ). take (u + length behind-left) exit ≡ take u mid ++ behind-left) used last-words)

            bracket-long : length (literal_words bracket) ≡ 3 + (length (body_words left-side) + length (body_words right_side))
            unfolding literal_words
            bracket-long = simp length-append (omega arith)

            bracket-items : literal_length bracket ≡ 3 + (body_length left-side + body_length right_side)
            unfolding literal_length
            bracket-items = refl

            bracket-words : GivenWith 0 s st entry exit n (record { used = q.used + 1; items = y.items + q.items + 1; state = q.state })
                (literal_words bracket) (literal_length bracket) (cursor_of s after q.state)
            bracket-words =
                let room : q.used + 1 + variables ≤ length after = last-in in
                let less : node_words + node_words * bytes_left s past ≤ node_words * bytes_left s st = past-less in
                let a : y.used ≡ n + (1 + length (body_words left-side)) = left-used in
                let b : 1 + length (body_words left-side) + node_words * bytes_left s y.state ≤ node_words * bytes_left s past + 1 = left-fits in
                let c : q.used ≡ y.used + (1 + length (body_words right_side)) = right-used in
                let d : 1 + length (body_words right_side) + node_words * bytes_left s q.state ≤ node_words * bytes_left s y.state + 1 = right-fits in
                let i : y.items ≡ side_length left-side = left-read.2.items_is in
                let j : q.items ≡ side_length right_side = right-read.2.items_is in
                let long : length (literal_words bracket) ≡ 3 + (length (body_words left-side) + length (body_words right_side)) = bracket-long in
                let items : literal_length bracket ≡ 3 + (body_length left-side + body_length right_side) = bracket-items in
                let same : met exit ≡ met after = ap met ex ∙ met-kept after q.used behind_kind (omega arith) in
                record {
                  state_is = cursor-kept s after exit q.state same;
                  items_is = omega arith;
                  used_is = omega arith;
                  table_is = whole_words;
                  standing = right-read.2.standing;
                  held = held_kept same right-read.2.held;
                  room = omega arith;
                }

            pub bracket-given : (p : Parsed) → p ≡ record { used = q.used + 1; items = y.items + q.items + 1; state = q.state }
                → Gives literal_form s st entry exit n (Ok p) (bracket_at most s (cursor_of s entry st))
            unfolding and_then
            bracket-given p ep =
                subst⁻¹ (Gives literal_form s st entry exit n (Ok p))
                (bracket-behind ∙ ap (λ (d : Read Body). and_then d (λ z end. ok (either left-side z) end)) right-read.1)
                (subst⁻¹ (λ (x : Parsed). GivenWith 0 s st entry exit n x (literal_words bracket) (literal_length bracket) (cursor_of s after q.state)) ep
                bracket-words)
