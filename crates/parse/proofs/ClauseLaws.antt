-- Laws of reading clauses: one for each way out of the functions that read them. Assumes nothing.
use Prim.Native.Nat.{ℕ, ◌+◌, ◌-◌, ◌*◌, ◌≤◌, ◌<◌, ◌^◌}
use native.Mathlib.Omega.{arith}
use mathlib.Core.Path.{◌≡◌, refl, sym, ap, ap₂, ◌∙◌, subst, subst⁻¹}
use mathlib.Core.List.{List, [], ◌∷◌, ◌++◌, append-nil}
use lib.ListN.{length, set, take, length-append}
use lib.Dec.{lit<}
use Rattle.std.specs.Prelude.{Result, Ok, Err}
use Rattle.syntax.proofs.SameKind.{ne_kind}
use Rattle.syntax.specs.Tokens.{name_kind, neck_kind, stop_kind, end_kind}
use Rattle.syntax.specs.Terms.{Atom, Body}
use Rattle.syntax.specs.Reading.{Cursor, begin, Read, fault, ok, and_then, next, wrong_number, read_atom, read_body, read_clause, clause_after, clause_of, Tail, tail_of, fact, rule, other}
use Rattle.syntax.specs.Limits.{variables, brackets}
use Rattle.syntax.specs.Spans.{names_from, met}
use Rattle.syntax.proofs.Spans.{names-length, met-three}
use Rattle.syntax.specs.Words.{node_words, atom_words, body_words, body_length, clause_words, clause_start}
use Rattle.syntax.specs.declared.ParserState.{ParserState}
use Rattle.syntax.specs.declared.Refusal.{Refusal}
use Rattle.syntax.specs.declared.TokenKind.{TokenKind}
use Rattle.parse.specs.Gives.{cursor_of, state_onward, fresh, bytes_left, CursorInside, PastToken, RoomToRead, Faulted, Given, Gives, Refused, atom_form, body_form, clause_form}
use Rattle.parse.specs.declared.Parsed.{Parsed}
use Rattle.parse.proofs.Reading.{refused-wrong, moved-onward, next_of, held_of, cursor-kept, held_kept}
use Rattle.parse.proofs.Sequence.{seq-fault, seq-ok, shorter, kept-before, joined, header}
use Rattle.parse.specs.Rules.{Ruled, RuledBy}
use Rattle.parse.proofs.BodyLaws.{body-words}

tail-fact : (k : TokenKind) → k ≡ stop_kind → tail_of k ≡ fact
tail-fact k e = ap (λ (x : TokenKind). tail_of x) e

tail-rule : (k : TokenKind) → k ≡ neck_kind → tail_of k ≡ rule
tail-rule k e = ap (λ (x : TokenKind). tail_of x) e

tail-other : (k : TokenKind) → (k ≡ stop_kind → ⊥) → (k ≡ neck_kind → ⊥) → tail_of k ≡ other
tail-other k f e = simp (ne_kind k stop_kind f, ne_kind k neck_kind e)

-- neither is the end
stop-no_end : {k : TokenKind} → k ≡ stop_kind → k ≡ end_kind → ⊥
stop-no_end e f = cc

neck-no_end : {k : TokenKind} → k ≡ neck_kind → k ≡ end_kind → ⊥
neck-no_end e f = cc

-- ---- the body of a clause

module _ (s : List ℕ) (st past : ParserState) (entry mid : List ℕ) (n used : ℕ) (ready : RoomToRead s st entry used 1) (low : n + clause_start ≤ used) (m : PastToken s st past) (long : length mid ≡ length entry) where
  given-next : (r : Result Parsed Refusal) → Gives body_form s past entry mid used r (read_body s (cursor_of s entry past)) → Gives body_form s (state_onward s st) entry mid used r (read_body s (cursor_of s entry (state_onward s st)))
  given-next r g = subst (λ (x : ParserState). Gives body_form s x entry mid used r (read_body s (cursor_of s entry x))) m.is g

  pub ruled-fault : (q : Refusal) → Gives body_form s past entry mid used (Err q) (read_body s (cursor_of s entry past)) → Ruled s st entry mid n used (Err q)
  ruled-fault q g = record { mid = mid; body = Err q; long = long; given = given-next (Err q) g; by = (refl, refl) }

  pub ruled-stored : (r : Parsed) → Gives body_form s past entry mid used (Ok r) (read_body s (cursor_of s entry past)) → (exit : List ℕ) → exit ≡ set (set (set mid n (r.used - n)) (n + 1) r.state.count) (n + 2) r.items → Ruled s st entry exit n used (Ok (record { used = r.used; items = 1; state = r.state }))
  ruled-stored r g exit e = record { mid = mid; body = Ok r; long = long; given = given-next (Ok r) g; by = (refl, e) }

  pub ruled-asked : (r : Parsed) → Gives body_form s past entry mid used (Ok r) (read_body s (cursor_of s entry past)) → (n ≤ r.used) × ((n + clause_start ≤ length mid) × ((r.used - n < 2 ^ 32) × ((r.state.count < 2 ^ 32) × (r.items < 2 ^ 32))))
  ruled-asked r g =
      let o : (b : Body) × (read_body s (cursor_of s entry past) ≡ ok b (cursor_of s mid r.state)) × Given s past entry mid used r (body_words b) (body_length b) (cursor_of s mid r.state) = seq-ok body_form s past entry mid used r (read_body s (cursor_of s entry past)) g in
      let u : r.used ≡ used + length (body_words o.0) = o.2.used_is in
      let i : r.items ≡ body_length o.0 = o.2.items_is in
      let b : body_length o.0 ≤ length (body_words o.0) = body-words o.0 in
      let fits : length (body_words o.0) + node_words * bytes_left s r.state + 1 ≤ node_words * bytes_left s past + 1 = o.2.room in
      let few : r.state.count ≤ variables = o.2.standing.few in
      let room : used + node_words * bytes_left s st + 1 + variables ≤ length entry = ready.room in
      let small : length entry < 2 ^ 31 = ready.small in
      let f : st.token.at + st.token.len ≤ past.token.at = m.forward in
      (omega arith, (omega arith, (omega arith, (omega arith, omega arith))))

-- ---- clauses

module _ (s : List ℕ) (st start : ParserState) (entry : List ℕ) (n : ℕ) (ready : RoomToRead s (fresh st) entry n 4) (name : st.token.kind ≡ name_kind) (eb : start ≡ fresh st) where
  pub head-ready : RoomToRead s start entry (n + clause_start) 0 × (start.token.kind ≡ name_kind)
  head-ready =
      let room : n + node_words * bytes_left s (fresh st) + 4 + variables ≤ length entry = ready.room in (
        subst⁻¹ (λ (x : ParserState). RoomToRead s x entry (n + clause_start) 0) eb (record { standing = ready.standing; held = ready.held; room = omega arith; small = ready.small }),
        subst⁻¹ (λ (x : ParserState). x.token.kind ≡ name_kind) eb name,
      )

  given-fresh : (mid : List ℕ) (r : Result Parsed Refusal) → Gives atom_form s start entry mid (n + clause_start) r (read_atom brackets s (cursor_of s entry start)) → Gives atom_form s (fresh st) entry mid (n + clause_start) r (read_atom brackets s (cursor_of s entry (fresh st)))
  given-fresh mid r g = subst (λ (x : ParserState). Gives atom_form s x entry mid (n + clause_start) r (read_atom brackets s (cursor_of s entry x))) eb g

  pub clause-fault : (mid : List ℕ) (q : Refusal) → Gives atom_form s start entry mid (n + clause_start) (Err q) (read_atom brackets s (cursor_of s entry start)) → Gives clause_form s st entry mid n (Err q) (read_clause s (begin st.token))
  unfolding read_clause read_atom names_from
  clause-fault mid q g = seq-fault atom_form clause_form s st (fresh st) entry mid n (n + clause_start) q (read_atom brackets s (cursor_of s entry (fresh st))) (λ h after. clause_after s h after (tail_of after.token.kind)) (omega arith) (given-fresh mid (Err q) g)

  module _ (mid : List ℕ) (r : Parsed) (l : length mid ≡ length entry) (g : Gives atom_form s start entry mid (n + clause_start) (Ok r) (read_atom brackets s (cursor_of s entry start))) where
    read : (a : Atom) × (read_atom brackets s (cursor_of s entry (fresh st)) ≡ ok a (cursor_of s mid r.state)) × Given s (fresh st) entry mid (n + clause_start) r (atom_words a) 1 (cursor_of s mid r.state)
    read = seq-ok atom_form s (fresh st) entry mid (n + clause_start) r (read_atom brackets s (cursor_of s entry (fresh st))) (given-fresh mid (Ok r) g)

    behind : (x : Tail) → tail_of r.state.token.kind ≡ x → read_clause s (begin st.token) ≡ clause_after s read.0 (cursor_of s mid r.state) x
    unfolding read_clause read_atom and_then names_from
    behind x e = ap (λ (d : Read Atom). and_then d (λ h after. clause_after s h after (tail_of after.token.kind))) read.1 ∙ ap (clause_after s read.0 (cursor_of s mid r.state)) e

    pub clause-standing : CursorInside s r.state
    clause-standing = read.2.standing

    head-room : length (atom_words read.0) + node_words * bytes_left s r.state + 1 ≤ node_words * bytes_left s st + 1
    head-room = read.2.room

    pub fact-asked : (n ≤ r.used) × ((n + clause_start ≤ length mid) × ((r.used - n < 2 ^ 32) × ((r.state.count < 2 ^ 32) × (0 < 2 ^ 32))))
    fact-asked =
        let used : r.used ≡ (n + clause_start) + length (atom_words read.0) = read.2.used_is in
        let room : n + node_words * bytes_left s st + 4 + variables ≤ length entry = ready.room in
        let small : length entry < 2 ^ 31 = ready.small in
        let fits : length (atom_words read.0) + node_words * bytes_left s r.state + 1 ≤ node_words * bytes_left s st + 1 = head-room in
        let few : r.state.count ≤ variables = read.2.standing.few in
        (omega arith, (omega arith, (omega arith, (omega arith, lit< tt))))

    kept : take n mid ≡ take n entry
    kept = let room : n + node_words * bytes_left s st + 4 + variables ≤ length entry = ready.room in kept-before n (n + clause_start) (length (atom_words read.0)) entry mid (atom_words read.0) (omega arith) (omega arith) read.2.table_is

    pub clause-fact : (past : ParserState) (exit : List ℕ) → r.state.token.kind ≡ stop_kind → PastToken s r.state past → exit ≡ set (set (set mid n (r.used - n)) (n + 1) r.state.count) (n + 2) 0 → Gives clause_form s st entry exit n (Ok (record { used = r.used; items = 1; state = past })) (read_clause s (begin st.token))
    unfolding clause_after clause_words body_words body_length
    clause-fact past exit e m ex =
        let aw : List ℕ = atom_words read.0 in
        let used : r.used ≡ (n + clause_start) + length (atom_words read.0) = read.2.used_is in
        let room : n + node_words * bytes_left s st + 4 + variables ≤ length entry = ready.room in
        let fits : length (atom_words read.0) + node_words * bytes_left s r.state + 1 ≤ node_words * bytes_left s st + 1 = head-room in
        let some : 0 < r.state.token.len = read.2.standing.some (stop-no_end e) in
        let inside : r.state.token.at + r.state.token.len ≤ length s = read.2.standing.inside in
        let f : r.state.token.at + r.state.token.len ≤ past.token.at = m.forward in
        let size : r.used - n ≡ clause_start + length (atom_words read.0) = omega arith in
        let same : met exit ≡ met mid = ap met ex ∙ met-three mid n (r.used - n) r.state.count 0 (omega arith) in
        let count : length (names_from s (met mid) 0 r.state.count) ≡ r.state.count = names-length s (met mid) 0 r.state.count in
        let result : Given s st entry exit n (record { used = r.used; items = 1; state = past }) ((clause_start + length (atom_words read.0)) ∷ r.state.count ∷ 0 ∷ atom_words read.0) 1 (next s (cursor_of s mid r.state)) = record {
          state_is = cursor-kept s mid exit past same ∙ next_of mid m;
          items_is = refl;
          used_is = omega arith;
          table_is = header entry mid exit (atom_words read.0) n (clause_start + length (atom_words read.0)) r.state.count 0 (omega arith) read.2.table_is (ex ∙ ap (λ (k : ℕ). set (set (set mid n k) (n + 1) r.state.count) (n + 2) 0) size);
          standing = m.standing;
          held = held_kept same (held_of m read.2.held);
          room = omega arith;
        } in
        subst⁻¹ (Gives clause_form s st entry exit n (Ok (record { used = r.used; items = 1; state = past }))) (behind fact (tail-fact r.state.token.kind e))
        (subst⁻¹ (λ (v : ℕ). Given s st entry exit n (record { used = r.used; items = 1; state = past }) ((clause_start + length (atom_words read.0 ++ [])) ∷ v ∷ 0 ∷ (atom_words read.0 ++ [])) 1 (next s (cursor_of s mid r.state))) count
        (subst⁻¹ (λ (w : List ℕ). Given s st entry exit n (record { used = r.used; items = 1; state = past }) ((clause_start + length w) ∷ r.state.count ∷ 0 ∷ w) 1 (next s (cursor_of s mid r.state))) (append-nil (atom_words read.0)) result))

    pub clause-wrong : (q : Refusal) → (r.state.token.kind ≡ stop_kind → ⊥) → (r.state.token.kind ≡ neck_kind → ⊥) → Refused r.state (wrong_number r.state.token.kind) q → Gives clause_form s st entry mid n (Err q) (read_clause s (begin st.token))
    unfolding clause_after
    clause-wrong q f e h = subst⁻¹ (Gives clause_form s st entry mid n (Err q)) (behind other (tail-other r.state.token.kind f e)) (refused-wrong clause_form s st r.state entry mid n q (cursor_of s mid r.state) refl h kept)

    pub rule-asked : r.state.token.kind ≡ neck_kind → RoomToRead s r.state mid r.used 1 × (n + clause_start ≤ r.used)
    rule-asked e =
        let used : r.used ≡ (n + clause_start) + length (atom_words read.0) = read.2.used_is in
        let room : n + node_words * bytes_left s st + 4 + variables ≤ length entry = ready.room in
        let small : length entry < 2 ^ 31 = ready.small in
        let fits : length (atom_words read.0) + node_words * bytes_left s r.state + 1 ≤ node_words * bytes_left s st + 1 = head-room in
        (record { standing = read.2.standing; held = read.2.held; room = omega arith; small = omega arith }, omega arith)

    module _ (e : r.state.token.kind ≡ neck_kind) where
      rule-fault : (exit : List ℕ) (q : Refusal) (k b : ℕ) → Faulted mid exit r.used q k b → Faulted entry exit n q k b
      rule-fault exit q k b h =
          let used : r.used ≡ (n + clause_start) + length (atom_words read.0) = read.2.used_is in
          record { is = h.is; kept = shorter n r.used mid exit (omega arith) h.kept ∙ kept }

      rule-words : (mid2 exit : List ℕ) (q : Parsed) (b : Body) (end : Cursor) → length mid2 ≡ length mid → Given s (state_onward s r.state) mid mid2 r.used q (body_words b) (body_length b) end → exit ≡ set (set (set mid2 n (q.used - n)) (n + 1) q.state.count) (n + 2) q.items → Given s st entry exit n (record { used = q.used; items = 1; state = q.state }) (clause_words (clause_of read.0 b end)) 1 end
      unfolding clause_words
      rule-words mid2 exit q b end long h ex =
          let aw : List ℕ = atom_words read.0 in
          let m : PastToken s r.state (state_onward s r.state) = moved-onward s r.state read.2.standing in
          let used : r.used ≡ (n + clause_start) + length (atom_words read.0) = read.2.used_is in
          let used' : q.used ≡ r.used + length (body_words b) = h.used_is in
          let room : n + node_words * bytes_left s st + 4 + variables ≤ length entry = ready.room in
          let fits : length (atom_words read.0) + node_words * bytes_left s r.state + 1 ≤ node_words * bytes_left s st + 1 = head-room in
          let fits' : length (body_words b) + node_words * bytes_left s q.state + 1 ≤ node_words * bytes_left s (state_onward s r.state) + 1 = h.room in
          let some : 0 < r.state.token.len = read.2.standing.some (neck-no_end e) in
          let inside : (state_onward s r.state).token.at + (state_onward s r.state).token.len ≤ length s = m.standing.inside in
          let f : r.state.token.at + r.state.token.len ≤ (state_onward s r.state).token.at = m.forward in
          let both : length (atom_words read.0 ++ body_words b) ≡ length (atom_words read.0) + length (body_words b) = length-append (atom_words read.0) (body_words b) in
          let ends : take (((n + clause_start) + length (atom_words read.0)) + length (body_words b)) mid2 ≡ take ((n + clause_start) + length (atom_words read.0)) mid ++ body_words b = subst (λ (x : ℕ). take (x + length (body_words b)) mid2 ≡ take x mid ++ body_words b) used h.table_is in
          let size : q.used - n ≡ clause_start + length (atom_words read.0 ++ body_words b) = omega arith in
          let counts : q.state.count ≡ length end.names = sym (names-length s (met mid2) 0 q.state.count) ∙ ap (λ (x : Cursor). length x.names) h.state_is in
          let same : met exit ≡ met mid2 = ap met ex ∙ met-three mid2 n (q.used - n) q.state.count q.items (omega arith) in
          let stored : exit ≡ set (set (set mid2 n (clause_start + length (atom_words read.0 ++ body_words b))) (n + 1) (length end.names)) (n + 2) (body_length b) =
          ex ∙ ap (λ (k : ℕ). set (set (set mid2 n k) (n + 1) q.state.count) (n + 2) q.items) size ∙ ap₂ (λ (k i : ℕ). set (set (set mid2 n (clause_start + length (atom_words read.0 ++ body_words b))) (n + 1) k) (n + 2) i) counts h.items_is in
          record {
            state_is = cursor-kept s mid2 exit q.state same ∙ h.state_is;
            items_is = refl;
            used_is = omega arith;
            table_is = header entry mid2 exit (atom_words read.0 ++ body_words b) n (clause_start + length (atom_words read.0 ++ body_words b)) (length end.names) (body_length b) (omega arith) (joined entry mid mid2 (atom_words read.0) (body_words b) (n + clause_start) read.2.table_is ends) stored;
            standing = h.standing;
            held = held_kept same h.held;
            room = omega arith;
          }

      rule-by : (exit mid2 : List ℕ) (d : Read Body) (p q : Result Parsed Refusal) → length mid2 ≡ length mid → Gives body_form s (state_onward s r.state) mid mid2 r.used p d → RuledBy mid2 exit n p q → Gives clause_form s st entry exit n q (and_then d (λ b after. ok (clause_of read.0 b after) after))
      unfolding and_then
      rule-by exit mid2 (fault k b) (Ok p) q long h o = absurd h
      rule-by exit mid2 (ok b end) (Err p) q long h o = absurd h
      rule-by exit mid2 (fault k b) (Err p) q long h o =
          subst⁻¹ (λ (x : Result Parsed Refusal). Gives clause_form s st entry exit n x (fault k b)) o.0 (subst⁻¹ (λ (x : List ℕ). Faulted entry x n p k b) o.1 (rule-fault mid2 p k b h))
      rule-by exit mid2 (ok b end) (Ok p) q long h o =
          subst⁻¹ (λ (x : Result Parsed Refusal). Gives clause_form s st entry exit n x (ok (clause_of read.0 b end) end)) o.0 (rule-words mid2 exit p b end long h o.1)

      pub clause-rule : (exit : List ℕ) (q : Result Parsed Refusal) → Ruled s r.state mid exit n r.used q → Gives clause_form s st entry exit n q (read_clause s (begin st.token))
      unfolding clause_after
      clause-rule exit q h =
          let given : Gives body_form s (state_onward s r.state) mid h.mid r.used h.body (read_body s (next s (cursor_of s mid r.state))) = subst (λ (x : Cursor). Gives body_form s (state_onward s r.state) mid h.mid r.used h.body (read_body s x)) (next_of mid (moved-onward s r.state read.2.standing)) h.given in
          subst⁻¹ (Gives clause_form s st entry exit n q) (behind rule (tail-rule r.state.token.kind e)) (rule-by exit h.mid (read_body s (next s (cursor_of s mid r.state))) h.body q h.long given h.by)
