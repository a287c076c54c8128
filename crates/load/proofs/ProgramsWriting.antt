-- Laws of the words that linking writes: what stands where they were written, and what they leave as it was. Assumes nothing.
use Prim.Native.Nat.{ℕ, zero, suc, ◌+◌, ◌≤◌, ◌<◌}
use native.Mathlib.Omega.{arith}
use mathlib.Core.Path.{◌≡◌, refl, sym, ap, ◌∙◌, subst, subst⁻¹}
use mathlib.Core.Bool.{◌&&◌}
use mathlib.Core.List.{List, [], ◌∷◌, ◌++◌}
use mathlib.Core.Option.{some}
use lib.Dec.{T}
use lib.ListN.{length, get_or, set, length-set, length-append}
use lib.Seq.{get_or-set_same, get_or-set_other}
use Rattle.syntax.specs.Terms.{term_of, Literal, call, equation, truth, falsity, either, Body, done, also, Clause, Sheet}
use Rattle.syntax.specs.Words.{literal_length, body_length, program_clauses}
use Rattle.words.specs.Items.{Item, before_right, behind, literal_items, items}
use Rattle.words.proofs.Items.{literal-many, body-many}
use Rattle.run_layout.specs.Regions.{body_end_kind, split_kind, jump_kind, bodies, next_literal, clause_record, literal_from}
use Rattle.machine.specs.Machine.{next_for, nth_clause}
use Rattle.machine.proofs.Tests.{both, some-eq, some-none}
use Rattle.words.specs.Tables.{WordsAt}
use Rattle.run_layout.specs.Nodes.{Symbol, loaded_words, is_loadable, TermLoaded}
use Rattle.run_layout.specs.Limits.{LiteralLimited, EachLimited, ClausesLimited, body_records}
use Rattle.run_layout.specs.Program.{literal_nodes, body_nodes, clause_nodes, clauses_nodes, literal_loadable, body_loadable, clauses_loadable, body_at, after_at, record_kind, record_place, other_at, RefersTo, right_of, LiteralLoaded, ItemsLoaded, BodyLoaded}
use Rattle.words.proofs.TablesLaws.{has_left, has_right}
use Rattle.load.specs.Records.{put_pair, put_record}
use Rattle.load.specs.ItemsRecords.{kind_of, item_nodes, other_of}
use Rattle.load.specs.ClausesRecords.{put_items, put_body, behind_body, put_clause}
use Rattle.load.specs.ProgramsRecords.{put_heads, put_clauses}
use Rattle.load.specs.Search.{HeadsLoaded}
use Rattle.load.proofs.ClausesSizes.{items_nodes, literal-items, body-items}
use Rattle.load.proofs.RecordsWriting.{pair-long, pair-other, pair-first, pair-second, record-long, record-kind, record-place, record-other}
use Rattle.load.proofs.ClausesWriting.{body-long, body_below, SameHeads, body-heads, pair-heads}

-- the record of an item at l, whose nodes stand at q
pub record RecordAt (ss : List Symbol) (sh : Sheet) (code : List ℕ) (l q : ℕ) (x : Item) : Type 0 where
  pub kind : record_kind code l ≡ kind_of x
  pub place : record_place code l ≡ q
  pub other : other_at code l ≡ other_of ss sh q l x

-- the records of items from number n on, in the body that begins at `start`
abbrev pub Records : List Symbol → Sheet → List ℕ → ℕ → ℕ → ℕ → List Item → Type 0
Records ss sh code start n q [] = Unit {0}
Records ss sh code start n q (x ∷ xs) = RecordAt ss sh code (literal_from start n) q x × Records ss sh code start (n + 1) (q + length (item_nodes ss x)) xs

-- those of a body, and its end
pub record Written (ss : List Symbol) (sh : Sheet) (code : List ℕ) (start q : ℕ) (b : Body) : Type 0 where
  pub room : next_literal (literal_from start (body_length b)) ≤ length code
  pub records : Records ss sh code start 0 q (items b)
  pub ends : record_kind code (literal_from start (body_length b)) ≡ body_end_kind

module _ (ss : List Symbol) (sh : Sheet) (start : ℕ) where
  -- a record stays where its words stay
  record-kept : (code new : List ℕ) (l q : ℕ) (x : Item) → ((i : ℕ) → l ≤ i → i < next_literal l → get_or new i 0 ≡ get_or code i 0) → RecordAt ss sh code l q x → RecordAt ss sh new l q x
  record-kept code new l q x f w = record {
    kind = f l (omega arith) (omega arith) ∙ w.kind;
    place = f (l + 1) (omega arith) (omega arith) ∙ w.place;
    other = f (l + 2) (omega arith) (omega arith) ∙ w.other;
  }

  records-kept : (code new : List ℕ) (n q : ℕ) (xs : List Item) → ((i : ℕ) → literal_from start n ≤ i → i < literal_from start (n + length xs) → get_or new i 0 ≡ get_or code i 0)
      → Records ss sh code start n q xs → Records ss sh new start n q xs
  records-kept code new n q [] f w = tt
  records-kept code new n q (x ∷ xs) f w = (
    record-kept code new (literal_from start n) q x (λ i a u. f i a (let k : i < literal_from start (n + suc (length xs)) = omega arith in k)) w.0,
    records-kept code new (n + 1) (q + length (item_nodes ss x)) xs (λ i a u. f i (omega arith) (let k : i < literal_from start (n + suc (length xs)) = omega arith in k)) w.1,
  )

  -- what was written from record n on
  records-written : (q : ℕ) (xs : List Item) (code : List ℕ) (n : ℕ) → next_literal (literal_from start (n + length xs)) ≤ length code
      → Records ss sh (put_items ss sh q xs code (literal_from start n)) start n q xs × (record_kind (put_items ss sh q xs code (literal_from start n)) (literal_from start (n + length xs)) ≡ body_end_kind)
  unfolding put_items
  records-written q [] code n r =
      let e : literal_from start (n + 0) ≡ literal_from start n = omega arith in
      (tt, ap (λ (i : ℕ). get_or (set code (literal_from start n) body_end_kind) i 0) e ∙ get_or-set_same code (literal_from start n) body_end_kind 0 (let z : next_literal (literal_from start (n + 0)) ≤ length code = r in omega arith))
  records-written q (x ∷ xs) code n r =
      let z : next_literal (literal_from start (n + suc (length xs))) ≤ length code = r in
      let first : List ℕ = put_record code (literal_from start n) (kind_of x) q (other_of ss sh q (literal_from start n) x) in
      let long : length (put_record code (literal_from start n) (kind_of x) q (other_of ss sh q (literal_from start n) x)) ≡ length code = record-long code (literal_from start n) (kind_of x) q (other_of ss sh q (literal_from start n) x) in
      let e : literal_from start (n + 1) ≡ next_literal (literal_from start n) = omega arith in
      let m : literal_from start (n + 1 + length xs) ≡ literal_from start (n + suc (length xs)) = omega arith in
      let room : next_literal (literal_from start n) ≤ length code = omega arith in
      let more = records-written (q + length (item_nodes ss x)) xs (put_record code (literal_from start n) (kind_of x) q (other_of ss sh q (literal_from start n) x)) (n + 1) (omega arith) in
      let one : RecordAt ss sh (put_record code (literal_from start n) (kind_of x) q (other_of ss sh q (literal_from start n) x)) (literal_from start n) q x = record {
        kind = record-kind code (literal_from start n) (kind_of x) q (other_of ss sh q (literal_from start n) x) room;
        place = record-place code (literal_from start n) (kind_of x) q (other_of ss sh q (literal_from start n) x) room;
        other = record-other code (literal_from start n) (kind_of x) q (other_of ss sh q (literal_from start n) x) room;
      } in
      subst (λ (i : ℕ). Records ss sh (put_items ss sh (q + length (item_nodes ss x)) xs (put_record code (literal_from start n) (kind_of x) q (other_of ss sh q (literal_from start n) x)) i) start n q (x ∷ xs)
      × (record_kind (put_items ss sh (q + length (item_nodes ss x)) xs (put_record code (literal_from start n) (kind_of x) q (other_of ss sh q (literal_from start n) x)) i) (literal_from start (n + suc (length xs))) ≡ body_end_kind)) e (
        (
          record-kept (put_record code (literal_from start n) (kind_of x) q (other_of ss sh q (literal_from start n) x)) (put_items ss sh (q + length (item_nodes ss x)) xs (put_record code (literal_from start n) (kind_of x) q (other_of ss sh q (literal_from start n) x)) (literal_from start (n + 1))) (literal_from start n) q x
              (λ i a u. body_below ss sh (q + length (item_nodes ss x)) xs (put_record code (literal_from start n) (kind_of x) q (other_of ss sh q (literal_from start n) x)) (literal_from start (n + 1)) i (omega arith)) one,
          more.0,
        ),
        ap (λ (i : ℕ). get_or (put_items ss sh (q + length (item_nodes ss x)) xs (put_record code (literal_from start n) (kind_of x) q (other_of ss sh q (literal_from start n) x)) (literal_from start (n + 1))) i 0) (sym m) ∙ more.1,
      )

  pub body-written : (q : ℕ) (b : Body) (code : List ℕ) → next_literal (literal_from start (body_length b)) ≤ length code → Written ss sh (put_body ss sh q b code start) start q b
  body-written q b code r =
      let many : length (items b) ≡ body_length b = body-many b in
      let z : literal_from start 0 ≡ start = omega arith in
      let e : literal_from start (0 + length (items b)) ≡ literal_from start (body_length b) = omega arith in
      let o = records-written q (items b) code 0 (omega arith) in
      let long : length (put_items ss sh q (items b) code start) ≡ length code = body-long ss sh q (items b) code start in
      record {
        room = omega arith;
        records = subst (λ (i : ℕ). Records ss sh (put_items ss sh q (items b) code i) start 0 q (items b)) z o.0;
        ends = subst (λ (i : ℕ). record_kind (put_items ss sh q (items b) code start) i ≡ body_end_kind) e (subst (λ (i : ℕ). record_kind (put_items ss sh q (items b) code i) (literal_from start (0 + length (items b))) ≡ body_end_kind) z o.1);
      }

  -- it stays where its words stay
  pub body_kept : (code new : List ℕ) (q : ℕ) (b : Body) → length new ≡ length code → ((i : ℕ) → start ≤ i → i < next_literal (literal_from start (body_length b)) → get_or new i 0 ≡ get_or code i 0)
      → Written ss sh code start q b → Written ss sh new start q b
  body_kept code new q b n f w =
      let many : length (items b) ≡ body_length b = body-many b in
      let r : next_literal (literal_from start (body_length b)) ≤ length code = w.room in
      record {
        room = omega arith;
        records = records-kept code new 0 q (items b) (λ i a u. f i (omega arith) (omega arith)) w.records;
        ends = f (literal_from start (body_length b)) (omega arith) (omega arith) ∙ w.ends;
      }

  -- ---- the records of a body are the body

  module _ (nodes code : List ℕ) where
    records-left : (n q : ℕ) (xs ys : List Item) → Records ss sh code start n q (xs ++ ys) → Records ss sh code start n q xs
    records-left n q [] ys r = tt
    records-left n q (x ∷ xs) ys r = (r.0, records-left (n + 1) (q + length (item_nodes ss x)) xs ys r.1)

    -- at a place that was computed in another way
    records-at : (n m q r : ℕ) (xs : List Item) → n ≡ m → q ≡ r → Records ss sh code start n q xs → Records ss sh code start m r xs
    records-at n m q r xs e f w = subst (λ (i : ℕ). Records ss sh code start m i xs) f (subst (λ (i : ℕ). Records ss sh code start i q xs) e w)

    records-right : (n q : ℕ) (xs ys : List Item) → Records ss sh code start n q (xs ++ ys) → Records ss sh code start (n + length xs) (q + length (items_nodes ss xs)) ys
    unfolding items_nodes
    records-right n q [] ys r = records-at n (n + 0) q (q + 0) ys (omega arith) (omega arith) r
    records-right n q (x ∷ xs) ys r =
        let a : length (item_nodes ss x ++ items_nodes ss xs) ≡ length (item_nodes ss x) + length (items_nodes ss xs) = length-append (item_nodes ss x) (items_nodes ss xs) in
        let e : n + 1 + length xs ≡ n + suc (length xs) = omega arith in
        let f : q + length (item_nodes ss x) + length (items_nodes ss xs) ≡ q + length (item_nodes ss x ++ items_nodes ss xs) = omega arith in
        records-at (n + 1 + length xs) (n + suc (length xs)) (q + length (item_nodes ss x) + length (items_nodes ss xs)) (q + length (item_nodes ss x ++ items_nodes ss xs)) ys e f
        (records-right (n + 1) (q + length (item_nodes ss x)) xs ys r.1)

    -- a record that names another, at places that were computed in another way
    names : (kind l m other there : ℕ) → l ≡ m → other ≡ there → record_kind code l ≡ kind → other_at code l ≡ other → RefersTo code kind m there
    names kind l m other there e f k o = subst (λ (i : ℕ). RefersTo code kind i there) e (k, o ∙ f)

    mutual
      unfolding literal_items literal_nodes literal_loadable literal_length item_nodes other_of

      literal-stands : (x : Literal) (n q : ℕ) → Records ss sh code start n q (literal_items x) → WordsAt nodes q (literal_nodes ss x) → T (literal_loadable ss x) → LiteralLimited x
          → LiteralLoaded ss sh nodes code start n x
      literal-stands truth n q r h k s = r.0.kind
      literal-stands falsity n q r h k s = r.0.kind
      literal-stands (call a) n q r h k s =
          (r.0.kind, subst⁻¹ (λ (i : ℕ). TermLoaded ss nodes i (term_of a)) r.0.place (record { words = h; loadable = k; shallow = s }), r.0.other)
      literal-stands (equation t u) n q r h k s =
          let ok : T (is_loadable ss t) × T (is_loadable ss u) = both (is_loadable ss t) (is_loadable ss u) k in (
            r.0.kind,
            subst⁻¹ (λ (i : ℕ). TermLoaded ss nodes i t) r.0.place (record { words = has_left nodes q (loaded_words ss t) (loaded_words ss u) h; loadable = ok.0; shallow = s.0 }),
            subst⁻¹ (λ (i : ℕ). TermLoaded ss nodes i u) r.0.other (record { words = has_right nodes q (loaded_words ss t) (loaded_words ss u) h; loadable = ok.1; shallow = s.1 }),
          )
      literal-stands (either y z) n q r h k s =
          let ok : T (body_loadable ss y) × T (body_loadable ss z) = both (body_loadable ss y) (body_loadable ss z) k in
          let my : length (items y) ≡ body_length y = body-many y in
          let mz : length (items z) ≡ body_length z = body-many z in
          let ny : length (items_nodes ss (items y)) ≡ length (body_nodes ss y) = ap length (body-items ss y) in
          let right = records-right (n + 1) (q + 0) (items y) ((before_right (body_length z) ∷ items z) ++ (behind ∷ [])) r.1 in
          let last = records-right (n + 1 + length (items y) + 1) (q + 0 + length (items_nodes ss (items y)) + 0) (items z) (behind ∷ []) right.1 in (
            names split_kind (literal_from start n) (literal_from start n) (literal_from (literal_from start n) (body_length y + 2)) (literal_from start (n + right_of y)) refl (omega arith) r.0.kind r.0.other,
            items-stand y (n + 1) q (records-at (n + 1) (n + 1) (q + 0) q (items y) refl (omega arith) (records-left (n + 1) (q + 0) (items y) ((before_right (body_length z) ∷ items z) ++ (behind ∷ [])) r.1))
                (has_left nodes q (body_nodes ss y) (body_nodes ss z) h) ok.0 s.0,
            names jump_kind (literal_from start (n + 1 + length (items y))) (literal_from start (n + 1 + body_length y)) (literal_from (literal_from start (n + 1 + length (items y))) (body_length z + 2))
                (literal_from start (n + (3 + (body_length y + body_length z)))) (omega arith) (omega arith) right.0.kind right.0.other,
            items-stand z (n + right_of y) (q + length (body_nodes ss y))
                (records-at (n + 1 + length (items y) + 1) (n + right_of y) (q + 0 + length (items_nodes ss (items y)) + 0) (q + length (body_nodes ss y)) (items z) (omega arith) (omega arith)
                (records-left (n + 1 + length (items y) + 1) (q + 0 + length (items_nodes ss (items y)) + 0) (items z) (behind ∷ []) right.1))
                (has_right nodes q (body_nodes ss y) (body_nodes ss z) h) ok.1 s.1,
            names jump_kind (literal_from start (n + 1 + length (items y) + 1 + length (items z))) (literal_from start (n + right_of y + body_length z)) (next_literal (literal_from start (n + 1 + length (items y) + 1 + length (items z))))
                (literal_from start (n + (3 + (body_length y + body_length z)))) (omega arith) (omega arith) last.0.kind last.0.other,
          )

      items-stand : (b : Body) (n q : ℕ) → Records ss sh code start n q (items b) → WordsAt nodes q (body_nodes ss b) → T (body_loadable ss b) → EachLimited b → ItemsLoaded ss sh nodes code start n b
      items-stand done n q r h k s = tt
      items-stand (also x b) n q r h k s =
          let ok : T (literal_loadable ss x) × T (body_loadable ss b) = both (literal_loadable ss x) (body_loadable ss b) k in
          let m : length (literal_items x) ≡ literal_length x = literal-many x in
          let l : length (items_nodes ss (literal_items x)) ≡ length (literal_nodes ss x) = ap length (literal-items ss x) in (
            literal-stands x n q (records-left n q (literal_items x) (items b) r) (has_left nodes q (literal_nodes ss x) (body_nodes ss b) h) ok.0 s.0,
            items-stand b (n + literal_length x) (q + length (literal_nodes ss x))
                (records-at (n + length (literal_items x)) (n + literal_length x) (q + length (items_nodes ss (literal_items x))) (q + length (literal_nodes ss x)) (items b) (omega arith) (omega arith) (records-right n q (literal_items x) (items b) r))
                (has_right nodes q (literal_nodes ss x) (body_nodes ss b) h) ok.1 s.1,
          )

    pub body-stands : (q : ℕ) (b : Body) → Written ss sh code start q b → WordsAt nodes q (body_nodes ss b) → T (body_loadable ss b) → EachLimited b → BodyLoaded ss sh nodes code start b
    body-stands q b w h k s =
        let r : next_literal (literal_from start (body_length b)) ≤ length code = w.room in
        record { room = omega arith; items = items-stand b 0 q w.records h k s; ends = w.ends }

module _ (ss : List Symbol) where
  pub heads-long : (q : ℕ) (cls : List Clause) (code : List ℕ) (k : ℕ) → length (put_heads ss q cls code k) ≡ length code
  unfolding put_heads
  heads-long q [] code k = refl
  heads-long q (cl ∷ cls) code k = heads-long (q + length (clause_nodes ss cl)) cls (set code (clause_record k) q) (k + 1) ∙ simp length-set

  heads-below : (q : ℕ) (cls : List Clause) (code : List ℕ) (k i : ℕ) → i < clause_record k → get_or (put_heads ss q cls code k) i 0 ≡ get_or code i 0
  unfolding put_heads
  heads-below q [] code k i l = refl
  heads-below q (cl ∷ cls) code k i l =
      heads-below (q + length (clause_nodes ss cl)) cls (set code (clause_record k) q) (k + 1) i (omega arith) ∙ get_or-set_other code (clause_record k) i q 0 (λ e. omega arith)

  pub heads-written : (nodes : List ℕ) (q : ℕ) (cls : List Clause) (code : List ℕ) (k : ℕ) → WordsAt nodes q (clauses_nodes ss cls) → T (clauses_loadable ss cls) → ClausesLimited cls
      → k + length cls ≤ program_clauses + 1 → bodies ≤ length code → HeadsLoaded ss nodes (put_heads ss q cls code k) k cls
  unfolding put_heads clauses_nodes clauses_loadable clause_nodes
  heads-written nodes q [] code k h t s l r = tt
  heads-written nodes q (cl ∷ cls) code k h t s l r =
      let z : k + suc (length cls) ≤ program_clauses + 1 = l in
      let n : length (set code (clause_record k) q) ≡ length code = simp length-set in
      let oks : T (is_loadable ss (term_of cl.head) && body_loadable ss cl.body) × T (clauses_loadable ss cls) = both (is_loadable ss (term_of cl.head) && body_loadable ss cl.body) (clauses_loadable ss cls) t in
      let ok : T (is_loadable ss (term_of cl.head)) × T (body_loadable ss cl.body) = both (is_loadable ss (term_of cl.head)) (body_loadable ss cl.body) oks.0 in
      let first : WordsAt nodes q (clause_nodes ss cl) = has_left nodes q (clause_nodes ss cl) (clauses_nodes ss cls) h in
      let e : get_or (put_heads ss (q + length (clause_nodes ss cl)) cls (set code (clause_record k) q) (k + 1)) (clause_record k) 0 ≡ q =
      heads-below (q + length (clause_nodes ss cl)) cls (set code (clause_record k) q) (k + 1) (clause_record k) (omega arith) ∙ get_or-set_same code (clause_record k) q 0 (omega arith) in (
        subst⁻¹ (λ (i : ℕ). TermLoaded ss nodes i (term_of cl.head)) e (record { words = has_left nodes q (loaded_words ss (term_of cl.head)) (body_nodes ss cl.body) first; loadable = ok.0; shallow = s.0.head }),
        heads-written nodes (q + length (clause_nodes ss cl)) cls (set code (clause_record k) q) (k + 1) (has_right nodes q (clause_nodes ss cl) (clauses_nodes ss cls) h) oks.1 s.1 (omega arith) (omega arith),
      )

-- ---- clauses

-- a clause of number k stands, all but its head; its body begins at l
pub record BodyPart (ss : List Symbol) (sh : Sheet) (nodes code : List ℕ) (k : ℕ) (cl : Clause) (l : ℕ) : Type 0 where
  pub at : body_at code k ≡ l
  pub node : ℕ
  pub body : Written ss sh code l node cl.body
  pub stand : WordsAt nodes node (body_nodes ss cl.body)
  pub loadable : T (body_loadable ss cl.body)
  pub limited : EachLimited cl.body
  pub after : after_at code k ≡ next_for sh cl.head k

-- The clauses from number k on, whose bodies begin at l, leave the words of those before: their records, and their bodies; and the places of all heads.
pub record Kept (code new : List ℕ) (k l : ℕ) : Type 0 where
  pub long : length new ≡ length code
  pub records : (i : ℕ) → i < clause_record k → get_or new i 0 ≡ get_or code i 0
  pub bodies : (i : ℕ) → bodies ≤ i → i < l → get_or new i 0 ≡ get_or code i 0
  pub heads : SameHeads code new

module _ (ss : List Symbol) (sh : Sheet) where
  pub clause-kept : (q : ℕ) (cl : Clause) (code : List ℕ) (k l : ℕ) → k ≤ program_clauses → bodies ≤ l → Kept code (put_clause ss sh q cl code k l) k l
  unfolding put_clause
  clause-kept q cl code k l few low =
      let node : ℕ = q + length (loaded_words ss (term_of cl.head)) in
      let next : ℕ = next_for sh cl.head k in
      let paired : List ℕ = put_pair code (clause_record k + 1) l next in
      record {
        long = body-long ss sh node (items cl.body) paired l ∙ pair-long code (clause_record k + 1) l next;
        records = λ i u. body_below ss sh node (items cl.body) paired l i (omega arith)
            ∙ pair-other code (clause_record k + 1) l next i (λ e. omega arith) (λ e. omega arith);
        bodies = λ i a u. body_below ss sh node (items cl.body) paired l i u
            ∙ pair-other code (clause_record k + 1) l next i (λ e. omega arith) (λ e. omega arith);
        heads = λ j u. body-heads ss sh node (items cl.body) paired l low j u ∙ pair-heads code k l next j u;
      }

  pub clauses-kept : (q : ℕ) (cls : List Clause) (code : List ℕ) (k l : ℕ) → k + length cls ≤ program_clauses + 1 → bodies ≤ l → Kept code (put_clauses ss sh q cls code k l) k l
  unfolding put_clauses
  clauses-kept q [] code k l many low = record { long = refl; records = λ i u. refl; bodies = λ i a u. refl; heads = λ j u. refl }
  clauses-kept q (cl ∷ cls) code k l many low =
      let z : k + suc (length cls) ≤ program_clauses + 1 = many in
      let new : List ℕ = put_clause ss sh q cl code k l in
      let one : Kept code new k l = clause-kept q cl code k l (omega arith) low in
      let more : Kept new (put_clauses ss sh (q + length (clause_nodes ss cl)) cls new (k + 1) (behind_body l cl.body)) (k + 1) (behind_body l cl.body) =
      clauses-kept (q + length (clause_nodes ss cl)) cls new (k + 1) (behind_body l cl.body) (omega arith) (omega arith) in
      record {
        long = more.long ∙ one.long;
        records = λ i u. more.records i (omega arith) ∙ one.records i u;
        bodies = λ i a u. more.bodies i a (omega arith) ∙ one.bodies i a u;
        heads = λ j u. more.heads j u ∙ one.heads j u;
      }

  module _ (nodes : List ℕ) where
    clause-written : (q : ℕ) (cl : Clause) (code : List ℕ) (k l : ℕ) → k ≤ program_clauses → WordsAt nodes q (clause_nodes ss cl) → T (body_loadable ss cl.body) → EachLimited cl.body → bodies ≤ l
        → behind_body l cl.body ≤ length code → BodyPart ss sh nodes (put_clause ss sh q cl code k l) k cl l
    unfolding put_clause clause_nodes
    clause-written q cl code k l few h t s low room =
        let node : ℕ = q + length (loaded_words ss (term_of cl.head)) in
        let next : ℕ = next_for sh cl.head k in
        let paired : List ℕ = put_pair code (clause_record k + 1) l next in
        let n : length paired ≡ length code = pair-long code (clause_record k + 1) l next in
        record {
          at = body_below ss sh node (items cl.body) paired l (clause_record k + 1) (omega arith) ∙ pair-first code (clause_record k + 1) l next (omega arith);
          node = node;
          body = body-written ss sh l node cl.body paired (omega arith);
          stand = has_right nodes q (loaded_words ss (term_of cl.head)) (body_nodes ss cl.body) h;
          loadable = t;
          limited = s;
          after = body_below ss sh node (items cl.body) paired l (clause_record k + 2) (omega arith)
              ∙ subst (λ (i : ℕ). get_or paired i 0 ≡ next) (let e : clause_record k + 1 + 1 ≡ clause_record k + 2 = omega arith in e) (pair-second code (clause_record k + 1) l next (omega arith));
        }

    part-kept : (code new : List ℕ) (k : ℕ) (cl : Clause) (l : ℕ) → k ≤ program_clauses → bodies ≤ l → Kept code new (k + 1) (behind_body l cl.body) → BodyPart ss sh nodes code k cl l → BodyPart ss sh nodes new k cl l
    part-kept code new k cl l few low s w = record {
      at = s.records (clause_record k + 1) (omega arith) ∙ w.at;
      node = w.node;
      body = body_kept ss sh l code new w.node cl.body s.long (λ i a u. s.bodies i (omega arith) (omega arith)) w.body;
      stand = w.stand;
      loadable = w.loadable;
      limited = w.limited;
      after = s.records (clause_record k + 2) (omega arith) ∙ w.after;
    }

    -- every clause stands somewhere, all but its head
    pub clauses-written : (q : ℕ) (cls : List Clause) (code : List ℕ) (k l : ℕ) → WordsAt nodes q (clauses_nodes ss cls) → T (clauses_loadable ss cls) → ClausesLimited cls → k + length cls ≤ program_clauses + 1 → bodies ≤ l
        → literal_from l (body_records cls) ≤ length code → (n : ℕ) (cl : Clause) → nth_clause cls n ≡ some cl → (place : ℕ) × BodyPart ss sh nodes (put_clauses ss sh q cls code k l) (k + n) cl place
    unfolding put_clauses clauses_nodes clauses_loadable body_records nth_clause
    clauses-written q [] code k l h t s many low r n cl e = absurd (some-none cl (sym e))
    clauses-written q (c ∷ cls) code k l h t s many low r zero cl e =
        let z : k + suc (length cls) ≤ program_clauses + 1 = many in
        let room : literal_from l (suc (body_length c.body) + body_records cls) ≤ length code = r in
        let oks : T (is_loadable ss (term_of c.head) && body_loadable ss c.body) × T (clauses_loadable ss cls) = both (is_loadable ss (term_of c.head) && body_loadable ss c.body) (clauses_loadable ss cls) t in
        let ok : T (is_loadable ss (term_of c.head)) × T (body_loadable ss c.body) = both (is_loadable ss (term_of c.head)) (body_loadable ss c.body) oks.0 in
        let new : List ℕ = put_clause ss sh q c code k l in
        let whole : List ℕ = put_clauses ss sh (q + length (clause_nodes ss c)) cls new (k + 1) (behind_body l c.body) in
        let first : BodyPart ss sh nodes new k c l = clause-written q c code k l (omega arith) (has_left nodes q (clause_nodes ss c) (clauses_nodes ss cls) h) ok.1 s.0.body.each low (omega arith) in
        let kept : BodyPart ss sh nodes whole k c l =
        part-kept new whole k c l (omega arith) low (clauses-kept (q + length (clause_nodes ss c)) cls new (k + 1) (behind_body l c.body) (omega arith) (omega arith)) first in (
          l,
          subst (λ (x : Clause). BodyPart ss sh nodes whole (k + 0) x l) (some-eq c cl e) (subst (λ (i : ℕ). BodyPart ss sh nodes whole i c l) (let y : k ≡ k + 0 = omega arith in y) kept),
        )
    clauses-written q (c ∷ cls) code k l h t s many low r (suc n) cl e =
        let z : k + suc (length cls) ≤ program_clauses + 1 = many in
        let room : literal_from l (suc (body_length c.body) + body_records cls) ≤ length code = r in
        let new : List ℕ = put_clause ss sh q c code k l in
        let m : length new ≡ length code = (clause-kept q c code k l (omega arith) low).long in
        let oks : T (is_loadable ss (term_of c.head) && body_loadable ss c.body) × T (clauses_loadable ss cls) = both (is_loadable ss (term_of c.head) && body_loadable ss c.body) (clauses_loadable ss cls) t in
        let next : (place : ℕ) × BodyPart ss sh nodes (put_clauses ss sh (q + length (clause_nodes ss c)) cls new (k + 1) (behind_body l c.body)) (k + 1 + n) cl place =
        clauses-written (q + length (clause_nodes ss c)) cls new (k + 1) (behind_body l c.body) (has_right nodes q (clause_nodes ss c) (clauses_nodes ss cls) h) oks.1 s.1 (omega arith) (omega arith) (omega arith) n cl e in (
          next.0,
          subst (λ (i : ℕ). BodyPart ss sh nodes (put_clauses ss sh (q + length (clause_nodes ss c)) cls new (k + 1) (behind_body l c.body)) i cl next.0) (let y : k + 1 + n ≡ k + suc n = omega arith in y) next.1,
        )
