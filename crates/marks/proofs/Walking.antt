-- Laws of brackets and bodies in a table, one for each way out of the functions. Assumes nothing.
use Prim.Native.Nat.{ℕ, suc, ◌+◌, ◌≤◌, ◌<◌}
use native.Mathlib.Omega.{arith}
use mathlib.Core.Path.{◌≡◌, refl, sym, ap, ◌∙◌, subst, subst⁻¹}
use mathlib.Core.List.{List, [], ◌∷◌, ◌++◌}
use lib.ListN.{length, get_or, length-append}
use Rattle.syntax.specs.Terms.{Literal, Body, call, equation, truth, falsity, either, done, also, literals_in, literals_of, Declaration}
use Rattle.syntax.specs.Words.{literal_words, body_words, literal_length, body_length, side_words, side_items, left_kind, right_kind, behind_kind}
use Rattle.syntax.proofs.Words.{marker-items}
use Rattle.mode_rules.specs.Modes.{Known, Walk, known, walk_on, in_both, literal_walk, body_fault}
use Rattle.marks.specs.Spelt.{BodySpelt, also_stands}
use Rattle.words.specs.Tables.{WordsAt}
use Rattle.marks.specs.Tables.{LiteralAt, BodyAt}
use Rattle.std.specs.Prelude.{Result, Ok, Err}
use Rattle.syntax.specs.declared.Refusal.{Refusal}
use Rattle.marks.specs.LiteralsAnswers.{walk_by, WalkPassed, PastLiteral, PastBody}
use Rattle.marks.specs.Sides.{SideAt}
use Rattle.marks.specs.declared.literals.Passed.{Passed}
use Rattle.words.proofs.TablesLaws.{has_left, has_right, has-inside}
use Rattle.marks.proofs.LiteralsLaws.{passes-ok, passes-err, View, view_truth, view_falsity, view_call, view_equation, view_either, view}

-- ---- answers

goes_by : {r : Result Passed Refusal} {x : Passed} {w : Walk} (rest : Known → Walk) → walk_by r ≡ w → r ≡ Ok x → walk_on w rest ≡ rest x.known
unfolding walk_on
goes_by rest e t = ap (λ (z : Walk). walk_on z rest) (sym e ∙ ap walk_by t)

-- a walk that stops at a fault of its first part
stopped : {r : Result Passed Refusal} {q : Refusal} {w : Walk} {next items literal : ℕ} (rest : Known → Walk) → r ≡ Err q → WalkPassed r w next items literal
    → (whole : Walk) → whole ≡ walk_on w rest → (stop all last : ℕ) → WalkPassed (Err q) whole stop all last
unfolding walk_on
stopped {r} {q} {w} rest t p whole e stop all last =
    passes-err q stop all last (ap (λ (z : Walk). walk_on z rest) (ap walk_by (sym t) ∙ p.walk) ∙ sym e)

-- ---- how many literals, items and words

pub record Sizes (literals items words : ℕ) : Type 0 where
  pub numbered : literals ≤ items
  pub worded : items ≤ words

mutual
  unfolding literals_in literal_length literal_words

  pub literal-sizes : (x : Literal) → Sizes (literals_in x) (literal_length x) (length (literal_words x))
  literal-sizes (call a) = record { numbered = omega arith; worded = omega arith }
  literal-sizes (equation t u) = record { numbered = omega arith; worded = omega arith }
  literal-sizes truth = record { numbered = omega arith; worded = omega arith }
  literal-sizes falsity = record { numbered = omega arith; worded = omega arith }
  literal-sizes (either y z) =
      let ys : Sizes (literals_of y) (body_length y) (length (body_words y)) = body-sizes y in
      let zs : Sizes (literals_of z) (body_length z) (length (body_words z)) = body-sizes z in
      let l : length (side_words left_kind y ++ (side_words right_kind z ++ (behind_kind ∷ []))) ≡ length (side_words left_kind y) + length (side_words right_kind z ++ (behind_kind ∷ [])) =
      length-append (side_words left_kind y) (side_words right_kind z ++ (behind_kind ∷ [])) in
      let r : length (side_words right_kind z ++ (behind_kind ∷ [])) ≡ length (side_words right_kind z) + 1 = length-append (side_words right_kind z) (behind_kind ∷ []) in
      record { numbered = omega (arith, ys.numbered, zs.numbered); worded = omega (arith, ys.worded, zs.worded) }

  pub body-sizes : (b : Body) → Sizes (literals_of b) (body_length b) (length (body_words b))
  body-sizes done = record { numbered = omega arith; worded = omega arith }
  body-sizes (also x b) =
      let xs : Sizes (literals_in x) (literal_length x) (length (literal_words x)) = literal-sizes x in
      let bs : Sizes (literals_of b) (body_length b) (length (body_words b)) = body-sizes b in
      let l : length (literal_words x ++ body_words b) ≡ length (literal_words x) + length (body_words b) = length-append (literal_words x) (body_words b) in
      record { numbered = omega (arith, xs.numbered, bs.numbered); worded = omega (arith, xs.worded, bs.worded) }

literal-some : (x : Literal) → 1 ≤ literal_length x
unfolding literal_length
literal-some (call a) = omega arith
literal-some (equation t u) = omega arith
literal-some truth = omega arith
literal-some falsity = omega arith
literal-some (either y z) = omega arith

-- ---- a bracket

-- the literal at p is a bracket
pub record EitherAt (g table : List ℕ) (p : ℕ) (l : Literal) : Type 0 where
  pub left : SideAt g table p
  pub right : SideAt g table (p + 1 + length (body_words left.body))
  pub is : l ≡ either left.body right.body
  pub words : length (literal_words l) ≡ 3 + (length (body_words left.body) + length (body_words right.body))
  pub room : p + length (literal_words l) ≤ length table

either-by : {g table : List ℕ} {p : ℕ} {l : Literal} → left_kind ≤ get_or table p 0 → View g table p l → EitherAt g table p l
unfolding literal_words
either-by s (view_truth q) = absurd (omega arith)
either-by s (view_falsity q) = absurd (omega arith)
either-by s (view_call q h k) = absurd (omega arith)
either-by s (view_equation q ht hu kt ku) = absurd (omega arith)
either-by {g} {table} {p} s (view_either {y} {z} q h ky kz) =
    let m : length (side_words left_kind y) ≡ suc (length (body_words y)) = refl in
    let a : length (side_words left_kind y ++ (side_words right_kind z ++ (behind_kind ∷ []))) ≡ length (side_words left_kind y) + length (side_words right_kind z ++ (behind_kind ∷ [])) =
    length-append (side_words left_kind y) (side_words right_kind z ++ (behind_kind ∷ [])) in
    let b : length (side_words right_kind z ++ (behind_kind ∷ [])) ≡ length (side_words right_kind z) + 1 = length-append (side_words right_kind z) (behind_kind ∷ []) in
    let r : WordsAt table (p + length (side_words left_kind y)) (side_words right_kind z ++ (behind_kind ∷ [])) =
    has_right table p (side_words left_kind y) (side_words right_kind z ++ (behind_kind ∷ [])) h in
    let at : p + length (side_words left_kind y) ≡ p + 1 + length (body_words y) = omega arith in
    record {
      left = record { body = y; kind = left_kind; small = omega arith; has = has_left table p (side_words left_kind y) (side_words right_kind z ++ (behind_kind ∷ [])) h; stands = ky };
      right = record {
        body = z;
        kind = right_kind;
        small = omega arith;
        has = subst (λ (k : ℕ). WordsAt table k (side_words right_kind z)) at (has_left table (p + length (side_words left_kind y)) (side_words right_kind z) (behind_kind ∷ []) r);
        stands = kz;
      };
      is = refl;
      words = omega arith;
      room = has-inside table p (literal_words (either y z)) h (omega arith);
    }

module _ {g table : List ℕ} {p : ℕ} (s : left_kind ≤ get_or table p 0) where
  pub either-at : (w : LiteralAt g table p) → EitherAt g table p w.literal
  either-at w = either-by s (view w)

  abbrev left_of : LiteralAt g table p → Body
  left_of w = (either-at w).left.body

  abbrev right_of : LiteralAt g table p → Body
  right_of w = (either-at w).right.body

  module _ (ds : List Declaration) (c literal : ℕ) (τ : Known) {lr : Result Passed Refusal} (el : (u : SideAt g table p) → PastBody lr ds c literal τ (p + 1) u.body) where
    left-passes : (w : LiteralAt g table p) → PastBody lr ds c literal τ (p + 1) (left_of w)
    left-passes w = el (either-at w).left

    from-left : (w : LiteralAt g table p) → literal_walk ds c literal τ w.literal
        ≡ walk_on (body_fault ds c literal τ (left_of w)) (λ σ. walk_on (body_fault ds c (literals_of (left_of w) + literal) τ (right_of w)) (λ ρ. known (in_both σ ρ)))
    unfolding literal_walk
    from-left w = ap (literal_walk ds c literal τ) (either-at w).is

    -- the left side has a fault
    pub left-stops : {q : Refusal} → lr ≡ Err q → (w : LiteralAt g table p) → PastLiteral (Err q) ds c literal τ p w.literal
    left-stops t w = stopped _ t (left-passes w) (literal_walk ds c literal τ w.literal) (from-left w) _ _ _

    module _ {l : Passed} (f : lr ≡ Ok l) where
      -- the right side begins where the left one ends
      pub right-at : LiteralAt g table p → SideAt g table l.next
      right-at w = subst⁻¹ (SideAt g table) ((left-passes w).next_is l f) (either-at w).right

      pub right-literal : (w : LiteralAt g table p) → literal ≤ p + 1 → l.literal ≤ l.next + 1
      right-literal w k =
          let q : PastBody lr ds c literal τ (p + 1) (left_of w) = left-passes w in
          omega (arith, q.next_is l f, q.literal_is l f, (body-sizes (left_of w)).numbered, (body-sizes (left_of w)).worded)

      pub right-further : LiteralAt g table p → p < l.next
      right-further w = omega (arith, (left-passes w).next_is l f)

      module _ {rr : Result Passed Refusal} (er : (u : SideAt g table l.next) → PastBody rr ds c l.literal τ (l.next + 1) u.body) where
        abbrev RightPasses : LiteralAt g table p → Type 0
        RightPasses w = PastBody rr ds c (literals_of (left_of w) + literal) τ (p + 1 + length (body_words (left_of w)) + 1) (right_of w)

        abbrev RightAt : ℕ → ℕ → Type 0
        RightAt next number = (u : SideAt g table next) → PastBody rr ds c number τ (next + 1) u.body

        right-passes : (w : LiteralAt g table p) → RightPasses w
        right-passes w =
            subst (λ (k : ℕ). RightAt (p + 1 + length (body_words (left_of w))) k) ((left-passes w).literal_is l f)
            (subst (λ (k : ℕ). RightAt k l.literal) ((left-passes w).next_is l f) er) (either-at w).right

        from-right : (w : LiteralAt g table p) → literal_walk ds c literal τ w.literal
            ≡ walk_on (body_fault ds c (literals_of (left_of w) + literal) τ (right_of w)) (λ ρ. known (in_both l.known ρ))
        from-right w = from-left w ∙ goes_by _ (left-passes w).walk f

        -- the right side has a fault
        pub right-stops : {q : Refusal} → rr ≡ Err q → (w : LiteralAt g table p) → PastLiteral (Err q) ds c literal τ p w.literal
        right-stops t w = stopped _ t (right-passes w) (literal_walk ds c literal τ w.literal) (from-right w) _ _ _

        module _ {r : Passed} (h : rr ≡ Ok r) where
          -- neither has one
          pub both-pass : {both : Known} → both ≡ in_both l.known r.known → (w : LiteralAt g table p)
              → PastLiteral (Ok (record { known = both; next = r.next + 1; items = l.items + r.items + 3; literal = r.literal })) ds c literal τ p w.literal
          unfolding literal_length literals_in
          both-pass e w =
              let q : EitherAt g table p w.literal = either-at w in
              let k : RightPasses w = right-passes w in
              let items : literal_length w.literal ≡ 3 + (body_length (left_of w) + body_length (right_of w)) = ap literal_length q.is in
              let literals : literals_in w.literal ≡ literals_of (left_of w) + literals_of (right_of w) = ap literals_in q.is in
              passes-ok _ (ap known e ∙ sym (from-right w ∙ goes_by (λ ρ. known (in_both l.known ρ)) k.walk h))
              (omega (arith, k.next_is r h, q.words))
              (omega (arith, (left-passes w).items_are l f, k.items_are r h))
              (omega (arith, k.literal_is r h))

          pub both-room : (w : LiteralAt g table p) → (r.next < length table) × (l.items + r.items + 3 ≤ length table)
          both-room w =
              let q : EitherAt g table p w.literal = either-at w in
              let k : RightPasses w = right-passes w in
              let a : body_length (left_of w) ≤ length (body_words (left_of w)) = (body-sizes (left_of w)).worded in
              let b : body_length (right_of w) ≤ length (body_words (right_of w)) = (body-sizes (right_of w)).worded in
              (omega (arith, k.next_is r h, q.words, q.room), omega (arith, (left-passes w).items_are l f, k.items_are r h, q.words, q.room))

-- a side of a bracket, by the word before it
module _ {g table : List ℕ} {p items : ℕ} (e : items ≡ side_items (get_or table p 0)) where
  pub side-items : (w : SideAt g table p) → items ≡ body_length w.body
  side-items w = e ∙ ap side_items w.has.1 ∙ marker-items w.kind (body_length w.body) w.small

  abbrev pub side-body : SideAt g table p → BodyAt g table (p + 1) items
  side-body w = record { body = w.body; has = w.has.2; count = side-items w; stands = w.stands }

-- ---- refusal 9 along a body or a side

-- what is left of it, behind i items, at a place before the literal of that number, with what is known there; it ends at stop, before the literal last
pub record Ahead (ds : List Declaration) (c : ℕ) (g table : List ℕ) (at i items number : ℕ) (τ : Known) (whole : Walk) (stop last : ℕ) : Type 0 where
  pub body : Body
  pub has : WordsAt table at (body_words body)
  pub count : items ≡ i + body_length body
  pub stands : BodySpelt g body
  pub same : whole ≡ body_fault ds c number τ body
  pub ends : at + length (body_words body) ≡ stop
  pub numbers : literals_of body + number ≡ last

-- the first literal and the others
pub record Turn (g table : List ℕ) (at i items : ℕ) (b : Body) : Type 0 where
  pub literal : LiteralAt g table at
  pub left : Body
  pub is : b ≡ also literal.literal left
  pub has : WordsAt table (at + length (literal_words literal.literal)) (body_words left)
  pub count : items ≡ i + literal_length literal.literal + body_length left
  pub some : 1 ≤ literal_length literal.literal
  pub stands : BodySpelt g left

turn_by : (g table : List ℕ) (at i items : ℕ) (b : Body) → i < items → WordsAt table at (body_words b) → items ≡ i + body_length b → BodySpelt g b → Turn g table at i items b
unfolding body_words body_length
turn_by g table at i items done l h c k = absurd (omega arith)
turn_by g table at i items (also x b) l h c (also_stands k ks) = record {
  literal = record { literal = x; has = has_left table at (literal_words x) (body_words b) h; stands = k };
  left = b;
  is = refl;
  has = has_right table at (literal_words x) (body_words b) h;
  count = omega arith;
  some = literal-some x;
  stands = ks;
}

over : (i items : ℕ) (b : Body) → items ≤ i → items ≡ i + body_length b → b ≡ done
unfolding body_length
over i items done l c = refl
over i items (also x b) l c = absurd (omega (arith, literal-some x))

pub begun : {ds : List Declaration} {c literal : ℕ} {τ : Known} {g table : List ℕ} {p items : ℕ} (w : BodyAt g table p items)
    → Ahead ds c g table p 0 items literal τ (body_fault ds c literal τ w.body) (p + length (body_words w.body)) (literals_of w.body + literal)
begun w = record { body = w.body; has = w.has; count = omega (arith, w.count); stands = w.stands; same = refl; ends = refl; numbers = refl }

module _ {ds : List Declaration} {c : ℕ} {g table : List ℕ} {at i items number : ℕ} {τ : Known} {whole : Walk} {stop last : ℕ} where
  pub walk-ended : {many : ℕ} → items ≡ many → items ≤ i → Ahead ds c g table at i items number τ whole stop last
      → WalkPassed (Ok (record { known = τ; next = at; items = items; literal = number })) whole stop many last
  unfolding body_fault body_words literals_of
  walk-ended m l a =
      let d : a.body ≡ done = over i items a.body l a.count in
      let none_left : length (body_words a.body) ≡ 0 = ap (λ (b : Body). length (body_words b)) d in
      let no_number : literals_of a.body ≡ 0 = ap literals_of d in
      passes-ok _ (sym (a.same ∙ ap (body_fault ds c number τ) d)) (omega (arith, a.ends)) m (omega (arith, a.numbers))

  module _ (l : i < items) (a : Ahead ds c g table at i items number τ whole stop last) where
    pub turn : Turn g table at i items a.body
    turn = turn_by g table at i items a.body l a.has a.count a.stands

    abbrev here : Literal
    here = turn.literal.literal

    whole_is : whole ≡ walk_on (literal_walk ds c number τ here) (λ σ. body_fault ds c (literals_in here + number) σ turn.left)
    unfolding body_fault
    whole_is = a.same ∙ ap (body_fault ds c number τ) turn.is

    module _ {wr : Result Passed Refusal} (ew : (u : LiteralAt g table at) → PastLiteral wr ds c number τ at u.literal) where
      pub walk-stopped : {q : Refusal} → wr ≡ Err q → (next count after : ℕ) → WalkPassed (Err q) whole next count after
      walk-stopped t next count after = stopped _ t (ew turn.literal) whole whole_is next count after

      module _ {w : Passed} (f : wr ≡ Ok w) where
        -- how far it goes
        pub further-on : (w.next ≡ at + length (literal_words here)) × (w.literal ≡ literals_in here + number)
            × (i < i + w.items) × (i + w.items ≤ items)
        further-on =
            let q : PastLiteral wr ds c number τ at here = ew turn.literal in
            (q.next_is w f, q.literal_is w f, omega (arith, q.items_are w f, turn.some), omega (arith, q.items_are w f, turn.count))

        -- the place and the number rise together
        pub rises : number ≤ at + 1 → (w.literal ≤ w.next + 1) × (at ≤ w.next)
        rises k =
            let s : Sizes (literals_in here) (literal_length here) (length (literal_words here)) = literal-sizes here in
            (omega (arith, further-on.0, further-on.1, s.numbered, s.worded), omega (arith, further-on.0))

        pub walk-on : Ahead ds c g table w.next (i + w.items) items w.literal w.known whole stop last
        unfolding body_words literals_of
        walk-on =
            let t : Turn g table at i items a.body = turn in
            let q : PastLiteral wr ds c number τ at here = ew t.literal in
            let long : length (literal_words here ++ body_words t.left) ≡ length (literal_words here) + length (body_words t.left) =
            length-append (literal_words here) (body_words t.left) in
            let words : length (body_words a.body) ≡ length (literal_words here ++ body_words t.left) = ap (λ (b : Body). length (body_words b)) t.is in
            let literals : literals_of a.body ≡ literals_in here + literals_of t.left = ap literals_of t.is in
            record {
              body = t.left;
              has = subst⁻¹ (λ (k : ℕ). WordsAt table k (body_words t.left)) (q.next_is w f) t.has;
              count = omega (arith, t.count, q.items_are w f);
              stands = t.stands;
              same =
                  whole_is
                  ∙ goes_by (λ σ. body_fault ds c (literals_in here + number) σ t.left) q.walk f
                  ∙ ap (λ (k : ℕ). body_fault ds c k w.known t.left) (sym (q.literal_is w f));
              ends = omega (arith, q.next_is w f, a.ends);
              numbers = omega (arith, q.literal_is w f, a.numbers);
            }
