-- The names of what reading accepts have no line feed: they are spellings of tokens. By the induction over reading. Assumes nothing.
use Prim.Native.Nat.{ℕ, suc, ◌+◌}
use native.Mathlib.Omega.{arith}
use mathlib.Core.Path.{◌≡◌, refl, sym, ap, ◌∙◌, subst}
use mathlib.Core.Bool.{Bool, true, false, cond}
use mathlib.Core.List.{List, [], ◌∷◌, ◌++◌}
use lib.Dec.{eqb}
use lib.ListN.{take, drop}
use lib.Seq.{drop-drop}
use borrow.Author.Tests.{eqb-true}
use Rattle.syntax.specs.Bytes.{class_of, in_word, in_numeral}
use Rattle.syntax.specs.declared.TokenKind.{TokenKind}
use Rattle.syntax.specs.declared.Class.{Class}
use Rattle.syntax.specs.declared.Class.TheVariants.{Nothing, Blank, Percent, Lower, Upper, Digit, Colon, Single}
use Rattle.syntax.specs.Tokens.{name_kind, variable_kind, numeral_kind, Gap, outside, in_comment, Move, on, at_token, move_of, skipped, run_length, word, dash_first, token_of_class, token_from, token_place, token_at, spelling}
use Rattle.syntax.specs.Numerals.{zero_digit, trimmed}
use Rattle.syntax.specs.Terms.{Term, Terms, variable, compound, nil, cons, term_of, Literal, call, equation, truth, falsity, either, Body, done, also, Clause, Sheet, Goal}
use Rattle.syntax.specs.Reading.{Cursor, spelt, cursor_at, next, with_new, at_start}
use Rattle.syntax.specs.Verdicts.{accepted}
use Rattle.syntax.proofs.Induction.{Kept, sheet-read, goal_read}
use Rattle.mode_rules.specs.Checking.{checked_with, checked_goal}
use Rattle.mode_theorems.proofs.Accepting.{checked-sheet, checked-goal}
use Rattle.words.specs.Feeds.{feeds}
use Rattle.words.proofs.Feeding.{feedless-rest, feedless-cons}

-- ---- tokens

-- the first byte is no line feed
abbrev Starts : List ℕ → Type 0
Starts [] = Unit {0}
Starts (b ∷ s) = b ≡ 10 → ⊥

-- a token does not begin with a line feed, which is a blank
not-blank : (b : ℕ) → move_of outside b ≡ at_token → b ≡ 10 → ⊥
not-blank b e f = let z : on outside ≡ at_token = subst (λ (x : ℕ). move_of outside x ≡ at_token) f e in let y : ◌≡◌ {A = ℕ} 0 1 = cc in omega arith

not-in-comment : (b : ℕ) → move_of in_comment b ≡ at_token → ⊥
not-in-comment b e = go (eqb b 10) e
  where
    go : (t : Bool) → cond t (on outside) (on in_comment) ≡ at_token → ⊥
    go true h = let y : ◌≡◌ {A = ℕ} 0 1 = cc in omega arith
    go false h = let y : ◌≡◌ {A = ℕ} 0 1 = cc in omega arith

skipped-starts : (g : Gap) (s : List ℕ) → Starts (drop (skipped g s) s)
unfolding skipped
skipped-starts g [] = tt
skipped-starts g (b ∷ s) = go (move_of g b) refl (λ h. skipped-starts h s)
  where
    here : (h : Gap) → move_of h b ≡ at_token → b ≡ 10 → ⊥
    here outside e = not-blank b e
    here in_comment e = absurd (not-in-comment b e)

    go : (m : Move) → move_of g b ≡ m → ((h : Gap) → Starts (drop (skipped h s) s))
        → Starts (drop (elim m as (λ _. ℕ) [ on h ↦ suc (skipped h s) | at_token ↦ 0 ]) (b ∷ s))
    go (on h) e k = k h
    go at_token e k = here g e

-- bytes that pass a test which the line feed does not
run-feedless : (f : ℕ → Bool) → f 10 ≡ false → (s : List ℕ) → feeds (take (run_length f s) s) ≡ 0
unfolding run_length feeds
run-feedless f n [] = refl
run-feedless f n (b ∷ s) = go (f b) refl (run-feedless f n s)
  where
    go : (t : Bool) → f b ≡ t → feeds (take (run_length f s) s) ≡ 0
        → feeds (take (elim t as (λ _. ℕ) [ true ↦ suc (run_length f s) | false ↦ 0 ]) (b ∷ s)) ≡ 0
    go true e h = feedless-cons b (take (run_length f s) s) (λ q. let z : true ≡ false = sym e ∙ ap f q ∙ n in let y : ◌≡◌ {A = ℕ} 0 1 = cc in omega arith) h
    go false e h = refl

one-feedless : (b : ℕ) (s : List ℕ) → (b ≡ 10 → ⊥) → feeds (take 1 (b ∷ s)) ≡ 0
unfolding feeds
one-feedless b s h = feedless-cons b [] h refl

word-feedless : (kind : TokenKind) (at b : ℕ) (f : ℕ → Bool) → f 10 ≡ false → (s : List ℕ) → (b ≡ 10 → ⊥)
    → feeds (take (word kind at (suc (run_length f s))).len (b ∷ s)) ≡ 0
unfolding word
word-feedless kind at b f n s h = feedless-cons b (take (run_length f s) s) h (run-feedless f n s)

neck-feedless : (b : ℕ) (s : List ℕ) → (b ≡ 10 → ⊥) → feeds (take (cond (dash_first s) 2 1) (b ∷ s)) ≡ 0
unfolding dash_first
neck-feedless b [] h = one-feedless b [] h
neck-feedless b (d ∷ s) h = go (eqb d 45) refl
  where
    go : (t : Bool) → eqb d 45 ≡ t → feeds (take (cond t 2 1) (b ∷ d ∷ s)) ≡ 0
    go true e = feedless-cons b (take 1 (d ∷ s)) h (one-feedless d s (λ q. omega (arith, eqb-true d 45 e)))
    go false e = one-feedless b (d ∷ s) h

token-of-feedless : (c : Class) (at b : ℕ) (s : List ℕ) → (b ≡ 10 → ⊥) → feeds (take (token_of_class c at s).len (b ∷ s)) ≡ 0
unfolding token_of_class in_word in_numeral
token-of-feedless Lower at b s h = word-feedless name_kind at b in_word refl s h
token-of-feedless Upper at b s h = word-feedless variable_kind at b in_word refl s h
token-of-feedless Digit at b s h = word-feedless numeral_kind at b in_numeral refl s h
token-of-feedless Colon at b s h = neck-feedless b s h
token-of-feedless (Single kind) at b s h = one-feedless b s h
token-of-feedless Nothing at b s h = one-feedless b s h
token-of-feedless Blank at b s h = one-feedless b s h
token-of-feedless Percent at b s h = one-feedless b s h

token-of-place : (c : Class) (at : ℕ) (s : List ℕ) → (token_of_class c at s).at ≡ at
unfolding token_of_class word
token-of-place Lower at s = refl
token-of-place Upper at s = refl
token-of-place Digit at s = refl
token-of-place Colon at s = refl
token-of-place (Single kind) at s = refl
token-of-place Nothing at s = refl
token-of-place Blank at s = refl
token-of-place Percent at s = refl

-- no token has a line feed
token-feedless : (s : List ℕ) (from : ℕ) → feeds (spelling s (token_at s from).at (token_at s from).len) ≡ 0
unfolding token_at token_from token_place feeds
token-feedless s from = go (drop (token_place s from) s) refl (subst Starts (drop-drop (skipped outside (drop from s)) from s) (skipped-starts outside (drop from s)))
  where
    go : (u : List ℕ) → drop (token_place s from) s ≡ u → Starts u
        → feeds (take (token_from (token_place s from) u).len (drop (token_from (token_place s from) u).at s)) ≡ 0
    go [] e h = refl
    go (b ∷ u) e h = ap (λ (l : List ℕ). feeds (take (token_of_class (class_of b) (token_place s from) u).len l)) (ap (λ (n : ℕ). drop n s) (token-of-place (class_of b) (token_place s from) u) ∙ e) ∙ token-of-feedless (class_of b) (token_place s from) b u h

-- ---- what is read

-- every name of a term, of a list of terms
abbrev mutual
  pub Feedless : Term → Type 0
  Feedless (variable i at) = Unit {0}
  Feedless (compound at f ts) = (feeds f ≡ 0) × FeedlessAll ts

  pub FeedlessAll : Terms → Type 0
  FeedlessAll nil = Unit {0}
  FeedlessAll (cons t ts) = Feedless t × FeedlessAll ts

abbrev mutual
  pub InLiteral : Literal → Type 0
  InLiteral (call a) = Feedless (term_of a)
  InLiteral (equation t u) = Feedless t × Feedless u
  InLiteral truth = Unit {0}
  InLiteral falsity = Unit {0}
  InLiteral (either y z) = InBody y × InBody z

  pub InBody : Body → Type 0
  InBody done = Unit {0}
  InBody (also l b) = InLiteral l × InBody b

pub record InClause (cl : Clause) : Type 0 where
  pub head : Feedless (term_of cl.head)
  pub body : InBody cl.body

abbrev pub InClauses : List Clause → Type 0
InClauses [] = Unit {0}
InClauses (cl ∷ cls) = InClause cl × InClauses cls

abbrev pub EachFeedless : List (List ℕ) → Type 0
EachFeedless [] = Unit {0}
EachFeedless (x ∷ xs) = (feeds x ≡ 0) × EachFeedless xs

pub record InGoal (g : Goal) : Type 0 where
  pub body : InBody g.body
  pub names : EachFeedless g.names

-- the token at hand, and the variables met
record Reader (s : List ℕ) (st : Cursor) : Type 0 where
  here : feeds (spelt s st) ≡ 0
  met : EachFeedless st.names

each_more : (xs : List (List ℕ)) (x : List ℕ) → EachFeedless xs → feeds x ≡ 0 → EachFeedless (xs ++ (x ∷ []))
each_more [] x h k = (k, tt)
each_more (y ∷ xs) x h k = (h.0, each_more xs x h.1 k)

trimmed-feedless : (ds : List ℕ) → feeds ds ≡ 0 → feeds (trimmed ds) ≡ 0
unfolding trimmed
trimmed-feedless [] h = h
trimmed-feedless (d ∷ []) h = h
trimmed-feedless (d ∷ e ∷ ds) h = go (eqb d zero_digit) (trimmed-feedless (e ∷ ds) (feedless-rest d (e ∷ ds) h))
  where
    go : (t : Bool) → feeds (trimmed (e ∷ ds)) ≡ 0 → feeds (elim t as (λ _. List ℕ) [ true ↦ trimmed (e ∷ ds) | false ↦ d ∷ e ∷ ds ]) ≡ 0
    go true k = k
    go false k = h

reader-next : {s : List ℕ} {st : Cursor} → Reader s st → Reader s (next s st)
unfolding next cursor_at
reader-next {s} {st} r = record { here = token-feedless s (st.token.at + st.token.len); met = r.met }

reader-new : {s : List ℕ} {st : Cursor} → Reader s st → Reader s (with_new s st)
unfolding with_new
reader-new {s} {st} r = record { here = r.here; met = each_more st.names (spelt s st) r.met r.here }

kept : (s : List ℕ)
    → Kept s (Reader s) (λ left. Feedless) (λ left k. FeedlessAll) (λ n m. InLiteral) (λ n m. InBody) InClause
    (λ d. Unit {0}) (λ ds cs sh. InClauses sh.clauses) (λ g st. InGoal g)
unfolding at_start
kept s =
    record {
      at-start = record { here = token-feedless s 0; met = tt };
      past-token = λ r. reader-next r;
      with_variable = λ r low. reader-new r;
      with-literal = λ r. record { here = r.here; met = r.met };
      without_variables = λ r. record { here = r.here; met = tt };
      new-variable = λ r low. tt;
      old-variable = λ r low. tt;
      numeral = λ {left} {st} r e. (trimmed-feedless (spelt s st) r.here, tt);
      named = λ r e h. (r.here, h);
      no_terms = tt;
      one_term = λ h hs. (h, hs);
      called = λ few low h. h;
      equated = λ few low h g. (h, g);
      true_literal = λ low. tt;
      false_literal = λ low. tt;
      two_sides = λ p q y z. (y, z);
      no_literals = tt;
      one_literal = λ h b. (h, b);
      clause = λ h b r. record { head = h; body = b };
      declaration = λ r e l. tt;
      no_items = tt;
      one_declaration = λ d h. h;
      one_clause = λ c h. (c, h);
      goal = λ b r. record { body = b; names = r.met };
    }

-- ---- what checking accepts

pub sheet-names : (stored : Bool) (s : List ℕ) (sh : Sheet) → checked_with stored s ≡ accepted sh → InClauses sh.clauses
sheet-names stored s sh e = checked-sheet s (λ x. InClauses x.clauses) (sheet-read (kept s)) stored sh e

pub goal-names : (s : List ℕ) (sh : Sheet) (g : Goal) → checked_goal sh s ≡ accepted g → InGoal g
goal-names s sh g e = checked-goal s InGoal (goal_read (kept s)) sh g e
