-- The names, variables and numerals that reading gives are words; so is a numeral without its leading zeros. Assumes nothing.
use Prim.Native.Nat.{ℕ, suc, ◌≤◌}
use native.Mathlib.Omega.{arith}
use mathlib.Core.Path.{◌≡◌, refl, sym, ap, ◌∙◌, subst}
use mathlib.Core.Bool.{Bool, true, false, cond}
use mathlib.Core.List.{List, [], ◌∷◌}
use lib.Dec.{eqb, leb}
use lib.ListN.{length, take, drop}
use lib.Seq.{drop-drop}
use borrow.Author.Tests.{leb-true, le-leb, lt-leb, ne_eqb}
use Rattle.syntax.specs.Limits.{word_bytes}
use Rattle.syntax.specs.Bytes.{is_blank, is_lower, is_upper, is_digit, class_of, in_word, in_numeral}
use Rattle.syntax.specs.declared.Class.{Class}
use Rattle.syntax.specs.declared.Class.TheVariants.{Nothing, Blank, Percent, Lower, Upper, Digit, Colon, Single}
use Rattle.syntax.specs.declared.Token.{Token}
use Rattle.syntax.specs.declared.TokenKind.{TokenKind}
use Rattle.syntax.specs.Tokens.{Gap, outside, in_comment, Move, on, at_token, move_of, skipped, run_length, word, dash_first, no_token, name_kind, variable_kind, numeral_kind, neck_kind, overlong_kind, end_kind, kind_place, token_of_class, token_from, token_place, token_at, spelling}
use Rattle.syntax.specs.Numerals.{zero_digit, trimmed}
use Rattle.format_theorems.proofs.Tokens.{Word, IsName, IsNumeral}
use Rattle.format_theorems.proofs.Variables.{both}

-- ---- where a token stands

-- nothing, or a byte that begins a token
abbrev Begins : List ℕ → Type 0
Begins [] = Unit {0}
Begins (b ∷ r) = move_of outside b ≡ at_token

not_in_comment : (b : ℕ) → move_of in_comment b ≡ at_token → ⊥
not_in_comment b e = go (eqb b 10) e
  where
    go : (t : Bool) → cond t (on outside) (on in_comment) ≡ at_token → ⊥
    go true h = let y : ◌≡◌ {A = ℕ} 0 1 = cc in omega arith
    go false h = let y : ◌≡◌ {A = ℕ} 0 1 = cc in omega arith

skipped_begins : (g : Gap) (r : List ℕ) → Begins (drop (skipped g r) r)
unfolding skipped
skipped_begins g [] = tt
skipped_begins g (b ∷ r) = go (move_of g b) refl (λ h. skipped_begins h r)
  where
    here : (h : Gap) → move_of h b ≡ at_token → move_of outside b ≡ at_token
    here outside e = e
    here in_comment e = absurd (not_in_comment b e)

    go : (m : Move) → move_of g b ≡ m → ((h : Gap) → Begins (drop (skipped h r) r))
        → Begins (drop (elim m as (λ _. ℕ) [ on h ↦ suc (skipped h r) | at_token ↦ 0 ]) (b ∷ r))
    go (on h) e k = k h
    go at_token e k = here g e

-- ---- classes

-- a class that is no word's token by itself
abbrev single_apart : Class → Bool
single_apart (Single k) = leb 4 (kind_place k)
single_apart Nothing = true
single_apart Blank = true
single_apart Percent = true
single_apart Lower = true
single_apart Upper = true
single_apart Digit = true
single_apart Colon = true

either_way : (t : Bool) (a b : Class) → single_apart a ≡ true → single_apart b ≡ true → single_apart (cond t a b) ≡ true
either_way true a b e f = e
either_way false a b e f = f

apart : (b : ℕ) → single_apart (class_of b) ≡ true
unfolding class_of
apart b =
    either_way (is_blank b) _ _ refl (either_way (eqb b 37) _ _ refl (either_way (is_lower b) _ _ refl (either_way (is_upper b) _ _ refl
    (either_way (is_digit b) _ _ refl (either_way (eqb b 58) _ _ refl (either_way (eqb b 40) _ _ refl
    (either_way (eqb b 41) _ _ refl (either_way (eqb b 44) _ _ refl (either_way (eqb b 46) _ _ refl
    (either_way (eqb b 61) _ _ refl (either_way (eqb b 43) _ _ refl (either_way (eqb b 45) _ _ refl
    (either_way (eqb b 42) _ _ refl (either_way (eqb b 59) _ _ refl refl))))))))))))))

-- ---- the words of a text

run_taken : (f : ℕ → Bool) (r : List ℕ) → (run_length f (take (run_length f r) r) ≡ run_length f r) × (length (take (run_length f r) r) ≡ run_length f r)
unfolding run_length
run_taken f [] = (refl, refl)
run_taken f (b ∷ r) = go (f b) refl (run_taken f r)
  where
    go : (t : Bool) → f b ≡ t → (run_length f (take (run_length f r) r) ≡ run_length f r) × (length (take (run_length f r) r) ≡ run_length f r)
        → (run_length f (take (elim t as (λ _. ℕ) [ true ↦ suc (run_length f r) | false ↦ 0 ]) (b ∷ r)) ≡ elim t as (λ _. ℕ) [ true ↦ suc (run_length f r) | false ↦ 0 ])
        × (length (take (elim t as (λ _. ℕ) [ true ↦ suc (run_length f r) | false ↦ 0 ]) (b ∷ r)) ≡ elim t as (λ _. ℕ) [ true ↦ suc (run_length f r) | false ↦ 0 ])
    go true e h = (ap (λ (u : Bool). elim u as (λ _. ℕ) [ true ↦ suc (run_length f (take (run_length f r) r)) | false ↦ 0 ]) e ∙ ap suc h.0, ap suc h.1)
    go false e h = (refl, refl)

-- the word of a class at a byte, where its token is of the kind
word_at : (c : Class) (f : ℕ → Bool) (k : TokenKind) (at b : ℕ) (r : List ℕ) → class_of b ≡ c → move_of outside b ≡ at_token
    → suc (run_length f r) ≤ word_bytes → Word c f (take (suc (run_length f r)) (b ∷ r))
word_at c f k at b r e m h =
    let t = run_taken f r in
    record {
      first = b;
      others = take (run_length f r) r;
      whole = refl;
      begins = m;
      class = e;
      run = t.0 ∙ sym t.1;
      short = omega (arith, t.1);
    }

-- a kind below 4 is a word's, and the word is short
short_of : (k : TokenKind) (n : ℕ) (t : Bool) → leb n word_bytes ≡ t → kind_place (cond t k overlong_kind) ≤ 3 → (n ≤ word_bytes) × (cond t k overlong_kind ≡ k)
short_of k n true e h = (leb-true n word_bytes e, refl)
short_of k n false e h = absurd (omega arith)

abbrev WordOf : Class → List ℕ → Type 0
WordOf Lower w = IsName w
WordOf Digit w = IsNumeral w
WordOf Nothing w = Unit {0}
WordOf Blank w = Unit {0}
WordOf Percent w = Unit {0}
WordOf Upper w = Unit {0}
WordOf Colon w = Unit {0}
WordOf (Single k) w = Unit {0}

-- of a token's class and kind: a name's token is a name's word, a numeral's a numeral's
abbrev Spells : Token → List ℕ → Type 0
Spells t w = (t.kind ≡ name_kind → IsName w) × (t.kind ≡ numeral_kind → IsNumeral w)

no_kind : {A : Type 0} (k j : TokenKind) → k ≡ j → (kind_place k ≡ kind_place j → ⊥) → A
no_kind k j e h = absurd (h (ap kind_place e))

colon_kinds : (t : Bool) (w : List ℕ) → (cond t neck_kind no_token ≡ name_kind → IsName w) × (cond t neck_kind no_token ≡ numeral_kind → IsNumeral w)
colon_kinds true w = ((λ e. no_kind neck_kind name_kind e (λ q. omega arith)), (λ e. no_kind neck_kind numeral_kind e (λ q. omega arith)))
colon_kinds false w = ((λ e. no_kind no_token name_kind e (λ q. omega arith)), (λ e. no_kind no_token numeral_kind e (λ q. omega arith)))

single_kinds : (k : TokenKind) (w : List ℕ) → leb 4 (kind_place k) ≡ true → (k ≡ name_kind → IsName w) × (k ≡ numeral_kind → IsNumeral w)
single_kinds k w e =
    let h : 4 ≤ kind_place k = leb-true 4 (kind_place k) e in
    ((λ q. no_kind k name_kind q (λ z. omega arith)), (λ q. no_kind k numeral_kind q (λ z. omega arith)))

spells_by : (c : Class) (at b : ℕ) (r : List ℕ) → class_of b ≡ c → move_of outside b ≡ at_token → single_apart c ≡ true
    → Spells (token_of_class c at r) (take (token_of_class c at r).len (b ∷ r))
unfolding token_of_class word
spells_by Lower at b r e m a = (
  (λ q. word_at Lower in_word name_kind at b r e m (short_of name_kind (suc (run_length in_word r)) (leb (suc (run_length in_word r)) word_bytes) refl (omega (arith, ap kind_place q))).0),
  (λ q. let s = short_of name_kind (suc (run_length in_word r)) (leb (suc (run_length in_word r)) word_bytes) refl (omega (arith, ap kind_place q)) in
      no_kind name_kind numeral_kind (sym s.1 ∙ q) (λ z. omega arith)),
)
spells_by Upper at b r e m a = (
  (λ q. let s = short_of variable_kind (suc (run_length in_word r)) (leb (suc (run_length in_word r)) word_bytes) refl (omega (arith, ap kind_place q)) in
      no_kind variable_kind name_kind (sym s.1 ∙ q) (λ z. omega arith)),
  (λ q. let s = short_of variable_kind (suc (run_length in_word r)) (leb (suc (run_length in_word r)) word_bytes) refl (omega (arith, ap kind_place q)) in
      no_kind variable_kind numeral_kind (sym s.1 ∙ q) (λ z. omega arith)),
)
spells_by Digit at b r e m a = (
  (λ q. let s = short_of numeral_kind (suc (run_length in_numeral r)) (leb (suc (run_length in_numeral r)) word_bytes) refl (omega (arith, ap kind_place q)) in
      no_kind numeral_kind name_kind (sym s.1 ∙ q) (λ z. omega arith)),
  (λ q. word_at Digit in_numeral numeral_kind at b r e m (short_of numeral_kind (suc (run_length in_numeral r)) (leb (suc (run_length in_numeral r)) word_bytes) refl (omega (arith, ap kind_place q))).0),
)
spells_by Colon at b r e m a = colon_kinds (dash_first r) (take (cond (dash_first r) 2 1) (b ∷ r))
spells_by (Single k) at b r e m a = single_kinds k (b ∷ []) a
spells_by Nothing at b r e m a = colon_kinds false (b ∷ [])
spells_by Blank at b r e m a = colon_kinds false (b ∷ [])
spells_by Percent at b r e m a = colon_kinds false (b ∷ [])

of_place : (c : Class) (at : ℕ) (r : List ℕ) → (token_of_class c at r).at ≡ at
unfolding token_of_class word
of_place Lower at r = refl
of_place Upper at r = refl
of_place Digit at r = refl
of_place Colon at r = refl
of_place (Single kind) at r = refl
of_place Nothing at r = refl
of_place Blank at r = refl
of_place Percent at r = refl

end_kinds : (w : List ℕ) → (end_kind ≡ name_kind → IsName w) × (end_kind ≡ numeral_kind → IsNumeral w)
end_kinds w = ((λ e. no_kind end_kind name_kind e (λ q. omega arith)), (λ e. no_kind end_kind numeral_kind e (λ q. omega arith)))

pub token_spells : (s : List ℕ) (from : ℕ) → Spells (token_at s from) (spelling s (token_at s from).at (token_at s from).len)
unfolding token_at token_from token_place
token_spells s from =
    go (drop (token_place s from) s) refl (subst Begins (drop-drop (skipped outside (drop from s)) from s) (skipped_begins outside (drop from s)))
  where
    go : (u : List ℕ) → drop (token_place s from) s ≡ u → Begins u
        → Spells (token_from (token_place s from) u) (take (token_from (token_place s from) u).len (drop (token_from (token_place s from) u).at s))
    go [] e h = end_kinds (take 0 (drop (token_place s from) s))
    go (b ∷ u) e h =
        let q : b ∷ u ≡ drop (token_of_class (class_of b) (token_place s from) u).at s =
        sym (ap (λ (n : ℕ). drop n s) (of_place (class_of b) (token_place s from) u) ∙ e) in
        subst (λ (l : List ℕ). Spells (token_of_class (class_of b) (token_place s from) u) (take (token_of_class (class_of b) (token_place s from) u).len l)) q
        (spells_by (class_of b) (token_place s from) b u refl h (apart b))

-- ---- numerals without leading zeros

digit_class : (d : ℕ) → in_numeral d ≡ true → (class_of d ≡ Digit) × (move_of outside d ≡ at_token)
unfolding in_numeral class_of
digit_class d e =
    let p = both (leb 48 d) (leb d 57) e in
    let l : 48 ≤ d = leb-true 48 d p.0 in
    let h : d ≤ 57 = leb-true d 57 p.1 in (
      rw (
        ne_eqb d 32 (λ z. omega arith),
        ne_eqb d 9 (λ z. omega arith),
        ne_eqb d 10 (λ z. omega arith),
        ne_eqb d 13 (λ z. omega arith),
        ne_eqb d 37 (λ z. omega arith),
        lt-leb 97 d (omega arith),
        lt-leb 65 d (omega arith),
        ne_eqb d 95 (λ z. omega arith),
        le-leb 48 d l,
        le-leb d 57 h,
      ) refl,
      rw (ne_eqb d 32 (λ z. omega arith), ne_eqb d 9 (λ z. omega arith), ne_eqb d 10 (λ z. omega arith), ne_eqb d 13 (λ z. omega arith), ne_eqb d 37 (λ z. omega arith)) refl,
    )

run_first : (f : ℕ → Bool) (d : ℕ) (ds : List ℕ) → run_length f (d ∷ ds) ≡ suc (length ds) → (f d ≡ true) × (run_length f ds ≡ length ds)
unfolding run_length
run_first f d ds e = go (f d) e
  where
    go : (t : Bool) → elim t as (λ _. ℕ) [ true ↦ suc (run_length f ds) | false ↦ 0 ] ≡ suc (length ds) → (t ≡ true) × (run_length f ds ≡ length ds)
    go true q = (refl, omega arith)
    go false q = absurd (omega arith)

trim_word : (d : ℕ) (ds : List ℕ) → class_of d ≡ Digit → move_of outside d ≡ at_token → run_length in_numeral ds ≡ length ds → length (d ∷ ds) ≤ word_bytes
    → IsNumeral (trimmed (d ∷ ds))
unfolding trimmed
trim_word d [] c m r l = record { first = d; others = []; whole = refl; begins = m; class = c; run = r; short = l }
trim_word d (e ∷ ds) c m r l =
    let p = run_first in_numeral e ds r in
    let q = digit_class e p.0 in
    go (eqb d zero_digit) (trim_word e ds q.0 q.1 p.1 (omega arith))
  where
    go : (t : Bool) → IsNumeral (trimmed (e ∷ ds)) → IsNumeral (elim t as (λ _. List ℕ) [ true ↦ trimmed (e ∷ ds) | false ↦ d ∷ e ∷ ds ])
    go true h = h
    go false h = record { first = d; others = e ∷ ds; whole = refl; begins = m; class = c; run = r; short = l }

pub trimmed_numeral : (w : List ℕ) → IsNumeral w → IsNumeral (trimmed w)
trimmed_numeral w x =
    subst (λ (v : List ℕ). IsNumeral (trimmed v)) (sym x.whole) (trim_word x.first x.others x.class x.begins x.run (omega (arith, x.short, ap length x.whole)))
