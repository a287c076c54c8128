-- A term that was written is read back, whatever follows it that ends a term. Assumes nothing.
use Prim.Native.Nat.{ℕ, zero, suc, ◌≤◌, ◌<◌}
use native.Mathlib.Omega.{arith}
use mathlib.Core.Path.{◌≡◌, refl, ap, ap₂, ◌∙◌}
use mathlib.Core.Bool.{Bool, true, false, ◌&&◌}
use mathlib.Core.List.{List, [], ◌∷◌, ◌++◌}
use lib.Dec.{eqb}
use lib.ListN.{length, get_or}
use borrow.Author.Tests.{lt-ltb, ne_eqb}
use Rattle.syntax.specs.Limits.{arguments, variables}
use Rattle.syntax.specs.Bytes.{class_of, in_word, in_numeral}
use Rattle.syntax.specs.declared.Class.{Class}
use Rattle.syntax.specs.declared.Class.TheVariants.{Single}
use Rattle.syntax.specs.declared.Token.{Token}
use Rattle.syntax.specs.declared.TokenKind.{TokenKind}
use Rattle.syntax.specs.Tokens.{outside, at_token, move_of, run_length, token_of_class, same_kind, name_kind, variable_kind, numeral_kind, open_kind, close_kind, comma_kind}
use Rattle.syntax.specs.Numerals.{trimmed}
use Rattle.syntax.specs.Terms.{Term, Terms, variable, compound, nil, cons, Atom, term_of}
use Rattle.syntax.specs.Reading.{Cursor, Read, ok, and_then, is, spelt, cursor_at, next, beyond, variable_number, is_anonymous, with_new, new_variable, old_variable, read_variable, start_of, after_of, atom_at, numeral_at, atom_with, read_atom_with, term_with, read_term_with, arguments_after, read_arguments, read_list, read_term, read_atom}
use Rattle.format_rules.specs.Writing.{variable_name, term_text, list_text, more_text}
use Rattle.format_rules.specs.Plain.{plain_term, plain_terms}
use Rattle.format_theorems.proofs.Tokens.{ReaderBefore, TokenInHand, first_token, sign, Stops, name_here, variable_here, numeral_here}
use Rattle.format_theorems.proofs.Variables.{is_variable, not_one, names_to, names-more, names-long, not_met, was_met}
use Rattle.format_theorems.proofs.Grammar.{Fits, old, new, numeral, named, FitsList, no_list, a_list, FitsTerms, one_term, more_terms}

-- ---- what follows a term

-- No word goes on with it, and no bracket opens there.
pub record Ends (rest : List ℕ) : Type 0 where
  pub byte : ℕ
  pub others : List ℕ
  pub whole : rest ≡ byte ∷ others
  pub begins : move_of outside byte ≡ at_token
  pub closed : (at : ℕ) → same_kind (token_of_class (class_of byte) at others).kind open_kind ≡ false
  pub stops : Stops rest

unfoldable pub ends_sign : (b : ℕ) (k : TokenKind) (more : List ℕ) → class_of b ≡ Single k → move_of outside b ≡ at_token → same_kind k open_kind ≡ false
    → in_word b ≡ false → in_numeral b ≡ false → Ends (b ∷ more)
unfolding token_of_class run_length
ends_sign b k more c m o w d =
    record {
      byte = b;
      others = more;
      whole = refl;
      begins = m;
      closed = λ at. ap (λ (x : Class). same_kind (token_of_class x at more).kind open_kind) c ∙ o;
      stops = record { word = ap (λ (t : Bool). elim t as (λ _. ℕ) [ true ↦ suc (run_length in_word more) | false ↦ 0 ]) w; numeral = ap (λ (t : Bool). elim t as (λ _. ℕ) [ true ↦ suc (run_length in_numeral more) | false ↦ 0 ]) d };
    }

pub ends_close : (more : List ℕ) → Ends (41 ∷ more)
unfolding class_of in_word in_numeral
ends_close more = ends_sign 41 close_kind more refl refl refl refl refl

pub ends_comma : (more : List ℕ) → Ends (44 ∷ more)
unfolding class_of in_word in_numeral
ends_comma more = ends_sign 44 comma_kind more refl refl refl refl refl

pub stops_open : (more : List ℕ) → Stops (40 ∷ more)
unfolding run_length in_word in_numeral
stops_open more = record { word = refl; numeral = refl }

-- a list that may follow a name
pub list_stops : (ts : Terms) (rest : List ℕ) → Ends rest → Stops (list_text ts rest)
unfolding list_text
list_stops nil rest e = e.stops
list_stops (cons t ts) rest e = stops_open (term_text t (more_text ts rest))

-- the token there opens no bracket
pub not_open : {s rest : List ℕ} {names : List (List ℕ)} {n : ℕ} {st : Cursor} → Ends rest → ReaderBefore s rest names n st → is open_kind st ≡ false
not_open {s} e p =
    ap (λ (t : Token). same_kind t.kind open_kind) (p.token ∙ first_token s p.at e.byte e.others (p.left ∙ e.whole) e.begins) ∙ e.closed p.at

-- ---- what reading gives

-- Something that is as it should be, and the reader behind it.
pub record Back {A : Type 0} (Same : A → Type 0) (s rest : List ℕ) (names : List (List ℕ)) (n : ℕ) (r : Read A) : Type 0 where
  pub item : A
  pub after : Cursor
  pub read : r ≡ ok item after
  pub same : Same item
  pub stands : ReaderBefore s rest names n after

pub back_by : {A : Type 0} {Same : A → Type 0} {s rest : List ℕ} {names : List (List ℕ)} {n : ℕ} {r q : Read A} → r ≡ q → Back Same s rest names n q
    → Back Same s rest names n r
back_by e b = record { item = b.item; after = b.after; read = e ∙ b.read; same = b.same; stands = b.stands }

pub back_then : {A B : Type 0} {Same : A → Type 0} {Like : B → Type 0} {s rest mid : List ℕ} {names more : List (List ℕ)} {n m : ℕ} {r : Read A}
    {f : A → Cursor → Read B} → Back Same s mid names n r
    → ((a : A) (st : Cursor) → Same a → ReaderBefore s mid names n st → Back Like s rest more m (f a st)) → Back Like s rest more m (and_then r f)
unfolding and_then
back_then {f = f} b k = back_by (ap (λ r. and_then r f) b.read) (k b.item b.after b.same b.stands)

-- ---- terms

abbrev pub TermBack : List ℕ → ℕ → Term → List ℕ → ℕ → Read Term → Type 0
TermBack s c t rest n r = Back (λ u. plain_term u ≡ plain_term t) s rest (names_to n) c r

abbrev pub TermsBack : List ℕ → ℕ → Terms → List ℕ → ℕ → Read Terms → Type 0
TermsBack s c ts rest n r = Back (λ us. plain_terms us ≡ plain_terms ts) s rest (names_to n) c r

-- an atom: its name, and its arguments but for places
abbrev pub AtomBack : List ℕ → ℕ → List ℕ → Terms → List ℕ → ℕ → Read Atom → Type 0
AtomBack s c w ts rest n r = Back (λ (a : Atom). (a.name ≡ w) × (plain_terms a.args ≡ plain_terms ts)) s rest (names_to n) c r

module _ {s : List ℕ} {c : ℕ} where
  -- terms of a list: behind each a comma, or the closing bracket
  terms_back : (left : ℕ) (term : Cursor → Read Term)
      → ((t : Term) (m n : ℕ) (rest : List ℕ) (st : Cursor) → Fits left m t n → Ends rest → ReaderBefore s (term_text t rest) (names_to m) c st → TermBack s c t rest n (term st))
      → (k m n : ℕ) (t : Term) (ts : Terms) → FitsTerms left k m (cons t ts) n → (rest : List ℕ) (st : Cursor)
      → ReaderBefore s (term_text t (more_text ts rest)) (names_to m) c st → TermsBack s c (cons t ts) rest n (read_arguments term s k st)
  unfolding read_arguments arguments_after more_text plain_terms class_of
  terms_back left term h zero m n t ts f rest st p = elim f [ ]
  terms_back left term h (suc k) m n t nil (one_term f) rest st p =
      back_then (h t m n (41 ∷ rest) st f (ends_close rest) p)
      (λ u after e q.
      let x : TokenInHand s close_kind (41 ∷ []) rest (names_to n) c after = sign refl refl q in
      record {
        item = cons u nil;
        after = next s after;
        read = ap (λ (z : TokenKind). arguments_after (λ st1. read_arguments term s k st1) s u after (after_of close_kind z)) x.kind;
        same = ap (λ (v : Term). cons v nil) e;
        stands = x.behind;
      })
  terms_back left term h (suc k) l n t (cons u ts) (more_terms {m = m} f g) rest st p =
      back_then (h t l m (44 ∷ term_text u (more_text ts rest)) st f (ends_comma (term_text u (more_text ts rest))) p)
      (λ v after e q.
      let x : TokenInHand s comma_kind (44 ∷ []) (term_text u (more_text ts rest)) (names_to m) c after = sign refl refl q in
      back_by (ap (λ (z : TokenKind). arguments_after (λ st1. read_arguments term s k st1) s v after (after_of close_kind z)) x.kind)
      (back_then (terms_back left term h k m n u ts g rest (next s after) x.behind)
      (λ vs behind d r. record { item = cons v vs; after = behind; read = refl; same = ap₂ (λ (y : Term) (ys : Terms). cons y ys) e d; stands = r })))

  -- a name, with the list that it may open
  atom_back : (left : ℕ) (list : Cursor → Read Terms)
      → ((t : Term) (ts : Terms) (m n : ℕ) (rest : List ℕ) (st : Cursor) → FitsList left m (cons t ts) n → ReaderBefore s (40 ∷ term_text t (more_text ts rest)) (names_to m) c st
      → TermsBack s c (cons t ts) rest n (list st))
      → (w : List ℕ) (ts : Terms) (m n : ℕ) (rest : List ℕ) (st : Cursor) → FitsList left m ts n → Ends rest
      → TokenInHand s name_kind w (list_text ts rest) (names_to m) c st → AtomBack s c w ts rest n (read_atom_with list s st)
  unfolding read_atom_with atom_with list_text class_of
  atom_back left list h w nil m n rest st no_list e x =
      record {
        item = atom_at s st nil;
        after = next s st;
        read = ap (λ (b : Bool). atom_with list s st b) (not_open e x.behind);
        same = (x.word, refl);
        stands = x.behind;
      }
  atom_back left list h w (cons t ts) m n rest st f e x =
      let y : TokenInHand s open_kind (40 ∷ []) (term_text t (more_text ts rest)) (names_to m) c (next s st) = sign refl refl x.behind in
      back_by (ap (λ (k : TokenKind). atom_with list s st (same_kind k open_kind)) y.kind)
      (back_then (h t ts m n rest (next s st) f x.behind)
      (λ us after d q. record { item = atom_at s st us; after = after; read = refl; same = (x.word, d); stands = q }))

  -- a variable that was met, and a new one
  variable_tokened : (i m : ℕ) (rest : List ℕ) (st : Cursor) → i < variables → TokenInHand s variable_kind (variable_name i) rest (names_to m) c st
      → is_anonymous s st.token ≡ false
  unfolding is_anonymous
  variable_tokened i m rest st low x =
      let long : 2 ≤ length (variable_name i) = not_one i low in
      let len : st.token.len ≡ length (variable_name i) = x.long in
      ap (λ (b : Bool). b && eqb (get_or s st.token.at 0) 95) (ne_eqb st.token.len 1 (λ (e : st.token.len ≡ 1). omega arith))

  old_back : (i m at : ℕ) (rest : List ℕ) (st : Cursor) → i < m → m ≤ variables → st.names ≡ names_to m
      → TokenInHand s variable_kind (variable_name i) rest (names_to m) c st → TermBack s c (variable i at) rest m (read_variable s st)
  unfolding read_variable old_variable plain_term
  old_back i m at rest st low few names x =
      let low1 : i < variables = omega arith in
      record {
        item = variable i st.token.at;
        after = next s st;
        read =
            ap (λ (b : Bool). elim b as (λ _. Read Term) [ true ↦ new_variable s st | false ↦ old_variable s st (variable_number (spelt s st) 0 st.names) ]) (variable_tokened i m rest st low1 x)
            ∙ ap₂ (λ (w : List ℕ) (ms : List (List ℕ)). old_variable s st (variable_number w 0 ms)) x.word names
            ∙ ap (old_variable s st) (was_met i m low few);
        same = refl;
        stands = x.behind;
      }

  new_back : (m at : ℕ) (rest : List ℕ) (st : Cursor) → m < variables → st.names ≡ names_to m
      → TokenInHand s variable_kind (variable_name m) rest (names_to m) c st → TermBack s c (variable m at) rest (suc m) (read_variable s st)
  unfolding read_variable old_variable new_variable plain_term with_new next cursor_at
  new_back m at rest st low names x =
      let count : length st.names ≡ m = ap length names ∙ names-long m in
      let b : ReaderBefore s rest (names_to m) c (next s st) = x.behind in
      record {
        item = variable (length st.names) st.token.at;
        after = next s (with_new s st);
        read =
            ap (λ (b : Bool). elim b as (λ _. Read Term) [ true ↦ new_variable s st | false ↦ old_variable s st (variable_number (spelt s st) 0 st.names) ]) (variable_tokened m m rest st low x)
            ∙ ap₂ (λ (w : List ℕ) (ms : List (List ℕ)). old_variable s st (variable_number w 0 ms)) x.word names
            ∙ ap (old_variable s st) (not_met m m (omega arith) low)
            ∙ ap (λ (b : Bool). elim b as (λ _. Read Term) [ true ↦ ok (variable (length st.names) st.token.at) (next s (with_new s st)) | false ↦ beyond st ])
            (lt-ltb (length st.names) variables (omega arith));
        same = ap (λ (i : ℕ). variable i 0) count;
        stands =
            record {
              at = b.at;
              left = b.left;
              token = b.token;
              named = ap₂ (λ (ms : List (List ℕ)) (w : List ℕ). ms ++ (w ∷ [])) names x.word ∙ names-more m;
              counted = b.counted;
            };
      }

  -- a term, by what the token at hand begins
  term_by : (left : ℕ) (list : Cursor → Read Terms)
      → ((t : Term) (ts : Terms) (m n : ℕ) (rest : List ℕ) (st : Cursor) → FitsList left m (cons t ts) n → ReaderBefore s (40 ∷ term_text t (more_text ts rest)) (names_to m) c st
      → TermsBack s c (cons t ts) rest n (list st))
      → (t : Term) (m n : ℕ) (rest : List ℕ) (st : Cursor) → Fits left m t n → Ends rest → ReaderBefore s (term_text t rest) (names_to m) c st
      → TermBack s c t rest n (read_term_with list s st)
  unfolding read_term_with term_with term_text list_text plain_term plain_terms
  term_by left list h (variable i at) m n rest st (old low few) e p =
      let x : TokenInHand s variable_kind (variable_name i) rest (names_to m) c st = variable_here (is_variable i (omega arith)) e.stops p in
      back_by (ap (λ (k : TokenKind). term_with list s st (start_of k)) x.kind) (old_back i m at rest st low few p.named x)
  term_by left list h (variable i at) m n rest st (new low) e p =
      let x : TokenInHand s variable_kind (variable_name m) rest (names_to m) c st = variable_here (is_variable m low) e.stops p in
      back_by (ap (λ (k : TokenKind). term_with list s st (start_of k)) x.kind) (new_back m at rest st low p.named x)
  term_by left list h (compound at w ts) m n rest st (numeral d z) e p =
      let x : TokenInHand s numeral_kind w rest (names_to m) c st = numeral_here d e.stops p in
      record {
        item = term_of (numeral_at s st);
        after = next s st;
        read = ap (λ (k : TokenKind). term_with list s st (start_of k)) x.kind;
        same = ap (λ (v : List ℕ). compound 0 v nil) (ap trimmed x.word ∙ z);
        stands = x.behind;
      }
  term_by left list h (compound at w ts) m n rest st (named d f) e p =
      let x : TokenInHand s name_kind w (list_text ts rest) (names_to m) c st = name_here d (list_stops ts rest e) p in
      back_by (ap (λ (k : TokenKind). term_with list s st (start_of k)) x.kind)
      (back_then (atom_back left list h w ts m n rest st f e x)
      (λ a after q r. record { item = term_of a; after = after; read = refl; same = ap₂ (λ (v : List ℕ) (us : Terms). compound 0 v us) q.0 q.1; stands = r }))

  list_back : (left : ℕ) (t : Term) (ts : Terms) (m n : ℕ) (rest : List ℕ) (st : Cursor) → FitsList left m (cons t ts) n
      → ReaderBefore s (40 ∷ term_text t (more_text ts rest)) (names_to m) c st → TermsBack s c (cons t ts) rest n (read_list left s st)
  unfolding read_list class_of
  list_back zero t ts m n rest st f p = elim f [ ]
  list_back (suc left) t ts m n rest st (a_list f) p =
      let y : TokenInHand s open_kind (40 ∷ []) (term_text t (more_text ts rest)) (names_to m) c st = sign refl refl p in
      terms_back left (λ st1. read_term_with (λ st2. read_list left s st2) s st1)
      (λ u k l r st1 g e q. term_by left (λ st2. read_list left s st2) (λ v vs i j r2 st2 g2 q2. list_back left v vs i j r2 st2 g2 q2) u k l r st1 g e q)
      arguments m n t ts f rest (next s st) y.behind

  -- ---- a term and an atom

  pub term_back : (left : ℕ) (t : Term) (m n : ℕ) (rest : List ℕ) (st : Cursor) → Fits left m t n → Ends rest → ReaderBefore s (term_text t rest) (names_to m) c st
      → TermBack s c t rest n (read_term left s st)
  unfolding read_term
  term_back left t m n rest st f e p = term_by left (λ st2. read_list left s st2) (λ v vs i j r2 st2 g2 q2. list_back left v vs i j r2 st2 g2 q2) t m n rest st f e p

  pub atom_is_back : (left : ℕ) (w : List ℕ) (ts : Terms) (m n : ℕ) (rest : List ℕ) (st : Cursor) → FitsList left m ts n → Ends rest
      → TokenInHand s name_kind w (list_text ts rest) (names_to m) c st → AtomBack s c w ts rest n (read_atom left s st)
  unfolding read_atom
  atom_is_back left w ts m n rest st f e x = atom_back left (λ st2. read_list left s st2) (λ v vs i j r2 st2 g2 q2. list_back left v vs i j r2 st2 g2 q2) w ts m n rest st f e x
