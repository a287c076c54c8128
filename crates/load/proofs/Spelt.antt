-- Laws of names by their words, one for each way out of the functions. Assumes nothing.
use Prim.Native.Nat.{ℕ, min, ◌+◌, ◌-◌, ◌≤◌}
use native.Mathlib.Omega.{arith}
use mathlib.Core.Path.{◌≡◌, refl, sym, ap, ap₂, ◌∙◌, subst}
use mathlib.Core.Bool.{Bool, true, false, cond, ◌&&◌}
use mathlib.Core.List.{List}
use lib.Dec.{T, eqb, eqb→eq, eqb_refl}
use lib.ListN.{length, get_or, take, drop, length-take, length-drop}
use Rattle.syntax.specs.Terms.{same_bytes}
use Rattle.run_layout.specs.Regions.{most_nodes}
use Rattle.machine.proofs.Tests.{name-eq}
use Rattle.run_layout.specs.Nodes.{is_symbol}
use Rattle.run_layout.specs.SymbolNames.{text_of}
use Rattle.syntax.specs.Spans.{span_length}
use Rattle.run_layout.specs.Symbols.{symbol_place, symbol_text}
use Rattle.load.specs.Symbols.{word_name, SymbolInside, symbol_at}

-- ---- a word's text

pub sheet-text : (sheet goal : List ℕ) (w : ℕ) → symbol_text w ≡ 0 → text_of w sheet goal ≡ sheet
sheet-text sheet goal w e = ap (λ (k : ℕ). cond (eqb k 0) sheet goal) e

pub goal-text : (sheet goal : List ℕ) (w : ℕ) → (symbol_text w ≡ 0 → ⊥) → text_of w sheet goal ≡ goal
goal-text sheet goal w n = ap (λ (k : ℕ). cond (eqb k 0) sheet goal) (let e : symbol_text w ≡ 1 = omega (arith, n) in e)

-- A word's name is the part of a text at a place.
pub record Part (s sheet goal : List ℕ) (w at len : ℕ) : Type 0 where
  pub text : text_of w sheet goal ≡ s
  pub place : at ≡ symbol_place w
  pub long : len ≡ span_length w

module _ {s sheet goal : List ℕ} {w at len : ℕ} (part : Part s sheet goal w at len) where
  pub word-name : take len (drop at s) ≡ word_name sheet goal w
  unfolding word_name
  word-name = ap (λ (n : ℕ). take n (drop at s)) part.long ∙ ap₂ (λ (a : ℕ) (l : List ℕ). take (span_length w) (drop a l)) part.place (sym part.text)

  pub inside-text : SymbolInside sheet goal w → at + len ≤ length s
  unfolding SymbolInside
  inside-text h =
      let i : symbol_place w + span_length w ≤ length (text_of w sheet goal) = h in
      let e : length (text_of w sheet goal) ≡ length s = ap length part.text in
      let p : at ≡ symbol_place w = part.place in
      let l : len ≡ span_length w = part.long in
      omega arith

pub same-parts : {s t sheet goal : List ℕ} {v w at from len : ℕ} → Part s sheet goal v at len → Part t sheet goal w from len → {r : Bool}
    → r ≡ same_bytes (take len (drop at s)) (take len (drop from t)) → r ≡ same_bytes (word_name sheet goal v) (word_name sheet goal w)
same-parts p q e = e ∙ ap₂ same_bytes (word-name p) (word-name q)

-- ---- words of other names

pub name-long : (sheet goal : List ℕ) (w : ℕ) → SymbolInside sheet goal w → length (word_name sheet goal w) ≡ span_length w
unfolding word_name SymbolInside
name-long sheet goal w h =
    let i : symbol_place w + span_length w ≤ length (text_of w sheet goal) = h in
    let d : length (drop (symbol_place w) (text_of w sheet goal)) ≡ length (text_of w sheet goal) - symbol_place w = length-drop (symbol_place w) (text_of w sheet goal) in
    let t : length (take (span_length w) (drop (symbol_place w) (text_of w sheet goal))) ≡ min (span_length w) (length (drop (symbol_place w) (text_of w sheet goal))) = length-take (span_length w) (drop (symbol_place w) (text_of w sheet goal)) in
    omega arith

not_same : (a b : List ℕ) → (length a ≡ length b → ⊥) → false ≡ same_bytes a b
not_same a b n = go (same_bytes a b) refl
  where
    go : (x : Bool) → same_bytes a b ≡ x → false ≡ x
    go false e = refl
    go true e = absurd (n (ap length (name-eq a b (subst T (sym e) tt))))

unequal : (m n : ℕ) → (m ≡ n → ⊥) → eqb m n ≡ false
unequal m n k = go (eqb m n) (λ t. k (eqb→eq m n t))
  where
    go : (b : Bool) → (T b → ⊥) → b ≡ false
    go false e = refl
    go true e = absurd (e tt)

pub other_length : (sheet goal : List ℕ) (v w : ℕ) {m n : ℕ} → SymbolInside sheet goal v → SymbolInside sheet goal w → m ≡ span_length v → n ≡ span_length w → (m ≡ n → ⊥)
    → eqb m n ≡ same_bytes (word_name sheet goal v) (word_name sheet goal w)
other_length sheet goal v w {m} {n = l} h k em en n =
    unequal m l n
    ∙ not_same (word_name sheet goal v) (word_name sheet goal w) (λ e. n (em ∙ (sym (name-long sheet goal v h) ∙ (e ∙ (name-long sheet goal w k ∙ sym en)))))

-- ---- a symbol

other-arguments : (m n : ℕ) (x : Bool) → (m ≡ n → ⊥) → eqb m n ≡ (eqb m n && x)
other-arguments m n x k = go (eqb m n) (λ t. k (eqb→eq m n t))
  where
    go : (b : Bool) → (T b → ⊥) → b ≡ (b && x)
    go false e = refl
    go true e = absurd (e tt)

same-arguments : (m n : ℕ) (x r : Bool) → m ≡ n → r ≡ x → r ≡ (eqb m n && x)
same-arguments m n x r k e = go (eqb m n) refl
  where
    go : (b : Bool) → eqb m n ≡ b → r ≡ (b && x)
    go true q = e
    go false q = absurd (subst T q (subst (λ (j : ℕ). T (eqb m j)) k (eqb_refl m)))

pub symbol-not : (sheet goal symbols : List ℕ) (k w n : ℕ) → (get_or symbols (most_nodes + k) 0 ≡ n → ⊥) → eqb (get_or symbols (most_nodes + k) 0) n ≡ is_symbol (word_name sheet goal w) n (symbol_at sheet goal symbols k)
unfolding is_symbol symbol_at
symbol-not sheet goal symbols k w n h = other-arguments (get_or symbols (most_nodes + k) 0) n (same_bytes (word_name sheet goal (get_or symbols k 0)) (word_name sheet goal w)) h

pub symbol-is : (sheet goal symbols : List ℕ) (k w n : ℕ) (r : Bool) → get_or symbols (most_nodes + k) 0 ≡ n
    → r ≡ same_bytes (word_name sheet goal (get_or symbols k 0)) (word_name sheet goal w) → r ≡ is_symbol (word_name sheet goal w) n (symbol_at sheet goal symbols k)
unfolding is_symbol symbol_at
symbol-is sheet goal symbols k w n r h e = same-arguments (get_or symbols (most_nodes + k) 0) n (same_bytes (word_name sheet goal (get_or symbols k 0)) (word_name sheet goal w)) r h e
