-- Laws of a copied node's first word. Assumes nothing.
use Prim.Native.Nat.{ℕ, ◌≤◌, ◌<◌}
use mathlib.Core.Path.{◌≡◌, sym, ap, ap₂, ◌∙◌}
use mathlib.Core.Bool.{Bool, cond}
use borrow.Author.Tests.{lt-ltb, le-ltb}
use Rattle.run_layout.specs.Symbols.{symbol_word}
use Rattle.syntax.specs.Words.{first_name, functor_arity, functor_length}
use Rattle.load.specs.Flat.{flat_name, flat_what}

-- ---- the first word of a copy

abbrev what-choice : ℕ → ℕ → ℕ → Bool → ℕ
what-choice text what byte b = cond b what (flat_name (symbol_word byte text (functor_length what)) (functor_arity what))

pub flat-variable : (text what byte : ℕ) → what < first_name → what ≡ flat_what text what byte
unfolding flat_what
flat-variable text what byte l = sym (ap (what-choice text what byte) (lt-ltb what first_name l))

pub flat-name : (text what byte : ℕ) → first_name ≤ what → flat_name (symbol_word byte text (functor_length what)) (functor_arity what) ≡ flat_what text what byte
unfolding flat_what
flat-name text what byte l = sym (ap (what-choice text what byte) (le-ltb what first_name l))

-- the same of the parts as they were computed
pub flat-packed : (text what byte : ℕ) {word len n : ℕ} → first_name ≤ what → len ≡ functor_length what → n ≡ functor_arity what → word ≡ symbol_word byte text len → flat_name word n ≡ flat_what text what byte
flat-packed text what byte l el en ew = ap₂ flat_name (ew ∙ ap (symbol_word byte text) el) en ∙ flat-name text what byte l
