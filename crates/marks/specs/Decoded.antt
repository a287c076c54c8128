-- A text and words tell at most one list of declarations: the one that they decode to.
use Rattle.std.specs.Prelude.{ℕ, zero, suc, ◌+◌, ◌*◌, ◌≡◌, List, [], ◌∷◌, length, get_or}
use Rattle.std.specs.Coded.{Unit-prop, le_prop, Coded-set, coded_ℕ, coded_list}
use Rattle.std.proofs.Common.{refl, sym, ◌∙◌, ap, ap₂}
use Rattle.std.proofs.Math.Nat.{add-mul-mod_self_left}
use native.Mathlib.Omega.{arith}
use mathlib.Core.HLevel.{is_prop→PathP, ×₃_prop}
use Rattle.syntax.specs.Tokens.{spelling}
use Rattle.syntax.specs.Terms.{Mark, input, output, free, Declaration}
use Rattle.syntax.specs.Words.{mark_number, marks_number, mark_numbers, first_mark, other_marks, declaration_words, declarations_words}
use Rattle.words.specs.Tables.{WordsAt}
use Rattle.marks.specs.Spelt.{NameAt, DeclarationSpelt, DeclarationsSpelt, no_declarations, declaration_stands}
use Rattle.marks.specs.Tables.{DeclarationsAt}

-- the mark of a number, and so many marks of a number that holds them all
abbrev pub mark_in : ℕ → Mark
mark_in zero = free
mark_in (suc zero) = input
mark_in (suc (suc zero)) = output
mark_in (suc (suc (suc n))) = free

unfoldable pub marks_in : ℕ → ℕ → List Mark
marks_in zero w = []
marks_in (suc n) w = mark_in (first_mark w) ∷ marks_in n (other_marks w)

-- the declaration of a text whose words stand at p, and n of them
abbrev pub declaration_in : List ℕ → List ℕ → ℕ → Declaration
declaration_in s words p = record {
  at = get_or words p 0;
  name = spelling s (get_or words p 0) (get_or words (p + 1) 0);
  marks = marks_in (get_or words (p + 1 + 1) 0) (get_or words (p + 1 + 1 + 1) 0);
}

unfoldable pub declarations_in : List ℕ → List ℕ → ℕ → ℕ → List Declaration
declarations_in s words p zero = []
declarations_in s words p (suc n) = declaration_in s words p ∷ declarations_in s words (p + 1 + 1 + 1 + 1) n

-- ---- words say of a declaration what they decode to

mark-of : (m : Mark) (others : ℕ) → first_mark (mark_number m + mark_numbers * others) ≡ mark_number m
mark-of input others = add-mul-mod_self_left 1 4 others
mark-of output others = add-mul-mod_self_left 2 4 others
mark-of free others = add-mul-mod_self_left 3 4 others

others-of : (m : Mark) (others : ℕ) → other_marks (mark_number m + mark_numbers * others) ≡ others
others-of input others = omega arith
others-of output others = omega arith
others-of free others = omega arith

mark-told : (m : Mark) → mark_in (mark_number m) ≡ m
mark-told input = refl
mark-told output = refl
mark-told free = refl

marks-told : (ms : List Mark) → marks_in (length ms) (marks_number ms) ≡ ms
unfolding marks_in marks_number
marks-told [] = refl
marks-told (m ∷ ms) =
    ap₂ (λ (w v : ℕ). mark_in w ∷ marks_in (length ms) v) (mark-of m (marks_number ms)) (others-of m (marks_number ms))
    ∙ ap₂ (λ (k : Mark) (ks : List Mark). k ∷ ks) (mark-told m) (marks-told ms)

declaration-told : (s words : List ℕ) (p : ℕ) (d : Declaration)
    → get_or words p 0 ≡ d.at
    → get_or words (p + 1) 0 ≡ length d.name
    → get_or words (p + 1 + 1) 0 ≡ length d.marks
    → get_or words (p + 1 + 1 + 1) 0 ≡ marks_number d.marks
    → DeclarationSpelt s d
    → declaration_in s words p ≡ d
declaration-told s words p d at len count marks h = λ i. record {
  at = at i;
  name = (ap₂ (λ (a l : ℕ). spelling s a l) at len ∙ sym h.name.spelt) i;
  marks = (ap₂ (λ (n w : ℕ). marks_in n w) count marks ∙ marks-told d.marks) i;
}

declarations-told : (s words : List ℕ) (p : ℕ) (ds : List Declaration)
    → WordsAt words p (declarations_words ds)
    → DeclarationsSpelt s ds
    → declarations_in s words p (length ds) ≡ ds
unfolding declarations_in declarations_words declaration_words
declarations-told s words p [] h no_declarations = refl
declarations-told s words p (d ∷ ds) h (declaration_stands x xs) =
    ap₂ (λ (e : Declaration) (es : List Declaration). e ∷ es)
    (declaration-told s words p d h.1 h.2.1 h.2.2.1 h.2.2.2.1 x)
    (declarations-told s words (p + 1 + 1 + 1 + 1) ds h.2.2.2.2 xs)

-- ---- what stands at a place stands there in one way

Has-prop : (table : List ℕ) (p : ℕ) (ws : List ℕ) → IsProp (WordsAt table p ws)
Has-prop table p [] = Unit-prop
Has-prop table p (w ∷ ws) = ×₃_prop le_prop (Coded-set coded_ℕ (get_or table p 0) w) (Has-prop table (p + 1) ws)

NameAt-prop : (s : List ℕ) (at : ℕ) (name : List ℕ) → IsProp (NameAt s at name)
NameAt-prop s at name x y = λ i. record {
  spelt = Coded-set (coded_list coded_ℕ) _ _ x.spelt y.spelt i;
  inside = le_prop x.inside y.inside i;
  short = le_prop x.short y.short i;
}

DeclarationSpelt-prop : (s : List ℕ) (d : Declaration) → IsProp (DeclarationSpelt s d)
DeclarationSpelt-prop s d x y = λ i. record { name = NameAt-prop s d.at d.name x.name y.name i; few = le_prop x.few y.few i }

DeclarationsSpelt-prop : (s : List ℕ) (ds : List Declaration) → IsProp (DeclarationsSpelt s ds)
DeclarationsSpelt-prop s [] no_declarations no_declarations = refl
DeclarationsSpelt-prop s (d ∷ ds) (declaration_stands x xs) (declaration_stands y ys) =
    ap₂ declaration_stands (DeclarationSpelt-prop s d x y) (DeclarationsSpelt-prop s ds xs ys)

-- words and a text tell at most one list of n declarations
pub DeclarationsAt-prop : (s declared : List ℕ) (n : ℕ) → IsProp (DeclarationsAt s declared n)
DeclarationsAt-prop s declared n x y = λ i. record {
  list = same i;
  has = is_prop→PathP (λ j. WordsAt declared 0 (declarations_words (same j))) (λ j. Has-prop declared 0 (declarations_words (same j))) x.has y.has i;
  count = is_prop→PathP (λ j. n ≡ length (same j)) (λ j. Coded-set coded_ℕ n (length (same j))) x.count y.count i;
  stand = is_prop→PathP (λ j. DeclarationsSpelt s (same j)) (λ j. DeclarationsSpelt-prop s (same j)) x.stand y.stand i;
}
  where
    told : (w : DeclarationsAt s declared n) → declarations_in s declared 0 n ≡ w.list
    told w = ap (λ (k : ℕ). declarations_in s declared 0 k) w.count ∙ declarations-told s declared 0 w.list w.has w.stand

    same : x.list ≡ y.list
    same = sym (told x) ∙ told y
