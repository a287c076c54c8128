-- The flags of the heads, one pass: what is left of the clauses, and which declarations have a clause so far. Assumes nothing.
use Prim.Native.Nat.{ℕ, zero, suc, ◌+◌, ◌≤◌, ◌<◌}
use native.Mathlib.Omega.{arith}
use mathlib.Core.Path.{◌≡◌, refl, sym, ap, ◌∙◌, subst⁻¹}
use mathlib.Core.Bool.{Bool, true, false, ◌||◌}
use mathlib.Core.List.{List, [], ◌∷◌}
use mathlib.Core.Option.{none}
use Rattle.std.specs.Prelude.{Option as Place}
use lib.Dec.{eqb}
use lib.ListN.{length, get_or, set, replicate}
use lib.Seq.{get_or-set_same, get_or-set_other}
use borrow.Author.Tests.{eqb-true, eqb-false}
use Rattle.syntax.specs.Terms.{Declaration, Clause}
use Rattle.syntax.specs.Words.{clause_words, clauses_words}
use Rattle.mode_rules.specs.Written.{is_written}
use Rattle.words.specs.Tables.{WordsAt}
use Rattle.marks.specs.Spelt.{ClausesSpelt}
use Rattle.marks.specs.Tables.{ClauseAt, SheetAt}
use Rattle.marks.proofs.UndeclaredClauses.{Ahead, Turn, turn}
use Rattle.marks.specs.Repeating.{nth_declaration}
use Rattle.marks.specs.Flags.{is_place, OnlyDeclaration, Flagged}

-- the clauses from the i-th on, and the flags of those before
pub record Left (s table : List ℕ) (at i clauses : ℕ) (flags : List Bool) (ds : List Declaration) (all : List Clause) : Type 0 where
  pub list : List Clause
  pub has : WordsAt table at (clauses_words list)
  pub count : clauses ≡ i + length list
  pub stand : ClausesSpelt s list
  pub same : (k : ℕ) → k < length ds → is_written all (nth_declaration ds k) ≡ (get_or flags k false || is_written list (nth_declaration ds k))

none-flagged : (n k : ℕ) → get_or (replicate n false) k false ≡ false
none-flagged zero k = refl
none-flagged (suc n) zero = refl
none-flagged (suc n) (suc k) = none-flagged n k

pub begun : {s declared : List ℕ} {n : ℕ} {table : List ℕ} {clauses : ℕ} (m : ℕ) (w : SheetAt s declared n table clauses)
    → Left s table 0 0 clauses (replicate m false) w.sheet.declarations w.sheet.clauses
begun m w = record {
  list = w.sheet.clauses;
  has = w.has_clauses;
  count = omega (arith, w.clauses_count);
  stand = w.stands.clauses;
  same = λ k h. ap (λ (b : Bool). b || is_written w.sheet.clauses (nth_declaration w.sheet.declarations k)) (sym (none-flagged m k));
}

-- a flag more
pub flag-set : (flags : List Bool) (j k : ℕ) → j < length flags → get_or (set flags j true) k false ≡ (eqb k j || get_or flags k false)
flag-set flags j k h = by (eqb k j) refl
  where
    by : (b : Bool) → eqb k j ≡ b → get_or (set flags j true) k false ≡ (b || get_or flags k false)
    by true e = ap (λ (m : ℕ). get_or (set flags j true) m false) (eqb-true k j e) ∙ get_or-set_same flags j true false h
    by false e = get_or-set_other flags j k true false (eqb-false k j e)

moved : (x y z : Bool) → (x || (y || z)) ≡ ((y || x) || z)
moved true true z = refl
moved true false z = refl
moved false true z = refl
moved false false z = refl

module _ {s table : List ℕ} {at i clauses : ℕ} {flags : List Bool} {ds : List Declaration} {all : List Clause} where
  abbrev ahead : Left s table at i clauses flags ds all → Ahead s table at i clauses none (λ k cs. none)
  ahead a = record { list = a.list; has = a.has; count = a.count; stand = a.stand; same = refl }

  -- the first clause that is left
  abbrev pub here : i < clauses → (a : Left s table at i clauses flags ds all) → Turn s table at i clauses a.list
  here l a = turn l (ahead a)

  pub flagged-on : (l : i < clauses) (a : Left s table at i clauses flags ds all) (r : Place ℕ) → OnlyDeclaration ds (here l a).clause.clause.head r
      → (after : List Bool) → ((k : ℕ) → k < length ds → get_or after k false ≡ (is_place r k || get_or flags k false))
      → (next : ℕ) → ((w : ClauseAt s table at) → next ≡ at + length (clause_words w.clause))
      → Left s table next (i + 1) clauses after ds all
  flagged-on l a r f after h next e =
      let z : Turn s table at i clauses a.list = here l a in
      record {
        list = z.left;
        has = subst⁻¹ (λ (k : ℕ). WordsAt table k (clauses_words z.left)) (e z.clause) z.has;
        count = z.count;
        stand = z.stand;
        same = λ k low. so_far z f k low;
      }
    where
      so_far : (z : Turn s table at i clauses a.list) → OnlyDeclaration ds z.clause.clause.head r → (k : ℕ) → k < length ds
          → is_written all (nth_declaration ds k) ≡ (get_or after k false || is_written z.left (nth_declaration ds k))
      so_far z g k low = unfold is_written in
          a.same k low
          ∙ ap (λ (cs : List Clause). get_or flags k false || is_written cs (nth_declaration ds k)) z.is
          ∙ ap (λ (b : Bool). get_or flags k false || (b || is_written z.left (nth_declaration ds k))) (g.only k low)
          ∙ moved (get_or flags k false) (is_place r k) (is_written z.left (nth_declaration ds k))
          ∙ ap (λ (b : Bool). b || is_written z.left (nth_declaration ds k)) (sym (h k low))

  pub all-flagged : clauses ≤ i → Left s table at i clauses flags ds all → Flagged flags ds all
  all-flagged l a k low = by a.list a.count (a.same k low)
    where
      by : (cs : List Clause) → clauses ≡ i + length cs → is_written all (nth_declaration ds k) ≡ (get_or flags k false || is_written cs (nth_declaration ds k)) → get_or flags k false ≡ is_written all (nth_declaration ds k)
      by [] c e = unfold is_written in sym (e ∙ or-false (get_or flags k false))
        where
          or-false : (b : Bool) → (b || false) ≡ b
          or-false true = refl
          or-false false = refl
      by (x ∷ cs) c e = absurd (omega arith)
