-- What the search finds is the first match, and it compared the entries up to and with that one; what it misses is nowhere, and it compared
-- all. Assumes nothing.
use Prim.Native.Nat.{ℕ, zero, suc, ◌+◌, ◌<◌}
use native.Mathlib.Omega.{arith}
use mathlib.Core.Path.{◌≡◌, refl, subst, subst⁻¹}
use mathlib.Core.Bool.{Bool, true, false}
use mathlib.Core.List.{List, [], ◌∷◌}
use lib.ListN.{length, get_or}
use Rattle.std.specs.Prelude.{Option, Some, None}
use Rattle.syntax.specs.declared.Entry.{Entry}
use Rattle.marks.specs.declared.lookup.Lookup.{Lookup}
use Rattle.marks.specs.Searching.{matches, look_from, look_up, IsFirst, IsNone, SaysOf, Says}
use Rattle.marks.proofs.LookupLaws.{look-by}

module _ (text name : List ℕ) (n : ℕ) where
  -- the same after k entries: the place is counted from the first of all
  record FirstFrom (k : ℕ) (es : List Entry) (place compared : ℕ) : Type 0 where
    offset : ℕ
    place_is : place ≡ k + offset
    is : IsFirst text name n es offset (suc offset)
    count : compared ≡ suc place

  record NoneFrom (k : ℕ) (es : List Entry) (compared : ℕ) : Type 0 where
    is : IsNone text name n es (length es)
    count : compared ≡ k + length es

  abbrev SaysFromOf : ℕ → List Entry → Option ℕ → ℕ → Type 0
  SaysFromOf k es (Some place) compared = FirstFrom k es place compared
  SaysFromOf k es None compared = NoneFrom k es compared

  abbrev SaysFrom : ℕ → List Entry → Lookup → Type 0
  SaysFrom k es r = SaysFromOf k es r.place r.compared

  later : (e : Entry) (es : List Entry) → matches text name n e ≡ false → (m : ℕ) → ((d : Entry) (j : ℕ) → j < m → matches text name n (get_or es j d) ≡ false)
      → (d : Entry) (j : ℕ) → j < suc m → matches text name n (get_or (e ∷ es) j d) ≡ false
  later e es h m before d zero l = h
  later e es h m before d (suc j) l = before d j (omega arith)

  on : (k : ℕ) (e : Entry) (es : List Entry) (o : Option ℕ) (compared : ℕ) → matches text name n e ≡ false → SaysFromOf (suc k) es o compared → SaysFromOf k (e ∷ es) o compared
  on k e es (Some place) compared h w = record {
    offset = suc w.offset;
    place_is = omega (arith, w.place_is);
    is = record { inside = omega (arith, w.is.inside); found = w.is.found; first = later e es h w.offset w.is.first; count = refl };
    count = w.count;
  }
  on k e es None compared h w = record {
    is = record { none = later e es h (length es) w.is.none; count = refl };
    count = omega (arith, w.count);
  }

  step : (k : ℕ) (e : Entry) (es : List Entry) (b : Bool) → matches text name n e ≡ b → SaysFrom (suc k) es (look_from text name n (suc k) es)
      → SaysFrom k (e ∷ es) (look_from text name n k (e ∷ es))
  step k e es true h w =
      subst⁻¹ (SaysFrom k (e ∷ es)) (look-by text name n k e es true h) record {
        offset = 0;
        place_is = omega arith;
        is = record { inside = omega arith; found = λ d. h; first = λ d j l. absurd (omega arith); count = refl };
        count = refl;
      }
  step k e es false h w = subst⁻¹ (SaysFrom k (e ∷ es)) (look-by text name n k e es false h) (on k e es (look_from text name n (suc k) es).place (look_from text name n (suc k) es).compared h w)

  says-from : (k : ℕ) (es : List Entry) → SaysFrom k es (look_from text name n k es)
  unfolding look_from
  says-from k [] = record { is = record { none = λ d j l. absurd (omega arith); count = refl }; count = omega arith }
  says-from k (e ∷ es) = step k e es _ refl (says-from (suc k) es)

  from_start : (es : List Entry) (o : Option ℕ) (compared : ℕ) → SaysFromOf 0 es o compared → SaysOf text name n es o compared
  from_start es (Some place) compared w =
      let o : w.offset ≡ place = omega (arith, w.place_is) in
      let f : IsFirst text name n es place (suc place) = subst (λ (i : ℕ). IsFirst text name n es i (suc i)) o w.is in
      record { inside = f.inside; found = f.found; first = f.first; count = w.count }
  from_start es None compared w = record { none = w.is.none; count = omega (arith, w.count) }

  pub look-up-says : (es : List Entry) → Says text name n es (look_up text name n es)
  look-up-says es = from_start es (look_up text name n es).place (look_up text name n es).compared (says-from 0 es)
