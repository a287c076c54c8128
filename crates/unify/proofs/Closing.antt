-- Laws of what makes the wholes of a stack's pairs equal. Assumes nothing.
use Prim.Native.Nat.{ℕ, suc, ◌≤◌, ◌<◌}
use native.Mathlib.Omega.{arith}
use mathlib.Core.Path.{◌≡◌, refl, sym, ap, ap₂, ◌∙◌, subst, subst⁻¹}
use mathlib.Core.Bool.{Bool, true, false}
use mathlib.Core.List.{List, [], ◌∷◌, ◌++◌, append_assoc}
use lib.Dec.{eqb}
use borrow.Author.Tests.{eqb-true, eqb-false}
use Rattle.machine.specs.Substitution.{RTerm, RTerms, app, rnil, rcons, Binding, resolve}
use Rattle.machine_theorems.proofs.Terms.{resolve_all, resolve-app, resolve-cons, grows-more}
use Rattle.run_layout.specs.Regions.{rows}
use Rattle.run_layout.specs.Nodes.{Symbol, terms_at, followed}
use Rattle.bindings.specs.declared.stack.Side.{Side}
use Rattle.unify.specs.Rows.{unify_rows}
use Rattle.unify.specs.Walks.{StopsAt, Walks}
use Rattle.unify.specs.Stacks.{whole_of, row_of, SameRows, no_term, WholesEqual}
use Rattle.std.proofs.Common.{Ok}
use Rattle.unify.proofs.Rules.{rows-done, rows-equal, equal-rows, tail-of, args-of-app}

-- ---- rows with the bindings put in

followed-none : (ts : RTerms) → followed ts rnil ≡ ts
unfolding followed
followed-none rnil = refl
followed-none (rcons t ts) = ap (rcons t) (followed-none ts)

module _ (b : List Binding) (ts us : RTerms) (e : resolve b (app [] ts) ≡ resolve b (app [] us)) where
  all-equal : resolve_all b ts ≡ resolve_all b us
  all-equal = args-of-app [] [] (resolve_all b ts) (resolve_all b us) (sym (resolve-app b [] ts) ∙ (e ∙ resolve-app b [] us))

  -- the same name before equal rows, and equal terms before them
  pub equal-named : (f : List ℕ) → resolve b (app f ts) ≡ resolve b (app f us)
  equal-named f = resolve-app b f ts ∙ (ap (app f) all-equal ∙ sym (resolve-app b f us))

  pub equal-cons : (t u : RTerm) → resolve b t ≡ resolve b u → resolve b (app [] (rcons t ts)) ≡ resolve b (app [] (rcons u us))
  equal-cons t u q =
      resolve-app b [] (rcons t ts) ∙ (ap (app []) (resolve-cons b t ts ∙ (ap₂ rcons q all-equal ∙ sym (resolve-cons b u us))) ∙ sym (resolve-app b [] (rcons u us)))

-- the first terms of equal rows are equal
pub equal-first : (b : List Binding) (t u : RTerm) (ts us : RTerms) → resolve b (app [] (rcons t ts)) ≡ resolve b (app [] (rcons u us)) → resolve b t ≡ resolve b u
equal-first b t u ts us e =
    tail-of (resolve b t) (resolve b u) (resolve_all b ts) (resolve_all b us)
    (sym (resolve-app b [] (rcons t ts) ∙ ap (app []) (resolve-cons b t ts)) ∙ (e ∙ (resolve-app b [] (rcons u us) ∙ ap (app []) (resolve-cons b u us))))

-- what the walk over two rows says of them
pub walk-equal : (ss : List Symbol) (nodes : List ℕ) (p e q f : ℕ) → Walks ss nodes p e q f (Ok tt) → (b : List Binding) (c d : ℕ) → resolve b (app [] (terms_at ss nodes p e c)) ≡ resolve b (app [] (terms_at ss nodes q f d))
walk-equal ss nodes p e q f w b c d =
    equal-rows b (terms_at ss nodes p e c) (terms_at ss nodes q f d)
    (ap₂ (unify_rows b) (sym (followed-none (terms_at ss nodes p e c))) (sym (followed-none (terms_at ss nodes q f d))) ∙ (w b c d rnil rnil ∙ rows-done b))

pub meet-equal : (ss : List Symbol) (nodes : List ℕ) (p e q f i j : ℕ) → StopsAt ss nodes p e q f i j → (b : List Binding) (c d : ℕ) → resolve b (app [] (terms_at ss nodes i e c)) ≡ resolve b (app [] (terms_at ss nodes j f d))
    → resolve b (app [] (terms_at ss nodes p e c)) ≡ resolve b (app [] (terms_at ss nodes q f d))
meet-equal ss nodes p e q f i j m b c d x =
    equal-rows b (terms_at ss nodes p e c) (terms_at ss nodes q f d)
    (ap₂ (unify_rows b) (sym (followed-none (terms_at ss nodes p e c))) (sym (followed-none (terms_at ss nodes q f d)))
    ∙ (m.means b c d rnil rnil ∙ (ap₂ (unify_rows b) (followed-none (terms_at ss nodes i e c)) (followed-none (terms_at ss nodes j f d)) ∙ rows-equal b (terms_at ss nodes i e c) (terms_at ss nodes j f d) x)))

-- ---- the stack

under : (k h : ℕ) → k < suc h → eqb k h ≡ false → k < h
under k h l q = let z : k ≡ h → ⊥ = eqb-false k h q in omega (arith, z)

module _ (ss : List Symbol) (nodes : List ℕ) (b : List Binding) (l r : ℕ → Side) where
  -- sides that are as they were
  pub closes-agree : (l' r' : ℕ → Side) (h : ℕ) (t u : RTerm) → ((k : ℕ) → k < h → l' k ≡ l k) → ((k : ℕ) → k < h → r' k ≡ r k) → WholesEqual ss nodes b l r h t u → WholesEqual ss nodes b l' r' h t u
  closes-agree l' r' h t u a a1 c =
      record {
        wholes = λ k o newer e rows.
            ap (λ (s : Side). resolve (newer ++ b) (whole_of ss nodes s)) (a k o)
            ∙ (c.wholes k o newer e (λ j x y. ap (λ (s : Side). resolve (newer ++ b) (app [] (row_of ss nodes s))) (sym (a j y)) ∙ (rows j x y ∙ ap (λ (s : Side). resolve (newer ++ b) (app [] (row_of ss nodes s))) (a1 j y)))
            ∙ sym (ap (λ (s : Side). resolve (newer ++ b) (whole_of ss nodes s)) (a1 k o)));
      }

  -- the two terms before the rows are equal already
  pub closes-settled : (h : ℕ) (t u : RTerm) → resolve b t ≡ resolve b u → WholesEqual ss nodes b l r h t u → WholesEqual ss nodes b l r h no_term no_term
  closes-settled h t u q c = record { wholes = λ k o newer e rows. c.wholes k o newer ((grows-more newer b).stays_equal t u q) rows }

  -- other terms before the rows, equal to these
  pub closes-terms : (h : ℕ) (t u t1 u1 : RTerm) → resolve b t1 ≡ resolve b t → resolve b u1 ≡ resolve b u → WholesEqual ss nodes b l r h t u → WholesEqual ss nodes b l r h t1 u1
  closes-terms h t u t1 u1 q q1 c = record { wholes = λ k o newer e rows. c.wholes k o newer (sym ((grows-more newer b).stays_equal t1 t q) ∙ (e ∙ (grows-more newer b).stays_equal u1 u q1)) rows }

  -- one binding more, which makes them equal
  pub closes-bound : (h : ℕ) (t u : RTerm) (new : Binding) → resolve (new ∷ b) t ≡ resolve (new ∷ b) u → WholesEqual ss nodes b l r h t u → WholesEqual ss nodes (new ∷ b) l r h no_term no_term
  closes-bound h t u new q c =
      record {
        wholes = λ k o newer e rows.
            subst (λ (y : List Binding). resolve y t ≡ resolve y u → ((j : ℕ) → k ≤ j → j < h → SameRows ss nodes y (l j) (r j)) → resolve y (whole_of ss nodes (l k)) ≡ resolve y (whole_of ss nodes (r k))) (append_assoc newer (new ∷ []) b)
            (c.wholes k o (newer ++ (new ∷ []))) ((grows-more newer (new ∷ b)).stays_equal t u q) rows;
      }

  -- the top gone, what is left of whose rows is the same
  pub closes-less : (h : ℕ) → SameRows ss nodes b (l h) (r h) → WholesEqual ss nodes b l r (suc h) no_term no_term → WholesEqual ss nodes b l r h no_term no_term
  closes-less h q c = record { wholes = λ k o newer e rows. c.wholes k (omega arith) newer e (λ j x y. go k newer rows j x y (eqb j h) refl) }
    where
      go : (k : ℕ) (newer : List Binding) → ((j : ℕ) → k ≤ j → j < h → SameRows ss nodes (newer ++ b) (l j) (r j)) → (j : ℕ) → k ≤ j → j < suc h → (z : Bool) → eqb j h ≡ z → SameRows ss nodes (newer ++ b) (l j) (r j)
      go k newer rows j x y true z = subst⁻¹ (λ (i : ℕ). SameRows ss nodes (newer ++ b) (l i) (r i)) (eqb-true j h z) ((grows-more newer b).stays_equal (app [] (row_of ss nodes (l h))) (app [] (row_of ss nodes (r h))) q)
      go k newer rows j x y false z = rows j x (under j h y z)

  -- the wholes of the first pair, whose rows are these
  pub closes-first : ((newer : List Binding) → SameRows ss nodes (newer ++ b) (l 0) (r 0) → resolve (newer ++ b) (whole_of ss nodes (l 0)) ≡ resolve (newer ++ b) (whole_of ss nodes (r 0))) → WholesEqual ss nodes b l r 1 no_term no_term
  closes-first f =
      record { wholes = λ k o newer e rows. subst⁻¹ (λ (i : ℕ). resolve (newer ++ b) (whole_of ss nodes (l i)) ≡ resolve (newer ++ b) (whole_of ss nodes (r i))) (let z : k ≡ 0 = omega arith in z) (f newer (rows 0 (omega arith) (omega arith))) }

  -- the top moved on within its rows, past two terms
  pub closes-moved : (l' r' : ℕ → Side) (h i j : ℕ) (t u : RTerm) → ((k : ℕ) → k < h → l' k ≡ l k) → ((k : ℕ) → k < h → r' k ≡ r k) → l' h ≡ record { root = (l h).root; at = i; copy = (l h).copy } → r' h ≡ record { root = (r h).root; at = j; copy = (r h).copy }
      → ((newer : List Binding) → resolve (newer ++ b) t ≡ resolve (newer ++ b) u → SameRows ss nodes (newer ++ b) (l' h) (r' h) → SameRows ss nodes (newer ++ b) (l h) (r h)) → WholesEqual ss nodes b l r (suc h) no_term no_term → WholesEqual ss nodes b l' r' (suc h) t u
  closes-moved l' r' h i j t u a a1 m m1 f c =
      record {
        wholes = λ k o newer e rows.
            ap (resolve (newer ++ b)) (whole l' l i a m k o (eqb k h) refl)
            ∙ (c.wholes k o newer refl (λ x y z. row newer e k rows x y z (eqb x h) refl) ∙ sym (ap (resolve (newer ++ b)) (whole r' r j a1 m1 k o (eqb k h) refl)));
      }
    where
      whole : (s' s : ℕ → Side) (p : ℕ) → ((k : ℕ) → k < h → s' k ≡ s k) → s' h ≡ record { root = (s h).root; at = p; copy = (s h).copy } → (k : ℕ) → k < suc h → (z : Bool) → eqb k h ≡ z → whole_of ss nodes (s' k) ≡ whole_of ss nodes (s k)
      whole s' s p w x k o true z = subst⁻¹ (λ (y : ℕ). whole_of ss nodes (s' y) ≡ whole_of ss nodes (s y)) (eqb-true k h z) (ap (whole_of ss nodes) x)
      whole s' s p w x k o false z = ap (whole_of ss nodes) (w k (under k h o z))

      row : (newer : List Binding) → resolve (newer ++ b) t ≡ resolve (newer ++ b) u → (k : ℕ) → ((x : ℕ) → k ≤ x → x < suc h → SameRows ss nodes (newer ++ b) (l' x) (r' x)) → (x : ℕ) → k ≤ x → x < suc h → (z : Bool) → eqb x h ≡ z → SameRows ss nodes (newer ++ b) (l x) (r x)
      row newer e k rows x y o true z =
          let q : x ≡ h = eqb-true x h z in
          subst⁻¹ (λ (y : ℕ). SameRows ss nodes (newer ++ b) (l y) (r y)) q (f newer e (rows h (omega arith) (omega arith)))
      row newer e k rows x y o false z =
          ap (λ (s : Side). resolve (newer ++ b) (app [] (row_of ss nodes s))) (sym (a x (under x h o z))) ∙ (rows x y o ∙ ap (λ (s : Side). resolve (newer ++ b) (app [] (row_of ss nodes s))) (a1 x (under x h o z)))

  -- the two terms opened as a new top
  pub closes-pushed : (l' r' : ℕ → Side) (h : ℕ) (t u : RTerm) → ((k : ℕ) → k < h → l' k ≡ l k) → ((k : ℕ) → k < h → r' k ≡ r k) → whole_of ss nodes (l' h) ≡ t → whole_of ss nodes (r' h) ≡ u
      → ((newer : List Binding) → SameRows ss nodes (newer ++ b) (l' h) (r' h) → resolve (newer ++ b) t ≡ resolve (newer ++ b) u) → WholesEqual ss nodes b l r h t u → WholesEqual ss nodes b l' r' (suc h) no_term no_term
  closes-pushed l' r' h t u a a1 m m1 f c = record { wholes = λ k o newer e rows. go k o newer rows (eqb k h) refl }
    where
      go : (k : ℕ) → k < suc h → (newer : List Binding) → ((x : ℕ) → k ≤ x → x < suc h → SameRows ss nodes (newer ++ b) (l' x) (r' x)) → (z : Bool) → eqb k h ≡ z → resolve (newer ++ b) (whole_of ss nodes (l' k)) ≡ resolve (newer ++ b) (whole_of ss nodes (r' k))
      go k o newer rows true z =
          let q : k ≡ h = eqb-true k h z in
          subst⁻¹ (λ (y : ℕ). resolve (newer ++ b) (whole_of ss nodes (l' y)) ≡ resolve (newer ++ b) (whole_of ss nodes (r' y))) q (ap (resolve (newer ++ b)) m ∙ (f newer (rows h (omega arith) (omega arith)) ∙ sym (ap (resolve (newer ++ b)) m1)))
      go k o newer rows false z =
          ap (λ (s : Side). resolve (newer ++ b) (whole_of ss nodes s)) (a k (under k h o z))
          ∙ (c.wholes k (under k h o z) newer (f newer (rows h (omega arith) (omega arith))) (λ x y w. ap (λ (s : Side). resolve (newer ++ b) (app [] (row_of ss nodes s))) (sym (a x w)) ∙ (rows x y (omega arith) ∙ ap (λ (s : Side). resolve (newer ++ b) (app [] (row_of ss nodes s))) (a1 x w)))
          ∙ sym (ap (λ (s : Side). resolve (newer ++ b) (whole_of ss nodes s)) (a1 k (under k h o z))))
