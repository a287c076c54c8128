-- Laws of one entry, of how many entries a list takes, and of entries stored one after another. Assumes nothing.
use Prim.Native.Nat.{ℕ, zero, suc, ◌+◌, ◌*◌, ◌≤◌, ◌<◌}
use native.Mathlib.Omega.{arith}
use mathlib.Core.Path.{◌≡◌, refl, sym, ap, ap₂, ◌∙◌, subst}
use mathlib.Core.Bool.{Bool, true, false, cond, not}
use mathlib.Core.List.{List, [], ◌∷◌}
use lib.ListN.{length, get_or, set}
use lib.Dec.{T, leb, leb→le, nleb→lt}
use borrow.Author.Tests.{le-leb, lt-leb}
use Rattle.syntax.specs.Words.{declaration_size}
use Rattle.syntax.specs.Terms.{Declaration}
use Rattle.syntax.specs.Verdicts.{nth_entry, entry_of}
use Rattle.syntax.specs.Verdicts.{Verdict}
use Rattle.std.specs.Prelude.{Some, None, Ok, Err, min}
use Rattle.syntax.specs.declared.Counts.{Counts}
use Rattle.syntax.specs.declared.Fault.{Fault}
use Rattle.syntax.specs.declared.Entry.{Entry}
use Rattle.output.specs.Listings.{overlay, listed_of, pasted, entry_words}

-- ---- one entry of a table

pub entry-none : (declared : List ℕ) (n i : ℕ) → n ≤ i → None ≡ entry_words declared n i
entry-none declared n i h = simp (le-leb n i h)

pub entry-some : (declared : List ℕ) (n i a l m : ℕ) → i < n → a ≡ get_or declared (declaration_size * i) 0 → l ≡ get_or declared (declaration_size * i + 1) 0 → m ≡ get_or declared (declaration_size * i + 2) 0 → Some (record { at = a; len = l; arguments = m }) ≡ entry_words declared n i
entry-some declared n i a l m h ea el em = ap (λ (x : ℕ). Some (record { at = x; len = l; arguments = m })) ea ∙ ap₂ (λ (x y : ℕ). Some (record { at = get_or declared (declaration_size * i) 0; len = x; arguments = y })) el em ∙ simp (lt-leb n i h)

-- ---- how many entries a list takes

least-cond : (n room : ℕ) (b : Bool) → leb n room ≡ b → min n room ≡ cond b n room
least-cond n room true e = let h : n ≤ room = leb→le n room (subst T (sym e) tt) in omega arith
least-cond n room false e = let h : room < n = nleb→lt n room (subst (λ (x : Bool). T (not x)) (sym e) tt) in omega arith

pub listed-accepted : (v : Verdict) (counts : Counts) (room : ℕ) → v ≡ Ok counts → min counts.declarations room ≡ listed_of v room
unfolding listed_of
listed-accepted v counts room e = least-cond counts.declarations room (leb counts.declarations room) refl ∙ ap (λ (w : Verdict). listed_of w room) (sym e)

pub listed-refused : (v : Verdict) (fault : Fault) (room : ℕ) → v ≡ Err fault → 0 ≡ listed_of v room
unfolding listed_of
listed-refused v fault room e = ap (λ (w : Verdict). listed_of w room) (sym e)

pub least_by : (n room : ℕ) (b : Bool) → leb n room ≡ b → (cond b n room ≤ n) × (cond b n room ≤ room) × (cond b n room < n → room ≤ cond b n room)
least_by n room true e =
    let h : n ≤ room = leb→le n room (subst T (sym e) tt) in
    let a : n ≤ n = omega arith in
    (a, h, λ l. absurd (let z : n < n = l in omega (arith, z)))
least_by n room false e =
    let h : room < n = nleb→lt n room (subst (λ (x : Bool). T (not x)) (sym e) tt) in
    let a : room ≤ n = omega arith in
    let b : room ≤ room = omega arith in
    (a, b, λ l. b)

-- ---- entries stored one after another

pasted-cons : (f : ℕ → Entry) (k : ℕ) (e : Entry) (es : List Entry) → pasted f (suc k) (e ∷ es) ≡ f 0 ∷ pasted (λ i. f (suc i)) k es
unfolding pasted
pasted-cons f zero e es = refl
pasted-cons f (suc k) e es = ap (λ (l : List Entry). set l (suc k) (f (suc k))) (pasted-cons f k e es)

pub pasted-overlay : (f : ℕ → Entry) (es : List Entry) (ds : List Declaration) (k : ℕ) → ((i : ℕ) → i < length ds → nth_entry ds i ≡ Some (f i)) → k ≤ length ds → k ≤ length es → (k < length ds → length es ≤ k) → pasted f k es ≡ overlay es ds
unfolding pasted overlay nth_entry
pasted-overlay f [] ds zero g a b c = refl
pasted-overlay f [] ds (suc k) g a b c = absurd (omega (arith, b))
pasted-overlay f (e ∷ es) [] zero g a b c = refl
pasted-overlay f (e ∷ es) [] (suc k) g a b c = absurd (omega (arith, a))
pasted-overlay f (e ∷ es) (d ∷ ds) zero g a b c = absurd (let z : suc (length es) ≤ 0 = c (omega arith) in omega (arith, z))
pasted-overlay f (e ∷ es) (d ∷ ds) (suc k) g a b c =
    let first : Some (entry_of d) ≡ Some (f 0) = g 0 (omega arith) in
    let head : f 0 ≡ entry_of d = cc in
    pasted-cons f k e es ∙ ap₂ (λ (x : Entry) (xs : List Entry). x ∷ xs) head (pasted-overlay (λ i. f (suc i)) es ds k (λ i h. g (suc i) (omega (arith, h))) (omega (arith, a)) (omega (arith, b)) (λ h. let z : suc (length es) ≤ suc k = c (omega (arith, h)) in omega (arith, z)))
