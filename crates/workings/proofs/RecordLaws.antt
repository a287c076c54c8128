-- Laws of a record, and from one to the next. Assumes nothing.
use Prim.Native.Nat.{ℕ, zero, suc, ◌+◌, ◌-◌, ◌*◌, ◌≤◌, ◌<◌}
use native.Mathlib.Omega.{arith}
use native.Mathlib.Numerals.{add-one}
use mathlib.Core.Path.{◌≡◌, refl, sym, ap, ◌∙◌, subst}
use mathlib.Core.Bool.{Bool, true, false, cond}
use mathlib.Core.List.{List, [], ◌∷◌}
use mathlib.Core.Option.{Option as Opt, none, some}
use Rattle.std.specs.Prelude.{Option, Some, None}
use lib.Dec.{leb, eqb}
use lib.ListN.{length, get_or, drop, length-drop}
use lib.Seq.{drop-cons, get_or-drop}
use borrow.Author.Tests.{eq-eqb, ne_eqb, le-leb, lt-leb, leb-true}
use Rattle.derivations.specs.Workings.{Records, malformed, next, body_bytes, record_bytes, numbered_of, choice_of, records_from}
use Rattle.derivations.specs.declared.Choice.{Choice}
use Rattle.derivations.specs.declared.Choice.TheVariants.{Numbered, Left, Right}
use Rattle.workings.specs.Records.{first_choice}

-- what stands at a place, by the kind there and the bytes behind it
abbrev pub by_choice : List ℕ → Opt Choice → Records
by_choice s o = elim o [ none ↦ malformed | some m ↦ next m (records_from (body_bytes m) s) ]

pub here : (s : List ℕ) (at : ℕ) → at < length s → records_from 0 (drop at s) ≡ by_choice (drop (at + 1) s) (choice_of (get_or s at 0) (drop (at + 1) s))
unfolding records_from
here s at h =
    ap (records_from 0) (drop-cons s at 0 h) ∙ ap (λ (k : ℕ). by_choice (drop k s) (choice_of (get_or s at 0) (drop k s))) (sym (add-one at))

-- nothing left
pub drop-all : (s : List ℕ) (at : ℕ) → length s - at ≡ 0 → drop at s ≡ []
drop-all [] zero h = refl
drop-all [] (suc at) h = refl
drop-all (x ∷ s) zero h = absurd (omega arith)
drop-all (x ∷ s) (suc at) h = drop-all s at (omega arith)

pub none-left : (s : List ℕ) (at : ℕ) → length s - at ≡ 0 → None ≡ first_choice (records_from 0 (drop at s))
unfolding records_from
none-left s at h = sym (ap (λ (x : List ℕ). first_choice (records_from 0 x)) (drop-all s at h))

-- by the kind
kind-one : (kind : ℕ) (s : List ℕ) → kind ≡ 1 → choice_of kind s ≡ numbered_of s
unfolding choice_of
kind-one kind s e = ap (λ (t : Bool). cond t (numbered_of s) (cond (eqb kind 2) (some Left) (cond (eqb kind 3) (some Right) none))) (eq-eqb kind 1 e)

not-one : (kind : ℕ) (s : List ℕ) → (kind ≡ 1 → ⊥) → choice_of kind s ≡ cond (eqb kind 2) (some Left) (cond (eqb kind 3) (some Right) none)
unfolding choice_of
not-one kind s h = ap (λ (t : Bool). cond t (numbered_of s) (cond (eqb kind 2) (some Left) (cond (eqb kind 3) (some Right) none))) (ne_eqb kind 1 h)

kind-two : (kind : ℕ) (s : List ℕ) → kind ≡ 2 → choice_of kind s ≡ some Left
kind-two kind s e = not-one kind s (λ q. omega arith) ∙ ap (λ (t : Bool). cond t (some Left) (cond (eqb kind 3) (some Right) none)) (eq-eqb kind 2 e)

not-two : (kind : ℕ) (s : List ℕ) → (kind ≡ 1 → ⊥) → (kind ≡ 2 → ⊥) → choice_of kind s ≡ cond (eqb kind 3) (some Right) none
not-two kind s h k = not-one kind s h ∙ ap (λ (t : Bool). cond t (some Left) (cond (eqb kind 3) (some Right) none)) (ne_eqb kind 2 k)

kind-three : (kind : ℕ) (s : List ℕ) → kind ≡ 3 → choice_of kind s ≡ some Right
kind-three kind s e = not-two kind s (λ q. omega arith) (λ q. omega arith) ∙ ap (λ (t : Bool). cond t (some Right) none) (eq-eqb kind 3 e)

kind-other : (kind : ℕ) (s : List ℕ) → (kind ≡ 1 → ⊥) → (kind ≡ 2 → ⊥) → (kind ≡ 3 → ⊥) → choice_of kind s ≡ none
kind-other kind s h k l = not-two kind s h k ∙ ap (λ (t : Bool). cond t (some Right) none) (ne_eqb kind 3 l)

-- the record there
module _ (s : List ℕ) (at : ℕ) (h : at < length s) where
  shown : (o : Opt Choice) → choice_of (get_or s at 0) (drop (at + 1) s) ≡ o → first_choice (records_from 0 (drop at s)) ≡ first_choice (by_choice (drop (at + 1) s) o)
  shown o e = ap first_choice (here s at h) ∙ ap (λ (x : Opt Choice). first_choice (by_choice (drop (at + 1) s) x)) e

  pub left-shown : get_or s at 0 ≡ 2 → Some Left ≡ first_choice (records_from 0 (drop at s))
  left-shown e = sym (shown (some Left) (kind-two (get_or s at 0) (drop (at + 1) s) e))

  pub right-shown : get_or s at 0 ≡ 3 → Some Right ≡ first_choice (records_from 0 (drop at s))
  right-shown e = sym (shown (some Right) (kind-three (get_or s at 0) (drop (at + 1) s) e))

  pub other-shown : (get_or s at 0 ≡ 1 → ⊥) → (get_or s at 0 ≡ 2 → ⊥) → (get_or s at 0 ≡ 3 → ⊥) → None ≡ first_choice (records_from 0 (drop at s))
  other-shown a b c = sym (shown none (kind-other (get_or s at 0) (drop (at + 1) s) a b c))

  cut : length s - at < 3 → numbered_of (drop (at + 1) s) ≡ none
  unfolding numbered_of
  cut l =
      ap (λ (t : Bool). cond t (some (Numbered (get_or (drop (at + 1) s) 0 0 + 256 * get_or (drop (at + 1) s) 1 0))) none) (lt-leb 2 (length (drop (at + 1) s)) (omega (arith, length-drop (at + 1) s)))

  pub cut-shown : get_or s at 0 ≡ 1 → length s - at < 3 → None ≡ first_choice (records_from 0 (drop at s))
  cut-shown e l = sym (shown none (kind-one (get_or s at 0) (drop (at + 1) s) e ∙ cut l))

  whole : (n : ℕ) → 3 ≤ length s - at → n ≡ get_or s (at + 1) 0 + 256 * get_or s ((at + 1) + 1) 0 → numbered_of (drop (at + 1) s) ≡ some (Numbered n)
  unfolding numbered_of
  whole n l e =
      ap (λ (t : Bool). cond t (some (Numbered (get_or (drop (at + 1) s) 0 0 + 256 * get_or (drop (at + 1) s) 1 0))) none) (le-leb 2 (length (drop (at + 1) s)) (omega (arith, length-drop (at + 1) s)))
      ∙ ap (λ (x : ℕ). some (Numbered x)) number
    where
      low : get_or (drop (at + 1) s) 0 0 ≡ get_or s (at + 1) 0
      low = get_or-drop (at + 1) s 0 0 ∙ ap (λ (k : ℕ). get_or s k 0) (let z : (at + 1) + 0 ≡ at + 1 = omega arith in z)

      high : get_or (drop (at + 1) s) 1 0 ≡ get_or s ((at + 1) + 1) 0
      high = get_or-drop (at + 1) s 1 0

      number : get_or (drop (at + 1) s) 0 0 + 256 * get_or (drop (at + 1) s) 1 0 ≡ n
      number = omega (arith, low, high, e)

  pub takes-shown : (n : ℕ) → get_or s at 0 ≡ 1 → 3 ≤ length s - at → n ≡ get_or s (at + 1) 0 + 256 * get_or s ((at + 1) + 1) 0 → Some (Numbered n) ≡ first_choice (records_from 0 (drop at s))
  takes-shown n k l e = sym (shown (some (Numbered n)) (kind-one (get_or s at 0) (drop (at + 1) s) k ∙ whole n l e))

-- ---- from a record to the next

-- past what is left of a body
skip : (n : ℕ) (s : List ℕ) → records_from n s ≡ records_from 0 (drop n s)
unfolding records_from
skip zero s = refl
skip (suc n) [] = refl
skip (suc n) (b ∷ s) = skip n s

drop-nil : (k : ℕ) → ◌≡◌ {A = List ℕ} (drop k []) []
drop-nil zero = refl
drop-nil (suc k) = refl

drop-drop : (m n : ℕ) (s : List ℕ) → drop m (drop n s) ≡ drop (n + m) s
drop-drop m zero s = ap (λ (k : ℕ). drop k s) (let z : m ≡ 0 + m = omega arith in z)
drop-drop m (suc n) [] = drop-nil m ∙ sym (drop-nil (suc n + m))
drop-drop m (suc n) (x ∷ s) = drop-drop m n s ∙ ap (λ (k : ℕ). drop k (x ∷ s)) (let z : suc (n + m) ≡ suc n + m = omega arith in z)

some-eq : (m n : Choice) → ◌≡◌ {A = Option Choice} (Some m) (Some n) → m ≡ n
some-eq m n e = cc

some-none : (m : Choice) → ◌≡◌ {A = Option Choice} (Some m) None → ⊥
some-none m e = let z : ◌≡◌ {A = ℕ} 0 1 = cc in omega arith

opt-none : (m : Choice) → ◌≡◌ {A = Opt Choice} none (some m) → ⊥
opt-none m e = let z : ◌≡◌ {A = ℕ} 0 1 = cc in omega arith

opt-eq : (m n : Choice) → ◌≡◌ {A = Opt Choice} (some m) (some n) → m ≡ n
opt-eq m n e = cc

-- a record's body lies within the bytes
body-fits : (kind : ℕ) (s : List ℕ) (m : Choice) → choice_of kind s ≡ some m → body_bytes m ≤ length s
unfolding choice_of numbered_of
body-fits kind s m e = go (eqb kind 1) (eqb kind 2) (eqb kind 3) (leb 2 (length s)) refl e
  where
    n : ℕ
    n = get_or s 0 0 + 256 * get_or s 1 0

    is : (x : Choice) → body_bytes x ≤ length s → ◌≡◌ {A = Opt Choice} (some x) (some m) → body_bytes m ≤ length s
    is x l q = subst (λ (y : Choice). body_bytes y ≤ length s) (opt-eq x m q) l

    go : (a b c d : Bool) → leb 2 (length s) ≡ d → ◌≡◌ {A = Opt Choice} (cond a (cond d (some (Numbered n)) none) (cond b (some Left) (cond c (some Right) none))) (some m) → body_bytes m ≤ length s
    go true b c true f q = is (Numbered n) (omega (arith, leb-true 2 (length s) f)) q
    go true b c false f q = absurd (opt-none m q)
    go false true c d f q = is Left (omega arith) q
    go false false true d f q = is Right (omega arith) q
    go false false false d f q = absurd (opt-none m q)

-- where the next record begins
pub record Onward (s : List ℕ) (at : ℕ) (m : Choice) : Type 0 where
  pub fits : at + record_bytes m ≤ length s
  pub is : records_from 0 (drop at s) ≡ next m (records_from 0 (drop (at + record_bytes m) s))

pub onward : (s : List ℕ) (at : ℕ) (m : Choice) → Some m ≡ first_choice (records_from 0 (drop at s)) → Onward s at m
onward s at m e = go (length s - at) refl
  where
    by : (h : at < length s) (o : Opt Choice) → choice_of (get_or s at 0) (drop (at + 1) s) ≡ o → Onward s at m
    by h none q = absurd (some-none m (e ∙ shown s at h none q))
    by h (some n) q =
        let same : m ≡ n = some-eq m n (e ∙ shown s at h (some n) q) in
        subst (Onward s at) (sym same)
        (record {
          fits = omega (arith, h, length-drop (at + 1) s, body-fits (get_or s at 0) (drop (at + 1) s) n q);
          is = here s at h ∙ ap (by_choice (drop (at + 1) s)) q
              ∙ ap (next n) (skip (body_bytes n) (drop (at + 1) s) ∙ ap (records_from 0) (drop-drop (body_bytes n) (at + 1) s ∙ ap (λ (k : ℕ). drop k s) (let z : (at + 1) + body_bytes n ≡ at + record_bytes n = omega arith in z)));
        })

    go : (k : ℕ) → length s - at ≡ k → Onward s at m
    go zero h = absurd (some-none m (e ∙ sym (none-left s at h)))
    go (suc k) h = by (omega arith) (choice_of (get_or s at 0) (drop (at + 1) s)) refl
