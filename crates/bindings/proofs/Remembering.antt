-- Laws of the memo. Assumes nothing.
use Prim.Native.Nat.{ℕ, zero, suc, ◌+◌, ◌*◌, ◌/◌, ◌%◌, ◌-◌, ◌≤◌, ◌<◌}
use native.Mathlib.Omega.{arith}
use mathlib.Core.Path.{◌≡◌, refl, sym, ap, ap₂, ◌∙◌, subst, subst⁻¹}
use mathlib.Core.Bool.{Bool, true, false}
use mathlib.Core.List.{List, ◌∷◌}
use mathlib.Core.Logic.{inl, inr}
use Rattle.std.proofs.Common.{Option, Some}
use lib.Dec.{eqb}
use lib.ListN.{length, get_or, set, length-set}
use lib.Seq.{get_or-set_same, get_or-set_other}
use borrow.Author.Tests.{eqb-true, eqb-false}
use Rattle.machine.specs.Substitution.{RTerm, replace, Binding, resolve}
use Rattle.run_layout.specs.Regions.{copies, cut_list, memo, rows_word, slots, slot_count, keys, key_count, class_count, memo_class, weights, rows, row_words, memo_row}
use Rattle.run_layout.specs.Nodes.{Symbol, term_at}
use Rattle.run_layout.specs.State.{word_of, value_of}
use Rattle.run_layout.proofs.State.{node-word, copy-word}
use Rattle.run_layout.specs.Halves.{half, stored}
use Rattle.run_layout.proofs.Halves.{half-stored, half-apart}
use Rattle.bindings.specs.Cuts.{cuts_made}
use Rattle.bindings.specs.Chains.{Eased}
use Rattle.bindings.proofs.ShortcutsLaws.{cuts-none, cuts-kept, cuts-bound}
use Rattle.bindings.specs.Memos.{classes_made, rows_made, key_of, class_term, link_of, class_in, ClassNumber, Rowed, Entered, SameClass, Belongs, Shows, Links, Memo, KnownEqual, Reaches, Cleared, Kept, Opens, Assigns, Fresh, ClassesLinked, MemoEmptied, Remembers, Weighed, first_class, shift}

-- ---- what its words mean

pub value-word : (ss : List Symbol) (nodes : List ℕ) (p c : ℕ) → c < copies → value_of ss nodes (word_of p c) ≡ term_at ss nodes p c
unfolding value_of
value-word ss nodes p c l = ap₂ (term_at ss nodes) (node-word p c l) (copy-word p c l)

-- classes that are kept, perhaps with more of them
module _ (before after : List ℕ) (more : classes_made before ≤ classes_made after) (kept : (i : ℕ) → ClassNumber before i → class_term after i ≡ class_term before i) where
  pub number-on : (i : ℕ) → ClassNumber before i → ClassNumber after i
  number-on i n = record { low = n.low; below = (let z : i < classes_made before = n.below in omega arith); small = n.small }

  pub same-on : (meaning : ℕ → RTerm) (i j : ℕ) → ClassNumber before i → SameClass meaning before i j → SameClass meaning after i j
  same-on meaning i j n x = record { numbered = number-on j x.numbered; same = ap meaning (kept i n) ∙ (x.same ∙ sym (ap meaning (kept j x.numbered))) }

  pub belongs-on : (meaning : ℕ → RTerm) (term i : ℕ) → Belongs meaning before term i → Belongs meaning after term i
  belongs-on meaning term i b = record { numbered = number-on i b.numbered; same = b.same ∙ sym (ap meaning (kept i b.numbered)) }

  pub shows-on : (meaning : ℕ → RTerm) (k v : ℕ) → class_in after k v ≡ class_in before k v → Shows meaning before k v → Shows meaning after k v
  shows-on meaning k v e (inl z) = inl (e ∙ z)
  shows-on meaning k v e (inr b) = inr (subst⁻¹ (Belongs meaning after (v - shift)) e (belongs-on meaning (v - shift) (class_in before k v) b))

  -- no class more, and the rows are as they were
  pub links-on : classes_made after ≡ classes_made before → rows_made after ≡ rows_made before → ((k : ℕ) → k < key_count → key_of after k ≡ key_of before k) → ((k v : ℕ) → class_in after k v ≡ class_in before k v)
      → (meaning : ℕ → RTerm) → ((i j : ℕ) → ClassNumber before i → link_of after i ≡ j + 1 → j < class_count → SameClass meaning before i j) → Links meaning before → Links meaning after
  links-on t r same_keys numbers meaning f m =
      record {
        links = λ i j n l s. (let o : ClassNumber before i = record { low = n.low; below = (let z : i < classes_made after = n.below in omega arith); small = n.small } in same-on meaning i j o (f i j o l s));
        entries = λ k v b s x e. shows-on meaning k v (numbers k v) (m.entries k v (omega arith) s (omega arith) (e ∙ same_keys k s));
      }

-- the memo's words but the slots and the weights are as they were
pub links-kept : (before after : List ℕ) → ((j : ℕ) → memo ≤ j → j < slots → get_or after j 0 ≡ get_or before j 0) → ((j : ℕ) → keys ≤ j → j < weights → get_or after j 0 ≡ get_or before j 0) → ((j : ℕ) → rows ≤ j → get_or after j 0 ≡ get_or before j 0) → (meaning : ℕ → RTerm) → Links meaning before → Links meaning after
links-kept before after counts low high meaning m =
    let t : classes_made after ≡ classes_made before = counts memo (omega arith) (omega arith) in
    links-on before after (omega arith) (λ i n. (let l : i < class_count = n.small in low (memo_class i) (omega arith) (omega arith))) t (counts rows_word (omega arith) (omega arith)) (λ k l. low (keys + k) (omega arith) (omega arith))
    (λ k v. ap (half (v / row_words % 2)) (high (memo_row k + v % row_words) (omega arith))) meaning
    (λ i j n l s. (let o : i < class_count = n.small in m.links i j n (sym (low (memo_class i + 1) (omega arith) (omega arith)) ∙ l) s)) m

-- no number, and no row if there could be one
pub links-none : (meaning : ℕ → RTerm) (scratch : List ℕ) → classes_made scratch ≤ first_class → (first_class ≤ classes_made scratch → rows_made scratch ≡ 0) → Links meaning scratch
links-none meaning scratch e f =
    record {
      links = λ i j n l s. absurd (let a : first_class ≤ i = n.low in let z : i < classes_made scratch = n.below in omega arith);
      entries = λ k v r s t d. absurd (let z : rows_made scratch ≡ 0 = f t in omega arith);
    }

pub memo-none : (ss : List Symbol) (nodes : List ℕ) (b : List Binding) (scratch : List ℕ) → classes_made scratch ≡ 0 → cuts_made scratch ≡ 0 → Memo ss nodes b scratch
memo-none ss nodes b scratch e f = record { links = links-none (λ (w : ℕ). resolve b (value_of ss nodes w)) scratch (omega arith) (λ l. absurd (omega arith)); cuts = cuts-none b scratch f }

-- another meaning that follows from the first
module _ (meaning : ℕ → RTerm) (f : RTerm → RTerm) (scratch : List ℕ) where
  shows-mapped : (k v : ℕ) → Shows meaning scratch k v → Shows (λ (w : ℕ). f (meaning w)) scratch k v
  shows-mapped k v (inl z) = inl z
  shows-mapped k v (inr b) = inr (record { numbered = b.numbered; same = ap f b.same })

  links-mapped : Links meaning scratch → Links (λ (w : ℕ). f (meaning w)) scratch
  links-mapped m =
      record {
        links = λ i j n l s. (let x : SameClass meaning scratch i j = m.links i j n l s in record { numbered = x.numbered; same = ap f x.same });
        entries = λ k v r s t e. shows-mapped k v (m.entries k v r s t e);
      }

module _ (ss : List Symbol) (nodes : List ℕ) (b : List Binding) (before : List ℕ) (m : Memo ss nodes b before) where
  pub memo-kept : (after : List ℕ) → ((j : ℕ) → cut_list ≤ j → get_or after j 0 ≡ get_or before j 0) → Memo ss nodes b after
  memo-kept after w = record { links = links-kept before after (λ j a b. w j (omega arith)) (λ j a b. w j (omega arith)) (λ j a. w j (omega arith)) (λ (x : ℕ). resolve b (value_of ss nodes x)) m.links; cuts = cuts-kept b before after (λ j l h. w j l) m.cuts }

  -- only cuts changed
  pub memo-eased : (after : List ℕ) → Eased true b before after → Memo ss nodes b after
  memo-eased after e = record { links = links-kept before after e.beside.counts (λ j l h. e.beside.high j l) (λ j l. e.beside.high j (omega arith)) (λ (x : ℕ). resolve b (value_of ss nodes x)) m.links; cuts = e.cuts tt }

  -- one binding more
  pub memo-bound : (new : Binding) → Memo ss nodes (new ∷ b) before
  unfolding resolve
  memo-bound new = record { links = links-mapped (λ (w : ℕ). resolve b (value_of ss nodes w)) (replace new.variable new.term) before m.links; cuts = cuts-bound b before new m.cuts }

  pub memo-found : (left right : ℕ) → KnownEqual before left right → resolve b (value_of ss nodes left) ≡ resolve b (value_of ss nodes right)
  memo-found left right f = f.is (λ (w : ℕ). resolve b (value_of ss nodes w)) m.links

  pub memo-remembers : (after : List ℕ) (left right : ℕ) → Remembers before after left right → resolve b (value_of ss nodes left) ≡ resolve b (value_of ss nodes right) → Memo ss nodes b after
  memo-remembers after left right k e = record { links = k.links (λ (w : ℕ). resolve b (value_of ss nodes w)) e m.links; cuts = cuts-kept b before after (λ j l h. k.words j h) m.cuts }

-- ---- beginning

pub begins : (before : List ℕ) (k limit : ℕ) → rows ≤ length before → k ≤ first_class → MemoEmptied before (set (set (set before rows_word 0) weights limit) memo k)
begins before k limit long few =
    let e : length (set before rows_word 0) ≡ length before = length-set before rows_word 0 in
    let e1 : length (set (set before rows_word 0) weights limit) ≡ length (set before rows_word 0) = length-set (set before rows_word 0) weights limit in
    record {
      long = length-set (set (set before rows_word 0) weights limit) memo k ∙ (e1 ∙ e);
      words = λ j l. get_or-set_other (set (set before rows_word 0) weights limit) memo j k 0 (λ z. omega arith) ∙ (get_or-set_other (set before rows_word 0) weights j limit 0 (λ z. omega arith) ∙ get_or-set_other before rows_word j 0 0 (λ z. omega arith));
      links = λ meaning. links-none meaning (set (set (set before rows_word 0) weights limit) memo k)
          (let z : classes_made (set (set (set before rows_word 0) weights limit) memo k) ≡ k = get_or-set_same (set (set before rows_word 0) weights limit) memo k 0 (omega arith) in omega arith)
          (λ l. get_or-set_other (set (set before rows_word 0) weights limit) memo rows_word k 0 (λ z. omega arith) ∙ (get_or-set_other (set before rows_word 0) weights rows_word limit 0 (λ z. omega arith) ∙ get_or-set_same before rows_word 0 0 (omega arith)));
    }

pub begins-remembers : (before after : List ℕ) (left right : ℕ) → MemoEmptied before after → Remembers before after left right
begins-remembers before after left right b = record { long = b.long; words = b.words; links = λ meaning e m. b.links meaning }

-- ---- a class more

module _ (before : List ℕ) (m term : ℕ) (long : rows ≤ length before) (is : m ≡ classes_made before) (low : first_class ≤ m) (room : m < class_count) where
  abbrev pub first : List ℕ
  first = set before (memo_class m) term

  abbrev pub second : List ℕ
  second = set first (memo_class m + 1) 0

  abbrev pub last : List ℕ
  last = set second memo (m + 1)

  first-long : length first ≡ length before
  first-long = length-set before (memo_class m) term

  second-long : length second ≡ length before
  second-long = length-set first (memo_class m + 1) 0 ∙ first-long

  last-long : length last ≡ length before
  last-long = length-set second memo (m + 1) ∙ second-long

  -- a word that is none of the three
  elsewhere : (j : ℕ) → (j ≡ memo_class m → ⊥) → (j ≡ memo_class m + 1 → ⊥) → (j ≡ memo → ⊥) → get_or last j 0 ≡ get_or before j 0
  elsewhere j b c d = get_or-set_other second memo j (m + 1) 0 d ∙ (get_or-set_other first (memo_class m + 1) j 0 0 c ∙ get_or-set_other before (memo_class m) j term 0 b)

  count-is : classes_made last ≡ m + 1
  count-is = get_or-set_same second memo (m + 1) 0 (let e : length second ≡ length before = second-long in omega arith)

  term_is : class_term last m ≡ term
  term_is =
      get_or-set_other second memo (memo_class m) (m + 1) 0 (λ e. omega arith)
      ∙ (get_or-set_other first (memo_class m + 1) (memo_class m) 0 0 (λ e. omega arith) ∙ get_or-set_same before (memo_class m) term 0 (omega arith))

  link-is : link_of last m ≡ 0
  link-is =
      get_or-set_other second memo (memo_class m + 1) (m + 1) 0 (λ e. omega arith)
      ∙ get_or-set_same first (memo_class m + 1) 0 0 (let e : length first ≡ length before = first-long in omega arith)

  -- the classes before it
  term-stays : (i : ℕ) → ClassNumber before i → class_term last i ≡ class_term before i
  term-stays i n = let l : i < classes_made before = n.below in elsewhere (memo_class i) (λ e. omega arith) (λ e. omega arith) (λ e. omega arith)

  place-stays : (k v : ℕ) → class_in last k v ≡ class_in before k v
  place-stays k v = ap (half (v / row_words % 2)) (elsewhere (memo_row k + v % row_words) (λ e. omega arith) (λ e. omega arith) (λ e. omega arith))

  grows : classes_made before ≤ classes_made last
  grows = let e : classes_made last ≡ m + 1 = count-is in omega arith

  links-more : (meaning : ℕ → RTerm) → Links meaning before → (i j : ℕ) → ClassNumber last i → link_of last i ≡ j + 1 → j < class_count → SameClass meaning last i j
  links-more meaning k i j n l t = go (eqb i m) refl
    where
      go : (z : Bool) → eqb i m ≡ z → SameClass meaning last i j
      go true z = absurd (let q : link_of last i ≡ 0 = subst⁻¹ (λ (x : ℕ). link_of last x ≡ 0) (eqb-true i m z) link-is in let r : j + 1 ≡ 0 = sym l ∙ q in omega arith)
      go false z =
          let d : i ≡ m → ⊥ = eqb-false i m z in
          let e : classes_made last ≡ m + 1 = count-is in
          let u : i < classes_made last = n.below in
          let y : i < m = omega (arith, d) in
          let o : ClassNumber before i = record { low = n.low; below = omega arith; small = n.small } in
          same-on before last grows term-stays meaning i j o (k.links i j o (sym (elsewhere (memo_class i + 1) (λ e. omega arith) (λ e. omega arith) (λ e. omega arith)) ∙ l) t)

  pub fresh-class : Fresh before last term m
  fresh-class =
      record {
        long = last-long;
        words = λ j l. elsewhere j (λ e. omega arith) (λ e. omega arith) (λ e. omega arith);
        numbered = record { low = low; below = (let e : classes_made last ≡ m + 1 = count-is in omega arith); small = room };
        is = term_is;
        links = λ meaning k. record {
          links = links-more meaning k;
          entries = λ r v b s t e.
              shows-on before last grows term-stays meaning r v (place-stays r v)
              (k.entries r v (let z : rows_made last ≡ rows_made before = elsewhere rows_word (λ e. omega arith) (λ e. omega arith) (λ e. omega arith) in omega arith) s (omega arith)
              (e ∙ elsewhere (keys + r) (λ e. omega arith) (λ e. omega arith) (λ e. omega arith)));
        };
      }

-- ---- a link

abbrev pub relinked : List ℕ → ℕ → ℕ → List ℕ
relinked before i link = set before (memo_class i + 1) link

module _ (before : List ℕ) (i link : ℕ) (long : rows ≤ length before) (small : i < class_count) where
  pub relinked-long : length (relinked before i link) ≡ length before
  relinked-long = length-set before (memo_class i + 1) link

  other_word : (j : ℕ) → (j ≡ memo_class i + 1 → ⊥) → get_or (relinked before i link) j 0 ≡ get_or before j 0
  other_word j d = get_or-set_other before (memo_class i + 1) j link 0 d

  pub relinked-words : (j : ℕ) → j < memo → get_or (relinked before i link) j 0 ≡ get_or before j 0
  relinked-words j l = other_word j (λ e. omega arith)

  link-now : link_of (relinked before i link) i ≡ link
  link-now = get_or-set_same before (memo_class i + 1) link 0 (omega arith)

  -- where the link leads, if anywhere, is a class of the same meaning
  pub relinks : (meaning : ℕ → RTerm) → ((j : ℕ) → link ≡ j + 1 → j < class_count → SameClass meaning before i j) → Links meaning before → Links meaning (relinked before i link)
  relinks meaning f m =
      let t : classes_made (relinked before i link) ≡ classes_made before = other_word memo (λ e. omega arith) in
      links-on before (relinked before i link) (omega arith) (λ x n. other_word (memo_class x) (λ e. omega arith)) t (other_word rows_word (λ e. omega arith)) (λ k l. other_word (keys + k) (λ e. omega arith))
      (λ k v. ap (half (v / row_words % 2)) (other_word (memo_row k + v % row_words) (λ e. omega arith))) meaning (λ x j n l s. go x j n l s (eqb x i) refl) m
    where
      go : (x j : ℕ) → ClassNumber before x → link_of (relinked before i link) x ≡ j + 1 → j < class_count → (z : Bool) → eqb x i ≡ z → SameClass meaning before x j
      go x j n l s true z =
          let e : x ≡ i = eqb-true x i z in
          subst⁻¹ (λ (y : ℕ). SameClass meaning before y j) e (f j (sym link-now ∙ (subst (λ (y : ℕ). link_of (relinked before i link) y ≡ j + 1) e l)) s)
      go x j n l s false z = let d : x ≡ i → ⊥ = eqb-false x i z in m.links x j n (sym (other_word (memo_class x + 1) (λ e. omega (arith, d))) ∙ l) s

-- ---- two classes in one

pub joined-left : (before : List ℕ) (a b : ℕ) → rows ≤ length before → a < class_count → b < class_count → (after : List ℕ) → after ≡ relinked before a (b + 1) → ClassesLinked before after a b
joined-left before a b long sa sb after e =
    subst⁻¹ (λ (l : List ℕ). ClassesLinked before l a b) e
    (record {
      long = relinked-long before a (b + 1) long sa;
      words = relinked-words before a (b + 1) long sa;
      links = λ meaning k n s.
          relinks before a (b + 1) long sa meaning (λ j l t. subst (SameClass meaning before a) (let z : b ≡ j = omega arith in z) s) k;
    })

pub joined-right : (before : List ℕ) (a b rank : ℕ) → rows ≤ length before → a < class_count → b < class_count → class_count < rank → (mid after : List ℕ) → mid ≡ relinked before b (a + 1)
    → after ≡ relinked mid a rank → ClassesLinked before after a b
joined-right before a b rank long sa sb high mid after e f =
    subst⁻¹ (λ (l : List ℕ). ClassesLinked before l a b) (f ∙ ap (λ (l : List ℕ). relinked l a rank) e)
    (record {
      long = relinked-long first a rank first-long sa ∙ relinked-long before b (a + 1) long sb;
      words = λ j l. relinked-words first a rank first-long sa j l ∙ relinked-words before b (a + 1) long sb j l;
      links = λ meaning k n s.
          relinks first a rank first-long sa meaning (λ j l t. absurd (omega arith))
          (relinks before b (a + 1) long sb meaning
          (λ j l t. subst (SameClass meaning before b) (let z : a ≡ j = omega arith in z) (record { numbered = n; same = sym s.same })) k);
    })
  where
    first : List ℕ
    first = relinked before b (a + 1)

    first-long : rows ≤ length first
    first-long = let e1 : length first ≡ length before = relinked-long before b (a + 1) long sb in omega arith

-- numbers of one meaning lead to numbers of one meaning
pub merged : (before after : List ℕ) (i j a b : ℕ) → Reaches before i a → Reaches before j b → ClassesLinked before after a b → ClassesLinked before after i j
merged before after i j a b ra rb h =
    record {
      long = h.long;
      words = h.words;
      links = λ meaning m n s.
          (let x : SameClass meaning before i a = ra.is meaning m n in
          let y : SameClass meaning before j b = rb.is meaning m s.numbered in
          h.links meaning m x.numbered (record { numbered = y.numbered; same = sym x.same ∙ (s.same ∙ y.same) }));
    }

-- links followed so far
pub reaches-on : (scratch : List ℕ) (i r w : ℕ) → Reaches scratch i r → w ≡ link_of scratch r → (w ≡ 0 → ⊥) → w ≤ class_count → (s : ℕ) → s ≡ w - 1 → Reaches scratch i s
reaches-on scratch i r w h e n l s es =
    record {
      is = λ meaning k x.
          (let a : SameClass meaning scratch i r = h.is meaning k x in
          let b : SameClass meaning scratch r s = k.links r s a.numbered (let z : link_of scratch r ≡ s + 1 = omega (arith, n) in z) (omega (arith, n)) in
          record { numbered = b.numbered; same = a.same ∙ b.same });
    }

-- ---- looking terms up

pub number-of-half : (scratch : List ℕ) (k v w r : ℕ) → w ≡ get_or scratch (memo_row k + v % row_words) 0 → r ≡ half (v / row_words % 2) w → r ≡ class_in scratch k v
number-of-half scratch k v w r e h = h ∙ ap (half (v / row_words % 2)) e

-- a term has the meaning of its number's class
pub entered-belongs : (meaning : ℕ → RTerm) (scratch : List ℕ) (term i : ℕ) → Links meaning scratch → first_class ≤ classes_made scratch → Entered scratch term i → Belongs meaning scratch term i
entered-belongs meaning scratch term i m t e = go (m.entries e.row (term + shift) e.rowed.below e.rowed.small t (sym e.rowed.names))
  where
    go : Shows meaning scratch e.row (term + shift) → Belongs meaning scratch term i
    go (inl z) = absurd (e.some (sym e.is ∙ z))
    go (inr b) = subst (λ (x : ℕ). Belongs meaning scratch x i) (let z : term + shift - shift ≡ term = omega arith in z) (subst (Belongs meaning scratch (term + shift - shift)) e.is b)

-- ---- a row more

kept-none : (before : List ℕ) → Kept before before
kept-none before = record { long = refl; words = λ j l. refl; same_classes = λ j a b. refl }

-- classes that are as they were
module _ (before after : List ℕ) (w : Kept before after) where
  pub kept-terms : classes_made after ≡ classes_made before
  kept-terms = w.words memo (omega arith)

  kept_more : classes_made before ≤ classes_made after
  kept_more = let e : classes_made after ≡ classes_made before = kept-terms in omega arith

  kept-term : (i : ℕ) → ClassNumber before i → class_term after i ≡ class_term before i
  kept-term i n = let l : i < class_count = n.small in w.same_classes (memo_class i) (omega arith) (omega arith)

  pub kept-belongs : (meaning : ℕ → RTerm) (term i : ℕ) → Belongs meaning before term i → Belongs meaning after term i
  kept-belongs = belongs-on before after kept_more kept-term

  pub kept-shows : (meaning : ℕ → RTerm) (k v : ℕ) → class_in after k v ≡ class_in before k v → Shows meaning before k v → Shows meaning after k v
  kept-shows = shows-on before after kept_more kept-term

  pub kept-links : (meaning : ℕ → RTerm) → Links meaning before → (i j : ℕ) → ClassNumber after i → link_of after i ≡ j + 1 → j < class_count → SameClass meaning after i j
  kept-links meaning m i j n l s =
      let t : classes_made after ≡ classes_made before = kept-terms in
      let z : i < classes_made after = n.below in
      let u : i < class_count = n.small in
      let o : ClassNumber before i = record { low = n.low; below = omega arith; small = n.small } in
      same-on before after kept_more kept-term meaning i j o (m.links i j o (sym (w.same_classes (memo_class i + 1) (omega arith) (omega arith)) ∙ l) s)

half-zero : (h : ℕ) → half h 0 ≡ 0
unfolding half
half-zero zero = refl
half-zero (suc h) = refl

-- row k cleared, its node, a slot, the count
module _ (before clean : List ℕ) (k s key : ℕ) (is : k ≡ rows_made before) (small : k < key_count) (slot : s < slot_count) (fits : memo_row k + row_words ≤ length before) (c : Cleared before clean (memo_row k) row_words) where
  abbrev named : List ℕ
  named = set clean (keys + k) key

  abbrev hinted : List ℕ
  hinted = set named (slots + s) k

  abbrev pub opened : List ℕ
  opened = set hinted rows_word (k + 1)

  hinted-long : length hinted ≡ length before
  hinted-long = length-set named (slots + s) k ∙ (length-set clean (keys + k) key ∙ c.long)

  aside : (j : ℕ) → (j ≡ keys + k → ⊥) → (j ≡ slots + s → ⊥) → (j ≡ rows_word → ⊥) → get_or opened j 0 ≡ get_or clean j 0
  aside j a b d = get_or-set_other hinted rows_word j (k + 1) 0 d ∙ (get_or-set_other named (slots + s) j k 0 b ∙ get_or-set_other clean (keys + k) j key 0 a)

  opened-count : rows_made opened ≡ k + 1
  opened-count = get_or-set_same hinted rows_word (k + 1) 0 (let e : length hinted ≡ length before = hinted-long in omega arith)

  opened-key : key_of opened k ≡ key
  opened-key =
      get_or-set_other hinted rows_word (keys + k) (k + 1) 0 (λ e. omega arith)
      ∙ (get_or-set_other named (slots + s) (keys + k) k 0 (λ e. omega arith) ∙ get_or-set_same clean (keys + k) key 0 (let e : length clean ≡ length before = c.long in omega arith))

  opened-kept : Kept before opened
  opened-kept =
      record {
        long = length-set hinted rows_word (k + 1) ∙ hinted-long;
        words = λ j l. aside j (λ e. omega arith) (λ e. omega arith) (λ e. omega arith) ∙ c.low j (omega arith);
        same_classes = λ j a b. aside j (λ e. omega arith) (λ e. omega arith) (λ e. omega arith) ∙ c.low j (omega arith);
      }

  opened-place : (r v : ℕ) → get_or opened (memo_row r + v % row_words) 0 ≡ get_or clean (memo_row r + v % row_words) 0
  opened-place r v = aside (memo_row r + v % row_words) (λ e. omega arith) (λ e. omega arith) (λ e. omega arith)

  opened-entry : (meaning : ℕ → RTerm) → Links meaning before → (r v : ℕ) → r < rows_made opened → r < key_count → first_class ≤ classes_made opened → v / copies ≡ key_of opened r → Shows meaning opened r v
  opened-entry meaning m r v b t u e = go (eqb r k) refl
    where
      go : (z : Bool) → eqb r k ≡ z → Shows meaning opened r v
      go true z =
          let same : r ≡ k = eqb-true r k z in
          inl (ap (half (v / row_words % 2)) (opened-place r v ∙ c.zero_words (memo_row r + v % row_words) (omega arith) (omega arith)) ∙ half-zero (v / row_words % 2))
      go false z =
          let d : r ≡ k → ⊥ = eqb-false r k z in
          let n : rows_made opened ≡ k + 1 = opened-count in
          let l : r < k = omega (arith, d) in
          kept-shows before opened opened-kept meaning r v (ap (half (v / row_words % 2)) (opened-place r v ∙ c.low (memo_row r + v % row_words) (omega arith)))
          (m.entries r v (omega arith) t (let q : classes_made opened ≡ classes_made before = kept-terms before opened opened-kept in omega arith)
          (e ∙ (aside (keys + r) (λ x. omega arith) (λ x. omega arith) (λ x. omega arith) ∙ c.low (keys + r) (omega arith))))

  pub opens-new : Opens before opened key (Some k)
  opens-new =
      record {
        kept = opened-kept;
        row = record {
          below = (let n : rows_made opened ≡ k + 1 = opened-count in omega arith);
          small = small;
          fits = (let n : length opened ≡ length before = opened-kept.long in omega arith);
          names = opened-key;
        };
        links = λ meaning m. record { links = kept-links before opened opened-kept meaning m; entries = opened-entry meaning m };
      }

-- ---- a number in a row

quarter : (v : ℕ) → v / row_words / 2 ≡ v / copies
quarter v = omega arith

halves : (v : ℕ) → v ≡ v / row_words * row_words + v % row_words
halves v = omega arith

parts : (a : ℕ) → a ≡ a / 2 * 2 + a % 2
parts a = omega arith

-- a word is known by its node, its half and its place
word_same : (u v : ℕ) → u / copies ≡ v / copies → u % row_words ≡ v % row_words → u / row_words % 2 ≡ v / row_words % 2 → u ≡ v
word_same u v e f g =
    let a : u / row_words / 2 ≡ v / row_words / 2 = quarter u ∙ (e ∙ sym (quarter v)) in
    let b : u / row_words ≡ v / row_words = parts (u / row_words) ∙ (ap₂ (λ (x y : ℕ). x * 2 + y) a g ∙ sym (parts (v / row_words))) in
    halves u ∙ (ap₂ (λ (x y : ℕ). x * row_words + y) b f ∙ sym (halves v))

abbrev pub placed : List ℕ → ℕ → ℕ → ℕ → List ℕ
placed before k v i = set before (memo_row k + v % row_words) (stored (v / row_words % 2) (get_or before (memo_row k + v % row_words) 0) i)

pub placed-half : (before : List ℕ) (k v i w r : ℕ) → w ≡ get_or before (memo_row k + v % row_words) 0 → r ≡ stored (v / row_words % 2) w i → set before (memo_row k + v % row_words) r ≡ placed before k v i
placed-half before k v i w r e h = ap (set before (memo_row k + v % row_words)) (h ∙ ap (λ (x : ℕ). stored (v / row_words % 2) x i) e)

module _ (before : List ℕ) (k v i : ℕ) (w : Rowed before (v / copies) k) (small : i < class_count) where
  abbrev at : ℕ
  at = memo_row k + v % row_words

  at-fits : at < length before
  at-fits = let f : memo_row k + row_words ≤ length before = w.fits in omega arith

  placed-other : (j : ℕ) → (j ≡ at → ⊥) → get_or (placed before k v i) j 0 ≡ get_or before j 0
  placed-other j d = get_or-set_other before at j (stored (v / row_words % 2) (get_or before at 0) i) 0 d

  placed_at : get_or (placed before k v i) at 0 ≡ stored (v / row_words % 2) (get_or before at 0) i
  placed_at = get_or-set_same before at (stored (v / row_words % 2) (get_or before at 0) i) 0 at-fits

  placed-kept : Kept before (placed before k v i)
  placed-kept =
      record {
        long = length-set before at (stored (v / row_words % 2) (get_or before at 0) i);
        words = λ j l. placed-other j (λ e. omega arith);
        same_classes = λ j a b. placed-other j (λ e. omega arith);
      }

  abbrev after : List ℕ
  after = placed before k v i

  module _ (meaning : ℕ → RTerm) (m : Links meaning before) (b : Belongs meaning before (v - shift) i) where
    -- the number itself
    fine-now : Shows meaning after k v
    fine-now = inr (subst⁻¹ (Belongs meaning after (v - shift)) (ap (half (v / row_words % 2)) placed_at ∙ half-stored (v / row_words % 2) (get_or before at 0) i (omega arith)) (kept-belongs before after placed-kept meaning (v - shift) i b))

    fine-at : (u : ℕ) → u / copies ≡ v / copies → u % row_words ≡ v % row_words → Shows meaning before k u → (z : Bool) → eqb (u / row_words % 2) (v / row_words % 2) ≡ z → Shows meaning after k u
    fine-at u e f o true z =
        let g : u / row_words % 2 ≡ v / row_words % 2 = eqb-true (u / row_words % 2) (v / row_words % 2) z in
        subst⁻¹ (Shows meaning after k) (word_same u v e f g) fine-now
    fine-at u e f o false z =
        let d : u / row_words % 2 ≡ v / row_words % 2 → ⊥ = eqb-false (u / row_words % 2) (v / row_words % 2) z in
        kept-shows before after placed-kept meaning k u
        (subst⁻¹ (λ (x : ℕ). half (u / row_words % 2) (get_or after (memo_row k + x) 0) ≡ half (u / row_words % 2) (get_or before (memo_row k + x) 0)) f
        (ap (half (u / row_words % 2)) placed_at ∙ half-apart (v / row_words % 2) (u / row_words % 2) (get_or before at 0) i (omega arith) (omega arith) d (omega arith)))
        o

    fine : (r u : ℕ) → u / copies ≡ key_of before r → Shows meaning before r u → (z : Bool) → eqb (memo_row r + u % row_words) at ≡ z → Shows meaning after r u
    fine r u e o true z =
        let g : memo_row r + u % row_words ≡ at = eqb-true (memo_row r + u % row_words) at z in
        let q : r ≡ k = omega arith in
        let f : u % row_words ≡ v % row_words = omega arith in
        subst⁻¹ (λ (x : ℕ). Shows meaning after x u) q
        (fine-at u (e ∙ (ap (key_of before) q ∙ w.names)) f (subst (λ (x : ℕ). Shows meaning before x u) q o) (eqb (u / row_words % 2) (v / row_words % 2)) refl)
    fine r u e o false z = kept-shows before after placed-kept meaning r u (ap (half (u / row_words % 2)) (placed-other (memo_row r + u % row_words) (eqb-false (memo_row r + u % row_words) at z))) o

    placed-links : Links meaning after
    placed-links =
        record {
          links = kept-links before after placed-kept meaning m;
          entries = λ r u l t x e.
              (let f : u / copies ≡ key_of before r = e ∙ placed-other (keys + r) (λ y. omega arith) in
              fine r u f
              (m.entries r u (let n : rows_made after ≡ rows_made before = placed-other rows_word (λ y. omega arith) in omega arith) t (let n : classes_made after ≡ classes_made before = kept-terms before after placed-kept in omega arith) f)
              (eqb (memo_row r + u % row_words) at) refl);
        }

kept_then : (before mid after : List ℕ) → Kept before mid → Kept mid after → Kept before after
kept_then before mid _ f g = record { long = g.long ∙ f.long; words = λ j l. g.words j l ∙ f.words j l; same_classes = λ j a b. g.same_classes j a b ∙ f.same_classes j a b }

pub assigned : (before mid : List ℕ) (term i k : ℕ) (r : Option ℕ) → Opens before mid ((term + shift) / copies) r → Rowed mid ((term + shift) / copies) k → i < class_count → (after : List ℕ) → after ≡ placed mid k (term + shift) i → Assigns before after term i
assigned before mid term i k r o w small after e =
    subst⁻¹ (λ (l : List ℕ). Assigns before l term i) e
    (record {
      kept = kept_then before mid (placed mid k (term + shift) i) o.kept (placed-kept mid k (term + shift) i w small);
      links = λ meaning m b.
          placed-links mid k (term + shift) i w small meaning (o.links meaning m)
          (subst⁻¹ (λ (x : ℕ). Belongs meaning mid x i) (let z : term + shift - shift ≡ term = omega arith in z) (kept-belongs before mid o.kept meaning term i b));
    })

-- ---- remembering

pub paired : (before first second after : List ℕ) (left right m : ℕ) → Fresh before first left m → Assigns first second left m → Assigns second after right m → Remembers before after left right
paired before first second after left right m f a b =
    record {
      long = b.kept.long ∙ (a.kept.long ∙ f.long);
      words = λ j l. b.kept.words j (omega arith) ∙ (a.kept.words j (omega arith) ∙ f.words j l);
      links = λ meaning s k.
          b.links meaning (a.links meaning (f.links meaning k) (mine meaning))
          (kept-belongs first second a.kept meaning right m (record { numbered = f.numbered; same = sym s ∙ (mine meaning).same }));
    }
  where
    mine : (meaning : ℕ → RTerm) → Belongs meaning first left m
    mine meaning = record { numbered = f.numbered; same = sym (ap meaning f.is) }

pub assigned-left : (before after : List ℕ) (left right j : ℕ) → first_class ≤ classes_made before → Entered before right j → Assigns before after left j → Remembers before after left right
assigned-left before after left right j t e a =
    record {
      long = a.kept.long;
      words = λ k l. a.kept.words k (omega arith);
      links = λ meaning s m. (let b : Belongs meaning before right j = entered-belongs meaning before right j m t e in a.links meaning m (record { numbered = b.numbered; same = s ∙ b.same }));
    }

pub assigned-right : (before after : List ℕ) (left right i : ℕ) → first_class ≤ classes_made before → Entered before left i → Assigns before after right i → Remembers before after left right
assigned-right before after left right i t e a =
    record {
      long = a.kept.long;
      words = λ k l. a.kept.words k (omega arith);
      links = λ meaning s m. (let b : Belongs meaning before left i = entered-belongs meaning before left i m t e in a.links meaning m (record { numbered = b.numbered; same = sym s ∙ b.same }));
    }

pub merged-both : (before after : List ℕ) (left right i j : ℕ) → first_class ≤ classes_made before → Entered before left i → Entered before right j → ClassesLinked before after i j → Remembers before after left right
merged-both before _ left right i j t ei ej h =
    record {
      long = h.long;
      words = h.words;
      links = λ meaning s m.
          (let u : Belongs meaning before left i = entered-belongs meaning before left i m t ei in
          let v : Belongs meaning before right j = entered-belongs meaning before right j m t ej in
          h.links meaning m u.numbered (record { numbered = v.numbered; same = sym u.same ∙ (s ∙ v.same) }));
    }

-- ---- weights

pub weighed-one : (before : List ℕ) (i v : ℕ) → weights ≤ i → i < rows → Weighed before (set before i v)
weighed-one before i v li hi = record { long = length-set before i v; low = λ j l. get_or-set_other before i j v 0 (λ e. omega arith); high = λ j l. get_or-set_other before i j v 0 (λ e. omega arith) }

pub weighed-remembers : (before after : List ℕ) (left right : ℕ) → Weighed before after → Remembers before after left right
weighed-remembers before after left right k =
    record { long = k.long; words = λ j l. k.low j (omega arith); links = λ meaning e m. links-kept before after (λ j a b. k.low j (omega arith)) (λ j a b. k.low j b) k.high meaning m }

pub weighed-then : (before mid after : List ℕ) (left right : ℕ) → Weighed before mid → Remembers mid after left right → Remembers before after left right
weighed-then before mid after left right k r =
    record {
      long = r.long ∙ k.long;
      words = λ j l. r.words j l ∙ k.low j (omega arith);
      links = λ meaning e m. r.links meaning e (links-kept before mid (λ j a b. k.low j (omega arith)) (λ j a b. k.low j b) k.high meaning m);
    }
