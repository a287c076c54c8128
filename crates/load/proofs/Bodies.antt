-- Laws of copying bodies, one for each way out of the functions. Assumes nothing.
use Prim.Native.Nat.{ℕ, suc, ◌+◌, ◌*◌, ◌≤◌, ◌<◌}
use native.Mathlib.Omega.{arith}
use mathlib.Core.Path.{◌≡◌, sym, ap, ap₂, ◌∙◌, subst, subst⁻¹}
use mathlib.Core.List.{List, [], ◌∷◌, ◌++◌}
use lib.ListN.{length, length-append}
use Rattle.syntax.specs.Words.{node_words, goal_words}
use Rattle.words.specs.Tables.{WordsAt}
use Rattle.words.specs.Items.{Item, item_words, items_words, items}
use Rattle.words.proofs.Items.{body-many, items-stand, first-stands, rest-stand, item_room}
use Rattle.run_layout.specs.Regions.{loaded_node}
use Rattle.load.specs.Flat.{NodeAsRead, parsed_words, body_parsed, flat_words, flat_all, AllFit, put_all, RunAt, BodyHere}
use Rattle.load.proofs.NodesWriting.{written-nil, written-append}
use Rattle.load.proofs.Parsed.{flat_append, flat-length, body-fits, item_parsed, items_parsed, item-words, item-long, body-parsed}

-- ---- bodies

-- What is left of a body's items, written behind what is copied so far, gives the whole.
pub record Going (table : List ℕ) (many text : ℕ) (before : List ℕ) (at : ℕ) (whole nodes : List ℕ) (p q i : ℕ) : Type 0 where
  pub rest : List Item
  pub has : WordsAt table p (items_words rest)
  pub count : many ≡ i + length rest
  pub fit : AllFit (items_parsed rest)
  pub same : put_all nodes q (flat_words (flat_all text (items_parsed rest))) ≡ put_all before at whole
  pub past : q + length (flat_words (flat_all text (items_parsed rest))) ≡ at + length whole
  pub near : q * node_words ≤ p * loaded_node + goal_words * loaded_node

pub body-begin : (table : List ℕ) (from many text : ℕ) (nodes : List ℕ) (at : ℕ) → at * node_words ≤ from * loaded_node + goal_words * loaded_node → (w : BodyHere table from many)
    → Going table many text nodes at (flat_words (flat_all text (body_parsed w.body))) nodes from at 0
body-begin table from many text nodes at l w = record {
  rest = items w.body;
  has = items-stand table from w.body w.has;
  count = (let z : many ≡ 0 + length (items w.body) = omega (arith, w.count, body-many w.body) in z);
  fit = subst⁻¹ AllFit (body-parsed w.body) (body-fits w.text w.short w.body w.stands);
  same = ap (λ (xs : List NodeAsRead). put_all nodes at (flat_words (flat_all text xs))) (body-parsed w.body);
  past = ap (λ (xs : List NodeAsRead). at + length (flat_words (flat_all text xs))) (body-parsed w.body);
  near = l;
}

-- a turn: the item, its nodes, and the body after it
pub record BodyTurn (table : List ℕ) (many text : ℕ) (before : List ℕ) (at : ℕ) (whole nodes : List ℕ) (p q i : ℕ) : Type 0 where
  pub item : Item
  pub has : WordsAt table p (item_words item)
  pub inside : p < length table
  pub near : q * node_words ≤ (p + 1) * loaded_node + goal_words * loaded_node
  pub run : (next : ℕ) → next ≡ p + length (item_words item) → RunAt table (p + 1) next
  pub on : (next : ℕ) (after : List ℕ) (r : ℕ) (e : next ≡ p + length (item_words item))
      → (after ≡ put_all nodes q (flat_words (flat_all text (run next e).run))) × (r ≡ q + length (flat_words (flat_all text (run next e).run)))
      → Going table many text before at whole after next r (i + 1)

fit-left : (xs ys : List NodeAsRead) → AllFit (xs ++ ys) → AllFit xs
fit-left [] ys f = tt
fit-left (x ∷ xs) ys f = (f.0, fit-left xs ys f.1)

fit-right : (xs ys : List NodeAsRead) → AllFit (xs ++ ys) → AllFit ys
fit-right [] ys f = f
fit-right (x ∷ xs) ys f = fit-right xs ys f.1

abbrev item-run : (table : List ℕ) (p : ℕ) (x : Item) → WordsAt table p (item_words x) → AllFit (item_parsed x) → (next : ℕ) → next ≡ p + length (item_words x) → RunAt table (p + 1) next
item-run table p x h k next e = record {
  run = item_parsed x;
  has = (subst (WordsAt table p) (item-words x) h).2;
  ends = (let z : length (item_words x) ≡ suc (length (parsed_words (item_parsed x))) = item-long x in let y : next ≡ (p + 1) + length (parsed_words (item_parsed x)) = omega arith in y);
  fit = k;
}

module _ (many text : ℕ) (before : List ℕ) (at : ℕ) (whole nodes : List ℕ) (q i : ℕ) where
  end-by : (xs : List Item) → many ≡ i + length xs → put_all nodes q (flat_words (flat_all text (items_parsed xs))) ≡ put_all before at whole
      → q + length (flat_words (flat_all text (items_parsed xs))) ≡ at + length whole → many ≤ i → (nodes ≡ put_all before at whole) × (q ≡ at + length whole)
  unfolding items_parsed flat_words flat_all
  end-by [] c s g l = (sym (written-nil nodes q) ∙ s, let z : q + 0 ≡ at + length whole = g in let y : q ≡ at + length whole = omega arith in y)
  end-by (x ∷ xs) c s g l = absurd (let z : many ≡ i + suc (length xs) = c in omega arith)

module _ (table : List ℕ) (many text : ℕ) (before : List ℕ) (at : ℕ) (whole nodes : List ℕ) (p q i : ℕ) where
  turn_by : (xs : List Item) → WordsAt table p (items_words xs) → many ≡ i + length xs → AllFit (items_parsed xs)
      → put_all nodes q (flat_words (flat_all text (items_parsed xs))) ≡ put_all before at whole
      → q + length (flat_words (flat_all text (items_parsed xs))) ≡ at + length whole
      → q * node_words ≤ p * loaded_node + goal_words * loaded_node → i < many → BodyTurn table many text before at whole nodes p q i
  unfolding items_parsed
  turn_by [] h c k s g n l = absurd (let z : many ≡ i + 0 = c in omega arith)
  turn_by (x ∷ xs) h c k s g n l =
      let hx : WordsAt table p (item_words x) = first-stands table p x xs h in
      let hb : WordsAt table (p + length (item_words x)) (items_words xs) = rest-stand table p x xs h in
      let c1 : many ≡ i + suc (length xs) = c in
      let whole_is : flat_words (flat_all text (item_parsed x ++ items_parsed xs)) ≡ flat_words (flat_all text (item_parsed x)) ++ flat_words (flat_all text (items_parsed xs)) = flat_append text (item_parsed x) (items_parsed xs) in
      let long : length (flat_words (flat_all text (item_parsed x ++ items_parsed xs))) ≡ length (flat_words (flat_all text (item_parsed x))) + length (flat_words (flat_all text (items_parsed xs))) = ap length whole_is ∙ length-append (flat_words (flat_all text (item_parsed x))) (flat_words (flat_all text (items_parsed xs))) in
      let third : length (flat_words (flat_all text (item_parsed x))) * 3 ≡ length (parsed_words (item_parsed x)) * 2 = flat-length text (item_parsed x) in
      let size : length (item_words x) ≡ suc (length (parsed_words (item_parsed x))) = item-long x in
      let g1 : q + length (flat_words (flat_all text (item_parsed x ++ items_parsed xs))) ≡ at + length whole = g in
      record {
        item = x;
        has = hx;
        inside = item_room table p x hx;
        near = omega arith;
        run = λ next e. item-run table p x hx (fit-left (item_parsed x) (items_parsed xs) k) next e;
        on = λ next after r e m. record {
          rest = xs;
          has = subst (λ (k : ℕ). WordsAt table k (items_words xs)) (sym e) hb;
          count = (let z : many ≡ (i + 1) + length xs = omega arith in z);
          fit = fit-right (item_parsed x) (items_parsed xs) k;
          same = ap₂ (λ (a : List ℕ) (k : ℕ). put_all a k (flat_words (flat_all text (items_parsed xs)))) m.0 m.1
              ∙ (sym (written-append nodes q (flat_words (flat_all text (item_parsed x))) (flat_words (flat_all text (items_parsed xs))))
              ∙ (ap (put_all nodes q) (sym whole_is) ∙ s));
          past = (let z : r ≡ q + length (flat_words (flat_all text (item_parsed x))) = m.1 in let y : r + length (flat_words (flat_all text (items_parsed xs))) ≡ at + length whole = omega arith in y);
          near = (let z : r ≡ q + length (flat_words (flat_all text (item_parsed x))) = m.1 in let y : r * node_words ≤ next * loaded_node + goal_words * loaded_node = omega arith in y);
        };
      }

module _ {table : List ℕ} {many text : ℕ} {before : List ℕ} {at : ℕ} {whole nodes : List ℕ} {p q i : ℕ} where
  pub body-turn : i < many → Going table many text before at whole nodes p q i → BodyTurn table many text before at whole nodes p q i
  body-turn l r = turn_by table many text before at whole nodes p q i r.rest r.has r.count r.fit r.same r.past r.near l

  pub body_end : many ≤ i → Going table many text before at whole nodes p q i → (nodes ≡ put_all before at whole) × (q ≡ at + length whole)
  body_end l r = end-by many text before at whole nodes q i r.rest r.count r.same r.past l
