-- Laws of copying a run of nodes, one for each way out of the functions. Assumes nothing.
use Prim.Native.Nat.{ℕ, suc, ◌+◌, ◌*◌, ◌/◌, ◌≤◌, ◌<◌}
use native.Mathlib.Omega.{arith}
use mathlib.Core.Path.{◌≡◌, refl, sym, ap, ap₂, ◌∙◌, subst}
use mathlib.Core.List.{List, [], ◌∷◌}
use lib.ListN.{length, get_or, set}
use Rattle.syntax.specs.Words.{node_words, goal_words}
use Rattle.words.specs.Tables.{WordsAt}
use Rattle.words.proofs.TablesLaws.{Node, node}
use Rattle.run_layout.specs.Regions.{loaded_node}
use Rattle.load.specs.Flat.{NodeAsRead, parsed_words, flat_words, flat_what, flat_all, NameFits, AllFit, put_all, RunAt}
use Rattle.load.proofs.NodesWriting.{written-nil, written-two}

-- ---- the loop

-- What is left of a run, written behind what is copied so far, gives the whole.
pub record Running (table : List ℕ) (stop text : ℕ) (before : List ℕ) (at : ℕ) (whole nodes : List ℕ) (p q : ℕ) : Type 0 where
  pub run : List NodeAsRead
  pub has : WordsAt table p (parsed_words run)
  pub ends : stop ≡ p + length (parsed_words run)
  pub fit : AllFit run
  pub same : put_all nodes q (flat_words (flat_all text run)) ≡ put_all before at whole
  pub past : q + length (flat_words (flat_all text run)) ≡ at + length whole
  pub near : q * node_words ≤ p * loaded_node + goal_words * loaded_node

pub run-begin : (table : List ℕ) (from stop text : ℕ) (nodes : List ℕ) (at : ℕ) → at * node_words ≤ from * loaded_node + goal_words * loaded_node → (w : RunAt table from stop)
    → Running table stop text nodes at (flat_words (flat_all text w.run)) nodes from at
run-begin table from stop text nodes at l w = record { run = w.run; has = w.has; ends = w.ends; fit = w.fit; same = refl; past = refl; near = l }

-- a turn: the node's words, and the run after it
pub record Turn (table : List ℕ) (stop text : ℕ) (before : List ℕ) (at : ℕ) (whole nodes : List ℕ) (p q : ℕ) : Type 0 where
  pub inside : p + 3 ≤ length table
  pub within : p + 3 ≤ stop
  pub fits : NameFits (get_or table p 0) (get_or table (p + 2) 0)
  pub next : (v u : ℕ) → v ≡ flat_what text (get_or table p 0) (get_or table (p + 2) 0) → u ≡ get_or table (p + 1) 0 / 3 * 2
      → Running table stop text before at whole (set (set nodes q v) (q + 1) u) (p + 3) (q + 2)

module _ (table : List ℕ) (stop text : ℕ) (before : List ℕ) (at : ℕ) (whole nodes : List ℕ) (p q : ℕ) where
  turn_by : (run : List NodeAsRead) → WordsAt table p (parsed_words run) → stop ≡ p + length (parsed_words run) → AllFit run
      → put_all nodes q (flat_words (flat_all text run)) ≡ put_all before at whole → q + length (flat_words (flat_all text run)) ≡ at + length whole
      → q * node_words ≤ p * loaded_node + goal_words * loaded_node → p < stop → Turn table stop text before at whole nodes p q
  unfolding parsed_words flat_words flat_all
  turn_by [] h e f s g n l = absurd (let z : stop ≡ p + 0 = e in omega arith)
  turn_by (x ∷ xs) h e f s g n l =
      let o : Node table p x.what x.size x.byte (parsed_words xs) = node table p x.what x.size x.byte (parsed_words xs) h in
      let i : p + 2 < length table = o.inside in
      let e1 : stop ≡ p + suc (suc (suc (length (parsed_words xs)))) = e in
      let g1 : q + suc (suc (length (flat_words (flat_all text xs)))) ≡ at + length whole = g in
      record {
        inside = omega arith;
        within = omega arith;
        fits = subst (λ (a : ℕ). NameFits a (get_or table (p + 2) 0)) (sym o.first) (subst (λ (c : ℕ). NameFits x.what c) (sym o.third) f.0);
        next = λ v u ev eu. record {
          run = xs;
          has = o.rest;
          ends = omega arith;
          fit = f.1;
          same = written-two nodes q v u (flat_words (flat_all text xs))
              ∙ (ap₂ (λ (a b : ℕ). put_all nodes q (a ∷ b ∷ flat_words (flat_all text xs)))
              (ev ∙ ap₂ (flat_what text) o.first o.third)
              (eu ∙ ap (λ (k : ℕ). k / 3 * 2) o.second)
              ∙ s);
          past = omega arith;
          near = omega arith;
        };
      }

  pub turn : p < stop → Running table stop text before at whole nodes p q → Turn table stop text before at whole nodes p q
  turn l r = turn_by r.run r.has r.ends r.fit r.same r.past r.near l

  end-by : (run : List NodeAsRead) → stop ≡ p + length (parsed_words run) → put_all nodes q (flat_words (flat_all text run)) ≡ put_all before at whole
      → q + length (flat_words (flat_all text run)) ≡ at + length whole → stop ≤ p → (nodes ≡ put_all before at whole) × (q ≡ at + length whole)
  unfolding parsed_words flat_words flat_all
  end-by [] e s g l = (sym (written-nil nodes q) ∙ s, let z : q + 0 ≡ at + length whole = g in let y : q ≡ at + length whole = omega arith in y)
  end-by (x ∷ xs) e s g l = absurd (let z : stop ≡ p + suc (suc (suc (length (parsed_words xs)))) = e in omega arith)

  pub run_end : stop ≤ p → Running table stop text before at whole nodes p q → (nodes ≡ put_all before at whole) × (q ≡ at + length whole)
  run_end l r = end-by r.run r.ends r.same r.past l
