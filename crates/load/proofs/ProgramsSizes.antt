-- Laws of bodies and clauses as they were read: how many items they have, and how many words their nodes take. Assumes nothing.
use Prim.Native.Nat.{ℕ, ◌+◌, ◌*◌, ◌≤◌, ◌<◌}
use native.Mathlib.Omega.{arith}
use mathlib.Core.Path.{◌≡◌}
use mathlib.Core.List.{List, []}
use lib.ListN.{length, get_or}
use Rattle.syntax.specs.Terms.{Literal, call, equation, truth, falsity, either, Body, done, also, literals_in, literals_of, Clause}
use Rattle.syntax.specs.Words.{literal_length, body_length, clause_words}
use Rattle.words.specs.Tables.{WordsAt}
use Rattle.machine.specs.Low.{LiteralFilled, BodyFilled, BodyShort}
use Rattle.run_layout.specs.Regions.{most_items}
use Rattle.run_layout.specs.Nodes.{Symbol}
use Rattle.run_layout.specs.Program.{clause_nodes}
use Rattle.load.proofs.ClausesSizes.{Says, says}

-- ---- how many items a body has

mutual
  unfolding literal_length literals_in

  literal-few : (x : Literal) → LiteralFilled x → literal_length x + 3 ≤ 4 * literals_in x
  literal-few (call a) f = omega arith
  literal-few (equation t u) f = omega arith
  literal-few truth f = omega arith
  literal-few falsity f = omega arith
  literal-few (either y z) f = omega (arith, side-few y f.0.0 f.0.1, side-few z f.1.0 f.1.1)

  body-most : (b : Body) → BodyFilled b → body_length b ≤ 4 * literals_of b
  body-most done f = omega arith
  body-most (also x b) f = omega (arith, literal-few x f.0, body-most b f.1)

  side-few : (b : Body) → 0 < literals_of b → BodyFilled b → body_length b + 3 ≤ 4 * literals_of b
  side-few done l f = absurd (omega arith)
  side-few (also x b) l f = omega (arith, literal-few x f.0, body-most b f.1)

pub few-items : (b : Body) → BodyShort b → body_length b ≤ most_items
unfolding literal_length literals_in
few-items done s = omega arith
few-items (also x b) s = omega (arith, literal-few x s.filled.0, body-most b s.filled.1, s.few)

-- ---- how many words a clause's nodes take

module _ (table : List ℕ) (p : ℕ) (cl : Clause) (h : WordsAt table p (clause_words cl)) (size literals : ℕ) (e : size ≡ get_or table p 0) (m : literals ≡ get_or table (p + 2) 0) where
  pub clause-marks : literals + 3 ≤ size
  clause-marks =
      let s : Says [] table p cl = says [] table p cl h in
      let a : get_or table p 0 ≡ length (clause_words cl) = s.size in
      let b : get_or table (p + 2) 0 ≡ body_length cl.body = s.literals in
      let d : length (clause_nodes [] cl) * 3 + (body_length cl.body + 3) * 2 ≡ length (clause_words cl) * 2 = s.nodes in
      omega arith

pub clause-size : (ss : List Symbol) (table : List ℕ) (p : ℕ) (cl : Clause) → WordsAt table p (clause_words cl) → (size literals : ℕ) → size ≡ get_or table p 0 → literals ≡ get_or table (p + 2) 0
    → (r : ℕ) → ((n : ℕ) → n * 3 + (literals + 3) * 2 ≡ size * 2 → r ≡ n) → r ≡ length (clause_nodes ss cl)
clause-size ss table p cl h size literals e m r f =
    let s : Says ss table p cl = says ss table p cl h in
    let a : get_or table p 0 ≡ length (clause_words cl) = s.size in
    let b : get_or table (p + 2) 0 ≡ body_length cl.body = s.literals in
    let d : length (clause_nodes ss cl) * 3 + (body_length cl.body + 3) * 2 ≡ length (clause_words cl) * 2 = s.nodes in
    f (length (clause_nodes ss cl)) (omega arith)
