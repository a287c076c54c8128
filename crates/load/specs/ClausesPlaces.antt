-- What stands where when the records of a body and of a clause are written.
use Rattle.std.specs.Prelude.{ℕ, ◌≤◌, ◌≡◌, List, T, length}
use Rattle.syntax.specs.Terms.{term_of, Body, Clause}
use Rattle.syntax.specs.Words.{body_words, body_length, clause_words}
use Rattle.words.specs.Tables.{WordsAt}
use Rattle.run_layout.specs.Regions.{bodies, next_literal, literal_from}
use Rattle.run_layout.specs.Nodes.{is_loadable}
use Rattle.run_layout.specs.Program.{body_nodes, clause_nodes, body_loadable}
use Rattle.load.specs.declared.records.Places.{Places}
use Rattle.load.specs.ClausesRecords.{behind_body}
use Rattle.load.specs.declared.next_clauses.Heads.{Heads}
use Rattle.load.specs.Search.{Meant, Headed}

-- a body of so many items
pub record BodyTo (m : Meant) (b : Body) (table : List ℕ) (many : ℕ) (heads : Heads) (code : List ℕ) (at : Places) : Type 0 where
  pub headed : Headed m heads code
  pub has : WordsAt table at.read (body_words b)
  pub count : many ≡ body_length b
  pub stand : WordsAt heads.nodes.now at.node (body_nodes m.ss b)
  pub loadable : T (body_loadable m.ss b)
  pub node : at.node ≤ length heads.nodes.now
  pub low : bodies ≤ at.literal
  pub high : next_literal (literal_from at.literal many) ≤ length code

-- a clause of number k, with room for the records of its body
pub record ClauseTo (m : Meant) (cl : Clause) (table : List ℕ) (heads : Heads) (code : List ℕ) (k : ℕ) (at : Places) : Type 0 where
  pub headed : Headed m heads code
  pub has : WordsAt table at.read (clause_words cl)
  pub stand : WordsAt heads.nodes.now at.node (clause_nodes m.ss cl)
  pub head_loadable : T (is_loadable m.ss (term_of cl.head))
  pub body-loadable : T (body_loadable m.ss cl.body)
  pub low : 1 ≤ k
  pub high : k ≤ heads.clauses
  pub place : bodies ≤ at.literal
  pub room : behind_body at.literal cl.body ≤ length code
