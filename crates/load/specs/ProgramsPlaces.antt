-- What stands where, as linking goes on along the clauses: what its functions ask.
use Rattle.std.specs.Prelude.{ℕ, suc, ◌+◌, ◌≤◌, ◌≡◌, List, T, length}
use Rattle.syntax.specs.Terms.{Clause}
use Rattle.syntax.specs.Words.{clauses_words, program_clauses}
use Rattle.words.specs.Tables.{WordsAt}
use Rattle.run_layout.specs.Regions.{bodies, places, clause_bodies, literal_from}
use Rattle.run_layout.specs.Nodes.{Symbol}
use Rattle.run_layout.specs.Limits.{ClausesLimited, body_records}
use Rattle.run_layout.specs.Program.{clauses_nodes, clauses_loadable}
use Rattle.load.specs.declared.records.Places.{Places}
use Rattle.load.specs.Search.{Meant, Headed}
use Rattle.load.specs.declared.next_clauses.Heads.{Heads}

-- the clauses from number k on, with room for the records of their bodies
pub record ClausesTo (m : Meant) (cls : List Clause) (table : List ℕ) (heads : Heads) (code : List ℕ) (k : ℕ) (at : Places) : Type 0 where
  pub headed : Headed m heads code
  pub has : WordsAt table at.read (clauses_words cls)
  pub stand : WordsAt heads.nodes.now at.node (clauses_nodes m.ss cls)
  pub loadable : T (clauses_loadable m.ss cls)
  pub limited : ClausesLimited cls
  pub low : 1 ≤ k
  pub count : k + length cls ≡ suc heads.clauses
  pub place : bodies ≤ at.literal
  pub room : literal_from at.literal (body_records cls) ≤ length code

-- where linking begins with the clauses, whose nodes stand from q on
abbrev pub first_clause : ℕ → Places
first_clause q = record { read = 0; node = q; literal = clause_bodies }

-- the clauses from number k on, whose nodes are to stand from q on, before their heads' places are written
pub record HeadsTo (ss : List Symbol) (cls : List Clause) (table : List ℕ) (p q clauses : ℕ) (code : List ℕ) (k : ℕ) : Type 0 where
  pub has : WordsAt table p (clauses_words cls)
  pub few : clauses ≤ program_clauses
  pub low : 1 ≤ k
  pub count : k + length cls ≡ suc clauses
  pub long : bodies ≤ length code
  pub node : q + length (clauses_nodes ss cls) ≤ places
