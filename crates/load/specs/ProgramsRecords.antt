-- The words that linking writes for all clauses, as the code is when they were written.
use Rattle.std.specs.Prelude.{ℕ, ◌+◌, List, [], ◌∷◌, length, set}
use Rattle.syntax.specs.Terms.{Clause, Sheet}
use Rattle.run_layout.specs.Regions.{clause_record}
use Rattle.run_layout.specs.Nodes.{Symbol}
use Rattle.run_layout.specs.Program.{clause_nodes}
use Rattle.load.specs.ClausesRecords.{behind_body, put_clause}

-- the heads of clauses whose nodes stand from q on, the first of number k
unfoldable pub put_heads : List Symbol → ℕ → List Clause → List ℕ → ℕ → List ℕ
put_heads ss q [] code k = code
put_heads ss q (cl ∷ cls) code k = put_heads ss (q + length (clause_nodes ss cl)) cls (set code (clause_record k) q) (k + 1)

-- the clauses from number k on, their bodies one behind the other from l on
unfoldable pub put_clauses : List Symbol → Sheet → ℕ → List Clause → List ℕ → ℕ → ℕ → List ℕ
put_clauses ss sh q [] code k l = code
put_clauses ss sh q (cl ∷ cls) code k l =
    put_clauses ss sh (q + length (clause_nodes ss cl)) cls (put_clause ss sh q cl code k l) (k + 1) (behind_body l cl.body)
