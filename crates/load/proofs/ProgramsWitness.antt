-- There is something to link: what `link` asks can be met. Assumes nothing.
use Prim.Native.Nat.{ℕ}
use native.Mathlib.Omega.{arith}
use mathlib.Core.Path.{◌≡◌, refl}
use mathlib.Core.List.{List, [], ◌∷◌}
use lib.ListN.{length, replicate, length-replicate}
use Rattle.syntax.specs.Quote.{bytes}
use Rattle.syntax.specs.Terms.{Atom, nil, call, either, done, also, literals_in, Sheet, Goal, same_bytes}
use Rattle.syntax.specs.Words.{term_words, literal_words, literal_length, clause_words, clauses_words, first_name}
use Rattle.run_layout.specs.Regions.{code_words}
use Rattle.run_layout.specs.Limits.{body_records}
use Rattle.run_layout.specs.Nodes.{Symbol, symbol_of, is_symbol, is_listed, loaded_words, is_loadable, brackets_of}
use Rattle.run_layout.specs.Program.{literal_nodes, clause_nodes, clauses_nodes, program_nodes, literal_loadable, clauses_loadable}
use Rattle.load.specs.Linking.{Linkable}

-- the sheet `p.` and the goal `(p; p).`
abbrev p : Atom
p = record { at = 0; name = bytes "p"; args = nil }

abbrev sheet : Sheet
sheet = record { declarations = []; clauses = record { head = p; body = done; variables = 0 } ∷ [] }

abbrev goal : Goal
goal = record { body = also (either (also (call p) done) (also (call p) done)) done; names = [] }

abbrev symbols : List Symbol
symbols = record { name = bytes "p"; arguments = 0 } ∷ []

abbrev table : List ℕ
table = 6 ∷ 0 ∷ 0 ∷ 65 ∷ 3 ∷ 0 ∷ []

abbrev goals : List ℕ
goals = 12 ∷ 2 ∷ 65 ∷ 3 ∷ 0 ∷ 13 ∷ 2 ∷ 65 ∷ 3 ∷ 0 ∷ 6 ∷ []

abbrev nodes : List ℕ
nodes = first_name ∷ 2 ∷ first_name ∷ 2 ∷ first_name ∷ 2 ∷ []

unfoldable pub code : List ℕ
code = replicate code_words 0

code-long : length code ≡ code_words
unfolding code
code-long = length-replicate {A = ℕ} code_words 0

pub witness : Linkable table 1 goals 5 nodes code
unfolding clauses_words clause_words term_words literal_words literal_length literals_in loaded_words symbol_of is_symbol is_listed is_loadable brackets_of same_bytes literal_nodes clause_nodes clauses_nodes program_nodes literal_loadable clauses_loadable body_records
witness =
    let l : length code ≡ code_words = code-long in
    record {
      ss = symbols;
      sh = sheet;
      g = goal;
      has_clauses = (omega arith, refl, (omega arith, refl, (omega arith, refl, (omega arith, refl, (omega arith, refl, (omega arith, refl, tt))))));
      clauses_count = refl;
      has_goal = (omega arith, refl, (omega arith, refl, (omega arith, refl, (omega arith, refl, (omega arith, refl, (omega arith, refl, (omega arith, refl, (omega arith, refl, (omega arith, refl, (omega arith, refl, (omega arith, refl, tt)))))))))));
      literals_count = refl;
      limits = record { clauses = (record { head = omega arith; body = record { each = tt; short = record { few = omega arith; filled = tt } } }, tt); few = omega arith; room = omega arith };
      goal_limits = record { each = (((omega arith, tt), (omega arith, tt)), tt); short = record { few = omega arith; filled = (((omega arith, (tt, tt)), (omega arith, (tt, tt))), tt) } };
      nodes_stand = (omega arith, refl, (omega arith, refl, (omega arith, refl, (omega arith, refl, (omega arith, refl, (omega arith, refl, tt))))));
      goal_loadable = tt;
      clauses-loadable = tt;
      nodes_short = omega arith;
      table_short = omega arith;
      goals_short = omega arith;
      code_room = omega arith;
      code_short = omega arith;
    }
