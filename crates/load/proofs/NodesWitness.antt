-- There is something to load: what `load_nodes` asks can be met. Assumes nothing.
use Prim.Native.Nat.{ℕ, ◌≤◌, ◌<◌}
use native.Mathlib.Omega.{arith}
use mathlib.Core.Path.{◌≡◌, refl}
use mathlib.Core.List.{List, [], ◌∷◌}
use lib.ListN.{length, replicate, length-replicate}
use Rattle.syntax.specs.Limits.{goal_bytes}
use Rattle.syntax.specs.Terms.{truth, done, also}
use Rattle.syntax.specs.Words.{literal_words, body_length, body_words, clauses_words, program_words, goal_words, program_bytes}
use Rattle.marks.specs.Spelt.{no_clauses, truth_stands, done_stands, also_stands}
use Rattle.words.specs.Tables.{WordsAt}
use Rattle.run_layout.specs.Regions.{nodes_words}
use Rattle.load.specs.Loading.{Loadable}

-- room for the nodes, and for the symbols
unfoldable pub room : List ℕ
room = replicate nodes_words 0

room-long : length room ≡ nodes_words
unfolding room
room-long = length-replicate {A = ℕ} nodes_words 0

has-none : WordsAt [] 0 (clauses_words [])
unfolding clauses_words
has-none = tt

has-truth : WordsAt (0 ∷ []) 0 (body_words (also truth done))
unfolding body_words literal_words
has-truth = (let l : 0 < 1 = omega arith in l, refl, tt)

one-item : 1 ≡ body_length (also truth done)
unfolding body_length
one-item = refl

-- a sheet without clauses, and the goal `true`
pub witness : Loadable [] [] 0 [] (0 ∷ []) 1 room room
witness =
    let l : length room ≡ nodes_words = room-long in
    record {
      tables = record {
        sh = record { declarations = []; clauses = [] };
        g = record { body = also truth done; names = [] };
        has_clauses = has-none;
        clauses_count = refl;
        clauses_stand = no_clauses;
        has_goal = has-truth;
        literals_count = one-item;
        goal_stands = also_stands truth_stands done_stands;
        sheet_short = (let z : 0 ≤ program_bytes = omega arith in z);
        goal_short = (let z : 0 ≤ goal_bytes = omega arith in z);
        table_short = (let z : 0 ≤ program_words = omega arith in z);
        goals_short = (let z : 1 ≤ goal_words = omega arith in z);
      };
      nodes_room = omega arith;
      nodes_short = omega arith;
      symbols_room = omega arith;
      symbols_short = omega arith;
    }
