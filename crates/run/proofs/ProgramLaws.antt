-- What loading, linking and running ask of each other.
use Prim.Native.Nat.{ℕ, ◌≤◌}
use native.Mathlib.Omega.{arith}
use mathlib.Core.Path.{◌≡◌}
use mathlib.Core.List.{List}
use lib.ListN.{length}
use Rattle.syntax.specs.Words.{goal_words}
use Rattle.run_layout.specs.Regions.{nodes_words, code_words, state_words}
use Rattle.run_layout.specs.Program.{Program}
use Rattle.load.specs.Loading.{Loadable, Loaded}
use Rattle.load.specs.Linking.{Linkable}
use Rattle.run.specs.declared.telling.LoadedProgram.{LoadedProgram}
use Rattle.output.specs.declared.results.Written.{Written}
use Rattle.run.specs.Running.{Runnable, RunWritten}
use Rattle.run_layout.specs.Rooms.{Zeros, ProgramRoom}
use Rattle.run_layout.proofs.RoomsLaws.{cleared-clean}
use Rattle.run.specs.Telling.{LentScratch}
use Rattle.run.specs.Programs.{LimitedTables, Programmed, LinkedTables, ProgramLinked}

module _ {sheet table : List ℕ} {clauses : ℕ} {goal goals : List ℕ} {literals : ℕ} (w : LimitedTables sheet table clauses goal goals literals) where
  pub loads : {nodes symbols code : List ℕ} → ProgramRoom nodes symbols code → Loadable sheet table clauses goal goals literals nodes symbols
  loads {nodes} {symbols} z =
      let a : nodes_words ≡ length nodes = z.nodes_long in
      let b : nodes_words ≡ length symbols = z.symbols_long in
      record {
        tables = w.tables;
        nodes_room = omega arith;
        nodes_short = omega arith;
        symbols_room = omega arith;
        symbols_short = omega arith;
      }

  module _ {nodes0 symbols0 code0 nodes symbols : List ℕ} (z : ProgramRoom nodes0 symbols0 code0) (a : length nodes ≡ length nodes0) (k : (v : Loadable sheet table clauses goal goals literals nodes0 symbols0) → Loaded sheet goal v.tables.sh v.tables.g nodes symbols) where
    loaded : Loaded sheet goal w.tables.sh w.tables.g nodes symbols
    unfolding loads
    loaded = k (loads z)

    pub links : Linkable table clauses goals literals nodes code0
    links =
        let b : code_words ≡ length code0 = z.code_long in
        let c : length goals ≤ goal_words = w.tables.goals_short in
        let d : nodes_words ≡ length nodes0 = z.nodes_long in
        record {
          ss = loaded.ss;
          sh = w.tables.sh;
          g = w.tables.g;
          has_clauses = w.tables.has_clauses;
          clauses_count = w.tables.clauses_count;
          has_goal = w.tables.has_goal;
          literals_count = w.tables.literals_count;
          limits = w.limits;
          goal_limits = w.goal_limits;
          nodes_stand = loaded.nodes_stand;
          goal_loadable = loaded.goal_loadable;
          clauses-loadable = loaded.clauses-loadable;
          nodes_short = omega arith;
          table_short = w.tables.table_short;
          goals_short = omega arith;
          code_room = omega arith;
          code_short = omega arith;
        }

    module _ {code : List ℕ} (p : (v : Linkable table clauses goals literals nodes code0) → Program v.ss v.sh v.g nodes code) where
      program : Program loaded.ss w.tables.sh w.tables.g nodes code
      unfolding links
      program = p links

      pub linked_tables : LinkedTables sheet goal w.tables.sh w.tables.g nodes symbols code
      linked_tables = record { ss = loaded.ss; program = program; spelt = loaded.names }

-- the tables, without the names of the goal's variables
abbrev pub limited_of : {sheet table : List ℕ} {clauses : ℕ} {goal goals : List ℕ} {literals : ℕ} {names : List ℕ} {count : ℕ} → Programmed sheet table clauses goal goals literals names count → LimitedTables sheet table clauses goal goals literals
limited_of w = record { tables = w.tables; limits = w.limits; goal_limits = w.goal_limits }

-- what is loaded and linked, as one value
module _ (l : LoadedProgram) {table : List ℕ} {clauses : ℕ} {goals : List ℕ} {literals : ℕ} (w : Programmed l.sheet.now table clauses l.goal.now goals literals l.names.now l.count)
    (k : (v : LimitedTables l.sheet.now table clauses l.goal.now goals literals) → LinkedTables l.sheet.now l.goal.now v.tables.sh v.tables.g l.nodes.now l.symbols.now l.code.now) where
  pub linked_here : LinkedTables l.sheet.now l.goal.now w.tables.sh w.tables.g l.nodes.now l.symbols.now l.code.now
  linked_here = k (limited_of w)

  unfoldable pub linked : ProgramLinked l
  linked =
      record {
        ss = linked_here.ss;
        sh = w.tables.sh;
        g = w.tables.g;
        program = linked_here.program;
        spelt = record { spelt = linked_here.spelt; named = w.named; names_are = w.names_are };
      }

  pub program_runs : {allowance wanted : ℕ} {old new : List ℕ} {r : Written} → ((v : ProgramLinked l) → RunWritten v.sh v.g allowance wanted old new r) → RunWritten w.tables.sh w.tables.g allowance wanted old new r
  unfolding linked
  program_runs q = q linked

module _ {l : LoadedProgram} (w : ProgramLinked l) where
  unfoldable pub runnable : {state scratch text : List ℕ} → Zeros state_words state → LentScratch scratch (length text) → Runnable l state scratch text
  runnable {state} {scratch} {text} z y =
      let a : state_words ≡ length state = z.long in
      record {
        ss = w.ss;
        sh = w.sh;
        g = w.g;
        spelt = w.spelt;
        program = w.program;
        long = omega arith;
        clean = cleared-clean state_words state z (omega arith);
        lent = y;
      }

  pub linked_runs : {state scratch text : List ℕ} {allowance wanted : ℕ} {old new : List ℕ} {r : Written} → Zeros state_words state → LentScratch scratch (length text) → ((v : Runnable l state scratch text) → RunWritten v.sh v.g allowance wanted old new r) → RunWritten w.sh w.g allowance wanted old new r
  unfolding runnable
  linked_runs z y k = k (runnable z y)
