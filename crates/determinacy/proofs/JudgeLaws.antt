-- Laws of the test of a sheet that stands in its tables: one for each way out of `judge`, and what loading, linking and unification ask. Assumes nothing.
use Prim.Native.Nat.{ℕ}
use native.Mathlib.Omega.{arith}
use mathlib.Core.Path.{◌≡◌, refl, sym, ap, ◌∙◌}
use mathlib.Core.List.{List, [], ◌∷◌}
use mathlib.Core.Option.{Option, none, some}
use Rattle.std.specs.Prelude.{Option as Told, Some, None}
use lib.ListN.{length}
use Rattle.syntax.specs.Terms.{done, Sheet, Goal, literals_of}
use Rattle.syntax.specs.Words.{body_words, body_length}
use Rattle.marks.specs.Spelt.{done_stands}
use Rattle.marks.specs.declared.declarations.Declarations.{Declarations}
use Rattle.machine.specs.Determinacy.{first_bracketed, Pair, first_pair, against, judged_by}
use Rattle.run_layout.proofs.Limits.{program-limited}
use Rattle.run_layout.specs.Regions.{nodes_words, code_words, store_words, narrow_words}
use Rattle.run_layout.specs.Limits.{GoalLimited}
use Rattle.run_layout.specs.Program.{Program}
use Rattle.run_layout.proofs.State.{no-bindings}
use Rattle.load.specs.declared.records.Compiled.{Compiled}
use Rattle.load.specs.Loading.{Loadable, Loaded}
use Rattle.load.specs.Linking.{Linkable}
use Rattle.determinacy.specs.declared.Determinacy.{Determinacy}
use Rattle.determinacy.specs.declared.Determinacy.TheVariants.{No}
use Rattle.determinacy.specs.Told.{told}
use Rattle.determinacy.specs.Clauses.{told_number, ClausesIn}
use Rattle.run_layout.specs.Rooms.{Zeros, ProgramRoom}
use Rattle.determinacy.specs.Tables.{SheetReady, SheetLinked, PairsReady}
use Rattle.determinacy.proofs.Numbers.{number-none, number-some}
use Rattle.determinacy.proofs.PairLaws.{told-no}

-- ---- no bindings yet

module _ {declared : Declarations} {table : List ℕ} {k : ℕ} {program : Compiled} {state scratch : List ℕ} (z : Zeros store_words state) (y : Zeros narrow_words scratch) where
  pub pairable : SheetLinked declared.text.now declared.words.now declared.count table k program.nodes.now program.code.now → PairsReady declared table k program state scratch
  pairable w = record {
    linked = w;
    blank = record {
      store = no-bindings w.ss program.nodes.now state (omega (arith, z.long)) w.program.small (λ i l. z.zero_words i);
      roomy = omega (arith, y.long);
      clean = record { long = omega (arith, y.long); zero = λ i l. y.zero_words i };
    };
  }

  pub linked-judged : {r : Determinacy}
      → ((v : PairsReady declared table k program state scratch) → r ≡ told (judged_by (first_pair v.linked.stands.sheet.declarations 1 v.linked.stands.sheet.clauses)))
      → (w : SheetLinked declared.text.now declared.words.now declared.count table k program.nodes.now program.code.now)
      → r ≡ told (judged_by (first_pair w.stands.sheet.declarations 1 w.stands.sheet.clauses))
  unfolding pairable
  linked-judged f w = f (pairable w)

-- ---- loading and linking, with a goal of no literals

abbrev empty : Goal
empty = record { body = done; names = [] }

no_items : 0 ≡ body_length done
unfolding body_length
no_items = refl

empty-limited : GoalLimited empty
unfolding literals_of
empty-limited = record { each = tt; short = record { few = omega arith; filled = tt } }

-- cleared tables are room for it
pub room : {nodes symbols code : List ℕ} → Zeros nodes_words nodes → Zeros nodes_words symbols → Zeros code_words code → ProgramRoom nodes symbols code
room x y z = record { nodes_long = x.long; symbols_long = y.long; code_long = z.long }

-- the words lent for its text and its table
abbrev nothing : List ℕ
nothing = 0 ∷ []

module _ {s declared : List ℕ} {n : ℕ} {table : List ℕ} {k : ℕ} where
  pub loads : {nodes symbols code : List ℕ} → ProgramRoom nodes symbols code → SheetReady s declared n table k → Loadable s table k nothing nothing 0 nodes symbols
  unfolding body_words
  loads {nodes} {symbols} z w =
      let a : nodes_words ≡ length nodes = z.nodes_long in
      let b : nodes_words ≡ length symbols = z.symbols_long in
      record {
        tables = record {
          sh = w.stands.sheet;
          g = empty;
          has_clauses = w.stands.has_clauses;
          clauses_count = w.stands.clauses_count;
          clauses_stand = w.stands.stands.clauses;
          has_goal = tt;
          literals_count = no_items;
          goal_stands = done_stands;
          sheet_short = omega (arith, w.short);
          goal_short = omega arith;
          table_short = omega (arith, w.table_short);
          goals_short = omega arith;
        };
        nodes_room = omega arith;
        nodes_short = omega arith;
        symbols_room = omega arith;
        symbols_short = omega arith;
      }

  module _ {nodes0 symbols0 code0 nodes symbols : List ℕ} (z : ProgramRoom nodes0 symbols0 code0) (a : length nodes ≡ length nodes0)
      (f : (v : Loadable s table k nothing nothing 0 nodes0 symbols0) → Loaded s nothing v.tables.sh v.tables.g nodes symbols) where
    loaded : (w : SheetReady s declared n table k) → Loaded s nothing w.stands.sheet empty nodes symbols
    unfolding loads
    loaded w = f (loads z w)

    pub links : SheetReady s declared n table k → Linkable table k nothing 0 nodes code0
    unfolding body_words
    links w =
        let b : code_words ≡ length code0 = z.code_long in
        let d : nodes_words ≡ length nodes0 = z.nodes_long in
        record {
          ss = (loaded w).ss;
          sh = w.stands.sheet;
          g = empty;
          has_clauses = w.stands.has_clauses;
          clauses_count = w.stands.clauses_count;
          has_goal = tt;
          literals_count = no_items;
          limits = program-limited w.limits;
          goal_limits = empty-limited;
          nodes_stand = (loaded w).nodes_stand;
          goal_loadable = (loaded w).goal_loadable;
          clauses-loadable = (loaded w).clauses-loadable;
          nodes_short = omega arith;
          table_short = omega (arith, w.table_short);
          goals_short = omega arith;
          code_room = omega arith;
          code_short = omega arith;
        }

    module _ {code : List ℕ} (p : (v : Linkable table k nothing 0 nodes code0) → Program v.ss v.sh v.g nodes code) where
      pub linked : SheetReady s declared n table k → SheetLinked s declared n table k nodes code
      unfolding links
      linked w = record { stands = w.stands; ss = (loaded w).ss; g = empty; program = p (links w) }

      pub ready-judged : {r : Determinacy}
          → ((v : SheetLinked s declared n table k nodes code) → r ≡ told (judged_by (first_pair v.stands.sheet.declarations 1 v.stands.sheet.clauses)))
          → (w : SheetReady s declared n table k) → r ≡ told (judged_by (first_pair w.stands.sheet.declarations 1 w.stands.sheet.clauses))
      unfolding linked
      ready-judged q w = q (linked w)

-- ---- brackets first

abbrev bracket-choice : Sheet → Option ℕ → Option Pair
bracket-choice sh o = elim o [ none ↦ first_pair sh.declarations 1 sh.clauses | some n ↦ some (record { first = n; second = 0 }) ]

against-by : (sh : Sheet) (o : Option ℕ) → first_bracketed 1 sh.clauses ≡ o → against sh ≡ bracket-choice sh o
unfolding against
against-by sh o e = ap (bracket-choice sh) e

module _ {s declared : List ℕ} {n : ℕ} {table : List ℕ} {k : ℕ} where
  abbrev pub clauses-in : SheetReady s declared n table k → ClausesIn table k
  clauses-in w = record { list = w.stands.sheet.clauses; has = w.stands.has_clauses; count = w.stands.clauses_count }

  module _ {r : Told ℕ} (f : (v : ClausesIn table k) → r ≡ told_number (first_bracketed 1 v.list)) (w : SheetReady s declared n table k) where
    pub bracket-judged : {b : ℕ} → r ≡ Some b → No b 0 ≡ told (judged_by (against w.stands.sheet))
    bracket-judged {b} d =
        let e : first_bracketed 1 w.stands.sheet.clauses ≡ some b = number-some (first_bracketed 1 w.stands.sheet.clauses) b (sym d ∙ f (clauses-in w)) in
        sym (ap (λ (p : Option Pair). told (judged_by p)) (against-by w.stands.sheet (some b) e) ∙ told-no b 0)

    pub pairs-judged : r ≡ None → {a : Determinacy}
        → ((v : SheetReady s declared n table k) → a ≡ told (judged_by (first_pair v.stands.sheet.declarations 1 v.stands.sheet.clauses))) → a ≡ told (judged_by (against w.stands.sheet))
    pairs-judged d h =
        let e : first_bracketed 1 w.stands.sheet.clauses ≡ none =
        number-none (first_bracketed 1 w.stands.sheet.clauses) (sym d ∙ f (clauses-in w)) in
        h w ∙ sym (ap (λ (p : Option Pair). told (judged_by p)) (against-by w.stands.sheet none e))
