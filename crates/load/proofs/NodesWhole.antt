-- Laws of loading as a whole. Assumes nothing.
use Prim.Native.Nat.{ℕ, suc, ◌+◌, ◌*◌, ◌≤◌, ◌<◌}
use native.Mathlib.Omega.{arith}
use mathlib.Core.Path.{◌≡◌, refl, sym, ap, ap₂, ◌∙◌, subst}
use mathlib.Core.List.{List, [], ◌∷◌, ◌++◌}
use lib.Dec.{T}
use lib.ListN.{length, length-append}
use Rattle.syntax.specs.Limits.{goal_bytes}
use Rattle.syntax.specs.Words.{program_words, goal_words, program_bytes}
use Rattle.words.specs.Tables.{WordsAt}
use Rattle.words.proofs.TablesLaws.{has-inside}
use Rattle.run_layout.specs.Regions.{loaded_node, most_nodes, nodes_words}
use Rattle.run_layout.specs.Nodes.{Symbol, name_of_symbol}
use Rattle.run_layout.specs.Program.{body_nodes, clauses_nodes, program_nodes, body_loadable, clauses_loadable}
use Rattle.run_layout.specs.SymbolNames.{text_of, name_at, NamePlaced, SymbolsSpelt}
use Rattle.run_layout.specs.Symbols.{symbol_text}
use Rattle.load.specs.Flat.{NodeAsRead, parsed_words, body_parsed, clauses_parsed, Flat, flat_words, flat_all, put_all, BodyHere, ClausesHere}
use Rattle.load.specs.Symbols.{word_name, SymbolInside, symbol_at, symbols_of, SymbolsListed}
use Rattle.load.specs.Listing.{with_all, numbered_all, Copied, NodesNumbered}
use Rattle.load.specs.Loading.{Loadable, Loaded}
use Rattle.load.proofs.NodesWriting.{length-written, written-append, has-written}
use Rattle.load.proofs.Parsed.{flat-length, body-long}
use Rattle.load.proofs.NodesClauses.{clauses-long}
use Rattle.load.proofs.Spelt.{sheet-text, goal-text}
use Rattle.load.proofs.Finding.{length_symbols, symbols-at}
use Rattle.load.proofs.Terms.{words_append, numbered-append, inside-append, AllListed, all_listed, listed-left, listed-right, loaded_of, body_inside, clauses-inside, body_fine, clauses-fine}

-- ---- words within a table

has_within : (table ws : List ℕ) → WordsAt table 0 ws → length ws ≤ length table
has_within table [] h = omega arith
has_within table (w ∷ ws) h = let z : 0 + length (w ∷ ws) ≤ length table = has-inside table 0 (w ∷ ws) h (omega arith) in let y : length (w ∷ ws) ≤ length table = omega arith in y

-- the words of nodes that come of words in a table
few : {most : ℕ} (table ws : List ℕ) (text : ℕ) (xs : List NodeAsRead) → length (parsed_words xs) ≤ length ws → WordsAt table 0 ws → length table ≤ most → length (flat_words (flat_all text xs)) * 3 ≤ most * 2
few table ws text xs l h m = omega (arith, flat-length text xs, has_within table ws h)

numbered-long : (sheet goal : List ℕ) (ss : List Symbol) (xs : List Flat) → length (flat_words (numbered_all sheet goal ss xs)) ≡ length (flat_words xs)
unfolding flat_words numbered_all
numbered-long sheet goal ss [] = refl
numbered-long sheet goal ss (x ∷ xs) = ap (λ (k : ℕ). suc (suc k)) (numbered-long sheet goal ss xs)

-- ---- the symbols are spelt where their words say

name-at : (sheet goal symbols : List ℕ) (k r : ℕ) → k < r → name_at symbols sheet goal k ≡ name_of_symbol (symbols_of sheet goal symbols r) k
unfolding name_at name_of_symbol symbol_at word_name
name-at sheet goal symbols k r l = sym (ap (λ (s : Symbol). s.name) (symbols-at sheet goal symbols k r (record { name = []; arguments = 0 }) l))

placed : (sheet goal symbols : List ℕ) (r : ℕ) → SymbolsListed sheet goal symbols r → (k : ℕ) → k < r → NamePlaced symbols sheet goal k
unfolding SymbolInside
placed sheet goal symbols r h k l = record { listed = (let z : most_nodes + r ≤ length symbols = h.room in omega arith); inside = h.inside k l }

names : (sheet goal symbols : List ℕ) (r : ℕ) (ss : List Symbol) → symbols_of sheet goal symbols r ≡ ss → SymbolsListed sheet goal symbols r → SymbolsSpelt ss symbols sheet goal
names sheet goal symbols r ss e h =
    let long : length ss ≡ r = sym (ap length e) ∙ length_symbols sheet goal symbols r in
    record {
      placed = λ k l. placed sheet goal symbols r h k (let z : k < r = omega arith in z);
      name = λ k l. name-at sheet goal symbols k r (let z : k < r = omega arith in z) ∙ ap (λ (us : List Symbol). name_of_symbol us k) e;
    }

-- ---- what the functions are given

module _ (sheet table : List ℕ) (clauses : ℕ) (goal goals : List ℕ) (literals : ℕ) (nodes symbols : List ℕ) where
  abbrev pub goal-here : Loadable sheet table clauses goal goals literals nodes symbols → BodyHere goals 0 literals
  goal-here w = record {
    text = goal;
    short = (let z : length goal ≤ goal_bytes = w.tables.goal_short in let y : length goal ≤ program_bytes = omega arith in y);
    body = w.tables.g.body;
    has = w.tables.has_goal;
    count = w.tables.literals_count;
    stands = w.tables.goal_stands;
  }

  abbrev pub clauses-here : Loadable sheet table clauses goal goals literals nodes symbols → ClausesHere table 0 clauses
  clauses-here w = record {
    text = sheet;
    short = w.tables.sheet_short;
    list = w.tables.sh.clauses;
    has = w.tables.has_clauses;
    count = w.tables.clauses_count;
    stand = w.tables.clauses_stand;
  }

  module _ (w : Loadable sheet table clauses goal goals literals nodes symbols) where
    abbrev goal-words : List ℕ
    goal-words = flat_words (flat_all 1 (body_parsed w.tables.g.body))

    abbrev clauses-words : List ℕ
    clauses-words = flat_words (flat_all 0 (clauses_parsed w.tables.sh.clauses))

    goal-few : length goal-words * 3 ≤ goal_words * loaded_node
    goal-few = few goals _ 1 _ (body-long w.tables.g.body) w.tables.has_goal w.tables.goals_short

    clauses-few : length clauses-words * 3 ≤ program_words * 2
    clauses-few = few table _ 0 _ (clauses-long w.tables.sh.clauses) w.tables.has_clauses w.tables.table_short

    pub middle-near : (m : ℕ) → m ≡ 0 + length goal-words → m * 3 ≤ goal_words * loaded_node
    middle-near m e = omega (arith, goal-few)

    -- the goal's nodes and then the clauses'
    module _ (first second : List ℕ) (m stop : ℕ) (a : (first ≡ put_all nodes 0 goal-words) × (m ≡ 0 + length goal-words)) (b : (second ≡ put_all first m clauses-words) × (stop ≡ m + length clauses-words)) where
      abbrev all-flats : List Flat
      all-flats = flat_all 1 (body_parsed w.tables.g.body) ++ flat_all 0 (clauses_parsed w.tables.sh.clauses)

      all_words : flat_words all-flats ≡ goal-words ++ clauses-words
      all_words = words_append (flat_all 1 (body_parsed w.tables.g.body)) (flat_all 0 (clauses_parsed w.tables.sh.clauses))

      pub second_is : second ≡ put_all nodes 0 (flat_words all-flats)
      second_is =
          b.0 ∙ (ap₂ (λ (l : List ℕ) (k : ℕ). put_all l k clauses-words) a.0 a.1
          ∙ (sym (written-append nodes 0 goal-words clauses-words) ∙ ap (put_all nodes 0) (sym all_words)))

      pub stop_is : stop ≡ length (flat_words all-flats)
      stop_is =
          let e : m ≡ 0 + length goal-words = a.1 in
          let f : stop ≡ m + length clauses-words = b.1 in
          let g : length (flat_words all-flats) ≡ length goal-words + length clauses-words = ap length all_words ∙ length-append goal-words clauses-words in
          let z : stop ≡ length (flat_words all-flats) = omega arith in z

      pub stop-few : stop ≤ nodes_words
      stop-few =
          let e : m ≡ 0 + length goal-words = a.1 in
          let f : stop ≡ m + length clauses-words = b.1 in
          omega (arith, goal-few, clauses-few)

      second-long : length second ≡ length nodes
      second-long = ap length second_is ∙ length-written nodes 0 (flat_words all-flats)

      pub reads-goal : (x : ℕ) → symbol_text x ≡ 1 → text_of x sheet goal ≡ goal
      reads-goal x e = goal-text sheet goal x (λ q. let z : symbol_text x ≡ 0 = q in omega arith)

      abbrev pub copied : Copied sheet goal second stop
      copied = record {
        flats = flat_all 1 (body_parsed w.tables.g.body) ++ flat_all 0 (clauses_parsed w.tables.sh.clauses);
        has = subst (λ (l : List ℕ). WordsAt l 0 (flat_words all-flats)) (sym second_is) (has-written nodes 0 (flat_words all-flats) (omega (arith, stop_is, stop-few, w.nodes_room)));
        ends = stop_is;
        inside = inside-append sheet goal (flat_all 1 (body_parsed w.tables.g.body)) (flat_all 0 (clauses_parsed w.tables.sh.clauses))
            (body_inside sheet goal [] 1 goal (let z : 1 ≤ 1 = omega arith in z) reads-goal w.tables.g.body w.tables.goal_stands)
            (clauses-inside sheet goal [] 0 sheet (let z : 0 ≤ 1 = omega arith in z) (sheet-text sheet goal) w.tables.sh.clauses w.tables.clauses_stand);
      }

      abbrev all-symbols : List Symbol
      all-symbols = with_all sheet goal [] all-flats

      all-are-listed : AllListed sheet goal all-symbols all-flats
      all-are-listed = all_listed sheet goal [] all-flats

      goal-fine : T (body_loadable all-symbols w.tables.g.body) × (body_nodes all-symbols w.tables.g.body ≡ loaded_of sheet goal all-symbols 1 (body_parsed w.tables.g.body))
      goal-fine =
          body_fine sheet goal all-symbols 1 goal (let z : 1 ≤ 1 = omega arith in z) reads-goal w.tables.g.body w.tables.goal_stands
          (listed-left sheet goal all-symbols (flat_all 1 (body_parsed w.tables.g.body)) (flat_all 0 (clauses_parsed w.tables.sh.clauses)) all-are-listed)

      clauses-are-fine : T (clauses_loadable all-symbols w.tables.sh.clauses) × (clauses_nodes all-symbols w.tables.sh.clauses ≡ loaded_of sheet goal all-symbols 0 (clauses_parsed w.tables.sh.clauses))
      clauses-are-fine =
          clauses-fine sheet goal all-symbols 0 sheet (let z : 0 ≤ 1 = omega arith in z) (sheet-text sheet goal) w.tables.sh.clauses w.tables.clauses_stand
          (listed-right sheet goal all-symbols (flat_all 1 (body_parsed w.tables.g.body)) (flat_all 0 (clauses_parsed w.tables.sh.clauses)) all-are-listed)

      program-is : program_nodes all-symbols w.tables.sh w.tables.g ≡ flat_words (numbered_all sheet goal all-symbols all-flats)
      unfolding program_nodes
      program-is =
          ap₂ (λ (x y : List ℕ). x ++ y) goal-fine.1 clauses-are-fine.1
          ∙ (sym (words_append (numbered_all sheet goal all-symbols (flat_all 1 (body_parsed w.tables.g.body))) (numbered_all sheet goal all-symbols (flat_all 0 (clauses_parsed w.tables.sh.clauses))))
          ∙ ap flat_words (sym (numbered-append sheet goal all-symbols (flat_all 1 (body_parsed w.tables.g.body)) (flat_all 0 (clauses_parsed w.tables.sh.clauses)))))

      pub loaded : (third after : List ℕ) (r : ℕ) → NodesNumbered sheet goal (flat_all 1 (body_parsed w.tables.g.body) ++ flat_all 0 (clauses_parsed w.tables.sh.clauses)) second third after r
          → Loaded sheet goal w.tables.sh w.tables.g third after
      loaded third after r n = record {
        ss = all-symbols;
        names = names sheet goal after r all-symbols n.symbols_are n.listed;
        nodes_stand = subst (WordsAt third 0) (sym program-is)
            (subst (λ (l : List ℕ). WordsAt l 0 (flat_words (numbered_all sheet goal all-symbols all-flats))) (sym n.nodes_are)
            (has-written second 0 (flat_words (numbered_all sheet goal all-symbols all-flats)) (omega (arith, numbered-long sheet goal all-symbols all-flats, stop_is, stop-few, second-long, w.nodes_room))));
        goal_loadable = goal-fine.0;
        clauses-loadable = clauses-are-fine.0;
      }
