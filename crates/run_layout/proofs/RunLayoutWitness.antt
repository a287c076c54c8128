-- A store with a binding, a loaded program and a pile of it: there are some, so their laws are not empty. Assumes nothing.
use Prim.Native.Nat.{ℕ, zero, suc, ◌+◌, ◌<◌, ◌≤◌}
use native.Mathlib.Omega.{arith}
use mathlib.Core.Path.{◌≡◌, refl, sym, ◌∙◌, subst⁻¹}
use mathlib.Core.Bool.{Bool, true, false}
use mathlib.Core.List.{List, [], ◌∷◌}
use mathlib.Core.Option.{some}
use lib.Dec.{ltb}
use lib.ListN.{length, get_or, set, replicate, length-set, length-replicate, get_or-replicate, get_or-eq_default}
use lib.Seq.{get_or-set_same, get_or-set_other}
use borrow.Author.Tests.{ltb-true, ltb-false}
use Rattle.syntax.specs.Words.{first_name, body_length, program_clauses}
use Rattle.syntax.specs.Quote.{bytes}
use Rattle.syntax.specs.Terms.{variable, compound, nil, cons, same_bytes, truth, done, also, literals_of, Clause, Sheet, Goal}
use Rattle.machine.specs.Substitution.{resolve}
use Rattle.run_layout.specs.Regions.{bodies, store_words, state_words, alternative_of, alternative_size}
use Rattle.run_layout.specs.Rooms.{Clean}
use Rattle.run_layout.specs.Nodes.{Symbol, is_symbol, symbol_of, is_listed, name_of_symbol, loaded_words, is_loadable, brackets_of, Node, decoded, term_at}
use Rattle.run_layout.specs.State.{word_of, bindings, Store, bound_words}
use Rattle.machine.specs.Machine.{pending, nth_clause, clause_at}
use Rattle.machine.specs.Low.{ClausesShort}
use Rattle.machine.proofs.Tests.{some-none}
use Rattle.run_layout.specs.Program.{body_at, record_kind, BodyLoaded, Program}
use Rattle.run_layout.specs.Pile.{Piled}
use Rattle.run_layout.proofs.Pile.{Means, started, written}
use Rattle.run_layout.proofs.State.{no-bindings, bind-raw, bind-acyclic}

-- the symbol f with one argument, and the table of f(X)
unfoldable pub symbols : List Symbol
symbols = record { name = bytes "f"; arguments = 1 } ∷ []

unfoldable pub table : List ℕ
table = first_name ∷ 4 ∷ 0 ∷ 2 ∷ []

pub node : Node symbols table 0
unfolding symbols table loaded_words symbol_of is_symbol is_loadable is_listed brackets_of same_bytes
node =
    (compound 0 (bytes "f") (cons (variable 0 0) nil), record { words = (omega arith, refl, (omega arith, refl, (omega arith, refl, (omega arith, refl, tt)))); loadable = tt; shallow = omega arith })

unfoldable pub state : List ℕ
state = replicate store_words 0

pub empty : Store symbols table state 0
unfolding table state
empty = no-bindings symbols table state (let e : length state ≡ store_words = length-replicate {A = ℕ} store_words 0 in omega arith) (omega arith) (λ x l. get_or-replicate {A = ℕ} store_words x 0 0 (omega arith))

unbound : get_or state 0 0 ≡ 0
unfolding state
unbound = get_or-replicate {A = ℕ} store_words 0 0 0 (omega arith)

-- variable 0 of the goal is bound to f(X) of copy 1
pub witness : Store symbols table (bound_words state 0 0 (word_of 0 1)) 1
unfolding table symbols bindings resolve term_at decoded name_of_symbol
witness =
    record {
      raw = bind-raw symbols table state 0 0 0 1 empty.raw (omega arith) unbound (omega arith) node (λ l. absurd (let k : first_name < first_name = l in omega arith));
      acyclic = bind-acyclic symbols table state 0 0 0 1 empty.raw (omega arith) unbound (omega arith) empty.acyclic (λ h. h);
    }

-- ---- no clauses, and the goal `true.`

unfoldable pub sheet : Sheet
sheet = record { declarations = []; clauses = [] }

unfoldable pub goal : Goal
goal = record { body = also truth done; names = [] }

-- the goal's literals stand from 4 on: truth, and the body's end
unfoldable pub code : List ℕ
code = set (set (replicate bodies 0) 1 4) 8 4

code-long : length code ≡ bodies
unfolding code
code-long = length-set {A = ℕ} (set (replicate bodies 0) 1 4) 8 4 ∙ (length-set {A = ℕ} (replicate bodies 0) 1 4 ∙ length-replicate {A = ℕ} bodies 0)

code_body : body_at code 0 ≡ 4
unfolding code
code_body = get_or-set_other {A = ℕ} (set (replicate bodies 0) 1 4) 8 1 4 0 (λ e. omega arith) ∙ get_or-set_same {A = ℕ} (replicate bodies 0) 1 4 0 (let e : length (replicate {A = ℕ} bodies 0) ≡ bodies = length-replicate {A = ℕ} bodies 0 in omega arith)

code-truth : record_kind code 4 ≡ 0
unfolding code
code-truth = get_or-set_other {A = ℕ} (set (replicate bodies 0) 1 4) 8 4 4 0 (λ e. omega arith) ∙ (get_or-set_other {A = ℕ} (replicate bodies 0) 1 4 4 0 (λ e. omega arith) ∙ get_or-replicate {A = ℕ} bodies 4 0 0 (omega arith))

code-end : record_kind code 8 ≡ 4
unfolding code
code-end = get_or-set_same {A = ℕ} (set (replicate bodies 0) 1 4) 8 4 0 (let e : length (set (replicate {A = ℕ} bodies 0) 1 4) ≡ bodies = length-set {A = ℕ} (replicate bodies 0) 1 4 ∙ length-replicate {A = ℕ} bodies 0 in omega arith)

pub no-clause : (k : ℕ) (cl : Clause) → clause_at sheet k ≡ some cl → ⊥
unfolding sheet clause_at nth_clause
no-clause zero cl e = some-none cl (sym e)
no-clause (suc k) cl e = some-none cl (sym e)

pub few-clauses : length sheet.clauses ≤ program_clauses
unfolding sheet
few-clauses = omega arith

pub none-short : ClausesShort sheet.clauses
unfolding sheet
none-short = tt

pub program : Program [] sheet goal [] code
unfolding sheet goal body_length literals_of
program =
    let l : length code ≡ bodies = code-long in
    record {
      small = omega arith;
      long = omega arith;
      short = omega arith;
      few = few-clauses;
      bodies_short = none-short;
      goal_short = record { few = omega arith; filled = (tt, tt) };
      goal = subst⁻¹ (λ (p : ℕ). BodyLoaded [] sheet [] code p (also truth done)) code_body (record { room = omega arith; items = (code-truth, tt); ends = code-end });
      clause = λ k cl e. absurd (no-clause k cl e);
    }

unfoldable pub zeros : List ℕ
zeros = replicate state_words 0

pub zeros-long : length zeros ≡ state_words
unfolding zeros
zeros-long = length-replicate {A = ℕ} state_words 0

pub zeros-words : (i : ℕ) → get_or zeros i 0 ≡ 0
unfolding zeros
zeros-words i = go (ltb i state_words) refl
  where
    go : (b : Bool) → ltb i state_words ≡ b → get_or zeros i 0 ≡ 0
    go true e = get_or-replicate {A = ℕ} state_words i 0 0 (ltb-true i state_words e)
    go false e = get_or-eq_default {A = ℕ} zeros 0 {n = i} (let l : length zeros ≡ state_words = zeros-long in let q : state_words ≤ i = ltb-false i state_words e in omega arith)

pub zeros-clean : Clean zeros
zeros-clean = let l : length zeros ≡ state_words = zeros-long in record { long = omega arith; zero = λ y q. zeros-words y }

-- the words of the goal alone
unfoldable pub words : List ℕ
words = set (set (set (set (set (set zeros (alternative_of 0) 0) (alternative_of 0 + 1) (body_at code 0)) (alternative_of 0 + 2) 0) (alternative_of 0 + 3) 0) (alternative_of 0 + 4) 0) (alternative_of 0 + 5) 0

pub pile : Means [] sheet goal [] code words 1 0 (record { literals = pending 0 goal.body []; bindings = []; next = 0; calls = [] } ∷ [])
unfolding words
pile =
    let l : length zeros ≡ state_words = zeros-long in
    started [] sheet goal [] code zeros words 0 program (omega arith) zeros-clean (λ a h. tt) (written zeros 0 0 (body_at code 0) 0 0 0 0 (let q : alternative_of 0 + alternative_size ≤ length zeros = omega arith in q))

pub piled : Piled [] sheet goal [] code words 1 0
piled = pile.piled
