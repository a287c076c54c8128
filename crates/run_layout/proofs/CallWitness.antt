-- A clause `p.` and the goal `p`: a pile of two alternatives with a frame, so the laws of frames and of a clause laid on top are not empty. Assumes nothing.
use Prim.Native.Nat.{ℕ, zero, suc, ◌+◌, ◌<◌, ◌≤◌, ◌-◌}
use native.Mathlib.Omega.{arith}
use mathlib.Core.Path.{◌≡◌, refl, sym, ap₂, ◌∙◌, subst, subst⁻¹}
use mathlib.Core.List.{List, [], ◌∷◌}
use mathlib.Core.Option.{some}
use lib.ListN.{length, set, replicate, length-replicate}
use Rattle.syntax.specs.Words.{first_name, literal_length, body_length, program_clauses}
use Rattle.syntax.specs.Quote.{bytes}
use Rattle.syntax.specs.Terms.{nil, Atom, term_of, call, Body, done, also, literals_of, same_bytes, Clause, Sheet, Goal}
use Rattle.machine.specs.Machine.{pending, first_for, next_for, nth_clause, clause_at}
use Rattle.machine.specs.Low.{BodyShort, ClausesShort}
use Rattle.machine.proofs.Tests.{some-eq, some-none}
use Rattle.run_layout.specs.Regions.{places, bodies, state_words, frame_of, alternative_of, literal_from, body_end_kind, jump_kind, next_literal, frame_size, alternative_size}
use Rattle.run_layout.specs.Nodes.{Symbol, is_symbol, symbol_of, is_listed, loaded_words, is_loadable, brackets_of, TermLoaded}
use Rattle.run_layout.specs.Program.{body_at, BodyLoaded, ClauseLoaded, Program}
use Rattle.run_layout.specs.Pile.{Calls, rest_from, copy_at, literal_at, path_at, NoJump, NextFor, Piled}
use Rattle.run_layout.proofs.State.{keeps-refl}
use Rattle.run_layout.proofs.Pile.{place-next, rest-next, goal-place, goal-rest, body-stays, next-for, Written, Framed, Stand, Means, Pushing, pushed, started, written, framed}
use Rattle.run_layout.proofs.RunLayoutWitness.{zeros, zeros-long, zeros-clean}

unfoldable pub symbols : List Symbol
symbols = record { name = bytes "p"; arguments = 0 } ∷ []

unfoldable pub table : List ℕ
table = first_name ∷ 2 ∷ []

unfoldable pub atom : Atom
atom = record { at = 0; name = bytes "p"; args = nil }

unfoldable pub clause : Clause
clause = record { head = atom; body = done; variables = 0 }

unfoldable pub sheet : Sheet
sheet = record { declarations = []; clauses = clause ∷ [] }

unfoldable pub goal : Goal
goal = record { body = also (call atom) done; names = [] }

unfoldable pub unused : List ℕ
unused = replicate (bodies - 20) 0

-- four words for the goal and for the clause; the goal's call and its end from 8 on, the clause's end at 16
unfoldable pub code : List ℕ
code = 0 ∷ 8 ∷ 0 ∷ 0 ∷ 0 ∷ 16 ∷ 0 ∷ 0 ∷ 2 ∷ 0 ∷ 1 ∷ 0 ∷ 4 ∷ 0 ∷ 0 ∷ 0 ∷ 4 ∷ 0 ∷ 0 ∷ 0 ∷ unused

unused-long : length unused ≡ (bodies - 20)
unfolding unused
unused-long = length-replicate {A = ℕ} (bodies - 20) 0

code-long : length code ≡ bodies
unfolding code
code-long = let e : length unused ≡ (bodies - 20) = unused-long in omega arith

stands : TermLoaded symbols table 0 (term_of atom)
unfolding symbols table atom loaded_words symbol_of is_symbol is_loadable is_listed brackets_of same_bytes
stands = record { words = (omega arith, refl, (omega arith, refl, tt)); loadable = tt; shallow = omega arith }

topmost-clause : next_for sheet atom 0 ≡ 1
unfolding sheet atom clause next_for first_for same_bytes
topmost-clause = refl

no_other : next_for sheet atom 1 ≡ 0
unfolding sheet next_for first_for
no_other = refl

goal_stands : BodyLoaded symbols sheet table code (body_at code 0) goal.body
unfolding goal code body_length
goal_stands =
    let l : length code ≡ bodies = code-long in
    record { room = (let q : literal_from 8 2 ≤ length code = omega arith in q); items = ((refl, stands, sym topmost-clause), tt); ends = refl }

clause_stands : ClauseLoaded symbols sheet table code 1 clause
unfolding clause code body_length
clause_stands =
    let l : length code ≡ bodies = code-long in
    record { head = stands; body = record { room = (let q : literal_from 16 1 ≤ length code = omega arith in q); items = tt; ends = refl }; after = sym no_other }

clauses_stand : (k : ℕ) (cl : Clause) → clause_at sheet k ≡ some cl → ClauseLoaded symbols sheet table code k cl
unfolding sheet clause_at nth_clause
clauses_stand zero cl e = absurd (some-none cl (sym e))
clauses_stand (suc zero) cl e = subst (ClauseLoaded symbols sheet table code 1) (some-eq clause cl e) clause_stands
clauses_stand (suc (suc k)) cl e = absurd (some-none cl (sym e))

few-clauses : length sheet.clauses ≤ program_clauses
unfolding sheet
few-clauses = omega arith

small-table : length table ≤ places
unfolding table
small-table = omega arith

clauses-short : ClausesShort sheet.clauses
unfolding sheet clause literals_of
clauses-short = (record { few = omega arith; filled = tt }, tt)

goal_short : BodyShort goal.body
unfolding goal literals_of
goal_short = record { few = omega arith; filled = (tt, tt) }

pub program : Program symbols sheet goal table code
program =
    let l : length code ≡ bodies = code-long in
    record { small = small-table; long = omega arith; short = omega arith; few = few-clauses; bodies_short = clauses-short; goal_short = goal_short; goal = goal_stands; clause = clauses_stand }

-- ---- the goal alone

unfoldable pub words : List ℕ
words = set (set (set (set (set (set zeros (alternative_of 0) 0) (alternative_of 0 + 1) (body_at code 0)) (alternative_of 0 + 2) 1) (alternative_of 0 + 3) 0) (alternative_of 0 + 4) 0) (alternative_of 0 + 5) 0

words-written : Written 0 0 (body_at code 0) 1 0 0 zeros words
unfolding words
words-written = let l : length zeros ≡ state_words = zeros-long in written zeros 0 0 (body_at code 0) 1 0 0 0 (let q : alternative_of 0 + alternative_size ≤ length zeros = omega arith in q)

words_long : length words ≡ state_words
words_long = words-written.long ∙ zeros-long

call-eq : (a b : Atom) → call a ≡ call b → a ≡ b
call-eq a b e = cc

first-clause : (a : Atom) → Calls goal.body a → NextFor sheet a 1
unfolding goal
first-clause a h = subst (λ (y : Atom). NextFor sheet y 1) (call-eq atom a h) (subst (NextFor sheet atom) topmost-clause (next-for sheet atom 0))

pub pile : Means symbols sheet goal table code words 1 0 (record { literals = pending 0 goal.body []; bindings = []; next = 1; calls = [] } ∷ [])
pile = started symbols sheet goal table code zeros words 1 program (let l : length zeros ≡ state_words = zeros-long in omega arith) zeros-clean first-clause words-written

-- ---- the clause laid on top

top-rest : rest_from sheet goal code words (copy_at words 0) (literal_at words 0) ≡ goal.body
top-rest = ap₂ (rest_from sheet goal code words) words-written.copy words-written.literal ∙ goal-rest sheet goal code words

goal-calls : Calls goal.body atom
unfolding goal
goal-calls = refl

top-calls : Calls (rest_from sheet goal code words (copy_at words 0) (literal_at words 0)) atom
top-calls = subst⁻¹ (λ (y : Body). Calls y atom) top-rest goal-calls

unfoldable pub framed-words : List ℕ
framed-words = set (set (set words (frame_of 1) 1) (frame_of 1 + 1) (copy_at words 0)) (frame_of 1 + 2) (literal_at words 0)

words-framed : Framed 1 1 (copy_at words 0) (literal_at words 0) words framed-words
unfolding framed-words
words-framed = let l : length words ≡ state_words = words_long in framed words 1 1 (copy_at words 0) (literal_at words 0) (let q : frame_of 1 + frame_size ≤ length words = omega arith in q)

clause-one : clause_at sheet 1 ≡ some clause
unfolding sheet clause_at nth_clause
clause-one = refl

pub pushing : Pushing symbols sheet goal table code words words framed-words 0 0 0 1 1 atom clause
pushing =
    record {
      piled = pile.piled;
      mark = words-written.mark;
      path = (let e : path_at words 0 ≡ 0 = words-written.path in let q : 1 ≡ path_at words 0 + 1 = omega arith in q);
      low = omega arith;
      calls = top-calls;
      keeps = keeps-refl 0 words;
      store = pile.piled.store;
      within = record { cell = λ i l. absurd (let z : i < 0 = l in omega arith); copy = λ i l. absurd (let z : i < 0 = l in omega arith) };
      more = omega arith;
      clause = clause-one;
      framed = words-framed;
    }

-- the goal's end, behind its call
goal-is : rest_from sheet goal code framed-words 0 (body_at code 0) ≡ also (call atom) done
unfolding goal
goal-is = goal-rest sheet goal code framed-words

goal-first : NoJump code (body_at code 0)
goal-first = body-stays program 0 (omega arith)

one-call : literal_length (call atom) ≡ 1
unfolding literal_length
one-call = refl

end_rest : rest_from sheet goal code framed-words 0 (next_literal (body_at code 0)) ≡ done
end_rest = rest-next program (goal-place sheet goal code framed-words) goal-first one-call goal-is

end_stays : NoJump code (next_literal (body_at code 0))
unfolding code
end_stays e = let z : body_end_kind ≡ jump_kind = e in omega arith

end-stand : Stand sheet goal code framed-words 0 (next_literal (body_at code 0)) 0
end-stand =
    record {
      place = place-next program (goal-place sheet goal code framed-words) goal-first one-call goal-is;
      stays = end_stays;
      ends = λ e. refl;
      next = λ a h. absurd (subst (λ (y : Body). Calls y a) end_rest h);
    }

unfoldable pub two-words : List ℕ
two-words = set (set (set (set (set (set framed-words (alternative_of 1) 0) (alternative_of 1 + 1) (next_literal (body_at code 0))) (alternative_of 1 + 2) 0) (alternative_of 1 + 3) 0) (alternative_of 1 + 4) 1) (alternative_of 1 + 5) 0

two-written : Written 1 0 (next_literal (body_at code 0)) 0 0 1 framed-words two-words
unfolding two-words
two-written =
    let l : length framed-words ≡ state_words = words-framed.long ∙ words_long in
    written framed-words 1 0 (next_literal (body_at code 0)) 0 0 1 0 (let q : alternative_of 1 + alternative_size ≤ length framed-words = omega arith in q)

-- two alternatives, the upper with a copy made
pub piled : Piled symbols sheet goal table code two-words 2 0
piled = (pushed symbols sheet goal table code words words framed-words 0 0 0 1 1 atom clause pushing two-words 0 (next_literal (body_at code 0)) 0 (omega arith) end-stand two-written).piled
