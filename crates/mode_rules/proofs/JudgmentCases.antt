-- A case of the judgment, which does not compute: the goal `p(X).` over `:- mode p(+).` has no derivation, its input being open. Assumes nothing.
use mathlib.Core.Path.{refl}
use mathlib.Core.Bool.{false≢true, true≢false}
use mathlib.Core.List.{List, [], ◌∷◌}
use Rattle.syntax.specs.Quote.{bytes}
use Rattle.syntax.specs.Terms.{variable, nil, cons, Atom, call, also, done, Mark, input, Sheet, Goal, same_bytes}
use Rattle.mode_rules.specs.Modes.{none_ground}
use Rattle.mode_rules.specs.Judgment.{ground_variable, MarkedGround, marked_one, marked_other, DeclaredMarks, first, later, atom, BodyModed, conjunction, WellModedGoal}

abbrev sheet : Sheet
sheet = record { declarations = record { at = 8; name = bytes "p"; marks = input ∷ [] } ∷ []; clauses = [] }

abbrev asked : Atom
asked = record { at = 0; name = bytes "p"; args = cons (variable 0 2) nil }

abbrev goal : Goal
goal = record { body = also (call asked) done; names = bytes "X" ∷ [] }

open-input : MarkedGround input none_ground (input ∷ []) (cons (variable 0 2) nil) → ⊥
unfolding none_ground
open-input (marked_one (ground_variable e) r) = false≢true e
open-input (marked_other n r) = n refl

open-call : {ms : List Mark} → DeclaredMarks sheet.declarations asked ms → MarkedGround input none_ground ms asked.args → ⊥
unfolding same_bytes
open-call (first e) g = open-input g
open-call (later e d) g = true≢false e

pub not-well-moded : WellModedGoal sheet goal → ⊥
not-well-moded w = refuted w.1
  where
    refuted : BodyModed sheet.declarations none_ground goal.body w.0 → ⊥
    refuted (conjunction (atom d i o) r) = open-call d i
