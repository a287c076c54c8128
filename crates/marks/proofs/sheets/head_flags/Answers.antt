use Prim.Native.Nat.{ℕ, ◌<◌}
use native.Mathlib.Omega.{arith}
use mathlib.Core.Path.{◌≡◌, sym, ap, ◌∙◌}
use mathlib.Core.Bool.{Bool, true, false, ◌||◌}
use mathlib.Core.List.{List}
use lib.ListN.{length, length-set, get_or}
use Rattle.std.specs.Prelude.{Option}
use Rattle.syntax.specs.Limits.{declarations}
use Rattle.marks.proofs.UndeclaredClauses.{clause-words, clause-room, head-at}
use Rattle.marks.proofs.ClausesSheets.{sheet-declarations}
use Rattle.marks.specs.Flags.{is_place, OnlyDeclaration}
use Rattle.marks.proofs.Heads.{begun, here, flag-set, flagged-on, all-flagged}
use Rattle.marks.proofs.sheets.head_flags.Goals as goal
use Rattle.marks.proofs.sheets.head_flags.Goals.{in-Some, in_default}

pub loop-clause-init : goal.loop-clause-init
loop-clause-init c = (omega arith, λ w. begun 64 w.stands)

pub overflow_add-head : goal.overflow_add-head
overflow_add-head c = omega (arith, clause-room (here c.loop-clause-test.true (c.loop-clause.invariant.1 c.requires)).clause)

pub find_near-requires : goal.find_near-requires
find_near-requires c = head-at (here c.loop-clause-test.true (c.loop-clause.invariant.1 c.requires)).clause

pub bounds-flags-found : goal.bounds-flags-found
bounds-flags-found c = let w = c.requires in
    let f = c.find_near.ensures (sheet-declarations w.stands) (head-at (here c.loop-clause-test.true (c.loop-clause.invariant.1 w)).clause) w.once in
    omega (arith, f.low c.in-Some.found c.in-Some.is, w.few, w.stands.declarations_count)

pub past_clause-at-requires : goal.past_clause-at-requires
past_clause-at-requires c = let w = c.requires in
    clause-words (here c.loop-clause-test.true (c.loop-clause.invariant.1 w)).clause

pub loop-clause-preserved : goal.loop-clause-preserved
loop-clause-preserved c = let on = c.loop-clause-test.true in
    let long : length c.loop-clause.flags ≡ declarations = c.loop-clause.invariant.0 in
    let flags : List Bool = c.loop-clause.flags in
    elim c.match-find_near.branch [
      | in-Some w ↦ (
        ap length w.flags-is ∙ length-set flags w.in-Some.found true ∙ long,
        λ v.
            let a = c.loop-clause.invariant.1 v in
            let f : OnlyDeclaration v.stands.sheet.declarations (here on a).clause.clause.head c.find_near.result =
            c.find_near.ensures (sheet-declarations v.stands) (head-at (here on a).clause) v.once in
            let inside : w.in-Some.found < length flags = omega (arith, f.low w.in-Some.found w.in-Some.is, v.few, v.stands.declarations_count) in
            flagged-on on a c.find_near.result f c.match-find_near.flags
            (λ k low.
            ap (λ (x : List Bool). get_or x k false) w.flags-is
            ∙ flag-set flags w.in-Some.found k inside
            ∙ sym (ap (λ (o : Option ℕ). is_place o k || get_or flags k false) w.in-Some.is))
            c.past_clause-at.result (λ u. c.past_clause-at.ensures u.clause u.has),
      )
      | in_default w ↦ (
        ap length w.flags-is ∙ long,
        λ v.
            let a = c.loop-clause.invariant.1 v in
            let f : OnlyDeclaration v.stands.sheet.declarations (here on a).clause.clause.head c.find_near.result =
            c.find_near.ensures (sheet-declarations v.stands) (head-at (here on a).clause) v.once in
            flagged-on on a c.find_near.result f c.match-find_near.flags
            (λ k low.
            ap (λ (x : List Bool). get_or x k false) w.flags-is
            ∙ sym (ap (λ (o : Option ℕ). is_place o k || get_or flags k false) w.in_default.is))
            c.past_clause-at.result (λ u. c.past_clause-at.ensures u.clause u.has),
      )
    ]

pub returns : goal.returns
returns c = λ w. all-flagged c.loop-clause-test.false (c.loop-clause.invariant.1 w)
