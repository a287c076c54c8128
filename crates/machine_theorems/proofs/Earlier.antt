-- "The answers that change are exactly those where the wanted count is reached and no alternative is left" (REQUESTS (vii)): a run is the run in
-- the first order with its kind turned there, and nothing else. Assumes nothing.
use Prim.Native.Nat.{ℕ, zero, suc, ◌+◌}
use mathlib.Core.Path.{◌≡◌, refl, sym, ap}
use mathlib.Core.Bool.{Bool, true, false, ◌&&◌}
use mathlib.Core.Option.{Option, none, some}
use lib.Dec.{leb, ltb, eqb}
use lib.ListN.{length}
use Rattle.syntax.specs.Terms.{Sheet, Goal}
use Rattle.machine.specs.Runs.{RunEnd, Wanted, Done, Steps, Full, Deep, Progress, Ended, is_empty, is_answer, next_line, goes_deeper, first_end, advance, end_or, run_from, begun, run}
use Rattle.machine.specs.Earlier.{run_from_earlier, run_earlier, turned_kind, turned}

-- the first end in each order, by the five tests
abbrev first : Bool → Bool → Bool → Bool → Bool → Option RunEnd
first a b c d e =
    elim b [ true ↦ some Done | false ↦ elim a [ true ↦ some Wanted | false ↦ elim c [ true ↦ some Steps | false ↦ elim d [ true ↦ some Full | false ↦ elim e [ true ↦ some Deep | false ↦ none ] ] ] ] ]

abbrev first_earlier : Bool → Bool → Bool → Bool → Bool → Option RunEnd
first_earlier a b c d e =
    elim a [ true ↦ some Wanted | false ↦ elim b [ true ↦ some Done | false ↦ elim c [ true ↦ some Steps | false ↦ elim d [ true ↦ some Full | false ↦ elim e [ true ↦ some Deep | false ↦ none ] ] ] ] ]

turns-by : (p : Progress) (a b c d e : Bool) (on earlier : Unit {0} → Ended) → is_empty p.pile ≡ b → on tt ≡ turned (earlier tt) → end_or p (first a b c d e) on ≡ turned (end_or p (first_earlier a b c d e) earlier)
unfolding end_or turned_kind
turns-by p true true c d e on earlier q h = ap (λ (x : Bool). record { kind = turned_kind Wanted x; at = p }) (sym q)
turns-by p true false c d e on earlier q h = ap (λ (x : Bool). record { kind = turned_kind Wanted x; at = p }) (sym q)
turns-by p false true c d e on earlier q h = refl
turns-by p false false true d e on earlier q h = refl
turns-by p false false false true e on earlier q h = refl
turns-by p false false false false true on earlier q h = refl
turns-by p false false false false false on earlier q h = h

module _ (sh : Sheet) (g : Goal) (wanted room : ℕ) where
  turns-here : (p : Progress) (c : Bool) (on earlier : Unit {0} → Ended) → on tt ≡ turned (earlier tt) → end_or p (first (leb wanted p.answers) (is_empty p.pile) c (is_answer p.pile && ltb room (length p.text + length (next_line g p.pile))) (goes_deeper sh p.pile)) on ≡ turned (end_or p (first_earlier (leb wanted p.answers) (is_empty p.pile) c (is_answer p.pile && ltb room (length p.text + length (next_line g p.pile))) (goes_deeper sh p.pile)) earlier)
  turns-here p c on earlier h =
      turns-by p (leb wanted p.answers) (is_empty p.pile) c (is_answer p.pile && ltb room (length p.text + length (next_line g p.pile))) (goes_deeper sh p.pile) on earlier refl h

  from-turned : (left : ℕ) (p : Progress) → run_from sh g wanted room left p ≡ turned (run_from_earlier sh g wanted room left p)
  unfolding run_from run_from_earlier first_end
  from-turned zero p = turns-here p (eqb 0 0) (λ _. record { kind = Steps; at = p }) (λ _. record { kind = Steps; at = p }) same
    where
      same : ◌≡◌ {A = Ended} (record { kind = Steps; at = p }) (turned (record { kind = Steps; at = p }))
      same = unfold turned_kind in refl
  from-turned (suc left) p =
      turns-here p (eqb (suc left) 0) (λ _. run_from sh g wanted room left (advance sh g p)) (λ _. run_from_earlier sh g wanted room left (advance sh g p)) (from-turned left (advance sh g p))

  pub exactly-those : (allowance : ℕ) → run sh g allowance wanted room ≡ turned (run_earlier sh g allowance wanted room)
  unfolding run run_earlier
  exactly-those allowance = from-turned allowance (begun sh g)
