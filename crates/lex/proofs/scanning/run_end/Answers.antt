use Rattle.std.proofs.Common.{rules, ◌≡◌, get_or, refl, ◌<◌}
use Rattle.lex.proofs.ScanningLaws.{runs-stop, runs_on, runs-end}
use Rattle.lex.proofs.scanning.run_end.Goals as goal

pub loop-end-init : goal.loop-end-init
loop-end-init g c = λ test d. refl

pub returns-then-not-goes_on-clause-run : goal.returns-then-not-goes_on-clause-run
returns-then-not-goes_on-clause-run g c = λ test d.
    let fits : get_or c.args.s.now c.loop-end.end 0 < 256 = search rules in
    let e : c.goes_on.result ≡ test (get_or c.args.s.now c.loop-end.end 0) = d _ _ fits c.goes_on.ensures in
    runs-stop test c.args.s.now c.args.from c.loop-end.end (search rules) (cc) (c.loop-end.invariant test d)

pub loop-end-preserved : goal.loop-end-preserved
loop-end-preserved g c = λ test d.
    let fits : get_or c.args.s.now c.loop-end.end 0 < 256 = search rules in
    let e : c.goes_on.result ≡ test (get_or c.args.s.now c.loop-end.end 0) = d _ _ fits c.goes_on.ensures in
    runs_on test c.args.s.now c.args.from c.loop-end.end (search rules) (cc) (c.loop-end.invariant test d)

pub returns-clause-run : goal.returns-clause-run
returns-clause-run g c = λ test d. runs-end test c.args.s.now c.args.from c.loop-end.end (search rules) (search rules) (c.loop-end.invariant test d)
