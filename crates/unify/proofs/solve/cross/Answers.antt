use Rattle.unify.proofs.Turning.{cross-done}
use Rattle.unify.proofs.Safe.{cross-both, cross-settled, safe-crossed}
use Rattle.unify.proofs.solve.cross.Goals as goal

pub follow-e-requires : goal.follow-e-requires
follow-e-requires c = cross-both c.requires

pub decide-requires : goal.decide-requires
decide-requires c = cross-settled c.requires c.follow-e.ensures

pub returns : goal.returns
returns c =
    record {
      means = λ g. cross-done g c.follow-e.ensures c.decide.new.scratch c.decide.result c.decide.ensures.means;
      safe = λ s. safe-crossed s c.follow-e.ensures c.decide.new.scratch c.decide.result c.decide.ensures.safe;
    }
