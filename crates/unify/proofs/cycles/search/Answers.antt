use Rattle.unify.proofs.CycleLaws.{search-enterable, search-given, search-ended}
use Rattle.unify.proofs.cycles.search.Goals as goal

pub enter-p-requires : goal.enter-p-requires
enter-p-requires c = search-enterable c.requires.given c.requires.cell c.requires.bound c.requires.unmarked

pub search_on-requires : goal.search_on-requires
search_on-requires c = search-given c.requires.given c.requires.cell c.requires.bound c.requires.unmarked c.enter-p.ensures

pub returns : goal.returns
returns c = λ g. search-ended g c.requires.cell c.requires.bound c.requires.unmarked c.enter-p.ensures c.search_on.ensures
