-- `parse::leaves::read_numeral` meets its contract: each way out is a law of `TermLaws`. Assumes nothing.
use Rattle.parse.proofs.TermLaws.{numeral-low, numeral-fits, numeral-asked, numeral-given}
use Rattle.parse.proofs.leaves.read_numeral.Goals as goal

pub overflow_sub-kept : goal.overflow_sub-kept
overflow_sub-kept c = numeral-low _ _ _ _ _ c.requires.room_to_read c.first_kept-p.ensures

pub pack_functor-what-requires : goal.pack_functor-what-requires
pack_functor-what-requires c = numeral-fits _ _ _ _ _ c.requires.room_to_read c.first_kept-p.ensures

pub leaf_at-requires : goal.leaf_at-requires
leaf_at-requires c = let both = numeral-asked _ _ _ _ _ c.requires.room_to_read c.first_kept-p.ensures _ c.requires.kind_value c.pack_functor-what.ensures in record { room_to_read = both.0; what_bound = both.1 }

pub returns : goal.returns
returns c = numeral-given _ _ _ _ _ _ _ _ c.requires.room_to_read c.first_kept-p.ensures c.pack_functor-what.ensures c.leaf_at.ensures
