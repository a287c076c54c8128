-- Names and numbers of arguments of two terms.
use Rattle.std.specs.Prelude.{Bool, false}
use Rattle.syntax.specs.Terms.{Term, variable, compound, arity, same_predicate}

-- two terms that are no variables have the same name and number of arguments
abbrev pub same_functor : Term → Term → Bool
same_functor (variable n at) u = false
same_functor (compound at f ts) (variable n bt) = false
same_functor (compound at f ts) (compound bt g us) = same_predicate f (arity ts) g (arity us)
