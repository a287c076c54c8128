use native.Mathlib.Omega.{arith}
use mathlib.Core.Path.{subst, subst⁻¹}
use mathlib.Core.Logic.{inl, inr}
use Prim.Native.Nat.{ℕ, ◌+◌, ◌<◌}
use lib.ListN.{length}
use Rattle.bindings.specs.Plain.{Constant}
use Rattle.unify.proofs.CycleLaws.{shallow-inside, leaf-name, leaf-inside, leaf-term, leaf-is, at-node}
use Rattle.unify.proofs.cycles.is_leaf.Goals as goal

pub word_at-w-requires : goal.word_at-w-requires
word_at-w-requires c = omega (arith, shallow-inside c.requires)

pub returns-then-w-ge-FIRST_NAME : goal.returns-then-w-ge-FIRST_NAME
returns-then-w-ge-FIRST_NAME c = λ t l. leaf-name c.args.nodes.now c.args.state.now c.args.here.node c.args.here.copy c.args.x c.word_at-w.ensures c.if-w-ge-FIRST_NAME.true l

pub word_at-v-requires : goal.word_at-v-requires
word_at-v-requires c = leaf-inside c.requires c.word_at-w.ensures c.if-w-ge-FIRST_NAME.false c.cell_of-y.ensures

pub returns-then-v-eq0 : goal.returns-then-v-eq0
returns-then-v-eq0 c = λ t l. leaf-is c.requires c.word_at-w.ensures c.if-w-ge-FIRST_NAME.false c.cell_of-y.ensures c.word_at-v.ensures c.if-y-x.false (inl c.if-v-eq0.true)

pub is_constant-requires : goal.is_constant-requires
is_constant-requires c = subst⁻¹ (λ (k : ℕ). k + 1 < length c.args.nodes.now) (at-node c.word_at-v.result c.unpack.ensures) (leaf-term c.requires c.word_at-w.ensures c.if-w-ge-FIRST_NAME.false c.cell_of-y.ensures c.word_at-v.ensures c.if-v-eq0.false)

pub returns : goal.returns
returns c = λ t l. leaf-is c.requires c.word_at-w.ensures c.if-w-ge-FIRST_NAME.false c.cell_of-y.ensures c.word_at-v.ensures c.if-y-x.false (inr (subst (Constant c.args.nodes.now) (at-node c.word_at-v.result c.unpack.ensures) (c.is_constant.ensures t)))
