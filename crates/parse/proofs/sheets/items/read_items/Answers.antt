use mathlib.Core.Path.{refl, ◌∙◌}
use native.Mathlib.Omega.{arith}
use Rattle.parse.proofs.Starts.{kind-eq, kind-not_eq, kind-ne, kind-not_ne}
use Rattle.parse.proofs.SheetLaws.{loading-start, loading-end, loading-wrong, loading-declaration-fault, declaration-less, loading-declaration, clause-ready, loading-clause-fault, clause-less, loading-clause}
use Rattle.parse.proofs.sheets.items.read_items.Goals as goal

pub loop-st-init : goal.loop-st-init
loop-st-init c = record {
  loading = loading-start c.args.s.now c.args.declared.now c.args.table.now c.start-st.result c.requires.s_len_bound c.requires.declared_words_in_bounds.1.0 c.start-st.ensures.is c.start-st.ensures.stands;
  declared_long = refl;
  table_long = refl;
}

pub next_declaration-requires : goal.next_declaration-requires
next_declaration-requires c = record { cursor_inside = c.loop-st.invariant.loading.standing; ds_le_declarations = (c.loop-st.invariant.loading.ds_most, omega (arith, c.requires.declared_words_in_bounds.0, c.loop-st.invariant.declared_long)) }

pub overflow_add-read : goal.overflow_add-read
overflow_add-read c = omega (arith, c.loop-st.invariant.loading.ds_most)

pub loop-st-smaller-in-Ok : goal.loop-st-smaller-in-Ok
loop-st-smaller-in-Ok c = declaration-less c.args.s.now c.loop-st.declared c.loop-st.table c.loop-st.read.declarations c.loop-st.read.clauses c.loop-st.read.used c.loop-st.st c.loop-st.invariant.loading (kind-ne c.loop-st-test.ensures) (kind-eq c.if-eq.ensures) c.next_declaration.new.declared _ c.in-Ok.ensures

pub loop-st-preserved-in-Ok : goal.loop-st-preserved-in-Ok
loop-st-preserved-in-Ok c = record {
  loading = loading-declaration c.args.s.now c.loop-st.declared c.loop-st.table c.loop-st.read.declarations c.loop-st.read.clauses c.loop-st.read.used c.loop-st.st c.loop-st.invariant.loading (kind-ne c.loop-st-test.ensures) (kind-eq c.if-eq.ensures) c.next_declaration.new.declared _ c.in-Ok.ensures;
  declared_long = c.next_declaration.auto.declared ∙ c.loop-st.invariant.declared_long;
  table_long = c.loop-st.invariant.table_long;
}

pub returns-in-Err : goal.returns-in-Err
returns-in-Err c = rw c.fault_behind.ensures (loading-declaration-fault c.args.s.now c.loop-st.declared c.loop-st.table c.loop-st.read.declarations c.loop-st.read.clauses c.loop-st.read.used c.loop-st.st c.loop-st.invariant.loading (kind-ne c.loop-st-test.ensures) (kind-eq c.if-eq.ensures) c.next_declaration.new.declared _ c.in-Err.ensures)

pub returns-then-ne : goal.returns-then-ne
returns-then-ne c = rw c.fault_behind-then-ne.ensures (loading-wrong c.args.s.now c.loop-st.declared c.loop-st.table c.loop-st.read.declarations c.loop-st.read.clauses c.loop-st.read.used c.loop-st.st c.loop-st.invariant.loading c.wrong.result (kind-ne c.loop-st-test.ensures) (kind-not_eq c.if-eq.ensures) (kind-ne c.if-ne.ensures) c.wrong.ensures)

pub next_clause-requires : goal.next_clause-requires
next_clause-requires c = record {
  room_to_read = clause-ready c.args.s.now c.loop-st.declared c.loop-st.table c.loop-st.read.declarations c.loop-st.read.clauses c.loop-st.read.used c.loop-st.st c.loop-st.invariant.loading (omega (arith, c.requires.declared_words_in_bounds.1.1, c.loop-st.invariant.table_long)) (kind-ne c.loop-st-test.ensures);
  kind_value = (kind-not_ne c.if-ne.ensures, c.loop-st.invariant.loading.cs_most);
}

pub loop-st-smaller : goal.loop-st-smaller
loop-st-smaller c = clause-less c.args.s.now c.loop-st.declared c.loop-st.table c.loop-st.read.declarations c.loop-st.read.clauses c.loop-st.read.used c.loop-st.st c.loop-st.invariant.loading (kind-ne c.loop-st-test.ensures) (kind-not_eq c.if-eq.ensures) (kind-not_ne c.if-ne.ensures) c.next_clause.new.table c.next_clause.auto.table _ c.in-Ok-next_clause.ensures

pub loop-st-preserved : goal.loop-st-preserved
loop-st-preserved c = record {
  loading = loading-clause c.args.s.now c.loop-st.declared c.loop-st.table c.loop-st.read.declarations c.loop-st.read.clauses c.loop-st.read.used c.loop-st.st c.loop-st.invariant.loading (kind-ne c.loop-st-test.ensures) (kind-not_eq c.if-eq.ensures) (kind-not_ne c.if-ne.ensures) c.next_clause.new.table c.next_clause.auto.table _ c.in-Ok-next_clause.ensures;
  declared_long = c.loop-st.invariant.declared_long;
  table_long = c.next_clause.auto.table ∙ c.loop-st.invariant.table_long;
}

pub returns-in-Err-next_clause : goal.returns-in-Err-next_clause
returns-in-Err-next_clause c = rw c.fault_behind-in-Err-next_clause.ensures (loading-clause-fault c.args.s.now c.loop-st.declared c.loop-st.table c.loop-st.read.declarations c.loop-st.read.clauses c.loop-st.read.used c.loop-st.st c.loop-st.invariant.loading (kind-ne c.loop-st-test.ensures) (kind-not_eq c.if-eq.ensures) (kind-not_ne c.if-ne.ensures) c.next_clause.new.table c.next_clause.auto.table _ c.in-Err-next_clause.ensures)

pub returns : goal.returns
returns c = loading-end c.args.s.now c.loop-st.declared c.loop-st.table c.loop-st.read.declarations c.loop-st.read.clauses c.loop-st.read.used c.loop-st.st c.loop-st.invariant.loading (kind-not_ne c.loop-st-test.ensures)
