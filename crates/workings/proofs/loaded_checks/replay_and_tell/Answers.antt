use native.Mathlib.Omega.{arith}
use Rattle.workings.proofs.CheckLaws.{replayable, replay-tellable, replay-refused, replay-answerable, replay-clean, replay-told, replay-stored, replay-leaves, replay-room}
use Rattle.workings.proofs.loaded_checks.replay_and_tell.Goals as goal

pub replay-requires : goal.replay-requires
replay-requires c = replayable c.requires

pub tell_line-line-requires-clause-some_answerable : goal.tell_line-line-requires-clause-some_answerable
tell_line-line-requires-clause-some_answerable c = replay-answerable c.requires c.args.workings.now _ _ _ c.replay.ensures c.in-Ok.pile c.in-Ok.is

pub tell_line-line-requires-clause-tellable : goal.tell_line-line-requires-clause-tellable
tell_line-line-requires-clause-tellable c = replay-tellable c.requires _ c.replay.auto.scratch

pub undo-requires : goal.undo-requires
undo-requires c = record { stored = replay-stored c.requires c.args.workings.now (record { ref_ptr = c.args.state.ref_ptr; now = c.replay.new.state }) _ _ c.replay.ensures c.in-Ok.pile c.in-Ok.is; mark_le_n = omega arith }

pub tell_line-line-requires-clause-clean : goal.tell_line-line-requires-clause-clean
tell_line-line-requires-clause-clean c =
    replay-clean c.requires c.args.workings.now (record { ref_ptr = c.args.state.ref_ptr; now = c.replay.new.state }) _ _
    c.replay.ensures c.in-Ok.pile c.in-Ok.is

pub returns-in-Ok : goal.returns-in-Ok
returns-in-Ok c =
    record {
      told = λ w. replay-told w c.args.workings.now _ _ _ c.replay.ensures c.in-Ok.pile c.in-Ok.is _ _ c.tell_line-line.ensures.told;
      leaves = replay-leaves c.requires c.args.workings.now (record { ref_ptr = c.args.state.ref_ptr; now = c.replay.new.state }) _ _ c.replay.ensures c.in-Ok.pile c.in-Ok.is c.tell_line-line.ensures.clean c.undo.ensures;
    }

pub clear-requires : goal.clear-requires
clear-requires c = (replay-room c.requires _ _ c.replay.auto.state c.replay.auto.scratch).0

pub clear-requires-in-Err : goal.clear-requires-in-Err
clear-requires-in-Err c = (replay-room c.requires _ _ c.replay.auto.state c.replay.auto.scratch).1

pub returns-in-Err : goal.returns-in-Err
returns-in-Err c =
    record {
      told = λ w. replay-refused w c.args.workings.now (record { ref_ptr = c.args.state.ref_ptr; now = c.replay.new.state }) _ _ c.replay.ensures c.in-Err.bytes c.in-Err.is;
      leaves = (c.clear.ensures, c.clear-in-Err.ensures);
    }
