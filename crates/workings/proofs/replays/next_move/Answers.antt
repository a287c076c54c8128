use mathlib.Core.Logic.{inl, inr}
use Rattle.workings.proofs.MoveLaws.{rewindable, move-room, move-inside, left-over, ends, record-due, literal-due, by-record, by-literal}
use Rattle.workings.proofs.replays.next_move.Goals as goal
use Rattle.workings.proofs.replays.next_move.Goals.{then-kind-eq-CALL_KIND-via-then-kind-eq-CALL_KIND, then-kind-eq-CALL_KIND-via-else-kind-eq-CALL_KIND+then-kind-eq-SPLIT_KIND}

pub rewind-trail-requires : goal.rewind-trail-requires
rewind-trail-requires c = rewindable c.requires

pub top_at-s-requires : goal.top_at-s-requires
top_at-s-requires c = move-room c.requires c.rewind-trail.ensures

pub word_at-kind-requires : goal.word_at-kind-requires
word_at-kind-requires c = move-inside c.requires c.rewind-trail.ensures c.top_at-s.ensures

pub returns-then-at-workings : goal.returns-then-at-workings
returns-then-at-workings c = λ w. left-over w c.rewind-trail.ensures c.top_at-s.ensures c.word_at-kind.ensures c.if-kind-eq-END_KIND.true c.if-at-workings.true _

pub returns-then-kind-eq-END_KIND : goal.returns-then-kind-eq-END_KIND
returns-then-kind-eq-END_KIND c = λ w. ends w c.rewind-trail.ensures c.top_at-s.ensures c.word_at-kind.ensures c.if-kind-eq-END_KIND.true c.if-at-workings.false

pub follow_record-requires : goal.follow_record-requires
follow_record-requires c =
    record-due c.requires c.rewind-trail.ensures c.top_at-s.ensures c.word_at-kind.ensures
    (elim c.then-kind-eq-CALL_KIND.branch [
      | then-kind-eq-CALL_KIND-via-then-kind-eq-CALL_KIND b ↦ inl b.if-kind-eq-CALL_KIND.true
      | then-kind-eq-CALL_KIND-via-else-kind-eq-CALL_KIND+then-kind-eq-SPLIT_KIND b ↦ inr b.if-kind-eq-SPLIT_KIND.true
    ])

pub returns-then-kind-eq-CALL_KIND : goal.returns-then-kind-eq-CALL_KIND
returns-then-kind-eq-CALL_KIND c = λ w.
    by-record w c.rewind-trail.ensures c.top_at-s.ensures c.word_at-kind.ensures
    (elim c.then-kind-eq-CALL_KIND.branch [
      | then-kind-eq-CALL_KIND-via-then-kind-eq-CALL_KIND b ↦ inl b.if-kind-eq-CALL_KIND.true
      | then-kind-eq-CALL_KIND-via-else-kind-eq-CALL_KIND+then-kind-eq-SPLIT_KIND b ↦ inr b.if-kind-eq-SPLIT_KIND.true
    ])
    _ _ _ c.follow_record.ensures

pub pass_literal-requires : goal.pass_literal-requires
pass_literal-requires c = literal-due c.requires c.rewind-trail.ensures c.top_at-s.ensures c.word_at-kind.ensures c.if-kind-eq-END_KIND.false c.if-kind-eq-CALL_KIND.false c.if-kind-eq-SPLIT_KIND.false

pub returns : goal.returns
returns c = λ w. by-literal w c.rewind-trail.ensures c.top_at-s.ensures c.word_at-kind.ensures c.if-kind-eq-END_KIND.false c.if-kind-eq-CALL_KIND.false c.if-kind-eq-SPLIT_KIND.false _ _ _ c.pass_literal.ensures
