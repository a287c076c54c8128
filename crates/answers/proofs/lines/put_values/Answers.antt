use mathlib.Core.Path.{refl}
use native.Mathlib.Omega.{arith}
use Rattle.answers.proofs.LineLaws.{measured-none, measured-put, clean-marks, clean-whole}
use Rattle.answers.proofs.lines.put_values.Goals as goal

pub append_line-past-requires : goal.append_line-past-requires
append_line-past-requires c =
    let pre = c.requires in
    let parts = c.split_at_mut-marks.ensures in
    record {
      some_answerable = pre.some_answerable;
      clean = clean-marks pre.clean (omega (arith, pre.at_in_bounds.1)) parts.front;
      long = omega (arith, parts.front_len);
      near = (omega (arith, pre.at_in_bounds.0, c.well_formed), (omega (arith, c.well_formed), omega (arith, parts.back_len, pre.at_in_bounds.1)));
    }

pub returns-then-room-past : goal.returns-then-room-past
returns-then-room-past c =
    let line = c.append_line-past.ensures in
    record { fitted = (λ ss n v. measured-none refl c.if-room-past.true (line.lined ss n v)); clean = clean-whole line.clean _ }

pub append_line-requires : goal.append_line-requires
append_line-requires c =
    let pre = c.requires in
    let parts = c.split_at_mut-marks.ensures in
    let measured = c.append_line-past in
    record {
      some_answerable = pre.some_answerable;
      clean = measured.ensures.clean;
      long = omega (arith, measured.auto.marks, parts.front_len);
      near = (
        omega (arith, pre.at_in_bounds.0, c.well_formed),
        (omega (arith, c.well_formed), omega (arith, measured.auto.stack, parts.back_len, pre.at_in_bounds.1)),
      );
    }

pub returns : goal.returns
returns c =
    let measured = c.append_line-past.ensures in
    let line = c.append_line.ensures in
    record {
      fitted = (λ ss n v. measured-put refl c.if-room-past.false (measured.lined ss n v) (line.lined ss n v));
      clean = clean-whole line.clean _;
    }
