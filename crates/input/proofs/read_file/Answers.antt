-- No more bytes than the room has.
use Rattle.std.proofs.Common.{ℕ, ◌≤◌, arith, length, Result, Ok, Err}
use mathlib.Core.Path.{subst⁻¹}
use Rattle.std.specs.Result.{IfOk, result_unwrap_or}
use Rattle.input.proofs.read_file.Goals as goal

fits_or : {E : Type 0} (r : Result ℕ E) (k : ℕ) → IfOk r (λ n. n ≤ k) → result_unwrap_or r 0 ≤ k
fits_or (Ok n) k h = h
fits_or (Err e) k h = omega arith

pub returns-in-Ok : goal.returns-in-Ok
returns-in-Ok g c = subst⁻¹ (λ n. n ≤ length c.read_full.new.room) c.unwrap_or.ensures (fits_or c.read_full.result (length c.read_full.new.room) c.read_full.ensures.fits)

pub returns-in-Err : goal.returns-in-Err
returns-in-Err g c = omega arith
