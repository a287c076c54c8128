-- The length of an array of zeros is known by a law: to compute it would walk the whole array. Assumes nothing.
use Rattle.std.proofs.Common.{◌≡◌, ℕ, length, sym}
use Rattle.std.specs.Prelude.{replicate}
use Rattle.std.proofs.Math.ListN.{length-replicate}

pub zeros : (n byte : ℕ) → n ≡ length (replicate n byte)
zeros n byte = sym (length-replicate n byte)
