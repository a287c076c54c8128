-- `load::nodes::numbering::number_nodes` meets its contract. The invariant: what is left of the nodes gives the whole (`Numbering`). Assumes nothing.
use Prim.Native.Nat.{◌*◌, ◌≤◌}
use mathlib.Core.Path.{◌≡◌}
use lib.ListN.{length}
use Rattle.load.specs.Symbols.{symbols_of, SymbolsListed}
use Rattle.load.specs.Listing.{Copied}
use Rattle.load.proofs.Numbered.{Numbering}
use Rattle.load.proofs.nodes.numbering.number_nodes.Given as goal

abbrev pub invariant-loop-p : goal.invariant-loop-p
invariant-loop-p l =
    (length l.nodes ≡ length l.initial.nodes) × ((length l.symbols ≡ length l.initial.symbols) × ((l.count * 2 ≤ l.p) × (SymbolsListed l.texts.sheet.now l.texts.goal.now l.symbols l.count × ((w : Copied l.texts.sheet.now l.texts.goal.now l.initial.nodes l.stop) → Numbering l.texts.sheet.now l.texts.goal.now w.flats l.initial.nodes l.nodes l.stop l.p (symbols_of l.texts.sheet.now l.texts.goal.now l.symbols l.count)))))
