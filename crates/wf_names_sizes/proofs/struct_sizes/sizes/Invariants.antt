use Rattle.std.proofs.Common.{◌≡◌, length, map, take}
use Rattle.wf_names_rules.specs.Declarations.{Declared}
use Rattle.wf_names_sizes.specs.StructSizes.{row_of, AreHolding, AreSizes}
use Rattle.wf_names_sizes.proofs.SettleLemmas.{AreKnown}
use Rattle.wf_names_sizes.proofs.struct_sizes.sizes.Given as goal

abbrev pub invariant-loop-s : goal.invariant-loop-s
invariant-loop-s l =
    (length l.sizes.items ≡ length l.rows)
    × (AreKnown (take l.s-index l.order) l.sizes.items
    × ((d : Declared) → l.rows ≡ map (row_of d) d.structs → AreHolding d l.flags → AreSizes d l.sizes.items))
