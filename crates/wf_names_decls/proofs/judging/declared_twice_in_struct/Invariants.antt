use Rattle.std.proofs.Common.{◌≡◌, [], drop, length, List}
use Rattle.std.specs.List.{list_any}
use Rattle.std.specs.BTreeSet.{contains}
use Rattle.wf_text.specs.Precedence.{soonest}
use Rattle.wf_names_rules.specs.Pairs.{Pair, same_pair, pair_cmp}
use Rattle.wf_names_decls.specs.DeclarationPass.{declared_twice_in_struct}
use Rattle.wf_names_decls.proofs.judging.declared_twice_in_struct.Given as goal

abbrev pub invariant-loop-owner : goal.invariant-loop-owner
invariant-loop-owner l =
    (ps : List Pair) × ((p : Pair) → contains pair_cmp l.seen p ≡ list_any (same_pair p) ps)
    × (soonest l.found (declared_twice_in_struct ps (drop (length l.yielded) l.owners) (drop (length l.yielded) l.names)) ≡ soonest l.fn.found (declared_twice_in_struct [] l.owners l.names))
