use Rattle.std.proofs.Common.{◌≡◌, ◌+◌, drop, length}
use Rattle.wf_typed_tree.specs.Entries.{local_entries}
use Rattle.wf_typed_stmts.specs.StmtGrowth.{GrowsExprs, IsBegun}
use Rattle.wf_typed_stmts.proofs.EntryLemmas.{EntriesTo}
use Rattle.wf_types.specs.Locals.{places_named, FirstHaveNodes}
use Rattle.wf_types.proofs.locals.elaborate_locals.Given as goal

abbrev pub invariant-loop-number : goal.invariant-loop-number
invariant-loop-number l =
    GrowsExprs l.fn.nodes l.nodes × (IsBegun l.here.nodes.now l.nodes × (FirstHaveNodes l.here.around.now l.nodes (length l.fn.nodes.exprs) l.number (places_named l.locals)
    × (EntriesTo l.fn.nodes l.nodes (local_entries l.here.around.now l.number (drop l.number (places_named l.locals))) (local_entries l.here.around.now 0 (places_named l.locals))
    × (length l.nodes.exprs ≡ length l.fn.nodes.exprs + l.number))))
