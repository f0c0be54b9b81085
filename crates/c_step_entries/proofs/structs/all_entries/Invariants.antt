use Rattle.std.proofs.Common.{take}
use Rattle.c_text.specs.CNodes.{unit_tree}
use Rattle.c_meaning.specs.CCall.{program_of}
use Rattle.c_step_tables.specs.Tables.{AreStructs}
use Rattle.c_step_entries.proofs.structs.all_entries.Given as goal

abbrev pub invariant-loop-it : goal.invariant-loop-it
invariant-loop-it l = AreStructs (program_of (unit_tree l.numbers)) l.surface (take l.it-index l.surface.structs) l.entries.items
