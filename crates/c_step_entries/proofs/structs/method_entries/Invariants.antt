use Rattle.std.proofs.Common.{◌≡◌, take}
use Rattle.wf_text.specs.Surface.{Surface, PublicStruct}
use Rattle.c_text.specs.CNodes.{unit_tree}
use Rattle.c_meaning.specs.CCall.{program_of}
use Rattle.c_meaning.specs.CRun.{struct_name}
use Rattle.c_step_tables.specs.Tables.{AreMethods}
use Rattle.c_step_entries.proofs.structs.method_entries.Given as goal

abbrev pub invariant-loop-method : goal.invariant-loop-method
invariant-loop-method l = (s : Surface) (it : PublicStruct) → l.of ≡ struct_name s it → AreMethods (program_of (unit_tree l.numbers)) s it (take l.method-index l.methods) l.entries.items
