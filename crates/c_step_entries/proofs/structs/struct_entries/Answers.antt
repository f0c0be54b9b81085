use Rattle.std.proofs.Common.{IfOk, sym, ap, ◌∙◌, subst}
use Rattle.c_text.specs.CNodes.{Nodes, unit_tree}
use Rattle.c_meaning.specs.CCall.{program_of}
use Rattle.c_step_load_exprs.specs.Knowing.{AreAlike}
use Rattle.c_step_tables.specs.Tables.{AreStructs}
use Rattle.c_step_entries.proofs.structs.struct_entries.Goals as goal

pub all_entries-requires : goal.all_entries-requires
all_entries-requires c = subst AreAlike (ap unit_tree (c.formed.ensures ∙ sym c.numbers.ensures)) c.names_are_alike.ensures.alike

pub returns : goal.returns
returns c =
    let s = c.args.surface.now in
    subst (λ (nodes : Nodes). IfOk c.all_entries.result (λ es. AreStructs (program_of (unit_tree nodes)) s s.structs es.items)) c.numbers.ensures c.all_entries.ensures
