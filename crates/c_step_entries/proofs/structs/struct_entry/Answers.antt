use Rattle.std.proofs.Common.{◌++◌, ℕ, List, codes, ap, ◌∙◌}
use Rattle.wf_text.specs.Surface.{Surface, PublicStruct}
use Rattle.c_text.specs.CNodes.{unit_tree}
use Rattle.c_meaning.specs.CCall.{program_of}
use Rattle.c_step_exprs.specs.Resolving.{function_number}
use Rattle.c_step_entries.proofs.EntryLemmas.{type_is, struct_is}
use Rattle.c_step_entries.proofs.structs.struct_entry.Goals as goal

pub returns : goal.returns
returns c =
    let p = program_of (unit_tree c.args.numbers.now) in
    let s = c.args.surface.now in
    let type = type_is s c.args.it.now c.in_ok-of.of.items c.as_slice.result.now c.as_slice-2.result.now c.in_ok-of.ensures (c.as_slice.ensures.value ∙ ap (λ (s : Surface). s.package_name) c.surface.view_is) (c.as_slice-2.ensures.value ∙ ap (λ (it : PublicStruct). it.name) c.it.view_is) in
    struct_is p s c.args.it.now _ c.in_ok-of.of.items c.as_slice-5.result.now type (c.as_slice-5.ensures.value ∙ ap (λ (it : PublicStruct). it.methods) c.it.view_is) (ap (λ (it : PublicStruct). it.number) c.it.view_is)
    (c.in_ok-initialize.ensures ∙ ap (λ (of : List ℕ). function_number p.functions (of ++ (codes "__" ++ codes "initialize"))) c.as_slice-3.ensures.value)
    (c.in_ok-methods.ensures s c.args.it.now (c.as_slice-4.ensures.value ∙ type))
