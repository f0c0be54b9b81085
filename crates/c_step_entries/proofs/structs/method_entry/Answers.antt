use Rattle.std.proofs.Common.{ap, ◌∙◌}
use Rattle.wf_text.specs.Surface.{PublicMethod}
use Rattle.c_text.specs.CNodes.{unit_tree}
use Rattle.c_meaning.specs.CCall.{program_of}
use Rattle.c_step_entries.proofs.EntryLemmas.{method_is}
use Rattle.c_step_entries.proofs.structs.method_entry.Goals as goal

pub returns : goal.returns
returns c = λ s it type.
    method_is (program_of (unit_tree c.args.numbers.now)) s it c.args.method.now _ c.args.of.now c.as_slice.result.now type
    (c.as_slice.ensures.value ∙ ap (λ (m : PublicMethod). m.name) c.method.view_is) (ap (λ (m : PublicMethod). m.number) c.method.view_is) (ap (λ (m : PublicMethod). m.answers) c.method.view_is) c.in_ok-function.ensures
