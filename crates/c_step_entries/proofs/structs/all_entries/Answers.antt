use Rattle.std.proofs.Common.{◌≡◌, ◌+◌, List, take, sym, ap, ◌∙◌, subst}
use Rattle.wf_text.specs.Surface.{Surface, PublicStruct}
use Rattle.c_text.specs.CNodes.{unit_tree}
use Rattle.c_meaning.specs.CCall.{program_of}
use Rattle.c_step_tables.specs.Tables.{AreStructs}
use Rattle.c_step_entries.proofs.EntryLemmas.{struct_added}
use Rattle.c_step_entries.proofs.structs.all_entries.Goals as goal

pub loop-it-preserved : goal.loop-it-preserved
loop-it-preserved c =
    let p = program_of (unit_tree c.args.numbers.now) in
    let s = c.args.surface.now in
    let same : c.as_slice-it-items.result.now ≡ s.structs = c.as_slice-it-items.ensures.value ∙ ap (λ (s : Surface). s.structs) c.surface.view_is in
    subst (λ (its : List PublicStruct). AreStructs p s (take (c.loop-it.it-index + 1) its) c.push.new.self.items) same
    (struct_added p s c.as_slice-it-items.result.now c.loop-it.it-index c.it-item.result c.loop-it.entries.items c.push.new.self.items c.in_ok-entry.entry c.loop-it-test.true c.it-item.is c.in_ok-push.ensures.items c.in_ok-entry.ensures
    (subst (λ (its : List PublicStruct). AreStructs p s (take c.loop-it.it-index its) c.loop-it.entries.items) (sym same) c.loop-it.invariant))
