use Rattle.c_text.specs.CNodes.{unit_tree}
use Rattle.c_meaning.specs.CCall.{program_of}
use Rattle.c_step_entries.proofs.EntryLemmas.{method_added}
use Rattle.c_step_entries.proofs.structs.method_entries.Goals as goal

pub loop-method-preserved : goal.loop-method-preserved
loop-method-preserved c = λ s it of.
    method_added (program_of (unit_tree c.args.numbers.now)) s it c.args.methods.now c.loop-method.method-index c.method-item.result c.loop-method.entries.items c.push.new.self.items c.in_ok-entry.entry
    c.loop-method-test.true c.method-item.is c.in_ok-push.ensures.items (c.in_ok-entry.ensures s it of) (c.loop-method.invariant s it of)
