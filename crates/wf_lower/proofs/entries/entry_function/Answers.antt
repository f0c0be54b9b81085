use Rattle.std.proofs.Common.{subst}
use Rattle.wf_text.specs.Surface.{AnswerKind}
use Rattle.wf_lower.specs.Shared.{HasEntryParts}
use Rattle.wf_lower.proofs.EntryLaws.{entry_told}
use Rattle.wf_lower.proofs.entries.entry_function.Goals as goal

pub entry_of-requires : goal.entry_of-requires
entry_of-requires c = let P : AnswerKind → Type 0 = λ kind. HasEntryParts c.args.u.now c.parts.result kind in subst P c.answers.ensures (c.parts.ensures c.args.u.now c.requires.shared)

pub returns-clause-made : goal.returns-clause-made
returns-clause-made c = entry_told c.args.t.now c.args.m.0 c.new-e.result c.entry_of.new.u c.entry_of.result c.new-e.ensures.nodes c.new-e.ensures.method c.new-e.ensures.number c.entry_of.ensures.made
