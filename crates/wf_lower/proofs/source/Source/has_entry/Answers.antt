use Rattle.std.proofs.Common.{◌||◌, ◌∙◌, not, ap, sym, false, slice_index_or}
use Rattle.wf_lower.proofs.CallLaws.{entry_is, entry_of_public, flag_there}
use Rattle.wf_lower.proofs.Walks.{here}
use Rattle.wf_lower.proofs.source.Source.has_entry.Goals as goal

pub bounds-self-m : goal.bounds-self-m
bounds-self-m c = flag_there c.args.self.now.t.now c.requires.typed c.args.self.now.called.now c.requires.called c.args.m.0 c.requires.known

pub returns-then-method : goal.returns-then-method
returns-then-method c = λ it known. c.if-method.true ∙ entry_of_public c.args.self.now.t.now c.requires.typed c.args.m.0 c.method.result.now c.method.ensures c.if-method.true it known

pub returns-else-method : goal.returns-else-method
returns-else-method c =
    let nodes = c.args.self.now.t.now in
    let flags = c.args.self.now.called.now in
    let n = c.args.m.0 in
    let flag = slice_index_or flags n false in
    let is = here flags n false (flag_there nodes c.requires.typed flags c.requires.called n c.requires.known) in
    λ it known.
    ap (λ b. b || not flag) (sym c.if-method.false) ∙ entry_is nodes c.requires.typed flags c.requires.called n c.method.result.now flag c.method.ensures is it known
