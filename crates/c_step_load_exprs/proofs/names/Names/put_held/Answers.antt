use Rattle.std.proofs.Common.{◌++◌, List, sym, ap, ◌∙◌}
use Rattle.c_step_exprs.specs.declared.instrs.Instr.{Instr}
use Rattle.c_step_load_exprs.proofs.names.Names.put_held.Goals as goal

pub returns-clause-code : goal.returns-clause-code
returns-clause-code c = c.in_ok-put.ensures ∙ ap (λ (us : List Instr). c.args.code.now.items ++ us) (sym (c.loaded.ensures c.args.self.now.scope.now.front.nodes.names))
