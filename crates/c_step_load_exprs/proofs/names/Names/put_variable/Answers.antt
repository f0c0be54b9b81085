use Rattle.std.proofs.Common.{◌++◌, List, ap, ◌∙◌}
use Rattle.std.specs.Prelude.{position, bytes_eq}
use Rattle.c_text.specs.CNodes.{bytes_at}
use Rattle.c_step_exprs.specs.declared.instrs.Instr.{Instr}
use Rattle.c_step_load_exprs.specs.Knowing.{program_scope}
use Rattle.c_step_load_exprs.proofs.NameLemmas.{local_value}
use Rattle.c_step_load_exprs.proofs.names.Names.put_variable.Goals as goal

pub returns-in_ok-put-in-Some-clause-code : goal.returns-in_ok-put-in-Some-clause-code
returns-in_ok-put-in-Some-clause-code c = c.in_ok-put-in-Some.ensures ∙ ap (λ (us : List Instr). c.args.code.now.items ++ us) (local_value (program_scope c.args.self.now.scope.now) (bytes_at c.args.self.now.scope.now.front.nodes.names c.args.name.0) c.local.result c.in-Some.k (position (λ it. bytes_eq it.name (bytes_at c.args.self.now.scope.now.front.nodes.names c.args.name.0)) (program_scope c.args.self.now.scope.now).texts) c.local.ensures c.in-Some.is)
