use Rattle.std.proofs.Common.{ap, List, Option}
use Rattle.wf_types_rules.specs.declared.meanings.Constant.{Constant}
use Rattle.wf_types_decls.proofs.declarations.with_constant.Goals as goal

pub returns : goal.returns
returns c = ap (λ (cs : List (Option Constant)). record c.args.around { constants = cs }) c.in_ok-push.ensures.ok
