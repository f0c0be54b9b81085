use Rattle.std.proofs.Common.{[]}
use Rattle.wf_ast.specs.ParsedTrees.{expr_trees, fields_at}
use Rattle.wf_names_rules.specs.Declarations.{variables, declared_in}
use Rattle.wf_names_rules.specs.Uses.{variable_uses}
use Rattle.wf_names_scopes.specs.Growing.{scope_in}
use Rattle.wf_names_scopes.proofs.UseLemmas.{walk_judged}
use Rattle.wf_names_scopes.proofs.uses.struct_uses.Goals as goal

pub returns-clause-found : goal.returns-clause-found
returns-clause-found c =
    let d = declared_in c.args.whole.now.parsed.now in
    walk_judged c.args.whole.now.parsed.now c.args.whole.now.tables.now c.enter_struct.new.scope (scope_in d c.args.name [] []) c.args.seen.now c.walk_fields.new.seen
    (variable_uses (variables (fields_at (expr_trees c.args.whole.now.parsed.now.exprs) c.args.fields.now))) c.requires.tables (c.enter_struct.ensures d c.requires.constants) c.in_ok-walk_fields.ensures.seen

pub returns-clause-constants : goal.returns-clause-constants
returns-clause-constants c = (c.enter_struct.ensures (declared_in c.args.whole.now.parsed.now) c.requires.constants).constants

pub returns-in_err-walk_fields-clause-constants : goal.returns-in_err-walk_fields-clause-constants
returns-in_err-walk_fields-clause-constants c = (c.enter_struct.ensures (declared_in c.args.whole.now.parsed.now) c.requires.constants).constants
