use Rattle.std.proofs.Common.{fold}
use Rattle.wf_ast.specs.ParsedTrees.{decl_trees}
use Rattle.wf_names_rules.specs.Declarations.{declared, methods_of}
use Rattle.wf_names_decls.specs.ConstantNames.{constant_by}
use Rattle.wf_names_decls.specs.Gathering.{constant_names}
use Rattle.wf_names_decls.specs.DeclarationPass.{first_spelt, method_judged}
use Rattle.wf_names_decls.proofs.DeclSteps.{ok_same}
use Rattle.wf_names_decls.proofs.ConstantTables.{constants-same, methods-same}
use Rattle.wf_names_decls.proofs.declarations.judge_methods_within.Goals as goal

pub returns : goal.returns
returns c =
    let texts = c.args.parsed.now.texts in
    let trees = decl_trees c.args.parsed.now.exprs c.args.parsed.now.stmts c.args.parsed.now.decls in
    let d = declared texts trees in
    let names = c.args.constants.now.names.now in
    let places = c.args.constants.now.places.now in
    let one = constant_by names places in
    let other = first_spelt (constant_names d) in
    ok_same c.judge_all_variables.result c.judge_all_variables.new.found (fold (method_judged one texts) c.args.found.now (methods_of trees)) (fold (method_judged other texts) c.args.found.now (methods_of trees))
    (methods-same one other (constants-same d names places c.requires.names c.requires.places) texts c.args.found.now (methods_of trees)) c.judge_all_variables.ensures
