use Rattle.wf_names_sizes.proofs.ArrayLemmas.{methods_told, first_told, one_told}
use Rattle.wf_names_sizes.proofs.arrays.long_in_method.Goals as goal

pub returns-in-Status-clause-left : goal.returns-in-Status-clause-left
returns-in-Status-clause-left c =
    let p = c.args.setting.now.parsed.now in
    let told = methods_told p.exprs p.stmts p.decls c.args.number p.texts c.args.left.now c.decl-node.result.now c.decl-node.ensures.node c.requires.left in
    rw c.in-Status.is at told

pub returns-in-Const-clause-left : goal.returns-in-Const-clause-left
returns-in-Const-clause-left c =
    let p = c.args.setting.now.parsed.now in
    let told = methods_told p.exprs p.stmts p.decls c.args.number p.texts c.args.left.now c.decl-node.result.now c.decl-node.ensures.node c.requires.left in
    rw c.in-Const.is at told

pub returns-in-Struct-clause-left : goal.returns-in-Struct-clause-left
returns-in-Struct-clause-left c =
    let p = c.args.setting.now.parsed.now in
    let told = methods_told p.exprs p.stmts p.decls c.args.number p.texts c.args.left.now c.decl-node.result.now c.decl-node.ensures.node c.requires.left in
    rw c.in-Struct.is at told

pub long_variables-requires-clause-locals : goal.long_variables-requires-clause-locals
long_variables-requires-clause-locals c =
    let p = c.args.setting.now.parsed.now in
    let told = methods_told p.exprs p.stmts p.decls c.args.number p.texts c.args.left.now c.decl-node.result.now c.decl-node.ensures.node c.requires.left in
    let method = rw c.in-Method.is at told in
    (first_told p.texts _ _ c.args.left.now c.in-Some.variables.now c.in-Some.left.now c.in-Some.ensures.cases.0 method).0.locals

pub returns-in-Some-clause-left : goal.returns-in-Some-clause-left
returns-in-Some-clause-left c =
    let p = c.args.setting.now.parsed.now in
    let told = methods_told p.exprs p.stmts p.decls c.args.number p.texts c.args.left.now c.decl-node.result.now c.decl-node.ensures.node c.requires.left in
    let method = rw c.in-Method.is at told in
    (first_told p.texts _ _ c.args.left.now c.in-Some.variables.now c.in-Some.left.now c.in-Some.ensures.cases.0 method).1

pub returns-in-None-clause-found : goal.returns-in-None-clause-found
returns-in-None-clause-found c =
    let p = c.args.setting.now.parsed.now in
    let told = methods_told p.exprs p.stmts p.decls c.args.number p.texts c.args.left.now c.decl-node.result.now c.decl-node.ensures.node c.requires.left in
    let method = rw c.in-Method.is at told in
    absurd (one_told p.texts _ _ c.args.left.now c.in-None.ensures.cases method)

pub returns-in-None-clause-left : goal.returns-in-None-clause-left
returns-in-None-clause-left c =
    let p = c.args.setting.now.parsed.now in
    let told = methods_told p.exprs p.stmts p.decls c.args.number p.texts c.args.left.now c.decl-node.result.now c.decl-node.ensures.node c.requires.left in
    let method = rw c.in-Method.is at told in
    absurd (one_told p.texts _ _ c.args.left.now c.in-None.ensures.cases method)
