use Rattle.std.proofs.Common.{◌≤◌, ◌<◌, length, [], ◌∷◌, List, ◌∙◌, refl, sym, subst}
use Rattle.wf_ast.specs.ParsedTrees.{expr_trees, stmt_trees, decl_made}
use Rattle.wf_names_rules.specs.Declarations.{constants_of, declared_in}
use Rattle.wf_names_rules.specs.ConstantValues.{Valued, known_from}
use Rattle.wf_names_sizes.specs.ValuesBy.{Knows}
use Rattle.wf_names_sizes.proofs.ValueLemmas.{empty_knows, constants_step, constants_over, item-there}
use Rattle.wf_names_sizes.proofs.constants.constants.Goals as goal

pub loop-number-init : goal.loop-number-init
loop-number-init c = ([], (empty_knows c.new-constants.result c.new-constants.ensures.empty, refl))

pub loop-number-preserved : goal.loop-number-preserved
loop-number-preserved c =
    let p = c.args.parsed.now in
    let within : c.loop-number.number < length p.decls = rw c.decls-number-end.ensures at c.loop-number-test.true in
    let there = item-there p.decls c.loop-number.number within in
    let known = c.loop-number.invariant.0 in
    let t = decl_made (expr_trees p.exprs) (stmt_trees p.exprs p.stmts) there.0.public there.0.decl there.0.at in (
      known_from (declared_in p) known (constants_of (t ∷ [])),
      (c.in_ok-note_decl.ensures known there.0 there.1 c.loop-number.invariant.1.0, constants_step (declared_in p) known p.exprs p.stmts p.decls c.loop-number.number there.0 there.1 ∙ c.loop-number.invariant.1.1),
    )

pub returns : goal.returns
returns c =
    let p = c.args.parsed.now in
    let past : length p.decls ≤ c.loop-number.number = rw c.decls-number-end.ensures at c.loop-number-test.false in
    let known = c.loop-number.invariant.0 in
    let P : List Valued → Type 0 = Knows c.loop-number.constants in
    subst P (sym (constants_over (declared_in p) known p.exprs p.stmts p.decls c.loop-number.number past) ∙ c.loop-number.invariant.1.1) c.loop-number.invariant.1.0
