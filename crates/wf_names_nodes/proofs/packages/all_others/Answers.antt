use Rattle.std.proofs.Common.{◌≤◌, ◌∙◌, [], ◌∷◌, length, refl, sym, ap, arith}
use Rattle.wf_ast.specs.ParsedTrees.{expr_trees, stmt_trees, decl_made}
use Rattle.wf_named.specs.NamedParts.{named_package}
use Rattle.wf_names_rules.specs.Declarations.{methods_of, declared_in}
use Rattle.wf_names_scopes.proofs.NextLemmas.{all-left, left-over, left-split, next-of}
use Rattle.wf_names_scopes.proofs.PackageLemmas.{trees_made}
use Rattle.wf_names_nodes.specs.Declaring.{with_others}
use Rattle.wf_names_nodes.proofs.PackageLemmas.{other_next, others_counted, others_done}
use Rattle.wf_names_nodes.proofs.packages.all_others.Goals as goal

pub loop-number-init : goal.loop-number-init
loop-number-init c = (c.requires.constants, all-left c.args.parsed.now (length c.args.nodes.now.methods) c.requires.none, refl)

pub other_decl-requires-clause-next : goal.other_decl-requires-clause-next
other_decl-requires-clause-next c =
    let p = c.args.parsed.now in
    next-of (declared_in p) (length c.loop-number.nodes.methods) (expr_trees p.exprs) (stmt_trees p.exprs p.stmts) p.decls c.loop-number.number c.decl.result.now c.decl.ensures.node c.loop-number.invariant.1

pub loop-number-preserved : goal.loop-number-preserved
loop-number-preserved c =
    let es = expr_trees c.args.parsed.now.exprs in
    let ts = stmt_trees c.args.parsed.now.exprs c.args.parsed.now.stmts in
    let step = other_next es ts c.args.parsed.now.decls c.loop-number.number c.decl.result.now c.decl.ensures.node (declared_in c.args.parsed.now) (named_package c.loop-number.nodes) (named_package c.other_decl.new.nodes) c.in_ok-other_decl.ensures.added in
    let d = declared_in c.args.parsed.now in
    let old = c.loop-number.nodes in
    let new = c.other_decl.new.nodes in
    let node = c.decl.result.now in
    let made = decl_made es ts node.public node.decl node.at in
    let split = left-split d (length old.methods) es ts c.args.parsed.now.decls c.loop-number.number node c.decl.ensures.node c.loop-number.invariant.1 in
    let left = left-over d (length old.methods) (length new.methods) (methods_of (made ∷ [])) _ (others_counted d old new made c.in_ok-other_decl.ensures.added) split in
    (c.in_ok-other_decl.ensures.known, left, step ∙ c.loop-number.invariant.2)

pub returns : goal.returns
returns c =
    let d = declared_in c.args.parsed.now in
    let es = expr_trees c.args.parsed.now.exprs in
    let ts = stmt_trees c.args.parsed.now.exprs c.args.parsed.now.stmts in
    let over : length c.args.parsed.now.decls ≤ c.loop-number.number = omega (arith, c.loop-number-test.false, ap length c.decls.ensures) in
    others_done d (named_package c.loop-number.nodes) es ts c.args.parsed.now.decls c.loop-number.number over ∙ c.loop-number.invariant.2
    ∙ ap (λ ds. with_others d (named_package c.args.nodes.now) ds) (sym (trees_made c.args.parsed.now))
