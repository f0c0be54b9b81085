use Rattle.std.proofs.Common.{length, arith}
use Rattle.wf_ast.proofs.AboveLemmas.{block_above}
use Rattle.wf_named.specs.NamedParts.{exprs_of, stmts_of}
use Rattle.wf_named.specs.NamedTrees.{expr_at, clauses_at, block_at}
use Rattle.wf_types_stmts.proofs.BlockLemmas.{closes}
use Rattle.wf_typed_stmts.proofs.HeadLemmas.{head_made_so}
use Rattle.wf_typed_stmts.proofs.heads.add_head.Goals as goal

pub block_leaves-requires-clause-few : goal.block_leaves-requires-clause-few
block_leaves-requires-clause-few c = omega (arith, block_above (length c.args.here.now.nodes.now.stmts) c.args.body.now c.requires.body)

pub returns-clause-made : goal.returns-clause-made
returns-clause-made c =
    let es = exprs_of c.args.here.now.nodes.now in
    let ts = stmts_of c.args.here.now.nodes.now in
    let body = c.args.body.now in
    head_made_so c.args.here.now.around.now (expr_at es c.args.condition) (clauses_at es c.args.clauses.now) (block_at ts body) body.close c.add_tree.new.nodes c.add_clauses.new.nodes c.in_ok-cond.cond c.in_ok-clauses.clauses c.block_leaves.result
    c.in_ok-cond.ensures.made c.in_ok-clauses.ensures.grows c.in_ok-clauses.ensures.made c.block_leaves.ensures (closes ts body.items body.close)
