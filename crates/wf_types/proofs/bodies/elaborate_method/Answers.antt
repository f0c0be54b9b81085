use Rattle.std.proofs.Common.{length}
use Rattle.wf_named.specs.NamedParts.{exprs_of, stmts_of, named_package}
use Rattle.wf_named.specs.NamedTrees.{block_at, method_made}
use Rattle.wf_types_rules.specs.DeclaredTypes.{in_method}
use Rattle.wf_typed_stmts.specs.Right.{known_in}
use Rattle.wf_types.proofs.EntryLemmas.{method_adds}
use Rattle.wf_types.proofs.LocalLemmas.{paths_inside, nodes_inside, block_inside}
use Rattle.wf_types.proofs.bodies.elaborate_method.Goals as goal

pub elaborate_locals-requires-clause-right : goal.elaborate_locals-requires-clause-right
elaborate_locals-requires-clause-right c =
    let q = c.args.here.now.nodes.now in
    let m = c.args.method.now in
    let s = in_method (named_package q) (method_made q.texts (exprs_of q) (stmts_of q) m) in
    paths_inside q.texts (exprs_of q) m.locals c.as_slice.result.now c.as_slice.ensures c.args.here.now.around.now s c.requires.inside (known_in (named_package q)).statuses c.requires.paths

pub returns-clause-stands : goal.returns-clause-stands
returns-clause-stands c =
    let q = c.args.here.now.nodes.now in
    let m = c.args.method.now in
    let s = in_method (named_package q) (method_made q.texts (exprs_of q) (stmts_of q) m) in
    block_inside c.args.here.now.around.now s c.args.nodes.now c.elaborate_locals.new.nodes c.elaborate_body.new.nodes (block_at (stmts_of q) m.body) c.in_ok-body.body c.requires.inside c.in_ok-elaborate_locals.ensures.grows c.in_ok-body.ensures.stands

pub returns-clause-locals : goal.returns-clause-locals
returns-clause-locals c =
    let q = c.args.here.now.nodes.now in
    let m = c.args.method.now in
    let s = in_method (named_package q) (method_made q.texts (exprs_of q) (stmts_of q) m) in
    nodes_inside q.texts (exprs_of q) m.locals c.as_slice.result.now c.as_slice.ensures c.args.here.now.around.now s c.requires.inside c.elaborate_locals.new.nodes c.elaborate_body.new.nodes (length c.args.nodes.now.exprs)
    c.next_expr-first_local.result.0 c.in_ok-body.ensures.adds.grows c.next_expr-first_local.ensures c.in_ok-elaborate_locals.ensures.stand

pub returns-clause-entries : goal.returns-clause-entries
returns-clause-entries c =
    let q = c.args.here.now.nodes.now in
    let m = c.args.method.now in
    let s = in_method (named_package q) (method_made q.texts (exprs_of q) (stmts_of q) m) in
    method_adds q.texts (exprs_of q) m.locals c.as_slice.result.now (block_at (stmts_of q) m.body) c.as_slice.ensures c.args.here.now.around.now s c.requires.inside c.args.nodes.now c.elaborate_locals.new.nodes
    c.elaborate_body.new.nodes c.in_ok-elaborate_locals.ensures.entries c.in_ok-body.ensures.entries
