use Rattle.std.proofs.Common.{◌∙◌, ap}
use Rattle.wf_ast.specs.TypedTree.{number, equal}
use Rattle.wf_ast.specs.TypedTrees.{no_place, num_in, tree_of}
use Rattle.wf_facts_exprs.specs.Claims.{compared, single}
use Rattle.wf_facts.specs.FactLists.{added}
use Rattle.wf_bounds.proofs.StartLemmas.{next_number, short_start}
use Rattle.wf_bounds.proofs.starting.start_number.Goals as goal

pub unreachable-requires : goal.unreachable-requires
unreachable-requires c = short_start c.args.t.now c.args.m.0 c.args.x.0 c.args.e c.requires.ready c.requires.local c.args.facts.now.list c.requires.before c.in-Err.ensures.full.0.many

pub returns-clause-after : goal.returns-clause-after
returns-clause-after c =
    let nodes = c.args.t.now in
    let claim = compared (single (num_in (tree_of nodes c.args.e))) equal (single (number no_place 0)) in
    c.in-Ok.ensures.ok ∙ ap (λ fs. added fs claim) c.requires.before ∙ next_number nodes c.args.m.0 c.requires.ready.typed c.args.x.0 c.args.e c.requires.local c.requires.number
