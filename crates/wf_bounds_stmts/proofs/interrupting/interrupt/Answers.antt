use Rattle.std.proofs.Common.{ap, ◌∙◌}
use Rattle.wf_ast.specs.declared.things.Thing.TheVariants as things
use Rattle.wf_facts.specs.FactLists.{without}
use Rattle.wf_bounds_stmts.proofs.interrupting.interrupt.Goals as goal

pub returns-clause-over : goal.returns-clause-over
returns-clause-over c =
    let nodes = c.args.t.now in
    c.drop_indexed-4.ensures.over nodes (c.drop_indexed-3.ensures.over nodes (c.drop_indexed-2.ensures.over nodes (c.drop_indexed.ensures.over nodes c.requires.over)))

pub returns-clause-claims : goal.returns-clause-claims
returns-clause-claims c =
    let nodes = c.args.t.now in
    let h = c.requires.over in
    c.drop_indexed-4.ensures.claims nodes (c.drop_indexed-3.ensures.over nodes (c.drop_indexed-2.ensures.over nodes (c.drop_indexed.ensures.over nodes h)))
    ∙ ap (without things.SliceLocals) (c.drop_indexed-3.ensures.claims nodes (c.drop_indexed-2.ensures.over nodes (c.drop_indexed.ensures.over nodes h))
    ∙ ap (without things.Element) (c.drop_indexed-2.ensures.claims nodes (c.drop_indexed.ensures.over nodes h) ∙ ap (without things.Args) (c.drop_indexed.ensures.claims nodes h)))
