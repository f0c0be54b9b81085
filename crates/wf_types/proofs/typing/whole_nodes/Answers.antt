use Rattle.std.proofs.Common.{◌∙◌, ap}
use Rattle.wf_typed_stmts.specs.StmtGrowth.{without_nodes}
use Rattle.wf_types.proofs.TypedLaws.{declared_bare, whole_at}
use Rattle.wf_types.proofs.typing.whole_nodes.Goals as goal

pub elaborate_bodies-requires-clause-declared : goal.elaborate_bodies-requires-clause-declared
elaborate_bodies-requires-clause-declared c = c.reserve.ensures ∙ c.new-building.ensures ∙ ap without_nodes c.in_ok-nodes.ensures ∙ declared_bare c.args.named

pub returns : goal.returns
returns c =
    record {
      whole = whole_at c.args.named c.elaborate_bodies.new.nodes c.finish.result c.with_bodies.result c.in_ok-made.made.bodies c.in_ok-made.made.first_locals
          c.in_ok-made.ensures.bodies c.in_ok-made.ensures.locals c.finish.ensures.nodes c.finish.ensures.exprs c.with_bodies.ensures;
    }
