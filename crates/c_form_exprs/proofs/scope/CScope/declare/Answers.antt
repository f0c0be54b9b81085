use Rattle.std.proofs.Common.{◌∙◌}
use Rattle.c_text.specs.CNodes.{bytes_at}
use Rattle.c_form_exprs.proofs.ScopeLemmas.{names_after}
use Rattle.c_form_exprs.proofs.scope.CScope.declare.Goals as goal

pub invariant_of-self : goal.invariant_of-self
invariant_of-self c =
    let has = rw (← c.self.view_is) at c.requires.ty in
    record {
      same = c.self.invariant.same;
      names = c.add.ensures.names ∙ c.self.invariant.names;
      listed = names_after c.self.inside.front.now.nodes c.self.inside.names c.add.new.self (bytes_at c.self.inside.names.names c.args.name.0) c.args.ty c.add.result c.add.ensures.added c.add.ensures.err has c.self.invariant.listed;
    }
