use Rattle.std.proofs.Common.{refl}
use Rattle.c_text.specs.CNodes.{bytes_at}
use Rattle.c_form_exprs.proofs.ScopeLemmas.{name_at}
use Rattle.c_form_exprs.proofs.scope.CScope.own_type.Goals as goal

pub returns : goal.returns
returns c = rw (← c.self.view_is) (name_at c.self.inside.front.now.nodes c.self.inside.names.entries c.self.invariant.listed (bytes_at c.self.inside.front.now.nodes.names c.args.name.0) c.get.result c.get.result (rw c.self.invariant.names at c.get.ensures) refl)
