use Rattle.std.proofs.Common.{sym, ◌∙◌}
use Rattle.c_text.specs.CNodes.{bytes_at}
use Rattle.c_form_exprs.proofs.ScopeLemmas.{place_named}
use Rattle.c_form_exprs.proofs.scope.CScope.place.Goals as goal

pub returns : goal.returns
returns c = rw (← c.self.view_is) ((rw c.self.invariant.names at c.place.ensures) ∙ sym (place_named c.self.inside.front.now.nodes.names c.self.inside.names.entries (bytes_at c.self.inside.front.now.nodes.names c.args.name.0)))
