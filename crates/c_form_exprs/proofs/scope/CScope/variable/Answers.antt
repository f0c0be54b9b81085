use Rattle.std.proofs.Common.{Some, None, sym, ◌∙◌}
use Rattle.c_text.specs.CNodes.{bytes_at}
use Rattle.c_form_exprs.specs.Front.{scope_in}
use Rattle.c_form_exprs.proofs.ScopeLemmas.{name_at, param_held, text_held, none_held}
use Rattle.c_form_exprs.proofs.scope.CScope.variable.Goals as goal

pub returns-in-Some : goal.returns-in-Some
returns-in-Some c = rw (← c.self.view_is) (param_held c.self.inside.front.now.nodes (scope_in (record { front = c.self.inside.front.now; names = c.self.inside.names.entries })) (bytes_at c.self.inside.front.now.nodes.names c.args.name.0) c.in-Some.ty (name_at c.self.inside.front.now.nodes c.self.inside.names.entries c.self.invariant.listed (bytes_at c.self.inside.front.now.nodes.names c.args.name.0) c.get.result (Some c.in-Some.ty) (rw c.self.invariant.names at c.get.ensures) c.in-Some.is))

pub returns-then-is_text : goal.returns-then-is_text
returns-then-is_text c = rw (← c.self.view_is) (text_held c.self.inside.front.now.nodes (scope_in (record { front = c.self.inside.front.now; names = c.self.inside.names.entries })) (bytes_at c.self.inside.front.now.nodes.names c.args.name.0) (name_at c.self.inside.front.now.nodes c.self.inside.names.entries c.self.invariant.listed (bytes_at c.self.inside.front.now.nodes.names c.args.name.0) c.get.result None (rw c.self.invariant.names at c.get.ensures) c.in-None.is) (sym c.is_text.ensures ∙ c.if-is_text.true))

pub returns-else-is_text : goal.returns-else-is_text
returns-else-is_text c = rw (← c.self.view_is) (none_held c.self.inside.front.now.nodes (scope_in (record { front = c.self.inside.front.now; names = c.self.inside.names.entries })) (bytes_at c.self.inside.front.now.nodes.names c.args.name.0) (name_at c.self.inside.front.now.nodes c.self.inside.names.entries c.self.invariant.listed (bytes_at c.self.inside.front.now.nodes.names c.args.name.0) c.get.result None (rw c.self.invariant.names at c.get.ensures) c.in-None.is) (sym c.is_text.ensures ∙ c.if-is_text.false))
