use Rattle.std.proofs.Common.{ap, refl, sym, subst, length, ◌<◌}
use Rattle.wf_ast.specs.declared.typed_nodes.TypedNodes.{TypedNodes}
use Rattle.wf_exprs.proofs.Growing.{unchanged}
use Rattle.wf_lower.specs.Bodies.{local_of}
use Rattle.wf_lower.proofs.Kept.{locals_after}
use Rattle.wf_lower.proofs.Known.{named_there, variable_text, variable_word}
use Rattle.wf_lower.proofs.locals.add_local.Goals as goal

pub text-requires : goal.text-requires
text-requires c = subst (λ (t : TypedNodes). c.args.x.name.0 < length t.texts) (sym c.typed.ensures.same) (named_there c.args.b.now.nodes c.args.x c.requires)

pub add_typed-requires : goal.add_typed-requires
add_typed-requires c = variable_word c.args.b.now.nodes c.typed.result.now c.args.x c.text.result.now c.typed.ensures.same c.requires c.text.ensures

pub returns-clause-made : goal.returns-clause-made
returns-clause-made c = locals_after _ _ _ _ _ _ _ c.add_typed.result (unchanged _ _ refl) (ap (λ n. local_of (record { name = n; ty = c.args.x.ty })) (sym (variable_text c.args.b.now.nodes c.typed.result.now c.args.x c.text.result.now c.typed.ensures.same c.text.ensures))) c.add_typed.ensures.made
