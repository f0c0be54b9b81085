use Rattle.std.proofs.Common.{◌∙◌, ap, subst}
use Rattle.wf_ast.specs.declared.typed_nodes.TypedNodes.{TypedNodes}
use Rattle.wf_ast.specs.NodeKinds.{node_slice}
use Rattle.wf_base.specs.BaseTable.{bits_of}
use Rattle.c_text.specs.CNodes.{code_of}
use Rattle.wf_exprs.specs.Exprs.{lowered_slice}
use Rattle.wf_exprs.specs.Making.{HasPair}
use Rattle.wf_exprs.specs.Scopes.{ScopeTree}
use Rattle.wf_exprs.proofs.Growing.{grows_on}
use Rattle.wf_lower_stmts.specs.BodyNodes.{form_in, target_in}
use Rattle.wf_lower_stmts.specs.Statements.{slice_bits}
use Rattle.wf_lower_blocks.proofs.CopyLaws.{copied}
use Rattle.wf_lower_blocks.proofs.performing.copy_to_slice.Goals as goal

pub least_size-requires-clause-one : goal.least_size-requires-clause-one
least_size-requires-clause-one c =
    (grows_on (grows_on c.slice_on.ensures.grows c.move_some.ensures.grows) c.widened.ensures.grows).more_exprs c.in_ok-to.to.length.code.0 c.in_ok-to.ensures.made.length.code.there

pub returns-in_err-source-clause-grows : goal.returns-in_err-source-clause-grows
returns-in_err-source-clause-grows c = grows_on (grows_on c.tell_size.ensures.grows c.lower_slice.ensures.grows) c.slice_on.ensures.grows

pub returns-in_err-rest-2-clause-grows : goal.returns-in_err-rest-2-clause-grows
returns-in_err-rest-2-clause-grows c = grows_on (grows_on (grows_on c.tell_size.ensures.grows c.lower_slice.ensures.grows) c.slice_on.ensures.grows) c.move_some.ensures.grows

pub returns-in_err-other-clause-grows : goal.returns-in_err-other-clause-grows
returns-in_err-other-clause-grows c = grows_on (grows_on (grows_on (grows_on c.tell_size.ensures.grows c.lower_slice.ensures.grows) c.slice_on.ensures.grows) c.move_some.ensures.grows) c.widened.ensures.grows

pub returns-clause-grows : goal.returns-clause-grows
returns-clause-grows c = grows_on (grows_on (grows_on (grows_on (grows_on c.tell_size.ensures.grows c.lower_slice.ensures.grows) c.slice_on.ensures.grows) c.move_some.ensures.grows) c.widened.ensures.grows) c.least_size.ensures.grows

pub returns-clause-made : goal.returns-clause-made
returns-clause-made c =
    let b = c.args.b.now in
    let P : ScopeTree → Type 0 = λ s. HasPair c.lower_slice.new.u c.in_ok-to.to (lowered_slice s.names (node_slice s.nodes c.args.to)) in
    copied (form_in b).names (target_in b.nodes c.args.target) (node_slice b.nodes c.args.to) (node_slice b.nodes c.args.source) (code_of c.args.u.now c.args.rest.0) (bits_of c.element_width-width.result) _ _ _ _ _ _ _ _ _ _ _ c.least_size.result
    (grows_on c.lower_slice.ensures.grows c.slice_on.ensures.grows) c.slice_on.ensures.grows c.move_some.ensures.grows c.widened.ensures.grows
    (c.element_width-width.ensures ∙ ap (λ (t : TypedNodes). slice_bits (node_slice t c.args.to)) c.typed.ensures.same)
    c.in_ok-rest.ensures.made (subst P c.scope.ensures c.in_ok-to.ensures.made) c.in_ok-source.ensures.made c.in_ok-rest-2.ensures.made c.in_ok-other.ensures.made c.least_size.ensures.made
