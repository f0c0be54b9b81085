use Rattle.std.proofs.Common.{◌∙◌, sym}
use Rattle.c_text.specs.CNodes.{code_of}
use Rattle.wf_exprs.proofs.Growing.{grows_on, kept_expr}
use Rattle.wf_lower_stmts.proofs.HereLaws.{code_here, retell_code}
use Rattle.wf_lower.specs.Bodies.{disable_if_marked, refuse}
use Rattle.wf_lower.specs.Methods.{method_in}
use Rattle.wf_lower.proofs.EntryLaws.{any_none, any_some, when_as}
use Rattle.wf_lower.proofs.SharedLaws.{kept_parts}
use Rattle.wf_lower.proofs.entries.when_any.Goals as goal

pub returns-then-is_empty-clause-made : goal.returns-then-is_empty-clause-made
returns-then-is_empty-clause-made c =
    let e = c.args.e.now in
    code_here _ _ c.args.rest.0 c.requires.rest
    (any_none c.args.u.now c.args.tests.now c.is_empty.result (disable_if_marked e.method.mark (refuse (method_in e) 5)) (code_of c.args.u.now c.args.rest.0) c.is_empty.ensures c.if-is_empty.true)

pub returns-clause-made : goal.returns-clause-made
returns-clause-made c =
    let e = c.args.e.now in
    let test = (kept_expr _ _ c.refuse_argument.ensures.grows c.in_ok-test.ensures.made).is in
    let rest = (grows_on c.either_of.ensures.grows c.refuse_argument.ensures.grows).stmts c.args.rest.0 c.requires.rest in
    retell_code _ _ _ c.when.result
    (when_as test c.in_ok-body.ensures.made.is rest ∙ sym (any_some c.args.u.now c.args.tests.now c.is_empty.result (disable_if_marked e.method.mark (refuse (method_in e) 5)) (code_of c.args.u.now c.args.rest.0) c.is_empty.ensures c.if-is_empty.false))
    c.when.ensures.made

pub returns-clause-grows : goal.returns-clause-grows
returns-clause-grows c = grows_on (grows_on c.either_of.ensures.grows c.refuse_argument.ensures.grows) c.when.ensures.grows

pub refuse_argument-requires : goal.refuse_argument-requires
refuse_argument-requires c = kept_parts _ _ c.either_of.ensures.grows c.requires.parts

pub returns-in_err-body-clause-grows : goal.returns-in_err-body-clause-grows
returns-in_err-body-clause-grows c = grows_on c.either_of.ensures.grows c.refuse_argument.ensures.grows

pub when-requires-clause-rest : goal.when-requires-clause-rest
when-requires-clause-rest c = (grows_on c.either_of.ensures.grows c.refuse_argument.ensures.grows).more_stmts c.args.rest.0 c.requires.rest
