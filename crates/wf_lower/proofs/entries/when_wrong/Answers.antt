use Rattle.std.proofs.Common.{◌∙◌, ap, map}
use Rattle.wf_ast.specs.TypedPackage.{variable_of}
use Rattle.c_text.specs.CNodes.{code_of}
use Rattle.wf_lower_stmts.proofs.HereLaws.{retell_code}
use Rattle.wf_lower.specs.Bodies.{disable_if_marked, refuse, when_any, wrong_args}
use Rattle.wf_lower.specs.Methods.{begins_apart, method_in, test_trees}
use Rattle.wf_lower.proofs.EntryLaws.{args_apart}
use Rattle.wf_lower.proofs.SharedLaws.{kept_parts}
use Rattle.wf_exprs.proofs.Growing.{grows_on}
use Rattle.wf_lower.proofs.entries.when_wrong.Goals as goal

pub when_any-requires-clause-apart : goal.when_any-requires-clause-apart
when_any-requires-clause-apart c =
    let e = c.args.e.now in
    let trees = ap (test_trees c.wrong_args.new.u) c.as_slice.ensures ∙ c.in_ok-tests.ensures.made.are in
    ap begins_apart trees ∙ args_apart (map (variable_of e.nodes) e.method.args)

pub returns-clause-made : goal.returns-clause-made
returns-clause-made c =
    let e = c.args.e.now in
    let trees = ap (test_trees c.wrong_args.new.u) c.as_slice.ensures ∙ c.in_ok-tests.ensures.made.are in
    let body = disable_if_marked e.method.mark (refuse (method_in e) 5) in
    let rest = c.wrong_args.ensures.grows.stmts c.args.rest.0 c.requires.rest in
    retell_code _ _ _ c.when_any.result (ap (λ ts. when_any ts body (code_of c.wrong_args.new.u c.args.rest.0)) trees ∙ ap (when_any (wrong_args (map (variable_of e.nodes) e.method.args)) body) rest) c.when_any.ensures.made

pub when_any-requires-clause-parts : goal.when_any-requires-clause-parts
when_any-requires-clause-parts c = kept_parts _ _ c.wrong_args.ensures.grows c.requires.parts

pub returns-clause-grows : goal.returns-clause-grows
returns-clause-grows c = grows_on c.wrong_args.ensures.grows c.when_any.ensures.grows
