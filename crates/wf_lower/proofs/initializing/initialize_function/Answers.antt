use Rattle.std.proofs.Common.{Some, refl}
use Rattle.wf_ast.specs.TypedPackage.{package_of}
use Rattle.c_text.specs.declared.kinds.Linkage.TheVariants.{External}
use Rattle.c_text.specs.declared.nodes.CType.TheVariants as type
use Rattle.c_text.specs.CTree.{text}
use Rattle.wf_exprs.proofs.Growing.{grows_on}
use Rattle.wf_exprs_nodes.proofs.ItemLaws.{code_kept}
use Rattle.wf_lower.specs.Unit.{initialize_function}
use Rattle.wf_lower.proofs.InitLaws.{without_locals}
use Rattle.wf_lower.proofs.Kept.{function_of}
use Rattle.wf_lower.proofs.KeptLaws.{function_made, kept_params}
use Rattle.wf_lower.proofs.initializing.initialize_function.Goals as goal

pub returns-clause-grows : goal.returns-clause-grows
returns-clause-grows c = grows_on (grows_on c.initialize_code.ensures.grows c.params.ensures.grows) c.initialize_name.ensures.grows

pub returns-clause-made : goal.returns-clause-made
returns-clause-made c =
    let named = c.initialize_name.ensures.grows in
    function_of _ (initialize_function (package_of c.args.t.now) c.args.s.0) tt
    (function_made _ External (Some type.Text) (Some text) _ _ _ _ _ _ _ _ (record { there = λ nodes. tt; is = λ names. refl }) c.in_ok-name.ensures.made (kept_params _ _ named c.in_ok-params.ensures.made) (without_locals _ _ c.new.ensures)
    (code_kept _ _ (grows_on c.params.ensures.grows named) c.in_ok-body.ensures.made))

pub returns-in_err-name-clause-grows : goal.returns-in_err-name-clause-grows
returns-in_err-name-clause-grows c = grows_on (grows_on c.initialize_code.ensures.grows c.params.ensures.grows) c.initialize_name.ensures.grows
