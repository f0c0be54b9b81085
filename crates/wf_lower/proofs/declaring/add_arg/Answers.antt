use Rattle.std.proofs.Common.{◌∙◌, ap, refl, sym}
use Rattle.wf_ast.specs.TypedPackage.{kind_of}
use Rattle.c_meaning.specs.UnitForm.{arg_params}
use Rattle.c_text.proofs.Trees.{append_nil}
use Rattle.wf_exprs.proofs.Growing.{unchanged}
use Rattle.wf_lower.proofs.Kept.{params_after}
use Rattle.wf_lower.proofs.Known.{named_there, named_word, text_is}
use Rattle.wf_lower.proofs.declaring.add_arg.Goals as goal

pub text-requires : goal.text-requires
text-requires c = named_there c.args.t.now c.args.x c.requires

pub add_params-requires : goal.add_params-requires
add_params-requires c = named_word c.args.t.now c.args.x c.text.result.now c.requires c.text.ensures

pub returns-clause-made : goal.returns-clause-made
returns-clause-made c =
    params_after _ _ _ _ _ _ _ c.add_params.result (unchanged _ _ refl)
    (ap (λ n. arg_params (record { name = n; kind = kind_of c.args.x.ty })) (sym (text_is c.args.t.now c.args.x.name c.text.result.now c.text.ensures)) ∙ sym (append_nil _)) c.add_params.ensures.made
