use Rattle.std.proofs.Common.{◌∙◌, ◌++◌, ap, codes, sym}
use Rattle.wf_ast.specs.TypedPackage.{package_of}
use Rattle.wf_ast.specs.TypedTrees.{text_of}
use Rattle.wf_exprs.proofs.Growing.{grows_on}
use Rattle.wf_exprs.proofs.Prefixes.{f_name}
use Rattle.wf_lower.proofs.FieldLaws.{one_field_as}
use Rattle.wf_lower.proofs.Kept.{fields_push}
use Rattle.wf_lower.proofs.Known.{named_there, named_word, text_is}
use Rattle.wf_lower.proofs.PartLaws.{source_typed}
use Rattle.wf_lower.proofs.structs.add_source.Goals as goal

pub text-requires : goal.text-requires
text-requires c = named_there c.args.t.now c.args.x c.requires.named

pub put_spelt-requires : goal.put_spelt-requires
put_spelt-requires c = f_name c.text.result.now (named_word c.args.t.now c.args.x c.text.result.now c.requires.named c.text.ensures)

pub returns-in_err-field-clause-grows : goal.returns-in_err-field-clause-grows
returns-in_err-field-clause-grows c = grows_on c.put_spelt.ensures.grows c.typed_field.ensures.grows

pub returns-clause-grows : goal.returns-clause-grows
returns-clause-grows c = grows_on c.put_spelt.ensures.grows c.typed_field.ensures.grows

pub returns-clause-made : goal.returns-clause-made
returns-clause-made c =
    let nodes = c.args.t.now in
    let named = c.in_ok-name.ensures.made.is ∙ ap (λ l. codes "f_" ++ l) (sym (text_is nodes c.args.x.name c.text.result.now c.text.ensures)) in
    let field = one_field_as (source_typed (package_of nodes) (text_of nodes c.args.x.name) c.args.x.ty _ named) c.in_ok-field.ensures.made in
    fields_push _ _ _ _ c.push.result (grows_on c.put_spelt.ensures.grows c.typed_field.ensures.grows) field c.push.ensures.ok
