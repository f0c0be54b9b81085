use Rattle.wf_lower.proofs.FieldLaws.{kept_made}
use Rattle.wf_lower.proofs.Kept.{fields_after}
use Rattle.wf_lower.proofs.Known.{named_there, named_word, text_is}
use Rattle.wf_lower.proofs.structs.add_kept.Goals as goal

pub text-requires : goal.text-requires
text-requires c = named_there c.args.t.now c.args.x c.requires.named

pub saved_field-requires-clause-local : goal.saved_field-requires-clause-local
saved_field-requires-clause-local c = named_word c.args.t.now c.args.x c.text.result.now c.requires.named c.text.ensures

pub add_named-requires-clause-kind : goal.add_named-requires-clause-kind
add_named-requires-clause-kind c = c.kept_type.ensures.there c.saved_field.new.u

pub returns-clause-made : goal.returns-clause-made
returns-clause-made c =
    let nodes = c.args.t.now in
    fields_after _ _ _ _ _ _ _ c.add_named.result c.saved_field.ensures.grows
    (kept_made nodes c.args.method.now c.args.x c.text.result.now c.kept_type.result c.in_ok-name.name (text_is nodes c.args.x.name c.text.result.now c.text.ensures) c.kept_type.ensures c.in_ok-name.ensures.made) c.add_named.ensures
