use Rattle.wf_lower_stmts.proofs.HereLaws.{retell_code}
use Rattle.wf_ast.specs.TypedPackage.{package_of}
use Rattle.wf_lower.proofs.InitLaws.{part_by, part_known}
use Rattle.wf_lower.proofs.Known.{named_there, named_word, text_is}
use Rattle.wf_lower.proofs.initializing.initialize_field.Goals as goal

pub text-requires : goal.text-requires
text-requires c = named_there c.args.t.now c.args.x c.requires.named

pub initialize_part-requires-clause-known : goal.initialize_part-requires-clause-known
initialize_part-requires-clause-known c = part_known c.args.t.now c.args.x.ty _ c.in-Part.is c.requires.held

pub initialize_part-requires-clause-word : goal.initialize_part-requires-clause-word
initialize_part-requires-clause-word c = named_word c.args.t.now c.args.x c.text.result.now c.requires.named c.text.ensures

pub returns-in-Part-clause-made : goal.returns-in-Part-clause-made
returns-in-Part-clause-made c =
    retell_code _ _ _ c.initialize_part.result (part_by (package_of c.args.t.now) c.args.t.now c.args.x _ c.text.result.now _ c.in-Part.is (text_is c.args.t.now c.args.x.name c.text.result.now c.text.ensures)) c.initialize_part.ensures.made
