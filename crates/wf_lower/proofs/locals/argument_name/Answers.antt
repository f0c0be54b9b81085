use Rattle.std.proofs.Common.{[]}
use Rattle.wf_lower.proofs.Known.{args_named, arg_there, arg_text, arg_word}
use Rattle.wf_lower.proofs.locals.argument_name.Goals as goal

pub text-requires : goal.text-requires
text-requires c = arg_there c.args.b.now.nodes c.typed.result.now c.args.b.now.method.args c.arguments.result.now c.args.n _ [] c.typed.ensures.same c.arguments.ensures.is c.requires (args_named c.args.b.now.nodes c.args.b.now.method c.is_sound.ensures.spelt)

pub returns-clause-is : goal.returns-clause-is
returns-clause-is c = arg_text c.args.b.now.nodes c.typed.result.now c.args.b.now.method.args c.arguments.result.now c.args.n _ c.text.result.now c.typed.ensures.same c.arguments.ensures.is c.requires c.text.ensures

pub returns-clause-word : goal.returns-clause-word
returns-clause-word c = arg_word c.args.b.now.nodes c.typed.result.now c.args.b.now.method.args c.arguments.result.now c.args.n _ c.text.result.now c.typed.ensures.same c.arguments.ensures.is c.requires (args_named c.args.b.now.nodes c.args.b.now.method c.is_sound.ensures.spelt) c.text.ensures
