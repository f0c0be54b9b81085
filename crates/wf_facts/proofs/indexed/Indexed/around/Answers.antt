use Rattle.std.proofs.Common.{refl}
use Rattle.wf_ast.specs.declared.things.Thing.TheVariants as things
use Rattle.wf_facts.proofs.AroundLemmas.{arg_known}
use Rattle.wf_facts.proofs.DropLemmas.{set_known}
use Rattle.wf_facts.proofs.indexed.Indexed.around.Goals as goal

pub returns-in-Arg : goal.returns-in-Arg
returns-in-Arg c =
    rw c.in-Arg.is (arg_known c.args._t.now c.args.self.now.list c.at-in-Arg.result.now.words c.in-Arg.field-0
    (set_known c.args._t.now c.args.self.now _ c.self.view_is things.Args refl c.requires.over c.set_number.result c.set_number.ensures c.at-in-Arg.result.now.words c.at-in-Arg.ensures))
