use Rattle.wf_ast.specs.TypedPackage.{package_of}
use Rattle.wf_mean.proofs.FreshLaws.{fresh-seen}
use Rattle.wf_mean.proofs.fresh.new_receiver.Goals as goal

pub returns-clause-fresh : goal.returns-clause-fresh
returns-clause-fresh c = fresh-seen (package_of c.args.t.now) c.args.decl.null c.args.decl.of.0 c.new-objects.result.items c.add_objects.new.objects.items c.if-decl.false c.new-objects.ensures.items c.in_ok-add_objects.ensures.added
