use Rattle.wf_types_decls.proofs.DeclarationLemmas.{questions_begun}
use Rattle.wf_types_decls.proofs.declarations.two_questions.Goals as goal

pub loop-byte-init : goal.loop-byte-init
loop-byte-init c = questions_begun c.args.text.now
