use Rattle.wf_parse.proofs.DeclCounts.{decls_are_few}
use Rattle.wf_parse.proofs.forms.declarations_are_few.Goals as goal

pub returns : goal.returns
returns c = decls_are_few
