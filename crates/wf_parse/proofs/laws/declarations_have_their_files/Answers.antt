use Rattle.wf_parse.proofs.DeclPlaces.{decls_have_files}
use Rattle.wf_parse.proofs.laws.declarations_have_their_files.Goals as goal

pub returns : goal.returns
returns c = decls_have_files
