use Rattle.wf_read_laws.proofs.DeclPlaces.{decls_are_in_files}
use Rattle.wf_read_laws.proofs.places.a_declaration_stands_in_its_file.Goals as goal

pub returns : goal.returns
returns c = decls_are_in_files
