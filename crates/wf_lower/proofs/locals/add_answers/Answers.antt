use Rattle.std.proofs.Common.{◌++◌, ◌∷◌, [], List, codes}
use Rattle.c_text.specs.CTree.{LocalTree, size, text, uint}
use Rattle.c_text.specs.declared.kinds.CUint.TheVariants.{U64}
use Rattle.wf_exprs.proofs.Growing.{grows_on}
use Rattle.wf_exprs.specs.Words.{num}
use Rattle.wf_lower.specs.Bodies.{declared}
use Rattle.wf_lower.proofs.LocalLaws.{named_read, reads_named, reads_on, reads_then}
use Rattle.wf_lower.proofs.SharedLaws.{kept_names}
use Rattle.wf_lower.proofs.locals.add_answers.Goals as goal

pub add_read-requires-clause-name : goal.add_read-requires-clause-name
add_read-requires-clause-name c = c.requires.status.there

pub add_read-requires-2-clause-name : goal.add_read-requires-2-clause-name
add_read-requires-2-clause-name c = c.add_read.ensures.grows.more_names _ c.requires.got.there

pub add_read-requires-3-clause-name : goal.add_read-requires-3-clause-name
add_read-requires-3-clause-name c = (grows_on c.add_read.ensures.grows c.add_read-2.ensures.grows).more_names _ c.requires.size.there

pub returns-clause-grows : goal.returns-clause-grows
returns-clause-grows c = grows_on (grows_on c.add_read.ensures.grows c.add_read-2.ensures.grows) c.add_read-3.ensures.grows

pub returns-clause-made : goal.returns-clause-made
returns-clause-made c =
    let status : List LocalTree = declared text (codes "status") (num 0) ∷ [] in
    let got : List LocalTree = declared (uint U64) (codes "got") (num 0) ∷ [] in
    let left : List LocalTree = declared size (codes "size") (num 0) ∷ [] in
    let g = c.add_read.ensures.grows in
    let h = grows_on g c.add_read-2.ensures.grows in
    let first = named_read _ _ _ _ _ text c.requires.status.is c.in_ok-add_read.ensures.made in
    let second = named_read _ _ _ _ _ (uint U64) (kept_names _ g c.requires).got.is c.in_ok-add_read-2.ensures.made in
    reads_then c.args.read.now _ _ _ _ _ _ (status ++ got) left c.add_read-3.result h
    (reads_on c.args.read.now _ _ _ _ _ _ status got g first second) (reads_named _ _ _ _ _ size c.add_read-3.result (kept_names _ h c.requires).size.is c.add_read-3.ensures.made)

pub returns-in_err-add_read-2-clause-grows : goal.returns-in_err-add_read-2-clause-grows
returns-in_err-add_read-2-clause-grows c = grows_on c.add_read.ensures.grows c.add_read-2.ensures.grows
