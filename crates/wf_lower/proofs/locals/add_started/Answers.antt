use Rattle.std.proofs.Common.{◌∷◌, [], List, codes}
use Rattle.c_text.specs.CTree.{LocalTree, uint}
use Rattle.c_text.specs.declared.kinds.CUint.TheVariants.{U64, U8}
use Rattle.wf_exprs.specs.Words.{num}
use Rattle.wf_lower.specs.Bodies.{declared}
use Rattle.wf_lower.proofs.LocalLaws.{named_read, reads_named, reads_then}
use Rattle.wf_lower.proofs.SharedLaws.{kept_names}
use Rattle.wf_exprs.proofs.Growing.{grows_on}
use Rattle.wf_lower.proofs.locals.add_started.Goals as goal

pub add_read-requires-clause-name : goal.add_read-requires-clause-name
add_read-requires-clause-name c = c.requires.held.there

pub add_read-requires-2-clause-name : goal.add_read-requires-2-clause-name
add_read-requires-2-clause-name c = c.add_read.ensures.grows.more_names _ c.requires.count.there

pub returns-clause-made : goal.returns-clause-made
returns-clause-made c =
    let held : List LocalTree = declared (uint U64) (codes "held") (num 0) ∷ [] in
    let count : List LocalTree = declared (uint U8) (codes "count") (num 0) ∷ [] in
    let later = kept_names _ c.add_read.ensures.grows c.requires in
    reads_then c.args.read.now _ _ _ _ _ _ held count c.add_read-2.result c.add_read.ensures.grows (named_read _ _ _ _ _ (uint U64) c.requires.held.is c.in_ok-add_read.ensures.made) (reads_named _ _ _ _ _ (uint U8) c.add_read-2.result later.count.is c.add_read-2.ensures.made)

pub returns-clause-grows : goal.returns-clause-grows
returns-clause-grows c = grows_on c.add_read.ensures.grows c.add_read-2.ensures.grows
