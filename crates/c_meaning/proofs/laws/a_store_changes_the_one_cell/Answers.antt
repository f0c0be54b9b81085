use Rattle.c_meaning.proofs.Stores.{store_leaves, cell_there, cell_other, part_stays, store_defined}
use Rattle.c_meaning.proofs.laws.a_store_changes_the_one_cell.Goals as goal

pub returns-clause-defined : goal.returns-clause-defined
returns-clause-defined c = store_defined

pub returns-clause-cell : goal.returns-clause-cell
returns-clause-cell c = λ memory now p cell e. let s = store_leaves memory p cell now e in (s.type, cell_there memory p cell now s)

pub returns-clause-others : goal.returns-clause-others
returns-clause-others c = λ memory now p q cell e d. cell_other memory p q cell now (store_leaves memory p cell now e) d

pub returns-clause-parts : goal.returns-clause-parts
returns-clause-parts c = λ memory now p cell object field e. part_stays memory p cell now (store_leaves memory p cell now e) object field
