-- A text is read back to its tree.
use Rattle.std.proofs.Common.{◌≡◌, ℕ, List, Result, Ok, Err}
use Rattle.c_text.specs.CGrammar.{IsTextOf, unit_tokens}
use Rattle.c_text.specs.CNodes.{Nodes, unit_tree}
use Rattle.c_text.specs.CTree.{ItemTree}
use Rattle.c_read_grammar.specs.Outcomes.{whole, too_deep, not_c, IsShallow}
use Rattle.c_read_grammar.proofs.OneOutcome.{one-outcome}
use Rattle.c_read.specs.declared.faults.ReadFault.{ReadFault}
use Rattle.c_read.specs.declared.faults.ReadFault.TheVariants as fault
use Rattle.c_read.specs.Reading.{AnswersRead, GivesTree}

same_tree : (a b : List ItemTree) → whole a ≡ whole b → b ≡ a
same_tree a b h = cc h

not_deep : (a : List ItemTree) (n : ℕ) → whole a ≡ too_deep n → ⊥
not_deep a n h = cc h

not_wrong : (a : List ItemTree) (n : ℕ) → whole a ≡ not_c n → ⊥
not_wrong a n h = cc h

pub read_back : (bytes : List ℕ) (tree : List ItemTree) (answer : Result Nodes ReadFault) → IsTextOf bytes tree → IsShallow 0 (unit_tokens tree) → AnswersRead bytes answer → GivesTree tree answer
read_back bytes tree (Ok unit) t s a = same_tree tree (unit_tree unit) (one-outcome bytes (whole tree) (whole (unit_tree unit)) (t, s) a)
read_back bytes tree (Err (fault.TooDeep at)) t s a = not_deep tree at (one-outcome bytes (whole tree) (too_deep at) (t, s) a)
read_back bytes tree (Err (fault.NotC at)) t s a = not_wrong tree at (one-outcome bytes (whole tree) (not_c at) (t, s) a)
read_back bytes tree (Err fault.Memory) t s a = tt
