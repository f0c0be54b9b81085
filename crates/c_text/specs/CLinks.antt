-- The links of an expression: `a->b[i]->c` has the links `a`, `->b`, `[i]` and `->c`. An expression of another form is
-- one link.
use Rattle.std.specs.Prelude.{ℕ, zero, suc, ◌+◌, List, [], ◌++◌, Option, Some, None, codes}
use Rattle.c_text.specs.CTree.{ExprTree, member, element}
use Rattle.c_text.specs.CLayout.{expr_text}

-- what stands before the last link
abbrev pub front_of : ExprTree → Option ExprTree
front_of (member pointer field) = Some pointer
front_of (element pointer index) = Some pointer
front_of _ = None

abbrev pub link_count : ExprTree → ℕ
link_count (member pointer field) = link_count pointer + 1
link_count (element pointer index) = link_count pointer + 1
link_count _ = 1

-- what is left without so many of the last links
abbrev pub without_links : ExprTree → ℕ → ExprTree
without_links e zero = e
without_links (member pointer field) (suc count) = without_links pointer count
without_links (element pointer index) (suc count) = without_links pointer count
without_links e (suc count) = e

-- the last link
abbrev pub link_text : ExprTree → List ℕ
link_text (member pointer field) = codes "->" ++ field
link_text (element pointer index) = codes "[" ++ expr_text index ++ codes "]"
link_text e = expr_text e

-- so many of the last links, in the order of the text
abbrev pub links_text : ExprTree → ℕ → List ℕ
links_text e zero = []
links_text (member pointer field) (suc count) = links_text pointer count ++ link_text (member pointer field)
links_text (element pointer index) (suc count) = links_text pointer count ++ link_text (element pointer index)
links_text e (suc count) = link_text e
