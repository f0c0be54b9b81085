-- The path that an expression is, if it is one.
use Rattle.std.specs.Prelude.{Option, None, Some}
use Rattle.wf_named.specs.declared.nodes.NamedPath.{NamedPath}
use Rattle.wf_named.specs.NamedTree.{NamedExprTree, path}

abbrev pub path_in : NamedExprTree → Option NamedPath
path_in (path p) = Some p
path_in e = None
