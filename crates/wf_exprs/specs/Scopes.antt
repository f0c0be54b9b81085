-- What a method's expressions name, by the nodes of its package.
use Rattle.std.specs.Prelude.{◌≡◌, ℕ, Bool, true, ◌&&◌, List, length, map, nat_lt}
use Rattle.std.specs.List.{list_all}
use Rattle.wf_ast.specs.declared.declarations.Var.{Var}
use Rattle.wf_ast.specs.declared.typed_nodes.TypedNodes.{TypedNodes}
use Rattle.wf_ast.specs.TypedInvariant.{IsTyped}
use Rattle.wf_ast.specs.TypedTree.{Path, local, field, arg}
use Rattle.wf_ast.specs.TypedTrees.{text_of}
use Rattle.c_text.specs.CSpelling.{is_word_byte}
use Rattle.wf_exprs.specs.Names.{Names}
use Rattle.wf_exprs.specs.declared.scope.Path.{Path as PathNode}
use Rattle.wf_exprs.specs.declared.scope.Path.TheVariants as paths

-- The package, and the names of the method's fields, arguments and locals.
pub record ScopeTree : Type 0 where
  pub nodes : TypedNodes
  pub names : Names

abbrev pub names_in : TypedNodes → List Var → List (List ℕ)
names_in nodes xs = map (λ x. text_of nodes x.name) xs

-- A name is there, and made of letters, digits and `_`.
abbrev pub is_named : TypedNodes → Var → Bool
is_named nodes x = nat_lt x.name.0 (length nodes.texts) && list_all is_word_byte (text_of nodes x.name)

abbrev pub are_named : TypedNodes → List Var → Bool
are_named nodes xs = list_all (is_named nodes) xs

-- What a path names.
abbrev pub path_of : PathNode → Path
path_of (paths.Local n) = local n
path_of (paths.Field n) = field n
path_of (paths.Arg n) = arg n

-- The package keeps its rules, and all that is named has such a name.
pub record Scoped (nodes : TypedNodes) (fields args locals : List Var) : Type 0 where
  pub typed : IsTyped nodes
  pub fields_named : are_named nodes fields ≡ true
  pub args_named : are_named nodes args ≡ true
  pub locals_named : are_named nodes locals ≡ true
