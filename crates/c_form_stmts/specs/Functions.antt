-- The parts of a function (6.9.1).
use Rattle.std.specs.Prelude.{◌<◌, ℕ, Bool, ◌&&◌, List, length, map, option_map, IfSome, false}
use Rattle.c_text.specs.CNodes.{Nodes, type_in, param_tree, local_tree, expr_of, code_of}
use Rattle.c_text.specs.CFits.{HasType, HasParams, HasLocals}
use Rattle.c_meaning.specs.CStep.{stop}
use Rattle.c_meaning.specs.UnitForm.{Checked, all_distinct, labels_of, formed_code, formed_function}
use Rattle.c_form_exprs.specs.Front.{Front, front_items}
use Rattle.c_form_stmts.specs.declared.functions.Parts.{Parts}

pub record HasParts (nodes : Nodes) (parts : Parts) : Type 0 where
  pub result_type : IfSome parts.result_type (HasType nodes)
  pub params : HasParams nodes parts.params.now
  pub locals : HasLocals nodes parts.locals.now
  pub body : parts.body.0 < length nodes.stmts

-- The function that has these parts is formed.
abbrev pub formed_parts : Front → (all : List (List ℕ)) → Parts → Bool
formed_parts front all parts = formed_function (front_items front) all parts.linkage (option_map (type_in front.nodes.names) parts.result_type) (map (param_tree front.nodes.names) parts.params.now) (map (local_tree front.nodes.names (expr_of front.nodes)) parts.locals.now) (code_of front.nodes parts.body.0)

-- The labels of a body differ, and its statements are formed.
abbrev pub formed_body : Checked → Bool
formed_body c = all_distinct (labels_of c.body) && formed_code c false c.body stop
