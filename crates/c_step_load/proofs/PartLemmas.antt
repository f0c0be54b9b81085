-- An item that is a function, by its parts.
use Rattle.std.proofs.Common.{◌≡◌, ℕ, ◌+◌, true, List, [], ◌∷◌, length, map, Result, OnOk, Some, option_map, refl, sym, subst}
use Rattle.std.specs.Prelude.{slice_get, reverse, drop}
use Rattle.c_text.specs.declared.nodes.CParam.{CParam}
use Rattle.c_text.specs.declared.nodes.CLocal.{CLocal}
use Rattle.c_text.specs.CTree.{ItemTree, function_item}
use Rattle.c_text.specs.CNodes.{Nodes, type_in, param_tree, local_tree, expr_of, code_of as body_of, unit_tree}
use Rattle.c_meaning.specs.CTypes.{Function, functions_of}
use Rattle.c_meaning.specs.UnitForm.{all_distinct}
use Rattle.c_form_stmts.specs.declared.functions.Parts.{Parts}
use Rattle.c_step_program.specs.Programs.{code_of, with_function}
use Rattle.c_step_program.proofs.Coded.{as_many_functions}
use Rattle.c_step_load.specs.declared.loading.Build.{Build}
use Rattle.c_step_load.specs.Loading.{IsFormed, program_in, functions_before, own_names, function_by, IsFunction, IsBuilt, code_before}
use Rattle.c_step_load.proofs.FormLaws.{own_distinct}
use Rattle.c_step_load.proofs.ItemLemmas.{no_function, function_next, function_among}

module _ (nodes : Nodes) (parts : Parts) (name : List ℕ) where
  abbrev pub item_by : ItemTree
  item_by = function_item parts.linkage (option_map (type_in nodes.names) parts.result_type) name (map (param_tree nodes.names) parts.params.now) (map (local_tree nodes.names (expr_of nodes)) parts.locals.now) (body_of nodes parts.body.0)

  pub own_by : IsFormed nodes → (i : ℕ) → slice_get (unit_tree nodes) i ≡ Some item_by → all_distinct (map (λ it. it.name) (own_names nodes parts)) ≡ true
  own_by formed i is = own_distinct parts.linkage (option_map (type_in nodes.names) parts.result_type) name (map (param_tree nodes.names) parts.params.now) (map (local_tree nodes.names (expr_of nodes)) parts.locals.now) (body_of nodes parts.body.0) formed.0 (unit_tree nodes) formed.1 i is

  pub function_here : (i : ℕ) → slice_get (unit_tree nodes) i ≡ Some item_by → IsFunction nodes parts (function_by nodes parts name) (reverse (functions_of (drop (i + 1) (unit_tree nodes)))) (functions_before nodes i)
  function_here i is = record {
    is = refl;
    among = function_among nodes parts.linkage (option_map (type_in nodes.names) parts.result_type) name (map (param_tree nodes.names) parts.params.now) (map (local_tree nodes.names (expr_of nodes)) parts.locals.now) (body_of nodes parts.body.0) i is;
  }

  pub item_built : {A E : Type 0} (i : ℕ) (r : Result A E) (new : Build) → slice_get (unit_tree nodes) i ≡ Some item_by → OnOk r (IsBuilt new (with_function (program_in nodes) (function_by nodes parts name) (functions_before nodes i) (code_before nodes i))) → OnOk r (IsBuilt new (code_before nodes (i + 1)))
  item_built i r new is h = subst (λ (fs : List Function). OnOk r (IsBuilt new (code_of (program_in nodes) fs))) (sym (function_next nodes parts.linkage (option_map (type_in nodes.names) parts.result_type) name (map (param_tree nodes.names) parts.params.now) (map (local_tree nodes.names (expr_of nodes)) parts.locals.now) (body_of nodes parts.body.0) i is)) h

pub as_many_before : (nodes : Nodes) (i : ℕ) → length (code_before nodes i).functions ≡ length (functions_before nodes i)
as_many_before nodes i = as_many_functions (program_in nodes) (functions_before nodes i)

pub no_more : (nodes : Nodes) (i : ℕ) (item : ItemTree) (build : Build) → slice_get (unit_tree nodes) i ≡ Some item → functions_of (item ∷ []) ≡ [] → IsBuilt build (code_before nodes i) → IsBuilt build (code_before nodes (i + 1))
no_more nodes i item build is none h = subst (λ (fs : List Function). IsBuilt build (code_of (program_in nodes) fs)) (sym (no_function nodes i item is none)) h

-- An item by the parts of its fields.
pub item_is : (nodes : Nodes) (parts : Parts) (name : List ℕ) (i : ℕ) (ps : List CParam) (ls : List CLocal) → parts.params.now ≡ ps → parts.locals.now ≡ ls
    → slice_get (unit_tree nodes) i ≡ Some (function_item parts.linkage (option_map (type_in nodes.names) parts.result_type) name (map (param_tree nodes.names) ps) (map (local_tree nodes.names (expr_of nodes)) ls) (body_of nodes parts.body.0)) → slice_get (unit_tree nodes) i ≡ Some (item_by nodes parts name)
item_is nodes parts name i ps ls p l h = rw (p, l) h
