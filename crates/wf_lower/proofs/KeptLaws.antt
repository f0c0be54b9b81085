-- Parameters and locals stay while a unit grows, and a function of parts that the unit has.
use Rattle.std.proofs.Common.{◌∙◌, ap, refl, ℕ, Option, List}
use Rattle.c_text.specs.declared.ids.CNameId.{CNameId}
use Rattle.c_text.specs.declared.ids.CStmtId.{CStmtId}
use Rattle.c_text.specs.declared.kinds.Linkage.{Linkage}
use Rattle.c_text.specs.declared.nodes.CItem.TheVariants as item
use Rattle.c_text.specs.declared.nodes.CLocal.{CLocal}
use Rattle.c_text.specs.declared.nodes.CParam.{CParam}
use Rattle.c_text.specs.declared.nodes.CType.{CType}
use Rattle.c_text.specs.CFits.{HasParams}
use Rattle.c_text.specs.CNodes.{Nodes, bytes_at, code_of}
use Rattle.c_text.specs.CTree.{TypeTree, Code, ParamTree, LocalTree, function_item}
use Rattle.wf_exprs.specs.Grown.{Grows, HasCode, HasNamed}
use Rattle.wf_lower.specs.Made.{HasItemTree, HasLocalTrees, HasParamTrees, IsResult, local_trees, param_trees}
use Rattle.wf_lower.proofs.Kept.{keeps, locals_kept, params_kept}

pub kept_params : {a b : Nodes} (ps : List CParam) (ts : List ParamTree) → Grows a b → HasParamTrees a ps ts → HasParamTrees b ps ts
kept_params {a} {b} ps ts g h = params_kept a b (keeps g) h

pub params_stay : {a b : Nodes} (ps : List CParam) → Grows a b → HasParams a ps → HasParams b ps
params_stay {a} {b} ps g h = (kept_params ps (param_trees a ps) g (record { there = h; are = refl })).there

pub kept_locals : {a b : Nodes} (ls : List CLocal) (ts : List LocalTree) → Grows a b → HasLocalTrees a ls ts → HasLocalTrees b ls ts
kept_locals {a} {b} ls ts g h = locals_kept a b (keeps g) h

pub function_made : (nodes : Nodes) (linkage : Linkage) (result : Option CType) (result_tree : Option TypeTree) (n : CNameId) (name : List ℕ) (params : List CParam) (param_list : List ParamTree) (locals : List CLocal) (local_list : List LocalTree) (body : CStmtId) (code : Code)
    → IsResult result result_tree → HasNamed nodes n.0 name → HasParamTrees nodes params param_list → HasLocalTrees nodes locals local_list → HasCode nodes body.0 code
    → HasItemTree nodes (item.Function linkage result n params locals body) (function_item linkage result_tree name param_list local_list code)
function_made nodes linkage result result_tree n name params param_list locals local_list body code r h p l c = record {
  there = (r.there nodes, h.there, p.there, l.there, c.there);
  is =
      ap (λ t. function_item linkage t (bytes_at nodes.names n.0) (param_trees nodes params) (local_trees nodes locals) (code_of nodes body.0)) (r.is nodes.names)
      ∙ ap (λ x. function_item linkage result_tree x (param_trees nodes params) (local_trees nodes locals) (code_of nodes body.0)) h.is
      ∙ ap (λ ps. function_item linkage result_tree name ps (local_trees nodes locals) (code_of nodes body.0)) p.are
      ∙ ap (λ ls. function_item linkage result_tree name param_list ls (code_of nodes body.0)) l.are
      ∙ ap (function_item linkage result_tree name param_list local_list) c.is;
}
