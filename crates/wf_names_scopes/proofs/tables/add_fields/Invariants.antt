use Rattle.std.proofs.Common.{◌≡◌, ℕ, List, drop}
use Rattle.wf_ast.specs.ParsedTree.{ExprTree}
use Rattle.wf_ast.specs.ParsedTrees.{expr_trees, fields_at}
use Rattle.wf_names_rules.specs.Declarations.{variables}
use Rattle.wf_names_rules.specs.Tables.{pair_sort, pair_place}
use Rattle.wf_names_scopes.specs.Agreeing.{sort_among}
use Rattle.wf_names_scopes.specs.Growing.{with_fields, place_from}
use Rattle.wf_names_scopes.proofs.tables.add_fields.Given as goal

abbrev pub invariant-loop-field : goal.invariant-loop-field
invariant-loop-field l = record {
  sorts : (other text : ℕ) → with_fields (pair_sort l.table) l.owner.0 (sort_among l.parsed.texts) (variables (fields_at (expr_trees l.parsed.exprs) (drop l.field-index l.fields))) other text
      ≡ with_fields (pair_sort l.fn.table) l.owner.0 (sort_among l.parsed.texts) (variables (fields_at (expr_trees l.parsed.exprs) l.fields)) other text;
  places : (es : List ExprTree) (other text : ℕ) → with_fields (pair_place l.table) l.owner.0 (place_from l.place) (variables (fields_at es (drop l.field-index l.fields))) other text
      ≡ with_fields (pair_place l.fn.table) l.owner.0 (place_from 0) (variables (fields_at es l.fields)) other text;
}
