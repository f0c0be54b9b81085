-- That what is made by actions that take no value is what the machine makes.
use Rattle.std.proofs.Common.{◌≡◌, ℕ, true, if◌then◌else◌, List, [], refl}
use Rattle.wf_ast.specs.ParsedTree.{ExprTree, StmtTree, DeclTree}
use Rattle.wf_parse_grammar.specs.declared.symbols.Action.TheVariants as does
use Rattle.wf_parse_grammar.specs.Values.{perform}
use Rattle.wf_parse_nodes.specs.declared.values.SemanticValue.{SemanticValue}
use Rattle.wf_parse_nodes.specs.Making.{making}
use Rattle.wf_parse_nodes.specs.Seen.{seen_values, ValuesBelow, ProductParts, made_with}
use Rattle.wf_parse_nodes.specs.Shapes.{fits, takes}

module _ (es : List ExprTree) (ss : List StmtTree) (ds : List DeclTree) where
  pub push_name-made : (name : _) (vs : List SemanticValue) → (if fits (takes (does.PushName name)) vs then made_with es ss (making (does.PushName name) vs).product (seen_values es ss (making (does.PushName name) vs).vals) ds else record { vals = []; decls = ds }) ≡ perform (does.PushName name) (record { vals = seen_values es ss vs; decls = ds })
  push_name-made name vs = refl

  pub push_place-made : (at : _) (vs : List SemanticValue) → (if fits (takes (does.PushPlace at)) vs then made_with es ss (making (does.PushPlace at) vs).product (seen_values es ss (making (does.PushPlace at) vs).vals) ds else record { vals = []; decls = ds }) ≡ perform (does.PushPlace at) (record { vals = seen_values es ss vs; decls = ds })
  push_place-made at vs = refl

  pub push_mark-made : (mark : _) (vs : List SemanticValue) → (if fits (takes (does.PushMark mark)) vs then made_with es ss (making (does.PushMark mark) vs).product (seen_values es ss (making (does.PushMark mark) vs).vals) ds else record { vals = []; decls = ds }) ≡ perform (does.PushMark mark) (record { vals = seen_values es ss vs; decls = ds })
  push_mark-made mark vs = refl

  pub push_public-made : (public : _) (vs : List SemanticValue) → (if fits (takes (does.PushPublic public)) vs then made_with es ss (making (does.PushPublic public) vs).product (seen_values es ss (making (does.PushPublic public) vs).vals) ds else record { vals = []; decls = ds }) ≡ perform (does.PushPublic public) (record { vals = seen_values es ss vs; decls = ds })
  push_public-made public vs = refl

  pub push_sign-made : (op : _) (at : _) (vs : List SemanticValue) → (if fits (takes (does.PushSign op at)) vs then made_with es ss (making (does.PushSign op at) vs).product (seen_values es ss (making (does.PushSign op at) vs).vals) ds else record { vals = []; decls = ds }) ≡ perform (does.PushSign op at) (record { vals = seen_values es ss vs; decls = ds })
  push_sign-made op at vs = refl

  pub bare_path-made : (name : _) (vs : List SemanticValue) → (if fits (takes (does.BarePath name)) vs then made_with es ss (making (does.BarePath name) vs).product (seen_values es ss (making (does.BarePath name) vs).vals) ds else record { vals = []; decls = ds }) ≡ perform (does.BarePath name) (record { vals = seen_values es ss vs; decls = ds })
  bare_path-made name vs = refl

  pub number_expr-made : (value : _) (at : _) (vs : List SemanticValue) → (if fits (takes (does.NumberExpr value at)) vs then made_with es ss (making (does.NumberExpr value at) vs).product (seen_values es ss (making (does.NumberExpr value at) vs).vals) ds else record { vals = []; decls = ds }) ≡ perform (does.NumberExpr value at) (record { vals = seen_values es ss vs; decls = ds })
  number_expr-made value at vs = refl

  pub own_status_expr-made : (name : _) (vs : List SemanticValue) → (if fits (takes (does.OwnStatusExpr name)) vs then made_with es ss (making (does.OwnStatusExpr name) vs).product (seen_values es ss (making (does.OwnStatusExpr name) vs).vals) ds else record { vals = []; decls = ds }) ≡ perform (does.OwnStatusExpr name) (record { vals = seen_values es ss vs; decls = ds })
  own_status_expr-made name vs = refl

  pub fine_expr-made : (at : _) (vs : List SemanticValue) → (if fits (takes (does.FineExpr at)) vs then made_with es ss (making (does.FineExpr at) vs).product (seen_values es ss (making (does.FineExpr at) vs).vals) ds else record { vals = []; decls = ds }) ≡ perform (does.FineExpr at) (record { vals = seen_values es ss vs; decls = ds })
  fine_expr-made at vs = refl

  pub truth_expr-made : (value : _) (at : _) (vs : List SemanticValue) → (if fits (takes (does.TruthExpr value at)) vs then made_with es ss (making (does.TruthExpr value at) vs).product (seen_values es ss (making (does.TruthExpr value at) vs).vals) ds else record { vals = []; decls = ds }) ≡ perform (does.TruthExpr value at) (record { vals = seen_values es ss vs; decls = ds })
  truth_expr-made value at vs = refl

  pub no_part-made : (vs : List SemanticValue) → (if fits (takes does.NoPart) vs then made_with es ss (making does.NoPart vs).product (seen_values es ss (making does.NoPart vs).vals) ds else record { vals = []; decls = ds }) ≡ perform does.NoPart (record { vals = seen_values es ss vs; decls = ds })
  no_part-made vs = refl

  pub start_givens-made : (vs : List SemanticValue) → (if fits (takes does.StartGivens) vs then made_with es ss (making does.StartGivens vs).product (seen_values es ss (making does.StartGivens vs).vals) ds else record { vals = []; decls = ds }) ≡ perform does.StartGivens (record { vals = seen_values es ss vs; decls = ds })
  start_givens-made vs = refl

  pub start_type-made : (vs : List SemanticValue) → (if fits (takes does.StartType) vs then made_with es ss (making does.StartType vs).product (seen_values es ss (making does.StartType vs).vals) ds else record { vals = []; decls = ds }) ≡ perform does.StartType (record { vals = seen_values es ss vs; decls = ds })
  start_type-made vs = refl

  pub no_bounds-made : (vs : List SemanticValue) → (if fits (takes does.NoBounds) vs then made_with es ss (making does.NoBounds vs).product (seen_values es ss (making does.NoBounds vs).vals) ds else record { vals = []; decls = ds }) ≡ perform does.NoBounds (record { vals = seen_values es ss vs; decls = ds })
  no_bounds-made vs = refl

  pub start_items-made : (vs : List SemanticValue) → (if fits (takes does.StartItems) vs then made_with es ss (making does.StartItems vs).product (seen_values es ss (making does.StartItems vs).vals) ds else record { vals = []; decls = ds }) ≡ perform does.StartItems (record { vals = seen_values es ss vs; decls = ds })
  start_items-made vs = refl

  pub start_arms-made : (vs : List SemanticValue) → (if fits (takes does.StartArms) vs then made_with es ss (making does.StartArms vs).product (seen_values es ss (making does.StartArms vs).vals) ds else record { vals = []; decls = ds }) ≡ perform does.StartArms (record { vals = seen_values es ss vs; decls = ds })
  start_arms-made vs = refl

  pub no_else-made : (vs : List SemanticValue) → (if fits (takes does.NoElse) vs then made_with es ss (making does.NoElse vs).product (seen_values es ss (making does.NoElse vs).vals) ds else record { vals = []; decls = ds }) ≡ perform does.NoElse (record { vals = seen_values es ss vs; decls = ds })
  no_else-made vs = refl

  pub start_clauses-made : (vs : List SemanticValue) → (if fits (takes does.StartClauses) vs then made_with es ss (making does.StartClauses vs).product (seen_values es ss (making does.StartClauses vs).vals) ds else record { vals = []; decls = ds }) ≡ perform does.StartClauses (record { vals = seen_values es ss vs; decls = ds })
  start_clauses-made vs = refl

  pub no_label-made : (vs : List SemanticValue) → (if fits (takes does.NoLabel) vs then made_with es ss (making does.NoLabel vs).product (seen_values es ss (making does.NoLabel vs).vals) ds else record { vals = []; decls = ds }) ≡ perform does.NoLabel (record { vals = seen_values es ss vs; decls = ds })
  no_label-made vs = refl

  pub no_via-made : (vs : List SemanticValue) → (if fits (takes does.NoVia) vs then made_with es ss (making does.NoVia vs).product (seen_values es ss (making does.NoVia vs).vals) ds else record { vals = []; decls = ds }) ≡ perform does.NoVia (record { vals = seen_values es ss vs; decls = ds })
  no_via-made vs = refl

  pub start_fields-made : (vs : List SemanticValue) → (if fits (takes does.StartFields) vs then made_with es ss (making does.StartFields vs).product (seen_values es ss (making does.StartFields vs).vals) ds else record { vals = []; decls = ds }) ≡ perform does.StartFields (record { vals = seen_values es ss vs; decls = ds })
  start_fields-made vs = refl

module _ (e k : ℕ) where
  pub push_name-below : (name : _) (vs : List SemanticValue) → fits (takes (does.PushName name)) vs ≡ true → ValuesBelow e k vs → ProductParts e k (making (does.PushName name) vs).product × ValuesBelow e k (making (does.PushName name) vs).vals
  push_name-below name vs f h = (tt, h)

  pub push_place-below : (at : _) (vs : List SemanticValue) → fits (takes (does.PushPlace at)) vs ≡ true → ValuesBelow e k vs → ProductParts e k (making (does.PushPlace at) vs).product × ValuesBelow e k (making (does.PushPlace at) vs).vals
  push_place-below at vs f h = (tt, h)

  pub push_mark-below : (mark : _) (vs : List SemanticValue) → fits (takes (does.PushMark mark)) vs ≡ true → ValuesBelow e k vs → ProductParts e k (making (does.PushMark mark) vs).product × ValuesBelow e k (making (does.PushMark mark) vs).vals
  push_mark-below mark vs f h = (tt, h)

  pub push_public-below : (public : _) (vs : List SemanticValue) → fits (takes (does.PushPublic public)) vs ≡ true → ValuesBelow e k vs → ProductParts e k (making (does.PushPublic public) vs).product × ValuesBelow e k (making (does.PushPublic public) vs).vals
  push_public-below public vs f h = (tt, h)

  pub push_sign-below : (op : _) (at : _) (vs : List SemanticValue) → fits (takes (does.PushSign op at)) vs ≡ true → ValuesBelow e k vs → ProductParts e k (making (does.PushSign op at) vs).product × ValuesBelow e k (making (does.PushSign op at) vs).vals
  push_sign-below op at vs f h = (tt, h)

  pub bare_path-below : (name : _) (vs : List SemanticValue) → fits (takes (does.BarePath name)) vs ≡ true → ValuesBelow e k vs → ProductParts e k (making (does.BarePath name) vs).product × ValuesBelow e k (making (does.BarePath name) vs).vals
  bare_path-below name vs f h = (tt, h)

  pub number_expr-below : (value : _) (at : _) (vs : List SemanticValue) → fits (takes (does.NumberExpr value at)) vs ≡ true → ValuesBelow e k vs → ProductParts e k (making (does.NumberExpr value at) vs).product × ValuesBelow e k (making (does.NumberExpr value at) vs).vals
  number_expr-below value at vs f h = (tt, h)

  pub own_status_expr-below : (name : _) (vs : List SemanticValue) → fits (takes (does.OwnStatusExpr name)) vs ≡ true → ValuesBelow e k vs → ProductParts e k (making (does.OwnStatusExpr name) vs).product × ValuesBelow e k (making (does.OwnStatusExpr name) vs).vals
  own_status_expr-below name vs f h = (tt, h)

  pub fine_expr-below : (at : _) (vs : List SemanticValue) → fits (takes (does.FineExpr at)) vs ≡ true → ValuesBelow e k vs → ProductParts e k (making (does.FineExpr at) vs).product × ValuesBelow e k (making (does.FineExpr at) vs).vals
  fine_expr-below at vs f h = (tt, h)

  pub truth_expr-below : (value : _) (at : _) (vs : List SemanticValue) → fits (takes (does.TruthExpr value at)) vs ≡ true → ValuesBelow e k vs → ProductParts e k (making (does.TruthExpr value at) vs).product × ValuesBelow e k (making (does.TruthExpr value at) vs).vals
  truth_expr-below value at vs f h = (tt, h)

  pub no_part-below : (vs : List SemanticValue) → fits (takes does.NoPart) vs ≡ true → ValuesBelow e k vs → ProductParts e k (making does.NoPart vs).product × ValuesBelow e k (making does.NoPart vs).vals
  no_part-below vs f h = (tt, h)

  pub start_givens-below : (vs : List SemanticValue) → fits (takes does.StartGivens) vs ≡ true → ValuesBelow e k vs → ProductParts e k (making does.StartGivens vs).product × ValuesBelow e k (making does.StartGivens vs).vals
  start_givens-below vs f h = (tt, h)

  pub start_type-below : (vs : List SemanticValue) → fits (takes does.StartType) vs ≡ true → ValuesBelow e k vs → ProductParts e k (making does.StartType vs).product × ValuesBelow e k (making does.StartType vs).vals
  start_type-below vs f h = (tt, h)

  pub no_bounds-below : (vs : List SemanticValue) → fits (takes does.NoBounds) vs ≡ true → ValuesBelow e k vs → ProductParts e k (making does.NoBounds vs).product × ValuesBelow e k (making does.NoBounds vs).vals
  no_bounds-below vs f h = (tt, h)

  pub start_items-below : (vs : List SemanticValue) → fits (takes does.StartItems) vs ≡ true → ValuesBelow e k vs → ProductParts e k (making does.StartItems vs).product × ValuesBelow e k (making does.StartItems vs).vals
  start_items-below vs f h = (tt, h)

  pub start_arms-below : (vs : List SemanticValue) → fits (takes does.StartArms) vs ≡ true → ValuesBelow e k vs → ProductParts e k (making does.StartArms vs).product × ValuesBelow e k (making does.StartArms vs).vals
  start_arms-below vs f h = (tt, h)

  pub no_else-below : (vs : List SemanticValue) → fits (takes does.NoElse) vs ≡ true → ValuesBelow e k vs → ProductParts e k (making does.NoElse vs).product × ValuesBelow e k (making does.NoElse vs).vals
  no_else-below vs f h = (tt, h)

  pub start_clauses-below : (vs : List SemanticValue) → fits (takes does.StartClauses) vs ≡ true → ValuesBelow e k vs → ProductParts e k (making does.StartClauses vs).product × ValuesBelow e k (making does.StartClauses vs).vals
  start_clauses-below vs f h = (tt, h)

  pub no_label-below : (vs : List SemanticValue) → fits (takes does.NoLabel) vs ≡ true → ValuesBelow e k vs → ProductParts e k (making does.NoLabel vs).product × ValuesBelow e k (making does.NoLabel vs).vals
  no_label-below vs f h = (tt, h)

  pub no_via-below : (vs : List SemanticValue) → fits (takes does.NoVia) vs ≡ true → ValuesBelow e k vs → ProductParts e k (making does.NoVia vs).product × ValuesBelow e k (making does.NoVia vs).vals
  no_via-below vs f h = (tt, h)

  pub start_fields-below : (vs : List SemanticValue) → fits (takes does.StartFields) vs ≡ true → ValuesBelow e k vs → ProductParts e k (making does.StartFields vs).product × ValuesBelow e k (making does.StartFields vs).vals
  start_fields-below vs f h = (tt, h)
