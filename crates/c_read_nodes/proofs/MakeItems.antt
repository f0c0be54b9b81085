-- That what is made of items is what the machine makes, and that what it names is there.
use Rattle.std.proofs.Common.{◌≡◌, true, ◌&&◌, if◌then◌else◌, None, Some, List, [], ◌∷◌, refl, ap, arith}
use Rattle.c_text.specs.CNodes.{Nodes, expr_of, field_tree, param_tree, local_tree}
use Rattle.c_read_grammar.specs.Values.{perform, some_fields, some_params, some_locals}
use Rattle.c_read_grammar.specs.declared.actions.Action.TheVariants as acts
use Rattle.c_read_grammar.specs.declared.actions.ItemAction.{ItemAction}
use Rattle.c_read_grammar.specs.declared.actions.ItemAction.TheVariants as does
use Rattle.c_read_nodes.specs.declared.values.SemanticValue.{SemanticValue}
use Rattle.c_read_nodes.specs.declared.values.SemanticValue.TheVariants as vals
use Rattle.c_read_nodes.specs.Making.{making}
use Rattle.c_read_nodes.specs.Seen.{seen_values, ValuesFit, ProductFits, made_with}
use Rattle.c_read_nodes.specs.Shapes.{fits, takes, meets, is_plain}
use Rattle.c_read_nodes.proofs.Pushed.{fields_push, params_push, locals_push, map-push}

module _ (nodes : Nodes) where
  pub start_fields-made : (vs : List SemanticValue) → (if fits (takes (acts.Item does.StartFields)) vs && meets nodes (acts.Item does.StartFields) vs then made_with nodes (making (acts.Item does.StartFields) vs).product (seen_values nodes (making (acts.Item does.StartFields) vs).vals) else []) ≡ perform (acts.Item does.StartFields) (seen_values nodes vs)
  start_fields-made vs = refl

  pub start_fields-fit : (vs : List SemanticValue) → fits (takes (acts.Item does.StartFields)) vs ≡ true → meets nodes (acts.Item does.StartFields) vs ≡ true → ValuesFit nodes vs → ProductFits nodes (making (acts.Item does.StartFields) vs).vals (making (acts.Item does.StartFields) vs).product × ValuesFit nodes (making (acts.Item does.StartFields) vs).vals
  start_fields-fit vs f c h = (tt, h)

  pub make_field-made : (vs : List SemanticValue) → (if fits (takes (acts.Item does.MakeField)) vs && meets nodes (acts.Item does.MakeField) vs then made_with nodes (making (acts.Item does.MakeField) vs).product (seen_values nodes (making (acts.Item does.MakeField) vs).vals) else []) ≡ perform (acts.Item does.MakeField) (seen_values nodes vs)
  make_field-made (vals.Name name ∷ vals.Type kind ∷ vs) = refl
  make_field-made (vals.Name _ ∷ []) = refl
  make_field-made (vals.Name _ ∷ v ∷ vs) = refl
  make_field-made [] = refl
  make_field-made (v ∷ vs) = refl

  pub make_field-fit : (vs : List SemanticValue) → fits (takes (acts.Item does.MakeField)) vs ≡ true → meets nodes (acts.Item does.MakeField) vs ≡ true → ValuesFit nodes vs → ProductFits nodes (making (acts.Item does.MakeField) vs).vals (making (acts.Item does.MakeField) vs).product × ValuesFit nodes (making (acts.Item does.MakeField) vs).vals
  make_field-fit (vals.Name name ∷ vals.Type kind ∷ vs) f c h = ((h.1.0, h.0, tt), h.1.1)
  make_field-fit (vals.Name _ ∷ []) f c h = absurd (cc f)
  make_field-fit (vals.Name _ ∷ v ∷ vs) f c h = absurd (cc f)
  make_field-fit [] f c h = absurd (cc f)
  make_field-fit (v ∷ vs) f c h = absurd (cc f)

  pub make_struct_field-made : (vs : List SemanticValue) → (if fits (takes (acts.Item does.MakeStructField)) vs && meets nodes (acts.Item does.MakeStructField) vs then made_with nodes (making (acts.Item does.MakeStructField) vs).product (seen_values nodes (making (acts.Item does.MakeStructField) vs).vals) else []) ≡ perform (acts.Item does.MakeStructField) (seen_values nodes vs)
  make_struct_field-made (vals.Name name ∷ vals.Name of ∷ vs) = refl
  make_struct_field-made (vals.Name _ ∷ []) = refl
  make_struct_field-made (vals.Name _ ∷ v ∷ vs) = refl
  make_struct_field-made [] = refl
  make_struct_field-made (v ∷ vs) = refl

  pub make_struct_field-fit : (vs : List SemanticValue) → fits (takes (acts.Item does.MakeStructField)) vs ≡ true → meets nodes (acts.Item does.MakeStructField) vs ≡ true → ValuesFit nodes vs → ProductFits nodes (making (acts.Item does.MakeStructField) vs).vals (making (acts.Item does.MakeStructField) vs).product × ValuesFit nodes (making (acts.Item does.MakeStructField) vs).vals
  make_struct_field-fit (vals.Name name ∷ vals.Name of ∷ vs) f c h = ((h.1.0, h.0, tt), h.1.1)
  make_struct_field-fit (vals.Name _ ∷ []) f c h = absurd (cc f)
  make_struct_field-fit (vals.Name _ ∷ v ∷ vs) f c h = absurd (cc f)
  make_struct_field-fit [] f c h = absurd (cc f)
  make_struct_field-fit (v ∷ vs) f c h = absurd (cc f)

  pub set_count-made : (vs : List SemanticValue) → (if fits (takes (acts.Item does.SetCount)) vs && meets nodes (acts.Item does.SetCount) vs then made_with nodes (making (acts.Item does.SetCount) vs).product (seen_values nodes (making (acts.Item does.SetCount) vs).vals) else []) ≡ perform (acts.Item does.SetCount) (seen_values nodes vs)
  set_count-made (vals.Number count ∷ vals.Field field ∷ vs) = refl
  set_count-made (vals.Number _ ∷ []) = refl
  set_count-made (vals.Number _ ∷ v ∷ vs) = refl
  set_count-made [] = refl
  set_count-made (v ∷ vs) = refl

  pub set_count-fit : (vs : List SemanticValue) → fits (takes (acts.Item does.SetCount)) vs ≡ true → meets nodes (acts.Item does.SetCount) vs ≡ true → ValuesFit nodes vs → ProductFits nodes (making (acts.Item does.SetCount) vs).vals (making (acts.Item does.SetCount) vs).product × ValuesFit nodes (making (acts.Item does.SetCount) vs).vals
  set_count-fit (vals.Number count ∷ vals.Field field ∷ vs) f c h = ((h.1.0.0, h.1.0.1, h.0), h.1.1)
  set_count-fit (vals.Number _ ∷ []) f c h = absurd (cc f)
  set_count-fit (vals.Number _ ∷ v ∷ vs) f c h = absurd (cc f)
  set_count-fit [] f c h = absurd (cc f)
  set_count-fit (v ∷ vs) f c h = absurd (cc f)

  pub add_field-made : (vs : List SemanticValue) → (if fits (takes (acts.Item does.AddField)) vs && meets nodes (acts.Item does.AddField) vs then made_with nodes (making (acts.Item does.AddField) vs).product (seen_values nodes (making (acts.Item does.AddField) vs).vals) else []) ≡ perform (acts.Item does.AddField) (seen_values nodes vs)
  add_field-made (vals.Field field ∷ vals.Fields fields ∷ vs) = ap (λ x. some_fields x ∷ seen_values nodes vs) (map-push (field_tree nodes.names) fields field)
  add_field-made (vals.Field _ ∷ []) = refl
  add_field-made (vals.Field _ ∷ v ∷ vs) = refl
  add_field-made [] = refl
  add_field-made (v ∷ vs) = refl

  pub add_field-fit : (vs : List SemanticValue) → fits (takes (acts.Item does.AddField)) vs ≡ true → meets nodes (acts.Item does.AddField) vs ≡ true → ValuesFit nodes vs → ProductFits nodes (making (acts.Item does.AddField) vs).vals (making (acts.Item does.AddField) vs).product × ValuesFit nodes (making (acts.Item does.AddField) vs).vals
  add_field-fit (vals.Field field ∷ vals.Fields fields ∷ vs) f c h = (fields_push nodes fields field h.1.0 h.0, h.1.1)
  add_field-fit (vals.Field _ ∷ []) f c h = absurd (cc f)
  add_field-fit (vals.Field _ ∷ v ∷ vs) f c h = absurd (cc f)
  add_field-fit [] f c h = absurd (cc f)
  add_field-fit (v ∷ vs) f c h = absurd (cc f)

  pub make_struct-made : (vs : List SemanticValue) → (if fits (takes (acts.Item does.MakeStruct)) vs && meets nodes (acts.Item does.MakeStruct) vs then made_with nodes (making (acts.Item does.MakeStruct) vs).product (seen_values nodes (making (acts.Item does.MakeStruct) vs).vals) else []) ≡ perform (acts.Item does.MakeStruct) (seen_values nodes vs)
  make_struct-made (vals.Name name ∷ vals.Fields (first ∷ others) ∷ vals.Unit ∷ vs) = refl
  make_struct-made (vals.Name name ∷ vals.Fields [] ∷ []) = refl
  make_struct-made (vals.Name name ∷ vals.Fields [] ∷ vals.Unit ∷ vs) = refl
  make_struct-made (vals.Name name ∷ vals.Fields [] ∷ v ∷ vs) = refl
  make_struct-made (vals.Name _ ∷ vals.Fields (_ ∷ _) ∷ []) = refl
  make_struct-made (vals.Name _ ∷ vals.Fields (_ ∷ _) ∷ v ∷ vs) = refl
  make_struct-made (vals.Name _ ∷ []) = refl
  make_struct-made (vals.Name _ ∷ v ∷ vs) = refl
  make_struct-made [] = refl
  make_struct-made (v ∷ vs) = refl

  pub make_struct-fit : (vs : List SemanticValue) → fits (takes (acts.Item does.MakeStruct)) vs ≡ true → meets nodes (acts.Item does.MakeStruct) vs ≡ true → ValuesFit nodes vs → ProductFits nodes (making (acts.Item does.MakeStruct) vs).vals (making (acts.Item does.MakeStruct) vs).product × ValuesFit nodes (making (acts.Item does.MakeStruct) vs).vals
  make_struct-fit (vals.Name name ∷ vals.Fields (first ∷ others) ∷ vals.Unit ∷ vs) f c h = (((omega arith, h.1.0, h.0), h.1.1.0), h.1.1.1)
  make_struct-fit (vals.Name _ ∷ vals.Fields (_ ∷ _) ∷ []) f c h = absurd (cc f)
  make_struct-fit (vals.Name _ ∷ vals.Fields (_ ∷ _) ∷ v ∷ vs) f c h = absurd (cc f)
  make_struct-fit (vals.Name _ ∷ []) f c h = absurd (cc f)
  make_struct-fit (vals.Name _ ∷ v ∷ vs) f c h = absurd (cc f)
  make_struct-fit [] f c h = absurd (cc f)
  make_struct-fit (v ∷ vs) f c h = absurd (cc f)

  pub make_text_item-made : (vs : List SemanticValue) → (if fits (takes (acts.Item does.MakeTextItem)) vs && meets nodes (acts.Item does.MakeTextItem) vs then made_with nodes (making (acts.Item does.MakeTextItem) vs).product (seen_values nodes (making (acts.Item does.MakeTextItem) vs).vals) else []) ≡ perform (acts.Item does.MakeTextItem) (seen_values nodes vs)
  make_text_item-made (vals.Text text ∷ vals.Name name ∷ vals.Unit ∷ vs) = refl
  make_text_item-made (vals.Text _ ∷ vals.Name _ ∷ []) = refl
  make_text_item-made (vals.Text _ ∷ vals.Name _ ∷ v ∷ vs) = refl
  make_text_item-made (vals.Text _ ∷ []) = refl
  make_text_item-made (vals.Text _ ∷ v ∷ vs) = refl
  make_text_item-made [] = refl
  make_text_item-made (v ∷ vs) = refl

  pub make_text_item-fit : (vs : List SemanticValue) → fits (takes (acts.Item does.MakeTextItem)) vs ≡ true → meets nodes (acts.Item does.MakeTextItem) vs ≡ true → ValuesFit nodes vs → ProductFits nodes (making (acts.Item does.MakeTextItem) vs).vals (making (acts.Item does.MakeTextItem) vs).product × ValuesFit nodes (making (acts.Item does.MakeTextItem) vs).vals
  make_text_item-fit (vals.Text text ∷ vals.Name name ∷ vals.Unit ∷ vs) f c h = (((h.1.0, h.0), h.1.1.0), h.1.1.1)
  make_text_item-fit (vals.Text _ ∷ vals.Name _ ∷ []) f c h = absurd (cc f)
  make_text_item-fit (vals.Text _ ∷ vals.Name _ ∷ v ∷ vs) f c h = absurd (cc f)
  make_text_item-fit (vals.Text _ ∷ []) f c h = absurd (cc f)
  make_text_item-fit (vals.Text _ ∷ v ∷ vs) f c h = absurd (cc f)
  make_text_item-fit [] f c h = absurd (cc f)
  make_text_item-fit (v ∷ vs) f c h = absurd (cc f)

  pub make_result-made : (linkage : _) (vs : List SemanticValue) → (if fits (takes (acts.Item (does.MakeResult linkage))) vs && meets nodes (acts.Item (does.MakeResult linkage)) vs then made_with nodes (making (acts.Item (does.MakeResult linkage)) vs).product (seen_values nodes (making (acts.Item (does.MakeResult linkage)) vs).vals) else []) ≡ perform (acts.Item (does.MakeResult linkage)) (seen_values nodes vs)
  make_result-made linkage (vals.Type kind ∷ vs) = refl
  make_result-made linkage [] = refl
  make_result-made linkage (v ∷ vs) = refl

  pub make_result-fit : (linkage : _) (vs : List SemanticValue) → fits (takes (acts.Item (does.MakeResult linkage))) vs ≡ true → meets nodes (acts.Item (does.MakeResult linkage)) vs ≡ true → ValuesFit nodes vs → ProductFits nodes (making (acts.Item (does.MakeResult linkage)) vs).vals (making (acts.Item (does.MakeResult linkage)) vs).product × ValuesFit nodes (making (acts.Item (does.MakeResult linkage)) vs).vals
  make_result-fit linkage (vals.Type kind ∷ vs) f c h = (h.0, h.1)
  make_result-fit linkage [] f c h = absurd (cc f)
  make_result-fit linkage (v ∷ vs) f c h = absurd (cc f)

  pub make_void-made : (linkage : _) (vs : List SemanticValue) → (if fits (takes (acts.Item (does.MakeVoid linkage))) vs && meets nodes (acts.Item (does.MakeVoid linkage)) vs then made_with nodes (making (acts.Item (does.MakeVoid linkage)) vs).product (seen_values nodes (making (acts.Item (does.MakeVoid linkage)) vs).vals) else []) ≡ perform (acts.Item (does.MakeVoid linkage)) (seen_values nodes vs)
  make_void-made linkage vs = refl

  pub make_void-fit : (linkage : _) (vs : List SemanticValue) → fits (takes (acts.Item (does.MakeVoid linkage))) vs ≡ true → meets nodes (acts.Item (does.MakeVoid linkage)) vs ≡ true → ValuesFit nodes vs → ProductFits nodes (making (acts.Item (does.MakeVoid linkage)) vs).vals (making (acts.Item (does.MakeVoid linkage)) vs).product × ValuesFit nodes (making (acts.Item (does.MakeVoid linkage)) vs).vals
  make_void-fit linkage vs f c h = (tt, h)

  pub start_params-made : (vs : List SemanticValue) → (if fits (takes (acts.Item does.StartParams)) vs && meets nodes (acts.Item does.StartParams) vs then made_with nodes (making (acts.Item does.StartParams) vs).product (seen_values nodes (making (acts.Item does.StartParams) vs).vals) else []) ≡ perform (acts.Item does.StartParams) (seen_values nodes vs)
  start_params-made vs = refl

  pub start_params-fit : (vs : List SemanticValue) → fits (takes (acts.Item does.StartParams)) vs ≡ true → meets nodes (acts.Item does.StartParams) vs ≡ true → ValuesFit nodes vs → ProductFits nodes (making (acts.Item does.StartParams) vs).vals (making (acts.Item does.StartParams) vs).product × ValuesFit nodes (making (acts.Item does.StartParams) vs).vals
  start_params-fit vs f c h = (tt, h)

  pub add_param-made : (vs : List SemanticValue) → (if fits (takes (acts.Item does.AddParam)) vs && meets nodes (acts.Item does.AddParam) vs then made_with nodes (making (acts.Item does.AddParam) vs).product (seen_values nodes (making (acts.Item does.AddParam) vs).vals) else []) ≡ perform (acts.Item does.AddParam) (seen_values nodes vs)
  add_param-made (vals.Name name ∷ vals.Type kind ∷ vals.Params params ∷ vs) = ap (λ x. some_params x ∷ seen_values nodes vs) (map-push (param_tree nodes.names) params (record { kind = kind; name = name }))
  add_param-made (vals.Name _ ∷ vals.Type _ ∷ []) = refl
  add_param-made (vals.Name _ ∷ vals.Type _ ∷ v ∷ vs) = refl
  add_param-made (vals.Name _ ∷ []) = refl
  add_param-made (vals.Name _ ∷ v ∷ vs) = refl
  add_param-made [] = refl
  add_param-made (v ∷ vs) = refl

  pub add_param-fit : (vs : List SemanticValue) → fits (takes (acts.Item does.AddParam)) vs ≡ true → meets nodes (acts.Item does.AddParam) vs ≡ true → ValuesFit nodes vs → ProductFits nodes (making (acts.Item does.AddParam) vs).vals (making (acts.Item does.AddParam) vs).product × ValuesFit nodes (making (acts.Item does.AddParam) vs).vals
  add_param-fit (vals.Name name ∷ vals.Type kind ∷ vals.Params params ∷ vs) f c h = (params_push nodes params (record { kind = kind; name = name }) h.1.1.0 (h.1.0, h.0), h.1.1.1)
  add_param-fit (vals.Name _ ∷ vals.Type _ ∷ []) f c h = absurd (cc f)
  add_param-fit (vals.Name _ ∷ vals.Type _ ∷ v ∷ vs) f c h = absurd (cc f)
  add_param-fit (vals.Name _ ∷ []) f c h = absurd (cc f)
  add_param-fit (vals.Name _ ∷ v ∷ vs) f c h = absurd (cc f)
  add_param-fit [] f c h = absurd (cc f)
  add_param-fit (v ∷ vs) f c h = absurd (cc f)

  pub start_locals-made : (vs : List SemanticValue) → (if fits (takes (acts.Item does.StartLocals)) vs && meets nodes (acts.Item does.StartLocals) vs then made_with nodes (making (acts.Item does.StartLocals) vs).product (seen_values nodes (making (acts.Item does.StartLocals) vs).vals) else []) ≡ perform (acts.Item does.StartLocals) (seen_values nodes vs)
  start_locals-made vs = refl

  pub start_locals-fit : (vs : List SemanticValue) → fits (takes (acts.Item does.StartLocals)) vs ≡ true → meets nodes (acts.Item does.StartLocals) vs ≡ true → ValuesFit nodes vs → ProductFits nodes (making (acts.Item does.StartLocals) vs).vals (making (acts.Item does.StartLocals) vs).product × ValuesFit nodes (making (acts.Item does.StartLocals) vs).vals
  start_locals-fit vs f c h = (tt, h)

  pub add_local-made : (vs : List SemanticValue) → (if fits (takes (acts.Item does.AddLocal)) vs && meets nodes (acts.Item does.AddLocal) vs then made_with nodes (making (acts.Item does.AddLocal) vs).product (seen_values nodes (making (acts.Item does.AddLocal) vs).vals) else []) ≡ perform (acts.Item does.AddLocal) (seen_values nodes vs)
  add_local-made (vals.Name name ∷ vals.Type kind ∷ vals.Locals locals ∷ vs) = ap (λ x. some_locals x ∷ seen_values nodes vs) (map-push (local_tree nodes.names (expr_of nodes)) locals (record { kind = kind; name = name; initial = None }))
  add_local-made (vals.Name _ ∷ vals.Type _ ∷ []) = refl
  add_local-made (vals.Name _ ∷ vals.Type _ ∷ v ∷ vs) = refl
  add_local-made (vals.Name _ ∷ []) = refl
  add_local-made (vals.Name _ ∷ v ∷ vs) = refl
  add_local-made [] = refl
  add_local-made (v ∷ vs) = refl

  pub add_local-fit : (vs : List SemanticValue) → fits (takes (acts.Item does.AddLocal)) vs ≡ true → meets nodes (acts.Item does.AddLocal) vs ≡ true → ValuesFit nodes vs → ProductFits nodes (making (acts.Item does.AddLocal) vs).vals (making (acts.Item does.AddLocal) vs).product × ValuesFit nodes (making (acts.Item does.AddLocal) vs).vals
  add_local-fit (vals.Name name ∷ vals.Type kind ∷ vals.Locals locals ∷ vs) f c h = (locals_push nodes locals (record { kind = kind; name = name; initial = None }) h.1.1.0 (h.1.0, h.0, tt), h.1.1.1)
  add_local-fit (vals.Name _ ∷ vals.Type _ ∷ []) f c h = absurd (cc f)
  add_local-fit (vals.Name _ ∷ vals.Type _ ∷ v ∷ vs) f c h = absurd (cc f)
  add_local-fit (vals.Name _ ∷ []) f c h = absurd (cc f)
  add_local-fit (vals.Name _ ∷ v ∷ vs) f c h = absurd (cc f)
  add_local-fit [] f c h = absurd (cc f)
  add_local-fit (v ∷ vs) f c h = absurd (cc f)

  pub add_initial_local-made : (vs : List SemanticValue) → (if fits (takes (acts.Item does.AddInitialLocal)) vs && meets nodes (acts.Item does.AddInitialLocal) vs then made_with nodes (making (acts.Item does.AddInitialLocal) vs).product (seen_values nodes (making (acts.Item does.AddInitialLocal) vs).vals) else []) ≡ perform (acts.Item does.AddInitialLocal) (seen_values nodes vs)
  add_initial_local-made (vals.Expr initial ∷ vals.Name name ∷ vals.Type kind ∷ vals.Locals locals ∷ vs) = ap (λ x. some_locals x ∷ seen_values nodes vs) (map-push (local_tree nodes.names (expr_of nodes)) locals (record { kind = kind; name = name; initial = Some initial }))
  add_initial_local-made (vals.Expr _ ∷ vals.Name _ ∷ vals.Type _ ∷ []) = refl
  add_initial_local-made (vals.Expr _ ∷ vals.Name _ ∷ vals.Type _ ∷ v ∷ vs) = refl
  add_initial_local-made (vals.Expr _ ∷ vals.Name _ ∷ []) = refl
  add_initial_local-made (vals.Expr _ ∷ vals.Name _ ∷ v ∷ vs) = refl
  add_initial_local-made (vals.Expr _ ∷ []) = refl
  add_initial_local-made (vals.Expr _ ∷ v ∷ vs) = refl
  add_initial_local-made [] = refl
  add_initial_local-made (v ∷ vs) = refl

  pub add_initial_local-fit : (vs : List SemanticValue) → fits (takes (acts.Item does.AddInitialLocal)) vs ≡ true → meets nodes (acts.Item does.AddInitialLocal) vs ≡ true → ValuesFit nodes vs → ProductFits nodes (making (acts.Item does.AddInitialLocal) vs).vals (making (acts.Item does.AddInitialLocal) vs).product × ValuesFit nodes (making (acts.Item does.AddInitialLocal) vs).vals
  add_initial_local-fit (vals.Expr initial ∷ vals.Name name ∷ vals.Type kind ∷ vals.Locals locals ∷ vs) f c h = (locals_push nodes locals (record { kind = kind; name = name; initial = Some initial }) h.1.1.1.0 (h.1.1.0, h.1.0, h.0), h.1.1.1.1)
  add_initial_local-fit (vals.Expr _ ∷ vals.Name _ ∷ vals.Type _ ∷ []) f c h = absurd (cc f)
  add_initial_local-fit (vals.Expr _ ∷ vals.Name _ ∷ vals.Type _ ∷ v ∷ vs) f c h = absurd (cc f)
  add_initial_local-fit (vals.Expr _ ∷ vals.Name _ ∷ []) f c h = absurd (cc f)
  add_initial_local-fit (vals.Expr _ ∷ vals.Name _ ∷ v ∷ vs) f c h = absurd (cc f)
  add_initial_local-fit (vals.Expr _ ∷ []) f c h = absurd (cc f)
  add_initial_local-fit (vals.Expr _ ∷ v ∷ vs) f c h = absurd (cc f)
  add_initial_local-fit [] f c h = absurd (cc f)
  add_initial_local-fit (v ∷ vs) f c h = absurd (cc f)

  pub make_function-made : (vs : List SemanticValue) → (if fits (takes (acts.Item does.MakeFunction)) vs && meets nodes (acts.Item does.MakeFunction) vs then made_with nodes (making (acts.Item does.MakeFunction) vs).product (seen_values nodes (making (acts.Item does.MakeFunction) vs).vals) else []) ≡ perform (acts.Item does.MakeFunction) (seen_values nodes vs)
  make_function-made (vals.Code body ∷ vals.Locals locals ∷ vals.Params params ∷ vals.Name name ∷ vals.Outcome outcome ∷ vals.Unit ∷ vs) = refl
  make_function-made (vals.Code _ ∷ vals.Locals _ ∷ vals.Params _ ∷ vals.Name _ ∷ vals.Outcome _ ∷ []) = refl
  make_function-made (vals.Code _ ∷ vals.Locals _ ∷ vals.Params _ ∷ vals.Name _ ∷ vals.Outcome _ ∷ v ∷ vs) = refl
  make_function-made (vals.Code _ ∷ vals.Locals _ ∷ vals.Params _ ∷ vals.Name _ ∷ []) = refl
  make_function-made (vals.Code _ ∷ vals.Locals _ ∷ vals.Params _ ∷ vals.Name _ ∷ v ∷ vs) = refl
  make_function-made (vals.Code _ ∷ vals.Locals _ ∷ vals.Params _ ∷ []) = refl
  make_function-made (vals.Code _ ∷ vals.Locals _ ∷ vals.Params _ ∷ v ∷ vs) = refl
  make_function-made (vals.Code _ ∷ vals.Locals _ ∷ []) = refl
  make_function-made (vals.Code _ ∷ vals.Locals _ ∷ v ∷ vs) = refl
  make_function-made (vals.Code _ ∷ []) = refl
  make_function-made (vals.Code _ ∷ v ∷ vs) = refl
  make_function-made [] = refl
  make_function-made (v ∷ vs) = refl

  pub make_function-fit : (vs : List SemanticValue) → fits (takes (acts.Item does.MakeFunction)) vs ≡ true → meets nodes (acts.Item does.MakeFunction) vs ≡ true → ValuesFit nodes vs → ProductFits nodes (making (acts.Item does.MakeFunction) vs).vals (making (acts.Item does.MakeFunction) vs).product × ValuesFit nodes (making (acts.Item does.MakeFunction) vs).vals
  make_function-fit (vals.Code body ∷ vals.Locals locals ∷ vals.Params params ∷ vals.Name name ∷ vals.Outcome outcome ∷ vals.Unit ∷ vs) f c h = (((h.1.1.1.1.0, h.1.1.1.0, h.1.1.0, h.1.0, h.0), h.1.1.1.1.1.0), h.1.1.1.1.1.1)
  make_function-fit (vals.Code _ ∷ vals.Locals _ ∷ vals.Params _ ∷ vals.Name _ ∷ vals.Outcome _ ∷ []) f c h = absurd (cc f)
  make_function-fit (vals.Code _ ∷ vals.Locals _ ∷ vals.Params _ ∷ vals.Name _ ∷ vals.Outcome _ ∷ v ∷ vs) f c h = absurd (cc f)
  make_function-fit (vals.Code _ ∷ vals.Locals _ ∷ vals.Params _ ∷ vals.Name _ ∷ []) f c h = absurd (cc f)
  make_function-fit (vals.Code _ ∷ vals.Locals _ ∷ vals.Params _ ∷ vals.Name _ ∷ v ∷ vs) f c h = absurd (cc f)
  make_function-fit (vals.Code _ ∷ vals.Locals _ ∷ vals.Params _ ∷ []) f c h = absurd (cc f)
  make_function-fit (vals.Code _ ∷ vals.Locals _ ∷ vals.Params _ ∷ v ∷ vs) f c h = absurd (cc f)
  make_function-fit (vals.Code _ ∷ vals.Locals _ ∷ []) f c h = absurd (cc f)
  make_function-fit (vals.Code _ ∷ vals.Locals _ ∷ v ∷ vs) f c h = absurd (cc f)
  make_function-fit (vals.Code _ ∷ []) f c h = absurd (cc f)
  make_function-fit (vals.Code _ ∷ v ∷ vs) f c h = absurd (cc f)
  make_function-fit [] f c h = absurd (cc f)
  make_function-fit (v ∷ vs) f c h = absurd (cc f)

  pub item-made : (a : ItemAction) (vs : List SemanticValue) → is_plain (acts.Item a) ≡ true → (if fits (takes (acts.Item a)) vs && meets nodes (acts.Item a) vs then made_with nodes (making (acts.Item a) vs).product (seen_values nodes (making (acts.Item a) vs).vals) else []) ≡ perform (acts.Item a) (seen_values nodes vs)
  item-made does.StartFields vs p = start_fields-made vs
  item-made does.MakeField vs p = make_field-made vs
  item-made does.MakeStructField vs p = make_struct_field-made vs
  item-made does.SetCount vs p = set_count-made vs
  item-made does.AddField vs p = add_field-made vs
  item-made does.MakeStruct vs p = make_struct-made vs
  item-made does.MakeTextItem vs p = make_text_item-made vs
  item-made (does.MakeResult linkage) vs p = make_result-made linkage vs
  item-made (does.MakeVoid linkage) vs p = make_void-made linkage vs
  item-made does.StartParams vs p = start_params-made vs
  item-made does.AddParam vs p = add_param-made vs
  item-made does.StartLocals vs p = start_locals-made vs
  item-made does.AddLocal vs p = add_local-made vs
  item-made does.AddInitialLocal vs p = add_initial_local-made vs
  item-made does.MakeFunction vs p = make_function-made vs

  pub item-fit : (a : ItemAction) (vs : List SemanticValue) → is_plain (acts.Item a) ≡ true → fits (takes (acts.Item a)) vs ≡ true → meets nodes (acts.Item a) vs ≡ true → ValuesFit nodes vs → ProductFits nodes (making (acts.Item a) vs).vals (making (acts.Item a) vs).product × ValuesFit nodes (making (acts.Item a) vs).vals
  item-fit does.StartFields vs p f c h = start_fields-fit vs f c h
  item-fit does.MakeField vs p f c h = make_field-fit vs f c h
  item-fit does.MakeStructField vs p f c h = make_struct_field-fit vs f c h
  item-fit does.SetCount vs p f c h = set_count-fit vs f c h
  item-fit does.AddField vs p f c h = add_field-fit vs f c h
  item-fit does.MakeStruct vs p f c h = make_struct-fit vs f c h
  item-fit does.MakeTextItem vs p f c h = make_text_item-fit vs f c h
  item-fit (does.MakeResult linkage) vs p f c h = make_result-fit linkage vs f c h
  item-fit (does.MakeVoid linkage) vs p f c h = make_void-fit linkage vs f c h
  item-fit does.StartParams vs p f c h = start_params-fit vs f c h
  item-fit does.AddParam vs p f c h = add_param-fit vs f c h
  item-fit does.StartLocals vs p f c h = start_locals-fit vs f c h
  item-fit does.AddLocal vs p f c h = add_local-fit vs f c h
  item-fit does.AddInitialLocal vs p f c h = add_initial_local-fit vs f c h
  item-fit does.MakeFunction vs p f c h = make_function-fit vs f c h
