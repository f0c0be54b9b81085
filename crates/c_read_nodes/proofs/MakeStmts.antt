-- That what is made of statements is what the machine makes, and that what it names is there.
use Rattle.std.proofs.Common.{◌≡◌, true, ◌&&◌, if◌then◌else◌, List, [], ◌∷◌, refl}
use Rattle.c_text.specs.CGrammar.{is_lvalue}
use Rattle.c_text.specs.CNodes.{Nodes, expr_of}
use Rattle.c_read_grammar.specs.Values.{perform}
use Rattle.c_read_grammar.specs.declared.actions.Action.TheVariants as acts
use Rattle.c_read_grammar.specs.declared.actions.StmtAction.{StmtAction}
use Rattle.c_read_grammar.specs.declared.actions.StmtAction.TheVariants as does
use Rattle.c_read_nodes.specs.declared.values.SemanticValue.{SemanticValue}
use Rattle.c_read_nodes.specs.declared.values.SemanticValue.TheVariants as vals
use Rattle.c_read_nodes.specs.Making.{making}
use Rattle.c_read_nodes.specs.Seen.{seen_values, ValuesFit, ProductFits, made_with}
use Rattle.c_read_nodes.specs.Shapes.{fits, takes, meets, is_plain}
use Rattle.c_read_nodes.proofs.Pushed.{picked}

module _ (nodes : Nodes) where
  pub start_block-made : (vs : List SemanticValue) → (if fits (takes (acts.Stmt does.StartBlock)) vs && meets nodes (acts.Stmt does.StartBlock) vs then made_with nodes (making (acts.Stmt does.StartBlock) vs).product (seen_values nodes (making (acts.Stmt does.StartBlock) vs).vals) else []) ≡ perform (acts.Stmt does.StartBlock) (seen_values nodes vs)
  start_block-made vs = refl

  pub start_block-fit : (vs : List SemanticValue) → fits (takes (acts.Stmt does.StartBlock)) vs ≡ true → meets nodes (acts.Stmt does.StartBlock) vs ≡ true → ValuesFit nodes vs → ProductFits nodes (making (acts.Stmt does.StartBlock) vs).vals (making (acts.Stmt does.StartBlock) vs).product × ValuesFit nodes (making (acts.Stmt does.StartBlock) vs).vals
  start_block-fit vs f c h = (tt, h)

  pub make_nested-made : (vs : List SemanticValue) → (if fits (takes (acts.Stmt does.MakeNested)) vs && meets nodes (acts.Stmt does.MakeNested) vs then made_with nodes (making (acts.Stmt does.MakeNested) vs).product (seen_values nodes (making (acts.Stmt does.MakeNested) vs).vals) else []) ≡ perform (acts.Stmt does.MakeNested) (seen_values nodes vs)
  make_nested-made (vals.Code inner ∷ vs) = refl
  make_nested-made [] = refl
  make_nested-made (v ∷ vs) = refl

  pub make_nested-fit : (vs : List SemanticValue) → fits (takes (acts.Stmt does.MakeNested)) vs ≡ true → meets nodes (acts.Stmt does.MakeNested) vs ≡ true → ValuesFit nodes vs → ProductFits nodes (making (acts.Stmt does.MakeNested) vs).vals (making (acts.Stmt does.MakeNested) vs).product × ValuesFit nodes (making (acts.Stmt does.MakeNested) vs).vals
  make_nested-fit (vals.Code inner ∷ vs) f c h = (h.0, h.1)
  make_nested-fit [] f c h = absurd (cc f)
  make_nested-fit (v ∷ vs) f c h = absurd (cc f)

  pub make_empty-made : (vs : List SemanticValue) → (if fits (takes (acts.Stmt does.MakeEmpty)) vs && meets nodes (acts.Stmt does.MakeEmpty) vs then made_with nodes (making (acts.Stmt does.MakeEmpty) vs).product (seen_values nodes (making (acts.Stmt does.MakeEmpty) vs).vals) else []) ≡ perform (acts.Stmt does.MakeEmpty) (seen_values nodes vs)
  make_empty-made vs = refl

  pub make_empty-fit : (vs : List SemanticValue) → fits (takes (acts.Stmt does.MakeEmpty)) vs ≡ true → meets nodes (acts.Stmt does.MakeEmpty) vs ≡ true → ValuesFit nodes vs → ProductFits nodes (making (acts.Stmt does.MakeEmpty) vs).vals (making (acts.Stmt does.MakeEmpty) vs).product × ValuesFit nodes (making (acts.Stmt does.MakeEmpty) vs).vals
  make_empty-fit vs f c h = (tt, h)

  pub make_assign-made : (vs : List SemanticValue) → (if fits (takes (acts.Stmt does.MakeAssign)) vs && meets nodes (acts.Stmt does.MakeAssign) vs then made_with nodes (making (acts.Stmt does.MakeAssign) vs).product (seen_values nodes (making (acts.Stmt does.MakeAssign) vs).vals) else []) ≡ perform (acts.Stmt does.MakeAssign) (seen_values nodes vs)
  make_assign-made (vals.Expr value ∷ vals.Expr target ∷ vs) = picked (is_lvalue (expr_of nodes target.0)) _ _
  make_assign-made (vals.Expr _ ∷ []) = refl
  make_assign-made (vals.Expr _ ∷ v ∷ vs) = refl
  make_assign-made [] = refl
  make_assign-made (v ∷ vs) = refl

  pub make_assign-fit : (vs : List SemanticValue) → fits (takes (acts.Stmt does.MakeAssign)) vs ≡ true → meets nodes (acts.Stmt does.MakeAssign) vs ≡ true → ValuesFit nodes vs → ProductFits nodes (making (acts.Stmt does.MakeAssign) vs).vals (making (acts.Stmt does.MakeAssign) vs).product × ValuesFit nodes (making (acts.Stmt does.MakeAssign) vs).vals
  make_assign-fit (vals.Expr value ∷ vals.Expr target ∷ vs) f c h = (((h.1.0, c), h.0), h.1.1)
  make_assign-fit (vals.Expr _ ∷ []) f c h = absurd (cc f)
  make_assign-fit (vals.Expr _ ∷ v ∷ vs) f c h = absurd (cc f)
  make_assign-fit [] f c h = absurd (cc f)
  make_assign-fit (v ∷ vs) f c h = absurd (cc f)

  pub make_call-made : (vs : List SemanticValue) → (if fits (takes (acts.Stmt does.MakeCall)) vs && meets nodes (acts.Stmt does.MakeCall) vs then made_with nodes (making (acts.Stmt does.MakeCall) vs).product (seen_values nodes (making (acts.Stmt does.MakeCall) vs).vals) else []) ≡ perform (acts.Stmt does.MakeCall) (seen_values nodes vs)
  make_call-made (vals.Args args ∷ vals.Name function ∷ vs) = refl
  make_call-made (vals.Args _ ∷ []) = refl
  make_call-made (vals.Args _ ∷ v ∷ vs) = refl
  make_call-made [] = refl
  make_call-made (v ∷ vs) = refl

  pub make_call-fit : (vs : List SemanticValue) → fits (takes (acts.Stmt does.MakeCall)) vs ≡ true → meets nodes (acts.Stmt does.MakeCall) vs ≡ true → ValuesFit nodes vs → ProductFits nodes (making (acts.Stmt does.MakeCall) vs).vals (making (acts.Stmt does.MakeCall) vs).product × ValuesFit nodes (making (acts.Stmt does.MakeCall) vs).vals
  make_call-fit (vals.Args args ∷ vals.Name function ∷ vs) f c h = ((tt, (h.1.0, h.0)), h.1.1)
  make_call-fit (vals.Args _ ∷ []) f c h = absurd (cc f)
  make_call-fit (vals.Args _ ∷ v ∷ vs) f c h = absurd (cc f)
  make_call-fit [] f c h = absurd (cc f)
  make_call-fit (v ∷ vs) f c h = absurd (cc f)

  pub make_call_into-made : (vs : List SemanticValue) → (if fits (takes (acts.Stmt does.MakeCallInto)) vs && meets nodes (acts.Stmt does.MakeCallInto) vs then made_with nodes (making (acts.Stmt does.MakeCallInto) vs).product (seen_values nodes (making (acts.Stmt does.MakeCallInto) vs).vals) else []) ≡ perform (acts.Stmt does.MakeCallInto) (seen_values nodes vs)
  make_call_into-made (vals.Args args ∷ vals.Name function ∷ vals.Expr target ∷ vs) = picked (is_lvalue (expr_of nodes target.0)) _ _
  make_call_into-made (vals.Args _ ∷ vals.Name _ ∷ []) = refl
  make_call_into-made (vals.Args _ ∷ vals.Name _ ∷ v ∷ vs) = refl
  make_call_into-made (vals.Args _ ∷ []) = refl
  make_call_into-made (vals.Args _ ∷ v ∷ vs) = refl
  make_call_into-made [] = refl
  make_call_into-made (v ∷ vs) = refl

  pub make_call_into-fit : (vs : List SemanticValue) → fits (takes (acts.Stmt does.MakeCallInto)) vs ≡ true → meets nodes (acts.Stmt does.MakeCallInto) vs ≡ true → ValuesFit nodes vs → ProductFits nodes (making (acts.Stmt does.MakeCallInto) vs).vals (making (acts.Stmt does.MakeCallInto) vs).product × ValuesFit nodes (making (acts.Stmt does.MakeCallInto) vs).vals
  make_call_into-fit (vals.Args args ∷ vals.Name function ∷ vals.Expr target ∷ vs) f c h = (((h.1.1.0, c), (h.1.0, h.0)), h.1.1.1)
  make_call_into-fit (vals.Args _ ∷ vals.Name _ ∷ []) f c h = absurd (cc f)
  make_call_into-fit (vals.Args _ ∷ vals.Name _ ∷ v ∷ vs) f c h = absurd (cc f)
  make_call_into-fit (vals.Args _ ∷ []) f c h = absurd (cc f)
  make_call_into-fit (vals.Args _ ∷ v ∷ vs) f c h = absurd (cc f)
  make_call_into-fit [] f c h = absurd (cc f)
  make_call_into-fit (v ∷ vs) f c h = absurd (cc f)

  pub make_goto-made : (vs : List SemanticValue) → (if fits (takes (acts.Stmt does.MakeGoto)) vs && meets nodes (acts.Stmt does.MakeGoto) vs then made_with nodes (making (acts.Stmt does.MakeGoto) vs).product (seen_values nodes (making (acts.Stmt does.MakeGoto) vs).vals) else []) ≡ perform (acts.Stmt does.MakeGoto) (seen_values nodes vs)
  make_goto-made (vals.Name label ∷ vs) = refl
  make_goto-made [] = refl
  make_goto-made (v ∷ vs) = refl

  pub make_goto-fit : (vs : List SemanticValue) → fits (takes (acts.Stmt does.MakeGoto)) vs ≡ true → meets nodes (acts.Stmt does.MakeGoto) vs ≡ true → ValuesFit nodes vs → ProductFits nodes (making (acts.Stmt does.MakeGoto) vs).vals (making (acts.Stmt does.MakeGoto) vs).product × ValuesFit nodes (making (acts.Stmt does.MakeGoto) vs).vals
  make_goto-fit (vals.Name label ∷ vs) f c h = (h.0, h.1)
  make_goto-fit [] f c h = absurd (cc f)
  make_goto-fit (v ∷ vs) f c h = absurd (cc f)

  pub add_arm-made : (vs : List SemanticValue) → (if fits (takes (acts.Stmt does.AddArm)) vs && meets nodes (acts.Stmt does.AddArm) vs then made_with nodes (making (acts.Stmt does.AddArm) vs).product (seen_values nodes (making (acts.Stmt does.AddArm) vs).vals) else []) ≡ perform (acts.Stmt does.AddArm) (seen_values nodes vs)
  add_arm-made (vals.Code body ∷ vals.Expr test ∷ vs) = refl
  add_arm-made (vals.Code _ ∷ []) = refl
  add_arm-made (vals.Code _ ∷ v ∷ vs) = refl
  add_arm-made [] = refl
  add_arm-made (v ∷ vs) = refl

  pub add_arm-fit : (vs : List SemanticValue) → fits (takes (acts.Stmt does.AddArm)) vs ≡ true → meets nodes (acts.Stmt does.AddArm) vs ≡ true → ValuesFit nodes vs → ProductFits nodes (making (acts.Stmt does.AddArm) vs).vals (making (acts.Stmt does.AddArm) vs).product × ValuesFit nodes (making (acts.Stmt does.AddArm) vs).vals
  add_arm-fit (vals.Code body ∷ vals.Expr test ∷ vs) f c h = ((h.1.0, h.0), h.1.1)
  add_arm-fit (vals.Code _ ∷ []) f c h = absurd (cc f)
  add_arm-fit (vals.Code _ ∷ v ∷ vs) f c h = absurd (cc f)
  add_arm-fit [] f c h = absurd (cc f)
  add_arm-fit (v ∷ vs) f c h = absurd (cc f)

  pub make_while-made : (vs : List SemanticValue) → (if fits (takes (acts.Stmt does.MakeWhile)) vs && meets nodes (acts.Stmt does.MakeWhile) vs then made_with nodes (making (acts.Stmt does.MakeWhile) vs).product (seen_values nodes (making (acts.Stmt does.MakeWhile) vs).vals) else []) ≡ perform (acts.Stmt does.MakeWhile) (seen_values nodes vs)
  make_while-made (vals.Code body ∷ vals.Expr test ∷ vs) = refl
  make_while-made (vals.Code _ ∷ []) = refl
  make_while-made (vals.Code _ ∷ v ∷ vs) = refl
  make_while-made [] = refl
  make_while-made (v ∷ vs) = refl

  pub make_while-fit : (vs : List SemanticValue) → fits (takes (acts.Stmt does.MakeWhile)) vs ≡ true → meets nodes (acts.Stmt does.MakeWhile) vs ≡ true → ValuesFit nodes vs → ProductFits nodes (making (acts.Stmt does.MakeWhile) vs).vals (making (acts.Stmt does.MakeWhile) vs).product × ValuesFit nodes (making (acts.Stmt does.MakeWhile) vs).vals
  make_while-fit (vals.Code body ∷ vals.Expr test ∷ vs) f c h = ((h.1.0, h.0), h.1.1)
  make_while-fit (vals.Code _ ∷ []) f c h = absurd (cc f)
  make_while-fit (vals.Code _ ∷ v ∷ vs) f c h = absurd (cc f)
  make_while-fit [] f c h = absurd (cc f)
  make_while-fit (v ∷ vs) f c h = absurd (cc f)

  pub make_switch-made : (vs : List SemanticValue) → (if fits (takes (acts.Stmt does.MakeSwitch)) vs && meets nodes (acts.Stmt does.MakeSwitch) vs then made_with nodes (making (acts.Stmt does.MakeSwitch) vs).product (seen_values nodes (making (acts.Stmt does.MakeSwitch) vs).vals) else []) ≡ perform (acts.Stmt does.MakeSwitch) (seen_values nodes vs)
  make_switch-made (vals.Code body ∷ vals.Expr on ∷ vs) = refl
  make_switch-made (vals.Code _ ∷ []) = refl
  make_switch-made (vals.Code _ ∷ v ∷ vs) = refl
  make_switch-made [] = refl
  make_switch-made (v ∷ vs) = refl

  pub make_switch-fit : (vs : List SemanticValue) → fits (takes (acts.Stmt does.MakeSwitch)) vs ≡ true → meets nodes (acts.Stmt does.MakeSwitch) vs ≡ true → ValuesFit nodes vs → ProductFits nodes (making (acts.Stmt does.MakeSwitch) vs).vals (making (acts.Stmt does.MakeSwitch) vs).product × ValuesFit nodes (making (acts.Stmt does.MakeSwitch) vs).vals
  make_switch-fit (vals.Code body ∷ vals.Expr on ∷ vs) f c h = ((h.1.0, h.0), h.1.1)
  make_switch-fit (vals.Code _ ∷ []) f c h = absurd (cc f)
  make_switch-fit (vals.Code _ ∷ v ∷ vs) f c h = absurd (cc f)
  make_switch-fit [] f c h = absurd (cc f)
  make_switch-fit (v ∷ vs) f c h = absurd (cc f)

  pub make_return-made : (vs : List SemanticValue) → (if fits (takes (acts.Stmt does.MakeReturn)) vs && meets nodes (acts.Stmt does.MakeReturn) vs then made_with nodes (making (acts.Stmt does.MakeReturn) vs).product (seen_values nodes (making (acts.Stmt does.MakeReturn) vs).vals) else []) ≡ perform (acts.Stmt does.MakeReturn) (seen_values nodes vs)
  make_return-made vs = refl

  pub make_return-fit : (vs : List SemanticValue) → fits (takes (acts.Stmt does.MakeReturn)) vs ≡ true → meets nodes (acts.Stmt does.MakeReturn) vs ≡ true → ValuesFit nodes vs → ProductFits nodes (making (acts.Stmt does.MakeReturn) vs).vals (making (acts.Stmt does.MakeReturn) vs).product × ValuesFit nodes (making (acts.Stmt does.MakeReturn) vs).vals
  make_return-fit vs f c h = (tt, h)

  pub make_return_value-made : (vs : List SemanticValue) → (if fits (takes (acts.Stmt does.MakeReturnValue)) vs && meets nodes (acts.Stmt does.MakeReturnValue) vs then made_with nodes (making (acts.Stmt does.MakeReturnValue) vs).product (seen_values nodes (making (acts.Stmt does.MakeReturnValue) vs).vals) else []) ≡ perform (acts.Stmt does.MakeReturnValue) (seen_values nodes vs)
  make_return_value-made (vals.Expr value ∷ vs) = refl
  make_return_value-made [] = refl
  make_return_value-made (v ∷ vs) = refl

  pub make_return_value-fit : (vs : List SemanticValue) → fits (takes (acts.Stmt does.MakeReturnValue)) vs ≡ true → meets nodes (acts.Stmt does.MakeReturnValue) vs ≡ true → ValuesFit nodes vs → ProductFits nodes (making (acts.Stmt does.MakeReturnValue) vs).vals (making (acts.Stmt does.MakeReturnValue) vs).product × ValuesFit nodes (making (acts.Stmt does.MakeReturnValue) vs).vals
  make_return_value-fit (vals.Expr value ∷ vs) f c h = (h.0, h.1)
  make_return_value-fit [] f c h = absurd (cc f)
  make_return_value-fit (v ∷ vs) f c h = absurd (cc f)

  pub make_case-made : (vs : List SemanticValue) → (if fits (takes (acts.Stmt does.MakeCase)) vs && meets nodes (acts.Stmt does.MakeCase) vs then made_with nodes (making (acts.Stmt does.MakeCase) vs).product (seen_values nodes (making (acts.Stmt does.MakeCase) vs).vals) else []) ≡ perform (acts.Stmt does.MakeCase) (seen_values nodes vs)
  make_case-made (vals.Number number ∷ vs) = refl
  make_case-made [] = refl
  make_case-made (v ∷ vs) = refl

  pub make_case-fit : (vs : List SemanticValue) → fits (takes (acts.Stmt does.MakeCase)) vs ≡ true → meets nodes (acts.Stmt does.MakeCase) vs ≡ true → ValuesFit nodes vs → ProductFits nodes (making (acts.Stmt does.MakeCase) vs).vals (making (acts.Stmt does.MakeCase) vs).product × ValuesFit nodes (making (acts.Stmt does.MakeCase) vs).vals
  make_case-fit (vals.Number number ∷ vs) f c h = (h.0, h.1)
  make_case-fit [] f c h = absurd (cc f)
  make_case-fit (v ∷ vs) f c h = absurd (cc f)

  pub make_default-made : (vs : List SemanticValue) → (if fits (takes (acts.Stmt does.MakeDefault)) vs && meets nodes (acts.Stmt does.MakeDefault) vs then made_with nodes (making (acts.Stmt does.MakeDefault) vs).product (seen_values nodes (making (acts.Stmt does.MakeDefault) vs).vals) else []) ≡ perform (acts.Stmt does.MakeDefault) (seen_values nodes vs)
  make_default-made vs = refl

  pub make_default-fit : (vs : List SemanticValue) → fits (takes (acts.Stmt does.MakeDefault)) vs ≡ true → meets nodes (acts.Stmt does.MakeDefault) vs ≡ true → ValuesFit nodes vs → ProductFits nodes (making (acts.Stmt does.MakeDefault) vs).vals (making (acts.Stmt does.MakeDefault) vs).product × ValuesFit nodes (making (acts.Stmt does.MakeDefault) vs).vals
  make_default-fit vs f c h = (tt, h)

  pub make_label-made : (vs : List SemanticValue) → (if fits (takes (acts.Stmt does.MakeLabel)) vs && meets nodes (acts.Stmt does.MakeLabel) vs then made_with nodes (making (acts.Stmt does.MakeLabel) vs).product (seen_values nodes (making (acts.Stmt does.MakeLabel) vs).vals) else []) ≡ perform (acts.Stmt does.MakeLabel) (seen_values nodes vs)
  make_label-made (vals.Name name ∷ vs) = refl
  make_label-made [] = refl
  make_label-made (v ∷ vs) = refl

  pub make_label-fit : (vs : List SemanticValue) → fits (takes (acts.Stmt does.MakeLabel)) vs ≡ true → meets nodes (acts.Stmt does.MakeLabel) vs ≡ true → ValuesFit nodes vs → ProductFits nodes (making (acts.Stmt does.MakeLabel) vs).vals (making (acts.Stmt does.MakeLabel) vs).product × ValuesFit nodes (making (acts.Stmt does.MakeLabel) vs).vals
  make_label-fit (vals.Name name ∷ vs) f c h = (h.0, h.1)
  make_label-fit [] f c h = absurd (cc f)
  make_label-fit (v ∷ vs) f c h = absurd (cc f)

  pub stmt-made : (a : StmtAction) (vs : List SemanticValue) → is_plain (acts.Stmt a) ≡ true → (if fits (takes (acts.Stmt a)) vs && meets nodes (acts.Stmt a) vs then made_with nodes (making (acts.Stmt a) vs).product (seen_values nodes (making (acts.Stmt a) vs).vals) else []) ≡ perform (acts.Stmt a) (seen_values nodes vs)
  stmt-made does.StartBlock vs p = start_block-made vs
  stmt-made does.MakeNested vs p = make_nested-made vs
  stmt-made does.MakeEmpty vs p = make_empty-made vs
  stmt-made does.MakeAssign vs p = make_assign-made vs
  stmt-made does.MakeCall vs p = make_call-made vs
  stmt-made does.MakeCallInto vs p = make_call_into-made vs
  stmt-made does.MakeGoto vs p = make_goto-made vs
  stmt-made does.AddArm vs p = add_arm-made vs
  stmt-made does.MakeWhile vs p = make_while-made vs
  stmt-made does.MakeSwitch vs p = make_switch-made vs
  stmt-made does.MakeReturn vs p = make_return-made vs
  stmt-made does.MakeReturnValue vs p = make_return_value-made vs
  stmt-made does.MakeCase vs p = make_case-made vs
  stmt-made does.MakeDefault vs p = make_default-made vs
  stmt-made does.MakeLabel vs p = make_label-made vs
  stmt-made does.EndBlock vs p = absurd (cc p)
  stmt-made does.MakeIf vs p = absurd (cc p)

  pub stmt-fit : (a : StmtAction) (vs : List SemanticValue) → is_plain (acts.Stmt a) ≡ true → fits (takes (acts.Stmt a)) vs ≡ true → meets nodes (acts.Stmt a) vs ≡ true → ValuesFit nodes vs → ProductFits nodes (making (acts.Stmt a) vs).vals (making (acts.Stmt a) vs).product × ValuesFit nodes (making (acts.Stmt a) vs).vals
  stmt-fit does.StartBlock vs p f c h = start_block-fit vs f c h
  stmt-fit does.MakeNested vs p f c h = make_nested-fit vs f c h
  stmt-fit does.MakeEmpty vs p f c h = make_empty-fit vs f c h
  stmt-fit does.MakeAssign vs p f c h = make_assign-fit vs f c h
  stmt-fit does.MakeCall vs p f c h = make_call-fit vs f c h
  stmt-fit does.MakeCallInto vs p f c h = make_call_into-fit vs f c h
  stmt-fit does.MakeGoto vs p f c h = make_goto-fit vs f c h
  stmt-fit does.AddArm vs p f c h = add_arm-fit vs f c h
  stmt-fit does.MakeWhile vs p f c h = make_while-fit vs f c h
  stmt-fit does.MakeSwitch vs p f c h = make_switch-fit vs f c h
  stmt-fit does.MakeReturn vs p f c h = make_return-fit vs f c h
  stmt-fit does.MakeReturnValue vs p f c h = make_return_value-fit vs f c h
  stmt-fit does.MakeCase vs p f c h = make_case-fit vs f c h
  stmt-fit does.MakeDefault vs p f c h = make_default-fit vs f c h
  stmt-fit does.MakeLabel vs p f c h = make_label-fit vs f c h
  stmt-fit does.EndBlock vs p f c h = absurd (cc p)
  stmt-fit does.MakeIf vs p f c h = absurd (cc p)
