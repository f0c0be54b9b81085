-- That what is made of expressions is what the machine makes, and that what it names is there.
use Rattle.std.proofs.Common.{◌≡◌, true, ◌&&◌, not, if◌then◌else◌, List, [], ◌∷◌, length, refl, ap}
use Rattle.c_text.specs.declared.nodes.CArg.TheVariants as args
use Rattle.c_text.specs.CGrammar.{is_literal}
use Rattle.c_text.specs.CNodes.{Nodes, expr_of, operands_in}
use Rattle.c_read_grammar.specs.Values.{perform, an_operation, some_args}
use Rattle.c_read_grammar.specs.declared.actions.Action.TheVariants as acts
use Rattle.c_read_grammar.specs.declared.actions.ExprAction.{ExprAction}
use Rattle.c_read_grammar.specs.declared.actions.ExprAction.TheVariants as does
use Rattle.c_read_nodes.specs.declared.values.SemanticValue.{SemanticValue}
use Rattle.c_read_nodes.specs.declared.values.SemanticValue.TheVariants as vals
use Rattle.c_read_nodes.specs.Making.{making}
use Rattle.c_read_nodes.specs.Seen.{seen_values, ValuesFit, ProductFits, made_with}
use Rattle.c_read_nodes.specs.Shapes.{fits, takes, meets, is_plain}
use Rattle.c_read_nodes.proofs.Pushed.{picked, operation_picked, repeat_seen, may_repeat-lawful, not-true, exprs_push, operands_push, args_push, args_pushed}

module _ (nodes : Nodes) where
  pub make_variable-made : (vs : List SemanticValue) → (if fits (takes (acts.Expr does.MakeVariable)) vs && meets nodes (acts.Expr does.MakeVariable) vs then made_with nodes (making (acts.Expr does.MakeVariable) vs).product (seen_values nodes (making (acts.Expr does.MakeVariable) vs).vals) else []) ≡ perform (acts.Expr does.MakeVariable) (seen_values nodes vs)
  make_variable-made (vals.Name name ∷ vs) = refl
  make_variable-made [] = refl
  make_variable-made (v ∷ vs) = refl

  pub make_variable-fit : (vs : List SemanticValue) → fits (takes (acts.Expr does.MakeVariable)) vs ≡ true → meets nodes (acts.Expr does.MakeVariable) vs ≡ true → ValuesFit nodes vs → ProductFits nodes (making (acts.Expr does.MakeVariable) vs).vals (making (acts.Expr does.MakeVariable) vs).product × ValuesFit nodes (making (acts.Expr does.MakeVariable) vs).vals
  make_variable-fit (vals.Name name ∷ vs) f c h = (h.0, h.1)
  make_variable-fit [] f c h = absurd (cc f)
  make_variable-fit (v ∷ vs) f c h = absurd (cc f)

  pub make_number-made : (vs : List SemanticValue) → (if fits (takes (acts.Expr does.MakeNumber)) vs && meets nodes (acts.Expr does.MakeNumber) vs then made_with nodes (making (acts.Expr does.MakeNumber) vs).product (seen_values nodes (making (acts.Expr does.MakeNumber) vs).vals) else []) ≡ perform (acts.Expr does.MakeNumber) (seen_values nodes vs)
  make_number-made (vals.Number number ∷ vs) = refl
  make_number-made [] = refl
  make_number-made (v ∷ vs) = refl

  pub make_number-fit : (vs : List SemanticValue) → fits (takes (acts.Expr does.MakeNumber)) vs ≡ true → meets nodes (acts.Expr does.MakeNumber) vs ≡ true → ValuesFit nodes vs → ProductFits nodes (making (acts.Expr does.MakeNumber) vs).vals (making (acts.Expr does.MakeNumber) vs).product × ValuesFit nodes (making (acts.Expr does.MakeNumber) vs).vals
  make_number-fit (vals.Number number ∷ vs) f c h = (h.0, h.1)
  make_number-fit [] f c h = absurd (cc f)
  make_number-fit (v ∷ vs) f c h = absurd (cc f)

  pub make_member-made : (vs : List SemanticValue) → (if fits (takes (acts.Expr does.MakeMember)) vs && meets nodes (acts.Expr does.MakeMember) vs then made_with nodes (making (acts.Expr does.MakeMember) vs).product (seen_values nodes (making (acts.Expr does.MakeMember) vs).vals) else []) ≡ perform (acts.Expr does.MakeMember) (seen_values nodes vs)
  make_member-made (vals.Name field ∷ vals.Expr of ∷ vs) = picked (not (is_literal (expr_of nodes of.0))) _ _
  make_member-made (vals.Name _ ∷ []) = refl
  make_member-made (vals.Name _ ∷ v ∷ vs) = refl
  make_member-made [] = refl
  make_member-made (v ∷ vs) = refl

  pub make_member-fit : (vs : List SemanticValue) → fits (takes (acts.Expr does.MakeMember)) vs ≡ true → meets nodes (acts.Expr does.MakeMember) vs ≡ true → ValuesFit nodes vs → ProductFits nodes (making (acts.Expr does.MakeMember) vs).vals (making (acts.Expr does.MakeMember) vs).product × ValuesFit nodes (making (acts.Expr does.MakeMember) vs).vals
  make_member-fit (vals.Name field ∷ vals.Expr of ∷ vs) f c h = (((h.1.0, not-true c), h.0), h.1.1)
  make_member-fit (vals.Name _ ∷ []) f c h = absurd (cc f)
  make_member-fit (vals.Name _ ∷ v ∷ vs) f c h = absurd (cc f)
  make_member-fit [] f c h = absurd (cc f)
  make_member-fit (v ∷ vs) f c h = absurd (cc f)

  pub make_element-made : (vs : List SemanticValue) → (if fits (takes (acts.Expr does.MakeElement)) vs && meets nodes (acts.Expr does.MakeElement) vs then made_with nodes (making (acts.Expr does.MakeElement) vs).product (seen_values nodes (making (acts.Expr does.MakeElement) vs).vals) else []) ≡ perform (acts.Expr does.MakeElement) (seen_values nodes vs)
  make_element-made (vals.Expr at ∷ vals.Expr of ∷ vs) = picked (not (is_literal (expr_of nodes of.0))) _ _
  make_element-made (vals.Expr _ ∷ []) = refl
  make_element-made (vals.Expr _ ∷ v ∷ vs) = refl
  make_element-made [] = refl
  make_element-made (v ∷ vs) = refl

  pub make_element-fit : (vs : List SemanticValue) → fits (takes (acts.Expr does.MakeElement)) vs ≡ true → meets nodes (acts.Expr does.MakeElement) vs ≡ true → ValuesFit nodes vs → ProductFits nodes (making (acts.Expr does.MakeElement) vs).vals (making (acts.Expr does.MakeElement) vs).product × ValuesFit nodes (making (acts.Expr does.MakeElement) vs).vals
  make_element-fit (vals.Expr at ∷ vals.Expr of ∷ vs) f c h = (((h.1.0, not-true c), h.0), h.1.1)
  make_element-fit (vals.Expr _ ∷ []) f c h = absurd (cc f)
  make_element-fit (vals.Expr _ ∷ v ∷ vs) f c h = absurd (cc f)
  make_element-fit [] f c h = absurd (cc f)
  make_element-fit (v ∷ vs) f c h = absurd (cc f)

  pub make_pointed-made : (vs : List SemanticValue) → (if fits (takes (acts.Expr does.MakePointed)) vs && meets nodes (acts.Expr does.MakePointed) vs then made_with nodes (making (acts.Expr does.MakePointed) vs).product (seen_values nodes (making (acts.Expr does.MakePointed) vs).vals) else []) ≡ perform (acts.Expr does.MakePointed) (seen_values nodes vs)
  make_pointed-made (vals.Expr of ∷ vs) = picked (not (is_literal (expr_of nodes of.0))) _ _
  make_pointed-made [] = refl
  make_pointed-made (v ∷ vs) = refl

  pub make_pointed-fit : (vs : List SemanticValue) → fits (takes (acts.Expr does.MakePointed)) vs ≡ true → meets nodes (acts.Expr does.MakePointed) vs ≡ true → ValuesFit nodes vs → ProductFits nodes (making (acts.Expr does.MakePointed) vs).vals (making (acts.Expr does.MakePointed) vs).product × ValuesFit nodes (making (acts.Expr does.MakePointed) vs).vals
  make_pointed-fit (vals.Expr of ∷ vs) f c h = ((h.0, not-true c), h.1)
  make_pointed-fit [] f c h = absurd (cc f)
  make_pointed-fit (v ∷ vs) f c h = absurd (cc f)

  pub start_operation-made : (vs : List SemanticValue) → (if fits (takes (acts.Expr does.StartOperation)) vs && meets nodes (acts.Expr does.StartOperation) vs then made_with nodes (making (acts.Expr does.StartOperation) vs).product (seen_values nodes (making (acts.Expr does.StartOperation) vs).vals) else []) ≡ perform (acts.Expr does.StartOperation) (seen_values nodes vs)
  start_operation-made (vals.Expr second ∷ vals.Expr first ∷ vs) = refl
  start_operation-made (vals.Expr _ ∷ []) = refl
  start_operation-made (vals.Expr _ ∷ v ∷ vs) = refl
  start_operation-made [] = refl
  start_operation-made (v ∷ vs) = refl

  pub start_operation-fit : (vs : List SemanticValue) → fits (takes (acts.Expr does.StartOperation)) vs ≡ true → meets nodes (acts.Expr does.StartOperation) vs ≡ true → ValuesFit nodes vs → ProductFits nodes (making (acts.Expr does.StartOperation) vs).vals (making (acts.Expr does.StartOperation) vs).product × ValuesFit nodes (making (acts.Expr does.StartOperation) vs).vals
  start_operation-fit (vals.Expr second ∷ vals.Expr first ∷ vs) f c h = ((h.1.0, h.0, tt), h.1.1)
  start_operation-fit (vals.Expr _ ∷ []) f c h = absurd (cc f)
  start_operation-fit (vals.Expr _ ∷ v ∷ vs) f c h = absurd (cc f)
  start_operation-fit [] f c h = absurd (cc f)
  start_operation-fit (v ∷ vs) f c h = absurd (cc f)

  pub add_operand-made : (vs : List SemanticValue) → (if fits (takes (acts.Expr does.AddOperand)) vs && meets nodes (acts.Expr does.AddOperand) vs then made_with nodes (making (acts.Expr does.AddOperand) vs).product (seen_values nodes (making (acts.Expr does.AddOperand) vs).vals) else []) ≡ perform (acts.Expr does.AddOperand) (seen_values nodes vs)
  add_operand-made (vals.Expr operand ∷ vals.Operation operation ∷ vs) = ap (λ x. an_operation (expr_of nodes operation.first.0) (expr_of nodes operation.second.0) x ∷ seen_values nodes vs) (operands_push (expr_of nodes) operation.others operand)
  add_operand-made (vals.Expr _ ∷ []) = refl
  add_operand-made (vals.Expr _ ∷ v ∷ vs) = refl
  add_operand-made [] = refl
  add_operand-made (v ∷ vs) = refl

  pub add_operand-fit : (vs : List SemanticValue) → fits (takes (acts.Expr does.AddOperand)) vs ≡ true → meets nodes (acts.Expr does.AddOperand) vs ≡ true → ValuesFit nodes vs → ProductFits nodes (making (acts.Expr does.AddOperand) vs).vals (making (acts.Expr does.AddOperand) vs).product × ValuesFit nodes (making (acts.Expr does.AddOperand) vs).vals
  add_operand-fit (vals.Expr operand ∷ vals.Operation operation ∷ vs) f c h = ((h.1.0.0, h.1.0.1, exprs_push (length nodes.exprs) operation.others operand h.1.0.2 h.0), h.1.1)
  add_operand-fit (vals.Expr _ ∷ []) f c h = absurd (cc f)
  add_operand-fit (vals.Expr _ ∷ v ∷ vs) f c h = absurd (cc f)
  add_operand-fit [] f c h = absurd (cc f)
  add_operand-fit (v ∷ vs) f c h = absurd (cc f)

  pub make_operation-made : (op : _) (vs : List SemanticValue) → (if fits (takes (acts.Expr (does.MakeOperation op))) vs && meets nodes (acts.Expr (does.MakeOperation op)) vs then made_with nodes (making (acts.Expr (does.MakeOperation op)) vs).product (seen_values nodes (making (acts.Expr (does.MakeOperation op)) vs).vals) else []) ≡ perform (acts.Expr (does.MakeOperation op)) (seen_values nodes vs)
  make_operation-made op (vals.Operation operation ∷ vs) = operation_picked op operation.others (operands_in (expr_of nodes) operation.others) _ _ (repeat_seen (expr_of nodes) op operation.others)
  make_operation-made op [] = refl
  make_operation-made op (v ∷ vs) = refl

  pub make_operation-fit : (op : _) (vs : List SemanticValue) → fits (takes (acts.Expr (does.MakeOperation op))) vs ≡ true → meets nodes (acts.Expr (does.MakeOperation op)) vs ≡ true → ValuesFit nodes vs → ProductFits nodes (making (acts.Expr (does.MakeOperation op)) vs).vals (making (acts.Expr (does.MakeOperation op)) vs).product × ValuesFit nodes (making (acts.Expr (does.MakeOperation op)) vs).vals
  make_operation-fit op (vals.Operation operation ∷ vs) f c h = ((h.0.0, h.0.1, h.0.2, may_repeat-lawful op operation.others c), h.1)
  make_operation-fit op [] f c h = absurd (cc f)
  make_operation-fit op (v ∷ vs) f c h = absurd (cc f)

  pub make_unary-made : (op : _) (vs : List SemanticValue) → (if fits (takes (acts.Expr (does.MakeUnary op))) vs && meets nodes (acts.Expr (does.MakeUnary op)) vs then made_with nodes (making (acts.Expr (does.MakeUnary op)) vs).product (seen_values nodes (making (acts.Expr (does.MakeUnary op)) vs).vals) else []) ≡ perform (acts.Expr (does.MakeUnary op)) (seen_values nodes vs)
  make_unary-made op (vals.Expr of ∷ vs) = refl
  make_unary-made op [] = refl
  make_unary-made op (v ∷ vs) = refl

  pub make_unary-fit : (op : _) (vs : List SemanticValue) → fits (takes (acts.Expr (does.MakeUnary op))) vs ≡ true → meets nodes (acts.Expr (does.MakeUnary op)) vs ≡ true → ValuesFit nodes vs → ProductFits nodes (making (acts.Expr (does.MakeUnary op)) vs).vals (making (acts.Expr (does.MakeUnary op)) vs).product × ValuesFit nodes (making (acts.Expr (does.MakeUnary op)) vs).vals
  make_unary-fit op (vals.Expr of ∷ vs) f c h = (h.0, h.1)
  make_unary-fit op [] f c h = absurd (cc f)
  make_unary-fit op (v ∷ vs) f c h = absurd (cc f)

  pub make_cast-made : (vs : List SemanticValue) → (if fits (takes (acts.Expr does.MakeCast)) vs && meets nodes (acts.Expr does.MakeCast) vs then made_with nodes (making (acts.Expr does.MakeCast) vs).product (seen_values nodes (making (acts.Expr does.MakeCast) vs).vals) else []) ≡ perform (acts.Expr does.MakeCast) (seen_values nodes vs)
  make_cast-made (vals.Expr of ∷ vals.Type to ∷ vs) = refl
  make_cast-made (vals.Expr _ ∷ []) = refl
  make_cast-made (vals.Expr _ ∷ v ∷ vs) = refl
  make_cast-made [] = refl
  make_cast-made (v ∷ vs) = refl

  pub make_cast-fit : (vs : List SemanticValue) → fits (takes (acts.Expr does.MakeCast)) vs ≡ true → meets nodes (acts.Expr does.MakeCast) vs ≡ true → ValuesFit nodes vs → ProductFits nodes (making (acts.Expr does.MakeCast) vs).vals (making (acts.Expr does.MakeCast) vs).product × ValuesFit nodes (making (acts.Expr does.MakeCast) vs).vals
  make_cast-fit (vals.Expr of ∷ vals.Type to ∷ vs) f c h = ((h.1.0, h.0), h.1.1)
  make_cast-fit (vals.Expr _ ∷ []) f c h = absurd (cc f)
  make_cast-fit (vals.Expr _ ∷ v ∷ vs) f c h = absurd (cc f)
  make_cast-fit [] f c h = absurd (cc f)
  make_cast-fit (v ∷ vs) f c h = absurd (cc f)

  pub make_choice-made : (vs : List SemanticValue) → (if fits (takes (acts.Expr does.MakeChoice)) vs && meets nodes (acts.Expr does.MakeChoice) vs then made_with nodes (making (acts.Expr does.MakeChoice) vs).product (seen_values nodes (making (acts.Expr does.MakeChoice) vs).vals) else []) ≡ perform (acts.Expr does.MakeChoice) (seen_values nodes vs)
  make_choice-made (vals.Expr unmet ∷ vals.Expr met ∷ vals.Expr test ∷ vs) = refl
  make_choice-made (vals.Expr _ ∷ vals.Expr _ ∷ []) = refl
  make_choice-made (vals.Expr _ ∷ vals.Expr _ ∷ v ∷ vs) = refl
  make_choice-made (vals.Expr _ ∷ []) = refl
  make_choice-made (vals.Expr _ ∷ v ∷ vs) = refl
  make_choice-made [] = refl
  make_choice-made (v ∷ vs) = refl

  pub make_choice-fit : (vs : List SemanticValue) → fits (takes (acts.Expr does.MakeChoice)) vs ≡ true → meets nodes (acts.Expr does.MakeChoice) vs ≡ true → ValuesFit nodes vs → ProductFits nodes (making (acts.Expr does.MakeChoice) vs).vals (making (acts.Expr does.MakeChoice) vs).product × ValuesFit nodes (making (acts.Expr does.MakeChoice) vs).vals
  make_choice-fit (vals.Expr unmet ∷ vals.Expr met ∷ vals.Expr test ∷ vs) f c h = ((h.1.1.0, h.1.0, h.0), h.1.1.1)
  make_choice-fit (vals.Expr _ ∷ vals.Expr _ ∷ []) f c h = absurd (cc f)
  make_choice-fit (vals.Expr _ ∷ vals.Expr _ ∷ v ∷ vs) f c h = absurd (cc f)
  make_choice-fit (vals.Expr _ ∷ []) f c h = absurd (cc f)
  make_choice-fit (vals.Expr _ ∷ v ∷ vs) f c h = absurd (cc f)
  make_choice-fit [] f c h = absurd (cc f)
  make_choice-fit (v ∷ vs) f c h = absurd (cc f)

  pub make_called-made : (vs : List SemanticValue) → (if fits (takes (acts.Expr does.MakeCalled)) vs && meets nodes (acts.Expr does.MakeCalled) vs then made_with nodes (making (acts.Expr does.MakeCalled) vs).product (seen_values nodes (making (acts.Expr does.MakeCalled) vs).vals) else []) ≡ perform (acts.Expr does.MakeCalled) (seen_values nodes vs)
  make_called-made (vals.Args args ∷ vals.Name function ∷ vs) = refl
  make_called-made (vals.Args _ ∷ []) = refl
  make_called-made (vals.Args _ ∷ v ∷ vs) = refl
  make_called-made [] = refl
  make_called-made (v ∷ vs) = refl

  pub make_called-fit : (vs : List SemanticValue) → fits (takes (acts.Expr does.MakeCalled)) vs ≡ true → meets nodes (acts.Expr does.MakeCalled) vs ≡ true → ValuesFit nodes vs → ProductFits nodes (making (acts.Expr does.MakeCalled) vs).vals (making (acts.Expr does.MakeCalled) vs).product × ValuesFit nodes (making (acts.Expr does.MakeCalled) vs).vals
  make_called-fit (vals.Args args ∷ vals.Name function ∷ vs) f c h = ((h.1.0, h.0), h.1.1)
  make_called-fit (vals.Args _ ∷ []) f c h = absurd (cc f)
  make_called-fit (vals.Args _ ∷ v ∷ vs) f c h = absurd (cc f)
  make_called-fit [] f c h = absurd (cc f)
  make_called-fit (v ∷ vs) f c h = absurd (cc f)

  pub start_args-made : (vs : List SemanticValue) → (if fits (takes (acts.Expr does.StartArgs)) vs && meets nodes (acts.Expr does.StartArgs) vs then made_with nodes (making (acts.Expr does.StartArgs) vs).product (seen_values nodes (making (acts.Expr does.StartArgs) vs).vals) else []) ≡ perform (acts.Expr does.StartArgs) (seen_values nodes vs)
  start_args-made vs = refl

  pub start_args-fit : (vs : List SemanticValue) → fits (takes (acts.Expr does.StartArgs)) vs ≡ true → meets nodes (acts.Expr does.StartArgs) vs ≡ true → ValuesFit nodes vs → ProductFits nodes (making (acts.Expr does.StartArgs) vs).vals (making (acts.Expr does.StartArgs) vs).product × ValuesFit nodes (making (acts.Expr does.StartArgs) vs).vals
  start_args-fit vs f c h = (tt, h)

  pub add_arg-made : (vs : List SemanticValue) → (if fits (takes (acts.Expr does.AddArg)) vs && meets nodes (acts.Expr does.AddArg) vs then made_with nodes (making (acts.Expr does.AddArg) vs).product (seen_values nodes (making (acts.Expr does.AddArg) vs).vals) else []) ≡ perform (acts.Expr does.AddArg) (seen_values nodes vs)
  add_arg-made (vals.Expr argument ∷ vals.Args given ∷ vs) = ap (λ x. some_args x ∷ seen_values nodes vs) (args_pushed nodes.names (expr_of nodes) given (args.Expr argument))
  add_arg-made (vals.Expr _ ∷ []) = refl
  add_arg-made (vals.Expr _ ∷ v ∷ vs) = refl
  add_arg-made [] = refl
  add_arg-made (v ∷ vs) = refl

  pub add_arg-fit : (vs : List SemanticValue) → fits (takes (acts.Expr does.AddArg)) vs ≡ true → meets nodes (acts.Expr does.AddArg) vs ≡ true → ValuesFit nodes vs → ProductFits nodes (making (acts.Expr does.AddArg) vs).vals (making (acts.Expr does.AddArg) vs).product × ValuesFit nodes (making (acts.Expr does.AddArg) vs).vals
  add_arg-fit (vals.Expr argument ∷ vals.Args given ∷ vs) f c h = (args_push nodes (length nodes.exprs) given (args.Expr argument) h.1.0 h.0, h.1.1)
  add_arg-fit (vals.Expr _ ∷ []) f c h = absurd (cc f)
  add_arg-fit (vals.Expr _ ∷ v ∷ vs) f c h = absurd (cc f)
  add_arg-fit [] f c h = absurd (cc f)
  add_arg-fit (v ∷ vs) f c h = absurd (cc f)

  pub add_sizeof-made : (vs : List SemanticValue) → (if fits (takes (acts.Expr does.AddSizeof)) vs && meets nodes (acts.Expr does.AddSizeof) vs then made_with nodes (making (acts.Expr does.AddSizeof) vs).product (seen_values nodes (making (acts.Expr does.AddSizeof) vs).vals) else []) ≡ perform (acts.Expr does.AddSizeof) (seen_values nodes vs)
  add_sizeof-made (vals.Name name ∷ vals.Args given ∷ vs) = ap (λ x. some_args x ∷ seen_values nodes vs) (args_pushed nodes.names (expr_of nodes) given (args.SizeOf name))
  add_sizeof-made (vals.Name _ ∷ []) = refl
  add_sizeof-made (vals.Name _ ∷ v ∷ vs) = refl
  add_sizeof-made [] = refl
  add_sizeof-made (v ∷ vs) = refl

  pub add_sizeof-fit : (vs : List SemanticValue) → fits (takes (acts.Expr does.AddSizeof)) vs ≡ true → meets nodes (acts.Expr does.AddSizeof) vs ≡ true → ValuesFit nodes vs → ProductFits nodes (making (acts.Expr does.AddSizeof) vs).vals (making (acts.Expr does.AddSizeof) vs).product × ValuesFit nodes (making (acts.Expr does.AddSizeof) vs).vals
  add_sizeof-fit (vals.Name name ∷ vals.Args given ∷ vs) f c h = (args_push nodes (length nodes.exprs) given (args.SizeOf name) h.1.0 h.0, h.1.1)
  add_sizeof-fit (vals.Name _ ∷ []) f c h = absurd (cc f)
  add_sizeof-fit (vals.Name _ ∷ v ∷ vs) f c h = absurd (cc f)
  add_sizeof-fit [] f c h = absurd (cc f)
  add_sizeof-fit (v ∷ vs) f c h = absurd (cc f)

  pub expr-made : (a : ExprAction) (vs : List SemanticValue) → is_plain (acts.Expr a) ≡ true → (if fits (takes (acts.Expr a)) vs && meets nodes (acts.Expr a) vs then made_with nodes (making (acts.Expr a) vs).product (seen_values nodes (making (acts.Expr a) vs).vals) else []) ≡ perform (acts.Expr a) (seen_values nodes vs)
  expr-made does.MakeVariable vs p = make_variable-made vs
  expr-made does.MakeNumber vs p = make_number-made vs
  expr-made does.MakeMember vs p = make_member-made vs
  expr-made does.MakeElement vs p = make_element-made vs
  expr-made does.MakePointed vs p = make_pointed-made vs
  expr-made does.StartOperation vs p = start_operation-made vs
  expr-made does.AddOperand vs p = add_operand-made vs
  expr-made (does.MakeOperation op) vs p = make_operation-made op vs
  expr-made (does.MakeUnary op) vs p = make_unary-made op vs
  expr-made does.MakeCast vs p = make_cast-made vs
  expr-made does.MakeChoice vs p = make_choice-made vs
  expr-made does.MakeCalled vs p = make_called-made vs
  expr-made does.StartArgs vs p = start_args-made vs
  expr-made does.AddArg vs p = add_arg-made vs
  expr-made does.AddSizeof vs p = add_sizeof-made vs
  expr-made does.MakeVariableBelow vs p = absurd (cc p)

  pub expr-fit : (a : ExprAction) (vs : List SemanticValue) → is_plain (acts.Expr a) ≡ true → fits (takes (acts.Expr a)) vs ≡ true → meets nodes (acts.Expr a) vs ≡ true → ValuesFit nodes vs → ProductFits nodes (making (acts.Expr a) vs).vals (making (acts.Expr a) vs).product × ValuesFit nodes (making (acts.Expr a) vs).vals
  expr-fit does.MakeVariable vs p f c h = make_variable-fit vs f c h
  expr-fit does.MakeNumber vs p f c h = make_number-fit vs f c h
  expr-fit does.MakeMember vs p f c h = make_member-fit vs f c h
  expr-fit does.MakeElement vs p f c h = make_element-fit vs f c h
  expr-fit does.MakePointed vs p f c h = make_pointed-fit vs f c h
  expr-fit does.StartOperation vs p f c h = start_operation-fit vs f c h
  expr-fit does.AddOperand vs p f c h = add_operand-fit vs f c h
  expr-fit (does.MakeOperation op) vs p f c h = make_operation-fit op vs f c h
  expr-fit (does.MakeUnary op) vs p f c h = make_unary-fit op vs f c h
  expr-fit does.MakeCast vs p f c h = make_cast-fit vs f c h
  expr-fit does.MakeChoice vs p f c h = make_choice-fit vs f c h
  expr-fit does.MakeCalled vs p f c h = make_called-fit vs f c h
  expr-fit does.StartArgs vs p f c h = start_args-fit vs f c h
  expr-fit does.AddArg vs p f c h = add_arg-fit vs f c h
  expr-fit does.AddSizeof vs p f c h = add_sizeof-fit vs f c h
  expr-fit does.MakeVariableBelow vs p f c h = absurd (cc p)
