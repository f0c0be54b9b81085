-- What is judged to be wrong with a part stands where the part stands, rule by rule.
use Rattle.std.proofs.Common.{true, ◌&&◌, [], Option, None, Some, IfSome, option_map, is_some}
use Rattle.wf_text.specs.declared.place.Place.{Place}
use Rattle.wf_ast.specs.TypedTrees.{operator_kind}
use Rattle.wf_named.specs.declared.nodes.BaseType.TheVariants as bases
use Rattle.wf_named.specs.NamedTree as tree
use Rattle.wf_named.specs.NamedTree.{NamedExprTree, NamedPartTree, NamedTypeTree, NamedTargetTree, NamedBlockTree}
use Rattle.wf_types_rules.specs.declared.settings.Setting.{Setting}
use Rattle.wf_types_rules.specs.DeclaredTypes.{first_token}
use Rattle.wf_types_rules.specs.Meanings.{variable, place_of}
use Rattle.wf_types_rules.specs.ExprTypes.{element_of, slice_in, operand_at, meaning, operands}
use Rattle.wf_types_rules.specs.Operands.{first_of, not_taken, not_fitting}
use Rattle.wf_types_rules.specs.Parts.{Part, expression, calling, argument, placed_type, type_part, constant_declared, status_declared, target, assigned, kept, condition, letter_value, returned, yielded, whole_body}
use Rattle.wf_types_rules.specs.Judgements.{at_if, fails, is_known, no_number, no_end, value_of, end_value, wrong_operand, unfit_operand, node_without_value, wrong_argument, wrong_letter, wrong_type, misplaced_type, crossed_bounds, high_bound, no_elements, element_above_zero, begins_above_zero, value_no_number, value_outside, wrong_status, target_place, target_meaning, updated, wrong_target, wrong_assigned, no_value_assigned, wrong_update, unfit_update, wrong_condition, wrong_return, closing_brace, reaches_end, impure_call, impure_write, coroutine_call, kept_outside, yielded_outside, call_inside, wrong_mark, not_kept_in_status, keeps_no_coroutine, wrong_yield}
use Rattle.wf_read_laws.specs.NamedPlaces.{ExprIsIn, EndIsIn, TypeIsIn, TargetIsIn, BlockIsIn}
use Rattle.wf_read_laws.proofs.PartPlaces.{PartIsIn}
use Rattle.wf_read_laws.proofs.PlaceLemmas.{then-in, at-if, if-both, first-in}
use Rattle.wf_read_laws.proofs.OperandPlaces.{OperandsAreIn, place-in, front-in, operand-in, operands-in, taken-in, fitting-in}

module _ (In : Place → Type 0) (s : Setting) where
  -- A judgement keeps to the region of its part.
  abbrev pub Keeps : (Part → Option Place) → Type 0
  Keeps judge = (x : Part) → PartIsIn In x → IfSome (judge x) In

  number-in : (e : NamedExprTree) → ExprIsIn In e → IfSome (no_number (value_of s e)) In
  number-in e h = at-if In _ (place_of e) (place-in In e h)

  end-in : (e : NamedPartTree) → EndIsIn In e → IfSome (no_end (end_value s e)) In
  end-in tree.absent h = tt
  end-in (tree.present e) h = number-in e h

  type-token-in : (t : NamedTypeTree) → TypeIsIn In t → In (first_token t)
  type-token-in (tree.slice_of at element) h = h.0
  type-token-in (tree.array_of length at element) h = h.1
  type-token-in (tree.base_type of at bounds) h = h.0
  type-token-in (tree.struct_type n at) h = h

  target-place-in : (t : NamedTargetTree) → TargetIsIn In t → In (target_place t)
  target-place-in (tree.to_path p) h = h
  target-place-in (tree.to_element p i at) h = h.2

  brace-in : (b : NamedBlockTree) → BlockIsIn In b → In (closing_brace b)
  brace-in (tree.close at) h = h
  brace-in (tree.more_stmts first others) h = brace-in others h.1

  pub operand-kept : Keeps (wrong_operand s)
  operand-kept (expression (tree.path p)) h = at-if In _ p.at h
  operand-kept (expression (tree.index p i at)) h =
      let no_base = fails (λ m. is_some (element_of m)) (variable s p.of) in
      if-both In (is_some (variable s p.of) && is_some (meaning s i)) (first_of (at_if no_base p.at) (no_number (value_of s i)))
      (first-in In (at_if no_base p.at) (no_number (value_of s i)) (at-if In no_base p.at h.0) (number-in i h.1))
  operand-kept (expression (tree.slice p from to at)) h =
      let no_base = fails (λ m. is_some (slice_in m)) (variable s p.of) in
      let ends = first_of (no_end (end_value s from)) (no_end (end_value s to)) in
      if-both In (is_some (variable s p.of) && (is_known (end_value s from) && is_known (end_value s to))) (first_of (at_if no_base p.at) ends)
      (first-in In (at_if no_base p.at) ends (at-if In no_base p.at h.0) (first-in In (no_end (end_value s from)) (no_end (end_value s to)) (end-in from h.1) (end-in to h.2)))
  operand-kept (expression (tree.chain op first links at)) h = then-in (OperandsAreIn In) In (not_taken (operator_kind op)) (taken-in In (operator_kind op)) (operands s first links) (operands-in In s first links h.0 h.1)
  operand-kept (expression (tree.convert e t at)) h = number-in e h.0
  operand-kept (expression (tree.negation e at)) h = at-if In _ (place_of e) (place-in In e h.0)
  operand-kept _ h = tt

  pub unfit-operand-kept : Keeps (unfit_operand s)
  unfit-operand-kept (expression (tree.chain op first links at)) h = then-in (OperandsAreIn In) In (not_fitting (operator_kind op)) (fitting-in In (operator_kind op)) (operands s first links) (operands-in In s first links h.0 h.1)
  unfit-operand-kept _ h = tt

  pub without-value-kept : Keeps (node_without_value s)
  without-value-kept (expression (tree.chain op first links at)) h = at-if In _ at h.2
  without-value-kept (expression (tree.convert e t at)) h = at-if In _ at h.2
  without-value-kept _ h = tt

  pub argument-kept : Keeps (wrong_argument s)
  argument-kept (argument callee n e) h = at-if In _ (place_of e) (place-in In e h)
  argument-kept _ h = tt

  pub letter-kept : Keeps (wrong_letter s)
  letter-kept (letter_value e) h = number-in e h
  letter-kept _ h = tt

  pub type-kept : Keeps (wrong_type s)
  type-kept (type_part (tree.base_type None at bounds)) h = h.0
  type-kept (type_part (tree.base_type (Some of) at tree.unrefined)) h = tt
  type-kept (type_part (tree.base_type (Some (bases.Number width)) at (tree.refined low high))) h = at-if In _ at h.0
  type-kept (type_part (tree.base_type (Some bases.Flag) at (tree.refined low high))) h = h.0
  type-kept (type_part (tree.base_type (Some bases.Status) at (tree.refined low high))) h = h.0
  type-kept (type_part (tree.base_type (Some bases.Reader) at (tree.refined low high))) h = h.0
  type-kept (type_part (tree.base_type (Some bases.Writer) at (tree.refined low high))) h = h.0
  type-kept (type_part (tree.slice_of at element)) h = at-if In _ at h.0
  type-kept (type_part (tree.array_of length at element)) h = at-if In _ at h.1
  type-kept _ h = tt

  pub misplaced-kept : Keeps (misplaced_type s)
  misplaced-kept (placed_type role t) h = at-if In _ (first_token t) (type-token-in t h)
  misplaced-kept _ h = tt

  pub crossed-kept : Keeps (crossed_bounds s)
  crossed-kept (type_part (tree.base_type (Some (bases.Number width)) at (tree.refined (tree.present low) high))) h = at-if In _ (place_of low) (place-in In low h.1.0)
  crossed-kept _ h = tt

  pub high-kept : Keeps (high_bound s)
  high-kept (type_part (tree.base_type (Some (bases.Number width)) at (tree.refined low high))) h = at-if In _ (place_of high) (place-in In high h.1.1)
  high-kept _ h = tt

  pub elements-kept : Keeps (no_elements s)
  elements-kept (type_part (tree.array_of length at element)) h = at-if In _ (place_of length) (place-in In length h.0)
  elements-kept _ h = tt

  pub element-kept : Keeps (element_above_zero s)
  element-kept (type_part (tree.array_of length at element)) h = at-if In _ (first_token element) (type-token-in element h.2)
  element-kept _ h = tt

  pub zero-kept : Keeps (begins_above_zero s)
  zero-kept (placed_type role t) h = at-if In _ (first_token t) (type-token-in t h)
  zero-kept _ h = tt

  pub constant-number-kept : Keeps (value_no_number s)
  constant-number-kept (constant_declared c) h = at-if In _ (place_of c.value) (place-in In c.value h.2)
  constant-number-kept _ h = tt

  pub outside-kept : Keeps (value_outside s)
  outside-kept (constant_declared c) h = at-if In _ (place_of c.value) (place-in In c.value h.2)
  outside-kept _ h = tt

  pub status-kept : Keeps (wrong_status s)
  status-kept (status_declared w) h = at-if In _ w.at h
  status-kept _ h = tt

  pub target-kept : Keeps (wrong_target s)
  target-kept (target t) h = at-if In _ (target_place t) (target-place-in t h)
  target-kept _ h = tt

  pub assigned-kept : Keeps (wrong_assigned s)
  assigned-kept (assigned t None e) h = at-if In _ (target_place t) (target-place-in t h.0)
  assigned-kept _ h = tt

  pub no-value-kept : Keeps (no_value_assigned s)
  no-value-kept (assigned t None (tree.answer (tree.call callee at mark args))) h = at-if In _ (target_place t) (target-place-in t h.0)
  no-value-kept _ h = tt

  updated-in : (t : NamedTargetTree) (e : NamedExprTree) → TargetIsIn In t → ExprIsIn In e → IfSome (updated s t e) (OperandsAreIn In)
  updated-in t e h k =
      let value = option_map (operand_at (place_of e)) (meaning s e) in
      front-in In (option_map (operand_at (target_place t)) (target_meaning s t)) _ (operand-in In (target_place t) (target_meaning s t) (target-place-in t h))
      (front-in In value (Some []) (operand-in In (place_of e) (meaning s e) (place-in In e k)) tt)

  pub update-kept : Keeps (wrong_update s)
  update-kept (assigned t (Some op) e) h = then-in (OperandsAreIn In) In (not_taken (operator_kind op)) (taken-in In (operator_kind op)) (updated s t e) (updated-in t e h.0 h.1)
  update-kept _ h = tt

  pub unfit-update-kept : Keeps (unfit_update s)
  unfit-update-kept (assigned t (Some op) e) h = then-in (OperandsAreIn In) In (not_fitting (operator_kind op)) (fitting-in In (operator_kind op)) (updated s t e) (updated-in t e h.0 h.1)
  unfit-update-kept _ h = tt

  pub condition-kept : Keeps (wrong_condition s)
  condition-kept (condition e) h = at-if In _ (place_of e) (place-in In e h)
  condition-kept _ h = tt

  pub return-kept : Keeps (wrong_return s)
  return-kept (returned at e) h = at-if In _ at h.0
  return-kept _ h = tt

  pub end-kept : Keeps (reaches_end s)
  end-kept (whole_body body) h = at-if In _ (closing_brace body) (brace-in body h)
  end-kept _ h = tt

  pub impure-kept : Keeps (impure_call s)
  impure-kept (calling inside (tree.call callee at mark args)) h = at-if In _ at h.1
  impure-kept _ h = tt

  pub written-kept : Keeps (impure_write s)
  written-kept (target t) h = at-if In _ (target_place t) (target-place-in t h)
  written-kept _ h = tt

  pub coroutine-kept : Keeps (coroutine_call s)
  coroutine-kept (calling inside (tree.call callee at mark args)) h = at-if In _ at h.1
  coroutine-kept _ h = tt

  pub kept-outside-kept : Keeps (kept_outside s)
  kept-outside-kept (kept t (tree.call callee at mark args)) h = at-if In _ at h.1.1
  kept-outside-kept _ h = tt

  pub yielded-outside-kept : Keeps (yielded_outside s)
  yielded-outside-kept (yielded at e) h = at-if In _ at h.0
  yielded-outside-kept _ h = tt

  pub inside-kept : Keeps (call_inside s)
  inside-kept (calling true (tree.call callee at mark args)) h = at-if In _ at h.1
  inside-kept _ h = tt

  pub mark-kept : Keeps (wrong_mark s)
  mark-kept (calling inside (tree.call callee at mark args)) h = at-if In _ at h.1
  mark-kept _ h = tt

  pub no-status-kept : Keeps (not_kept_in_status s)
  no-status-kept (kept t (tree.call callee at mark args)) h = at-if In _ at h.1.1
  no-status-kept _ h = tt

  pub no-coroutine-kept : Keeps (keeps_no_coroutine s)
  no-coroutine-kept (kept t (tree.call callee at mark args)) h = at-if In _ at h.1.1
  no-coroutine-kept _ h = tt

  pub yield-kept : Keeps (wrong_yield s)
  yield-kept (yielded at e) h = at-if In _ (place_of e) (place-in In e h.1)
  yield-kept _ h = tt
