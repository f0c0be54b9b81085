-- What is performed is what the machine performs.
use Rattle.std.proofs.Common.{◌≡◌, Bool, true, false, ◌&&◌, if◌then◌else◌, List, [], sym, ◌∙◌, ap, subst}
use Rattle.c_text.specs.CNodes.{Nodes}
use Rattle.c_read_grammar.specs.Values.{perform}
use Rattle.c_read_grammar.specs.declared.actions.Action.{Action}
use Rattle.c_read_grammar.specs.declared.actions.Action.TheVariants as acts
use Rattle.c_read_nodes.specs.declared.shapes.Shape.{Shape}
use Rattle.c_read_nodes.specs.declared.values.SemanticValue.{SemanticValue}
use Rattle.c_read_nodes.specs.Making.{Making, making}
use Rattle.c_read_nodes.specs.Seen.{seen_values, ValuesFit, ProductFits, made_with}
use Rattle.c_read_nodes.specs.Shapes.{fits, takes, meets, is_plain}
use Rattle.c_read_nodes.proofs.MakeExprs.{expr-made, expr-fit}
use Rattle.c_read_nodes.proofs.MakeTypes.{type-made, type-fit}
use Rattle.c_read_nodes.proofs.MakeStmts.{stmt-made, stmt-fit}
use Rattle.c_read_nodes.proofs.MakeItems.{item-made, item-fit}

module _ (nodes : Nodes) where
  action-made : (a : Action) (vs : List SemanticValue) → is_plain a ≡ true → (if fits (takes a) vs && meets nodes a vs then made_with nodes (making a vs).product (seen_values nodes (making a vs).vals) else []) ≡ perform a (seen_values nodes vs)
  action-made (acts.Expr a) vs p = expr-made nodes a vs p
  action-made (acts.Type a) vs p = type-made nodes a vs p
  action-made (acts.Stmt a) vs p = stmt-made nodes a vs p
  action-made (acts.Item a) vs p = item-made nodes a vs p

  action-fit : (a : Action) (vs : List SemanticValue) → is_plain a ≡ true → fits (takes a) vs ≡ true → meets nodes a vs ≡ true → ValuesFit nodes vs → ProductFits nodes (making a vs).vals (making a vs).product × ValuesFit nodes (making a vs).vals
  action-fit (acts.Expr a) vs p f c h = expr-fit nodes a vs p f c h
  action-fit (acts.Type a) vs p f c h = type-fit nodes a vs p f c h
  action-fit (acts.Stmt a) vs p f c h = stmt-fit nodes a vs p f c h
  action-fit (acts.Item a) vs p f c h = item-fit nodes a vs p f c h

  -- The topmost values have other shapes than the action takes, or aren't what it asks for.
  pub misfit_performed : (a : Action) (vs ws : List SemanticValue) (shapes : List Shape) (b : Bool) → is_plain a ≡ true → shapes ≡ takes a → b ≡ fits shapes vs → b ≡ false → ws ≡ [] → seen_values nodes ws ≡ perform a (seen_values nodes vs)
  misfit_performed a vs ws shapes b p is test fails empty =
      let f : fits (takes a) vs ≡ false = ap (λ s. fits s vs) (sym is) ∙ sym test ∙ fails in
      let law = action-made a vs p in
      ap (seen_values nodes) empty ∙ (rw f at law)

  pub unmet_performed : (a : Action) (vs ws : List SemanticValue) (shapes : List Shape) (b m : Bool) → is_plain a ≡ true → shapes ≡ takes a → b ≡ fits shapes vs → b ≡ true → m ≡ meets nodes a vs → m ≡ false → ws ≡ [] → seen_values nodes ws ≡ perform a (seen_values nodes vs)
  unmet_performed a vs ws shapes b m p is test holds asked fails empty =
      let f : fits (takes a) vs ≡ true = ap (λ s. fits s vs) (sym is) ∙ sym test ∙ holds in
      let g : meets nodes a vs ≡ false = sym asked ∙ fails in
      let law = action-made a vs p in
      ap (seen_values nodes) empty ∙ (rw (f, g) at law)

  pub fit_performed : (a : Action) (vs : List SemanticValue) (shapes : List Shape) (b m : Bool) (made : Making) → is_plain a ≡ true → shapes ≡ takes a → b ≡ fits shapes vs → b ≡ true → m ≡ meets nodes a vs → m ≡ true → making a vs ≡ made → made_with nodes made.product (seen_values nodes made.vals) ≡ perform a (seen_values nodes vs)
  fit_performed a vs shapes b m made p is test holds asked met makes =
      let f : fits (takes a) vs ≡ true = ap (λ s. fits s vs) (sym is) ∙ sym test ∙ holds in
      let g : meets nodes a vs ≡ true = sym asked ∙ met in
      let law = action-made a vs p in
      sym (ap (λ (k : Making). made_with nodes k.product (seen_values nodes k.vals)) makes) ∙ (rw (f, g) at law)

  pub fit_there : (a : Action) (vs : List SemanticValue) (shapes : List Shape) (b m : Bool) (made : Making) → is_plain a ≡ true → shapes ≡ takes a → b ≡ fits shapes vs → b ≡ true → m ≡ meets nodes a vs → m ≡ true → making a vs ≡ made → ValuesFit nodes vs → ProductFits nodes made.vals made.product × ValuesFit nodes made.vals
  fit_there a vs shapes b m made p is test holds asked met makes h =
      let f : fits (takes a) vs ≡ true = ap (λ s. fits s vs) (sym is) ∙ sym test ∙ holds in
      let g : meets nodes a vs ≡ true = sym asked ∙ met in
      let P : Making → Type 0 = λ k. ProductFits nodes k.vals k.product × ValuesFit nodes k.vals in
      subst P makes (action-fit a vs p f g h)
