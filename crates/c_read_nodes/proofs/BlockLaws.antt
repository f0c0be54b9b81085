-- Blocks of statements and whole `if`s.
use Rattle.std.proofs.Common.{◌≡◌, ◌<◌, List, ◌∷◌, length, sym, ◌∙◌, ap, subst}
use Rattle.c_text.specs.declared.ids.CStmtId.{CStmtId}
use Rattle.c_text.specs.declared.ids.CNameId.{CNameId}
use Rattle.c_text.specs.declared.kinds.Otherwise.TheVariants as else_is
use Rattle.c_text.specs.CNodes.{Nodes, bytes_at, expr_of, code_of}
use Rattle.c_text.specs.CTree.{Code, finish, branch, variable}
use Rattle.c_read_grammar.specs.Values.{an_expr, perform_expr}
use Rattle.c_read_grammar.specs.declared.actions.ExprAction.TheVariants.{MakeVariableBelow}
use Rattle.c_read_nodes.specs.declared.statements.Branch.{Branch}
use Rattle.c_read_nodes.specs.declared.statements.Statement.{Statement}
use Rattle.c_read_nodes.specs.declared.statements.Statement.TheVariants as says
use Rattle.c_read_nodes.specs.declared.values.Arm.{Arm}
use Rattle.c_read_nodes.specs.declared.values.SemanticValue.{SemanticValue}
use Rattle.c_read_nodes.specs.declared.values.SemanticValue.TheVariants as vals
use Rattle.c_read_nodes.specs.Makers.{Grew}
use Rattle.c_read_nodes.specs.Seen.{seen_value, seen_values, ValueFits, ValuesFit}
use Rattle.c_read_nodes.specs.Shapes.{fits}
use Rattle.c_read_nodes.specs.Statements.{code_with, StatementFits}
use Rattle.c_read_nodes.proofs.Kept.{expr_same, code_same, more_exprs, more_stmts, statement_same, statement_fits, value_same, value_fits}

pub grew_statement : (old new : Nodes) (s : Statement) → Grew old new → StatementFits old s → StatementFits new s
grew_statement old new s g h = statement_fits old new g.sound g.extends s h

pub arm_code : (old mid new : Nodes) (later : Branch) (arm : Arm) (end other : CStmtId) → Grew old mid → Grew mid new → StatementFits old (says.If later) → arm.test.0 < length old.exprs → arm.body.0 < length old.stmts
    → code_of mid end.0 ≡ finish → code_of new other.0 ≡ code_with mid (says.If later) (code_of mid end.0)
    → code_with new (says.If (record { test = arm.test; body = arm.body; otherwise = else_is.If; other = other })) finish ≡ branch (expr_of old arm.test.0) (code_of old arm.body.0) else_is.If (code_with old (says.If later) finish) finish
arm_code old mid new later arm end other g k fits test body is whole =
    let t : expr_of new arm.test.0 ≡ expr_of old arm.test.0 = expr_same mid new k.sound k.extends arm.test (more_exprs old mid g.sound g.extends arm.test test) ∙ expr_same old mid g.sound g.extends arm.test test in
    let b : code_of new arm.body.0 ≡ code_of old arm.body.0 = code_same mid new k.sound k.extends arm.body (more_stmts old mid g.sound g.extends arm.body body) ∙ code_same old mid g.sound g.extends arm.body body in
    let o : code_of new other.0 ≡ code_with old (says.If later) finish = whole ∙ ap (code_with mid (says.If later)) is ∙ statement_same old mid g.sound g.extends (says.If later) finish fits in
    cc (t, b, o)

-- A value above others than before.
pub above : (nodes : Nodes) (n : CNameId) (ws ms : List SemanticValue) (v : SemanticValue) → ValueFits nodes (vals.Name n ∷ ws) v → ValueFits nodes ms v
above nodes n ws ms vals.Unit h = absurd (cc h)
above nodes n ws ms (vals.Name x) h = h
above nodes n ws ms (vals.Number x) h = h
above nodes n ws ms (vals.Text x) h = h
above nodes n ws ms (vals.Expr x) h = h
above nodes n ws ms (vals.Operation x) h = h
above nodes n ws ms (vals.Args x) h = h
above nodes n ws ms (vals.Type x) h = h
above nodes n ws ms vals.Block h = h
above nodes n ws ms (vals.Code x) h = h
above nodes n ws ms (vals.Statement x) h = h
above nodes n ws ms (vals.Arm x) h = h
above nodes n ws ms (vals.Field x) h = h
above nodes n ws ms (vals.Fields x) h = h
above nodes n ws ms (vals.Outcome x) h = h
above nodes n ws ms (vals.Params x) h = h
above nodes n ws ms (vals.Locals x) h = h

-- A variable of the name below the topmost value.
module _ (old new : Nodes) (top : SemanticValue) (n : CNameId) (us ms vs ws pushed : List SemanticValue) (g : Grew old new) (fit : ValuesFit old us) (first : us ≡ top ∷ ms) (second : ms ≡ vals.Name n ∷ vs) (stack : pushed ≡ top ∷ ws) where
  whole : us ≡ top ∷ (vals.Name n ∷ vs)
  whole = first ∙ ap (λ (x : List SemanticValue). top ∷ x) second

  there : ValuesFit old (top ∷ (vals.Name n ∷ vs))
  there = subst (λ (x : List SemanticValue). ValuesFit old x) whole fit

  pub below_made : seen_values new ws ≡ an_expr (variable (bytes_at old.names n.0)) ∷ seen_values old vs → seen_values new pushed ≡ perform_expr MakeVariableBelow (seen_values old us)
  below_made made =
      let t : seen_value new top ≡ seen_value old top = value_same old new g.sound g.extends g.items (vals.Name n ∷ vs) top there.0 in
      let both : seen_value new top ∷ seen_values new ws ≡ seen_value old top ∷ (an_expr (variable (bytes_at old.names n.0)) ∷ seen_values old vs) = cc (t, made) in
      ap (seen_values new) stack ∙ both ∙ sym (ap (λ (x : List SemanticValue). perform_expr MakeVariableBelow (seen_values old x)) whole)

  pub below_fit : ValuesFit new ws → ValuesFit new pushed
  below_fit kept =
      let both : ValuesFit new (top ∷ ws) = (above new n vs ws top (value_fits old new g.sound g.extends (vals.Name n ∷ vs) top there.0), kept) in
      subst (λ (x : List SemanticValue). ValuesFit new x) (sym stack) both
