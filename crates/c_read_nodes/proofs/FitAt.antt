-- What stands anywhere on the stack fits.
use Rattle.std.proofs.Common.{◌≡◌, ◌<◌, ℕ, zero, suc, Option, Some, List, [], ◌∷◌, length, sym, ◌∙◌}
use Rattle.std.specs.List.{slice_get}
use Rattle.c_text.specs.declared.ids.CExprId.{CExprId}
use Rattle.c_text.specs.CNodes.{Nodes}
use Rattle.c_read_nodes.specs.declared.values.SemanticValue.{SemanticValue}
use Rattle.c_read_nodes.specs.declared.values.SemanticValue.TheVariants as vals
use Rattle.c_read_nodes.specs.Seen.{ValueFits, ValuesFit}
use Rattle.c_read_nodes.specs.Shapes.{value_expr, expr_in}

value_fits : (nodes : Nodes) (below : List SemanticValue) (v : SemanticValue) (e : CExprId) → ValueFits nodes below v → value_expr v ≡ Some e → e.0 < length nodes.exprs
value_fits nodes below (vals.Expr x) e h is = let same : x ≡ e = cc is in rw same at h
value_fits nodes below v e h is = absurd (cc is)

expr_fits_at : (nodes : Nodes) (vs : List SemanticValue) (i : ℕ) (e : CExprId) → ValuesFit nodes vs → expr_in (slice_get vs i) ≡ Some e → e.0 < length nodes.exprs
expr_fits_at nodes [] i e h is = absurd (cc is)
expr_fits_at nodes (v ∷ vs) zero e h is = value_fits nodes vs v e h.0 is
expr_fits_at nodes (v ∷ vs) (suc i) e h is = expr_fits_at nodes vs i e h.1 is

pub expr_there : (nodes : Nodes) (vs : List SemanticValue) (i : ℕ) (o : Option CExprId) (e : CExprId) → ValuesFit nodes vs → o ≡ expr_in (slice_get vs i) → o ≡ Some e → e.0 < length nodes.exprs
expr_there nodes vs i o e h is some = expr_fits_at nodes vs i e h (sym is ∙ some)
