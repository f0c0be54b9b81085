-- What is put into the unit and on the stack.
use Rattle.std.proofs.Common.{◌≡◌, ◌<◌, ℕ, List, [], ◌∷◌, ◌++◌, length, refl, sym, ◌∙◌, ap, subst, arith, length-append, unwrap_or}
use Rattle.c_text.specs.declared.ids.CExprId.{CExprId}
use Rattle.c_text.specs.declared.nodes.CExpr.{CExpr}
use Rattle.c_text.specs.declared.nodes.CStmt.{CStmt}
use Rattle.c_text.specs.CNodes.{Nodes, no_nodes, bytes_at, expr_of, made_expr}
use Rattle.c_text.specs.declared.ids.CNameId.{CNameId}
use Rattle.c_text.specs.declared.ids.CStringId.{CStringId}
use Rattle.c_text.specs.CUnit.{IsSound, Extends}
use Rattle.c_text.specs.CUnit.{AddsName}
use Rattle.c_text.proofs.Growth.{with_expr, with_stmt, with_string}
use Rattle.c_text.proofs.Trees.{append_nil}
use Rattle.c_text.proofs.Arena.{slice_get-seam}
use Rattle.c_read_nodes.specs.Makers.{Grew}
use Rattle.c_read_grammar.specs.Values.{an_expr, a_name, a_string}
use Rattle.c_read_nodes.specs.declared.values.SemanticValue.{SemanticValue}
use Rattle.c_read_nodes.specs.declared.values.SemanticValue.TheVariants as vals
use Rattle.c_read_nodes.specs.Seen.{seen_values, ValuesFit}
use Rattle.c_read_nodes.proofs.Kept.{values_same, values_fit}

module _ (old new : Nodes) (x : CExpr) (e : CExprId) (vs ws : List SemanticValue) (sound : IsSound old) (fit : ValuesFit old vs) (place : e.0 ≡ length old.exprs) (grown : new ≡ record old { exprs = old.exprs ++ x ∷ [] }) (stack : ws ≡ vals.Expr e ∷ vs) where
  pub expr_made : expr_of new e.0 ≡ made_expr old.names (expr_of old) x → seen_values new ws ≡ an_expr (made_expr old.names (expr_of old) x) ∷ seen_values old vs
  expr_made tree =
      let longer = record old { exprs = old.exprs ++ x ∷ [] } in
      let same : seen_values longer vs ≡ seen_values old vs = values_same old longer sound (with_expr old x) refl vs fit in
      let there : seen_values new vs ≡ seen_values old vs = ap (λ (n : Nodes). seen_values n vs) grown ∙ same in
      ap (seen_values new) stack ∙ (cc (tree, there))

  pub expr_fit : ValuesFit new ws
  expr_fit =
      let longer = record old { exprs = old.exprs ++ x ∷ [] } in
      let kept : ValuesFit longer vs = values_fit old longer sound (with_expr old x) vs fit in
      let count = length-append old.exprs (x ∷ []) in
      let here : e.0 < length (old.exprs ++ x ∷ []) = omega (arith, place, count) in
      let both : ValuesFit longer (vals.Expr e ∷ vs) = (here, kept) in
      let P : Nodes → Type 0 = λ n. ValuesFit n (vals.Expr e ∷ vs) in
      let Q : List SemanticValue → Type 0 = ValuesFit new in
      subst Q (sym stack) (subst P (sym grown) both)

pub expr_grew : (old new : Nodes) (x : CExpr) → IsSound old → new ≡ record old { exprs = old.exprs ++ x ∷ [] } → Grew old new
expr_grew old new x sound grown =
    let longer = record old { exprs = old.exprs ++ x ∷ [] } in
    let there : Grew old longer = record { sound = sound; extends = with_expr old x; items = refl } in
    subst (λ (n : Nodes). Grew old n) (sym grown) there

pub stmt_grew : (old new : Nodes) (x : CStmt) → IsSound old → new ≡ record old { stmts = old.stmts ++ x ∷ [] } → Grew old new
stmt_grew old new x sound grown =
    let longer = record old { stmts = old.stmts ++ x ∷ [] } in
    let there : Grew old longer = record { sound = sound; extends = with_stmt old x; items = refl } in
    subst (λ (n : Nodes). Grew old n) (sym grown) there

-- While a unit grows, values mean the same and fit.
pub grown_same : (old new : Nodes) (vs : List SemanticValue) → Grew old new → ValuesFit old vs → seen_values new vs ≡ seen_values old vs
grown_same old new vs g h = values_same old new g.sound g.extends g.items vs h

pub grown_fit : (old new : Nodes) (vs : List SemanticValue) → Grew old new → ValuesFit old vs → ValuesFit new vs
grown_fit old new vs g h = values_fit old new g.sound g.extends vs h

with_names : (old : Nodes) (added : List (List ℕ)) → Extends old (record old { names = old.names ++ added })
with_names old added = record { more = record no_nodes { names = added }; names = refl; strings = sym (append_nil old.strings); exprs = sym (append_nil old.exprs); stmts = sym (append_nil old.stmts); items = sym (append_nil old.items) }

-- A name that is read.
module _ (old new : Nodes) (name : List ℕ) (n : CNameId) (vs ws : List SemanticValue) (sound : IsSound old) (fit : ValuesFit old vs) (adds : AddsName old new name n.0) (stack : ws ≡ vals.Name n ∷ vs) where
  name_grew : Grew old new
  name_grew =
      let there : Grew old (record old { names = old.names ++ adds.added }) = record { sound = sound; extends = with_names old adds.added; items = refl } in
      subst (λ (x : Nodes). Grew old x) (sym adds.grown) there

  pub name_made : seen_values new ws ≡ a_name name ∷ seen_values old vs
  name_made =
      let same = grown_same old new vs name_grew fit in
      let first : a_name (bytes_at new.names n.0) ≡ a_name name = ap a_name adds.spelt in
      let both : seen_values new (vals.Name n ∷ vs) ≡ a_name name ∷ seen_values old vs = cc (first, same) in
      ap (seen_values new) stack ∙ both

  pub name_fit : ValuesFit new ws
  name_fit =
      let both : ValuesFit new (vals.Name n ∷ vs) = (adds.known, grown_fit old new vs name_grew fit) in
      subst (λ (x : List SemanticValue). ValuesFit new x) (sym stack) both

last_there : (xs : List (List ℕ)) (x : List ℕ) (n : ℕ) → n ≡ length xs → bytes_at (xs ++ x ∷ []) n ≡ x
last_there xs x n is = ap (bytes_at (xs ++ x ∷ [])) is ∙ ap (λ o. unwrap_or o []) (slice_get-seam xs x [])

-- A string that is read.
module _ (old new : Nodes) (bytes : List ℕ) (n : CStringId) (vs ws : List SemanticValue) (sound : IsSound old) (fit : ValuesFit old vs) (place : n.0 ≡ length old.strings) (grown : new ≡ record old { strings = old.strings ++ bytes ∷ [] }) (stack : ws ≡ vals.Text n ∷ vs) where
  text_grew : Grew old new
  text_grew =
      let there : Grew old (record old { strings = old.strings ++ bytes ∷ [] }) = record { sound = sound; extends = with_string old bytes; items = refl } in
      subst (λ (x : Nodes). Grew old x) (sym grown) there

  pub text_made : seen_values new ws ≡ a_string bytes ∷ seen_values old vs
  text_made =
      let same = grown_same old new vs text_grew fit in
      let spelt : bytes_at new.strings n.0 ≡ bytes = ap (λ (x : Nodes). bytes_at x.strings n.0) grown ∙ last_there old.strings bytes n.0 place in
      let first : a_string (bytes_at new.strings n.0) ≡ a_string bytes = ap a_string spelt in
      let both : seen_values new (vals.Text n ∷ vs) ≡ a_string bytes ∷ seen_values old vs = cc (first, same) in
      ap (seen_values new) stack ∙ both

  pub text_fit : ValuesFit new ws
  text_fit =
      let count = length-append old.strings (bytes ∷ []) in
      let here : n.0 < length (old.strings ++ bytes ∷ []) = omega (arith, place, count) in
      let known : n.0 < length new.strings = subst (λ (x : Nodes). n.0 < length x.strings) (sym grown) here in
      let both : ValuesFit new (vals.Text n ∷ vs) = (known, grown_fit old new vs text_grew fit) in
      subst (λ (x : List SemanticValue). ValuesFit new x) (sym stack) both
