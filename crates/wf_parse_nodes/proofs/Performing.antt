-- What is put on the stack and into the package is what the machine makes.
use Rattle.std.proofs.Common.{◌≡◌, Bool, true, false, List, [], ◌∷◌, ◌++◌, length, sym, ◌∙◌, ap, subst, refl}
use Rattle.wf_ast.specs.declared.numbers.ExprId.{ExprId}
use Rattle.wf_ast.specs.declared.numbers.StmtId.{StmtId}
use Rattle.wf_ast.specs.declared.parsed.DeclNode.{DeclNode}
use Rattle.wf_ast.specs.declared.parsed.ExprNode.{ExprNode}
use Rattle.wf_ast.specs.declared.parsed.StmtNode.{StmtNode}
use Rattle.wf_ast.specs.ParsedTrees.{expr_trees, stmt_trees, decl_trees}
use Rattle.wf_ast.specs.ParsedParts.{Parsed, ExprParts, StmtParts, DeclParts}
use Rattle.wf_parse_grammar.specs.declared.symbols.Action.{Action}
use Rattle.wf_parse_grammar.specs.declared.symbols.Action.TheVariants as does
use Rattle.wf_parse_grammar.specs.Values.{Made, perform}
use Rattle.wf_parse_nodes.specs.Products.{Product}
use Rattle.wf_parse_nodes.specs.Products as makes
use Rattle.wf_parse_nodes.specs.declared.shapes.Shape.{Shape}
use Rattle.wf_parse_nodes.specs.declared.values.SemanticValue.{SemanticValue}
use Rattle.wf_parse_nodes.specs.declared.values.SemanticValue.TheVariants as vals
use Rattle.wf_parse_nodes.specs.declared.maker.Maker.{Maker}
use Rattle.wf_parse_nodes.specs.Makers.{IsSound}
use Rattle.wf_parse_nodes.specs.Making.{Making, making}
use Rattle.wf_parse_nodes.specs.Seen.{seen_values, AreOf, IsOrdered, ProductParts, made_of, made_with}
use Rattle.wf_parse_nodes.specs.Shapes.{fits, takes, pushes}
use Rattle.wf_parse_nodes.proofs.ActionLaws.{action-made, action-below}
use Rattle.wf_parse_nodes.proofs.Putting as putting

-- What is there where this was made from what an old maker had.
abbrev pub put_on : Maker → Product → Made
put_on old product = made_with (expr_trees old.package.exprs) (stmt_trees old.package.exprs old.package.stmts) product (seen_values (expr_trees old.package.exprs) (stmt_trees old.package.exprs old.package.stmts) old.values) (decl_trees old.package.exprs old.package.stmts old.package.decls)

module _ (old : Maker) (sound : IsSound old) (product : Product) (q : Parsed) (ws : List SemanticValue) where
  pub expr_put : (n : ExprNode) (x : ExprId) → product ≡ makes.Expr n → x.0 ≡ length old.package.exprs → q ≡ record old.package { exprs = old.package.exprs ++ n ∷ [] } → ws ≡ vals.Expr x ∷ old.values → made_of q ws ≡ put_on old product
  expr_put n x is number e f =
      let there = putting.expr_put old.package n old.values sound.ordered sound.below x number in
      rw (e, f, is) there

  pub stmt_put : (n : StmtNode) (x : StmtId) → product ≡ makes.Stmt n → x.0 ≡ length old.package.stmts → q ≡ record old.package { stmts = old.package.stmts ++ n ∷ [] } → ws ≡ vals.Stmt x ∷ old.values → made_of q ws ≡ put_on old product
  stmt_put n x is number e f =
      let there = putting.stmt_put old.package n old.values sound.ordered sound.below x number in
      rw (e, f, is) there

  pub decl_put : (n : DeclNode) → product ≡ makes.Decl n → q ≡ record old.package { decls = old.package.decls ++ n ∷ [] } → ws ≡ old.values → made_of q ws ≡ put_on old product
  decl_put n is e f =
      let there = putting.decl_put old.package n old.values sound.ordered in
      rw (e, f, is) there

module _ (old new : Maker) (sound : IsSound old) (product : Product) (parts : ProductParts (length old.package.exprs) (length old.package.stmts) product) where
  pub expr_sound : (n : ExprNode) (x : ExprId) → product ≡ makes.Expr n → x.0 ≡ length old.package.exprs → new.package ≡ record old.package { exprs = old.package.exprs ++ n ∷ [] } → new.values ≡ vals.Expr x ∷ old.values → IsSound new
  expr_sound n x is number e f =
      let its : ExprParts (length old.package.exprs) n.expr = let P : Product → Type 0 = ProductParts (length old.package.exprs) (length old.package.stmts) in subst P is parts in
      let P : Parsed → Type 0 = IsOrdered in
      let Q : Parsed → Type 0 = λ p. AreOf p new.values in
      let R : List SemanticValue → Type 0 = AreOf (record old.package { exprs = old.package.exprs ++ n ∷ [] }) in
      record {
        ordered = subst P (sym e) (putting.expr_ordered old.package n old.values sound.ordered sound.below x number its);
        below = subst Q (sym e) (subst R (sym f) (putting.expr_of old.package n old.values sound.ordered sound.below x number));
      }

  pub stmt_sound : (n : StmtNode) (x : StmtId) → product ≡ makes.Stmt n → x.0 ≡ length old.package.stmts → new.package ≡ record old.package { stmts = old.package.stmts ++ n ∷ [] } → new.values ≡ vals.Stmt x ∷ old.values → IsSound new
  stmt_sound n x is number e f =
      let its : StmtParts (length old.package.exprs) (length old.package.stmts) n.stmt = let P : Product → Type 0 = ProductParts (length old.package.exprs) (length old.package.stmts) in subst P is parts in
      let P : Parsed → Type 0 = IsOrdered in
      let Q : Parsed → Type 0 = λ p. AreOf p new.values in
      let R : List SemanticValue → Type 0 = AreOf (record old.package { stmts = old.package.stmts ++ n ∷ [] }) in
      record {
        ordered = subst P (sym e) (putting.stmt_ordered old.package n old.values sound.ordered sound.below x number its);
        below = subst Q (sym e) (subst R (sym f) (putting.stmt_of old.package n old.values sound.ordered sound.below x number));
      }

  pub decl_sound : (n : DeclNode) → product ≡ makes.Decl n → new.package ≡ record old.package { decls = old.package.decls ++ n ∷ [] } → new.values ≡ old.values → IsSound new
  decl_sound n is e f =
      let its : DeclParts (length old.package.exprs) (length old.package.stmts) n.decl = let P : Product → Type 0 = ProductParts (length old.package.exprs) (length old.package.stmts) in subst P is parts in
      let P : Parsed → Type 0 = IsOrdered in
      let Q : Parsed → Type 0 = λ p. AreOf p new.values in
      let R : List SemanticValue → Type 0 = AreOf (record old.package { decls = old.package.decls ++ n ∷ [] }) in
      record {
        ordered = subst P (sym e) (putting.decl_ordered old.package n old.values sound.ordered its);
        below = subst Q (sym e) (subst R (sym f) sound.below);
      }

-- An action whose values don't stand there.
pub misfit_performed : (p : Parsed) (vs ws : List SemanticValue) (a : Action) (shapes : List Shape) (fit : Bool) → shapes ≡ takes a → fit ≡ fits shapes vs → fit ≡ false → ws ≡ []
    → made_of p ws ≡ perform a (made_of p vs)
misfit_performed p vs ws a shapes fit s f not_there w =
    let es = expr_trees p.exprs in
    let ss = stmt_trees p.exprs p.stmts in
    let none : fits (takes a) vs ≡ false = ap (λ x. fits x vs) (sym s) ∙ sym f ∙ not_there in
    let law = action-made es ss (decl_trees p.exprs p.stmts p.decls) a vs in
    rw w (rw none at law)

-- An action that fits: what it makes, put on what it leaves.
module _ (old : Maker) (a : Action) (fit : fits (takes a) old.values ≡ true) (product : Product) (ws : List SemanticValue) (e : let m : Making = record { product = product; vals = ws } in making a old.values ≡ m) where
  pub fit_performed : put_on (record old { values = ws }) product ≡ perform a (made_of old.package old.values)
  fit_performed =
      let es = expr_trees old.package.exprs in
      let ss = stmt_trees old.package.exprs old.package.stmts in
      let law = action-made es ss (decl_trees old.package.exprs old.package.stmts old.package.decls) a old.values in
      rw (fit, e) at law

  fit_below : AreOf old.package old.values → ProductParts (length old.package.exprs) (length old.package.stmts) product × AreOf old.package ws
  fit_below b =
      let P : Making → Type 0 = λ x. ProductParts (length old.package.exprs) (length old.package.stmts) x.product × AreOf old.package x.vals in
      subst P e (action-below (length old.package.exprs) (length old.package.stmts) a old.values fit b)

  pub fit_parts : AreOf old.package old.values → ProductParts (length old.package.exprs) (length old.package.stmts) product
  fit_parts b = (fit_below b).0

  pub fit_sound : IsSound old → IsSound (record old { values = ws })
  fit_sound sound = record { ordered = sound.ordered; below = (fit_below sound.below).1 }

-- An action that pushes finds whatever it takes, which is nothing.
push_fits : (a : Action) (vs : List SemanticValue) → pushes a ≡ true → fits (takes a) vs ≡ true
push_fits (does.PushName _) vs h = refl
push_fits (does.PushPlace _) vs h = refl
push_fits (does.PushMark _) vs h = refl
push_fits (does.PushPublic _) vs h = refl
push_fits (does.PushSign _ _) vs h = refl
push_fits (does.BarePath _) vs h = refl
push_fits does.NoPart vs h = refl
push_fits does.StartGivens vs h = refl
push_fits does.StartType vs h = refl
push_fits does.NoBounds vs h = refl
push_fits does.StartItems vs h = refl
push_fits does.StartArms vs h = refl
push_fits does.NoElse vs h = refl
push_fits does.StartClauses vs h = refl
push_fits does.NoLabel vs h = refl
push_fits does.NoVia vs h = refl
push_fits does.StartFields vs h = refl
push_fits _ vs h = absurd (cc h)

-- What such an action pushes, put on what was there.
module _ (old : Maker) (a : Action) (v : SemanticValue) (h : pushes a ≡ true) (e : (vs : List SemanticValue) → let pushed : Making = record { product = makes.Value v; vals = vs } in making a vs ≡ pushed) where
  pub push_performed : put_on old (makes.Value v) ≡ perform a (made_of old.package old.values)
  push_performed = fit_performed old a (push_fits a old.values h) (makes.Value v) old.values (e old.values)

  pub push_parts : AreOf old.package old.values → ProductParts (length old.package.exprs) (length old.package.stmts) (makes.Value v)
  push_parts b = fit_parts old a (push_fits a old.values h) (makes.Value v) old.values (e old.values) b
