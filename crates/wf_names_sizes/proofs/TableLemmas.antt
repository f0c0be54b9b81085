-- The structs of a package by number.
use Rattle.std.proofs.Common.{◌≡◌, ℕ, ◌+◌, ◌≤◌, List, [], ◌∷◌, ◌++◌, map, drop, length, Some, slice_get, refl, sym, ap, ◌∙◌}
use Rattle.std.proofs.lemmas.List.{append-nil}
use Rattle.wf_ast.specs.declared.parsed.DeclNode.{DeclNode}
use Rattle.wf_ast.specs.declared.parsed.ExprNode.{ExprNode}
use Rattle.wf_ast.specs.declared.parsed.StmtNode.{StmtNode}
use Rattle.wf_ast.specs.ParsedTrees.{expr_trees, stmt_trees, decl_trees, decl_made, decls_made}
use Rattle.wf_names_rules.specs.Declarations.{Structure, Declared, structs_of}
use Rattle.wf_names_sizes.specs.declared.parts.FieldPart.{FieldPart}
use Rattle.wf_names_sizes.specs.StructSizes.{row_of}
use Rattle.wf_names_sizes.proofs.ArrayLemmas.{structs-append}
use Rattle.wf_names_sizes.proofs.ValueLemmas.{decl-there, decls-over}

module _ (exprs : List ExprNode) (stmts : List StmtNode) (ds : List DeclNode) (i : ℕ) where
  pub structs_next : (n : DeclNode) → slice_get ds i ≡ Some n
      → structs_of (drop i (decl_trees exprs stmts ds)) ≡ structs_of (decl_made (expr_trees exprs) (stmt_trees exprs stmts) n.public n.decl n.at ∷ []) ++ structs_of (drop (i + 1) (decl_trees exprs stmts ds))
  unfolding decl_trees
  structs_next n h =
      ap structs_of (decl-there (expr_trees exprs) (stmt_trees exprs stmts) ds i n h)
      ∙ structs-append (decl_made (expr_trees exprs) (stmt_trees exprs stmts) n.public n.decl n.at) (drop (i + 1) (decls_made (expr_trees exprs) (stmt_trees exprs stmts) ds))

  pub structs_none : length ds ≤ i → structs_of (drop i (decl_trees exprs stmts ds)) ≡ []
  unfolding decl_trees
  structs_none h = ap structs_of (decls-over (expr_trees exprs) (stmt_trees exprs stmts) ds i h)

-- Rows.
assoc : (xs ys zs : List (List FieldPart)) → (xs ++ ys) ++ zs ≡ xs ++ (ys ++ zs)
assoc [] ys zs = refl
assoc (x ∷ xs) ys zs = ap (λ rest. x ∷ rest) (assoc xs ys zs)

map-append : (d : Declared) (xs ys : List Structure) → map (row_of d) (xs ++ ys) ≡ map (row_of d) xs ++ map (row_of d) ys
map-append d [] ys = refl
map-append d (x ∷ xs) ys = ap (λ rest. row_of d x ∷ rest) (map-append d xs ys)

pub rows_step : (d : Declared) (old new : List (List FieldPart)) (these others all : List Structure) → new ≡ old ++ map (row_of d) these → all ≡ these ++ others
    → new ++ map (row_of d) others ≡ old ++ map (row_of d) all
rows_step d old new these others all e f =
    ap (λ xs. xs ++ map (row_of d) others) e ∙ assoc old (map (row_of d) these) (map (row_of d) others)
    ∙ ap (λ ys. old ++ ys) (sym (map-append d these others) ∙ ap (map (row_of d)) (sym f))

pub rows_end : (d : Declared) (rows : List (List FieldPart)) (structs : List Structure) → structs ≡ [] → rows ≡ rows ++ map (row_of d) structs
rows_end d rows structs h = sym (ap (λ xs. rows ++ map (row_of d) xs) h ∙ append-nil rows)
