-- The rows of the methods, by the types of their arguments and declaration by declaration.
use Rattle.std.proofs.Common.{◌≡◌, ℕ, ◌+◌, ◌<◌, List, [], ◌∷◌, ◌++◌, length, drop, slice_get, slice_index_or, Some, refl, sym, ap, ◌∙◌, subst}
use Rattle.wf_ast.specs.declared.parsed.DeclNode.{DeclNode}
use Rattle.wf_ast.specs.declared.parsed.Field.{Field}
use Rattle.wf_ast.specs.ParsedParts.{Parsed}
use Rattle.wf_ast.specs.ParsedTree.{ExprTree, StmtTree, DeclTree}
use Rattle.wf_ast.specs.ParsedTrees.{expr_trees, stmt_trees, type_at, fields_at, decl_made, decls_made}
use Rattle.wf_names_rules.specs.declared.tables.Tables.{Tables}
use Rattle.wf_names_rules.specs.declared.tables.Scope.{Scope as ScopeTables}
use Rattle.wf_names_rules.specs.Declarations.{Method, Declared, variables, methods_of, declared_in}
use Rattle.wf_names_rules.specs.Uses.{Use, Scope, method_scope, method_uses, type_uses, variable_uses}
use Rattle.wf_names_rules.specs.Meanings.{Known, known_at}
use Rattle.wf_names_rules.specs.Tables.{known_by}
use Rattle.wf_names_rules.proofs.CalledLemmas.{rows_append}
use Rattle.wf_names_rules.proofs.WalkLemmas.{drop-one}
use Rattle.wf_names_scopes.specs.Agreeing.{TellsPackage, TellsScope}
use Rattle.wf_names_scopes.proofs.AgreeLemmas.{agree_by, agree_same}
use Rattle.wf_names_scopes.proofs.PackageLemmas.{trees_made, methods_append}
use Rattle.wf_names_scopes.proofs.UseLemmas.{drop_at}
use Rattle.wf_names_rules.specs.Called.{with_calls}
use Rattle.wf_names_scopes.specs.CallRows.{called_in, AreRowsInFront}
use Rattle.wf_names_scopes.proofs.CallRowLemmas.{row-is, front-none, front-more}

-- Arguments one by one.
pub field-called : (k : Known) (row next : List ℕ) (es : List ExprTree) (fields : List Field) (i : ℕ) (x : Field) → x ≡ slice_index_or fields i x → i < length fields
    → next ≡ with_calls k row (type_uses (type_at es x.of))
    → with_calls k next (variable_uses (variables (fields_at es (drop (i + 1) fields)))) ≡ with_calls k row (variable_uses (variables (fields_at es (drop i fields))))
field-called k row next es fields i x is h e =
    let split : drop i fields ≡ x ∷ drop (i + 1) fields = drop-one fields i x h ∙ ap (λ y. y ∷ drop (i + 1) fields) (sym is) in
    rows_append k row next (type_uses (type_at es x.of)) (variable_uses (variables (fields_at es (drop (i + 1) fields)))) e
    ∙ sym (ap (λ l. with_calls k row (variable_uses (variables (fields_at es l)))) split)

-- What tables find called that tell the package and the scope is called there.
pub called-there : (p : Parsed) (t : Tables) (s : ScopeTables) (scope : Scope) (old new : List ℕ) (us : List Use) → TellsPackage (declared_in p) t → TellsScope (declared_in p) scope s
    → new ≡ with_calls (known_by p.texts t s) old us → new ≡ with_calls (known_at (declared_in p) scope) old us
called-there p t s scope old new us tells known e =
    e ∙ ap (λ k. with_calls k old us) (agree_same (known_by p.texts t s) (known_at (declared_in p) scope) (agree_by (declared_in p) scope t s tells known))

-- One method more.
pub method-added : (d : Declared) (m : Method) (old new : List (List ℕ)) (row : List ℕ) → row ≡ called_in (known_at d (method_scope d m)) (method_uses m) → new ≡ old ++ row ∷ []
    → (left : List Method) → AreRowsInFront d old (m ∷ left) → AreRowsInFront d new left
method-added d m old new row made pushed left h =
    let P : List (List ℕ) → Type 0 = λ rows. AreRowsInFront d rows left in
    let Q : List ℕ → Type 0 = λ r. AreRowsInFront d (old ++ r ∷ []) left in
    subst P (sym pushed) (subst Q (sym made) (front-more d old m (called_in (known_at d (method_scope d m)) (method_uses m)) left h (row-is d m (known_at d (method_scope d m)) (λ c. refl))))

-- Where the loop over the declarations begins and goes on.
pub rows-begun : (p : Parsed) (rows : List (List ℕ)) → rows ≡ []
    → AreRowsInFront (declared_in p) rows (methods_of (decls_made (expr_trees p.exprs) (stmt_trees p.exprs p.stmts) p.decls))
rows-begun p rows e =
    let P : List DeclTree → Type 0 = λ ds. AreRowsInFront (declared_in p) [] (methods_of ds) in
    let Q : List (List ℕ) → Type 0 = λ rs. AreRowsInFront (declared_in p) rs (methods_of (decls_made (expr_trees p.exprs) (stmt_trees p.exprs p.stmts) p.decls)) in
    subst Q (sym e) (subst P (trees_made p) (front-none (declared_in p)))

pub rows-next : (d : Declared) (es : List ExprTree) (ts : List StmtTree) (decls : List DeclNode) (i : ℕ) (n : DeclNode) → slice_get decls i ≡ Some n → (old new : List (List ℕ))
    → ((left : List Method) → AreRowsInFront d old (methods_of (decl_made es ts n.public n.decl n.at ∷ []) ++ left) → AreRowsInFront d new left)
    → AreRowsInFront d old (methods_of (decls_made es ts (drop i decls))) → AreRowsInFront d new (methods_of (decls_made es ts (drop (i + 1) decls)))
rows-next d es ts decls i n at old new step h =
    let made = decl_made es ts n.public n.decl n.at in
    let rest = decls_made es ts (drop (i + 1) decls) in
    let split : methods_of (decls_made es ts (drop i decls)) ≡ methods_of (made ∷ []) ++ methods_of rest = ap (λ ns. methods_of (decls_made es ts ns)) (drop_at decls i n at) ∙ methods_append (made ∷ []) rest in
    let P : List Method → Type 0 = λ ms. AreRowsInFront d old ms in
    step (methods_of rest) (subst P split h)
