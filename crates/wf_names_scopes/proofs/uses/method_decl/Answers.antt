use Rattle.std.proofs.Common.{◌≡◌, ◌∙◌, ℕ, Bool, List, [], ◌∷◌, Some, length, slice_get, ap, arith}
use Rattle.wf_ast.specs.declared.parsed.Field.{Field}
use Rattle.wf_ast.specs.declared.parsed.Name.{Name}
use Rattle.wf_ast.specs.ParsedParts.{Parsed}
use Rattle.wf_ast.specs.ParsedTree.{ResultTree, BlockTree}
use Rattle.wf_ast.specs.ParsedTrees.{expr_trees, stmt_trees, fields_at, result_at, block_at}
use Rattle.wf_names_rules.specs.Called.{with_calls}
use Rattle.wf_names_rules.specs.Declarations.{Declared, Method, variables, locals_of, declared_in}
use Rattle.wf_names_rules.specs.Meanings.{known_at}
use Rattle.wf_names_rules.specs.Uses.{method_scope, method_uses}
use Rattle.wf_names_scopes.specs.Growing.{AreNext}
use Rattle.wf_names_scopes.proofs.NextLemmas.{next-at}
use Rattle.wf_names_scopes.proofs.PackageLemmas.{on_ok}
use Rattle.wf_names_scopes.proofs.RowLemmas.{method-added}
use Rattle.wf_names_scopes.proofs.uses.method_decl.Goals as goal

-- The method that is declared, and its number.
abbrev method_here : Parsed → (public : Bool) → (owner name : Name) → List Field → ResultTree → BlockTree → Method
method_here p public owner name args result body =
    record { public = public; owner = owner; name = name; args = variables (fields_at (expr_trees p.exprs) args); result = result; locals = locals_of body; body = body }

numbered : (d : Declared) (n rows : ℕ) (m : Method) → n ≡ rows → AreNext d rows (m ∷ []) → slice_get d.methods n ≡ Some m
numbered d n rows m count next = ap (λ k. slice_get d.methods k) count ∙ next-at d rows m next

pub method_uses-requires-clause-inside : goal.method_uses-requires-clause-inside
method_uses-requires-clause-inside c =
    let p = c.args.whole.now.parsed.now in
    let d = declared_in p in
    let m = method_here p c.args.node.now.public c.in-Method.of c.in-Method.name c.in-Method.args (result_at (expr_trees p.exprs) c.in-Method.gives) (block_at (stmt_trees p.exprs p.stmts) c.in-Method.body) in
    let next = rw c.in-Method.is at c.requires.next in
    let at = numbered d c.len.result (length c.args.bodies.now.rows.items) m (omega (arith, c.len.ensures)) next in
    rw c.as_slice.ensures (c.enter_method.ensures d m c.requires.constants at)

pub returns-in_ok-method_uses-in-Method-clause-rows : goal.returns-in_ok-method_uses-in-Method-clause-rows
returns-in_ok-method_uses-in-Method-clause-rows c =
    let p = c.args.whole.now.parsed.now in
    let d = declared_in p in
    let m = method_here p c.args.node.now.public c.in-Method.of c.in-Method.name c.in-Method.args (result_at (expr_trees p.exprs) c.in-Method.gives) (block_at (stmt_trees p.exprs p.stmts) c.in-Method.body) in
    let made = rw c.as_slice.ensures at c.in_ok-method_uses-in-Method.ensures.row in
    rw c.in-Method.is
    (on_ok c.add_body.result (method-added d m c.args.bodies.now.rows.items c.add_body.new.bodies.rows.items c.method_uses.new.gathered.row (made ∙ ap (λ row. with_calls (known_at d (method_scope d m)) row (method_uses m)) c.new.ensures)) c.add_body.ensures.rows)

pub returns-in_ok-method_uses-in-Method-clause-constants : goal.returns-in_ok-method_uses-in-Method-clause-constants
returns-in_ok-method_uses-in-Method-clause-constants c =
    let p = c.args.whole.now.parsed.now in
    let d = declared_in p in
    let m = method_here p c.args.node.now.public c.in-Method.of c.in-Method.name c.in-Method.args (result_at (expr_trees p.exprs) c.in-Method.gives) (block_at (stmt_trees p.exprs p.stmts) c.in-Method.body) in
    let next = rw c.in-Method.is at c.requires.next in
    let at = numbered d c.len.result (length c.args.bodies.now.rows.items) m (omega (arith, c.len.ensures)) next in
    on_ok c.add_body.result (λ h. (c.enter_method.ensures d m c.requires.constants at).constants) c.add_body.ensures.labels
