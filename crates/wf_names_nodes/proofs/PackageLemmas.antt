-- The resolved package while declarations are added.
use Rattle.std.proofs.Common.{◌≡◌, ℕ, ◌+◌, ◌≤◌, List, [], ◌∷◌, ◌++◌, map, length, drop, slice_get, Some, Result, Ok, Err, OnOk, refl, sym, ap, ◌∙◌, subst, append_assoc, append-nil, length-append, arith}
use Rattle.std.proofs.lemmas.List.{map-append}
use Rattle.wf_text.specs.declared.faults.NoMemory.{NoMemory}
use Rattle.wf_ast.specs.declared.parsed.DeclNode.{DeclNode}
use Rattle.wf_ast.specs.ParsedParts.{Parsed}
use Rattle.wf_ast.specs.ParsedTree as tree
use Rattle.wf_ast.specs.ParsedTree.{ExprTree, StmtTree, DeclTree}
use Rattle.wf_ast.specs.ParsedTrees.{expr_trees, stmt_trees, decl_trees, decl_made, decls_made}
use Rattle.wf_named.specs.NamedTree.{Word, ConstTree, NamedStructTree, NamedMethodTree, NamedPackageTree}
use Rattle.wf_named.specs.NamedParts.{NamedParts, named_package, exprs_of, stmts_of}
use Rattle.wf_named.specs.NamedTrees.{method_made}
use Rattle.wf_names_rules.specs.declared.tables.Scope.{Scope as ScopeTables}
use Rattle.wf_names_rules.specs.Declarations.{Variable, Constant, Method, Declared, variables, locals_of, as_variable, constants_of, statuses_of, methods_of, text_of, declared_in}
use Rattle.wf_names_rules.specs.Uses.{constant_scope}
use Rattle.wf_names_scopes.specs.Agreeing.{TellsScope, TellsConstants}
use Rattle.wf_names_scopes.proofs.FirstLemmas.{map_length}
use Rattle.wf_names_scopes.proofs.PackageLemmas.{constants_append, statuses_append, trees_made}
use Rattle.wf_names_scopes.proofs.UseLemmas.{drop_at, past_end}
use Rattle.wf_names_resolve.specs.Standing.{standing_at}
use Rattle.wf_names_resolve.specs.Resolved.{word_of}
use Rattle.wf_names_resolve.specs.Package.{resolved_const, resolved_consts, struct_in, method_in, resolved_structs, resolved_methods, resolved_by}
use Rattle.wf_names_nodes.specs.Declaring.{with_consts, with_statuses, with_structs, with_methods, with_others}

-- Nothing added, and some added after others.
module _ (t : NamedPackageTree) where
  pub no_consts : t ≡ with_consts t []
  no_consts = ap (λ cs. record t { consts = cs }) (sym (append-nil t.consts))

  pub no_statuses : t ≡ with_statuses t []
  no_statuses = ap (λ ss. record t { statuses = ss }) (sym (append-nil t.statuses))

  pub no_structs : t ≡ with_structs t []
  no_structs = ap (λ ss. record t { structs = ss }) (sym (append-nil t.structs))

  pub no_methods : t ≡ with_methods t []
  no_methods = ap (λ ms. record t { methods = ms }) (sym (append-nil t.methods))

  pub consts_behind : (xs ys : List ConstTree) → with_consts (with_consts t xs) ys ≡ with_consts t (xs ++ ys)
  consts_behind xs ys = ap (λ cs. record t { consts = cs }) (append_assoc t.consts xs ys)

-- Lists of declarations after each other.
structs_append : (d : Declared) (xs ys : List DeclTree) → resolved_structs d (xs ++ ys) ≡ resolved_structs d xs ++ resolved_structs d ys
structs_append d [] ys = refl
structs_append d (tree.status public text at ∷ xs) ys = structs_append d xs ys
structs_append d (tree.constant public name of value at ∷ xs) ys = structs_append d xs ys
structs_append d (tree.structure public name mark fields at ∷ xs) ys = ap (λ ss. struct_in d public (record { name = name; fields = variables fields }) ∷ ss) (structs_append d xs ys)
structs_append d (tree.method public owner name mark args result body at ∷ xs) ys = structs_append d xs ys

methods_append : (d : Declared) (xs ys : List DeclTree) → resolved_methods d (xs ++ ys) ≡ resolved_methods d xs ++ resolved_methods d ys
methods_append d [] ys = refl
methods_append d (tree.status public text at ∷ xs) ys = methods_append d xs ys
methods_append d (tree.constant public name of value at ∷ xs) ys = methods_append d xs ys
methods_append d (tree.structure public name mark fields at ∷ xs) ys = methods_append d xs ys
methods_append d (tree.method public owner name mark args result body at ∷ xs) ys =
    let m : Method = record { public = public; owner = owner; name = name; args = variables args; result = result; locals = locals_of body; body = body } in
    ap (λ ms. method_in d mark m ∷ ms) (methods_append d xs ys)

words_append : (d : Declared) (xs ys : List DeclTree) → map (word_of (text_of d)) (statuses_of (xs ++ ys)) ≡ map (word_of (text_of d)) (statuses_of xs) ++ map (word_of (text_of d)) (statuses_of ys)
words_append d xs ys = ap (λ ns. map (word_of (text_of d)) ns) (statuses_append xs ys) ∙ map-append (word_of (text_of d)) (statuses_of xs) (statuses_of ys)

consts_append : (d : Declared) (known : List Variable) (xs ys : List Constant)
    → resolved_consts d known (xs ++ ys) ≡ resolved_consts d known xs ++ resolved_consts d (known ++ map as_variable xs) ys
consts_append d known [] ys = ap (λ k. resolved_consts d k ys) (sym (append-nil known))
consts_append d known (c ∷ xs) ys =
    let more = known ++ as_variable c ∷ [] in
    ap (λ r. resolved_const (standing_at d (constant_scope known)) c.name c.of c.value ∷ r)
    (consts_append d more xs ys ∙ ap (λ k. resolved_consts d more xs ++ resolved_consts d k ys) (append_assoc known (as_variable c ∷ []) (map as_variable xs)))

-- All kinds of declarations but constants.
pub no_others : (d : Declared) (t : NamedPackageTree) → t ≡ with_others d t []
no_others d t = no_statuses t ∙ no_structs (with_statuses t []) ∙ no_methods (with_structs (with_statuses t []) [])

others_behind : (d : Declared) (t : NamedPackageTree) (xs ys : List DeclTree) → with_others d (with_others d t xs) ys ≡ with_others d t (xs ++ ys)
others_behind d t xs ys =
    let make : List Word → List NamedStructTree → List NamedMethodTree → NamedPackageTree = λ ws ss ms. record t { statuses = ws; structs = ss; methods = ms } in
    let w = map (word_of (text_of d)) (statuses_of xs) in
    let v = map (word_of (text_of d)) (statuses_of ys) in
    let words : (t.statuses ++ w) ++ v ≡ t.statuses ++ map (word_of (text_of d)) (statuses_of (xs ++ ys)) = append_assoc t.statuses w v ∙ ap (λ l. t.statuses ++ l) (sym (words_append d xs ys)) in
    let structs : (t.structs ++ resolved_structs d xs) ++ resolved_structs d ys ≡ t.structs ++ resolved_structs d (xs ++ ys) =
    append_assoc t.structs (resolved_structs d xs) (resolved_structs d ys) ∙ ap (λ l. t.structs ++ l) (sym (structs_append d xs ys)) in
    let methods : (t.methods ++ resolved_methods d xs) ++ resolved_methods d ys ≡ t.methods ++ resolved_methods d (xs ++ ys) =
    append_assoc t.methods (resolved_methods d xs) (resolved_methods d ys) ∙ ap (λ l. t.methods ++ l) (sym (methods_append d xs ys)) in
    ap (λ l. make l ((t.structs ++ resolved_structs d xs) ++ resolved_structs d ys) ((t.methods ++ resolved_methods d xs) ++ resolved_methods d ys)) words
    ∙ ap (λ l. make (t.statuses ++ map (word_of (text_of d)) (statuses_of (xs ++ ys))) l ((t.methods ++ resolved_methods d xs) ++ resolved_methods d ys)) structs
    ∙ ap (λ l. make (t.statuses ++ map (word_of (text_of d)) (statuses_of (xs ++ ys))) (t.structs ++ resolved_structs d (xs ++ ys)) l) methods

-- One declaration alone.
pub only_statuses : (t : NamedPackageTree) (ws : List Word) → with_statuses t ws ≡ with_methods (with_structs (with_statuses t ws) []) []
only_statuses t ws = no_structs (with_statuses t ws) ∙ no_methods (with_structs (with_statuses t ws) [])

pub only_structs : (t : NamedPackageTree) (ss : List NamedStructTree) → with_structs t ss ≡ with_methods (with_structs (with_statuses t []) ss) []
only_structs t ss = ap (λ u. with_structs u ss) (no_statuses t) ∙ no_methods (with_structs (with_statuses t []) ss)

pub only_methods : (t : NamedPackageTree) (ms : List NamedMethodTree) → with_methods t ms ≡ with_methods (with_structs (with_statuses t []) []) ms
only_methods t ms = ap (λ u. with_methods u ms) (no_statuses t ∙ no_structs (with_statuses t []))

-- What the loop keeps over constants: those that are added, and those that are left, `rest`, are all.
pub record ConstsAdded (d : Declared) (began now : NamedPackageTree) (rest : List Constant) (s : ScopeTables) : Type 0 where
  pub known : List Variable
  pub tells : TellsScope d (constant_scope known) s
  pub split : known ++ map as_variable rest ≡ map as_variable d.constants
  pub same : with_consts now (resolved_consts d known rest) ≡ with_consts began (resolved_consts d [] d.constants)

consts_passed : (d : Declared) (began now next : NamedPackageTree) (xs ys : List Constant) (old new : ScopeTables) → ConstsAdded d began now (xs ++ ys) old
    → ((known : List Variable) → TellsScope d (constant_scope known) old → next ≡ with_consts now (resolved_consts d known xs))
    → ((d : Declared) (known left : List Variable) → (known ++ map as_variable xs) ++ left ≡ map as_variable d.constants → TellsScope d (constant_scope known) old → TellsScope d (constant_scope (known ++ map as_variable xs)) new)
    → ConstsAdded d began next ys new
consts_passed d began now next xs ys old new a step tells =
    let known = a.known ++ map as_variable xs in
    let split : known ++ map as_variable ys ≡ map as_variable d.constants =
    append_assoc a.known (map as_variable xs) (map as_variable ys) ∙ ap (λ r. a.known ++ r) (sym (map-append as_variable xs ys)) ∙ a.split in record {
      known = known;
      tells = tells d a.known (map as_variable ys) split a.tells;
      split = split;
      same = ap (λ t. with_consts t (resolved_consts d known ys)) (step a.known a.tells) ∙ consts_behind now (resolved_consts d a.known xs) (resolved_consts d known ys)
          ∙ ap (λ cs. with_consts now cs) (sym (consts_append d a.known xs ys)) ∙ a.same;
    }

pub consts_begun : (p : Parsed) (t : NamedPackageTree) (s : ScopeTables) → TellsScope (declared_in p) (constant_scope []) s
    → ConstsAdded (declared_in p) t t (constants_of (decls_made (expr_trees p.exprs) (stmt_trees p.exprs p.stmts) p.decls)) s
consts_begun p t s h =
    let P : List DeclTree → Type 0 = λ ds. ConstsAdded (declared_in p) t t (constants_of ds) s in
    subst P (trees_made p) (record { known = []; tells = h; split = refl; same = refl })

module _ (es : List ExprTree) (ts : List StmtTree) (decls : List DeclNode) (i : ℕ) (n : DeclNode) (at : slice_get decls i ≡ Some n) where
  abbrev made : DeclTree
  made = decl_made es ts n.public n.decl n.at

  abbrev rest : List DeclTree
  rest = decls_made es ts (drop (i + 1) decls)

  from_here : decls_made es ts (drop i decls) ≡ made ∷ rest
  from_here = ap (decls_made es ts) (drop_at decls i n at)

  pub const_next : (d : Declared) (began now next : NamedPackageTree) (old new : ScopeTables) → ConstsAdded d began now (constants_of (decls_made es ts (drop i decls))) old
      → ((known : List Variable) → TellsScope d (constant_scope known) old → next ≡ with_consts now (resolved_consts d known (constants_of (made ∷ []))))
      → ((d : Declared) (known left : List Variable) → (known ++ map as_variable (constants_of (made ∷ []))) ++ left ≡ map as_variable d.constants → TellsScope d (constant_scope known) old
      → TellsScope d (constant_scope (known ++ map as_variable (constants_of (made ∷ [])))) new) → ConstsAdded d began next (constants_of rest) new
  const_next d began now next old new a step tells =
      let P : List Constant → Type 0 = λ cs. ConstsAdded d began now cs old in
      consts_passed d began now next (constants_of (made ∷ [])) (constants_of rest) old new (subst P (ap constants_of from_here ∙ constants_append (made ∷ []) rest) a) step tells

  pub other_next : (d : Declared) (now next : NamedPackageTree) → next ≡ with_others d now (made ∷ [])
      → with_others d next rest ≡ with_others d now (decls_made es ts (drop i decls))
  other_next d now next e = ap (λ t. with_others d t rest) e ∙ others_behind d now (made ∷ []) rest ∙ sym (ap (λ ds. with_others d now ds) from_here)

pub consts_done : (d : Declared) (began now : NamedPackageTree) (es : List ExprTree) (ts : List StmtTree) (decls : List DeclNode) (i : ℕ) (s : ScopeTables) → length decls ≤ i
    → ConstsAdded d began now (constants_of (decls_made es ts (drop i decls))) s → (now ≡ with_consts began (resolved_consts d [] d.constants)) × TellsConstants d s
consts_done d began now es ts decls i s h a =
    let P : List DeclNode → Type 0 = λ ns. ConstsAdded d began now (constants_of (decls_made es ts ns)) s in
    let b = subst P (past_end decls i h) a in
    let all : b.known ≡ map as_variable d.constants = sym (append-nil b.known) ∙ b.split in
    let Q : List Variable → Type 0 = λ vs. TellsScope d (constant_scope vs) s in
    let tells = subst Q all b.tells in
    (no_consts now ∙ b.same, tells.constants)

pub others_done : (d : Declared) (now : NamedPackageTree) (es : List ExprTree) (ts : List StmtTree) (decls : List DeclNode) (i : ℕ) → length decls ≤ i
    → now ≡ with_others d now (decls_made es ts (drop i decls))
others_done d now es ts decls i h = no_others d now ∙ sym (ap (λ ns. with_others d now (decls_made es ts ns)) (past_end decls i h))

-- The methods of the package are counted by its nodes, and each declaration adds its own.
pub methods_counted : (p : NamedParts) → length (named_package p).methods ≡ length p.methods
unfolding named_package
methods_counted p = map_length (method_made p.texts (exprs_of p) (stmts_of p)) p.methods

pub consts_counted : (old new : NamedParts) (more : List ConstTree) → named_package new ≡ with_consts (named_package old) more → length new.methods ≡ length old.methods
consts_counted old new more e = sym (methods_counted new) ∙ ap (λ t. length t.methods) e ∙ methods_counted old

methods_of_one : (d : Declared) (x : DeclTree) → length (resolved_methods d (x ∷ [])) ≡ length (methods_of (x ∷ []))
methods_of_one d (tree.status public text at) = refl
methods_of_one d (tree.constant public name of value at) = refl
methods_of_one d (tree.structure public name mark fields at) = refl
methods_of_one d (tree.method public owner name mark args result body at) = refl

pub others_counted : (d : Declared) (old new : NamedParts) (x : DeclTree) → named_package new ≡ with_others d (named_package old) (x ∷ [])
    → length new.methods ≡ length old.methods + length (methods_of (x ∷ []))
others_counted d old new x e =
    omega (arith, methods_counted old, methods_counted new, ap (λ t. length t.methods) e, length-append (named_package old).methods (resolved_methods d (x ∷ [])), methods_of_one d x)

-- The whole, of a package with nothing in it.
pub package_new : (p : NamedParts) (name : List ℕ) → p ≡ record { package_name = name; texts = []; exprs = []; stmts = []; consts = []; statuses = []; structs = []; methods = []; order = []; struct_order = [] }
    → named_package p ≡ record { package_name = name; consts = []; statuses = []; structs = []; methods = []; order = []; struct_order = [] }
unfolding named_package
package_new p name e = ap named_package e

-- After a declaration that declares no constant.
pub no_const_known : (s : ScopeTables) (d : Declared) (known left : List Variable) → (known ++ []) ++ left ≡ map as_variable d.constants → TellsScope d (constant_scope known) s → TellsScope d (constant_scope (known ++ [])) s
no_const_known s d known left split h =
    let P : List Variable → Type 0 = λ vs. TellsScope d (constant_scope vs) s in
    subst P (sym (append-nil known)) h

-- An answer that is the same.
pub ok_equal_more : {X : Type 0} (r : Result (Unit {0}) NoMemory) (a s t : X) → s ≡ t → OnOk r (a ≡ s) → OnOk r (a ≡ t)
ok_equal_more (Ok x) a s t e h = h ∙ e
ok_equal_more (Err f) a s t e h = tt

-- The whole, from a package with nothing in it.
pub package_made : (p : Parsed) (new : NamedParts) (name : List ℕ) (order struct_order : List ℕ) (all last : NamedPackageTree) → name ≡ p.name
    → new ≡ record { package_name = name; texts = []; exprs = []; stmts = []; consts = []; statuses = []; structs = []; methods = []; order = []; struct_order = [] }
    → all ≡ with_others (declared_in p) (with_consts (named_package new) (resolved_consts (declared_in p) [] (declared_in p).constants)) (decl_trees p.exprs p.stmts p.decls)
    → last ≡ record all { order = order; struct_order = struct_order } → last ≡ resolved_by (declared_in p) p.name (decl_trees p.exprs p.stmts p.decls) order struct_order
package_made p new name order struct_order all last e f g h =
    let d = declared_in p in
    let decls = decl_trees p.exprs p.stmts p.decls in
    let whole : NamedPackageTree → NamedPackageTree = λ t. with_others d (with_consts t (resolved_consts d [] d.constants)) decls in
    let ordered : NamedPackageTree → NamedPackageTree = λ t. record t { order = order; struct_order = struct_order } in
    let empty : List ℕ → NamedPackageTree = λ n. record { package_name = n; consts = []; statuses = []; structs = []; methods = []; order = []; struct_order = [] } in
    h ∙ ap ordered (g ∙ ap whole (package_new new name f)) ∙ ap (λ n. ordered (whole (empty n))) e
