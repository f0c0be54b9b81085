-- The nodes of a package with its bodies make its typed tree.
use Rattle.std.proofs.Common.{◌≡◌, ◌∙◌, refl, ap, ℕ, ◌+◌, List, [], ◌∷◌, map, slice_get, Option, Some, None, option_map}
use Rattle.std.specs.Prelude.{unwrap_or}
use Rattle.wf_ast.specs.declared.parsed.Name.{Name}
use Rattle.wf_ast.specs.declared.typed_code.Block as typed_code
use Rattle.wf_ast.specs.declared.typed_nodes.TypedNodes.{TypedNodes}
use Rattle.wf_ast.specs.declared.types.Ty.{Ty}
use Rattle.wf_ast.specs.TypedTrees.{text_of}
use Rattle.wf_ast.specs.TypedPackage.{Variable, StructTree, MethodTree, PackageTree, variable_of, struct_of, method_of, methods_of, package_of}
use Rattle.wf_named.specs.declared.declarations.NamedMethod.{NamedMethod}
use Rattle.wf_named.specs.declared.declarations.NamedStruct.{NamedStruct}
use Rattle.wf_named.specs.declared.declarations.NamedVar.{NamedVar}
use Rattle.wf_named.specs.NamedParts.{NamedParts, exprs_of, stmts_of, named_package}
use Rattle.wf_named.specs.NamedTree.{NamedTypeTree}
use Rattle.wf_named.specs.NamedTrees.{text_or, word_at, var_made, struct_made, method_made}
use Rattle.wf_types_rules.specs.declared.settings.Role.{Role}
use Rattle.wf_types_rules.specs.declared.settings.Role.TheVariants as roles
use Rattle.wf_types_rules.specs.DeclaredTypes.{declared, for_types, types_in}
use Rattle.wf_typed_tree.specs.ElaboratedStmts.{count_block}
use Rattle.wf_typed_tree.specs.ElaboratedPackage.{type_declared, typed_variable, typed_struct, typed_method, typed_methods, typed_package}
use Rattle.wf_types.specs.DeclaredNodes.{type_or_flag, variables_with, declared_struct, declared_method, seen_statuses, declared_nodes}
use Rattle.wf_types.specs.Bodies.{IsBody, AreBodies, without_bodies}

same_text : (text : Option (List ℕ)) → unwrap_or text [] ≡ text_or text
same_text None = refl
same_text (Some text) = refl

result_same : (p : NamedTypeTree → Option Ty) (gives : Option NamedTypeTree) → option_map type_or_flag (option_map p gives) ≡ option_map (λ t. type_or_flag (p t)) gives
result_same p None = refl
result_same p (Some t) = refl

-- `nodes` have the texts of the resolved package.
module _ (q : NamedParts) (nodes : TypedNodes) (texts : nodes.texts ≡ q.texts) where
  name_same : (n : Name) → text_of nodes n.text ≡ (word_at q.texts n).text
  name_same n = ap (λ ts. unwrap_or (slice_get ts n.text.0) []) texts ∙ same_text (slice_get q.texts n.text.0)

  variables_same : (role : Role) (xs : List NamedVar)
      → map (variable_of nodes) (variables_with xs (types_in (named_package q) role (map (var_made q.texts (exprs_of q)) xs))) ≡ map (typed_variable (named_package q) role) (map (var_made q.texts (exprs_of q)) xs)
  variables_same role [] = refl
  variables_same role (x ∷ xs) =
      let made = var_made q.texts (exprs_of q) in
      let ty = type_declared (named_package q) role (made x).of in
      let others = map (variable_of nodes) (variables_with xs (types_in (named_package q) role (map made xs))) in
      let V : List ℕ → Variable = λ name. record { name = name; ty = ty } in
      ap (λ name. V name ∷ others) (name_same x.name) ∙ ap (λ vs. typed_variable (named_package q) role (made x) ∷ vs) (variables_same role xs)

  struct_same : (s : NamedStruct) → struct_of nodes (declared_struct q s) ≡ typed_struct (named_package q) (struct_made q.texts (exprs_of q) s)
  struct_same s =
      let S : List ℕ → List Variable → StructTree = λ name fields. record { name = name; public = s.public; fields = fields } in
      let made = struct_made q.texts (exprs_of q) s in
      ap (λ name. S name (struct_of nodes (declared_struct q s)).fields) (name_same s.name) ∙ ap (S made.name.text) (variables_same roles.Field s.fields)

  structs_same : (ss : List NamedStruct) → map (struct_of nodes) (map (declared_struct q) ss) ≡ map (typed_struct (named_package q)) (map (struct_made q.texts (exprs_of q)) ss)
  structs_same [] = refl
  structs_same (s ∷ ss) =
      ap (λ x. x ∷ map (struct_of nodes) (map (declared_struct q) ss)) (struct_same s)
      ∙ ap (λ xs. typed_struct (named_package q) (struct_made q.texts (exprs_of q) s) ∷ xs) (structs_same ss)

  method_same : (m : NamedMethod) (n : ℕ) (body : typed_code.Block) → IsBody (named_package q) nodes n (method_made q.texts (exprs_of q) (stmts_of q) m) body
      → method_of nodes (declared_method q m) body ≡ typed_method (named_package q) n (method_made q.texts (exprs_of q) (stmts_of q) m)
  method_same m n body is =
      let name = name_same m.name in
      let args = variables_same roles.Arg m.args in
      let locals = variables_same roles.Local m.locals in
      let p = named_package q in
      let gives = result_same (declared (for_types p) (roles.Result m.mark)) (method_made q.texts (exprs_of q) (stmts_of q) m).gives in
      rw (name, args, locals, gives, is.makes) refl

  methods_same : (ms : List NamedMethod) (bodies : List typed_code.Block) (n : ℕ) → AreBodies (named_package q) nodes n (map (method_made q.texts (exprs_of q) (stmts_of q)) ms) bodies
      → methods_of nodes (map (declared_method q) ms) bodies ≡ typed_methods (named_package q) n (map (method_made q.texts (exprs_of q) (stmts_of q)) ms)
  methods_same [] bodies n h = refl
  methods_same (m ∷ ms) [] n h = absurd h
  methods_same (m ∷ ms) (body ∷ bodies) n h =
      let made = method_made q.texts (exprs_of q) (stmts_of q) in
      ap (λ x. x ∷ methods_of nodes (map (declared_method q) ms) bodies) (method_same m n body h.0)
      ∙ ap (λ xs. typed_method (named_package q) n (made m) ∷ xs) (methods_same ms bodies (n + count_block (made m).body) h.1)

-- The whole.
abbrev tree : List ℕ → List (List ℕ) → List StructTree → List MethodTree → (order struct_order : List ℕ) → PackageTree
tree name statuses structs methods order struct_order = record { package_name = name; statuses = statuses; structs = structs; methods = methods; order = order; struct_order = struct_order }

tree_same : (a f : List ℕ) (b g : List (List ℕ)) (c h : List StructTree) (d i : List MethodTree) (e j s t : List ℕ) → a ≡ f → b ≡ g → c ≡ h → d ≡ i → e ≡ j → s ≡ t → tree a b c d e s ≡ tree f g h i j t
tree_same a f b g c h d i e j s t k l m n o u = rw (k, l, m, n, o, u) refl

nodes_same : (q : NamedParts) (nodes : TypedNodes) → nodes.texts ≡ q.texts → nodes.structs ≡ map (declared_struct q) q.structs → nodes.methods ≡ map (declared_method q) q.methods
    → AreBodies (named_package q) nodes 0 (map (method_made q.texts (exprs_of q) (stmts_of q)) q.methods) nodes.bodies
    → (map (struct_of nodes) nodes.structs ≡ map (typed_struct (named_package q)) (map (struct_made q.texts (exprs_of q)) q.structs))
    × (methods_of nodes nodes.methods nodes.bodies ≡ typed_methods (named_package q) 0 (map (method_made q.texts (exprs_of q) (stmts_of q)) q.methods))
nodes_same q nodes texts structs methods bodies = (
  ap (map (struct_of nodes)) structs ∙ structs_same q nodes texts q.structs,
  ap (λ ms. methods_of nodes ms nodes.bodies) methods ∙ methods_same q nodes texts q.methods nodes.bodies 0 bodies,
)

pub package_same : (q : NamedParts) (nodes : TypedNodes) → without_bodies nodes ≡ declared_nodes q
    → AreBodies (named_package q) nodes 0 (named_package q).methods nodes.bodies → package_of nodes ≡ typed_package (named_package q)
unfolding package_of typed_package named_package declared_nodes
package_same q nodes h bodies =
    let parts = nodes_same q nodes (ap (λ (x : TypedNodes). x.texts) h) (ap (λ (x : TypedNodes). x.structs) h) (ap (λ (x : TypedNodes). x.methods) h) bodies in
    tree_same nodes.package q.package_name nodes.statuses (seen_statuses q) (map (struct_of nodes) nodes.structs) (map (typed_struct (named_package q)) (map (struct_made q.texts (exprs_of q)) q.structs))
    (methods_of nodes nodes.methods nodes.bodies) (typed_methods (named_package q) 0 (map (method_made q.texts (exprs_of q) (stmts_of q)) q.methods)) nodes.order q.order nodes.struct_order q.struct_order
    (ap (λ (x : TypedNodes). x.package) h) (ap (λ (x : TypedNodes). x.statuses) h) parts.0 parts.1 (ap (λ (x : TypedNodes). x.order) h) (ap (λ (x : TypedNodes). x.struct_order) h)
