-- What lowering knows of a method is what its package says of it.
use Rattle.std.proofs.Common.{◌≡◌, ◌<◌, ◌∙◌, ap, sym, refl, ℕ, zero, suc, true, List, [], ◌∷◌, Some, length, map, nat_lt}
use Rattle.std.specs.Prelude.{slice_get, option_map}
use Rattle.std.proofs.lemmas.Option.{same_Some, slice_get-map, slice_get_within}
use Rattle.wf_ast.specs.declared.declarations.Method.{Method}
use Rattle.wf_ast.specs.declared.declarations.Struct.{Struct}
use Rattle.wf_ast.specs.declared.declarations.Var.{Var}
use Rattle.wf_ast.specs.declared.typed_code.Block.{Block}
use Rattle.wf_ast.specs.declared.typed_nodes.TypedNodes.{TypedNodes}
use Rattle.wf_ast.specs.declared.variables.LocalId.{LocalId}
use Rattle.wf_ast.specs.TypedInvariant.{IsTyped, block_below, has_few_variables}
use Rattle.wf_ast.specs.TypedPackage.{Variable, package_of, struct_of, method_of, methods_of, variable_of}
use Rattle.wf_ast.specs.TypedTrees.{text_of}
use Rattle.wf_ast.proofs.Arena.{both_true}
use Rattle.wf_points.specs.PointNumbers.{saved_locals}
use Rattle.wf_exprs.specs.Names.{Names, fields_called, names_of}
use Rattle.wf_exprs.specs.Scopes.{ScopeTree, Scoped, are_named, names_in}
use Rattle.wf_exprs.proofs.Prefixes.{list_all-at}
use Rattle.wf_lower_stmts.specs.BodyNodes.{HasWords, is_spelt_struct, is_spelt_method, is_word_at}

method_at : (nodes : TypedNodes) (ms : List Method) (bodies : List Block) (n : ℕ) (m : Method) (body : Block) → slice_get ms n ≡ Some m → slice_get bodies n ≡ Some body → slice_get (methods_of nodes ms bodies) n ≡ Some (method_of nodes m body)
method_at nodes [] bodies n m body h k = absurd (cc h)
method_at nodes (x ∷ ms) [] n m body h k = absurd (cc k)
method_at nodes (x ∷ ms) (y ∷ bodies) zero m body h k =
    let e : x ≡ m = cc in
    let f : y ≡ body = cc in
    ap (λ z. Some (method_of nodes z y)) e ∙ ap (λ z. Some (method_of nodes m z)) f
method_at nodes (x ∷ ms) (y ∷ bodies) (suc n) m body h k = method_at nodes ms bodies n m body h k

names_seen : (nodes : TypedNodes) (xs : List Var) → names_in nodes xs ≡ map (λ (x : Variable). x.name) (map (variable_of nodes) xs)
names_seen nodes [] = refl
names_seen nodes (x ∷ xs) = ap (λ l. text_of nodes x.name ∷ l) (names_seen nodes xs)

module _ (nodes : TypedNodes) where
  pub form_is : (n : ℕ) (m : Method) (body : Block) → slice_get nodes.methods n ≡ Some m → slice_get nodes.bodies n ≡ Some body → slice_get (package_of nodes).methods n ≡ Some (method_of nodes m body)
  unfolding package_of
  form_is n m body h k = method_at nodes nodes.methods nodes.bodies n m body h k

  -- The table of points has the locals that a method keeps, which are those of its tree.
  module _ (n : ℕ) (m : Method) (body : Block) (known : slice_get nodes.methods n ≡ Some m) (made : slice_get nodes.bodies n ≡ Some body) (table : List (List LocalId)) (are : table ≡ map saved_locals (package_of nodes).methods) where
    saved_at : slice_get table n ≡ Some (saved_locals (method_of nodes m body))
    saved_at = ap (λ l. slice_get l n) are ∙ slice_get-map saved_locals (package_of nodes).methods n ∙ ap (option_map saved_locals) (form_is n m body known made)

    pub saved_known : n < length table
    saved_known = slice_get_within table n (saved_locals (method_of nodes m body)) saved_at

    pub saved_same : (saved : List LocalId) → slice_get table n ≡ Some saved → saved ≡ saved_locals (method_of nodes m body)
    saved_same saved h = same_Some saved (saved_locals (method_of nodes m body)) (sym h ∙ saved_at)

  pub method_spelt : (n : ℕ) (m : Method) → HasWords nodes → slice_get nodes.methods n ≡ Some m → is_spelt_method nodes m ≡ true
  method_spelt n m words h = list_all-at (is_spelt_method nodes) nodes.methods n m words.method_words h

  pub method_few : (n : ℕ) (m : Method) → IsTyped nodes → slice_get nodes.methods n ≡ Some m → has_few_variables m ≡ true
  method_few n m typed h = list_all-at has_few_variables nodes.methods n m typed.few_variables h

  pub body_known : (n : ℕ) (body : Block) → IsTyped nodes → slice_get nodes.bodies n ≡ Some body → block_below (length nodes.stmts) body ≡ true
  body_known n body typed h = list_all-at (λ it. block_below (length nodes.stmts) it) nodes.bodies n body typed.bodies_made h

  module _ (m : Method) (s : Struct) (of : slice_get nodes.structs m.of.0 ≡ Some s) (fields args locals : List Var) (f : fields ≡ s.fields) (a : args ≡ m.args) (l : locals ≡ m.locals) where
    pub is_scoped : IsTyped nodes → HasWords nodes → is_spelt_method nodes m ≡ true → Scoped nodes fields args locals
    is_scoped typed words spelt =
        let it = both_true (is_word_at nodes s.name) (are_named nodes s.fields) (list_all-at (is_spelt_struct nodes) nodes.structs m.of.0 s words.struct_words of) in
        let own = (both_true (nat_lt m.of.0 (length nodes.structs)) _ spelt).1 in
        let both = both_true (are_named nodes m.args) (are_named nodes m.locals) (both_true (is_word_at nodes m.name) _ own).1 in
        record {
          typed = typed;
          fields_named = ap (are_named nodes) f ∙ it.1;
          args_named = ap (are_named nodes) a ∙ both.0;
          locals_named = ap (are_named nodes) l ∙ both.1;
        }

    fields_are : names_in nodes fields ≡ fields_called (package_of nodes) m.of.0
    unfolding package_of
    fields_are =
        let e = slice_get-map (struct_of nodes) nodes.structs m.of.0 in
        let g : fields_called (package_of nodes) m.of.0 ≡ map (λ (x : Variable). x.name) (map (variable_of nodes) s.fields) = rw (e, of) refl in
        ap (names_in nodes) f ∙ names_seen nodes s.fields ∙ sym g

    pub names_same : (body : Block) (scope : ScopeTree) → scope ≡ record { nodes = nodes; names = record { fields = names_in nodes fields; args = names_in nodes args; locals = names_in nodes locals } }
        → scope.names ≡ names_of (package_of nodes) (method_of nodes m body)
    names_same body scope is =
        let named : List (List ℕ) → List (List ℕ) → List (List ℕ) → Names = λ x y z. record { fields = x; args = y; locals = z } in
        ap (λ (it : ScopeTree). it.names) is
        ∙ ap (λ x. named x (names_in nodes args) (names_in nodes locals)) fields_are
        ∙ ap (λ y. named (fields_called (package_of nodes) m.of.0) y (names_in nodes locals)) (ap (names_in nodes) a ∙ names_seen nodes m.args)
        ∙ ap (λ z. named (fields_called (package_of nodes) m.of.0) (map (λ (x : Variable). x.name) (map (variable_of nodes) m.args)) z) (ap (names_in nodes) l ∙ names_seen nodes m.locals)
