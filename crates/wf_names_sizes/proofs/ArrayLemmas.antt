-- The pass over arrays by tables finds what it finds by the values of the package's constants.
use Rattle.std.proofs.Common.{◌≡◌, ℕ, ◌+◌, ◌≤◌, ◌||◌, List, [], ◌∷◌, ◌++◌, map, drop, length, Option, Some, None, slice_get, is_some, nat_eq, nat_lt, refl, sym, ap, ◌∙◌, subst}
use Rattle.std.specs.List.{flat_map}
use Rattle.std.specs.Option.{option_map}
use Rattle.std.proofs.lemmas.Grind.{flat_map-append}
use Rattle.indexmap.specs.IndexMap.{get}
use Rattle.wf_text.specs.declared.rules.Refusal.{Refusal}
use Rattle.wf_text.specs.declared.rules.Rule.TheVariants.{L7}
use Rattle.wf_text.specs.Precedence.{sooner, soonest}
use Rattle.wf_ast.specs.declared.parsed.DeclNode.{DeclNode}
use Rattle.wf_ast.specs.declared.parsed.ExprNode.{ExprNode}
use Rattle.wf_ast.specs.declared.parsed.StmtNode.{StmtNode}
use Rattle.wf_ast.specs.ParsedTree as tree
use Rattle.wf_ast.specs.ParsedTree.{ExprTree, TypeTree, DeclTree}
use Rattle.wf_ast.specs.ParsedTrees.{expr_trees, stmt_trees, decl_trees, decl_made, decls_made}
use Rattle.wf_names_rules.specs.declared.tables.Entry.{Entry}
use Rattle.wf_names_rules.specs.declared.tables.MethodVariables.{MethodVariables}
use Rattle.wf_names_rules.specs.declared.tables.Variables.{Variables}
use Rattle.wf_names_rules.specs.Declarations.{Variable, Structure, Method, Declared, bytes_of, text_of, structs_of, methods_of, variable_named}
use Rattle.wf_names_rules.specs.Meanings.{sort_of}
use Rattle.wf_names_rules.specs.ConstantValues.{Sized, known_constants, value_of}
use Rattle.wf_names_rules.specs.Sizes.{hidden_by, number_or_zero, is_too_long}
use Rattle.wf_names_rules.specs.Passes.{refused_if}
use Rattle.wf_names_scopes.specs.Agreeing.{TellsVariables, TellsMethod, TellMethods}
use Rattle.wf_names_sizes.specs.declared.environment.Environment.{Environment}
use Rattle.wf_names_sizes.specs.ValuesBy.{Knows, hides, constant_by, value_by}
use Rattle.wf_names_sizes.specs.LongArrays.{is_long_by, too_long_array_by, too_long_array}
use Rattle.wf_names_sizes.proofs.ValueLemmas.{constant_is, value_is, decl-there, decls-over}

-- Lists of finds.
pub soonest-append : (found : Option Refusal) (xs ys : List (Option Refusal)) → soonest found (xs ++ ys) ≡ soonest (soonest found xs) ys
soonest-append found [] ys = refl
soonest-append found (x ∷ xs) ys = soonest-append (sooner found x) xs ys

-- Names of locals.
some_mapped : {X Y : Type 0} (f : X → Y) (o : Option X) → is_some (option_map f o) ≡ is_some o
some_mapped f None = refl
some_mapped f (Some x) = refl

-- A table of locals has the names that hide constants.
pub locals_hide : (texts : List (List ℕ)) (locals : List Variable) (table : Variables) → TellsVariables texts locals table
    → (text : ℕ) → is_some (get nat_eq table.entries text) ≡ hidden_by locals text
locals_hide texts locals table tells text =
    sym (some_mapped (λ (e : Entry). e.sort) (get nat_eq table.entries text)) ∙ ap is_some (tells.sorts text)
    ∙ some_mapped (λ (v : Variable). sort_of (bytes_of texts) v.of) (variable_named locals text)

-- Arrays by tables.
module _ (d : Declared) (locals : List Variable) (value : ExprTree → Option Sized) (same : (e : ExprTree) → value e ≡ value_of d (hidden_by locals) (known_constants d) e) where
  long_is : (t : TypeTree) → is_long_by value t ≡ is_too_long d locals t
  long_is (tree.slice_of at element) = long_is element
  long_is (tree.array_of length at element) =
      ap (λ v. nat_lt 65536 (number_or_zero v) || is_long_by value element) (same length)
      ∙ ap (λ b. nat_lt 65536 (number_or_zero (value_of d (hidden_by locals) (known_constants d) length)) || b) (long_is element)
  long_is (tree.base_type name at bounds) = refl
  long_is (tree.status_type at bounds) = refl
  long_is (tree.struct_type name) = refl

  longs_are : (vs : List Variable) → map (too_long_array_by value) vs ≡ map (too_long_array d locals) vs
  longs_are [] = refl
  longs_are (v ∷ vs) = ap (λ b. refused_if b L7 v.name.at ∷ map (too_long_array_by value) vs) (long_is v.of) ∙ ap (λ rest. too_long_array d locals v ∷ rest) (longs_are vs)

pub longs_by : (d : Declared) (locals : List Variable) (env : Environment) → Knows env.constants.now (known_constants d)
    → ((text : ℕ) → hides env.locals text ≡ hidden_by locals text) → (vs : List Variable)
    → map (too_long_array_by (value_by (text_of d) (constant_by env))) vs ≡ map (too_long_array d locals) vs
longs_by d locals env k h vs =
    longs_are d locals (value_by (text_of d) (constant_by env)) (value_is d (hidden_by locals) (known_constants d) (constant_by env) (constant_is env (known_constants d) (hidden_by locals) k h)) vs

-- One declaration more.
pub structs-append : (t : DeclTree) (rest : List DeclTree) → structs_of (t ∷ rest) ≡ structs_of (t ∷ []) ++ structs_of rest
structs-append (tree.status public text at) rest = refl
structs-append (tree.constant public name of value at) rest = refl
structs-append (tree.structure public name mark fields at) rest = refl
structs-append (tree.method public owner name mark args result body at) rest = refl

pub methods-append : (t : DeclTree) (rest : List DeclTree) → methods_of (t ∷ rest) ≡ methods_of (t ∷ []) ++ methods_of rest
methods-append (tree.status public text at) rest = refl
methods-append (tree.constant public name of value at) rest = refl
methods-append (tree.structure public name mark fields at) rest = refl
methods-append (tree.method public owner name mark args result body at) rest = refl

module _ (exprs : List ExprNode) (stmts : List StmtNode) (ds : List DeclNode) (i : ℕ) where
  pub structs_step : (f : Structure → List (Option Refusal)) (n : DeclNode) → slice_get ds i ≡ Some n → (found next : Option Refusal)
      → next ≡ soonest found (flat_map f (structs_of (decl_made (expr_trees exprs) (stmt_trees exprs stmts) n.public n.decl n.at ∷ [])))
      → soonest next (flat_map f (structs_of (drop (i + 1) (decl_trees exprs stmts ds)))) ≡ soonest found (flat_map f (structs_of (drop i (decl_trees exprs stmts ds))))
  unfolding decl_trees
  structs_step f n h found next e =
      let t = decl_made (expr_trees exprs) (stmt_trees exprs stmts) n.public n.decl n.at in
      let rest = drop (i + 1) (decls_made (expr_trees exprs) (stmt_trees exprs stmts) ds) in
      ap (λ x. soonest x (flat_map f (structs_of rest))) e ∙ sym (soonest-append found (flat_map f (structs_of (t ∷ []))) (flat_map f (structs_of rest)))
      ∙ ap (soonest found) (sym (flat_map-append f (structs_of (t ∷ [])) (structs_of rest)) ∙ ap (flat_map f) (sym (structs-append t rest)))
      ∙ sym (ap (λ xs. soonest found (flat_map f (structs_of xs))) (decl-there (expr_trees exprs) (stmt_trees exprs stmts) ds i n h))

  pub structs_over : (f : Structure → List (Option Refusal)) (found : Option Refusal) → length ds ≤ i → soonest found (flat_map f (structs_of (drop i (decl_trees exprs stmts ds)))) ≡ found
  unfolding decl_trees
  structs_over f found h = ap (λ xs. soonest found (flat_map f (structs_of xs))) (decls-over (expr_trees exprs) (stmt_trees exprs stmts) ds i h)

  pub methods_step : (f : Method → List (Option Refusal)) (n : DeclNode) → slice_get ds i ≡ Some n → (found next : Option Refusal)
      → next ≡ soonest found (flat_map f (methods_of (decl_made (expr_trees exprs) (stmt_trees exprs stmts) n.public n.decl n.at ∷ [])))
      → soonest next (flat_map f (methods_of (drop (i + 1) (decl_trees exprs stmts ds)))) ≡ soonest found (flat_map f (methods_of (drop i (decl_trees exprs stmts ds))))
  unfolding decl_trees
  methods_step f n h found next e =
      let t = decl_made (expr_trees exprs) (stmt_trees exprs stmts) n.public n.decl n.at in
      let rest = drop (i + 1) (decls_made (expr_trees exprs) (stmt_trees exprs stmts) ds) in
      ap (λ x. soonest x (flat_map f (methods_of rest))) e ∙ sym (soonest-append found (flat_map f (methods_of (t ∷ []))) (flat_map f (methods_of rest)))
      ∙ ap (soonest found) (sym (flat_map-append f (methods_of (t ∷ [])) (methods_of rest)) ∙ ap (flat_map f) (sym (methods-append t rest)))
      ∙ sym (ap (λ xs. soonest found (flat_map f (methods_of xs))) (decl-there (expr_trees exprs) (stmt_trees exprs stmts) ds i n h))

  pub methods_over : (f : Method → List (Option Refusal)) (found : Option Refusal) → length ds ≤ i → soonest found (flat_map f (methods_of (drop i (decl_trees exprs stmts ds)))) ≡ found
  unfolding decl_trees
  methods_over f found h = ap (λ xs. soonest found (flat_map f (methods_of xs))) (decls-over (expr_trees exprs) (stmt_trees exprs stmts) ds i h)

-- The variables of the methods from a declaration on.
module _ (exprs : List ExprNode) (stmts : List StmtNode) (ds : List DeclNode) (i : ℕ) (texts : List (List ℕ)) (left : List MethodVariables) where
  pub methods_told : (n : DeclNode) → slice_get ds i ≡ Some n → TellMethods texts (methods_of (drop i (decl_trees exprs stmts ds))) left
      → TellMethods texts (methods_of (decl_made (expr_trees exprs) (stmt_trees exprs stmts) n.public n.decl n.at ∷ []) ++ methods_of (drop (i + 1) (decl_trees exprs stmts ds))) left
  unfolding decl_trees
  methods_told n h tell =
      let t = decl_made (expr_trees exprs) (stmt_trees exprs stmts) n.public n.decl n.at in
      let rest = drop (i + 1) (decls_made (expr_trees exprs) (stmt_trees exprs stmts) ds) in
      let P : List Method → Type 0 = λ ms. TellMethods texts ms left in
      subst P (ap methods_of (decl-there (expr_trees exprs) (stmt_trees exprs stmts) ds i n h) ∙ methods-append t rest) tell

-- The first of them, and that there is one.
pub first_told : (texts : List (List ℕ)) (m : Method) (rest : List Method) (left : List MethodVariables) (t : MethodVariables) (ts : List MethodVariables) → left ≡ t ∷ ts
    → TellMethods texts (m ∷ rest) left → TellsMethod texts m t × TellMethods texts rest ts
first_told texts m rest left t ts e tell = let P : List MethodVariables → Type 0 = TellMethods texts (m ∷ rest) in subst P e tell

pub one_told : (texts : List (List ℕ)) (m : Method) (rest : List Method) (left : List MethodVariables) → length left ≡ 0 → TellMethods texts (m ∷ rest) left → ⊥
one_told texts m rest [] e tell = tell
one_told texts m rest (t ∷ ts) e tell = absurd (cc e)
