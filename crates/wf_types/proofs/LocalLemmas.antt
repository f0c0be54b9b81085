-- The nodes of locals: one more, and what was there stays. Of a package that breaks no rule each local may have one.
use Rattle.std.proofs.Common.{◌≡◌, ◌∙◌, refl, sym, ap, subst, ℕ, zero, suc, ◌+◌, ◌<◌, ◌≤◌, Bool, true, false, List, [], ◌∷◌, ◌++◌, length, map, slice_get, get_or, Option, Some, None, nat_eq, arith}
use Rattle.std.specs.Prelude.{option_map}
use Rattle.std.proofs.lemmas.Bool.Decides.{nat_tests}
use Rattle.std.proofs.lemmas.Option.{slice_get-map, slice_get-get_or}
use Rattle.wf_text.specs.declared.place.Place.{Place}
use Rattle.wf_ast.specs.declared.numbers.ExprId.{ExprId}
use Rattle.wf_ast.specs.declared.declarations.Method.{Method}
use Rattle.wf_ast.specs.declared.declarations.Var.{Var}
use Rattle.wf_ast.specs.declared.typed_code.Block as typed_code
use Rattle.wf_ast.specs.declared.typed_nodes.TypedNodes.{TypedNodes}
use Rattle.wf_ast.specs.declared.types.Ty.{Ty}
use Rattle.wf_ast.specs.declared.types.Ty.TheVariants as types
use Rattle.wf_ast.specs.TypedInvariant.{IsLocal, HasLocals, HaveLocals}
use Rattle.wf_ast.specs.TypedTree.{local}
use Rattle.wf_ast.specs.TypedTrees.{named as named_by, expr_trees, tree_of}
use Rattle.wf_named.specs.declared.declarations.NamedMethod.{NamedMethod}
use Rattle.wf_named.specs.declared.declarations.NamedVar.{NamedVar}
use Rattle.wf_named.specs.declared.nodes.Variable.TheVariants as variables
use Rattle.wf_named.specs.NamedParts.{NamedParts, exprs_of, stmts_of, named_package}
use Rattle.wf_named.specs.NamedTree.{NamedExprTree, NamedBlockTree, VarTree, NamedMethodTree, NamedPackageTree}
use Rattle.wf_named.specs.NamedTrees.{var_made, method_made}
use Rattle.wf_named.specs.WellNamed.{well_named}
use Rattle.wf_types_rules.specs.declared.meanings.Meaning.TheVariants as meanings
use Rattle.wf_types_rules.specs.declared.settings.Role.TheVariants as roles
use Rattle.wf_types_rules.specs.declared.settings.Setting.{Setting}
use Rattle.wf_types_rules.specs.DeclaredTypes.{may_be, declared, for_types, types_in, in_method}
use Rattle.wf_types_rules.specs.FirstBreak.{deciding}
use Rattle.wf_types_rules.specs.Meanings.{there, variable}
use Rattle.wf_typed_tree.specs.ElaboratedExprs.{path_tree, variable_tree, type_meant}
use Rattle.wf_typed_tree.proofs.Agreement.{package-is, method-is, known-at}
use Rattle.wf_typed_tree.proofs.NumberLemmas.{map-parts}
use Rattle.wf_typed_exprs.specs.Growth.{IsBuilt}
use Rattle.wf_typed_exprs.specs.Nodes.{StandsForPath}
use Rattle.wf_typed_exprs.specs.Right.{is_struct}
use Rattle.wf_typed_exprs.proofs.AroundLaws as standing
use Rattle.wf_typed_stmts.specs.StmtGrowth.{GrowsStmts, GrowsExprs, StandsForBlock}
use Rattle.wf_typed_stmts.proofs.GrowthLemmas.{stands_kept, stmts_of_exprs, count_same}
use Rattle.wf_types.proofs.NodePlaces.{read_of, local_read, place_of_read}
use Rattle.wf_types.specs.Bodies.{finished}
use Rattle.wf_types.specs.DeclaredNodes.{type_or_flag, variable_with, variables_with, declared_method}
use Rattle.wf_types.specs.Locals.{places_of, places_named, local_path, IsNode, FirstHaveNodes, HaveNodes, MethodsHaveNodes, AreRightPaths, AreRightLocals}

-- What was there stays.
node_kept : (s : Setting) (old new : TypedNodes) (e l : ℕ) (at : Place) → GrowsStmts old new → IsNode s old e l at → IsNode s new e l at
node_kept s old new e l at g h = stands_kept (path_tree s (local_path l at)) (variable s (variables.Local (record { 0 = l }))) old new (record { 0 = e }) g h

pub nodes_kept : (s : Setting) (old new : TypedNodes) (first : ℕ) (places : List Place) → GrowsStmts old new → HaveNodes s old first places → HaveNodes s new first places
nodes_kept s old new first places g h l at e = node_kept s old new (first + l) l at g (h l at e)

-- One local more.
module _ (s : Setting) (old new : TypedNodes) (places : List Place) (first n : ℕ) (at : Place) (e : ExprId) where
  pub first_more : GrowsExprs old new → slice_get places n ≡ Some at → e.0 ≡ first + n → StandsForPath s (local_path n at) new e → FirstHaveNodes s old first n places
      → FirstHaveNodes s new first (n + 1) places
  first_more g is numbered stands h l place low here = by_number (nat_eq l n) refl
    where
      by_number : (b : Bool) → nat_eq l n ≡ b → IsNode s new (first + l) l place
      by_number true same =
          let number : n ≡ l = grind (arith, nat_tests, same) in
          let there_is : slice_get places l ≡ Some at = ap (slice_get places) (sym number) ∙ is in
          let both : Some at ≡ Some place = sym there_is ∙ here in
          let place_is : at ≡ place = cc both in
          let E : ℕ → Type 0 = λ k. StandsForPath s (local_path n at) new (record { 0 = k }) in
          let P : ℕ → Type 0 = λ k. IsNode s new (first + k) k place in
          let Q : Place → Type 0 = λ x. IsNode s new (first + n) n x in
          subst P number (subst Q place_is (subst E numbered stands))
      by_number false other = let below : l < n = grind (arith, nat_tests, other, low) in node_kept s old new (first + l) l place (stmts_of_exprs old new g) (h l place below here)

pub place_at : (xs : List NamedVar) (n : ℕ) (x : NamedVar) → n < length xs → slice_get (places_named xs) n ≡ Some (get_or xs n x).name.at
place_at xs n x low =
    let P : NamedVar → Place = λ y. y.name.at in
    slice_get-map P xs n ∙ ap (option_map P) (slice_get-get_or xs n x low)

pub below_length : {X : Type 0} (xs : List X) (i : ℕ) (x : X) → slice_get xs i ≡ Some x → i < length xs
below_length [] zero x e = absurd (cc e)
below_length [] (suc i) x e = absurd (cc e)
below_length (y ∷ ys) zero x e = omega arith
below_length (y ∷ ys) (suc i) x e = let k = below_length ys i x e in omega (arith, k)

pub first_all : (s : Setting) (nodes : TypedNodes) (first n : ℕ) (places : List Place) → length places ≤ n → FirstHaveNodes s nodes first n places → HaveNodes s nodes first places
first_all s nodes first n places past h l at e = let low = below_length places l at e in h l at (omega (arith, low, past)) e

-- The names of a method's locals in the resolved tree stand where they stood.
pub same_places : (texts : List (List ℕ)) (es : List NamedExprTree) (xs : List NamedVar) → places_of (map (var_made texts es) xs) ≡ places_named xs
same_places texts es [] = refl
same_places texts es (x ∷ xs) = ap (λ places. x.name.at ∷ places) (same_places texts es xs)

-- Of a method in its setting.
module _ (texts : List (List ℕ)) (es : List NamedExprTree) (xs locals : List NamedVar) (of : locals ≡ xs) (s t : Setting) (inside : s ≡ t) where
  named_so : places_of (map (var_made texts es) xs) ≡ places_named locals
  named_so = same_places texts es xs ∙ ap places_named (sym of)

  pub paths_inside : (statuses : ℕ) → AreRightPaths t statuses (places_of (map (var_made texts es) xs)) → AreRightPaths s statuses (places_named locals)
  paths_inside statuses h =
      let P : List Place → Type 0 = λ places. AreRightPaths t statuses places in
      let S : Setting → Type 0 = λ r. AreRightPaths r statuses (places_named locals) in
      subst S (sym inside) (subst P named_so h)

  pub nodes_inside : (old new : TypedNodes) (first e : ℕ) → GrowsStmts old new → e ≡ first → HaveNodes s old first (places_named locals) → HaveNodes t new e (places_of (map (var_made texts es) xs))
  nodes_inside old new first e g same h =
      let P : List Place → Type 0 = λ places. HaveNodes t new e places in
      let S : Setting → Type 0 = λ r. HaveNodes r new e (places_named locals) in
      let N : ℕ → Type 0 = λ k. HaveNodes s new k (places_named locals) in
      subst P (sym named_so) (subst S inside (subst N (sym same) (nodes_kept s old new first (places_named locals) g h)))

-- A block stands where it stood, since the nodes of locals are no statements.
pub block_inside : (s t : Setting) (old with_locals new : TypedNodes) (block : NamedBlockTree) (b : typed_code.Block) → s ≡ t → GrowsExprs old with_locals
    → StandsForBlock s [] (length with_locals.stmts) block new b → StandsForBlock t [] (length old.stmts) block new b
block_inside s t old with_locals new block b inside g h =
    let N : ℕ → Type 0 = λ n. StandsForBlock s [] n block new b in
    let S : Setting → Type 0 = λ r. StandsForBlock r [] (length old.stmts) block new b in
    subst S inside (subst N (count_same old with_locals g) h)

-- One method more.
pub methods_with : (p : NamedPackageTree) (old new : TypedNodes) (es : List ExprId) (ms : List NamedMethodTree) (e : ExprId) (m : NamedMethodTree) → GrowsStmts old new → MethodsHaveNodes p old es ms
    → HaveNodes (in_method p m) new e.0 (places_of m.locals) → MethodsHaveNodes p new (es ++ e ∷ []) (ms ++ m ∷ [])
methods_with p old new [] [] e m g h here = (here, tt)
methods_with p old new [] (n ∷ ms) e m g h here = absurd h
methods_with p old new (f ∷ es) [] e m g h here = absurd h
methods_with p old new (f ∷ es) (n ∷ ms) e m g h here = (nodes_kept (in_method p n) old new f.0 (places_of n.locals) g h.0, methods_with p old new es ms e m g h.1 here)

-- The bodies of a package change no node.
tree_placed : (q : NamedParts) (nodes : TypedNodes) (bs : List typed_code.Block) (fs : List ExprId) (e : ExprId) → tree_of (finished q nodes bs fs) e ≡ tree_of nodes e
unfolding expr_trees
tree_placed q nodes bs fs e = refl

pub locals_placed : (p : NamedPackageTree) (q : NamedParts) (nodes : TypedNodes) (bs : List typed_code.Block) (all es : List ExprId) (ms : List NamedMethodTree) → MethodsHaveNodes p nodes es ms
    → MethodsHaveNodes p (finished q nodes bs all) es ms
locals_placed p q nodes bs all [] [] h = tt
locals_placed p q nodes bs all [] (m ∷ ms) h = absurd h
locals_placed p q nodes bs all (e ∷ es) [] h = absurd h
locals_placed p q nodes bs all (e ∷ es) (m ∷ ms) h = (here, locals_placed p q nodes bs all es ms h.1)
  where
    here : HaveNodes (in_method p m) (finished q nodes bs all) e.0 (places_of m.locals)
    here l at k =
        let it = h.0 l at k in
        record { there = it.there; tree_is = tree_placed q nodes bs all (record { 0 = e.0 + l }) ∙ it.tree_is; typed = it.typed; counted = it.counted }

-- Each local of a package that breaks no rule means something, and is no struct.
local_whole : (ty : Ty) → may_be roles.Local ty ≡ true → is_struct (meanings.Typed ty) ≡ false
local_whole (types.Part part) h = absurd (cc h)
local_whole ty h = refl

record TypedLocal (p : NamedPackageTree) (m : NamedMethodTree) (l : ℕ) : Type 0 where
  pub ty : Ty
  pub means : variable (in_method p m) (variables.Local (record { 0 = l })) ≡ Some (meanings.Typed ty)
  pub may : may_be roles.Local ty ≡ true

local_is_typed : (p : NamedPackageTree) → deciding p ≡ None → well_named p ≡ true → (i : ℕ) (m : NamedMethodTree) → slice_get p.methods i ≡ Some m
    → (l : ℕ) (at : Place) → slice_get (places_of m.locals) l ≡ Some at → TypedLocal p m l
local_is_typed p none named i m e l at here =
    let P : VarTree → Place = λ x. x.name.at in
    let it = map-parts P (slice_get m.locals l) at (sym (slice_get-map P m.locals l) ∙ here) in
    let of = known-at p roles.Local m.locals (method-is p (package-is p none named) i m e).locals l it.of it.is in
    let D : VarTree → Option Ty = λ x. declared (for_types p) roles.Local x.of in
    let is : slice_get (types_in p roles.Local m.locals) l ≡ Some (Some of.0) = slice_get-map D m.locals l ∙ ap (option_map D) it.is ∙ ap Some of.1 in
    let told : there (slice_get (types_in p roles.Local m.locals) l) ≡ Some of.0 = ap there is in
    record { ty = of.0; means = ap (option_map meanings.Typed) told; may = standing.locals_may p m l of.0 told }

pub locals_are_right : (p : NamedPackageTree) → deciding p ≡ None → well_named p ≡ true → AreRightLocals p
locals_are_right p none named i m e l at here =
    let it = local_is_typed p none named i m e l at here in
    record { around = standing.body_is_right p none named i m e; of = meanings.Typed it.ty; means = it.means; whole = local_whole it.ty it.may }

-- A local with its type.
pub record DeclaredLocal (xs : List NamedVar) (tys : List (Option Ty)) (x : ℕ) (v : Var) : Type 0 where
  pub of : NamedVar
  pub ty : Option Ty
  pub at : slice_get xs x ≡ Some of
  pub typed : slice_get tys x ≡ Some ty
  pub is : v ≡ variable_with of ty

declared_at : (xs : List NamedVar) (tys : List (Option Ty)) (x : ℕ) (v : Var) → slice_get (variables_with xs tys) x ≡ Some v → DeclaredLocal xs tys x v
declared_at [] tys x v e = absurd (cc e)
declared_at (y ∷ xs) [] x v e = absurd (cc e)
declared_at (y ∷ xs) (ty ∷ tys) zero v e = record { of = y; ty = ty; at = refl; typed = refl; is = let same : variable_with y ty ≡ v = cc e in sym same }
declared_at (y ∷ xs) (ty ∷ tys) (suc x) v e = let k = declared_at xs tys x v e in record { of = k.of; ty = k.ty; at = k.at; typed = k.typed; is = k.is }

-- So each local of a method has its expression.
module _ (q : NamedParts) (nodes : TypedNodes) (none : deciding (named_package q) ≡ None) (named : well_named (named_package q) ≡ true) (built : IsBuilt nodes) where
  abbrev made : NamedMethod → NamedMethodTree
  made = method_made q.texts (exprs_of q) (stmts_of q)

  local_stands : (i : ℕ) (m : NamedMethod) → slice_get (named_package q).methods i ≡ Some (made m) → (first : ℕ) → HaveNodes (in_method (named_package q) (made m)) nodes first (places_of (made m).locals)
      → HasLocals nodes first (declared_method q m)
  local_stands i m e first h = record { each = each }
    where
      typed_so : (o : Option Ty) (ty : Ty) → option_map meanings.Typed (there (Some o)) ≡ Some (meanings.Typed ty) → o ≡ Some ty
      typed_so None ty h = absurd (cc h)
      typed_so (Some own) ty h = let whole : meanings.Typed own ≡ meanings.Typed ty = cc h in ap (λ t. Some t) (let same : own ≡ ty = cc whole in same)

      each : (x : ℕ) (v : Var) → slice_get (declared_method q m).locals x ≡ Some v → IsLocal nodes (first + x) x v
      each x v k =
          let p = named_package q in
          let it = declared_at m.locals (types_in p roles.Local (made m).locals) x v k in
          let at = it.of.name.at in
          let P : NamedVar → Place = λ y. y.name.at in
          let place : slice_get (places_of (made m).locals) x ≡ Some at =
          ap (λ places. slice_get places x) (same_places q.texts (exprs_of q) m.locals) ∙ (slice_get-map P m.locals x ∙ ap (option_map P) it.at) in
          let node = h x at place in
          let local_is = local_is_typed p none named i (made m) e x at place in
          let told : option_map meanings.Typed (there (Some it.ty)) ≡ Some (meanings.Typed local_is.ty) = ap (λ o. option_map meanings.Typed (there o)) (sym it.typed) ∙ local_is.means in
          let ty : it.ty ≡ Some local_is.ty = typed_so it.ty local_is.ty told in
          let same : local_is.ty ≡ v.ty = sym (ap (λ (w : Var). w.ty) it.is ∙ ap type_or_flag ty) in
          let here : at ≡ v.at = sym (ap (λ (w : Var). w.at) it.is) in
          let tree : tree_of nodes (record { 0 = first + x }) ≡ named_by at local_is.ty (local x) = node.tree_is ∙ ap (variable_tree at (variables.Local (record { 0 = x }))) local_is.means in
          record {
            there = node.there;
            tree = tree ∙ (ap (λ t. named_by at t (local x)) same ∙ ap (λ place. named_by place v.ty (local x)) here);
            placed = place_of_read nodes (record { 0 = first + x }) at built node.there (ap read_of tree ∙ local_read at local_is.ty x local_is.may) ∙ here;
            typed = node.typed ∙ (ap type_meant local_is.means ∙ same);
          }

  locals_from : (n : ℕ) (es : List ExprId) (ms : List NamedMethod) → ((i : ℕ) (m : NamedMethod) → slice_get ms i ≡ Some m → slice_get (named_package q).methods (n + i) ≡ Some (made m))
      → MethodsHaveNodes (named_package q) nodes es (map made ms) → HaveLocals nodes es (map (declared_method q) ms)
  locals_from n [] [] of h = tt
  locals_from n [] (m ∷ ms) of h = absurd h
  locals_from n (e ∷ es) [] of h = absurd h
  locals_from n (e ∷ es) (m ∷ ms) of h = (
    local_stands (n + 0) m (of 0 m refl) e.0 h.0,
    locals_from (n + 1) es ms (λ i k is. let moved : n + suc i ≡ n + 1 + i = omega arith in ap (slice_get (named_package q).methods) (sym moved) ∙ of (suc i) k is) h.1,
  )

  methods_are : (named_package q).methods ≡ map made q.methods
  unfolding named_package
  methods_are = refl

  pub locals_stand : (es : List ExprId) → nodes.methods ≡ map (declared_method q) q.methods → MethodsHaveNodes (named_package q) nodes es (named_package q).methods → HaveLocals nodes es nodes.methods
  locals_stand es declared h =
      let P : List NamedMethodTree → Type 0 = λ ms. MethodsHaveNodes (named_package q) nodes es ms in
      let Q : List Method → Type 0 = λ ms. HaveLocals nodes es ms in
      subst Q (sym declared)
      (locals_from 0 es q.methods (λ i m is. let plain : i ≡ 0 + i = omega arith in
      ap (slice_get (named_package q).methods) (sym plain) ∙ (ap (λ ms. slice_get ms i) methods_are ∙ (slice_get-map made q.methods i ∙ ap (option_map made) is))) (subst P methods_are h))
