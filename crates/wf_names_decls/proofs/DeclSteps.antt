-- Passes over the declarations of a package, one by one.
use Rattle.std.proofs.Common.{◌≡◌, ℕ, zero, suc, ◌+◌, ◌<◌, ◌≤◌, List, [], ◌∷◌, ◌++◌, fold, length, drop, map, slice_get, slice_index_or, Option, Some, Result, OnOk, refl, sym, ap, ◌∙◌, subst, arith}
use Rattle.wf_text.specs.declared.faults.NoMemory.{NoMemory}
use Rattle.wf_text.specs.declared.rules.Refusal.{Refusal}
use Rattle.wf_ast.specs.declared.parsed.DeclNode.{DeclNode}
use Rattle.wf_ast.specs.declared.parsed.Name.{Name}
use Rattle.wf_ast.specs.declared.parsed.ExprNode.{ExprNode}
use Rattle.wf_ast.specs.declared.parsed.StmtNode.{StmtNode}
use Rattle.wf_ast.specs.ParsedTree as tree
use Rattle.wf_ast.specs.ParsedTree.{DeclTree, ExprTree, StmtTree}
use Rattle.wf_ast.specs.declared.parsed.Field.{Field}
use Rattle.wf_ast.specs.ParsedTrees.{expr_trees, stmt_trees, decl_trees, decl_made, decls_made, fields_at}
use Rattle.std.proofs.lemmas.List.{append-nil, append_assoc}
use Rattle.wf_names_rules.specs.Declarations.{Method, Structure, declared, variables, methods_of, structs_of, constants_of, statuses_of}
use Rattle.wf_names_rules.specs.NameRules.{variable_names}
use Rattle.wf_names_decls.specs.declared.gathering.NameLists.{NameLists}
use Rattle.wf_names_decls.specs.Gathering.{field_names}
use Rattle.wf_names_decls.specs.NameLists.{AreNameLists, GrowBy}
use Rattle.wf_names_rules.proofs.WalkLemmas.{drop-one}

-- The trees of the declarations are made one by one.
pub trees-made : (exprs : List ExprNode) (stmts : List StmtNode) (decls : List DeclNode) → decl_trees exprs stmts decls ≡ decls_made (expr_trees exprs) (stmt_trees exprs stmts) decls
unfolding decl_trees
trees-made exprs stmts decls = refl

index-got : {X : Type 0} (xs : List X) (i : ℕ) (x : X) → slice_get xs i ≡ Some x → slice_index_or xs i x ≡ x
index-got [] i x e = absurd (cc e)
index-got (y ∷ ys) zero x e = cc e
index-got (y ∷ ys) (suc i) x e = index-got ys i x e

got-within : {X : Type 0} (xs : List X) (i : ℕ) (x : X) → slice_get xs i ≡ Some x → i < length xs
got-within [] i x e = absurd (cc e)
got-within (y ∷ ys) zero x e = omega arith
got-within (y ∷ ys) (suc i) x e = omega (arith, got-within ys i x e)

pub drop-got : {X : Type 0} (xs : List X) (i : ℕ) (x : X) → slice_get xs i ≡ Some x → drop i xs ≡ x ∷ drop (i + 1) xs
drop-got xs i x e = drop-one xs i x (got-within xs i x e) ∙ ap (λ y. y ∷ drop (i + 1) xs) (index-got xs i x e)

-- A pass over the methods, and over the structs, of a declaration and of those after it.
pub methods-step : {R : Type 0} (f : R → Method → R) (found next : R) (d : DeclTree) (ds : List DeclTree) → next ≡ fold f found (methods_of (d ∷ []))
    → fold f next (methods_of ds) ≡ fold f found (methods_of (d ∷ ds))
methods-step f found next (tree.status public text at) ds e = ap (λ r. fold f r (methods_of ds)) e
methods-step f found next (tree.constant public name of value at) ds e = ap (λ r. fold f r (methods_of ds)) e
methods-step f found next (tree.structure public name mark fields at) ds e = ap (λ r. fold f r (methods_of ds)) e
methods-step f found next (tree.method public owner name mark args result body at) ds e = ap (λ r. fold f r (methods_of ds)) e

pub structs-step : {R : Type 0} (f : R → Structure → R) (found next : R) (d : DeclTree) (ds : List DeclTree) → next ≡ fold f found (structs_of (d ∷ []))
    → fold f next (structs_of ds) ≡ fold f found (structs_of (d ∷ ds))
structs-step f found next (tree.status public text at) ds e = ap (λ r. fold f r (structs_of ds)) e
structs-step f found next (tree.constant public name of value at) ds e = ap (λ r. fold f r (structs_of ds)) e
structs-step f found next (tree.structure public name mark fields at) ds e = ap (λ r. fold f r (structs_of ds)) e
structs-step f found next (tree.method public owner name mark args result body at) ds e = ap (λ r. fold f r (structs_of ds)) e

module _ {R : Type 0} (es : List ExprTree) (ts : List StmtTree) (decls : List DeclNode) (i : ℕ) (x : DeclNode) (found next : R) where
  pub method_step : (f : R → Method → R) → slice_get decls i ≡ Some x → next ≡ fold f found (methods_of (decl_made es ts x.public x.decl x.at ∷ []))
      → fold f next (methods_of (decls_made es ts (drop (i + 1) decls))) ≡ fold f found (methods_of (decls_made es ts (drop i decls)))
  method_step f h e =
      methods-step f found next (decl_made es ts x.public x.decl x.at) (decls_made es ts (drop (i + 1) decls)) e
      ∙ sym (ap (λ xs. fold f found (methods_of (decls_made es ts xs))) (drop-got decls i x h))

  pub struct_step : (f : R → Structure → R) → slice_get decls i ≡ Some x → next ≡ fold f found (structs_of (decl_made es ts x.public x.decl x.at ∷ []))
      → fold f next (structs_of (decls_made es ts (drop (i + 1) decls))) ≡ fold f found (structs_of (decls_made es ts (drop i decls)))
  struct_step f h e =
      structs-step f found next (decl_made es ts x.public x.decl x.at) (decls_made es ts (drop (i + 1) decls)) e
      ∙ sym (ap (λ xs. fold f found (structs_of (decls_made es ts xs))) (drop-got decls i x h))

-- Names of a declaration, and of those after it.
statuses-split : (d : DeclTree) (ds : List DeclTree) → statuses_of (d ∷ ds) ≡ statuses_of (d ∷ []) ++ statuses_of ds
statuses-split (tree.status public text at) ds = refl
statuses-split (tree.constant public name of value at) ds = refl
statuses-split (tree.structure public name mark fields at) ds = refl
statuses-split (tree.method public owner name mark args result body at) ds = refl

abbrev constants_in : List DeclTree → List Name
constants_in ds = map (λ c. c.name) (constants_of ds)

abbrev structs_in : List DeclTree → List Name
structs_in ds = map (λ s. s.name) (structs_of ds)

abbrev method_names_in : List DeclTree → List Name
method_names_in ds = map (λ m. m.name) (methods_of ds)

abbrev owners_in : List DeclTree → List Name
owners_in ds = map (λ m. m.owner) (methods_of ds)

constants-split : (d : DeclTree) (ds : List DeclTree) → constants_in (d ∷ ds) ≡ constants_in (d ∷ []) ++ constants_in ds
constants-split (tree.status public text at) ds = refl
constants-split (tree.constant public name of value at) ds = refl
constants-split (tree.structure public name mark fields at) ds = refl
constants-split (tree.method public owner name mark args result body at) ds = refl

structs-split : (d : DeclTree) (ds : List DeclTree) → structs_in (d ∷ ds) ≡ structs_in (d ∷ []) ++ structs_in ds
structs-split (tree.status public text at) ds = refl
structs-split (tree.constant public name of value at) ds = refl
structs-split (tree.structure public name mark fields at) ds = refl
structs-split (tree.method public owner name mark args result body at) ds = refl

method-names-split : (d : DeclTree) (ds : List DeclTree) → method_names_in (d ∷ ds) ≡ method_names_in (d ∷ []) ++ method_names_in ds
method-names-split (tree.status public text at) ds = refl
method-names-split (tree.constant public name of value at) ds = refl
method-names-split (tree.structure public name mark fields at) ds = refl
method-names-split (tree.method public owner name mark args result body at) ds = refl

owners-split : (d : DeclTree) (ds : List DeclTree) → owners_in (d ∷ ds) ≡ owners_in (d ∷ []) ++ owners_in ds
owners-split (tree.status public text at) ds = refl
owners-split (tree.constant public name of value at) ds = refl
owners-split (tree.structure public name mark fields at) ds = refl
owners-split (tree.method public owner name mark args result body at) ds = refl

-- Names gathered from the declarations, one by one.
gather_step : {X : Type 0} (g : List DeclTree → List X) → ((d : DeclTree) (ds : List DeclTree) → g (d ∷ ds) ≡ g (d ∷ []) ++ g ds)
    → (es : List ExprTree) (ts : List StmtTree) (decls : List DeclNode) (i : ℕ) (x : DeclNode) → slice_get decls i ≡ Some x
    → (names next : List X) → next ≡ names ++ g (decl_made es ts x.public x.decl x.at ∷ [])
    → next ++ g (decls_made es ts (drop (i + 1) decls)) ≡ names ++ g (decls_made es ts (drop i decls))
gather_step g split es ts decls i x h names next e =
    let one = decl_made es ts x.public x.decl x.at in
    let rest = decls_made es ts (drop (i + 1) decls) in
    ap (λ n. n ++ g rest) e ∙ append_assoc names (g (one ∷ [])) (g rest) ∙ ap (λ y. names ++ y) (sym (split one rest))
    ∙ sym (ap (λ xs. names ++ g (decls_made es ts xs)) (drop-got decls i x h))

-- The lists of names, each with the names that are left, have all.
pub record GatherUpTo (left all : List DeclTree) (lists : NameLists) : Type 0 where
  pub statuses : lists.statuses.items ++ statuses_of left ≡ statuses_of all
  pub constants : lists.constants.items ++ constants_in left ≡ constants_in all
  pub structs : lists.structs.items ++ structs_in left ≡ structs_in all
  pub methods : lists.methods.items ++ method_names_in left ≡ method_names_in all
  pub owners : lists.owners.items ++ owners_in left ≡ owners_in all

pub gather-first : (texts : List (List ℕ)) (all : List DeclTree) (lists : NameLists) → AreNameLists (declared texts []) lists → GatherUpTo all all lists
gather-first texts all lists h = record {
  statuses = ap (λ names. names ++ statuses_of all) h.statuses;
  constants = ap (λ names. names ++ constants_in all) h.constants;
  structs = ap (λ names. names ++ structs_in all) h.structs;
  methods = ap (λ names. names ++ method_names_in all) h.methods;
  owners = ap (λ names. names ++ owners_in all) h.owners;
}

pub gather-next : (texts : List (List ℕ)) (es : List ExprTree) (ts : List StmtTree) (decls : List DeclNode) (i : ℕ) (x : DeclNode) (all : List DeclTree) (old new : NameLists) → slice_get decls i ≡ Some x
    → GrowBy (declared texts (decl_made es ts x.public x.decl x.at ∷ [])) old new → GatherUpTo (decls_made es ts (drop i decls)) all old → GatherUpTo (decls_made es ts (drop (i + 1) decls)) all new
gather-next texts es ts decls i x all old new at g h = record {
  statuses = gather_step statuses_of statuses-split es ts decls i x at old.statuses.items new.statuses.items g.statuses ∙ h.statuses;
  constants = gather_step constants_in constants-split es ts decls i x at old.constants.items new.constants.items g.constants ∙ h.constants;
  structs = gather_step structs_in structs-split es ts decls i x at old.structs.items new.structs.items g.structs ∙ h.structs;
  methods = gather_step method_names_in method-names-split es ts decls i x at old.methods.items new.methods.items g.methods ∙ h.methods;
  owners = gather_step owners_in owners-split es ts decls i x at old.owners.items new.owners.items g.owners ∙ h.owners;
}

-- After the last declaration.
pub drop-over : {X : Type 0} (xs : List X) (i : ℕ) → length xs ≤ i → drop i xs ≡ []
drop-over [] zero h = refl
drop-over [] (suc i) h = refl
drop-over (x ∷ xs) zero h = absurd (omega (arith, h))
drop-over (x ∷ xs) (suc i) h = drop-over xs i (omega (arith, h))

module _ {R : Type 0} (es : List ExprTree) (ts : List StmtTree) (decls : List DeclNode) (i : ℕ) (over : length decls ≤ i) (found r : R) where
  pub methods-end : (f : R → Method → R) → fold f found (methods_of (decls_made es ts (drop i decls))) ≡ r → found ≡ r
  methods-end f h = let P : List DeclNode → Type 0 = λ xs. fold f found (methods_of (decls_made es ts xs)) ≡ r in subst P (drop-over decls i over) h

  pub structs-end : (f : R → Structure → R) → fold f found (structs_of (decls_made es ts (drop i decls))) ≡ r → found ≡ r
  structs-end f h = let P : List DeclNode → Type 0 = λ xs. fold f found (structs_of (decls_made es ts xs)) ≡ r in subst P (drop-over decls i over) h

gather-end : {X : Type 0} (g : List DeclTree → List X) → g [] ≡ [] → (es : List ExprTree) (ts : List StmtTree) (decls : List DeclNode) (i : ℕ) → length decls ≤ i
    → (names : List X) → names ++ g (decls_made es ts (drop i decls)) ≡ g (decls_made es ts decls) → names ≡ g (decls_made es ts decls)
gather-end {X} g none es ts decls i over names h =
    let P : List DeclNode → Type 0 = λ xs. names ++ g (decls_made es ts xs) ≡ g (decls_made es ts decls) in
    sym (append-nil names) ∙ ap (λ y. names ++ y) (sym none) ∙ subst P (drop-over decls i over) h

-- What was gathered when the number is past all declarations.
pub gathered : (texts : List (List ℕ)) (exprs : List ExprNode) (stmts : List StmtNode) (decls : List DeclNode) (i : ℕ) → length decls ≤ i → (lists : NameLists)
    → GatherUpTo (decls_made (expr_trees exprs) (stmt_trees exprs stmts) (drop i decls)) (decls_made (expr_trees exprs) (stmt_trees exprs stmts) decls) lists
    → AreNameLists (declared texts (decl_trees exprs stmts decls)) lists
gathered texts exprs stmts decls i over lists h =
    let es = expr_trees exprs in
    let ts = stmt_trees exprs stmts in
    let P : List DeclTree → Type 0 = λ ds. AreNameLists (declared texts ds) lists in
    subst P (sym (trees-made exprs stmts decls)) (record {
      statuses = gather-end statuses_of refl es ts decls i over lists.statuses.items h.statuses;
      constants = gather-end constants_in refl es ts decls i over lists.constants.items h.constants;
      structs = gather-end structs_in refl es ts decls i over lists.structs.items h.structs;
      methods = gather-end method_names_in refl es ts decls i over lists.methods.items h.methods;
      owners = gather-end owners_in refl es ts decls i over lists.owners.items h.owners;
    })

-- The names of fields or arguments, by the nodes and by the trees.
pub fields-same : (es : List ExprTree) (fs : List Field) → variable_names (variables (fields_at es fs)) ≡ field_names fs
fields-same es [] = refl
fields-same es (f ∷ fs) = ap (λ names. f.name ∷ names) (fields-same es fs)

-- What is found is one refusal, and so another that is the same.
pub ok_same : {X : Type 0} (r : Result X NoMemory) (x s t : Option Refusal) → s ≡ t → OnOk r (x ≡ s) → OnOk r (x ≡ t)
ok_same r x s t e h = let P : Option Refusal → Type 0 = λ u. OnOk r (x ≡ u) in subst P e h
