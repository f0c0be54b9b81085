-- Walks over the uses of declarations, and what they judge.
use Rattle.std.proofs.Common.{◌≡◌, ℕ, ◌+◌, ◌<◌, ◌≤◌, List, [], ◌∷◌, ◌++◌, map, fold, length, drop, slice_get, slice_index_or, Option, Some, Result, Ok, Err, IfOk, refl, sym, ap, ◌∙◌, subst, append_assoc, append-nil, arith, zero, suc}
use Rattle.std.specs.List.{flat_map}
use Rattle.wf_text.specs.declared.faults.NoMemory.{NoMemory}
use Rattle.wf_text.specs.declared.rules.Refusal.{Refusal}
use Rattle.wf_ast.specs.declared.parsed.DeclNode.{DeclNode}
use Rattle.wf_ast.specs.declared.parsed.Field.{Field}
use Rattle.wf_ast.specs.ParsedParts.{Parsed}
use Rattle.wf_ast.specs.ParsedTree.{ExprTree, StmtTree, DeclTree}
use Rattle.wf_ast.specs.ParsedTrees.{expr_trees, stmt_trees, decl_made, decls_made, type_at, fields_at}
use Rattle.wf_names_rules.specs.declared.seen.Seen.{Seen}
use Rattle.wf_names_rules.specs.declared.tables.Tables.{Tables}
use Rattle.wf_names_rules.specs.declared.tables.Scope.{Scope as ScopeTables}
use Rattle.wf_names_rules.specs.Declarations.{Variable, Constant, Method, Declared, variables, as_variable, constants_of, structs_of, methods_of, declared_in}
use Rattle.wf_names_rules.specs.Uses.{Use, Scope, Site, sites_in, constant_scope, constant_sites, struct_sites, method_sites, type_uses, uses_of, variable_uses}
use Rattle.wf_names_rules.specs.Meanings.{Known, known_at}
use Rattle.wf_names_rules.specs.Tables.{known_by}
use Rattle.wf_names_rules.specs.Jumps.{method_labels, labels_found}
use Rattle.wf_names_rules.specs.Judged.{judged, walked, walked_one}
use Rattle.wf_names_rules.proofs.WalkLemmas.{walked-append, drop-one}
use Rattle.wf_names_scopes.specs.Agreeing.{TellsPackage, TellsScope}
use Rattle.wf_names_scopes.specs.Growing.{AreConstantsPassed}
use Rattle.wf_names_scopes.specs.UsesFound.{sites_judged, uses_found}
use Rattle.wf_names_scopes.proofs.AgreeLemmas.{agree_by, agree_same}
use Rattle.wf_names_scopes.proofs.PackageLemmas.{trees_made, constants_append, structs_append, methods_append}

-- Sites in two lists.
pub sites_judged-append : (d : Declared) (found : Option Refusal) (xs ys : List Site) → sites_judged d found (xs ++ ys) ≡ sites_judged d (sites_judged d found xs) ys
sites_judged-append d found [] ys = refl
sites_judged-append d found (x ∷ xs) ys = sites_judged-append d (judged (known_at d x.scope) found x.usage) xs ys

-- A walk finds the first refusal of the sites that it passes.
walked_sites : (d : Declared) (scope : Scope) (seen : Seen) (us : List Use) → (walked (known_at d scope) seen us).found ≡ sites_judged d seen.found (sites_in scope us)
walked_sites d scope seen [] = refl
walked_sites d scope seen (u ∷ us) = walked_sites d scope (walked_one (known_at d scope) seen u) us

-- So does a walk by tables that tell the package and the scope.
pub walk_judged : (p : Parsed) (t : Tables) (s : ScopeTables) (scope : Scope) (seen all : Seen) (us : List Use) → TellsPackage (declared_in p) t → TellsScope (declared_in p) scope s
    → all ≡ walked (known_by p.texts t s) seen us → all.found ≡ sites_judged (declared_in p) seen.found (sites_in scope us)
walk_judged p t s scope seen all us tells known e =
    ap (λ a. a.found) e ∙ ap (λ k. (walked k seen us).found) (agree_same (known_by p.texts t s) (known_at (declared_in p) scope) (agree_by (declared_in p) scope t s tells known))
    ∙ walked_sites (declared_in p) scope seen us

-- The types of fields.
pub field_walked : (k : Known) (es : List ExprTree) (seen next : Seen) (fields : List Field) (i : ℕ) (x : Field) → x ≡ slice_index_or fields i x → i < length fields
    → next ≡ walked k seen (type_uses (type_at es x.of))
    → walked k next (variable_uses (variables (fields_at es (drop (i + 1) fields)))) ≡ walked k seen (variable_uses (variables (fields_at es (drop i fields))))
field_walked k es seen next fields i x is h e =
    let rest = variable_uses (variables (fields_at es (drop (i + 1) fields))) in
    let split : drop i fields ≡ x ∷ drop (i + 1) fields = drop-one fields i x h ∙ ap (λ y. y ∷ drop (i + 1) fields) (sym is) in
    ap (λ s. walked k s rest) e ∙ sym (walked-append k seen (type_uses (type_at es x.of)) rest) ∙ sym (ap (λ fs. walked k seen (variable_uses (variables (fields_at es fs)))) split)

-- The declarations of a package.
pub drop_at : {X : Type 0} (xs : List X) (i : ℕ) (x : X) → slice_get xs i ≡ Some x → drop i xs ≡ x ∷ drop (i + 1) xs
drop_at [] i x e = absurd (cc e)
drop_at (y ∷ ys) zero x e = let same : y ≡ x = cc e in ap (λ z. z ∷ ys) same
drop_at {X} (y ∷ ys) (suc i) x e =
    let next : suc (i + 1) ≡ suc i + 1 = omega arith in
    let P : ℕ → Type 0 = λ j. drop i ys ≡ x ∷ drop j (y ∷ ys) in
    subst P next (drop_at ys i x e)

pub past_end : {X : Type 0} (xs : List X) (i : ℕ) → length xs ≤ i → drop i xs ≡ []
past_end [] zero h = refl
past_end [] (suc i) h = refl
past_end (x ∷ xs) zero h = absurd (omega (arith, h))
past_end (x ∷ xs) (suc i) h = past_end xs i (omega (arith, h))

-- Constants, each with those before it.
constant_sites-append : (known : List Variable) (xs ys : List Constant) → constant_sites known (xs ++ ys) ≡ constant_sites known xs ++ constant_sites (known ++ map as_variable xs) ys
constant_sites-append known [] ys = ap (λ k. constant_sites k ys) (sym (append-nil known))
constant_sites-append known (c ∷ xs) ys =
    let more = known ++ as_variable c ∷ [] in
    ap (λ r. sites_here ++ r) (constant_sites-append more xs ys)
    ∙ ap (λ k. sites_here ++ (constant_sites more xs ++ constant_sites k ys)) (append_assoc known (as_variable c ∷ []) (map as_variable xs))
    ∙ sym (append_assoc sites_here (constant_sites more xs) (constant_sites (known ++ map as_variable (c ∷ xs)) ys))
  where
    sites_here : List Site
    sites_here = sites_in (constant_scope known) (type_uses c.of ++ uses_of c.value)

map_append : {X Y : Type 0} (f : X → Y) (xs ys : List X) → map f (xs ++ ys) ≡ map f xs ++ map f ys
map_append f [] ys = refl
map_append f (x ∷ xs) ys = ap (λ r. f x ∷ r) (map_append f xs ys)

constants_passed : (d : Declared) (began found all : Option Refusal) (xs ys : List Constant) (old new : ScopeTables) → AreConstantsPassed d began found (xs ++ ys) old
    → ((known : List Variable) → TellsScope d (constant_scope known) old → all ≡ sites_judged d found (constant_sites known xs))
    → ((d : Declared) (known left : List Variable) → (known ++ map as_variable xs) ++ left ≡ map as_variable d.constants → TellsScope d (constant_scope known) old → TellsScope d (constant_scope (known ++ map as_variable xs)) new)
    → AreConstantsPassed d began all ys new
constants_passed d began found all xs ys old new a step tells =
    let known = a.known ++ map as_variable xs in
    let split : known ++ map as_variable ys ≡ map as_variable d.constants =
    append_assoc a.known (map as_variable xs) (map as_variable ys) ∙ ap (λ r. a.known ++ r) (sym (map_append as_variable xs ys)) ∙ a.split in record {
      known = known;
      tells = tells d a.known (map as_variable ys) split a.tells;
      split = split;
      same = ap (λ f. sites_judged d f (constant_sites known ys)) (step a.known a.tells) ∙ sym (sites_judged-append d found (constant_sites a.known xs) (constant_sites known ys))
          ∙ ap (λ s. sites_judged d found s) (sym (constant_sites-append a.known xs ys)) ∙ a.same;
    }

-- The trees of declarations from a place on.
module _ (es : List ExprTree) (ts : List StmtTree) (decls : List DeclNode) (i : ℕ) (n : DeclNode) (at : slice_get decls i ≡ Some n) where
  abbrev made : DeclTree
  made = decl_made es ts n.public n.decl n.at

  abbrev rest : List DeclTree
  rest = decls_made es ts (drop (i + 1) decls)

  from_here : decls_made es ts (drop i decls) ≡ made ∷ rest
  from_here = ap (decls_made es ts) (drop_at decls i n at)

  pub constants_next : (d : Declared) (began found all : Option Refusal) (old new : ScopeTables) → AreConstantsPassed d began found (constants_of (decls_made es ts (drop i decls))) old
      → ((known : List Variable) → TellsScope d (constant_scope known) old → all ≡ sites_judged d found (constant_sites known (constants_of (made ∷ []))))
      → ((d : Declared) (known left : List Variable) → (known ++ map as_variable (constants_of (made ∷ []))) ++ left ≡ map as_variable d.constants → TellsScope d (constant_scope known) old
      → TellsScope d (constant_scope (known ++ map as_variable (constants_of (made ∷ [])))) new)
      → AreConstantsPassed d began all (constants_of rest) new
  constants_next d began found all old new a step tells =
      let P : List Constant → Type 0 = λ cs. AreConstantsPassed d began found cs old in
      constants_passed d began found all (constants_of (made ∷ [])) (constants_of rest) old new (subst P (ap constants_of from_here ∙ constants_append (made ∷ []) rest) a) step tells

  flat_append : {X : Type 0} (f : X → List Site) (xs ys : List X) → flat_map f (xs ++ ys) ≡ flat_map f xs ++ flat_map f ys
  flat_append f [] ys = refl
  flat_append f (x ∷ xs) ys = ap (λ r. f x ++ r) (flat_append f xs ys) ∙ sym (append_assoc (f x) (flat_map f xs) (flat_map f ys))

  pub structs_next : (d : Declared) (found all : Option Refusal) → all ≡ sites_judged d found (flat_map (struct_sites d) (structs_of (made ∷ [])))
      → sites_judged d all (flat_map (struct_sites d) (structs_of rest)) ≡ sites_judged d found (flat_map (struct_sites d) (structs_of (decls_made es ts (drop i decls))))
  structs_next d found all e =
      let first = flat_map (struct_sites d) (structs_of (made ∷ [])) in
      let others = flat_map (struct_sites d) (structs_of rest) in
      ap (λ f. sites_judged d f others) e ∙ sym (sites_judged-append d found first others)
      ∙ ap (λ s. sites_judged d found s) (sym (ap (λ ds. flat_map (struct_sites d) ds) (ap structs_of from_here ∙ structs_append (made ∷ []) rest) ∙ flat_append (struct_sites d) (structs_of (made ∷ [])) (structs_of rest)))

  pub methods_next : (d : Declared) (found all : Option Refusal) → all ≡ sites_judged d found (flat_map (method_sites d) (methods_of (made ∷ [])))
      → sites_judged d all (flat_map (method_sites d) (methods_of rest)) ≡ sites_judged d found (flat_map (method_sites d) (methods_of (decls_made es ts (drop i decls))))
  methods_next d found all e =
      let first = flat_map (method_sites d) (methods_of (made ∷ [])) in
      let others = flat_map (method_sites d) (methods_of rest) in
      ap (λ f. sites_judged d f others) e ∙ sym (sites_judged-append d found first others)
      ∙ ap (λ s. sites_judged d found s) (sym (ap (λ ds. flat_map (method_sites d) ds) (ap methods_of from_here ∙ methods_append (made ∷ []) rest) ∙ flat_append (method_sites d) (methods_of (made ∷ [])) (methods_of rest)))

  fold_append : {R X : Type 0} (f : R → X → R) (r : R) (xs ys : List X) → fold f r (xs ++ ys) ≡ fold f (fold f r xs) ys
  fold_append f r [] ys = refl
  fold_append f r (x ∷ xs) ys = fold_append f (f r x) xs ys

  pub labels_next : (texts : List (List ℕ)) (found all : Option Refusal) → all ≡ fold (method_labels texts) found (methods_of (made ∷ []))
      → fold (method_labels texts) all (methods_of rest) ≡ fold (method_labels texts) found (methods_of (decls_made es ts (drop i decls)))
  labels_next texts found all e =
      let f = method_labels texts in
      ap (λ r. fold f r (methods_of rest)) e ∙ sym (fold_append f found (methods_of (made ∷ [])) (methods_of rest))
      ∙ sym (ap (fold f found) (ap methods_of from_here ∙ methods_append (made ∷ []) rest))

-- Where the walk over the declarations begins and ends.
pub constants_begun : (p : Parsed) (found : Option Refusal) (t : ScopeTables) → TellsScope (declared_in p) (constant_scope []) t
    → AreConstantsPassed (declared_in p) found found (constants_of (decls_made (expr_trees p.exprs) (stmt_trees p.exprs p.stmts) p.decls)) t
constants_begun p found t h =
    let P : List DeclTree → Type 0 = λ ds. AreConstantsPassed (declared_in p) found found (constants_of ds) t in
    subst P (trees_made p) (record { known = []; tells = h; split = refl; same = refl })

pub structs_begun : (p : Parsed) (found : Option Refusal)
    → sites_judged (declared_in p) found (flat_map (struct_sites (declared_in p)) (structs_of (decls_made (expr_trees p.exprs) (stmt_trees p.exprs p.stmts) p.decls)))
    ≡ sites_judged (declared_in p) found (flat_map (struct_sites (declared_in p)) (declared_in p).structs)
structs_begun p found = ap (λ ds. sites_judged (declared_in p) found (flat_map (struct_sites (declared_in p)) (structs_of ds))) (sym (trees_made p))

pub methods_begun : (p : Parsed) (found : Option Refusal)
    → sites_judged (declared_in p) found (flat_map (method_sites (declared_in p)) (methods_of (decls_made (expr_trees p.exprs) (stmt_trees p.exprs p.stmts) p.decls)))
    ≡ sites_judged (declared_in p) found (flat_map (method_sites (declared_in p)) (declared_in p).methods)
methods_begun p found = ap (λ ds. sites_judged (declared_in p) found (flat_map (method_sites (declared_in p)) (methods_of ds))) (sym (trees_made p))

pub labels_begun : (p : Parsed) (found : Option Refusal)
    → fold (method_labels p.texts) found (methods_of (decls_made (expr_trees p.exprs) (stmt_trees p.exprs p.stmts) p.decls)) ≡ labels_found (declared_in p) found
labels_begun p found = ap (λ ds. fold (method_labels p.texts) found (methods_of ds)) (sym (trees_made p))

-- A declaration that is a constant, and one that isn't.
pub constant_alone : (d : Declared) (found all : Option Refusal) (known : List Variable) (c : Constant)
    → all ≡ sites_judged d found (sites_in (constant_scope known) (type_uses c.of ++ uses_of c.value)) → all ≡ sites_judged d found (constant_sites known (c ∷ []))
constant_alone d found all known c e = e ∙ ap (λ s. sites_judged d found s) (sym (append-nil (sites_in (constant_scope known) (type_uses c.of ++ uses_of c.value))))

pub no_constant : (t : ScopeTables) (d : Declared) (known left : List Variable) → (known ++ []) ++ left ≡ map as_variable d.constants → TellsScope d (constant_scope known) t → TellsScope d (constant_scope (known ++ [])) t
no_constant t d known left split h =
    let P : List Variable → Type 0 = λ vs. TellsScope d (constant_scope vs) t in
    subst P (sym (append-nil known)) h

pub method_alone : (d : Declared) (found all : Option Refusal) (m : Method) → all ≡ sites_judged d found (method_sites d m) → all ≡ sites_judged d found (flat_map (method_sites d) (m ∷ []))
method_alone d found all m e = e ∙ ap (λ x. sites_judged d found x) (sym (append-nil (method_sites d m)))

-- The whole walk: constants, structs, methods.
pub whole_walk : (d : Declared) (found first second third : Option Refusal) → first ≡ sites_judged d found (constant_sites [] d.constants) → second ≡ sites_judged d first (flat_map (struct_sites d) d.structs)
    → third ≡ sites_judged d second (flat_map (method_sites d) d.methods) → third ≡ uses_found d found
whole_walk d found first second third a b c =
    let constants = constant_sites [] d.constants in
    let structs = flat_map (struct_sites d) d.structs in
    let methods = flat_map (method_sites d) d.methods in
    c ∙ ap (λ f. sites_judged d f methods) (b ∙ ap (λ f. sites_judged d f structs) a) ∙ sym (sites_judged-append d (sites_judged d found constants) structs methods)
    ∙ sym (sites_judged-append d found constants (structs ++ methods))

pub if_ok : {X : Type 0} (P Q : X → Type 0) (r : Result X NoMemory) → ((x : X) → P x → Q x) → IfOk r P → IfOk r Q
if_ok P Q (Ok x) f h = f x h
if_ok P Q (Err e) f h = h
