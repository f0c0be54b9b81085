-- Variables that are made one by one, and what keeps while nodes are added.
use Rattle.std.proofs.Common.{◌≡◌, ◌+◌, ◌<◌, ◌≤◌, ℕ, List, [], ◌∷◌, ◌++◌, Option, Some, None, length, map, option_map, drop, slice_index_or, refl, sym, ap, ◌∙◌, subst, arith, append_assoc, append-nil}
use Rattle.std.proofs.lemmas.List.{map-append}
use Rattle.std.specs.List.{AllByRecursion}
use Rattle.wf_text.specs.declared.place.Place.{Place}
use Rattle.wf_ast.specs.declared.numbers.StmtId.{StmtId}
use Rattle.wf_ast.specs.declared.parsed.Bounds.{Bounds}
use Rattle.wf_ast.specs.declared.parsed.Field.{Field}
use Rattle.wf_ast.specs.ParsedTree.{ExprTree, StmtTree}
use Rattle.wf_ast.specs.ParsedTrees as parsed
use Rattle.wf_ast.specs.ParsedParts.{BoundsBelow}
use Rattle.wf_ast.proofs.TreeLemmas.{all_map, IsBelow-more}
use Rattle.wf_named.specs.declared.declarations.NamedVar.{NamedVar}
use Rattle.wf_named.specs.declared.nodes.NamedType.{NamedType}
use Rattle.wf_named.specs.NamedTree.{Word, ConstTree, NamedStructTree, NamedMethodTree, NamedPackageTree}
use Rattle.wf_named.specs.NamedTrees.{type_at, var_made}
use Rattle.wf_named.specs.NamedParts.{NamedParts, exprs_of, NamedTypeBelow, NamedVarBelow, NamedResultBelow}
use Rattle.wf_named.proofs.PackageLemmas.{vars_made-same, var_made-same, result_made-same}
use Rattle.wf_names_rules.specs.Declarations.{Variable, variables, local_of, locals_of}
use Rattle.wf_names_rules.proofs.WalkLemmas.{drop-one}
use Rattle.wf_names_resolve.specs.Standing.{Standing}
use Rattle.wf_names_resolve.specs.Package.{resolved_variable}
use Rattle.wf_names_resolve.specs.Growth.{Grows}
use Rattle.wf_names_resolve.proofs.Growth.{grows_self, grows_more}
use Rattle.wf_names_resolve.proofs.ResolveLemmas.{all_append, prefixes_below}
use Rattle.wf_names_nodes.specs.Declaring.{with_consts, with_statuses, with_structs, with_methods}

-- Numbers stay below those of more nodes.
bounds_below : (e f : ℕ) → e ≤ f → (b : Option Bounds) → BoundsBelow e b → BoundsBelow f b
bounds_below e f m None h = tt
bounds_below e f m (Some b) h = (IsBelow-more e f m b.low h.0, omega (arith, h.1, m))

pub type_below : (e f : ℕ) → e ≤ f → (t : NamedType) → NamedTypeBelow e t → NamedTypeBelow f t
type_below e f m t h = (prefixes_below e f m t.prefixes h.0, bounds_below e f m t.bounds h.1)

pub result_below : (e f : ℕ) → e ≤ f → (r : Option NamedType) → NamedResultBelow e r → NamedResultBelow f r
result_below e f m None h = tt
result_below e f m (Some t) h = type_below e f m t h

module _ (p q : NamedParts) (g : Grows p q) where
  pub variable_below : (v : NamedVar) → NamedVarBelow (length p.texts) (length p.exprs) v → NamedVarBelow (length q.texts) (length q.exprs) v
  variable_below v h = (omega (arith, h.0, g.texts), type_below (length p.exprs) (length q.exprs) g.exprs v.of h.1)

  pub variables_below : (vs : List NamedVar) → AllByRecursion (NamedVarBelow (length p.texts) (length p.exprs)) vs → AllByRecursion (NamedVarBelow (length q.texts) (length q.exprs)) vs
  variables_below vs h = all_map (NamedVarBelow (length p.texts) (length p.exprs)) (NamedVarBelow (length q.texts) (length q.exprs)) variable_below vs h

  pub variable_kept : (v : NamedVar) → NamedVarBelow (length p.texts) (length p.exprs) v → var_made q.texts (exprs_of q) v ≡ var_made p.texts (exprs_of p) v
  variable_kept v h = sym (var_made-same (length p.texts) (length p.exprs) p.texts q.texts (exprs_of p) (exprs_of q) g.same_texts g.same_exprs v h)

  pub variables_kept : (vs : List NamedVar) → AllByRecursion (NamedVarBelow (length p.texts) (length p.exprs)) vs
      → map (var_made q.texts (exprs_of q)) vs ≡ map (var_made p.texts (exprs_of p)) vs
  variables_kept vs h = sym (vars_made-same (length p.texts) (length p.exprs) p.texts q.texts (exprs_of p) (exprs_of q) g.same_texts g.same_exprs vs h)

  pub result_kept : (r : Option NamedType) → NamedResultBelow (length p.exprs) r → option_map (type_at (exprs_of q)) r ≡ option_map (type_at (exprs_of p)) r
  result_kept r h = sym (result_made-same (length p.texts) (length p.exprs) p.texts q.texts (exprs_of p) (exprs_of q) g.same_texts g.same_exprs r h)

-- What a loop keeps over variables: those that are made and those that are left, `rest`, are the whole.
pub record VariablesMade (k : Standing) (rest whole : List Variable) (p q : NamedParts) (made : List NamedVar) : Type 0 where
  pub grows : Grows p q
  pub below : AllByRecursion (NamedVarBelow (length q.texts) (length q.exprs)) made
  pub trees : map (var_made q.texts (exprs_of q)) made ++ map (resolved_variable k) rest ≡ map (resolved_variable k) whole

pub variables_start : (k : Standing) (whole : List Variable) (p : NamedParts) (made : List NamedVar) → made ≡ [] → VariablesMade k whole whole p p made
variables_start k whole p made e =
    let P : List NamedVar → Type 0 = λ m. VariablesMade k whole whole p p m in
    let none : VariablesMade k whole whole p p [] = record { grows = grows_self p; below = tt; trees = refl } in
    subst P (sym e) none

module _ (k : Standing) (whole : List Variable) (p q r : NamedParts) (made : List NamedVar) where
  variables_added : (vs rest : List Variable) (more : List NamedVar) → VariablesMade k (vs ++ rest) whole p q made → Grows q r
      → AllByRecursion (NamedVarBelow (length r.texts) (length r.exprs)) more → map (var_made r.texts (exprs_of r)) more ≡ map (resolved_variable k) vs
      → VariablesMade k rest whole p r (made ++ more)
  variables_added vs rest more m g b is =
      let f = var_made r.texts (exprs_of r) in
      let one = resolved_variable k in
      let trees : map f (made ++ more) ++ map one rest ≡ map one whole =
      ap (λ xs. xs ++ map one rest) (map-append f made more)
      ∙ append_assoc (map f made) (map f more) (map one rest)
      ∙ ap (λ xs. map f made ++ (xs ++ map one rest)) is
      ∙ ap (λ xs. xs ++ (map one vs ++ map one rest)) (variables_kept q r g made m.below)
      ∙ ap (λ xs. map (var_made q.texts (exprs_of q)) made ++ xs) (sym (map-append one vs rest))
      ∙ m.trees in
      record {
        grows = grows_more p q r m.grows g;
        below = all_append (NamedVarBelow (length r.texts) (length r.exprs)) made more (variables_below q r g made m.below) b;
        trees = trees;
      }

  pub field_added : (es : List ExprTree) (fields : List Field) (i : ℕ) (x : Field) (one : NamedVar) → x ≡ slice_index_or fields i x → i < length fields
      → VariablesMade k (variables (parsed.fields_at es (drop i fields))) whole p q made → Grows q r → NamedVarBelow (length r.texts) (length r.exprs) one
      → var_made r.texts (exprs_of r) one ≡ resolved_variable k (record { name = x.name; of = parsed.type_at es x.of })
      → VariablesMade k (variables (parsed.fields_at es (drop (i + 1) fields))) whole p r (made ++ one ∷ [])
  field_added es fields i x one item h m g b is =
      let split : drop i fields ≡ x ∷ drop (i + 1) fields = drop-one fields i x h ∙ ap (λ y. y ∷ drop (i + 1) fields) (sym item) in
      let P : List Field → Type 0 = λ fs. VariablesMade k (variables (parsed.fields_at es fs)) whole p q made in
      let v : Variable = record { name = x.name; of = parsed.type_at es x.of } in
      variables_added (v ∷ []) (variables (parsed.fields_at es (drop (i + 1) fields))) (one ∷ []) (subst P split m) g (b, tt) (ap (λ t. t ∷ []) is)

  pub local_added : (ts : List StmtTree) (items : List StmtId) (close : Place) (i : ℕ) (d : StmtId) (more : List NamedVar) → i < length items
      → VariablesMade k (locals_of (parsed.items_at ts (drop i items) close)) whole p q made → Grows q r → AllByRecursion (NamedVarBelow (length r.texts) (length r.exprs)) more
      → map (var_made r.texts (exprs_of r)) more ≡ map (resolved_variable k) (local_of (parsed.stmt_at ts (slice_index_or items i d)))
      → VariablesMade k (locals_of (parsed.items_at ts (drop (i + 1) items) close)) whole p r (made ++ more)
  local_added ts items close i d more h m g b is =
      let P : List StmtId → Type 0 = λ ss. VariablesMade k (locals_of (parsed.items_at ts ss close)) whole p q made in
      variables_added (local_of (parsed.stmt_at ts (slice_index_or items i d))) (locals_of (parsed.items_at ts (drop (i + 1) items) close)) more (subst P (drop-one items i d h) m) g b is

-- After the last there is nothing to make.
pub variables_all_made : (k : Standing) (rest whole : List Variable) (p q : NamedParts) (made : List NamedVar) → rest ≡ [] → VariablesMade k rest whole p q made
    → map (var_made q.texts (exprs_of q)) made ≡ map (resolved_variable k) whole
variables_all_made k rest whole p q made e m =
    sym (append-nil (map (var_made q.texts (exprs_of q)) made)) ∙ sym (ap (λ vs. map (var_made q.texts (exprs_of q)) made ++ map (resolved_variable k) vs) e) ∙ m.trees

-- A declaration that is put after those of its kind.
module _ (old mid new : NamedPackageTree) where
  pub const_put : (x y : ConstTree) → new ≡ with_consts mid (x ∷ []) → mid ≡ old → x ≡ y → new ≡ with_consts old (y ∷ [])
  const_put x y e f g = e ∙ ap (λ t. with_consts t (x ∷ [])) f ∙ ap (λ z. with_consts old (z ∷ [])) g

  pub status_put : (x y : Word) → new ≡ with_statuses mid (x ∷ []) → mid ≡ old → x ≡ y → new ≡ with_statuses old (y ∷ [])
  status_put x y e f g = e ∙ ap (λ t. with_statuses t (x ∷ [])) f ∙ ap (λ z. with_statuses old (z ∷ [])) g

  pub struct_put : (x y : NamedStructTree) → new ≡ with_structs mid (x ∷ []) → mid ≡ old → x ≡ y → new ≡ with_structs old (y ∷ [])
  struct_put x y e f g = e ∙ ap (λ t. with_structs t (x ∷ [])) f ∙ ap (λ z. with_structs old (z ∷ [])) g

  pub method_put : (x y : NamedMethodTree) → new ≡ with_methods mid (x ∷ []) → mid ≡ old → x ≡ y → new ≡ with_methods old (y ∷ [])
  method_put x y e f g = e ∙ ap (λ t. with_methods t (x ∷ [])) f ∙ ap (λ z. with_methods old (z ∷ [])) g

-- Methods that are the same part by part.
pub method_same : (m n : NamedMethodTree) → m.name ≡ n.name → m.of ≡ n.of → m.public ≡ n.public → m.mark ≡ n.mark → m.args ≡ n.args → m.locals ≡ n.locals → m.gives ≡ n.gives → m.body ≡ n.body → m ≡ n
method_same m n a b c d e f g h = λ i. record { name = a i; of = b i; public = c i; mark = d i; args = e i; locals = f i; gives = g i; body = h i }
