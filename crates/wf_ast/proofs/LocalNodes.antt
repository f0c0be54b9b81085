-- The expressions that are the locals of a method.
use Rattle.std.proofs.Common.{◌≡◌, ℕ, zero, suc, ◌+◌, ◌<◌, ◌^◌, Fits, w32, List, [], ◌∷◌, length, Option, None, Some, refl, ap, ◌∙◌, subst, arith}
use Rattle.std.specs.Prelude.{slice_get, slice_index_or, IfSome}
use Rattle.wf_ast.specs.declared.numbers.ExprId.{ExprId}
use Rattle.wf_ast.specs.declared.declarations.Method.{Method}
use Rattle.wf_ast.specs.declared.declarations.Var.{Var}
use Rattle.wf_ast.specs.declared.typed_nodes.TypedNodes.{TypedNodes}
use Rattle.wf_ast.specs.TypedInvariant.{IsTyped, IsLocal, HasLocals, HaveLocals}
use Rattle.wf_ast.proofs.Accessors.{lent, there}

-- As many lists of locals as methods.
pub locals_long : (nodes : TypedNodes) (es : List ExprId) (ms : List Method) → HaveLocals nodes es ms → length es ≡ length ms
locals_long nodes [] [] h = omega arith
locals_long nodes [] (m ∷ ms) h = absurd h
locals_long nodes (e ∷ es) [] h = absurd h
locals_long nodes (e ∷ es) (m ∷ ms) h = let k = locals_long nodes es ms h.1 in omega (arith, k)

pub locals_at : (nodes : TypedNodes) (es : List ExprId) (ms : List Method) (i : ℕ) (e : ExprId) (m : Method) → HaveLocals nodes es ms → slice_get es i ≡ Some e → slice_get ms i ≡ Some m
    → HasLocals nodes e.0 m
locals_at nodes [] ms i e m h a b = absurd (cc a)
locals_at nodes (x ∷ es) [] i e m h a b = absurd h
locals_at nodes (x ∷ es) (y ∷ ms) zero e m h a b =
    let P : ExprId → Type 0 = λ k. HasLocals nodes k.0 m in
    let Q : Method → Type 0 = λ k. HasLocals nodes x.0 k in
    let same : x ≡ e = cc a in
    let alike : y ≡ m = cc b in
    subst P same (subst Q alike h.0)
locals_at nodes (x ∷ es) (y ∷ ms) (suc i) e m h a b = locals_at nodes es ms i e m h.1 a b

module _ (inner nodes : TypedNodes) (same : inner ≡ nodes) (typed : IsTyped inner) (firsts : List ExprId) (is : firsts ≡ inner.first_locals) (m x : ℕ) (low : m < length nodes.methods) where
  stand : HaveLocals nodes nodes.first_locals nodes.methods
  stand = let P : TypedNodes → Type 0 = λ n. HaveLocals n n.first_locals n.methods in subst P same typed.locals_stand

  first_there : m < length nodes.first_locals
  first_there = let k = locals_long nodes nodes.first_locals nodes.methods stand in omega (arith, k, low)

  abbrev first : ExprId
  first = slice_index_or firsts m (record { 0 = 0 })

  all_firsts : firsts ≡ nodes.first_locals
  all_firsts = is ∙ ap (λ (n : TypedNodes). n.first_locals) same

  pub firsts_there : m < length firsts
  firsts_there = let l = ap length all_firsts in let k = first_there in omega (arith, k, l)

  pub local_stands : (method : Method) (v : Var) → slice_get nodes.methods m ≡ Some method → slice_get method.locals x ≡ Some v → IsLocal nodes (first.0 + x) x v
  local_stands method v a b =
      (locals_at nodes nodes.first_locals nodes.methods m first method stand (lent firsts nodes.first_locals m (record { 0 = 0 }) all_firsts first_there) a).each x v b

  pub local_there : IfSome (slice_get nodes.methods m) (λ method. x < length method.locals) → first.0 + x < length nodes.exprs
  local_there h =
      let it = there nodes.methods m low in
      let inside : x < length it.0.locals = subst (λ o. IfSome o (λ (method : Method). x < length method.locals)) it.1 h in
      let v = there it.0.locals x inside in
      (local_stands it.0 v.0 it.1 v.1).there

  pub local_numbered : IfSome (slice_get nodes.methods m) (λ method. x < length method.locals) → Fits w32 (first.0 + x)
  local_numbered h =
      let inside = local_there h in
      let few = subst (λ (n : TypedNodes). length n.exprs < 2 ^ 32) same typed.few_exprs in
      omega (arith, inside, few)

  pub local_is : IfSome (slice_get nodes.methods m) (λ method. IfSome (slice_get method.locals x) (λ v. IsLocal nodes (first.0 + x) x v))
  local_is = by_method (slice_get nodes.methods m) refl
    where
      by_local : (method : Method) → slice_get nodes.methods m ≡ Some method → (o : Option Var) → slice_get method.locals x ≡ o → IfSome o (λ v. IsLocal nodes (first.0 + x) x v)
      by_local method a None b = tt
      by_local method a (Some v) b = local_stands method v a b

      by_method : (o : Option Method) → slice_get nodes.methods m ≡ o → IfSome o (λ method. IfSome (slice_get method.locals x) (λ v. IsLocal nodes (first.0 + x) x v))
      by_method None a = tt
      by_method (Some method) a = by_local method a (slice_get method.locals x) refl
